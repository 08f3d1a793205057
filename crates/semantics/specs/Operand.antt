-- Operands: a written value with its expressions resolved, or the names of those that are missing.
-- Assumes nothing.
use Rattle.std.specs.Prelude.{false, true, [], ◌∷◌, eqb}
use Rattle.std.specs.Prelude.{Option, None, Some}
use Rattle.semantics.specs.Expression.{Env, gives}
use Rattle.semantics.specs.Names.{Names, join_names, one_name}
use Rattle.semantics.specs.Semantics.{Semantics}
use Rattle.json_text.specs.Bytes.{Bytes}
use Rattle.json_text.specs.Json.{Members, Value, Values, array, bool, cons, empty, is_null, member, nil, null, number, object, text}
use Rattle.json_text.specs.Refusal.{Result, ok, ◌>>=◌}
use Rattle.members.specs.Sheet.{Sheet}

-- A written text is itself, a text less one `$`, or an expression.
pub data Written : Type 0 where
  plain : Written
  escaped : Bytes → Written
  expression : Bytes → Written

abbrev pub after_dollar : Bytes → Written
after_dollar [] = expression []
after_dollar (c ∷ s) = elim (eqb c 36) [ true ↦ escaped (c ∷ s) | false ↦ expression (c ∷ s) ]

abbrev pub read_text : Bytes → Written
read_text [] = plain
read_text (c ∷ s) = elim (eqb c 36) [ true ↦ after_dollar s | false ↦ plain ]

pub data Resolved (A : Type 0) : Type 0 where
  present : A → Resolved A
  missing : Names → Resolved A

-- a present whole has two present parts; all missing names are kept
abbrev pub both : {A B D : Type 0} → (A → B → D) → Resolved A → Resolved B → Resolved D
both f (present a) (present b) = present (f a b)
both f (present a) (missing ns) = missing ns
both f (missing ms) (present b) = missing ms
both f (missing ms) (missing ns) = missing (join_names ms ns)

-- a whole of one part
abbrev pub same : {A B : Type 0} → (A → B) → Resolved A → Resolved B
same f (present a) = present (f a)
same f (missing ns) = missing ns

-- nothing and null are missing
abbrev pub observed : Bytes → Option Value → Resolved Value
observed e None = missing (one_name (36 ∷ e))
observed e (Some v) = elim (is_null v) [ true ↦ missing (one_name (36 ∷ e)) | false ↦ present v ]

module _ (sem : Semantics) {C : Type 0} (sheet : Sheet C) where
  unfoldable pub resolve_text : Env → Bytes → Result (Resolved Value)
  unfolding gives
  resolve_text env s =
      elim
      (read_text s) [
        | plain ↦
            ok (present (text s))
        | escaped t ↦
            ok (present (text t))
        | expression e ↦
            (do
              g ← gives sem sheet env e
              ok (observed e g))
      ]

  -- every part is resolved, also behind a missing one; keys are never expressions
  unfoldable mutual
    unfolding resolve_text

    pub resolve : Env → Value → Result (Resolved Value)
    resolve env null = ok (present null)
    resolve env (bool b) = ok (present (bool b))
    resolve env (number s) = ok (present (number s))
    resolve env (text s) = resolve_text env s
    resolve env (array vs) = do
      r ← resolve_in env vs
      ok (same array r)
    resolve env (object ms) = do
      r ← resolve_of env ms
      ok (same object r)

    pub resolve_in : Env → Values → Result (Resolved Values)
    resolve_in env nil = ok (present nil)
    resolve_in env (cons v vs) = do
      r ← resolve env v
      rs ← resolve_in env vs
      ok (both cons r rs)

    pub resolve_of : Env → Members → Result (Resolved Members)
    resolve_of env empty = ok (present empty)
    resolve_of env (member k v ms) = do
      r ← resolve env v
      rs ← resolve_of env ms
      ok (both (member k) r rs)
