-- Evaluation without copies: an operand is a value as it stands, or a written array or object with the number of frames that it is read under.
-- Assumes nothing.
use mathlib.Core.List.{List, [], ◌∷◌}
use Rattle.std.specs.Prelude.{Option, None, Some}
use Rattle.std.specs.Prelude.{true, false, leb, length}
use Prim.Native.Nat.{ℕ, zero, suc}
use Rattle.semantics.specs.Expression.{parts, unbound}
use Rattle.semantics.specs.Operand.{Resolved, both, escaped, expression, missing, plain, present, read_text, same}
use Rattle.semantics.specs.Semantics.{kernel, member_step}
use Rattle.json_text.specs.Bytes.{Bytes, find}
use Rattle.json_text.specs.Json.{Members, Value, Values, array, bool, cons, empty, entries, is_null, member, nil, null, number, object, text}
use Rattle.json_text.specs.Refusal.{Result, ◌>>=◌, ok, refused, unknown_expression}
use Rattle.members.specs.Sheet.{Sheet}

pub data Operand : Type 0 where
  given : Value → Operand
  listed : ℕ → Values → Operand
  named : ℕ → Members → Operand

-- the binders in force, innermost first
abbrev pub Frames : Type 0
Frames = List (Bytes × Operand)

-- the outermost d of them
unfoldable pub outer : {A : Type 0} → ℕ → List A → List A
outer d [] = []
outer d (x ∷ xs) = elim (leb (suc (length xs)) d) [ true ↦ x ∷ xs | false ↦ outer d xs ]

unfoldable pub map_some : {A B : Type 0} → (A → B) → Option A → Option B
map_some f None = None
map_some f (Some a) = Some (f a)

unfoldable pub or_null : Result (Option Operand) → Operand
or_null (refused r) = given null
or_null (ok None) = given null
or_null (ok (Some o)) = o

-- an operand that is null is missing
unfoldable pub observe : Bytes → Option Operand → Resolved Operand
observe e None = missing ((36 ∷ e) ∷ [])
observe e (Some (given v)) = elim (is_null v) [ true ↦ missing ((36 ∷ e) ∷ []) | false ↦ present (given v) ]
observe e (Some (listed d vs)) = present (listed d vs)
observe e (Some (named d ms)) = present (named d ms)

module _ {C : Type 0} (sheet : Sheet C) where
  -- Expressions, over how a written part is read under frames.
  module _ (part : Frames → Value → Operand) where
    unfoldable pub step_from : Frames → Bytes → Operand → Option Operand
    unfolding map_some find outer
    step_from fs k (given v) = map_some given (member_step k v)
    step_from fs k (listed d vs) = None
    step_from fs k (named d ms) = map_some (part (outer d fs)) (find k (entries ms))

    unfoldable pub walk_from : Frames → List Bytes → Operand → Option Operand
    unfolding step_from
    walk_from fs [] o = Some o
    walk_from fs (k ∷ ks) o = elim (step_from fs k o) [ None ↦ None | Some p ↦ walk_from fs ks p ]

    -- a binder first, then the sheet
    unfoldable pub look_parts : Frames → Bytes → List Bytes → Result (Option Operand)
    unfolding walk_from find unbound map_some
    look_parts fs e [] = refused (unknown_expression (36 ∷ e))
    look_parts fs e (name ∷ path) =
        elim
        (find name fs) [
          | Some o ↦
              ok (walk_from fs path o)
          | None ↦
              (do
                g ← unbound kernel sheet e name path
                ok (map_some given g))
        ]

    unfoldable pub look : Frames → Bytes → Result (Option Operand)
    unfolding parts look_parts
    look fs e = look_parts fs e (parts e)

    unfoldable pub read_part : Frames → Value → Operand
    unfolding look or_null
    read_part fs null = given null
    read_part fs (bool b) = given (bool b)
    read_part fs (number s) = given (number s)
    read_part fs (text s) = elim (read_text s) [ plain ↦ given (text s) | escaped t ↦ given (text t) | expression e ↦ or_null (look fs e) ]
    read_part fs (array vs) = listed (length fs) vs
    read_part fs (object ms) = named (length fs) ms

  -- A part of a whole that was found present, touched under frames; its own parts stay untouched. The number falls from expression to expression.
  unfoldable pub touch : ℕ → Frames → Value → Operand
  unfolding read_part
  touch zero fs v = given null
  touch (suc n) fs v = read_part (touch n) fs v

  abbrev pub lookup : Frames → Bytes → Result (Option Operand)
  lookup fs e = look (touch (length fs)) fs e

  abbrev pub part_of : Frames → Value → Operand
  part_of fs v = touch (suc (length fs)) fs v

  -- Operands. All parts of a written array or object are looked at, and none is kept.
  unfoldable pub operand_text : Frames → Bytes → Result (Resolved Operand)
  unfolding look touch observe
  operand_text fs s =
      elim
      (read_text s) [
        | plain ↦
            ok (present (given (text s)))
        | escaped t ↦
            ok (present (given (text t)))
        | expression e ↦
            (do
              g ← lookup fs e
              ok (observe e g))
      ]

  unfoldable mutual
    unfolding operand_text

    pub operand : Frames → Value → Result (Resolved Operand)
    operand fs null = ok (present (given null))
    operand fs (bool b) = ok (present (given (bool b)))
    operand fs (number s) = ok (present (given (number s)))
    operand fs (text s) = operand_text fs s
    operand fs (array vs) = do
      r ← operand_in fs vs
      ok (same (λ _. listed (length fs) vs) r)
    operand fs (object ms) = do
      r ← operand_of fs ms
      ok (same (λ _. named (length fs) ms) r)

    pub operand_in : Frames → Values → Result (Resolved (Unit {0}))
    operand_in fs nil = ok (present tt)
    operand_in fs (cons v vs) = do
      r ← operand fs v
      rs ← operand_in fs vs
      ok (both (λ _ _. tt) r rs)

    pub operand_of : Frames → Members → Result (Resolved (Unit {0}))
    operand_of fs empty = ok (present tt)
    operand_of fs (member k v ms) = do
      r ← operand fs v
      rs ← operand_of fs ms
      ok (both (λ _ _. tt) r rs)
