-- Operands over the table: a text by what it is written as, an array or object part by part.
-- Assumes nothing.
use Rattle.std.specs.Prelude.{Result as Fallible}
use mathlib.Core.Bool.{Bool}
use mathlib.Core.List.{List, [], ◌∷◌}
use mathlib.Core.Logic.{inl, inr, ◌⊎◌, ⊎_elim}
use Rattle.std.specs.Prelude.{Some, Option, None, Ok, Err}
use mathlib.Core.Path.{ap, refl, subst, ◌∙◌, ◌≡◌}
use Prim.Native.Nat.{ℕ, ◌<◌, ◌≤◌}
use native.Mathlib.Omega.{arith}
use denote.Enum.Declared.{tag_of}
use lib.ListN.{length}
use types.Run.{OneOf, miss}
use Rattle.json_text.specs.Bytes.{Bytes}
use Rattle.json_text.specs.Held.{HasNode}
use Rattle.json_text.specs.Json.{text}
use Rattle.json_text.specs.Refusal.{Result, ok, refused, unknown_expression, ◌>>=◌}
use Rattle.json_text.specs.Spans.{text_at}
use Rattle.json_text.specs.Table.{kind_at, start_at}
use Rattle.members.specs.Condition.{Condition}
use Rattle.members.specs.Sheet.{Sheet}
use Rattle.paths.specs.Lazy as lazy
use Rattle.paths.specs.Lazy.{given, look, observe, operand, operand_text, touch}
use Rattle.paths.specs.Marks.{Observed, ResolvedAs, but_null, heard, missed, unless_null}
use Rattle.semantics.specs.Operand.{Resolved, escaped, expression, missing, plain, present, read_text}
use Rattle.paths.specs.Reached.{LookedAs, LookedFits, error_at, looked_of, value_kind}
use Rattle.paths.specs.Stored as stored
use Rattle.paths.specs.Stored.{Fits, HasKind, less_one, meant, table, tree}
use Rattle.paths.specs.Told.{Behind}
use Rattle.paths.specs.declared.operand.Kind.{Kind}
use Rattle.paths.specs.declared.operand.Kind.TheVariants as kinds
use Rattle.paths.specs.declared.operand.LookupError.{LookupError}
use Rattle.paths.specs.declared.operand.LookupError.TheVariants as lookups
use Rattle.paths.specs.declared.operand.Operand.{Operand}
use Rattle.paths.specs.declared.operand.EvalError.{EvalError}
use Rattle.paths.specs.declared.operand.EvalError.TheVariants as errors
use Rattle.resolving.proofs.Marking.{left_missed, left_none}
use Rattle.paths.proofs.Stands.{impossible}
use Rattle.paths.proofs.Trees.{Layer, a_false, a_null, a_number, a_text, a_true, an_array, an_object, layer, operand_at, text_row}
use Rattle.paths.specs.contracts.operand.Kind as KindT

-- an operand that is present leaves no mark
pub present_as :
    (quiet : Bool) {s : Bytes} {w : List ℕ} {o : Operand} {m : Result (Resolved lazy.Operand)} → stored.OperandAt s (table w) o →
    ok (present (stored.operand_of s (table w) o)) ≡ m → ResolvedAs quiet s w w (Ok (Some o)) m
present_as quiet {s} {w} f e = record { names = []; met = []; means = e; left = left_none s w; hears = (f, refl) }

-- any but a text or a whole
pub plain_value :
    (quiet : Bool) (sheet : Sheet Condition) (fs : lazy.Frames) {s : Bytes} {w : List ℕ} {n c : ℕ} {x : Kind} → HasNode s (table w) n →
    c ≡ kind_at (table w) n → (c ≡ 4 → ⊥) → (c ≡ 5 → ⊥) → (c ≡ 6 → ⊥) → x ≡ value_kind c →
    ResolvedAs quiet s w w (Ok (Some (record { node = n; depth = 0; kind = x }))) (operand sheet fs (tree s (table w) n))
unfolding operand meant Fits
plain_value quiet sheet fs {s} {w} {n} {c} {x} h e u v z q = rw q (go (layer s (table w) n h))
  where
    go : Layer s (table w) n → ResolvedAs quiet s w w (Ok (Some (record { node = n; depth = 0; kind = value_kind c }))) (operand sheet fs (tree s (table w) n))
    go (a_null k l) = rw (e, k, l) (present_as quiet (operand_at h (omega arith) tt) refl)
    go (a_true k l) = rw (e, k, l) (present_as quiet (operand_at h (omega arith) tt) refl)
    go (a_false k l) = rw (e, k, l) (present_as quiet (operand_at h (omega arith) tt) refl)
    go (a_number k l i) = rw (e, k, l) (present_as quiet (operand_at h (omega arith) (record { node = h; kind = k })) refl)
    go (a_text k l i) = absurd (u (e ∙ k))
    go (an_array k l i) = absurd (v (e ∙ k))
    go (an_object k l i) = absurd (z (e ∙ k))

null_or_not : (c : Kind) → (c ≡ kinds.Null) ⊎ (c ≡ kinds.Null → ⊥)
null_or_not kinds.Null = inl refl
null_or_not kinds.False = inr λ q. impossible (cc)
null_or_not kinds.True = inr λ q. impossible (cc)
null_or_not kinds.Number = inr λ q. impossible (cc)
null_or_not kinds.Text = inr λ q. impossible (cc)
null_or_not kinds.Less = inr λ q. impossible (cc)
null_or_not kinds.Array = inr λ q. impossible (cc)
null_or_not kinds.Object = inr λ q. impossible (cc)
null_or_not kinds.Listed = inr λ q. impossible (cc)
null_or_not kinds.Named = inr λ q. impossible (cc)

pub not_null_stays : (o : Operand) (c : Kind) → (c ≡ kinds.Null → ⊥) → unless_null o c ≡ Some o
not_null_stays o kinds.Null u = absurd (u refl)
not_null_stays o kinds.False u = refl
not_null_stays o kinds.True u = refl
not_null_stays o kinds.Number u = refl
not_null_stays o kinds.Text u = refl
not_null_stays o kinds.Less u = refl
not_null_stays o kinds.Array u = refl
not_null_stays o kinds.Object u = refl
not_null_stays o kinds.Listed u = refl
not_null_stays o kinds.Named u = refl

-- a text
module _ (quiet : Bool) (sheet : Sheet Condition) (fs : lazy.Frames) (s : Bytes) (w : List ℕ) (n : ℕ) (row : HasKind s (table w) n 4) where
  opened : operand sheet fs (tree s (table w) n) ≡ operand_text sheet fs (text_at s (start_at (table w) n))
  unfolding operand
  opened = ap (operand sheet fs) (text_row row).value

  pub text_plain : read_text (text_at s (start_at (table w) n)) ≡ plain →
      ResolvedAs quiet s w w (Ok (Some (record { node = n; depth = 0; kind = kinds.Text }))) (operand sheet fs (tree s (table w) n))
  unfolding operand_text meant Fits
  text_plain e = rw (opened, e, operand_text) (present_as quiet (operand_at row.node (omega arith) row) refl)

  pub text_escaped : {p : ℕ} → (read_text (text_at s (start_at (table w) n)) ≡ escaped (text_at s p)) × Behind s (start_at (table w) n) p →
      ResolvedAs quiet s w w (Ok (Some (record { node = n; depth = 0; kind = kinds.Less }))) (operand sheet fs (tree s (table w) n))
  unfolding operand_text meant Fits
  text_escaped {p} (e, b) =
      rw (opened, e, operand_text)
      (present_as quiet (operand_at row.node (omega arith) (row, (text_at s p, b.dollar)))
      (ap (λ (x : Bytes). ok (present (given (text (less_one x))))) b.dollar))

  module _ {e : Bytes} {d : ℕ} {r : Fallible (Option Operand) LookupError} (q : read_text (text_at s (start_at (table w) n)) ≡ expression e)
      (dollar : text_at s (start_at (table w) n) ≡ 36 ∷ e) (deep : length fs ≡ d)
      (l : LookedAs s (table w) e r (look sheet (touch sheet d) fs e)) where
    looked : operand sheet fs (tree s (table w) n) ≡ (looked_of s (table w) e r >>= λ g. ok (observe e g))
    unfolding operand_text
    looked = opened ∙ rw (q, operand_text, l.means, ← deep)

    text_unknown : r ≡ (Err lookups.Unknown) → ResolvedAs quiet s w w (Err (errors.UnknownExpression n)) (operand sheet fs (tree s (table w) n))
    unfolding looked_of
    text_unknown z = rw (looked, z) (record { names = []; met = []; means = ap (λ (b : Bytes). refused (unknown_expression b)) dollar; left = left_none s w; hears = row })

    text_no_id : r ≡ (Err lookups.NoId) → ResolvedAs quiet s w w (Err errors.NoId) (operand sheet fs (tree s (table w) n))
    unfolding looked_of
    text_no_id z = rw (looked, z) (record { names = []; met = []; means = refl; left = left_none s w; hears = tt })

    pub text_refused : (x : LookupError) → r ≡ Err x → {y : EvalError} → y ≡ error_at x n → ResolvedAs quiet s w w (Err y) (operand sheet fs (tree s (table w) n))
    text_refused lookups.Unknown z p = rw p (text_unknown z)
    text_refused lookups.NoId z p = rw p (text_no_id z)

    pub text_observed :
        {w' : List ℕ} {f x : Option Operand} → 16384 ≤ length w → n < 4096 → r ≡ Ok f → Observed quiet w w' f n x →
        ResolvedAs quiet s w w' (Ok x) (operand sheet fs (tree s (table w) n))
    unfolding looked_of observe LookedFits meant
    text_observed {w'} {f} {x} long small z v = go f refl
      where
        absent : but_null f ≡ None → (looked_of s (table w) e (Ok f) >>= λ g. ok (observe e g)) ≡ ok (missing ((36 ∷ e) ∷ [])) →
            ResolvedAs quiet s w w' (Ok x) (operand sheet fs (tree s (table w) n))
        absent k m =
            rw (looked, z, m, v.is ∙ k, v.missing (v.is ∙ k))
            (record {
              names = (36 ∷ e) ∷ [];
              met = heard quiet ((36 ∷ e) ∷ []);
              means = refl;
              left = left_missed s w n long small row quiet (36 ∷ e) dollar;
              hears = refl;
            })

        seen : (c : Kind) (o : Operand) → (c ≡ kinds.Null → ⊥) → ok (present (meant s (table w) o.node o.depth c)) ≡ ok (observe e (Some (meant s (table w) o.node o.depth c)))
        seen kinds.Null o u = absurd (u refl)
        seen kinds.False o u = refl
        seen kinds.True o u = refl
        seen kinds.Number o u = refl
        seen kinds.Text o u = refl
        seen kinds.Less o u = refl
        seen kinds.Array o u = refl
        seen kinds.Object o u = refl
        seen kinds.Listed o u = refl
        seen kinds.Named o u = refl

        there : (o : Operand) → f ≡ Some o → (o.kind ≡ kinds.Null → ⊥) → ResolvedAs quiet s w w' (Ok x) (operand sheet fs (tree s (table w) n))
        there o q u =
            let y : x ≡ Some o = v.is ∙ ap but_null q ∙ not_null_stays o o.kind u in
            rw (looked, z, q, y, v.present o y) (present_as quiet (subst (LookedFits s (table w)) (z ∙ ap Ok q) l.fits) (seen o.kind o u))

        null_here : (o : Operand) → o.kind ≡ kinds.Null → (looked_of s (table w) e (Ok (Some o)) >>= λ g. ok (observe e g)) ≡ ok (missing ((36 ∷ e) ∷ []))
        null_here o k = ap (λ (c : Kind). ok (observe e (Some (meant s (table w) o.node o.depth c)))) k

        go : (g : Option Operand) → f ≡ g → ResolvedAs quiet s w w' (Ok x) (operand sheet fs (tree s (table w) n))
        go None q = absent (ap but_null q) (rw q)
        go (Some o) q =
            ⊎_elim
            (λ k. absent (ap but_null q ∙ ap (unless_null o) k)
            (ap (λ (g : Option Operand). looked_of s (table w) e (Ok g) >>= λ g. ok (observe e g)) q ∙ null_here o k))
            (λ u. there o q u) (null_or_not o.kind)

-- a value of another kind than null is not null
abbrev pub not_null : List ℕ
not_null = 1 ∷ 2 ∷ 3 ∷ 4 ∷ 5 ∷ 6 ∷ 7 ∷ 8 ∷ 9 ∷ []

pub is_not_null : (x : Kind) → OneOf not_null (tag_of KindT.the_type x) → x ≡ kinds.Null → ⊥
is_not_null kinds.Null o = absurd (miss not_null 0 tt o)
is_not_null kinds.False o = λ q. impossible (cc)
is_not_null kinds.True o = λ q. impossible (cc)
is_not_null kinds.Number o = λ q. impossible (cc)
is_not_null kinds.Text o = λ q. impossible (cc)
is_not_null kinds.Less o = λ q. impossible (cc)
is_not_null kinds.Array o = λ q. impossible (cc)
is_not_null kinds.Object o = λ q. impossible (cc)
is_not_null kinds.Listed o = λ q. impossible (cc)
is_not_null kinds.Named o = λ q. impossible (cc)
