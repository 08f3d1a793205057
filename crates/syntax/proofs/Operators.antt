-- An operator by its name in a table, row by row.
-- Assumes nothing.
use mathlib.Core.Bool.{Bool, false, true}
use mathlib.Core.List.{List, [], ◌∷◌}
use mathlib.Core.Path.{ap, subst, sym, ◌∙◌, ◌≡◌}
use Prim.Native.Nat.{ℕ, ◌+◌, ◌<◌}
use native.Mathlib.Numerals.{add-one}
use lib.ListN.{drop, get_or, length}
use lib.Seq.{drop-cons}
use Rattle.std.specs.Borrow.{Bor}
use Rattle.std.specs.Prelude.{None, Some}
use Rattle.json_text.specs.Bytes.{Bytes, find, same_bytes}
use Rattle.members.specs.Answers.{operator_of}
use Rattle.members.specs.Condition as conditions
use Rattle.members.specs.declared.told.Operator.{Operator}
use Rattle.syntax.specs.Names.{Names}

-- what a text finds in the names of the whole table, it finds in those of the rows that are left
abbrev pub Seeking : Bytes → List (Bor Bytes × Operator) → List (Bor Bytes × Operator) → Type 0
Seeking t whole rest =
    (named : List (Bytes × conditions.Operator)) → Names whole named →
    (left : List (Bytes × conditions.Operator)) × Names rest left × (find t named ≡ find t left)

pub row_here : {A : Type 0} (xs : List A) (i : ℕ) (d : A) → i < length xs → drop i xs ≡ get_or xs i d ∷ drop (i + 1) xs
row_here xs i d h = rw add-one (drop-cons xs i d h)

module _ (t : Bytes) (whole : List (Bor Bytes × Operator)) where
  pub row_found : {rest more : List (Bor Bytes × Operator)} {x : Bor Bytes × Operator} → rest ≡ x ∷ more → Seeking t whole rest → {b : Bool} → b ≡ true →
      b ≡ same_bytes t x.0.now → (named : List (Bytes × conditions.Operator)) → Names whole named → find t named ≡ Some (operator_of x.1)
  unfolding find
  row_found {rest} {more} {x} e l {b} i j named h = go (l named h).0 (subst (λ (xs : List (Bor Bytes × Operator)). Names xs (l named h).0) e (l named h).1) (l named h).2
    where
      go : (ys : List (Bytes × conditions.Operator)) → Names (x ∷ more) ys → find t named ≡ find t ys → find t named ≡ Some (operator_of x.1)
      go [] g q = absurd g
      go (y ∷ ys) g q =
          let z : same_bytes t y.0 ≡ true = ap (same_bytes t) (sym g.0) ∙ sym j ∙ i in
          q ∙ rw (z, find) (ap Some (sym g.1))

  pub row_passed : {rest more : List (Bor Bytes × Operator)} {x : Bor Bytes × Operator} → rest ≡ x ∷ more → Seeking t whole rest → {b : Bool} → b ≡ false →
      b ≡ same_bytes t x.0.now → Seeking t whole more
  unfolding find
  row_passed {rest} {more} {x} e l {b} i j named h = go (l named h).0 (subst (λ (xs : List (Bor Bytes × Operator)). Names xs (l named h).0) e (l named h).1) (l named h).2
    where
      go : (ys : List (Bytes × conditions.Operator)) → Names (x ∷ more) ys → find t named ≡ find t ys →
          (left : List (Bytes × conditions.Operator)) × Names more left × (find t named ≡ find t left)
      go [] g q = absurd g
      go (y ∷ ys) g q =
          let z : same_bytes t y.0 ≡ false = ap (same_bytes t) (sym g.0) ∙ sym j ∙ i in
          (ys, g.2, q ∙ rw (z, find))

  pub no_row : {rest : List (Bor Bytes × Operator)} → rest ≡ [] → Seeking t whole rest → (named : List (Bytes × conditions.Operator)) → Names whole named →
      find t named ≡ None
  unfolding find
  no_row e l named h = go (l named h).0 (subst (λ (xs : List (Bor Bytes × Operator)). Names xs (l named h).0) e (l named h).1) (l named h).2
    where
      go : (ys : List (Bytes × conditions.Operator)) → Names [] ys → find t named ≡ find t ys → find t named ≡ None
      go [] g q = q
      go (y ∷ ys) g q = absurd g
