-- What a comparison of a row's kind with one of the eight says of its code.
-- Assumes nothing.
use mathlib.Core.Bool.{false, true}
use mathlib.Core.Path.{refl, sym, ◌∙◌, ◌≡◌}
use Prim.Native.Nat.{ℕ}
use lib.Dec.{eqb}
use borrow.Author.Tests.{eqb-false, eqb-true}
use denote.Enum.Bare.{sameb}
use denote.Enum.Declared.{tag_of}
use Rattle.strings.specs.Answers.{code_of}
use Rattle.strings.specs.contracts.rows.Kind.{the_type}
use Rattle.strings.specs.declared.rows.Kind.{Kind}
use Rattle.strings.specs.declared.rows.Kind.TheVariants as kinds

tag_is_code : (k : Kind) → tag_of the_type k ≡ code_of k
tag_is_code kinds.Null = refl
tag_is_code kinds.True = refl
tag_is_code kinds.False = refl
tag_is_code kinds.Number = refl
tag_is_code kinds.Text = refl
tag_is_code kinds.Array = refl
tag_is_code kinds.Object = refl
tag_is_code kinds.Free = refl

same_code : (k q : Kind) → sameb the_type k q ≡ eqb (code_of k) (code_of q)
same_code k q = rw (tag_is_code k, tag_is_code q)

pub is_kind : (k q : Kind) {n : ℕ} → code_of k ≡ n → true ≡ sameb the_type k q → n ≡ code_of q
is_kind k q e h = sym e ∙ eqb-true _ _ (sym (h ∙ same_code k q))

pub is_other : (k q : Kind) {n : ℕ} → code_of k ≡ n → false ≡ sameb the_type k q → n ≡ code_of q → ⊥
is_other k q e h i = eqb-false _ _ (sym (h ∙ same_code k q)) (e ∙ i)
