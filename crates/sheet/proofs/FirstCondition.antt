-- A sheet that is refused with 10 or 11 is refused for the condition at fault in itself whose first byte is least.
-- Assumes nothing.
use mathlib.Core.Bool.{Bool, true}
use mathlib.Core.Logic.{inl, inr, ◌⊎◌}
use mathlib.Core.Path.{ap, refl, sym, ◌∙◌, ◌≡◌}
use Prim.Native.Nat.{ℕ}
use native.Mathlib.Omega.{arith}
use Rattle.json_text.proofs.Agree.{erased, json_erased}
use Rattle.json_text.proofs.FirstFault.{first_fault}
use Rattle.json_text.proofs.Laws.{bind_ok, bind_refused}
use Rattle.json_text.proofs.Sound.{json_sound}
use Rattle.json_text.specs.Bytes.{Bytes}
use Rattle.json_text.specs.Fault.{FirstFault, StandsAt}
use Rattle.json_text.specs.Json.{Value, entries, object}
use Rattle.json_text.specs.Limits.{max_number, tidy, tidy_of}
use Rattle.json_text.specs.Placing.{spanned}
use Rattle.json_text.specs.Refusal.{Refusal, Result, not_carried, ok, refused, wrong_shape, wrong_sheet, ◌>>=◌}
use Rattle.json_text.specs.Sorted.{sorted}
use Rattle.json_text.specs.Spans.{Fields, Node, Plain, arr, erase, erase_of, leaf, obj}
use Rattle.json_text.specs.Tally.{Tally}
use Rattle.members.proofs.First.{first_at_fault}
use Rattle.members.proofs.Nine.{OnlyNine, sheet_nine}
use Rattle.members.specs.Condition.{condition}
use Rattle.members.specs.First.{First, in_sheet}
use Rattle.members.specs.Kinds.{an_object, not_null}
use Rattle.members.specs.Sheet.{Sheet, a_sheet, checked, read_sheet, sound, written}
use Rattle.members.specs.Verdicts.{fault_of, is_ok}
use Rattle.sheet.proofs.SortedSheet.{sheet_sorted}

-- 10 or 11
abbrev pub OfCondition : Refusal → Type 0
OfCondition q = (q ≡ wrong_shape) ⊎ (q ≡ not_carried)

-- the sheet's tree with its places, and the condition that its refusal speaks of
pub record FirstCondition (s : Bytes) (q : Refusal) : Type 0 where
  pub start : ℕ
  pub end : ℕ
  pub members : Fields
  pub tree : spanned s ≡ ok (obj start end members)
  pub first : First s (in_sheet s members) q

-- none of 2 to 9
stands_not : {t : Tally} {c : ℕ} {q : Refusal} → StandsAt t c q → ¬ OfCondition q
stands_not (StandsAt.bracket h x y) (inl e) = let z : ◌≡◌ {A = ℕ} 0 1 = cc in omega arith
stands_not (StandsAt.bracket h x y) (inr e) = let z : ◌≡◌ {A = ℕ} 0 1 = cc in omega arith
stands_not (StandsAt.numeral h x y) (inl e) = let z : ◌≡◌ {A = ℕ} 0 1 = cc in omega arith
stands_not (StandsAt.numeral h x y) (inr e) = let z : ◌≡◌ {A = ℕ} 0 1 = cc in omega arith
stands_not (StandsAt.begins h x y) (inl e) = let z : ◌≡◌ {A = ℕ} 0 1 = cc in omega arith
stands_not (StandsAt.begins h x y) (inr e) = let z : ◌≡◌ {A = ℕ} 0 1 = cc in omega arith
stands_not (StandsAt.quote h x) (inl e) = let z : ◌≡◌ {A = ℕ} 0 1 = cc in omega arith
stands_not (StandsAt.quote h x) (inr e) = let z : ◌≡◌ {A = ℕ} 0 1 = cc in omega arith

reading_not : {s : Bytes} {q : Refusal} → FirstFault s q → ¬ OfCondition q
reading_not (FirstFault.long l) (inl e) = let z : ◌≡◌ {A = ℕ} 0 1 = cc in omega arith
reading_not (FirstFault.long l) (inr e) = let z : ◌≡◌ {A = ℕ} 0 1 = cc in omega arith
reading_not (FirstFault.undecoded l u) (inl e) = let z : ◌≡◌ {A = ℕ} 0 1 = cc in omega arith
reading_not (FirstFault.undecoded l u) (inr e) = let z : ◌≡◌ {A = ℕ} 0 1 = cc in omega arith
reading_not (FirstFault.unspelled l u n) (inl e) = let z : ◌≡◌ {A = ℕ} 0 1 = cc in omega arith
reading_not (FirstFault.unspelled l u n) (inr e) = let z : ◌≡◌ {A = ℕ} 0 1 = cc in omega arith
reading_not (FirstFault.past l u n) h = stands_not n.stands h

nine_not : {q : Refusal} → q ≡ wrong_sheet → ¬ OfCondition q
nine_not i (inl e) = let z : ◌≡◌ {A = ℕ} 0 1 = cc in omega arith
nine_not i (inr e) = let z : ◌≡◌ {A = ℕ} 0 1 = cc in omega arith

same : {A : Type 0} {q r : Refusal} → ◌≡◌ {A = Result A} (refused q) (refused r) → q ≡ r
same e = cc

module _ (s : Bytes) (q : Refusal) (ten : OfCondition q) where
  -- after 9
  judged : (a e : ℕ) (fs : Fields) → spanned s ≡ ok (obj a e fs) → tidy_of max_number (erase_of s fs) ≡ true →
      is_ok (a_sheet not_null (object (erase_of s fs))) ≡ true → (y : Result Bool) → sound (written (entries (erase_of s fs))) ≡ y →
      (y >>= λ b. a_sheet condition (sorted (object (erase_of s fs)))) ≡ refused q → FirstCondition s q
  unfolding sorted
  judged a e fs p u o (refused r) i j = record { start = a; end = e; members = fs; tree = p; first = first_at_fault s a e fs q p (i ∙ ap refused (same j)) }
  judged a e fs p u o (ok b) i j = absurd (let z : ◌≡◌ {A = ℕ} 0 1 = cc (sheet_sorted (erase_of s fs) u (ap fault_of i) o).1.whole in omega arith)

  nine_first :
      (t : Node) → spanned s ≡ ok t → tidy max_number (erase s t) ≡ true → (x : Result (Sheet Value)) → a_sheet not_null (erase s t) ≡ x →
      OnlyNine x →
      (x >>= λ z. an_object (erase s t) >>= λ ms. sound (written (entries ms)) >>= λ b. a_sheet condition (sorted (erase s t))) ≡ refused q →
      FirstCondition s q
  unfolding erase tidy
  nine_first t p u (refused r) i n j = absurd (nine_not (sym (same j) ∙ n) ten)
  nine_first (leaf Plain.is_null a e) p u (ok x) i n j = absurd (nine_not (sym (same j)) ten)
  nine_first (leaf Plain.is_true a e) p u (ok x) i n j = absurd (nine_not (sym (same j)) ten)
  nine_first (leaf Plain.is_false a e) p u (ok x) i n j = absurd (nine_not (sym (same j)) ten)
  nine_first (leaf Plain.is_number a e) p u (ok x) i n j = absurd (nine_not (sym (same j)) ten)
  nine_first (leaf Plain.is_text a e) p u (ok x) i n j = absurd (nine_not (sym (same j)) ten)
  nine_first (arr a e ts) p u (ok x) i n j = absurd (nine_not (sym (same j)) ten)
  nine_first (obj a e fs) p u (ok x) i n j = judged a e fs p u (ap is_ok i) (sound (written (entries (erase_of s fs)))) refl j

  -- A sheet that is refused with 10 or 11 has a tree, and the refusal speaks of the condition at fault in itself that begins first.
  pub first_condition : read_sheet s ≡ refused q → FirstCondition s q
  unfolding read_sheet checked erased
  first_condition e = go (spanned s) refl
    where
      go : (x : Result Node) → spanned s ≡ x → FirstCondition s q
      go (refused r) p =
          let j = json_erased s ∙ ap (erased s) p in
          let i : r ≡ q = same (sym (bind_refused checked j) ∙ e) in
          absurd (reading_not ((first_fault s q).0 (j ∙ ap refused i)) ten)
      go (ok t) p =
          let j = json_erased s ∙ ap (erased s) p in
          let v = erase s t in
          nine_first t p (json_sound s v j).is_tidy (a_sheet not_null v) refl (sheet_nine v) (sym (bind_ok checked j) ∙ e)
