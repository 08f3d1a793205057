-- Lines answered one by one: the answers put so far stand for what was used of the input.
-- Assumes nothing.
use mathlib.Core.Bool.{false, true}
use mathlib.Core.List.{[], append-nil, ◌++◌, ◌∷◌}
use mathlib.Core.Path.{ap, refl, sym, ◌∙◌, ◌≡◌}
use Prim.Native.Nat.{suc, ℕ, ◌+◌, ◌-◌, ◌<◌, ◌≤◌}
use native.Mathlib.Omega.{arith}
use lib.ListN.{drop, length, length-append, length-drop, take}
use lib.Seq.{drop-drop, length-take-le, take-append-add, take-append-le, take-append_seam}
use Rattle.calling.specs.declared.Call.TheVariants as calls
use Rattle.json_text.specs.Bytes.{Bytes}
use Rattle.printing.proofs.Feeding.{stands_as_it_is, stands_line, stands_then}
use Rattle.printing.proofs.Printing.{shown_fits}
use Rattle.printing.proofs.Splitting.{line_within}
use Rattle.printing.specs.Lines.{each, last_line, line_length}
use Rattle.printing.specs.Printed.{answer_to, intake}
use Rattle.printing.specs.Progress.{Advanced, StandsFor}
use Rattle.writer.specs.Laid.{Shown}

-- what is left at the end
pub no_last : (l : Bytes) {o : Bytes} → length l ≡ 0 → Shown (each (last_line l)) o o 0
unfolding each
no_last [] h = record { size = refl; bytes = refl }
no_last (c ∷ l) h = absurd (omega (arith, h))

pub one_last : (l : Bytes) {o o' : Bytes} {r : ℕ} → (length l ≡ 0 → ⊥) → Shown (answer_to calls.Decide l) o o' r → Shown (each (last_line l)) o o' r
unfolding each intake
one_last [] h m = absurd (h refl)
one_last (c ∷ l) h m = rw append-nil m

-- a part that was lent comes back as long as it was
pub part_back : (out : Bytes) (put k : ℕ) (part : Bytes) → put + k ≤ length out → length part ≡ length (take k (drop put out))
    → (length part ≡ k) × (length (take put out ++ (part ++ drop k (drop put out))) ≡ length out)
part_back out put k part room same =
    let lent : length (take k (drop put out)) ≡ k = length-take-le k (drop put out) (simp length-drop (omega arith)) in
    let front : length (take put out) ≡ put = length-take-le put out (omega arith) in
    let sizes = length-append (take put out) (part ++ drop k (drop put out)) in
    (same ∙ lent, omega (arith, same, lent, front, sizes, length-append part (drop k (drop put out)), length-drop k (drop put out), length-drop put out))

pub record Answering (input out : Bytes) (used put : ℕ) : Type 0 where
  pub within : used ≤ length input
  pub fits : put ≤ length out
  pub stands_for : StandsFor input (take put out) (drop used input)
  pub since : 0 < put → 0 < used

pub answering : (input out : Bytes) → Answering input out 0 0
answering input out = record { within = omega arith; fits = omega arith; stands_for = stands_as_it_is input; since = λ h. absurd (omega (arith, h)) }

module _ {input out : Bytes} {used put : ℕ} (a : Answering input out used put) where
  pub all_lines : {stop : ℕ} → stop ≡ used + line_length (drop used input) → stop ≡ length input → Advanced input out (record { used = used; put = put; done = true })
  all_lines e q =
      record {
        within = a.within;
        fits = a.fits;
        stands_for = a.stands_for;
        unended = λ _. omega (arith, e, q, length-drop used input, a.within);
        moved = λ d. let z : ◌≡◌ {A = ℕ} 0 1 = cc in absurd (omega arith);
      }

  pub full : 65536 ≤ length out → length out - put < 65536 → Advanced input out (record { used = used; put = put; done = false })
  full g h =
      record {
        within = a.within;
        fits = a.fits;
        stands_for = a.stands_for;
        unended = λ d. let z : ◌≡◌ {A = ℕ} 0 1 = cc in absurd (omega arith);
        moved = λ _. a.since (omega (arith, g, h));
      }

  -- a line that has its LF, answered behind what was put
  module _ {stop : ℕ} (e : stop ≡ used + line_length (drop used input)) (ne : stop ≡ length input → ⊥) where
    pub line_inside : (used ≤ stop) × (stop < length input)
    line_inside = (omega (arith, e), omega (arith, e, ne, line_within (drop used input), length-drop used input, a.within))

    module _ (k : ℕ) {part : Bytes} {r : ℕ} (m : Shown (answer_to calls.Decide (take (stop - used) (drop used input))) (take k (drop put out)) part r) where
      abbrev line : Bytes
      line = drop used input

      abbrev after : Bytes
      after = part ++ drop k (drop put out)

      text_put : take r part ≡ intake (take (line_length line) line)
      unfolding intake
      text_put =
          let n : stop - used ≡ line_length line = omega (arith, e) in
          let text : Bytes = answer_to calls.Decide (take (stop - used) line) in
          let rest : Bytes = drop (length text) (take k (drop put out)) in
          ap (take r) m.bytes ∙ ap (λ (j : ℕ). take j (text ++ rest)) m.size ∙ take-append_seam text rest ∙
          ap (λ (j : ℕ). answer_to calls.Decide (take j line)) n

      put_so_far : take (put + r) (take put out ++ after) ≡ take put out ++ intake (take (line_length line) line)
      put_so_far =
          let q : put + r ≡ length (take put out) + r = omega (arith, length-take-le put out a.fits) in
          ap (λ (j : ℕ). take j (take put out ++ after)) q ∙ take-append-add (take put out) after r ∙
          ap (λ (x : Bytes). take put out ++ x) (take-append-le r part (drop k (drop put out)) (shown_fits m) ∙ text_put)

      left : drop (stop + 1) input ≡ drop (suc (line_length line)) line
      left =
          let next : used + suc (line_length line) ≡ stop + 1 = omega (arith, e) in
          sym (drop-drop (suc (line_length line)) used input ∙ ap (λ (j : ℕ). drop j input) next)

      pub one_line : length part ≡ length (take k (drop put out)) → put + k ≤ length out → Answering input (take put out ++ after) (stop + 1) (put + r)
      one_line same room =
          let inside : line_length line < length line = omega (arith, e, ne, line_within line, length-drop used input, a.within) in
          record {
            within = omega (arith, line_inside.1);
            fits = omega (arith, (part_back out put k part room same).0, (part_back out put k part room same).1, shown_fits m, room);
            stands_for = rw (put_so_far, left) (stands_then a.stands_for (stands_line line inside));
            since = λ _. omega arith;
          }
