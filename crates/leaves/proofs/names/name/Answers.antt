-- `leaves::names::name` meets its contract: step by step as `name_at`.
-- Assumes nothing.
use Rattle.leaves.proofs.MemberName.{Quoted, again, bad_text, byte_inside, marks_grow, no_colon, no_quote, no_room, on_text_lem, quoted, spelt}
use Rattle.leaves.proofs.Marks.{unmarked}
use Rattle.leaves.proofs.Values.{handed_on}
use Rattle.tokens.proofs.Scans.{byte_was}
use Rattle.json_text.specs.Bytes.{is_one_of}
use Rattle.json_text.specs.Spans.{text_at}
use Rattle.json_text.specs.Refusal.{Result, ok}
use Rattle.json_text.specs.Placing.{byte_at, chars_at, skip_at}
use Rattle.json_text.specs.Naming.{NameSpan, hashed}
use Rattle.leaves.specs.Laid.{NameTold, earlier}
use Rattle.strings.specs.Answers.{scan_of}
use lib.Seq.{get_or-set_same, sets}
use lib.ListN.{get_or, set}
use Prim.Native.Nat.{ℕ, ◌*◌, ◌+◌, ◌-◌}
use mathlib.Core.Bool.{false, true}
use mathlib.Core.List.{[], ◌∷◌}
use mathlib.Core.Path.{ap, refl, sym, ◌∙◌, ◌≡◌}
use native.Mathlib.Omega.{arith}
use Rattle.leaves.proofs.names.name.Goals.{In_ok-end, In_ok-from, In_ok-text}
use Rattle.leaves.proofs.names.name.Goals as goal

-- the quote was read, and the colon
quote : (c : In_ok-text) → (get_or c.args.s.now c.args.at 0 ≡ 34) × (c.in_ok-text.text ≡ c.args.at + 1)
unfolding scan_of
quote c = byte_was 34 c.args.s.now c.args.at c.in_ok-text.text c.in_ok-text.ensures

colon : (c : In_ok-from) → (get_or c.args.s.now c.skip-colon.result 0 ≡ 58) × (c.in_ok-from.from ≡ c.skip-colon.result + 1)
unfolding scan_of
colon c = byte_was 58 c.args.s.now c.skip-colon.result c.in_ok-from.from c.in_ok-from.ensures

-- the text was scanned
scanned : (c : In_ok-end) → Quoted c.args.s.now c.args.at c.args.count c.in_ok-text.text c.in_ok-end.end
unfolding scan_of
scanned c =
    let q = byte_was 34 c.args.s.now c.args.at c.in_ok-text.text c.in_ok-text.ensures in
    quoted c.args.s.now c.args.at c.args.count c.in_ok-text.text c.in_ok-end.end q c.if-is_full.false c.in_ok-end.ensures

pub returns-in_err-text : goal.returns-in_err-text
unfolding NameTold scan_of
returns-in_err-text c = rw (handed_on _ c.from_residual.ensures.1) (no_quote c.args.s.now _ c.args.count c.args.at _ c.in_err-text.ensures, refl, refl)

pub returns-then-is_full : goal.returns-then-is_full
unfolding NameTold
returns-then-is_full c = (
  no_room c.args.s.now _ c.args.count c.args.at (quote (goal.at.returns-then-is_full c).In_ok-text).0 c.if-is_full.true,
  refl,
  refl,
)

pub string-requires : goal.string-requires
string-requires c =
    let q = quote (goal.at.string-requires c).In_ok-text in
    omega (arith, q.1, byte_inside c.args.s.now c.args.at 34 q.0 (omega arith))

pub returns-in_err-end : goal.returns-in_err-end
unfolding NameTold scan_of
returns-in_err-end c =
    let q = quote (goal.at.returns-in_err-end c).In_ok-text in
    rw
    (handed_on _ c.from_residual-in_err-end.ensures.1) (
      bad_text c.args.s.now (earlier c.args.s.now c.args.work.now c.args.object c.args.count) c.args.count c.args.at
          q.0 c.if-is_full.false _ (ap (chars_at c.args.s.now) (sym q.1) ∙ c.in_err-end.ensures),
      refl,
      refl,
    )

pub slot-mark-requires : goal.slot-mark-requires
slot-mark-requires c = (
  on_text_lem (scanned (goal.at.slot-mark-requires c).In_ok-end),
  omega (
    arith,
    c.requires.under,
  ),
)

pub repeated-requires : goal.repeated-requires
repeated-requires c =
    record {
      members = c.requires.members;
      text = on_text_lem (scanned (goal.at.repeated-requires c).In_ok-end);
      sure = λ z. unmarked c.args.seen.now c.args.object
          (earlier c.args.s.now c.args.work.now c.args.object c.args.count) (text_at c.args.s.now c.in_ok-text.text)
          c.requires.noted
          (ap (λ (i : ℕ). get_or c.args.seen.now i false) (sym c.slot-mark.ensures.0) ∙ z);
    }

pub returns-then-repeated : goal.returns-then-repeated
unfolding NameTold
returns-then-repeated c =
    let q = scanned (goal.at.returns-then-repeated c).In_ok-end in
    let names = earlier c.args.s.now c.args.work.now c.args.object c.args.count in (
      again c.args.s.now names c.args.count c.args.at q.is_quote q.room _ q.is_text
          (ap (λ (i : ℕ). is_one_of (text_at c.args.s.now i) names) (sym q.begins) ∙ sym c.repeated.ensures ∙ c.if-repeated.true),
      refl,
      refl,
    )

pub skip-colon-requires : goal.skip-colon-requires
skip-colon-requires c = (scanned (goal.at.skip-colon-requires c).In_ok-end).upto

pub returns-in_err-from : goal.returns-in_err-from
unfolding NameTold scan_of
returns-in_err-from c =
    let q = scanned (goal.at.returns-in_err-from c).In_ok-end in
    let names = earlier c.args.s.now c.args.work.now c.args.object c.args.count in
    rw (handed_on _ c.from_residual-in_err-from.ensures.1) (
      no_colon c.args.s.now names c.args.count c.args.at q.is_quote q.room _ q.is_text
          (ap (λ (i : ℕ). is_one_of (text_at c.args.s.now i) names) (sym q.begins) ∙ sym c.repeated.ensures ∙ c.if-repeated.false) _
          (ap (byte_at 58 c.args.s.now) (sym c.skip-colon.ensures) ∙ c.in_err-from.ensures),
      refl,
      refl,
    )

pub overflow_sub-end : goal.overflow_sub-end
overflow_sub-end c =
    omega (arith, (scanned (goal.at.overflow_sub-end c).In_ok-end).order)

pub put_row-requires : goal.put_row-requires
put_row-requires c =
    let q = scanned (goal.at.put_row-requires c).In_ok-end in
    record {
      long = c.requires.long;
      room = q.room;
      kind_fits = omega arith;
      start_fits = omega (arith, q.begins, q.order, q.upto, c.requires.bytes);
      end_fits = omega (arith, q.upto, c.requires.bytes);
      after_fits = omega (arith, q.room);
    }

pub skip-requires : goal.skip-requires
skip-requires c =
    let q = colon (goal.at.skip-requires c).In_ok-from in
    omega (arith, q.1, byte_inside c.args.s.now c.skip-colon.result 58 q.0 (omega arith))

pub returns : goal.returns
unfolding NameTold
returns c =
    let q = scanned (goal.at.returns c).In_ok-end in
    let d = colon (goal.at.returns c).In_ok-from in
    let names = earlier c.args.s.now c.args.work.now c.args.object c.args.count in
    let v : skip_at c.args.s.now (skip_at c.args.s.now c.in_ok-end.end + 1) ≡ c.skip.result = sym
    (c.skip.ensures ∙ ap (skip_at c.args.s.now) d.1 ∙ ap (λ (i : ℕ). skip_at c.args.s.now (i + 1)) c.skip-colon.ensures) in
    record {
      stop = c.in_ok-end.end - 1;
      read = spelt c.args.s.now names c.args.count c.args.at q.is_quote q.room _ q.is_text
          (ap (λ (i : ℕ). is_one_of (text_at c.args.s.now i) names) (sym q.begins) ∙ sym c.repeated.ensures ∙ c.if-repeated.false)
          (sym (ap (λ (i : ℕ). get_or c.args.s.now i 0) c.skip-colon.ensures) ∙ d.0) ∙ ap {B = Result NameSpan}
          (λ (i : ℕ). ok (record { stop = c.in_ok-end.end - 1; value = i })) v;
      words = c.put_row.ensures ∙
          ap (λ (i : ℕ). sets c.args.work.now (3 * c.args.count) ((8 * i + 4) ∷ (c.in_ok-end.end - 1) ∷ (c.args.count + 1) ∷ [])) q.begins;
      marked = ap (λ (i : ℕ). get_or (set c.args.seen.now c.slot-mark.result true) (hashed c.args.object (text_at c.args.s.now i)) false) (sym q.begins) ∙
          ap (λ (i : ℕ). get_or (set c.args.seen.now c.slot-mark.result true) i false) (sym c.slot-mark.ensures.0) ∙
          get_or-set_same c.args.seen.now c.slot-mark.result true false (omega (arith, c.requires.marks, c.slot-mark.ensures.1));
      grown = marks_grow c.args.seen.now c.slot-mark.result (omega (arith, c.requires.marks, c.slot-mark.ensures.1));
    }
