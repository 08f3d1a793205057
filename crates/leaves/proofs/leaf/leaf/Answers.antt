-- `leaves::leaf::leaf` meets its contract: step by step as `read_at` with no bracket left.
-- Assumes nothing.
use mathlib.Core.Path.{ap, refl, sym, ◌∙◌, ◌≡◌}
use Prim.Native.Nat.{◌+◌, ◌-◌}
use native.Mathlib.Omega.{arith}
use Rattle.json_text.specs.Placing.{read_at}
use Rattle.json_text.specs.Reader.{start}
use Rattle.json_text.specs.Refusal.{ok}
use Rattle.json_text.specs.Spans.{leaf}
use Rattle.leaves.proofs.Values.{
  PlainAt,
  leaf_array,
  leaf_bad,
  leaf_full,
  leaf_is,
  leaf_none,
  leaf_object,
  leaf_text,
  plain_at,
  read_places,
  code_small,
  handed_on,
  same_kind,
  told_bad,
  told_leaf,
}
use Rattle.leaves.proofs.Loops.{past_end}
use Rattle.leaves.specs.Laid.{kind_by, plain_by}
use Rattle.std.specs.Prelude.{Some, get_or, ℕ}
use Rattle.strings.specs.Answers.{scan_of}
use Rattle.strings.specs.declared.answer.Refusal.TheVariants as whys
use Rattle.leaves.proofs.leaf.leaf.Goals.{Else-node-ge4096, Then-eq-3, Else-eq-3, then-eq-via-then-eq, then-eq-via-else-eq+then-eq-2}
use Rattle.leaves.proofs.leaf.leaf.Goals as goal

-- a value without brackets starts here
plain_here : (c : Else-node-ge4096) → PlainAt c.args.s.now c.args.node c.args.at c.in-Some-kind.kind
plain_here c =
    plain_at c.args.s.now c.args.node c.args.at c.in-Some-kind.kind
    (sym c.in-Some-kind.is ∙ c.kind.ensures ∙ ap (λ (b : ℕ). kind_by (start b)) (c.in-Some.ensures.lookup.3.1 0)) (sym c.if-eq.ensures) (sym c.if-eq-2.ensures)

-- a text was scanned
text_here : (c : Then-eq-3) → PlainAt c.args.s.now c.args.node c.args.at c.in-Some-kind.kind → read_at 0 c.args.s.now c.args.node c.args.at ≡
    ok (record { tree = leaf (plain_by c.in-Some-kind.kind) (c.args.at + 1) (c.in_ok-end.end - 1); place = c.in_ok-end.end; count = c.args.node + 1 })
unfolding scan_of
text_here c l = leaf_text c.args.s.now c.args.node c.args.at c.in-Some-kind.kind l c.if-node-ge4096.false c.in_ok-end.end (sym c.if-eq-3.ensures) c.in_ok-end.ensures

-- another value was scanned
other_here : (c : Else-eq-3) → PlainAt c.args.s.now c.args.node c.args.at c.in-Some-kind.kind → read_at 0 c.args.s.now c.args.node c.args.at ≡
    ok (record { tree = leaf (plain_by c.in-Some-kind.kind) c.args.at c.in_ok-end.end; place = c.in_ok-end.end; count = c.args.node + 1 })
unfolding scan_of
other_here c l = leaf_is c.args.s.now c.args.node c.args.at c.in-Some-kind.kind l c.if-node-ge4096.false c.in_ok-end.end (sym c.if-eq-3.ensures) c.in_ok-end.ensures

pub returns-in_default : goal.returns-in_default
returns-in_default c =
    told_bad _ c.args.work.now _ c.args.node whys.NotJson (past_end 0 c.args.s.now c.args.node c.args.at c.in_default.ensures.lookup.3) refl

pub returns-in_default-kind : goal.returns-in_default-kind
returns-in_default-kind c =
    told_bad _ c.args.work.now _ c.args.node whys.NotJson
    (leaf_none c.args.s.now c.args.node c.args.at (sym c.in_default-kind.is ∙ c.kind.ensures ∙ ap (λ (b : ℕ). kind_by (start b)) (c.in-Some.ensures.lookup.3.1 0))) refl

pub returns-then-eq : goal.returns-then-eq
returns-then-eq c =
    let k : Some c.in-Some-kind.kind ≡ kind_by (start (get_or c.args.s.now c.args.at 0)) =
    sym c.in-Some-kind.is ∙ c.kind.ensures ∙ ap (λ (b : ℕ). kind_by (start b)) (c.in-Some.ensures.lookup.3.1 0) in
    told_bad _ c.args.work.now _ c.args.node whys.TooDeep
    (elim c.then-eq.branch [
      | then-eq-via-then-eq w ↦ leaf_array c.args.s.now c.args.node c.args.at c.in-Some-kind.kind k (same_kind _ _ (sym w.if-eq.ensures))
      | then-eq-via-else-eq+then-eq-2 w ↦ leaf_object c.args.s.now c.args.node c.args.at c.in-Some-kind.kind k (same_kind _ _ (sym w.if-eq-2.ensures))
    ]) refl

pub returns-then-node-ge4096 : goal.returns-then-node-ge4096
returns-then-node-ge4096 c =
    told_bad _ c.args.work.now _ c.args.node whys.TooManyNodes
    (leaf_full c.args.s.now c.args.node c.args.at c.in-Some-kind.kind (plain_at c.args.s.now c.args.node c.args.at c.in-Some-kind.kind
    (sym c.in-Some-kind.is ∙ c.kind.ensures ∙ ap (λ (b : ℕ). kind_by (start b)) (c.in-Some.ensures.lookup.3.1 0)) (sym c.if-eq.ensures) (sym c.if-eq-2.ensures)) c.if-node-ge4096.true) refl

pub returns-in_err-end : goal.returns-in_err-end
unfolding scan_of
returns-in_err-end c =
    rw
    (handed_on _ c.from_residual.ensures.1)
    (told_bad _ c.args.work.now _ c.args.node c.in_err-end.field-0.0
    (leaf_bad c.args.s.now c.args.node c.args.at c.in-Some-kind.kind
    (plain_here (goal.at.returns-in_err-end c).Else-node-ge4096) c.if-node-ge4096.false _ c.in_err-end.ensures) refl)

pub overflow_sub-end : goal.overflow_sub-end
overflow_sub-end c =
    omega (arith, (read_places 0 c.args.s.now c.args.node c.args.at _ c.requires.upto (text_here (goal.at.overflow_sub-end c).Then-eq-3 (plain_here (goal.at.overflow_sub-end c).Else-node-ge4096))).0)

pub lay-requires : goal.lay-requires
lay-requires c =
    let f = read_places 0 c.args.s.now c.args.node c.args.at _ c.requires.upto (text_here (goal.at.lay-requires c).Then-eq-3 (plain_here (goal.at.lay-requires c).Else-node-ge4096)) in
    record {
      long = c.requires.long;
      room = c.if-node-ge4096.false;
      kind_fits = code_small c.in-Some-kind.kind;
      start_fits = omega (arith, f.0, f.1, c.requires.bytes);
      end_fits = omega (arith, f.1, c.requires.bytes);
      after_fits = omega (arith, c.if-node-ge4096.false);
    }

pub returns-then-eq-3 : goal.returns-then-eq-3
returns-then-eq-3 c =
    let l = plain_here (goal.at.returns-then-eq-3 c).Else-node-ge4096 in
    told_leaf c.in-Some-kind.kind l.coded (text_here (goal.at.returns-then-eq-3 c).Then-eq-3 l) c.lay.ensures

pub lay-requires-2 : goal.lay-requires-2
lay-requires-2 c =
    let f = read_places 0 c.args.s.now c.args.node c.args.at _ c.requires.upto (other_here (goal.at.lay-requires-2 c).Else-eq-3 (plain_here (goal.at.lay-requires-2 c).Else-node-ge4096)) in
    record {
      long = c.requires.long;
      room = c.if-node-ge4096.false;
      kind_fits = code_small c.in-Some-kind.kind;
      start_fits = omega (arith, f.0, f.1, c.requires.bytes);
      end_fits = omega (arith, f.1, c.requires.bytes);
      after_fits = omega (arith, c.if-node-ge4096.false);
    }

pub returns : goal.returns
returns c =
    let l = plain_here (goal.at.returns c).Else-node-ge4096 in
    told_leaf c.in-Some-kind.kind l.coded (other_here (goal.at.returns c).Else-eq-3 l) c.lay-2.ensures
