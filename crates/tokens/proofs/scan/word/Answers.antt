-- `word` meets its contract: the rest of the word at this place decides the whole.
-- Assumes nothing.
use Prim.Native.Nat.{◌+◌}
use lib.ListN.{drop, length, length-drop}
use mathlib.Core.List.{[], ◌∷◌, ◌++◌}
use mathlib.Core.Path.{refl, sym, ◌∙◌, ◌≡◌}
use native.Mathlib.Omega.{arith}
use Rattle.std.proofs.lemmas.List.{get_or-drop, length_push, take_rest}
use Rattle.std.proofs.lemmas.Slice.Zip.{zip_end, zip_turn}
use Rattle.strings.proofs.Leaves.{word_apart, word_done, word_on, word_short}
use Rattle.strings.specs.Answers.{scan_of}
use Rattle.tokens.proofs.scan.word.Goals as goal

pub loop-c-init : goal.loop-c-init
loop-c-init c = let e : c.args.at + 0 ≡ c.args.at = omega arith in rw e (record { upto = c.requires; within = omega arith; same = refl })

pub returns-then-c-d : goal.returns-then-c-d
unfolding scan_of
returns-then-c-d c =
    let t = zip_turn c.args.w.now (drop c.args.at c.args.s.now) c.loop-c.yielded c.into_iter-c-iterator.result c.loop-c.c-iterator c.next.new.self
    c.next.result (cc) (cc (take_rest c.args.s.now c.args.at)) c.loop-c.yielded_by _ c.in-Some.is c.next.ensures.steps in
    word_apart c.loop-c.invariant t.0 (omega (arith, t.1, length-drop c.args.at c.args.s.now)) (λ e. c.if-c-d.true (t.2 0 ∙ sym e ∙ sym (get_or-drop c.args.at c.args.s.now _ 0) ∙ sym (t.3 0)))

pub loop-c-preserved : goal.loop-c-preserved
loop-c-preserved c =
    let t = zip_turn c.args.w.now (drop c.args.at c.args.s.now) c.loop-c.yielded c.into_iter-c-iterator.result c.loop-c.c-iterator c.next.new.self
    c.next.result (cc) (cc (take_rest c.args.s.now c.args.at)) c.loop-c.yielded_by _ c.in-Some.is c.next.ensures.steps in
    let e : length (c.loop-c.yielded ++ (c.in-Some.c, c.in-Some.d) ∷ []) ≡ length c.loop-c.yielded + 1 = length_push _ _ in
    let f : c.args.at + (length c.loop-c.yielded + 1) ≡ c.args.at + length c.loop-c.yielded + 1 = omega arith in
    rw (e, f) (word_on c.loop-c.invariant t.0 (omega (arith, t.1, length-drop c.args.at c.args.s.now)) (sym (get_or-drop c.args.at c.args.s.now _ 0) ∙ sym (t.3 0) ∙ sym c.if-c-d.false ∙ t.2 0))

pub returns-then-s-at : goal.returns-then-s-at
unfolding scan_of
returns-then-s-at c =
    let t = zip_end c.args.w.now (drop c.args.at c.args.s.now) c.loop-c.yielded c.into_iter-c-iterator.result c.loop-c.c-iterator c.next.new.self
    c.next.result (cc) (cc (take_rest c.args.s.now c.args.at)) c.loop-c.yielded_by c.in-None.is c.next.ensures.steps in
    word_short c.loop-c.invariant (omega (arith, t, length-drop c.args.at c.args.s.now)) (omega (arith, t, length-drop c.args.at c.args.s.now))

pub returns : goal.returns
unfolding scan_of
returns c =
    let t = zip_end c.args.w.now (drop c.args.at c.args.s.now) c.loop-c.yielded c.into_iter-c-iterator.result c.loop-c.c-iterator c.next.new.self
    c.next.result (cc) (cc (take_rest c.args.s.now c.args.at)) c.loop-c.yielded_by c.in-None.is c.next.ensures.steps in
    let e : length c.loop-c.yielded ≡ length c.args.w.now = omega (arith, t, length-drop c.args.at c.args.s.now) in
    rw (← e) (word_done c.loop-c.invariant (omega arith))
