-- `Integer::parse` meets its contract: first the text is read from its end, then what is carried over goes into further digits.
-- Assumes nothing.
use Rattle.std.proofs.Common.{arith, rules, length, length-append, ◌+◌, ◌++◌, [], ◌∷◌}
use Rattle.std.proofs.lemmas.Iterator.Adapters.{YieldsList-from_rev_slice}
use Rattle.std.proofs.lemmas.Iterator.Consumers.{YieldsList-from_enumerate, YieldsList-turn}
use Rattle.number.proofs.Columns.{from_end, all_carried, carry_more, none_written, read_on, reading}
use Rattle.number.proofs.places.Integer.parse.Goals as goal

pub loop-i-init : goal.loop-i-init
loop-i-init c = let r = reading c.args.s.now c.args.more c.requires.0 c.requires.1 _ none_written in search rules

pub loop-i-preserved : goal.loop-i-preserved
loop-i-preserved c =
    let turn = YieldsList-turn (YieldsList-from_enumerate (YieldsList-from_rev_slice c.args.s.now cc) (cc)) c.loop-i.yielded c.loop-i.i-iterator c.loop-i.yielded_by _ _
    (c.in-Some.i, c.in-Some.c) c.in-Some.is c.next.ensures.steps in
    let r = read_on c.args.s.now c.args.more c.requires.0 c.loop-i.digits (length c.loop-i.yielded) c.loop-i.carry c.in-Some.c.now (c.saturating_sub.result + c.loop-i.carry)
    c.in-Some.i (length (c.loop-i.yielded ++ ((c.in-Some.i, c.in-Some.c) ∷ []))) c.loop-i.invariant.2
    (from_end c.args.s.now (length c.loop-i.yielded) c.in-Some.i c.in-Some.c.now turn.0 turn.1)
    (length-append c.loop-i.yielded ((c.in-Some.i, c.in-Some.c) ∷ [])) (omega arith) (omega arith) in
    search rules

pub loop-carry-preserved : goal.loop-carry-preserved
loop-carry-preserved c = carry_more _ _ _ _ c.loop-carry.invariant c.loop-carry-test.true

pub returns-clause-digits_value : goal.returns-clause-digits_value
returns-clause-digits_value c = (all_carried _ _ _ _ c.loop-carry.invariant (omega arith)).1
