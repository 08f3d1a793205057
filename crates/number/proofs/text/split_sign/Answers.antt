-- `split_sign` meets its contract.
-- Assumes nothing.
use Rattle.std.proofs.Common.{arith, refl, sym, ◌∙◌}
use Rattle.std.proofs.lemmas.List.{nil_from_length}
use Rattle.json_text.proofs.Laws.{eqb_false}
use Rattle.number.proofs.Parts.{minus_is, no_minus, no_sign, other_sign, unsigned_is, unsigned_none}
use Rattle.number.proofs.text.split_sign.Goals as goal

pub returns-in_default-clause-negative : goal.returns-in_default-clause-negative
returns-in_default-clause-negative c = no_minus c.args.s.now (nil_from_length c.args.s.now c.in_default.ensures.cases)

pub returns-in_default-clause-rest : goal.returns-in_default-clause-rest
returns-in_default-clause-rest c = no_sign c.args.s.now (nil_from_length c.args.s.now c.in_default.ensures.cases)

pub returns-in-45-clause-negative : goal.returns-in-45-clause-negative
returns-in-45-clause-negative c = sym (minus_is c.args.s.now _ _ c.in-Some.ensures.cases.0 ∙ rw c.in-45.is refl)

pub returns-in-45-clause-rest : goal.returns-in-45-clause-rest
returns-in-45-clause-rest c = unsigned_is c.args.s.now _ _ c.in-Some.ensures.cases.0 (rw c.in-45.is refl)

pub returns-in-43-clause-negative : goal.returns-in-43-clause-negative
returns-in-43-clause-negative c = sym (minus_is c.args.s.now _ _ c.in-Some.ensures.cases.0 ∙ rw c.in-43.is refl)

pub returns-in-43-clause-rest : goal.returns-in-43-clause-rest
returns-in-43-clause-rest c = unsigned_is c.args.s.now _ _ c.in-Some.ensures.cases.0 (rw c.in-43.is refl)

pub returns-in_default-first-clause-negative : goal.returns-in_default-first-clause-negative
returns-in_default-first-clause-negative c = sym (minus_is c.args.s.now _ _ c.in-Some.ensures.cases.0 ∙ eqb_false c.in-Some.first.now 45 (omega arith))

pub returns-in_default-first-clause-rest : goal.returns-in_default-first-clause-rest
returns-in_default-first-clause-rest c = unsigned_none c.args.s.now _ _ c.in-Some.ensures.cases.0 (other_sign c.in-Some.first.now (omega arith) (omega arith))
