-- `operator_at` meets its contract: a text that is an operator's name finds what the name finds.
-- Assumes nothing.
use Rattle.std.specs.Prelude.{Option}
use Rattle.std.proofs.Common.{rules}
use mathlib.Core.Bool.{true}
use mathlib.Core.Path.{ap, refl, sym, ◌∙◌, ◌≡◌}
use Rattle.json_text.proofs.Laws.{same_bytes_true}
use Rattle.json_text.specs.Bytes.{Bytes, ascii, find, same_bytes}
use Rattle.json_text.specs.Spans.{text_at}
use Rattle.members.specs.Answers.{form_of, mode_of, operator_of}
use Rattle.members.specs.Condition.{Operator, operators}
use Rattle.syntax.proofs.condition.operator_at.Goals as goal

is_name : (t w : Bytes) {o : Option Operator} → find w operators ≡ o → true ≡ same_bytes t w → find t operators ≡ o
is_name t w f e = ap (λ (k : Bytes). find k operators) (same_bytes_true t w (sym e)) ∙ f

pub returns-in-101 : goal.returns-in-101
unfolding find same_bytes operator_of form_of
returns-in-101 c = is_name (text_at c.args.s.now c.args.at) (ascii "eq") refl c.if-is_word.ensures

pub returns-in-102 : goal.returns-in-102
unfolding find same_bytes operator_of mode_of
returns-in-102 c = is_name (text_at c.args.s.now c.args.at) (ascii "for_all") refl c.if-is_word-2.ensures

pub returns-in-102-2 : goal.returns-in-102-2
unfolding find same_bytes operator_of mode_of
returns-in-102-2 c = is_name (text_at c.args.s.now c.args.at) (ascii "for_any") refl c.if-is_word-3.ensures

pub returns-in-103 : goal.returns-in-103
unfolding find same_bytes operator_of form_of
returns-in-103 c = is_name (text_at c.args.s.now c.args.at) (ascii "gt") refl c.if-is_word-4.ensures

pub returns-in-103-2 : goal.returns-in-103-2
unfolding find same_bytes operator_of form_of
returns-in-103-2 c = is_name (text_at c.args.s.now c.args.at) (ascii "gte") refl c.if-is_word-5.ensures

pub returns-in-108 : goal.returns-in-108
unfolding find same_bytes operator_of form_of
returns-in-108 c = is_name (text_at c.args.s.now c.args.at) (ascii "lt") refl c.if-is_word-6.ensures

pub returns-in-108-2 : goal.returns-in-108-2
unfolding find same_bytes operator_of form_of
returns-in-108-2 c = is_name (text_at c.args.s.now c.args.at) (ascii "lte") refl c.if-is_word-7.ensures

-- the table's rows, one by one
pub returns-in_default : goal.returns-in_default
unfolding operator_of form_of mode_of
returns-in_default c = c.operator_in.ensures operators (search rules)
