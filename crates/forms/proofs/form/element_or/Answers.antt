-- `forms::form::element_or` meets its contract: by whether the text is missing.
-- Assumes nothing.
use Rattle.writer.proofs.Laying.{then, told}
use Rattle.writer.proofs.Texts.{is_none, is_some, is_text_lem}
use Rattle.forms.proofs.form.element_or.Goals as goal

pub quoted-requires : goal.quoted-requires
quoted-requires c = is_text_lem c.args.s.now _ c.requires c.in-Some.is

pub returns-in-None : goal.returns-in-None
returns-in-None c =
    told
    (rw
    (is_none c.args.s.now
    c.in-None.is))
    (then c.byte.ensures c.bytes.ensures)

pub returns-in-Some : goal.returns-in-Some
returns-in-Some c =
    told
    (rw
    (is_some
    c.args.s.now _
    c.in-Some.is))
    (then c.byte.ensures c.quoted.ensures)
