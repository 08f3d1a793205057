-- `contains` meets its contract: by the class of the first.
-- Assumes nothing.
use mathlib.Core.Path.{ap, sym, ◌∙◌}
use borrow.Author.Rules.{rules}
use native.Mathlib.Omega.{arith}
use Rattle.paths.specs.Comparing.{nesting}
use Rattle.members.specs.Sheet.{sheet_in}
use Rattle.paths.specs.Stored.{frames_of, table}
use Rattle.semantics.specs.Forms.{is_part}
use Rattle.resolving.proofs.Slices.{frames_length}
use Rattle.resolving.proofs.Layered.{array_kind, object_kind}
use Rattle.operands.proofs.Pairs.{contains_element, contains_key, contains_no_key, contains_none, contains_text}
use Rattle.operands.proofs.holds.contains.Goals as goal

pub returns-in-Text-default : goal.returns-in-Text-default
returns-in-Text-default c =
    contains_text (sheet_in c.args.s.now) c.args.s.now (table c.args.work.now)
    (frames_of c.args.s.now (table c.args.work.now) c.args.scope.now.frames) c.args.a c.args.b (sym c.class.ensures ∙ c.in-Text-default.is-0)
    (c.two_texts.ensures (λ text part. is_part part text) (λ x y r h. search rules))

pub nesting-requires : goal.nesting-requires
nesting-requires c = c.requires.0.bound.within

pub is_element-requires : goal.is_element-requires
is_element-requires c =
    (c.requires.0, c.requires.2, array_kind c.args.s.now (table c.args.work.now) c.args.a.node c.args.a.kind c.requires.1.fits (sym c.class.ensures ∙ c.in-Array-default.is-0))

pub returns-in-Array-default : goal.returns-in-Array-default
returns-in-Array-default c =
    contains_element (sheet_in c.args.s.now) c.args.s.now (table c.args.work.now)
    (frames_of c.args.s.now (table c.args.work.now) c.args.scope.now.frames) c.args.a c.args.b (sym c.class.ensures ∙ c.in-Array-default.is-0)
    (rw (c.nesting.ensures ∙ ap nesting (sym (frames_length c.requires.0))) at c.is_element.ensures)

pub text_place-requires : goal.text_place-requires
text_place-requires c = (record { rows = c.requires.0.rows; node = omega arith }, c.requires.2, sym c.class-2.ensures ∙ c.in-Object-Text.is-1)

pub has_key-requires : goal.has_key-requires
has_key-requires c = (
  record { rows = c.requires.0.rows; node = omega arith },
  c.text_place.ensures.on_text,
  object_kind c.args.s.now (table c.args.work.now) c.args.a.node c.args.a.kind c.requires.1.fits (sym c.class.ensures ∙ c.in-Object-Text.is-0),
  c.requires.0.linked,
)

pub returns-in-Object-Text : goal.returns-in-Object-Text
returns-in-Object-Text c =
    contains_key (sheet_in c.args.s.now) c.args.s.now (table c.args.work.now)
    (frames_of c.args.s.now (table c.args.work.now) c.args.scope.now.frames) c.args.a c.args.b (sym c.class.ensures ∙ c.in-Object-Text.is-0) (sym c.class-2.ensures ∙ c.in-Object-Text.is-1)
    c.text_place.ensures c.has_key.ensures

pub returns-in_default : goal.returns-in_default
returns-in_default c =
    contains_no_key (sheet_in c.args.s.now) c.args.s.now (table c.args.work.now)
    (frames_of c.args.s.now (table c.args.work.now) c.args.scope.now.frames) c.args.a c.args.b (sym c.class.ensures ∙ c.in_default.is-0)
    (λ e. c.in_default.not-Text-1 (c.class-2.ensures ∙ e))

pub returns-in_default-2 : goal.returns-in_default-2
returns-in_default-2 c =
    contains_none (sheet_in c.args.s.now) c.args.s.now (table c.args.work.now)
    (frames_of c.args.s.now (table c.args.work.now) c.args.scope.now.frames) c.args.a c.args.b (λ e. c.in_default.not-Text-0 (c.class.ensures ∙ e))
    (λ e. c.in_default.not-Array-0 (c.class.ensures ∙ e)) (λ e. c.in_default.not-Object-0 (c.class.ensures ∙ e))
