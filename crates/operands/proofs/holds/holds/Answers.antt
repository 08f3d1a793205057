-- `holds` meets its contract: form by form.
-- Assumes nothing.
use mathlib.Core.Bool.{◌||◌}
use mathlib.Core.Path.{ap, sym, ◌∙◌, ◌≡◌}
use borrow.Author.Rules.{rules}
use Rattle.std.specs.Ordering.{is_ge, is_gt, is_le, is_lt}
use Rattle.json_text.specs.Bytes.{begins}
use Rattle.members.specs.Answers.{form_of}
use Rattle.members.specs.Sheet.{sheet_in}
use Rattle.paths.specs.Comparing.{nesting}
use Rattle.paths.specs.Stored.{frames_of, table}
use Rattle.resolving.proofs.Slices.{frames_length}
use Rattle.semantics.specs.Forms.{ends, is_greater, is_less}
use Rattle.semantics.specs.Semantics.{is_same}
use Rattle.operands.proofs.Pairs.{
  form_ends,
  form_eq,
  form_gt,
  form_gte,
  form_lt,
  form_lte,
  form_ne,
  form_starts,
  greater_or_same_told,
  greater_told,
  less_or_same_told,
  less_told,
}
use Rattle.operands.proofs.holds.holds.Goals as goal

pub nesting-requires : goal.nesting-requires
nesting-requires c = c.requires.0.bound.within

pub nesting-requires-in-Ne : goal.nesting-requires-in-Ne
nesting-requires-in-Ne c = c.requires.0.bound.within

pub returns-in-Eq : goal.returns-in-Eq
unfolding form_of
returns-in-Eq c = rw c.in-Eq.is
    (form_eq (sheet_in c.args.s.now) c.args.s.now (table c.args.work.now)
    (frames_of c.args.s.now (table c.args.work.now) c.args.scope.now.frames) c.args.a c.args.b
    (rw (c.nesting.ensures ∙ ap nesting (sym (frames_length c.requires.0))) at c.equal_at.ensures))

pub returns-in-Ne : goal.returns-in-Ne
unfolding form_of
returns-in-Ne c = rw c.in-Ne.is
    (form_ne (sheet_in c.args.s.now) c.args.s.now (table c.args.work.now)
    (frames_of c.args.s.now (table c.args.work.now) c.args.scope.now.frames) c.args.a c.args.b
    (rw (c.nesting-in-Ne.ensures ∙ ap nesting (sym (frames_length c.requires.0))) at c.equal_at-in-Ne.ensures))

pub returns-in-Gt : goal.returns-in-Gt
unfolding form_of
returns-in-Gt c = rw c.in-Gt.is
    (form_gt (sheet_in c.args.s.now) c.args.s.now (table c.args.work.now)
    (frames_of c.args.s.now (table c.args.work.now) c.args.scope.now.frames) c.args.a c.args.b
    (c.two_numbers.ensures is_greater (λ o r h. let e : r ≡ is_gt o = search rules in e ∙ greater_told o)))

pub returns-in-Gte : goal.returns-in-Gte
unfolding form_of
returns-in-Gte c = rw c.in-Gte.is
    (form_gte (sheet_in c.args.s.now) c.args.s.now (table c.args.work.now)
    (frames_of c.args.s.now (table c.args.work.now) c.args.scope.now.frames) c.args.a c.args.b
    (c.two_numbers-in-Gte.ensures (λ o. is_greater o || is_same o) (λ o r h. let e : r ≡ is_ge o = search rules in e ∙ greater_or_same_told o)))

pub returns-in-Lt : goal.returns-in-Lt
unfolding form_of
returns-in-Lt c = rw c.in-Lt.is
    (form_lt (sheet_in c.args.s.now) c.args.s.now (table c.args.work.now)
    (frames_of c.args.s.now (table c.args.work.now) c.args.scope.now.frames) c.args.a c.args.b
    (c.two_numbers-in-Lt.ensures is_less (λ o r h. let e : r ≡ is_lt o = search rules in e ∙ less_told o)))

pub returns-in-Lte : goal.returns-in-Lte
unfolding form_of
returns-in-Lte c = rw c.in-Lte.is
    (form_lte (sheet_in c.args.s.now) c.args.s.now (table c.args.work.now)
    (frames_of c.args.s.now (table c.args.work.now) c.args.scope.now.frames) c.args.a c.args.b
    (c.two_numbers-in-Lte.ensures (λ o. is_less o || is_same o) (λ o r h. let e : r ≡ is_le o = search rules in e ∙ less_or_same_told o)))

pub returns-in-In : goal.returns-in-In
unfolding form_of
returns-in-In c = rw c.in-In.is c.is_in.ensures

pub returns-in-Contains : goal.returns-in-Contains
unfolding form_of
returns-in-Contains c = rw c.in-Contains.is c.contains.ensures

pub returns-in-StartsWith : goal.returns-in-StartsWith
unfolding form_of
returns-in-StartsWith c = rw c.in-StartsWith.is
    (form_starts (sheet_in c.args.s.now) c.args.s.now (table c.args.work.now)
    (frames_of c.args.s.now (table c.args.work.now) c.args.scope.now.frames) c.args.a c.args.b
    (c.two_texts.ensures (λ text part. begins part text) (λ x y r h. search rules)))

pub returns-in-EndsWith : goal.returns-in-EndsWith
unfolding form_of
returns-in-EndsWith c = rw c.in-EndsWith.is
    (form_ends (sheet_in c.args.s.now) c.args.s.now (table c.args.work.now)
    (frames_of c.args.s.now (table c.args.work.now) c.args.scope.now.frames) c.args.a c.args.b
    (c.two_texts-in-EndsWith.ensures (λ text part. ends part text) (λ x y r h. search rules)))
