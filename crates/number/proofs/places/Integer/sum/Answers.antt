-- `Integer::sum` meets its contract: by the signs, and by the magnitudes where they differ.
-- Assumes nothing.
use Rattle.std.proofs.Common.{◌≡◌, arith, false, length, refl, sym, ◌∙◌}
use Rattle.std.proofs.lemmas.Grind.{common_steps}
use Rattle.std.proofs.lemmas.List.{nil_from_length}
use Rattle.json_text.specs.Bytes.{Bytes, natural}
use Rattle.number.proofs.Exact.{natural_nil}
use Rattle.number.proofs.Signs.{alike, cmp_of, held_same, is_same, sum_first, sum_none, sum_nothing, sum_same, sum_second, unlike}
use Rattle.number.proofs.places.Integer.sum.Goals.{in-Greater, in-Less, then-is_empty-via-else-is_empty+then-negative-less, then-is_empty-via-then-is_empty}
use Rattle.number.proofs.places.Integer.sum.Goals as goal

-- nothing is spelled by no bytes
nothing : (s : Bytes) → length s ≡ 0 → natural 0 s ≡ 0
nothing s h = rw (nil_from_length s h, natural_nil) refl

pub returns-then-is_empty-clause-same : goal.returns-then-is_empty-clause-same
returns-then-is_empty-clause-same c =
    held_same c.parse.result c.args.less c.parse.ensures.negative_value _
    (elim c.then-is_empty.branch [
      | then-is_empty-via-then-is_empty w ↦ sum_none _ _ _ c.args.negative c.args.less (nothing c.args.s.now (grind (arith, common_steps))) c.parse.ensures.digits_value
      | then-is_empty-via-else-is_empty+then-negative-less w ↦ sum_same _ _ _ c.args.negative c.args.less (alike _ _ w.if-negative-less.true) c.parse.ensures.digits_value
    ])

pub returns-in-Equal-clause-same : goal.returns-in-Equal-clause-same
returns-in-Equal-clause-same c =
    held_same c.parse-in-Equal.result false c.parse-in-Equal.ensures.negative_value _
    (sum_nothing _ _ _ c.args.negative c.args.less (unlike _ _ c.if-negative-less.false)
    (omega (arith, c.parse-in-Equal.ensures.digits_value, natural_nil 0))
    (omega (arith, is_same (cmp_of _ _ (sym c.in-Equal.ensures)), c.parse-x.ensures.digits_value, c.parse-y.ensures.digits_value, natural_nil 0)))

pub returns-clause-same : goal.returns-clause-same
returns-clause-same c =
    elim c.match-order_digits.branch [
      | in-Less w ↦
          held_same c.minus.result c.args.less (rw w.t-19-is at c.minus.ensures.negative_value ∙ c.parse-y.ensures.negative_value) _
          (sum_second _ _ _ c.args.negative c.args.less (unlike _ _ c.if-negative-less.false)
          (omega (arith, rw w.t-19-is at c.minus.ensures.left, c.parse-x.ensures.digits_value, c.parse-y.ensures.digits_value, natural_nil 0)))
      | in-Greater w ↦
          held_same c.minus.result c.args.negative (rw w.t-19-is at c.minus.ensures.negative_value ∙ c.parse-x.ensures.negative_value) _
          (sum_first _ _ _ c.args.negative c.args.less (unlike _ _ c.if-negative-less.false)
          (omega (arith, rw w.t-19-is at c.minus.ensures.left, c.parse-x.ensures.digits_value, c.parse-y.ensures.digits_value, natural_nil 0)))
    ]
