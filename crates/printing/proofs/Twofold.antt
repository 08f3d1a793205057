-- The third demand of what the program prints, from the two calls of Decide that it makes.
-- Assumes nothing.
use mathlib.Core.Logic.{inl, inr, ◌⊎◌}
use mathlib.Core.Path.{ap, refl, ◌∙◌, ◌≡◌}
use native.Mathlib.Omega.{arith}
use Rattle.answers.proofs.Repeat.{demand}
use Rattle.answers.specs.Decide.{decide_call}
use Rattle.answers.specs.Demand.{Demand, Promised, RefusedAgain, Step, Unobservable, at_guard, at_rule, refusal_reply}
use Rattle.answers.specs.Ended.{Ended, answered, line_too_long, with_line, without_line}
use Rattle.answers.specs.Entry.{Reply, decide, work_words}
use Rattle.answers.specs.Line.{number_line, refusal_line}
use Rattle.decision.proofs.Numbers.{every_call_ends}
use Rattle.printing.specs.Printed.{intake, printed}
use Rattle.printing.specs.Repeated.{PrintsRepeat, line_of}
use Rattle.json_text.specs.Bytes.{Bytes}
use Rattle.json_text.specs.Refusal.{Refusal}
use Rattle.semantics.specs.Names.{Names}

-- the call that the program makes
abbrev called : Bytes → Reply
called s = decide s work_words 65536

called_ends : (s : Bytes) → Ended (called s)
unfolding decide
called_ends s = every_call_ends decide_call s work_words 65536

-- 23 is printed as the number alone
prints_23 : {r : Reply} → Ended r → r.number ≡ 23 → printed r ≡ number_line 23
prints_23 (answered line) e = absurd (omega (arith, e))
prints_23 (with_line n line a b) e = absurd (omega (arith, b, e))
prints_23 (without_line n a b) e = ap number_line e
prints_23 line_too_long e = refl

-- an unobservable refusal has a line, which is printed
prints_line : {q : Refusal} {k : Step} {ns : Names} → Unobservable q k ns → printed (refusal_reply q) ≡ line_of q
unfolding refusal_line
prints_line at_rule = refl
prints_line at_guard = refl

pub prints_repeat : PrintsRepeat
unfolding PrintsRepeat Demand intake
prints_repeat s s' old new h = record { same_or_refused = by both.same_or_refused; same_where_unchanged = λ u. ap printed (both.same_where_unchanged u) }
  where
    both : Promised old new refusal_reply (called s) (called s')
    both =
        demand
        s
        s'
        work_words
        work_words
        65536
        65536
        old
        new
        (record {
          accepted = record { enough_work = omega arith; reads = h.accepted; enough_output = λ e. h.enough_output (prints_23 (called_ends s) e) };
          accepted_again = record { enough_work = omega arith; reads = h.accepted_again; enough_output = λ e. h.enough_output_again (prints_23 (called_ends s') e) };
          comparable = h.comparable;
        })

    by :
        (called s' ≡ called s) ⊎ ((r : RefusedAgain old new) × (called s' ≡ refusal_reply r.refusal)) →
        (intake s' ≡ intake s) ⊎ ((r : RefusedAgain old new) × (intake s' ≡ line_of r.refusal))
    by (inl e) = inl (ap printed e)
    by (inr r) = inr (r.0, ap printed r.1 ∙ prints_line r.0.unobservable)
