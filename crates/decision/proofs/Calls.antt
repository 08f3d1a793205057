-- The six calls as one: each is the call of its verdict, and answers by its case.
-- Assumes nothing.
use mathlib.Core.List.{List}
use mathlib.Core.Path.{refl, subst, sym, ◌≡◌}
use Prim.Native.Nat.{ℕ}
use Rattle.writer.specs.declared.answer.Answer.{Answer}
use Rattle.json_text.specs.Bytes.{Bytes}
use Rattle.rules.specs.Told.{Answered}
use Rattle.sheet.specs.Accepted.{Accepted}
use Rattle.members.specs.Condition.{Condition}
use Rattle.members.specs.Sheet.{Sheet}
use Rattle.sheet.specs.declared.shape.Members.{Members}
use Rattle.decision.specs.Calls.{call_of, verdict_of}
use Rattle.answers.specs.Entry.{admit, call, check_invariants, check_preconditions, decide, evaluate, select}
use Rattle.calling.specs.declared.Call.{Call}
use Rattle.calling.specs.declared.Call.TheVariants as calls

pub of_verdict : (x : Call) (s : Bytes) (words size : ℕ) → call_of x s words size ≡ call (verdict_of x) s words size
unfolding evaluate check_preconditions check_invariants select admit decide
of_verdict calls.Evaluate s words size = refl
of_verdict calls.Preconditions s words size = refl
of_verdict calls.Invariants s words size = refl
of_verdict calls.Select s words size = refl
of_verdict (calls.Admit place) s words size = refl
of_verdict calls.Decide s words size = refl

-- what the call x promises of an accepted sheet
abbrev pub Answers : Bytes → List ℕ → List ℕ → Members → Answer → Call → Type 0
Answers s w w' m a x = (sheet : Sheet Condition) → Accepted s w m sheet → Answered s w w' (verdict_of x sheet) a

pub by_case : {s : Bytes} {w w' : List ℕ} {m : Members} {a : Answer} {x y : Call} → x ≡ y → Answers s w w' m a y → Answers s w w' m a x
by_case {s} {w} {w'} {m} {a} e h = subst (Answers s w w' m a) (sym e) h
