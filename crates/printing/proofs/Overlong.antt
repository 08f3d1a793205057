-- More than 32,768 bytes are refused whatever they are; so 32,769 of them tell as much as all.
-- Assumes nothing.
use mathlib.Core.Bool.{Bool, false, true}
use Rattle.std.specs.Prelude.{None}
use mathlib.Core.Path.{ap, refl, sym, ◌∙◌, ◌≡◌}
use Prim.Native.Nat.{ℕ, ◌<◌}
use native.Mathlib.Omega.{arith}
use lib.Dec.{leb}
use lib.ListN.{length, length-take, take}
use lib.Seq.{take_all}
use borrow.Author.Tests.{leb-false, leb-true, lt-leb}
use Rattle.answers.specs.Entry.{Reply, call, enough, reply, work_words}
use Rattle.answers.specs.Line.{refusal_form, refusal_line, refusal_number}
use Rattle.answers.specs.Verdict.{Verdict}
use Rattle.calling.specs.declared.Call.{Call}
use Rattle.calling.specs.declared.Call.TheVariants as calls
use Rattle.json_text.specs.Bytes.{Bytes}
use Rattle.json_text.specs.Json.{Value}
use Rattle.json_text.specs.Limits.{max_bytes}
use Rattle.json_text.specs.Reader.{json}
use Rattle.json_text.specs.Refusal.{Result, refused, too_long, ◌>>=◌}
use Rattle.members.specs.Condition.{Condition}
use Rattle.members.specs.Sheet.{Sheet, checked, read_sheet}
use Rattle.decision.specs.Calls.{verdict_of}
use Rattle.decision.proofs.Calls.{of_verdict}
use Rattle.printing.specs.Printed.{answer_to, intake, printed}

long_text : (s : Bytes) → 32768 < length s → json s ≡ refused too_long
unfolding json
long_text s h = rw (lt-leb (length s) max_bytes h, json)

long_call : (f : Sheet Condition → Result Verdict) (s : Bytes) (size : ℕ) → 32768 < length s → call f s work_words size ≡ record { number = 2; line = None }
unfolding call enough read_sheet reply refusal_number refusal_line refusal_form
long_call f s size h = ap {B = Reply} (λ (x : Result Value). reply size ((x >>= checked) >>= f)) (long_text s h)

pub long_answer : (x : Call) (s : Bytes) → 32768 < length s → answer_to x s ≡ printed (record { number = 2; line = None })
long_answer x s h = ap printed (of_verdict x s work_words 65536 ∙ long_call (verdict_of x) s 65536 h)

-- the first 32,769 bytes get the answer of all
pub cut_answer : (x : Call) (s : Bytes) → answer_to x (take 32769 s) ≡ answer_to x s
cut_answer x s = go (leb (length s) 32769) refl
  where
    go : (b : Bool) → leb (length s) 32769 ≡ b → answer_to x (take 32769 s) ≡ answer_to x s
    go true q = ap (answer_to x) (take_all 32769 s (leb-true (length s) 32769 q))
    go false q =
        let h : 32769 < length s = leb-false (length s) 32769 q in
        long_answer x (take 32769 s) (simp length-take (omega arith)) ∙ sym (long_answer x s (omega arith))

pub long_intake : (s t : Bytes) → 32768 < length s → 32768 < length t → intake s ≡ intake t
unfolding intake
long_intake s t g h = long_answer calls.Decide s g ∙ sym (long_answer calls.Decide t h)
