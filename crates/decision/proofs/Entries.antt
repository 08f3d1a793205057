-- The calls on a sheet's bytes, from what opening it says: refused with its number alone, or answered by the call on the sheet.
-- Assumes nothing.
use mathlib.Core.List.{List}
use Rattle.std.specs.Prelude.{Option, None, Result as Fallible, Ok, Err, unwrap_or}
use mathlib.Core.Path.{ap, refl, subst, sym, ◌∙◌, ◌≡◌}
use Prim.Native.Nat.{ℕ, ◌≤◌}
use native.Mathlib.Omega.{arith}
use lib.ListN.{length}
use Rattle.answers.specs.Line.{refusal_line, refusal_number}
use Rattle.writer.specs.Meaning.{Held, meaning}
use Rattle.answers.specs.Reply.{line_size}
use Rattle.answers.specs.Verdict.{Verdict}
use Rattle.writer.specs.declared.answer.Answer.{Answer}
use Rattle.json_text.specs.Bytes.{Bytes}
use Rattle.json_text.specs.Refusal.{Refusal, Result, ok, refused, ◌>>=◌}
use Rattle.sheet.specs.Accepted.{Accepted}
use Rattle.members.specs.Condition.{Condition}
use Rattle.members.specs.Sheet.{Sheet, read_sheet}
use Rattle.sheet.specs.declared.shape.Members.{Members}
use Rattle.decision.specs.Called.{Called, Refuses}
use Rattle.decision.specs.Calls.{call_of, verdict_of}
use Rattle.answers.specs.Entry.{Reply, call, enough, fitted, output_after, reply, work_after}
use Rattle.sheet.specs.Accepted.{Known}
use Rattle.opening.specs.Opening.{Bounded, OpenedAs, Opening, Ready, Stopped, opening, why_not}
use Rattle.rules.specs.Told.{Answered}
use Rattle.calling.specs.declared.Call.{Call}
use Rattle.opening.specs.declared.open.NotOpened.{NotOpened}
use Rattle.decision.proofs.Calls.{Answers, of_verdict}
use Rattle.opening.proofs.Clearing.{same_left}
use Rattle.opening.proofs.Opening.{sheet_opened}
use Rattle.paths.proofs.Words.{same_row_word}
use Rattle.line.specs.Emitted.{Emitted, line_length}
use Rattle.line.specs.Replies.{size_of}
use Rattle.line.specs.declared.reply.Reply.{Reply as Case}
use Rattle.line.proofs.Bounds.{line_short, no_line_lem, number_small}
use Rattle.json_text.proofs.Complete.{read_exactly}
use Rattle.json_text.specs.Json.{Value}
use Rattle.json_text.specs.Reader.{json}
use Rattle.json_text.specs.Table.{after_at}

call_opened : (f : Sheet Condition → Result Verdict) (s : Bytes) (words size : ℕ) → call f s words size ≡ reply size (opening words s >>= f)
unfolding call opening
call_opened f s words size = ap (reply size) (go (enough words))
  where
    go : {A : Type 0} (x : Result A) → (x >>= (λ _. read_sheet s >>= (λ (y : Sheet Condition). f y))) ≡ ((x >>= (λ _. read_sheet s)) >>= f)
    go (ok a) = refl
    go (refused r) = refl

unlined : (size : ℕ) (why : Refusal) → refusal_line why ≡ None → reply size (refused why) ≡ record { number = refusal_number why; line = None }
unfolding reply
unlined size why e = ap (fitted size (refusal_number why)) e

-- an accepted sheet is short, every number is at most 23, and a line fits the output
read_short : (s : Bytes) (sheet : Sheet Condition) → read_sheet s ≡ ok sheet → length s ≤ 32768
unfolding read_sheet
read_short s sheet e = go (json s) refl
  where
    go : (x : Result Value) → json s ≡ x → length s ≤ 32768
    go (ok v) q = ((read_exactly s v).0 q).bytes
    go (refused r) q = let z : ◌≡◌ {A = Result (Sheet Condition)} (refused r) (ok sheet) = rw q at e in let y : ◌≡◌ {A = ℕ} 0 1 = cc in omega arith

pub call_small : (f : Sheet Condition → Result Verdict) (s : Bytes) (words size : ℕ) → (call f s words size).number ≤ 23
call_small f s words size = rw call_opened (number_small size (opening words s >>= f))

pub call_no_line : (f : Sheet Condition → Result Verdict) (s : Bytes) (words size : ℕ) → line_size (call f s words size) ≡ 0 → (call f s words size).line ≡ None
call_no_line f s words size = rw call_opened (no_line_lem size (opening words s >>= f))

-- the same, of each call
call_of_opened : (x : Call) (s : Bytes) (words size : ℕ) → call_of x s words size ≡ reply size (opening words s >>= verdict_of x)
call_of_opened x s words size = of_verdict x s words size ∙ call_opened (verdict_of x) s words size

module _ {s : Bytes} {w w₁ : List ℕ} {r : Fallible Members NotOpened} (t : Opening s w w₁ r) (size : length w₁ ≡ length w) where
  pub called_refused :
      (x : Call) {w' : List ℕ} → w' ≡ work_after w₁ → (why : NotOpened) → r ≡ Err why → {n : Case} → Refuses (why_not why) n → (o : Bytes) →
      Called (call_of x s (length w) (length o)) w w' o o n
  unfolding OpenedAs
  called_refused x z why q {n} g o =
      let h : Stopped (opening (length w) s) why = subst (OpenedAs (length w) s w₁) q t.is in
      let e : call_of x s (length w) (length o) ≡
      record { number = refusal_number (why_not why); line = None } = call_of_opened x s (length w) (length o) ∙
      ap {B = Reply} (λ (y : Result (Sheet Condition)). reply (length o) (y >>= verdict_of x)) h.is ∙
      unlined (length o) (why_not why) h.no_line in
      let none : size_of n ≡ 0 = ap (λ (y : Option ℕ). unwrap_or y 0) g.lined in
      record {
        is_number = g.is_number ∙ ap (λ (y : Reply). y.number) (sym e);
        is_size = none ∙ ap line_size (sym e);
        lined = g.lined ∙ ap line_length (sym e);
        short = omega (arith, none);
        output = ap (λ (y : Reply). output_after y o) (sym e);
        work = z ∙ same_left w w₁ size t.small t.past;
      }

  module _ (m : Members) (q : r ≡ Ok m) where
    ready : Ready (length w) s w₁ m
    unfolding OpenedAs
    ready = subst (OpenedAs (length w) s w₁) q t.is

    pub opened_large : (16384 ≤ length w₁) × Known (Accepted s w₁ m)
    opened_large = (omega (arith, ready.long), record { given = ready.sheet; known = ready.accepted })

    -- the call answers over the table that it leaves, w₂
    module _ (x : Call) {w₂ : List ℕ} {a : Answer} (h : Answers s w₁ w₂ m a x) where
      its : Answered s w₁ w₂ (verdict_of x ready.sheet) a
      its = h ready.sheet ready.accepted

      pub held_answer : Held s w₂ a
      held_answer = its.told.held

      -- the rows stay, and with them where they end
      pub still_bounded : (16384 ≤ length w₂) × Bounded w₂
      still_bounded =
          let e : after_at w₂ 0 ≡ after_at w₁ 0 = same_row_word w₁ w₂ its.rows 2 (omega arith) in (
            omega (arith, its.long, size, ready.long),
            record {
              few = omega (arith, e, ready.bounded.few);
              behind = λ i p q. same_row_word w₁ w₂ its.rows i q ∙ ready.bounded.behind i (omega (arith, e, p)) q;
            },
          )

      pub called_sheet : {o o' : Bytes} {n : Case} → Emitted s w₂ a o o' n → {w' : List ℕ} → w' ≡ work_after w₂ →
          Called (call_of x s (length w) (length o)) w w' o o' n
      called_sheet {o} {o'} {n} g z =
          let i : opening (length w) s ≡ ok ready.sheet = sheet_opened (length w) s ready.long ∙ ready.accepted.reads in
          let e : reply (length o) (meaning s w₂ a) ≡ call_of x s (length w) (length o) = ap (reply (length o)) its.told.means ∙
          sym
          (call_of_opened x s (length w) (length o) ∙
          ap {B = Reply} (λ (y : Result (Sheet Condition)). reply (length o) (y >>= verdict_of x)) i) in
          record {
            is_number = g.number ∙ ap (λ (y : Reply). y.number) e;
            is_size = g.size ∙ ap line_size e;
            lined = g.lined ∙ ap line_length e;
            short = rw g.size (line_short s w₂ a (length o) (read_short s ready.sheet ready.accepted.reads) held_answer);
            output = g.output ∙ ap (λ (y : Reply). output_after y o) e;
            work = z ∙ same_left w w₂ (its.long ∙ size) (λ k. absurd (omega (arith, ready.long))) (λ k. its.further ∙ t.past k);
          }
