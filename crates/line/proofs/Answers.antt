-- Answers of the code and what they mean: their cases, their forms, and which of them have a line.
-- Assumes nothing.
use mathlib.Core.List.{List, [], ◌∷◌}
use Rattle.std.specs.Prelude.{Option, None, Some, option_map, unwrap_or}
use Rattle.std.proofs.Common.{inl, inr, ◌⊎◌}
use mathlib.Core.Path.{ap, refl, subst, ◌∙◌, ◌≡◌}
use Prim.Native.Nat.{ℕ, ◌+◌, ◌<◌, ◌≤◌}
use native.Mathlib.Omega.{arith}
use borrow.Author.Tests.{le-leb, lt-leb}
use lib.ListN.{length, length-append}
use Rattle.writer.specs.Laid.{Laid, Shown}
use Rattle.writer.specs.declared.lay.Output.{Output}
use Rattle.answers.specs.Line.{end_line, refusal_form, refusal_line, refusal_number, verdict_form, verdict_line}
use Rattle.line.specs.Emitted.{Cased, Emitted}
use Rattle.line.specs.Replies.{length_of, number_of}
use Rattle.line.specs.declared.reply.Reply.{Reply as Case}
use Rattle.line.specs.declared.reply.Reply.TheVariants as cases
use Rattle.writer.specs.Meaning.{Held, meaning}
use Rattle.answers.specs.Reply.{fitted, form_of, or_empty, reply}
use Rattle.answers.specs.Reply.{number_of as verdict_number}
use Rattle.answers.specs.Verdict.{Verdict}
use Rattle.writer.specs.declared.answer.Answer.{Answer}
use Rattle.writer.specs.declared.answer.Answer.TheVariants as answers
use Rattle.writer.specs.declared.answer.Outcome.{Outcome}
use Rattle.json_text.specs.Bytes.{Bytes}
use Rattle.json_text.specs.Refusal.{Result, ok, refused}

-- the form of an answer
abbrev pub bare : Bytes → List ℕ → Answer → Bytes
bare s w a = or_empty (form_of (meaning s w a))

-- an answer by its case
abbrev Cases : Answer → ℕ → Case → Type 0
Cases a size r = (s : Bytes) (w : List ℕ) → Cased (meaning s w a) size r

pub cased : {a b : Answer} {size : ℕ} {r : Case} → a ≡ b → Cases b size r → Cases a size r
cased e h s w = rw e (h s w)

-- the answers that refuse nothing
abbrev Granted : Answer → Type 0
Granted a =
    (a ≡ answers.True) ⊎ ((a ≡ answers.False) ⊎ ((a ≡ answers.Unknown) ⊎ ((a ≡ answers.Passed) ⊎
    (((o : Outcome) × (a ≡ answers.Selected o)) ⊎ ((o : Outcome) × (a ≡ answers.Admitted o))))))

pub granted : {a : Answer} {size : ℕ} → Granted a → Cases a size (cases.Line size)
unfolding meaning verdict_number form_of number_of length_of
granted (inl e) = cased e (λ s w. record { number = refl; length = refl })
granted (inr (inl e)) = cased e (λ s w. record { number = refl; length = refl })
granted (inr (inr (inl e))) = cased e (λ s w. record { number = refl; length = refl })
granted (inr (inr (inr (inl e)))) = cased e (λ s w. record { number = refl; length = refl })
granted (inr (inr (inr (inr (inl (o, e)))))) = cased e (λ s w. record { number = refl; length = refl })
granted (inr (inr (inr (inr (inr (o, e)))))) = cased e (λ s w. record { number = refl; length = refl })

pub held : (s : Bytes) (w : List ℕ) {a b : Answer} → Held s w a → a ≡ b → Held s w b
held s w h e = subst (Held s w) e h

pub formed : {o o₁ : Output} (s : Bytes) (w : List ℕ) {a b : Answer} → a ≡ b → Laid o (bare s w b) o₁ → Laid o (bare s w a) o₁
formed s w e l = rw e l

-- all have a line but one
module _ (s : Bytes) (w : List ℕ) where
  pub has_form : (a : Answer) → (a ≡ answers.NoInput → ⊥) → form_of (meaning s w a) ≡ Some (bare s w a)
  unfolding meaning form_of refusal_form
  has_form answers.True e = refl
  has_form answers.False e = refl
  has_form answers.Unknown e = refl
  has_form answers.Passed e = refl
  has_form (answers.Selected o) e = refl
  has_form (answers.Admitted o) e = refl
  has_form answers.NoInput e = absurd (e refl)
  has_form (answers.UnknownExpression t) e = refl
  has_form answers.NoId e = refl
  has_form (answers.RuleFalse r) e = refl
  has_form (answers.RuleUnknown r) e = refl
  has_form answers.NoOutcome e = refl
  has_form (answers.GuardUnknown o) e = refl
  has_form (answers.WrongState t) e = refl
  has_form (answers.NotASource m) e = refl

-- the reply, from the form
reply_form : (n : ℕ) (x : Result Verdict) (f : Bytes) → form_of x ≡ Some f → reply n x ≡ fitted n (verdict_number x) (Some (end_line f))
unfolding reply form_of verdict_number verdict_line refusal_line
reply_form n (ok v) f e = let z : verdict_form v ≡ f = cc in rw z
reply_form n (refused r) f e = rw e

-- no line, one that is too long, and one that fits
module _ (s : Bytes) (w : List ℕ) (a : Answer) (o : Bytes) where
  pub emitted_none : a ≡ answers.NoInput → Emitted s w a o o cases.NoInput
  unfolding reply refusal_number meaning refusal_line number_of length_of
  emitted_none e = rw e (record { number = refl; size = refl; lined = refl; output = refl })

  module _ (given : a ≡ answers.NoInput → ⊥) where
    is_reply : reply (length o) (meaning s w a) ≡ fitted (length o) (verdict_number (meaning s w a)) (Some (end_line (bare s w a)))
    is_reply = reply_form (length o) (meaning s w a) (bare s w a) (has_form s w a given)

    pub emitted_23 : length o ≤ length (bare s w a) → Emitted s w a o o cases.LineTooLong
    unfolding refusal_number number_of length_of
    emitted_23 h =
        let e : reply (length o) (meaning s w a) ≡ record { number = 23; line = None } = is_reply ∙
        rw (lt-leb (length (end_line (bare s w a))) (length o) (omega (arith, length-append (bare s w a) (10 ∷ []))), fitted) in
        record { number = rw e refl; size = rw e refl; lined = rw e refl; output = rw e refl }

    pub emitted_line : {o₁ : Bytes} {q r : ℕ} {r₁ : Case} → length (bare s w a) < length o → Shown (end_line (bare s w a)) o o₁ r → q ≡ length (bare s w a) →
        Cased (meaning s w a) (q + 1) r₁ → Emitted s w a o o₁ r₁
    emitted_line {q = q} {r₁ = r₁} h i j k =
        let l : q + 1 ≡ length (end_line (bare s w a)) = omega (arith, length-append (bare s w a) (10 ∷ []), j) in
        let e : reply (length o) (meaning s w a) ≡ record { number = verdict_number (meaning s w a); line = Some (end_line (bare s w a)) } = is_reply ∙
        rw (le-leb (length (end_line (bare s w a))) (length o) (omega arith), fitted) in
        let z : length_of r₁ ≡ Some (length (end_line (bare s w a))) = k.length ∙ ap (option_map (λ _. q + 1)) (has_form s w a given) ∙ ap Some l in
        record { number = rw e k.number; size = rw e (ap (λ (x : Option ℕ). unwrap_or x 0) z); lined = rw e z; output = rw e i.bytes }
