-- Every line's length fits 32 bits, and every number is at most 23: what a call needs that gives both back in one word.
-- Assumes nothing.
use mathlib.Core.Bool.{Bool, false, true}
use mathlib.Core.List.{List, [], ◌∷◌}
use Rattle.std.specs.Prelude.{Option, None, Some}
use mathlib.Core.Path.{refl, ◌≡◌}
use Prim.Native.Nat.{ℕ, ◌+◌, ◌≤◌, ◌<◌}
use native.Mathlib.Omega.{arith}
use borrow.Author.Tests.{leb-true}
use lib.Dec.{leb}
use lib.ListN.{length, length-append}
use Rattle.answers.specs.Line.{
  each_line,
  end_line,
  false_number,
  refusal_form,
  refusal_line,
  refusal_number,
  unknown_number,
  verdict_form,
  verdict_line,
  decimal_digits,
  listed,
  message_or,
  name_or,
  names,
  quoted,
  quoted_or,
}
use Rattle.json_text.specs.Bytes.{Bytes, ascii}
use Rattle.json_text.specs.Refusal.{
  Refusal,
  Result,
  guard_unknown,
  invariants,
  line_too_long,
  no_id,
  no_input,
  no_outcome,
  not_a_source,
  not_carried,
  not_json,
  not_utf8,
  number_too_long,
  ok,
  preconditions,
  refused,
  repeated_name,
  rule_false,
  rule_unknown,
  too_deep,
  too_long,
  too_many_nodes,
  unknown_expression,
  work_too_small,
  wrong_shape,
  wrong_sheet,
  wrong_state,
}
use Rattle.json_text.specs.Spans.{text_at}
use Rattle.json_text.specs.Table.{value_at}
use Rattle.writer.specs.Meaning.{Held, meaning, names_in, rules_of}
use Rattle.answers.specs.Reply.{Reply, fitted, form_of, line_size, or_empty, reply}
use Rattle.answers.specs.Verdict.{Verdict}
use Rattle.writer.specs.declared.answer.Answer.{Answer}
use Rattle.writer.specs.declared.answer.Answer.TheVariants as answers
use Rattle.writer.specs.Texts.{text_of, texts_in}
use Rattle.line.proofs.Lengths.{digits_short, form_short, names_short, quoted_short, sources_short, text_short}

-- the line of an answer
module _ (s : Bytes) (w : List ℕ) (h : length s ≤ 32768) where
  text_quoted : (a : ℕ) → length (quoted (text_at s a)) ≤ 786434
  text_quoted a = omega (arith, quoted_short (text_at s a), text_short s a h)

  text_or : (d : Bytes) (t : Option ℕ) → length d ≤ 786434 → length (quoted_or d (text_of s t)) ≤ 786434
  unfolding text_of
  text_or d None k = k
  text_or d (Some a) k = text_quoted a

  digits : (n : ℕ) → length (decimal_digits n) ≤ 20
  digits n = digits_short 20 n []

  bare_short : (a : Answer) → Held s w a → length (or_empty (form_of (meaning s w a))) ≤ 3230000000
  unfolding meaning form_of Held verdict_form refusal_form
  bare_short answers.True k = omega (arith, form_short (ascii "truth" ∷ ascii "true" ∷ names (names_in s w) ∷ []), names_short s w h)
  bare_short answers.False k = omega (arith, form_short (ascii "truth" ∷ ascii "false" ∷ names (names_in s w) ∷ []), names_short s w h)
  bare_short answers.Unknown k = omega (arith, form_short (ascii "truth" ∷ ascii "unknown" ∷ names (names_in s w) ∷ []), names_short s w h)
  bare_short answers.Passed k = omega (arith, form_short (ascii "passed" ∷ []))
  bare_short (answers.Selected o) k =
      omega (
        arith,
        form_short (ascii "selected" ∷ decimal_digits o.place ∷ quoted (text_at s o.name) ∷ []),
        digits o.place,
        text_quoted
            o.name,
      )
  bare_short (answers.Admitted o) k =
      omega (
        arith,
        form_short (ascii "admitted" ∷ decimal_digits o.place ∷ quoted (text_at s o.name) ∷ []),
        digits o.place,
        text_quoted
            o.name,
      )
  bare_short answers.NoInput k = omega arith
  bare_short (answers.UnknownExpression e) k = omega (arith, form_short (ascii "refused" ∷ decimal_digits 13 ∷ quoted (text_at s e) ∷ []), digits 13, text_quoted e)
  bare_short answers.NoId k = omega (arith, form_short (ascii "refused" ∷ decimal_digits 14 ∷ quoted (ascii "$id") ∷ []), digits 14)
  bare_short (answers.RuleFalse r) k =
      let n = false_number (rules_of r.rules) in
      let name = text_or (ascii "()") r.name (omega arith) in
      let message = text_or (quoted (ascii "condition evaluated to false")) r.message (omega arith) in
      omega (
        arith,
        form_short
            (ascii "refused" ∷ decimal_digits n ∷ decimal_digits r.place ∷ name_or (text_of s r.name) ∷ message_or
            (ascii "condition evaluated to false") (text_of s r.message) ∷ []),
        digits n,
        digits r.place,
      )
  bare_short (answers.RuleUnknown r) k =
      let n = unknown_number (rules_of r.rules) in
      let name = text_or (ascii "()") r.name (omega arith) in
      let message = text_or (quoted (ascii "condition could not be evaluated")) r.message (omega arith) in
      omega (
        arith,
        form_short
            (ascii "refused" ∷ decimal_digits n ∷ decimal_digits r.place ∷ name_or (text_of s r.name) ∷ message_or
            (ascii "condition could not be evaluated") (text_of s r.message) ∷ names (names_in s w) ∷ []),
        digits n,
        digits r.place,
        names_short s w h,
      )
  bare_short answers.NoOutcome k = omega (arith, form_short (ascii "refused" ∷ decimal_digits 19 ∷ []), digits 19)
  bare_short (answers.GuardUnknown o) k =
      omega (
        arith,
        form_short
            (ascii "refused" ∷ decimal_digits 20 ∷ decimal_digits o.place ∷ quoted (text_at s o.name) ∷ names (names_in s w) ∷ []),
        digits
            20,
        digits o.place,
        text_quoted o.name,
        names_short s w h,
      )
  bare_short (answers.WrongState e) k = omega (arith, form_short (ascii "refused" ∷ decimal_digits 21 ∷ quoted (text_at s e) ∷ []), digits 21, text_quoted e)
  bare_short (answers.NotASource m) k =
      let o = m.outcome in
      omega (
        arith,
        form_short
            (ascii "refused" ∷ decimal_digits 22 ∷ decimal_digits o.place ∷ quoted (text_at s o.name) ∷ quoted (text_at s m.state) ∷
            listed (ascii "from") (texts_in (value_at s w m.from)) ∷ []),
        digits 22,
        digits o.place,
        text_quoted o.name,
        text_quoted
            m.state,
        sources_short h k.2,
      )

-- what is given back: the form and LF, or nothing
fitted_size : (n m : ℕ) (f : Option Bytes) → line_size (fitted n m (each_line f)) ≤ length (or_empty f) + 1
fitted_size n m None = omega arith
fitted_size n m (Some f) = go (leb (length (end_line f)) n)
  where
    go : (b : Bool) → line_size (elim b [ true ↦ record { number = m; line = Some (end_line f) } | false ↦ record { number = refusal_number line_too_long; line = None } ]) ≤ length f + 1
    go true = simp length-append (omega arith)
    go false = omega arith

reply_size : (n : ℕ) (x : Result Verdict) → line_size (reply n x) ≤ length (or_empty (form_of x)) + 1
unfolding reply form_of verdict_line refusal_line
reply_size n (ok v) = fitted_size n 0 (Some (verdict_form v))
reply_size n (refused r) = fitted_size n (refusal_number r) (refusal_form r)

pub line_short : (s : Bytes) (w : List ℕ) (a : Answer) (n : ℕ) → length s ≤ 32768 → Held s w a → line_size (reply n (meaning s w a)) < 4294967296
line_short s w a n h k = omega (arith, reply_size n (meaning s w a), bare_short s w h a k)

-- numbers go up to 23
refusal_small : (r : Refusal) → refusal_number r ≤ 23
unfolding refusal_number
refusal_small work_too_small = omega arith
refusal_small too_long = omega arith
refusal_small not_utf8 = omega arith
refusal_small not_json = omega arith
refusal_small too_deep = omega arith
refusal_small number_too_long = omega arith
refusal_small too_many_nodes = omega arith
refusal_small repeated_name = omega arith
refusal_small wrong_sheet = omega arith
refusal_small wrong_shape = omega arith
refusal_small not_carried = omega arith
refusal_small no_input = omega arith
refusal_small (unknown_expression e) = omega arith
refusal_small no_id = omega arith
refusal_small (rule_false preconditions i n m) = omega arith
refusal_small (rule_false invariants i n m) = omega arith
refusal_small (rule_unknown preconditions i n m ns) = omega arith
refusal_small (rule_unknown invariants i n m ns) = omega arith
refusal_small no_outcome = omega arith
refusal_small (guard_unknown i n ns) = omega arith
refusal_small (wrong_state s) = omega arith
refusal_small (not_a_source i n s from) = omega arith
refusal_small line_too_long = omega arith

abbrev Small : Reply → Type 0
Small r = r.number ≤ 23

fitted_small : (n m : ℕ) (f : Option Bytes) → m ≤ 23 → Small (fitted n m f)
unfolding refusal_number
fitted_small n m None h = h
fitted_small n m (Some l) h = go (leb (length l) n)
  where
    go : (b : Bool) → Small (elim b [ true ↦ record { number = m; line = Some l } | false ↦ record { number = refusal_number line_too_long; line = None } ])
    go true = h
    go false = omega arith

pub number_small : (n : ℕ) (x : Result Verdict) → (reply n x).number ≤ 23
unfolding reply
number_small n (ok v) = fitted_small n 0 (Some (verdict_line v)) (omega arith)
number_small n (refused r) = fitted_small n (refusal_number r) (refusal_line r) (refusal_small r)

-- no line is empty: where the size is 0 there is none
abbrev NoneEmpty : Reply → Type 0
NoneEmpty r = line_size r ≡ 0 → r.line ≡ None

fitted_none : (n m : ℕ) (f : Option Bytes) → NoneEmpty (fitted n m (each_line f))
fitted_none n m None e = refl
fitted_none n m (Some l) e = go (leb (length (end_line l)) n) e
  where
    go : (b : Bool) → NoneEmpty (elim b [ true ↦ record { number = m; line = Some (end_line l) } | false ↦ record { number = refusal_number line_too_long; line = None } ])
    go true z = absurd (omega (arith, z, length-append l (10 ∷ [])))
    go false z = refl

pub no_line_lem : (n : ℕ) (x : Result Verdict) → line_size (reply n x) ≡ 0 → (reply n x).line ≡ None
unfolding reply
no_line_lem n (ok v) = fitted_none n 0 (Some (verdict_form v))
no_line_lem n (refused r) = fitted_none n (refusal_number r) (refusal_form r)

-- a line that is given back fits the output
fitted_fits : (n m : ℕ) (f : Option Bytes) → line_size (fitted n m f) ≤ n
fitted_fits n m None = omega arith
fitted_fits n m (Some l) = go (leb (length l) n) refl
  where
    go : (b : Bool) → leb (length l) n ≡ b →
        line_size
        (elim b [ true ↦ record { number = m; line = Some l } | false ↦ record { number = refusal_number line_too_long; line = None } ]) ≤ n
    go true e = leb-true (length l) n e
    go false e = omega arith

pub line_fits : (n : ℕ) (x : Result Verdict) → line_size (reply n x) ≤ n
unfolding reply
line_fits n (ok v) = fitted_fits n 0 (Some (verdict_line v))
line_fits n (refused r) = fitted_fits n (refusal_number r) (refusal_line r)
