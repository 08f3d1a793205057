-- No line is longer than 294,976 bytes: three times the sheet for each of a name, a message and the names, and a few words.
-- Assumes nothing.
use mathlib.Core.Bool.{Bool, false, true}
use mathlib.Core.List.{List, [], ◌∷◌}
use Rattle.std.specs.Prelude.{Option, None, Some}
use mathlib.Core.Path.{refl, ◌≡◌}
use Prim.Native.Nat.{suc, ℕ, ◌+◌, ◌≤◌}
use native.Mathlib.Omega.{arith}
use lib.Dec.{leb}
use lib.ListN.{length, length-append}
use Rattle.answers.specs.Admission.{admit, is_wrong}
use Rattle.answers.specs.Decide.{admit_call, decide_call, evaluate_call, invariants_call, preconditions_call, select_call}
use Rattle.answers.specs.Entry.{call, enough, work_words}
use Rattle.answers.specs.Line.{
  decimal_digits,
  each_line,
  each_quoted,
  end_line,
  false_number,
  listed,
  message_or,
  name_or,
  names,
  quoted,
  quoted_or,
  refusal_form,
  refusal_line,
  refusal_number,
  spaced,
  truth_word,
  unknown_number,
  verdict_form,
  verdict_line,
}
use Rattle.answers.specs.Outcomes.{Placed, at, eligible, first_from, guard, select}
use Rattle.answers.specs.Reply.{fitted, line_size, or_empty, reply}
use Rattle.decision.proofs.Calls.{of_verdict}
use Rattle.decision.specs.Calls.{call_of, verdict_of}
use Rattle.calling.specs.declared.Call.{Call}
use Rattle.calling.specs.declared.Call.TheVariants as calls
use Rattle.answers.specs.Rules.{check}
use Rattle.answers.specs.Verdict.{Verdict, admitted, answered, passed, selected}
use Rattle.json_text.proofs.FirstFault.{first_fault}
use Rattle.json_text.specs.Bytes.{Bytes, ascii, is_one_of}
use Rattle.json_text.specs.Json.{Members, Value, Values, array, bool, cons, elements, empty, entries, is_null, member, nil, null, number, object, text}
use Rattle.json_text.specs.Reader.{json}
use Rattle.json_text.specs.Refusal.{
  Refusal,
  Result,
  Rules,
  guard_unknown,
  line_too_long,
  no_input,
  no_outcome,
  not_a_source,
  ok,
  or_else,
  refused,
  rule_false,
  rule_unknown,
  work_too_small,
  wrong_sheet,
  wrong_state,
  ◌>>=◌,
}
use Rattle.json_text.specs.Sorted.{sorted}
use Rattle.line.proofs.Lengths.{digits_short, form_short}
use Rattle.members.specs.Condition.{Condition, condition}
use Rattle.members.specs.Kinds.{a_text, each_of, not_null, some_texts}
use Rattle.members.specs.Outcome.{Effect, Outcome, moves, stays}
use Rattle.members.specs.Rule.{Rule}
use Rattle.members.specs.Sheet.{Sheet, checked, read_sheet, sound, written}
use Rattle.semantics.proofs.Parts.{All, Entries, Hereditary, Operands}
use Rattle.semantics.specs.Evaluate.{Answer, certain, evaluate}
use Rattle.semantics.specs.Names.{Names, ascending}
use Rattle.semantics.specs.Semantics.{kernel}
use Rattle.semantics.specs.Truth.{False, True, Truth, Unknown}
use Rattle.exports.proofs.Named.{Among, Fine, Light, Shown, among_light, evaluate_fine, fine, fine_then, in_left, in_right, shown}
use Rattle.exports.proofs.Reading.{Anything, From, Maybe, OutcomeOf, RuleOf, SheetOf, TextHas, condition_fine, fault_shown, not_sheet, object_of, sheet_of}
use Rattle.exports.proofs.Texts.{read_light, texts, texts_in, texts_of, weight, weight_append}

-- ---- forms
spaced_short : (ts : List Bytes) → length (spaced (each_quoted ts)) ≤ weight ts
unfolding spaced each_quoted weight
spaced_short [] = omega arith
spaced_short (t ∷ []) = omega arith
spaced_short (t ∷ u ∷ ts) = simp length-append (omega (arith, spaced_short (u ∷ ts)))

listed_short : (w : Bytes) (ts : List Bytes) → length (listed w ts) ≤ length w + 3 + weight ts
unfolding spaced each_quoted weight
listed_short w [] = simp length-append (omega arith)
listed_short w (t ∷ ts) = simp length-append (omega (arith, spaced_short (t ∷ ts)))

digits : (n : ℕ) → length (decimal_digits n) ≤ 20
digits n = digits_short 20 n []

abbrev Short : Verdict → Type 0
Short v = length (verdict_form v) ≤ 294975

-- ---- what is light is light in all its parts
module _ (ts : List Bytes) (light : weight ts ≤ 98304) where
  light_in : (vs : Values) → weight (texts_in vs) ≤ 98304 → Among ts (texts_in vs) → All (Light ts light) (elements vs)
  unfolding texts
  light_in nil h k = tt
  light_in (cons v vs) h k =
      let e = weight_append (texts v) (texts_in vs) in
      (record { few = omega (arith, e); among = λ x m. k x (in_left (texts v) (texts_in vs) m) }, light_in vs (omega (arith, e)) (λ x m. k x (in_right (texts v) (texts_in vs) m)))

  light_of : (ms : Members) → weight (texts_of ms) ≤ 98304 → Among ts (texts_of ms) → Entries (Light ts light) (entries ms)
  unfolding texts
  light_of empty h k = tt
  light_of (member n v ms) h k =
      let e = weight_append (texts v) (texts_of ms) in
      (record { few = omega (arith, e); among = λ x m. k x (in_left (texts v) (texts_of ms) m) }, light_of ms (omega (arith, e)) (λ x m. k x (in_right (texts v) (texts_of ms) m)))

  light_parts : Hereditary (Light ts light)
  unfolding texts
  light_parts = record { in_array = λ vs h. light_in vs h.few h.among; in_object = λ ms h. light_of ms h.few h.among }

  text_light : {t : Bytes} → Light ts light (text t) → length (quoted t) ≤ 98303
  unfolding texts weight
  text_light h = omega (arith, h.few)

each_texts : (vs : Values) → Fine (λ us. weight us ≤ weight (texts_in vs)) (each_of a_text (elements vs))
unfolding each_of texts weight
each_texts nil = fine {a = []} (omega arith)
each_texts (cons null vs) = not_sheet
each_texts (cons (bool b) vs) = not_sheet
each_texts (cons (number s) vs) = not_sheet
each_texts (cons (text s) vs) = fine_then _ (each_texts vs) λ us h. fine {a = s ∷ us} (omega arith)
each_texts (cons (array ws) vs) = not_sheet
each_texts (cons (object ms) vs) = not_sheet

sources_light : (v : Value) → weight (texts v) ≤ 98304 → Fine (λ us. weight us ≤ 98304) (some_texts v)
unfolding texts weight
sources_light null h = not_sheet
sources_light (bool b) h = not_sheet
sources_light (number s) h = not_sheet
sources_light (text s) h = fine {a = s ∷ []} h
sources_light (array vs) h = go (each_texts vs)
  where
    go : {x : Result (List Bytes)} → Fine (λ us. weight us ≤ weight (texts_in vs)) x → Fine (λ us. weight us ≤ 98304) x
    go (fine {a} k) = fine {a = a} (omega arith)
    go (shown k) = shown k
sources_light (object ms) h = not_sheet

-- ---- a sheet that is read is light
module _ (ts : List Bytes) (light : weight ts ≤ 98304) where
  abbrev Sources : List Bytes → Type 0
  Sources us = weight us ≤ 98304

  its_sources : (v : Value) → Light ts light v → Fine Sources (some_texts v)
  its_sources v h = sources_light v h.few

  abbrev Asserts : Condition → Type 0
  Asserts c = Operands (Light ts light) c

  its_conditions : (v : Value) → Light ts light v → Fine Asserts (condition v)
  its_conditions = condition_fine (Light ts light) (light_parts ts light)

  abbrev LightRule : Rule Condition → Type 0
  LightRule r = RuleOf (Light ts light) (light_parts ts light) Sources its_sources condition Asserts its_conditions r

  abbrev LightOutcome : Outcome Condition → Type 0
  LightOutcome o = OutcomeOf (Light ts light) (light_parts ts light) Sources its_sources condition Asserts its_conditions o

  abbrev LightParts : Sheet Condition → Type 0
  LightParts sheet = SheetOf (Light ts light) (light_parts ts light) Sources its_sources condition Asserts its_conditions sheet

record LightSheet (sheet : Sheet Condition) : Type 0 where
  pub written : List Bytes
  pub light : weight written ≤ 98304
  pub has : LightParts written light sheet

json_fine : (s : Bytes) → Fine (λ v. weight (texts (sorted v)) ≤ 98304) (json s)
json_fine s = go (json s) refl
  where
    go : (x : Result Value) → json s ≡ x → Fine (λ v. weight (texts (sorted v)) ≤ 98304) x
    go (ok v) e = fine (read_light s v e)
    go (refused r) e = shown (fault_shown ((first_fault s r).0 e))

-- any value at all: reading refuses without a line
abbrev Whatever : Value → Type 0
Whatever v = Unit {0}

whatever_parts : Hereditary Whatever
whatever_parts = record { in_array = λ vs h. all vs; in_object = λ ms h. every ms }
  where
    all : (vs : Values) → All Whatever (elements vs)
    all nil = tt
    all (cons v vs) = (tt, all vs)

    every : (ms : Members) → Entries Whatever (entries ms)
    every empty = tt
    every (member k v ms) = (tt, every ms)

whatever_sources : (v : Value) → Whatever v → Fine Anything (some_texts v)
whatever_sources null h = not_sheet
whatever_sources (bool b) h = not_sheet
whatever_sources (number s) h = not_sheet
whatever_sources (text s) h = fine tt
whatever_sources (array vs) h = go (each_texts vs)
  where
    go : {x : Result (List Bytes)} → Fine (λ us. weight us ≤ weight (texts_in vs)) x → Fine Anything x
    go (fine k) = fine tt
    go (shown k) = shown k
whatever_sources (object ms) h = not_sheet

not_null_fine : (v : Value) → Whatever v → Fine Anything (not_null v)
not_null_fine v h = go (is_null v)
  where
    go : (b : Bool) → Fine {A = Value} Anything (elim b [ true ↦ refused wrong_sheet | false ↦ ok v ])
    go true = not_sheet
    go false = fine tt

sound_fine : (vs : List Value) → Fine Anything (sound vs)
unfolding sound
sound_fine [] = fine tt
sound_fine (v ∷ vs) = fine_then _ (condition_fine Whatever whatever_parts v tt) λ c _. sound_fine vs

checked_fine : (v : Value) → weight (texts (sorted v)) ≤ 98304 → Fine LightSheet (checked v)
unfolding checked
checked_fine v h =
    fine_then _ (sheet_of Whatever whatever_parts Anything whatever_sources not_null Anything not_null_fine v tt) λ _ _.
    fine_then _ (object_of Whatever whatever_parts v tt) λ ms _.
    fine_then _ (sound_fine (written (entries ms))) λ _ _.
    go (sheet_of (Light ts h) (light_parts ts h) (Sources ts h) (its_sources ts h) condition (Asserts ts h) (its_conditions ts h) (sorted v) (record { few = h; among = λ x m. m }))
  where
    ts : List Bytes
    ts = texts (sorted v)

    go : {x : Result (Sheet Condition)} → Fine (LightParts ts h) x → Fine LightSheet x
    go (fine k) = fine (record { written = ts; light = h; has = k })
    go (shown k) = shown k

read_fine : (s : Bytes) → Fine LightSheet (read_sheet s)
unfolding read_sheet
read_fine s = fine_then _ (json_fine s) λ v h. checked_fine v h

-- ---- the calls
module _ (sheet : Sheet Condition) (k : LightSheet sheet) where
  abbrev Named : Answer → Type 0
  Named a = Among k.written a.names

  evaluated : (c : Condition) → Asserts k.written k.light c → Fine Named (evaluate kernel sheet [] c)
  evaluated c h = evaluate_fine k.written k.light kernel sheet [] c h

  names_short : (ns : Names) → Among k.written ns → length (names (ascending ns)) ≤ 98312
  names_short ns h = omega (arith, listed_short (ascii "names") (ascending ns), among_light k.written ns h, k.light)

  maybe_light : (d : Bytes) (x : Option Bytes) → length d ≤ 98303 →
      Maybe (TextHas (Light k.written k.light) (light_parts k.written k.light)) x → length (quoted_or d x) ≤ 98303
  maybe_light d None h n = h
  maybe_light d (Some t) h n = text_light k.written k.light n

  check_fine : (kind : Rules) (i : ℕ) (rs : List (Rule Condition)) → All (LightRule k.written k.light) rs → Fine Short (check sheet kind i rs)
  unfolding check verdict_form refusal_form
  check_fine kind i [] h = fine {a = passed} (omega (arith, form_short (ascii "passed" ∷ [])))
  check_fine kind i (r ∷ rs) h = fine_then _ (evaluated r.assert h.0.assert) λ a n. go a n (check_fine kind (i + 1) rs h.1) a.truth
    where
      name : length (name_or r.name) ≤ 98303
      name = maybe_light (ascii "()") r.name (omega arith) h.0.name

      go : (a : Answer) → Named a → Fine Short (check sheet kind (i + 1) rs) → (t : Truth) →
          Fine Short
          (elim t [
            | True ↦ check sheet kind (i + 1) rs
            | False ↦ refused (rule_false kind i r.name r.message)
            | Unknown ↦ refused
                (rule_unknown kind i r.name r.message (ascending a.names))
          ])
      go a n rest True = rest
      go a n rest False =
          let m = maybe_light (quoted (ascii "condition evaluated to false")) r.message (omega arith) h.0.message in
          shown {r = rule_false kind i r.name r.message}
          (omega (
            arith,
            form_short
                (ascii "refused" ∷ decimal_digits (false_number kind) ∷ decimal_digits i ∷ name_or r.name ∷ message_or
                (ascii "condition evaluated to false") r.message ∷ []),
            digits (false_number kind),
            digits i,
            name,
          ))
      go a n rest Unknown =
          let m = maybe_light (quoted (ascii "condition could not be evaluated")) r.message (omega arith) h.0.message in
          shown {r = rule_unknown kind i r.name r.message (ascending a.names)}
          (omega (
            arith,
            form_short
                (ascii "refused" ∷ decimal_digits (unknown_number kind) ∷ decimal_digits i ∷ name_or r.name ∷ message_or
                (ascii "condition could not be evaluated") r.message ∷ names (ascending a.names) ∷ []),
            digits
                (unknown_number kind),
            digits i,
            name,
            names_short a.names n,
          ))

  abbrev LightPlaced : Placed → Type 0
  LightPlaced p = LightOutcome k.written k.light p.outcome

  abbrev LightOutcomes : List (Outcome Condition) → Type 0
  LightOutcomes os = All (LightOutcome k.written k.light) os

  guard_fine : (w : Option Condition) → Maybe (Asserts k.written k.light) w → Fine Named (guard sheet w)
  unfolding guard
  guard_fine None h = fine {a = certain true} (λ x m. elim m [ ])
  guard_fine (Some c) h = evaluated c h

  select_fine : (i : ℕ) (os : List (Outcome Condition)) → LightOutcomes os → Fine LightPlaced (select sheet i os)
  unfolding select refusal_form
  select_fine i [] h = shown {r = no_outcome} (omega (arith, form_short (ascii "refused" ∷ decimal_digits 19 ∷ []), digits 19))
  select_fine i (o ∷ os) h = go (select_fine (i + 1) os h.1) (eligible sheet.state o)
    where
      name : length (quoted o.name) ≤ 98303
      name = text_light k.written k.light h.0.name

      by : Fine LightPlaced (select sheet (i + 1) os) → (a : Answer) → Named a → (t : Truth) →
          Fine LightPlaced
          (elim t [
            | True ↦ ok (record { place = i; outcome = o })
            | False ↦ select sheet (i + 1) os
            | Unknown ↦ refused
                (guard_unknown i o.name (ascending a.names))
          ])
      by rest a n True = fine {a = record { place = i; outcome = o }} h.0
      by rest a n False = rest
      by rest a n Unknown =
          shown {r = guard_unknown i o.name (ascending a.names)}
          (omega (
            arith,
            form_short
                (ascii "refused" ∷ decimal_digits 20 ∷ decimal_digits i ∷ quoted o.name ∷ names (ascending a.names) ∷ []),
            digits 20,
            digits i,
            name,
            names_short a.names n,
          ))

      go : Fine LightPlaced (select sheet (i + 1) os) → (b : Bool) →
          Fine LightPlaced
          (elim b [
            | false ↦ select sheet (i + 1) os
            | true ↦
                (guard sheet o.when >>= λ a. elim a.truth [
                  | True ↦ ok (record { place = i; outcome = o })
                  | False ↦ select sheet (i + 1) os
                  | Unknown ↦ refused
                      (guard_unknown i o.name (ascending a.names))
                ])
          ])
      go rest false = rest
      go rest true = fine_then _ (guard_fine o.when h.0.when) λ a n. by rest a n a.truth

  first_light : (test : Outcome Condition → Bool) (i : ℕ) (os : List (Outcome Condition)) → LightOutcomes os → Maybe LightPlaced (first_from test i os)
  unfolding first_from
  first_light test i [] h = tt
  first_light test i (o ∷ os) h = go (first_light test (i + 1) os h.1) (test o)
    where
      go : Maybe LightPlaced (first_from test (i + 1) os) → (b : Bool) → Maybe {A = Placed} LightPlaced
          (elim b [ true ↦ Some (record { place = i; outcome = o }) | false ↦ first_from test (i + 1) os ])
      go rest true = h.0
      go rest false = rest

  at_light : (i n : ℕ) (os : List (Outcome Condition)) → LightOutcomes os → Maybe LightPlaced (at i n os)
  unfolding at
  at_light i n [] h = tt
  at_light i ℕ.zero (o ∷ os) h = h.0
  at_light i (suc n) (o ∷ os) h = at_light (i + 1) n os h.1

  or_shown : {A : Type 0} {Q : A → Type 0} (x : Option A) (r : Refusal) → Maybe Q x → Shown r → Fine Q (or_else x r)
  or_shown None r h n = shown n
  or_shown (Some a) r h n = fine h

  admit_fine : (s : Bytes) (p : Placed) → length (quoted s) ≤ 98303 → LightPlaced p → Fine LightPlaced (admit sheet.states sheet.outcomes s p)
  unfolding admit refusal_form
  admit_fine s p h l = go p.outcome.effect l.effect
    where
      name : length (quoted p.outcome.name) ≤ 98303
      name = text_light k.written k.light l.name

      wrong : (b : Bool) (from : List Bytes) → weight from ≤ 98304 →
          Fine LightPlaced
          (elim b [
            | true ↦ or_else (first_from (λ o. o.wrong_state) 0 sheet.outcomes) (wrong_state s)
            | false ↦ refused
                (not_a_source p.place p.outcome.name s from)
          ])
      wrong true from n =
          or_shown (first_from (λ o. o.wrong_state) 0 sheet.outcomes) (wrong_state s)
          (first_light (λ o. o.wrong_state) 0 sheet.outcomes k.has.outcomes)
          (omega (arith, form_short (ascii "refused" ∷ decimal_digits 21 ∷ quoted s ∷ []), digits 21))
      wrong false from n =
          shown {r = not_a_source p.place p.outcome.name s from}
          (omega (
            arith,
            form_short
                (ascii "refused" ∷ decimal_digits 22 ∷ decimal_digits p.place ∷ quoted p.outcome.name ∷ quoted s ∷ listed
                (ascii "from") from ∷ []),
            digits 22,
            digits p.place,
            name,
            listed_short (ascii "from") from,
          ))

      moved : (b : Bool) (from : List Bytes) → weight from ≤ 98304 →
          Fine LightPlaced
          (elim b [
            | true ↦ ok p
            | false ↦ elim (is_wrong sheet.states sheet.outcomes s) [
              | true ↦ or_else (first_from (λ o. o.wrong_state) 0 sheet.outcomes) (wrong_state s)
              | false ↦ refused
                  (not_a_source p.place p.outcome.name s from)
            ]
          ])
      moved true from n = fine {a = p} l
      moved false from n = wrong (is_wrong sheet.states sheet.outcomes s) from n

      go : (e : Effect) →
          From (Light k.written k.light) (light_parts k.written k.light) (Sources k.written k.light)
          (its_sources k.written k.light) e →
          Fine LightPlaced
          (elim e [
            | stays ↦ ok p
            | moves to from ↦ elim (is_one_of s from) [
              | true ↦ ok p
              | false ↦ elim (is_wrong sheet.states sheet.outcomes s) [
                | true ↦ or_else (first_from (λ o. o.wrong_state) 0 sheet.outcomes) (wrong_state s)
                | false ↦ refused
                    (not_a_source p.place p.outcome.name s from)
              ]
            ]
          ])
      go stays n = fine {a = p} l
      go (moves to from) n = moved (is_one_of s from) from n

  no_input_lem : Shown no_input
  unfolding refusal_form
  no_input_lem = omega arith

  abbrev LightText : Bytes → Type 0
  LightText t = length (quoted t) ≤ 98303

  state_light : (x : Option Bytes) → Maybe (TextHas (Light k.written k.light) (light_parts k.written k.light)) x → Maybe LightText x
  state_light None h = tt
  state_light (Some t) h = text_light k.written k.light h

  in_state : Fine LightText (or_else sheet.state no_input)
  in_state = or_shown sheet.state no_input (state_light sheet.state k.has.state) no_input_lem

  admitted_short : (p : Placed) → LightPlaced p → Short (admitted p.place p.outcome.name)
  unfolding verdict_form
  admitted_short p h =
      omega (
        arith,
        form_short (ascii "admitted" ∷ decimal_digits p.place ∷ quoted p.outcome.name ∷ []),
        digits p.place,
        text_light
            k.written k.light h.name,
      )

  verdict_fine : (x : Call) → Fine Short (verdict_of x sheet)
  unfolding evaluate_call preconditions_call invariants_call select_call admit_call decide_call verdict_form
  verdict_fine calls.Evaluate =
      fine_then _ (or_shown sheet.condition no_input k.has.condition no_input_lem) λ c h.
      fine_then _ (evaluated c h) λ a n.
      fine {a = answered a.truth (ascending a.names)}
      (omega (
        arith,
        form_short (ascii "truth" ∷ truth_word a.truth ∷ names (ascending a.names) ∷ []),
        word_short a.truth,
        names_short a.names n,
      ))
    where
      word_short : (t : Truth) → length (truth_word t) ≤ 7
      word_short True = omega arith
      word_short False = omega arith
      word_short Unknown = omega arith
  verdict_fine calls.Preconditions = check_fine Rules.preconditions 0 sheet.preconditions k.has.preconditions
  verdict_fine calls.Invariants = check_fine Rules.invariants 0 sheet.invariants k.has.invariants
  verdict_fine calls.Select =
      fine_then _ (select_fine 0 sheet.outcomes k.has.outcomes) λ p h.
      fine {a = selected p.place p.outcome.name}
      (omega (
        arith,
        form_short (ascii "selected" ∷ decimal_digits p.place ∷ quoted p.outcome.name ∷ []),
        digits p.place,
        text_light k.written k.light h.name,
      ))
  verdict_fine (calls.Admit place) =
      fine_then _ (or_shown (at 0 place sheet.outcomes) no_input (at_light 0 place sheet.outcomes k.has.outcomes) no_input_lem) λ p h.
      fine_then _ in_state λ s t.
      fine_then _ (admit_fine s p t h) λ q l.
      fine {a = admitted q.place q.outcome.name} (admitted_short q l)
  verdict_fine calls.Decide =
      fine_then _ in_state λ s t.
      fine_then _ (check_fine Rules.preconditions 0 sheet.preconditions k.has.preconditions) λ _ _.
      fine_then _ (select_fine 0 sheet.outcomes k.has.outcomes) λ p h.
      fine_then _ (admit_fine s p t h) λ q l.
      fine {a = admitted q.place q.outcome.name} (admitted_short q l)

-- ---- what is given back
kept_short : (n m : ℕ) (f : Bytes) → length f ≤ 294975 → (b : Bool) → line_size
    (elim b [ true ↦ record { number = m; line = Some (end_line f) } | false ↦ record { number = refusal_number line_too_long; line = None } ])
    ≤ 294976
kept_short n m f h true = simp length-append (omega arith)
kept_short n m f h false = omega arith

fitted_short : (n m : ℕ) (f : Option Bytes) → length (or_empty f) ≤ 294975 → line_size (fitted n m (each_line f)) ≤ 294976
fitted_short n m None h = omega arith
fitted_short n m (Some f) h = kept_short n m f h (leb (length (end_line f)) n)

reply_short : (n : ℕ) {x : Result Verdict} → Fine Short x → line_size (reply n x) ≤ 294976
unfolding reply verdict_line refusal_line
reply_short n (fine {a = v} h) = fitted_short n 0 (Some (verdict_form v)) h
reply_short n (shown {r = r} h) = fitted_short n (refusal_number r) (refusal_form r) h

enough_fine : (words : ℕ) → Fine Anything (enough words)
unfolding enough refusal_form
enough_fine words = go (leb work_words words)
  where
    go : (b : Bool) → Fine {A = Bool} Anything (elim b [ true ↦ ok true | false ↦ refused work_too_small ])
    go true = fine tt
    go false = shown {r = work_too_small} (omega arith)

-- Whatever the sheet, the work table and the output: no call's line is longer.
pub longest_line : (x : Call) (s : Bytes) (words size : ℕ) → line_size (call_of x s words size) ≤ 294976
unfolding call
longest_line x s words size = rw of_verdict (reply_short size (fine_then _ (enough_fine words) λ _ _. fine_then _ (read_fine s) λ sheet k. verdict_fine sheet k x))
