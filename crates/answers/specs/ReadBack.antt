-- A line read back: its words and texts in order, and the answer or refusal that they say.
-- Assumes nothing.
use Rattle.std.specs.Prelude.{Bool, List, [], ◌∷◌, ◌≡◌, suc, zero, ℕ, ◌*◌, ◌+◌, ◌-◌, ◌<◌, eqb, ltb, drop, get_or}
use Rattle.std.specs.Prelude.{Option, None, Some}
use Prim.Native.String.{String}
use Rattle.answers.specs.Verdict.{Verdict, admitted, answered, passed, selected}
use Rattle.semantics.specs.Names.{Names}
use Rattle.semantics.specs.Truth.{False, True, Truth, Unknown}
use Rattle.json_text.specs.Bytes.{Bytes, ascii, choose, natural, same_bytes}
use Rattle.json_text.specs.Refusal.{Refusal, Result, Rules, guard_unknown, invariants, line_too_long, no_id, no_input, no_outcome, not_a_source, not_carried, not_json, not_utf8, number_too_long}
use Rattle.json_text.specs.Refusal.{
  ok,
  preconditions,
  refused,
  repeated_name,
  rule_false,
  rule_unknown,
  too_deep,
  too_long,
  too_many_nodes,
  unknown_expression,
  work_too_small,
  wrong_shape,
  wrong_sheet,
  wrong_state,
}

-- an opening bracket, a word or number, a text without quotes and escapes
pub data Token : Type 0 where
  opening : Token
  word : Bytes → Token
  text : Bytes → Token

-- where a byte stands: outside texts, in a text, behind a backslash, or in an escape's digits: how many follow it, and what those before it spell
pub data Mode : Type 0 where
  outside inside escaped : Mode
  digit : ℕ → ℕ → Mode

abbrev pub hex_value : ℕ → ℕ
hex_value c = choose ((ltb c 58, c - 48) ∷ []) (c - 87)

abbrev pub next : Mode → ℕ → Mode
next outside c = choose ((eqb c 34, inside) ∷ []) outside
next inside c = choose ((eqb c 34, outside) ∷ (eqb c 92, escaped) ∷ []) inside
next escaped c = choose ((eqb c 117, digit 3 0) ∷ []) inside
next (digit zero u) c = inside
next (digit (suc n) u) c = digit n (u * 16 + hex_value c)

-- what is read from a byte on: the rest of the word or text that it stands in, and the tokens behind
pub record Ahead : Type 0 where
  pub held : Bytes
  pub behind : List Token

abbrev pub holding : ℕ → Ahead → Ahead
holding c a = record { held = c ∷ a.held; behind = a.behind }

abbrev pub starting : List Token → Ahead
starting ts = record { held = []; behind = ts }

-- a word that begins here, where there is one
abbrev pub worded : Bytes → List Token → List Token
worded [] ts = ts
worded (c ∷ w) ts = word (c ∷ w) ∷ ts

abbrev pub tokens_of : Ahead → List Token
tokens_of a = worded a.held a.behind

-- one byte before what is ahead: words are of bytes from 48 on; all others, but quotes and opening brackets, only part
abbrev pub step : Mode → ℕ → Ahead → Ahead
step outside c a = choose ((eqb c 34, starting (text a.held ∷ a.behind)) ∷ (eqb c 40, starting (opening ∷ tokens_of a)) ∷ (ltb c 48, starting (tokens_of a)) ∷ []) (holding c a)
step inside c a = choose ((eqb c 34, starting (tokens_of a)) ∷ (eqb c 92, a) ∷ []) (holding c a)
step escaped c a = choose ((eqb c 117, a) ∷ []) (holding c a)
step (digit zero u) c a = holding (u * 16 + hex_value c) a
step (digit (suc n) u) c a = a

unfoldable pub ahead : Mode → Bytes → Ahead
ahead m [] = starting []
ahead m (c ∷ s) = step m c (ahead (next m c) s)

unfoldable pub tokens : Bytes → List Token
unfolding ahead
tokens s = tokens_of (ahead outside s)

-- the bytes, the number, or the text at a place among the tokens, and all texts from one on
abbrev pub bytes_of : Token → Bytes
bytes_of opening = []
bytes_of (word w) = w
bytes_of (text t) = t

abbrev pub text_of : Token → Option Bytes
text_of opening = None
text_of (word w) = None
text_of (text t) = Some t

abbrev pub bytes_at : ℕ → List Token → Bytes
bytes_at k ts = bytes_of (get_or ts k opening)

abbrev pub number_at : ℕ → List Token → ℕ
number_at k ts = natural 0 (bytes_at k ts)

abbrev pub text_at : ℕ → List Token → Option Bytes
text_at k ts = text_of (get_or ts k opening)

unfoldable pub texts : List Token → List Bytes
texts [] = []
texts (opening ∷ ts) = texts ts
texts (word w ∷ ts) = texts ts
texts (text t ∷ ts) = t ∷ texts ts

abbrev pub texts_from : ℕ → List Token → List Bytes
texts_from k ts = texts (drop k ts)

-- the answer or refusal that tokens say: the first is the bracket, the second the kind
abbrev pub truth_of : Bytes → Truth
truth_of w = choose ((same_bytes w (ascii "true"), True) ∷ (same_bytes w (ascii "false"), False) ∷ []) Unknown

abbrev pub false_of : Rules → List Token → Option (Result Verdict)
false_of k ts = Some (refused (rule_false k (number_at 3 ts) (text_at 4 ts) (text_at 5 ts)))

abbrev pub unknown_of : Rules → List Token → Option (Result Verdict)
unknown_of k ts = Some (refused (rule_unknown k (number_at 3 ts) (text_at 4 ts) (text_at 5 ts) (texts_from 6 ts)))

unfoldable pub refusal_of : ℕ → List Token → Option (Result Verdict)
unfolding natural texts
refusal_of n ts =
    choose
    ((eqb n 13, Some (refused (unknown_expression (bytes_at 3 ts)))) ∷
    (eqb n 14, Some (refused no_id)) ∷
    (eqb n 15, false_of preconditions ts) ∷
    (eqb n 16, unknown_of preconditions ts) ∷
    (eqb n 17, false_of invariants ts) ∷
    (eqb n 18, unknown_of invariants ts) ∷
    (eqb n 19, Some (refused no_outcome)) ∷
    (eqb n 20, Some (refused (guard_unknown (number_at 3 ts) (bytes_at 4 ts) (texts_from 5 ts)))) ∷
    (eqb n 21, Some (refused (wrong_state (bytes_at 3 ts)))) ∷
    (eqb n 22, Some (refused (not_a_source (number_at 3 ts) (bytes_at 4 ts) (bytes_at 5 ts) (texts_from 6 ts)))) ∷
    [])
    None

abbrev pub kind_is : List Token → String → Bool
kind_is ts w = same_bytes (bytes_at 1 ts) (ascii w)

unfoldable pub said : List Token → Option (Result Verdict)
unfolding natural texts same_bytes refusal_of
said ts =
    choose
    ((kind_is ts "truth", Some (ok (answered (truth_of (bytes_at 2 ts)) (texts_from 3 ts)))) ∷
    (kind_is ts "passed", Some (ok passed)) ∷
    (kind_is ts "selected", Some (ok (selected (number_at 2 ts) (bytes_at 3 ts)))) ∷
    (kind_is ts "admitted", Some (ok (admitted (number_at 2 ts) (bytes_at 3 ts)))) ∷
    (kind_is ts "refused", refusal_of (number_at 2 ts) ts) ∷
    [])
    None

unfoldable pub read_line : Bytes → Option (Result Verdict)
unfolding tokens said
read_line s = said (tokens s)

-- What a line does not say: whether a rule's message was missing, or the text that is printed then.
pub data Printed : Result Verdict → Result Verdict → Type 0 where
  as_it_is : {a : Result Verdict} → Printed a a
  of_false : {k : Rules} {i : ℕ} {n : Option Bytes} → Printed (refused (rule_false k i n None)) (refused (rule_false k i n (Some (ascii "condition evaluated to false"))))
  of_unknown : {k : Rules} {i : ℕ} {n : Option Bytes} {ns : Names} →
      Printed (refused (rule_unknown k i n None ns)) (refused (rule_unknown k i n (Some (ascii "condition could not be evaluated")) ns))

-- the answer or refusal, as printed, is read back from a line
pub record Recovered (a : Result Verdict) (line : Bytes) : Type 0 where
  pub got : Result Verdict
  pub reads : read_line line ≡ Some got
  pub printed : Printed a got

-- two that are printed as one and the same
pub record PrintedAlike (a b : Result Verdict) : Type 0 where
  pub got : Result Verdict
  pub one : Printed a got
  pub other : Printed b got

-- the place on a line, 0 where there is none
abbrev pub verdict_place : Verdict → ℕ
verdict_place (answered t ns) = 0
verdict_place passed = 0
verdict_place (selected i n) = i
verdict_place (admitted i n) = i

abbrev pub refusal_place : Refusal → ℕ
refusal_place work_too_small = 0
refusal_place too_long = 0
refusal_place not_utf8 = 0
refusal_place not_json = 0
refusal_place too_deep = 0
refusal_place number_too_long = 0
refusal_place too_many_nodes = 0
refusal_place repeated_name = 0
refusal_place wrong_sheet = 0
refusal_place wrong_shape = 0
refusal_place not_carried = 0
refusal_place no_input = 0
refusal_place (unknown_expression e) = 0
refusal_place no_id = 0
refusal_place (rule_false k i n m) = i
refusal_place (rule_unknown k i n m ns) = i
refusal_place no_outcome = 0
refusal_place (guard_unknown i n ns) = i
refusal_place (wrong_state s) = 0
refusal_place (not_a_source i n s from) = i
refusal_place line_too_long = 0

abbrev pub place_of : Result Verdict → ℕ
place_of (ok v) = verdict_place v
place_of (refused r) = refusal_place r

-- numbers of 64 bits: the digits of a line spell them
abbrev pub Small : ℕ → Type 0
Small n = n < 18446744073709551616
