-- A line is read back as what was printed on it, so two answers that differ in more than a missing message never share a line.
-- Assumes nothing.
use mathlib.Core.Bool.{Bool, false, true}
use mathlib.Core.List.{List, append_assoc, append-nil, [], ◌++◌, ◌∷◌}
use Rattle.std.specs.Prelude.{Option, None, Some}
use mathlib.Core.Path.{ap, refl, subst, sym, ◌∙◌, ◌≡◌}
use Prim.Native.Nat.{suc, zero, ℕ, ◌%◌, ◌+◌, ◌/◌, ◌<◌, ◌≤◌}
use native.Mathlib.Omega.{arith}
use borrow.Author.Tests.{eqb-false, eqb-true, le-ltb, lt-ltb, ltb-false, ltb-true, ne_eqb}
use lib.Dec.{eqb, leb, ltb}
use lib.ListN.{length}
use Rattle.answers.proofs.Digits.{backslash_escaped, byte_itself, control_escaped, high_hex, low_hex, quote_escaped, reads_back}
use Rattle.answers.specs.Line.{decimal_digits, digits_of, each_quoted, end_line, false_number, form, hex_of, listed, name_or, names, quoted, quoted_byte, quoted_bytes, refusal_line}
use Rattle.answers.specs.Line.{refusal_number, refused_form, spaced, truth_word, unknown_number, verdict_line}
use Rattle.answers.specs.ReadBack.{Ahead, Printed, PrintedAlike, Recovered, Small, Token, ahead, as_it_is, hex_value, holding, inside, of_false, of_unknown, opening, outside, place_of}
use Rattle.answers.specs.ReadBack.{read_line, refusal_of, refusal_place, said, starting, step, text, text_of, texts, tokens, tokens_of, truth_of, verdict_place, word, worded}
use Rattle.answers.specs.Reply.{Reply, fitted, form_of, number_of, reply}
use Rattle.answers.specs.Verdict.{Verdict, admitted, answered, passed, selected}
use Rattle.semantics.proofs.Parts.{none_some}
use Rattle.semantics.specs.Truth.{False, True, Truth, Unknown}
use Rattle.json_text.specs.Bytes.{Bytes, ascii, same_bytes}
use Rattle.json_text.specs.Refusal.{Refusal, Result, Rules, guard_unknown, invariants, line_too_long, no_id, no_input, no_outcome, not_a_source, not_carried, not_json, not_utf8, number_too_long}
use Rattle.json_text.specs.Refusal.{
  ok,
  preconditions,
  refused,
  repeated_name,
  rule_false,
  rule_unknown,
  too_deep,
  too_long,
  too_many_nodes,
  unknown_expression,
  work_too_small,
  wrong_shape,
  wrong_sheet,
  wrong_state,
}

-- a hexadecimal digit, and each byte of a text
digit_value : (d : ℕ) → d < 16 → hex_value (hex_of d) ≡ d
digit_value d h = go (ltb d 10) refl
  where
    go : (b : Bool) → ltb d 10 ≡ b → hex_value (hex_of d) ≡ d
    go true e = let l = ltb-true d 10 e in rw (low_hex d l, lt-ltb (48 + d) 58 (omega arith)) (omega arith)
    go false e = let l = ltb-false d 10 e in rw (high_hex d l, le-ltb (87 + d) 58 (omega arith)) (omega arith)

byte_held : (c : ℕ) (s : Bytes) → ahead inside (quoted_byte c ++ s) ≡ holding c (ahead inside s)
unfolding ahead
byte_held c s = go (eqb c 34) refl (eqb c 92) refl (ltb c 32) refl
  where
    go : (x : Bool) → eqb c 34 ≡ x → (y : Bool) → eqb c 92 ≡ y → (z : Bool) → ltb c 32 ≡ z → ahead inside (quoted_byte c ++ s) ≡ holding c (ahead inside s)
    go true e y f z g = let q = eqb-true c 34 e in rw (quote_escaped c q) (ap (λ (b : ℕ). holding b (ahead inside s)) (sym q))
    go false e true f z g = let q = eqb-true c 92 f in rw (backslash_escaped c (eqb-false c 34 e) q) (ap (λ (b : ℕ). holding b (ahead inside s)) (sym q))
    go false e false f true g =
        let l = ltb-true c 32 g in
        let d = control_escaped c (eqb-false c 34 e) (eqb-false c 92 f) l in
        rw (d, digit_value (c / 16) (omega arith), digit_value (c % 16) (omega arith)) (ap (λ (b : ℕ). holding b (ahead inside s)) (omega arith))
    go false e false f false g = rw (byte_itself c (eqb-false c 34 e) (eqb-false c 92 f) (ltb-false c 32 g), e, f)

text_held : (t s : Bytes) → ahead inside (quoted_bytes t ++ s) ≡ record { held = t; behind = tokens s }
unfolding ahead quoted_bytes tokens
text_held [] s = refl
text_held (c ∷ t) s = rw append_assoc (byte_held c (quoted_bytes t ++ s) ∙ ap (holding c) (text_held t s))

-- what one piece of a form gives, before a space and before a closing bracket
record Gives (w : Bytes) (ts : List Token) : Type 0 where
  spaced : (s : Bytes) → tokens (w ++ (32 ∷ s)) ≡ ts ++ tokens s
  closed : (s : Bytes) → tokens (w ++ (41 ∷ s)) ≡ ts ++ tokens s

text_gives : (t : Bytes) → Gives (quoted t) (text t ∷ [])
unfolding ahead tokens
text_gives t = record { spaced = λ s. by (32 ∷ s); closed = λ s. by (41 ∷ s) }
  where
    by : (s : Bytes) → tokens (quoted t ++ s) ≡ text t ∷ tokens s
    by s = ap (λ (a : Ahead). tokens_of (step outside 34 a)) (text_held t s)

-- words are of bytes from 48 on
abbrev Plain : Bytes → Type 0
Plain w = (s : Bytes) → ahead outside (w ++ s) ≡ record { held = w ++ (ahead outside s).held; behind = (ahead outside s).behind }

plain_more : (c : ℕ) (w : Bytes) → 48 ≤ c → Plain w → Plain (c ∷ w)
unfolding ahead
plain_more c w h p s = rw (ne_eqb c 34 (omega arith), ne_eqb c 40 (omega arith), le-ltb c 48 h) (ap (holding c) (p s))

record Word (w : Bytes) : Type 0 where
  plain : Plain w
  begun : (ts : List Token) → worded w ts ≡ word w ∷ ts

word_gives : (w : Bytes) → Word w → Gives w (word w ∷ [])
unfolding ahead tokens
word_gives w h = record { spaced = λ s. by 32 s refl; closed = λ s. by 41 s refl }
  where
    by : (c : ℕ) (s : Bytes) → ahead outside (c ∷ s) ≡ starting (tokens s) → tokens (w ++ (c ∷ s)) ≡ word w ∷ tokens s
    by c s e = ap tokens_of (h.plain (c ∷ s) ∙ ap (λ (a : Ahead). record { held = w ++ a.held; behind = a.behind }) e) ∙ rw append-nil (h.begun (tokens s))

digits_word : (f n c : ℕ) (w : Bytes) → 48 ≤ c → Plain w → Word (digits_of f n (c ∷ w))
unfolding digits_of
digits_word zero n c w h p = record { plain = plain_more c w h p; begun = λ ts. refl }
digits_word (suc f) n c w h p = go (digits_word f (n / 10) (48 + n % 10) (c ∷ w) (omega arith) (plain_more c w h p)) (ltb n 10) refl
  where
    go : Word (digits_of f (n / 10) ((48 + n % 10) ∷ c ∷ w)) → (b : Bool) → ltb n 10 ≡ b → Word (digits_of (suc f) n (c ∷ w))
    go below true e = rw (e, digits_of) (record { plain = plain_more (48 + n) (c ∷ w) (omega arith) (plain_more c w h p); begun = λ ts. refl })
    go below false e = rw (e, digits_of) below

number_gives : (n : ℕ) → Gives (decimal_digits n) (word (decimal_digits n) ∷ [])
unfolding digits_of
number_gives n = word_gives (decimal_digits n) (go (ltb n 10) refl)
  where
    go : (b : Bool) → ltb n 10 ≡ b → Word (decimal_digits n)
    go true e = rw (e, digits_of) (digits_word 0 n (48 + n) [] (omega arith) (λ s. refl))
    go false e = rw (e, digits_of) (digits_word 19 (n / 10) (48 + n % 10) [] (omega arith) (λ s. refl))

-- the pieces of a form, and the form itself
data Pieces : List Bytes → List Token → Type 0 where
  done : Pieces [] []
  piece : {w : Bytes} {ws : List Bytes} {ts us : List Token} → Gives w ts → Pieces ws us → Pieces (w ∷ ws) (ts ++ us)

spaced_gives : {ws : List Bytes} {ts : List Token} → Pieces ws ts → (s : Bytes) → tokens (spaced ws ++ (41 ∷ s)) ≡ ts ++ tokens s
unfolding spaced ahead tokens
spaced_gives done s = refl
spaced_gives (piece g done) s = rw append-nil (g.closed s)
spaced_gives (piece {w = w} {ts = ts} g (piece {w = v} {ws = ws} {ts = us} {us = vs} h p)) s =
    let more = spaced (v ∷ ws) ++ (41 ∷ s) in
    let behind = ap (λ (l : List Token). ts ++ l) (spaced_gives (piece h p) s) in
    ap tokens (append_assoc w (32 ∷ spaced (v ∷ ws)) (41 ∷ s)) ∙ g.spaced more ∙ behind ∙ sym (append_assoc ts (us ++ vs) (tokens s))

form_gives : {ws : List Bytes} {ts : List Token} → Pieces ws ts → (s : Bytes) → tokens (form ws ++ s) ≡ opening ∷ (ts ++ tokens s)
unfolding ahead tokens
form_gives {ws = ws} p s = ap tokens (append_assoc (40 ∷ spaced ws) (41 ∷ []) s) ∙ ap {B = List Token} (λ l. opening ∷ l) (spaced_gives p s)

each_text : List Bytes → List Token
each_text [] = []
each_text (t ∷ ts) = text t ∷ each_text ts

texts_give : (ts : List Bytes) → Pieces (each_quoted ts) (each_text ts)
unfolding each_quoted each_text
texts_give [] = done
texts_give (t ∷ ts) = piece (text_gives t) (texts_give ts)

list_gives : (w : Bytes) (ts : List Bytes) → Gives w (word w ∷ []) → Gives (listed w ts) (opening ∷ word w ∷ each_text ts)
unfolding tokens
list_gives w ts g = let p = piece g (texts_give ts) in record { spaced = λ s. form_gives p (32 ∷ s); closed = λ s. form_gives p (41 ∷ s) }

texts_back : (ts : List Bytes) → texts (each_text ts ++ []) ≡ ts
unfolding texts each_text
texts_back [] = refl
texts_back (t ∷ ts) = ap {B = List Bytes} (λ l. t ∷ l) (texts_back ts)

line_gives : {ws : List Bytes} {ts : List Token} → Pieces ws ts → read_line (end_line (form ws)) ≡ said (opening ∷ ts)
unfolding read_line
line_gives {ts = ts} p = ap said (form_gives p (10 ∷ []) ∙ ap {B = List Token} (λ l. opening ∷ l) (append-nil ts))

-- words, truths and lists of texts
letters : (w : Bytes) → Plain w → ((ts : List Token) → worded w ts ≡ word w ∷ ts) → Gives w (word w ∷ [])
letters w p b = word_gives w (record { plain = p; begun = b })

names_give : (ns : List Bytes) → Gives (names ns) (opening ∷ word (ascii "names") ∷ each_text ns)
unfolding ahead
names_give ns = list_gives (ascii "names") ns (letters (ascii "names") (λ s. refl) (λ ts. refl))

from_gives : (ts : List Bytes) → Gives (listed (ascii "from") ts) (opening ∷ word (ascii "from") ∷ each_text ts)
unfolding ahead
from_gives ts = list_gives (ascii "from") ts (letters (ascii "from") (λ s. refl) (λ us. refl))

truth_gives : (t : Truth) → Gives (truth_word t) (word (truth_word t) ∷ [])
unfolding ahead
truth_gives True = letters (truth_word True) (λ s. refl) (λ ts. refl)
truth_gives False = letters (truth_word False) (λ s. refl) (λ ts. refl)
truth_gives Unknown = letters (truth_word Unknown) (λ s. refl) (λ ts. refl)

truth_back : (t : Truth) → truth_of (truth_word t) ≡ t
unfolding same_bytes
truth_back True = refl
truth_back False = refl
truth_back Unknown = refl

-- an answer is read back from its line
as_it_is_lem : {a : Result Verdict} {l : Bytes} → read_line l ≡ Some a → Recovered a l
as_it_is_lem {a = a} e = record { got = a; reads = e; printed = as_it_is }

placed_gives : (i : ℕ) (n : Bytes) → Pieces (decimal_digits i ∷ quoted n ∷ []) (word (decimal_digits i) ∷ text n ∷ [])
placed_gives i n = piece (number_gives i) (piece (text_gives n) done)

answer_back : (v : Verdict) → Small (verdict_place v) → Recovered (ok v) (verdict_line v)
unfolding verdict_line said ahead
answer_back (answered t ns) h =
    let p = piece (letters (ascii "truth") (λ s. refl) (λ ts. refl)) (piece (truth_gives t) (piece (names_give ns) done)) in
    as_it_is_lem (line_gives p ∙ rw (truth_back t, texts_back ns))
answer_back passed h = as_it_is_lem (line_gives (piece (letters (ascii "passed") (λ s. refl) (λ ts. refl)) done))
answer_back (selected i n) h = as_it_is_lem (line_gives (piece (letters (ascii "selected") (λ s. refl) (λ ts. refl)) (placed_gives i n)) ∙ rw (reads_back i h))
answer_back (admitted i n) h = as_it_is_lem (line_gives (piece (letters (ascii "admitted") (λ s. refl) (λ ts. refl)) (placed_gives i n)) ∙ rw (reads_back i h))

-- a refusal by its number
abbrev numbered : ℕ → List Token → List Token
numbered n ts = opening ∷ word (ascii "refused") ∷ word (decimal_digits n) ∷ ts

refused_gives : (n : ℕ) {ws : List Bytes} {ts : List Token} → Small n → Pieces ws ts → read_line (end_line (refused_form n ws)) ≡ refusal_of n (numbered n ts)
unfolding said ahead
refused_gives n h p = line_gives (piece (letters (ascii "refused") (λ s. refl) (λ ts. refl)) (piece (number_gives n) p)) ∙ rw (reads_back n h)

-- a rule's name, `()` where it is missing, and its message, which is never missing on a line
name_token : Option Bytes → Token
name_token None = opening
name_token (Some n) = text n

name_gives : (n : Option Bytes) → Gives (name_or n) (name_token n ∷ [])
unfolding name_token ahead tokens
name_gives None = record { spaced = λ s. refl; closed = λ s. refl }
name_gives (Some n) = text_gives n

name_back : (n : Option Bytes) → text_of (name_token n) ≡ n
unfolding name_token
name_back None = refl
name_back (Some n) = refl

module _ (i : ℕ) (n : Option Bytes) (m : Bytes) (h : Small i) where
  abbrev rule_words : List Bytes → List Bytes
  rule_words ws = decimal_digits i ∷ name_or n ∷ quoted m ∷ ws

  rule_gives : {ws : List Bytes} {ts : List Token} → Pieces ws ts → Pieces (rule_words ws) (word (decimal_digits i) ∷ name_token n ∷ text m ∷ ts)
  rule_gives p = piece (number_gives i) (piece (name_gives n) (piece (text_gives m) p))

  false_back : (k : Rules) → read_line (end_line (refused_form (false_number k) (rule_words []))) ≡ Some (refused (rule_false k i n (Some m)))
  unfolding refusal_of
  false_back preconditions = refused_gives 15 (omega arith) (rule_gives done) ∙ rw (reads_back i h, name_back n)
  false_back invariants = refused_gives 17 (omega arith) (rule_gives done) ∙ rw (reads_back i h, name_back n)

  unknown_back : (k : Rules) (ns : List Bytes) → read_line (end_line (refused_form (unknown_number k) (rule_words (names ns ∷ [])))) ≡ Some (refused (rule_unknown k i n (Some m) ns))
  unfolding refusal_of
  unknown_back preconditions ns = refused_gives 16 (omega arith) (rule_gives (piece (names_give ns) done)) ∙ rw (reads_back i h, name_back n, texts_back ns)
  unknown_back invariants ns = refused_gives 18 (omega arith) (rule_gives (piece (names_give ns) done)) ∙ rw (reads_back i h, name_back n, texts_back ns)

-- a refusal has a line and is read back from it, or has none
abbrev OnLine : Result Verdict → Option Bytes → Type 0
OnLine a m = (l : Bytes) → m ≡ Some l → Recovered a l

here : {a : Result Verdict} {l : Bytes} → Recovered a l → OnLine a (Some l)
here {a = a} {l = m} b l e = let z : m ≡ l = cc in subst (Recovered a) z b

no_line_lem : {a : Result Verdict} → OnLine a None
no_line_lem l e = none_some l e

refusal_back : (r : Refusal) → Small (refusal_place r) → OnLine (refused r) (refusal_line r)
unfolding refusal_line refusal_of
refusal_back work_too_small h = no_line_lem
refusal_back too_long h = no_line_lem
refusal_back not_utf8 h = no_line_lem
refusal_back not_json h = no_line_lem
refusal_back too_deep h = no_line_lem
refusal_back number_too_long h = no_line_lem
refusal_back too_many_nodes h = no_line_lem
refusal_back repeated_name h = no_line_lem
refusal_back wrong_sheet h = no_line_lem
refusal_back wrong_shape h = no_line_lem
refusal_back not_carried h = no_line_lem
refusal_back no_input h = no_line_lem
refusal_back (unknown_expression e) h = here (as_it_is_lem (refused_gives 13 (omega arith) (piece (text_gives e) done)))
refusal_back no_id h = here (as_it_is_lem (refused_gives 14 (omega arith) (piece (text_gives (ascii "$id")) done)))
refusal_back (rule_false k i n None) h = here (record { got = _; reads = false_back i n _ h k; printed = of_false })
refusal_back (rule_false k i n (Some m)) h = here (as_it_is_lem (false_back i n m h k))
refusal_back (rule_unknown k i n None ns) h = here (record { got = _; reads = unknown_back i n _ h k ns; printed = of_unknown })
refusal_back (rule_unknown k i n (Some m) ns) h = here (as_it_is_lem (unknown_back i n m h k ns))
refusal_back no_outcome h = here (as_it_is_lem (refused_gives 19 (omega arith) done))
refusal_back (guard_unknown i n ns) h =
    let p = piece (number_gives i) (piece (text_gives n) (piece (names_give ns) done)) in
    here (as_it_is_lem (refused_gives 20 (omega arith) p ∙ rw (reads_back i h, texts_back ns)))
refusal_back (wrong_state s) h = here (as_it_is_lem (refused_gives 21 (omega arith) (piece (text_gives s) done)))
refusal_back (not_a_source i n s from) h =
    let p = piece (number_gives i) (piece (text_gives n) (piece (text_gives s) (piece (from_gives from) done))) in
    here (as_it_is_lem (refused_gives 22 (omega arith) p ∙ rw (reads_back i h, texts_back from)))
refusal_back line_too_long h = no_line_lem

-- What a reply's line says is read back from it: number, place, texts and names.
fitted_line : (output n : ℕ) (m : Option Bytes) (l : Bytes) → (fitted output n m).line ≡ Some l → m ≡ Some l
fitted_line output n None l e = e
fitted_line output n (Some m) l e = go (leb (length m) output) e
  where
    go : (b : Bool) →
        Reply.line
        (elim b [ true ↦ record { number = n; line = Some m } | false ↦ record { number = refusal_number line_too_long; line = None } ]) ≡
        Some l → Some m ≡ Some l
    go true q = q
    go false q = none_some l q

pub read_back : (output : ℕ) (a : Result Verdict) (l : Bytes) → Small (place_of a) → (reply output a).line ≡ Some l → Recovered a l
unfolding reply
read_back output (ok v) l h e = here (answer_back v h) l (fitted_line output 0 (Some (verdict_line v)) l e)
read_back output (refused r) l h e = refusal_back r h l (fitted_line output (refusal_number r) (refusal_line r) l e)

-- Two replies with one line are of answers or refusals that are printed alike: of one number and one place, with the same texts and names.
pub same_line : (n m : ℕ) (a b : Result Verdict) (l : Bytes) → Small (place_of a) → Small (place_of b) → (reply n a).line ≡ Some l → (reply m b).line ≡ Some l → PrintedAlike a b
same_line n m a b l h k e f =
    let x = read_back n a l h e in
    let y = read_back m b l k f in
    let p = x.reads in
    let q = y.reads in
    let z : y.got ≡ x.got = cc in
    record { got = x.got; one = x.printed; other = subst (Printed b) z y.printed }

-- What is printed alike has one number, one place, and one line or none.
printed_parts : {a b : Result Verdict} → Printed a b → (number_of a ≡ number_of b) × (place_of a ≡ place_of b) × (form_of a ≡ form_of b)
unfolding number_of form_of
printed_parts as_it_is = (refl, refl, refl)
printed_parts of_false = (refl, refl, refl)
printed_parts of_unknown = (refl, refl, refl)

pub alike_parts : {a b : Result Verdict} → PrintedAlike a b → (number_of a ≡ number_of b) × (place_of a ≡ place_of b) × (form_of a ≡ form_of b)
alike_parts x =
    let p = printed_parts x.one in
    let q = printed_parts x.other in
    (p.0 ∙ sym q.0, p.1 ∙ sym q.1, p.2 ∙ sym q.2)
