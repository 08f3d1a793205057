-- What is counted over a JSON text are the nodes of its tree, and every bracket is closed again.
-- Assumes nothing.
use mathlib.Core.Bool.{Bool, false, false≢true, true, true≢false}
use mathlib.Core.List.{append_assoc, [], ◌++◌, ◌∷◌}
use mathlib.Core.Logic.{inl, inr}
use Rattle.std.specs.Prelude.{None, Some}
use mathlib.Core.Path.{ap, refl, subst, sym, ◌∙◌, ◌≡◌}
use Prim.Native.Nat.{ℕ, ◌+◌, ◌-◌, ◌≤◌}
use native.Mathlib.Omega.{arith}
use lib.Dec.{eqb}
use Rattle.json_text.proofs.Laws.{eqb_false, eqb_true}
use Rattle.json_text.proofs.Sound.{between_in, between_of}
use Rattle.json_text.specs.Bytes.{Bytes, between, choose}
use Rattle.json_text.specs.Grammar
use Rattle.json_text.specs.Grammar.{
  Chars,
  Digits,
  Elements,
  Escape,
  Exp,
  Frac,
  Hex,
  Int,
  JsonText,
  MembersOf,
  Minus,
  MoreElements,
  MoreMembers,
  Number,
  Sign,
  SomeDigits,
  Spells,
  Structural,
  Ws,
  is_unescaped,
  no_hex,
  no_space,
  one_hex,
  pair,
  simple,
  space,
  structural,
  unit,
}
use Rattle.json_text.specs.Json.{Members, Value, Values}
use Rattle.json_text.specs.Limits.{nodes, nodes_in, nodes_of}
use Rattle.json_text.specs.Scan.{is_space}
use Rattle.json_text.specs.Strings.{hex_digit}
use Rattle.json_text.specs.Tally
use Rattle.json_text.specs.Tally.{further, tallied, tally}

-- between two tokens
abbrev pub clear : ℕ → ℕ → Tally.Tally
clear n d = tally n d Tally.outside

-- not inside a string
abbrev pub Settled : Tally.Ending → Type 0
Settled Tally.outside = Unit {0}
Settled Tally.quoted = ⊥
Settled Tally.escaped = ⊥
Settled Tally.word = Unit {0}
Settled (Tally.numeral k) = Unit {0}

-- a byte that goes on with no number and no word
pub settled_byte : (n d : ℕ) (e : Tally.Ending) (c : ℕ) → Settled e → Tally.is_letter c ≡ false → Tally.in_number c ≡ false →
    further (tally n d e) c ≡ Tally.begin n d (Tally.mark c)
settled_byte n d Tally.outside c h p q = refl
settled_byte n d Tally.quoted c h p q = absurd h
settled_byte n d Tally.escaped c h p q = absurd h
settled_byte n d Tally.word c h p q = ap (λ (b : Bool). choose ((b, tally n d Tally.word) ∷ []) (Tally.begin n d (Tally.mark c))) p
settled_byte n d (Tally.numeral k) c h p q = ap (λ (b : Bool). choose ((b, tally n d (Tally.numeral (k + 1))) ∷ []) (Tally.begin n d (Tally.mark c))) q

data SpaceView (c : ℕ) : Type 0 where
  blank : c ≡ 32 → SpaceView c
  tab : c ≡ 9 → SpaceView c
  feed : c ≡ 10 → SpaceView c
  return : c ≡ 13 → SpaceView c

space_view : (c : ℕ) → is_space c ≡ true → SpaceView c
space_view c h = go (eqb c 32) (eqb c 9) (eqb c 10) (eqb c 13) refl refl refl refl
  where
    go : (x y z w : Bool) → eqb c 32 ≡ x → eqb c 9 ≡ y → eqb c 10 ≡ z → eqb c 13 ≡ w → SpaceView c
    go true y z w p q r s = blank (eqb_true c 32 p)
    go false true z w p q r s = tab (eqb_true c 9 q)
    go false false true w p q r s = feed (eqb_true c 10 r)
    go false false false true p q r s = return (eqb_true c 13 s)
    go false false false false p q r s = absurd (false≢true (rw (p, q, r, s) at h))

space_clears : (n d : ℕ) (e : Tally.Ending) (c : ℕ) → Settled e → is_space c ≡ true → further (tally n d e) c ≡ clear n d
space_clears n d e c k h = go (space_view c h)
  where
    at : (b : ℕ) → c ≡ b → further (tally n d e) b ≡ clear n d → further (tally n d e) c ≡ clear n d
    at b p q = ap (further (tally n d e)) p ∙ q

    go : SpaceView c → further (tally n d e) c ≡ clear n d
    go (blank p) = at 32 p (settled_byte n d e 32 k refl refl)
    go (tab p) = at 9 p (settled_byte n d e 9 k refl refl)
    go (feed p) = at 10 p (settled_byte n d e 10 k refl refl)
    go (return p) = at 13 p (settled_byte n d e 13 k refl refl)

-- spaces
pub ws_clear : {s r : Bytes} (n d : ℕ) → Ws s r → tallied (clear n d) s ≡ tallied (clear n d) r
ws_clear n d no_space = refl
ws_clear n d (space {c} {s} e k) = ap (λ t. tallied t s) (space_clears n d Tally.outside c tt e) ∙ ws_clear n d k

-- behind a token, what is counted of the text is the same as from where the token has ended
pub record Counted (n d m : ℕ) (e : Tally.Ending) (s r : Bytes) : Type 0 where
  pub ending : Tally.Ending
  pub settled : Settled ending
  pub same : tallied (tally n d e) s ≡ tallied (tally m d ending) r

pub ws_counted : {s r : Bytes} (n d : ℕ) (e : Tally.Ending) → Settled e → Ws s r → Counted n d n e s r
ws_counted n d e h no_space = record { ending = e; settled = h; same = refl }
ws_counted n d e h (space {c} {s} i k) = record { ending = Tally.outside; settled = tt; same = ap (λ t. tallied t s) (space_clears n d e c h i) ∙ ws_clear n d k }

-- a structural byte: the same as between two tokens
pub structural_counted :
    {c : ℕ} {s r : Bytes} (n d : ℕ) (e : Tally.Ending) → Settled e → Tally.is_letter c ≡ false → Tally.in_number c ≡ false → (m b : ℕ) →
    Tally.begin n d (Tally.mark c) ≡ clear m b → Structural c s r → tallied (tally n d e) s ≡ tallied (clear m b) r
structural_counted {c} n d e h p q m b i (structural {t = t} x y) =
    let k = ws_counted n d e h x in
    k.same ∙ ap (λ z. tallied z t) (settled_byte n d k.ending c k.settled p q ∙ i) ∙ ws_clear m b y

-- ---- strings
quoted_byte : (n d c : ℕ) → eqb c 34 ≡ false → eqb c 92 ≡ false → further (tally n d Tally.quoted) c ≡ tally n d Tally.quoted
quoted_byte n d c p q = rw (p, q, choose) refl

none_some : {d : ℕ} → None ≡ Some d → ⊥
none_some e = let z : ◌≡◌ {A = Bool} true false = cc in true≢false z

-- what stands in front of a rest, and what has been counted behind it
pub record Over (t : Tally.Tally) (s r : Bytes) (t' : Tally.Tally) : Type 0 where
  pub part : Bytes
  pub parts : s ≡ part ++ r
  pub counted : tallied t part ≡ t'

pub tallied_append : (t : Tally.Tally) (s r : Bytes) → tallied t (s ++ r) ≡ tallied (tallied t s) r
tallied_append t [] r = refl
tallied_append t (c ∷ s) r = tallied_append (further t c) s r

pub over_same : {t t' : Tally.Tally} {s r : Bytes} → Over t s r t' → tallied t s ≡ tallied t' r
over_same {t} {r = r} o = ap (tallied t) o.parts ∙ tallied_append t o.part r ∙ ap (λ x. tallied x r) o.counted

over_none : {t : Tally.Tally} {s : Bytes} → Over t s s t
over_none = record { part = []; parts = refl; counted = refl }

over_byte : {t t' t'' : Tally.Tally} {c : ℕ} {s r : Bytes} → further t c ≡ t' → Over t' s r t'' → Over t (c ∷ s) r t''
over_byte {c = c} e o = record { part = c ∷ o.part; parts = ap (λ (x : Bytes). c ∷ x) o.parts; counted = ap (λ x. tallied x o.part) e ∙ o.counted }

over_then : {t t' t'' : Tally.Tally} {s u r : Bytes} → Over t s u t' → Over t' u r t'' → Over t s r t''
over_then {t} {r = r} o p =
    record {
      part = o.part ++ p.part;
      parts = o.parts ∙ ap (λ (x : Bytes). o.part ++ x) p.parts ∙ sym (append_assoc o.part p.part r);
      counted = tallied_append t o.part p.part ∙ ap (λ x. tallied x p.part) o.counted ∙ p.counted;
    }

hex_over : {k u v : ℕ} {s r : Bytes} (n d : ℕ) → Hex k u v s r → Over (tally n d Tally.quoted) s r (tally n d Tally.quoted)
hex_over n d no_hex = over_none
hex_over n d (one_hex {d = x} {c} e k) = over_byte (quoted_byte n d c (not_at 34 λ i. none_some i) (not_at 92 λ i. none_some i)) (hex_over n d k)
  where
    not_at : (b : ℕ) → (hex_digit b ≡ Some x → ⊥) → eqb c b ≡ false
    not_at b f = eqb_false c b λ i. f (subst (λ (y : ℕ). hex_digit y ≡ Some x) i e)

escape_over : {y s t : Bytes} (n d : ℕ) → Escape y s t → Over (tally n d Tally.escaped) s t (tally n d Tally.quoted)
escape_over n d (simple e) = over_byte refl over_none
escape_over n d (unit e k p q) = over_byte refl (hex_over n d k)
escape_over n d (pair {r = r} e k p q l m i) =
    over_byte refl
    (over_then (hex_over n d k)
    (subst (λ (x : Bytes). Over (tally n d Tally.quoted) x r (tally n d Tally.quoted)) (sym q)
    (over_byte refl (over_byte refl (hex_over n d l)))))

-- a string's characters up to the closing quote
pub chars_over : {x s r : Bytes} (n d : ℕ) → Chars x s r → Over (tally n d Tally.quoted) s (34 ∷ r) (tally n d Tally.quoted)
chars_over n d (Grammar.close {r = r} p) = record { part = []; parts = ap (λ (c : ℕ). c ∷ r) p; counted = refl }
chars_over n d (Grammar.unescaped {c} p t) = over_byte (quoted_byte n d c (not_at 34 refl) (not_at 92 refl)) (chars_over n d t)
  where
    not_at : (b : ℕ) → is_unescaped b ≡ false → eqb c b ≡ false
    not_at b f = eqb_false c b λ i. true≢false (sym (subst (λ (y : ℕ). is_unescaped y ≡ true) i p) ∙ f)
chars_over n d (Chars.escape p e t q) = over_byte (ap (further (tally n d Tally.quoted)) p) (over_then (escape_over n d e) (chars_over n d t))

pub chars_counted : {x s r : Bytes} (n d : ℕ) → Chars x s r → tallied (tally n d Tally.quoted) s ≡ tallied (clear n d) r
chars_counted n d t = over_same (chars_over n d t)

pub string_counted : {x s r : Bytes} (n d : ℕ) → Grammar.String x s r → tallied (clear n d) s ≡ tallied (clear (n + 1) d) r
string_counted n d (Grammar.string {c} {s = s} p t) = ap (λ (b : ℕ). tallied (further (clear n d) b) s) p ∙ chars_counted (n + 1) d t

-- ---- numbers
record Numbered (n d k : ℕ) (s r : Bytes) : Type 0 where
  bytes : ℕ
  same : tallied (tally n d (Tally.numeral k)) s ≡ tallied (tally n d (Tally.numeral bytes)) r

pub number_byte : (n d k c : ℕ) → Tally.in_number c ≡ true → further (tally n d (Tally.numeral k)) c ≡ tally n d (Tally.numeral (k + 1))
number_byte n d k c h = ap (λ (b : Bool). choose ((b, tally n d (Tally.numeral (k + 1))) ∷ []) (Tally.begin n d (Tally.mark c))) h

pub digit_byte : (c : ℕ) → between 48 57 c ≡ true → Tally.in_number c ≡ true
digit_byte c h = rw h refl

pub digit_mark : (c : ℕ) → between 48 57 c ≡ true → Tally.mark c ≡ Tally.figure
digit_mark c h =
    let b = between_in 48 57 c h in
    rw (
      eqb_false c 91 (λ e. omega arith),
      eqb_false c 123 (λ e. omega arith),
      eqb_false c 93 (λ e. omega arith),
      eqb_false c 125
          (λ e. omega arith),
      eqb_false c 34 (λ e. omega arith),
      eqb_false c 45 (λ e. omega arith),
      h,
      choose,
    ) refl

pub nonzero_digit : (c : ℕ) → between 49 57 c ≡ true → between 48 57 c ≡ true
nonzero_digit c h = let b = between_in 49 57 c h in between_of 48 57 c (omega arith) (omega arith)

module _ (n d : ℕ) where
  one_more : {k c : ℕ} {s r : Bytes} → Tally.in_number c ≡ true → Numbered n d (k + 1) s r → Numbered n d k (c ∷ s) r
  one_more {k} {c} {s} h b = record { bytes = b.bytes; same = ap (λ t. tallied t s) (number_byte n d k c h) ∙ b.same }

  no_more : {k : ℕ} {s : Bytes} → Numbered n d k s s
  no_more {k} = record { bytes = k; same = refl }

  then : {k : ℕ} {s t r : Bytes} → Numbered n d k s t → ((m : ℕ) → Numbered n d m t r) → Numbered n d k s r
  then a b = let c = b a.bytes in record { bytes = c.bytes; same = a.same ∙ c.same }

  digits_counted : {s r : Bytes} (k : ℕ) → Digits s r → Numbered n d k s r
  digits_counted k Grammar.no_digit = no_more
  digits_counted k (Grammar.one_digit {c} e t) = one_more (digit_byte c e) (digits_counted (k + 1) t)

  some_counted : {s r : Bytes} (k : ℕ) → SomeDigits s r → Numbered n d k s r
  some_counted k (Grammar.some_digits {c} e t) = one_more (digit_byte c e) (digits_counted (k + 1) t)

  is_byte : (b : ℕ) {k c : ℕ} {s r : Bytes} → c ≡ b → Tally.in_number b ≡ true → Numbered n d (k + 1) s r → Numbered n d k (c ∷ s) r
  is_byte b e h t = one_more (ap Tally.in_number e ∙ h) t

  int_counted : {s r : Bytes} (k : ℕ) → Int s r → Numbered n d k s r
  int_counted k (Int.zero e) = is_byte 48 e refl no_more
  int_counted k (Int.nonzero {c} e t) = one_more (digit_byte c (nonzero_digit c e)) (digits_counted (k + 1) t)

  frac_counted : {s r : Bytes} (k : ℕ) → Frac s r → Numbered n d k s r
  frac_counted k Grammar.no_frac = no_more
  frac_counted k (Grammar.frac e t) = is_byte 46 e refl (some_counted (k + 1) t)

  sign_counted : {s r : Bytes} (k : ℕ) → Sign s r → Numbered n d k s r
  sign_counted k Grammar.no_sign = no_more
  sign_counted k (Sign.sign (inl e)) = is_byte 45 e refl no_more
  sign_counted k (Sign.sign (inr e)) = is_byte 43 e refl no_more

  exp_counted : {s r : Bytes} (k : ℕ) → Exp s r → Numbered n d k s r
  exp_counted k Grammar.no_exp = no_more
  exp_counted k (Exp.exp (inl e) g t) = is_byte 69 e refl (then (sign_counted (k + 1) g) λ m. some_counted m t)
  exp_counted k (Exp.exp (inr e) g t) = is_byte 101 e refl (then (sign_counted (k + 1) g) λ m. some_counted m t)

  behind_int : {s t r : Bytes} (k : ℕ) → Frac s t → Exp t r → Numbered n d k s r
  behind_int k f e = then (frac_counted k f) λ m. exp_counted m e

-- the first byte of a number begins a node
begins_number : {s t u r : Bytes} (n d c : ℕ) → Tally.mark c ≡ Tally.figure → Numbered (n + 1) d 1 s t → Frac t u → Exp u r → Counted n d (n + 1) Tally.outside (c ∷ s) r
begins_number {s} n d c e a f x =
    let b = then (n + 1) d a λ m. behind_int (n + 1) d m f x in
    record { ending = Tally.numeral b.bytes; settled = tt; same = ap (λ z. tallied (Tally.begin n d z) s) e ∙ b.same }

unsigned_counted : {s t u r : Bytes} (n d : ℕ) → Int s t → Frac t u → Exp u r → Counted n d (n + 1) Tally.outside s r
unsigned_counted n d (Int.zero {c} e) f x = begins_number n d c (ap Tally.mark e) (no_more (n + 1) d) f x
unsigned_counted n d (Int.nonzero {c} e k) f x = begins_number n d c (digit_mark c (nonzero_digit c e)) (digits_counted (n + 1) d 1 k) f x

signed_counted : {s t u v r : Bytes} (n d : ℕ) → Minus s t → Int t u → Frac u v → Exp v r → Counted n d (n + 1) Tally.outside s r
signed_counted n d Grammar.no_minus i f x = unsigned_counted n d i f x
signed_counted n d (Grammar.minus {c} e) i f x = begins_number n d c (ap Tally.mark e) (int_counted (n + 1) d 1 i) f x

pub number_counted : {s r : Bytes} (n d : ℕ) → Number s r → Counted n d (n + 1) Tally.outside s r
number_counted n d t = signed_counted n d t.has_minus t.has_int t.has_frac t.has_exp

-- ---- values
pub counted_at : {n d m k : ℕ} {e : Tally.Ending} {s r : Bytes} → m ≡ k → Counted n d m e s r → Counted n d k e s r
counted_at {n} {d} {e = e} {s} {r} i h = subst (λ (x : ℕ). Counted n d x e s r) i h

pub behind_of : {n d k m : ℕ} {e f : Tally.Ending} {s t r : Bytes} → tallied (tally n d e) s ≡ tallied (tally k d f) t → Counted k d m f t r → Counted n d m e s r
behind_of i h = record { ending = h.ending; settled = h.settled; same = i ∙ h.same }

pub both : {n d k m : ℕ} {e : Tally.Ending} {s t r : Bytes} → Counted n d k e s t → ((f : Tally.Ending) → Settled f → Counted k d m f t r) → Counted n d m e s r
both h g = let k = g h.ending h.settled in record { ending = k.ending; settled = k.settled; same = h.same ∙ k.same }

-- what stands in brackets
-- a byte that stands between tokens, and ends a number and a word
pub record Stands (c : ℕ) : Type 0 where
  pub no_letter : Tally.is_letter c ≡ false
  pub no_number : Tally.in_number c ≡ false

bracketed :
    {s t u r : Bytes} (n d k byte end : ℕ) → Tally.mark byte ≡ Tally.opens → Stands byte → Tally.mark end ≡ Tally.closes → Stands end →
    Structural byte s t → Counted (n + 1) (d + 1) (n + 1 + k) Tally.outside t u → Structural end u r →
    Counted n d (n + (1 + k)) Tally.outside s r
bracketed {r = r} n d k byte end o p c x a h b =
    record {
      ending = Tally.outside;
      settled = tt;
      same =
          structural_counted n d Tally.outside tt p.no_letter p.no_number (n + 1) (d + 1) (ap (Tally.begin n d) o) a ∙
          h.same ∙
          structural_counted (n + 1 + k) (d + 1) h.ending h.settled x.no_letter x.no_number (n + 1 + k) (d + 1 - 1) (ap (Tally.begin (n + 1 + k) (d + 1)) c) b ∙
          ap (λ (z : ℕ). tallied (clear z (d + 1 - 1)) r) (omega arith) ∙
          ap (λ (z : ℕ). tallied (clear (n + (1 + k)) z) r) (omega arith);
    }

mutual
  unfolding nodes

  pub spells_counted : {v : Value} {s r : Bytes} (n d : ℕ) → Spells v s r → Counted n d (n + nodes v) Tally.outside s r
  spells_counted n d (Spells.is_null e) = record { ending = Tally.word; settled = tt; same = ap (tallied (clear n d)) e }
  spells_counted n d (Spells.is_true e) = record { ending = Tally.word; settled = tt; same = ap (tallied (clear n d)) e }
  spells_counted n d (Spells.is_false e) = record { ending = Tally.word; settled = tt; same = ap (tallied (clear n d)) e }
  spells_counted n d (Spells.is_number t e) = number_counted n d t
  spells_counted n d (Spells.is_text t) = record { ending = Tally.outside; settled = tt; same = string_counted n d t }
  spells_counted n d (Spells.is_array {vs} o t c) =
      bracketed n d (nodes_in vs) 91 93 refl (record { no_letter = refl; no_number = refl }) refl
      (record { no_letter = refl; no_number = refl }) o (elements_counted (n + 1) (d + 1) t) c
  spells_counted n d (Spells.is_object {ms} o t c) =
      bracketed n d (nodes_of ms) 123 125 refl (record { no_letter = refl; no_number = refl }) refl
      (record { no_letter = refl; no_number = refl }) o (members_counted (n + 1) (d + 1) t) c

  elements_counted : {vs : Values} {s r : Bytes} (n d : ℕ) → Elements vs s r → Counted n d (n + nodes_in vs) Tally.outside s r
  elements_counted n d Grammar.no_element = counted_at (omega arith) (record { ending = Tally.outside; settled = tt; same = refl })
  elements_counted n d (Elements.elements {v} {vs} h t) = both (spells_counted n d h) λ e k. counted_at (omega arith) (more_elements_counted (n + nodes v) d e k t)

  more_elements_counted : {vs : Values} {s r : Bytes} (n d : ℕ) (e : Tally.Ending) → Settled e → MoreElements vs s r → Counted n d (n + nodes_in vs) e s r
  more_elements_counted n d e k Grammar.last_element = counted_at (omega arith) (record { ending = e; settled = k; same = refl })
  more_elements_counted n d e k (Grammar.next_element {v} {vs} c h t) =
      behind_of (structural_counted n d e k refl refl n d refl c) (both (spells_counted n d h) λ f l. counted_at (omega arith) (more_elements_counted (n + nodes v) d f l t))

  members_counted : {ms : Members} {s r : Bytes} (n d : ℕ) → MembersOf ms s r → Counted n d (n + nodes_of ms) Tally.outside s r
  members_counted n d Grammar.no_member = counted_at (omega arith) (record { ending = Tally.outside; settled = tt; same = refl })
  members_counted n d (Grammar.members {v = v} {ms} q c h t) =
      behind_of (string_counted n d q ∙ structural_counted (n + 1) d Tally.outside tt refl refl (n + 1) d refl c) (both (spells_counted (n + 1) d h) λ f l.
      counted_at (omega arith) (more_members_counted (n + 1 + nodes v) d f l t))

  more_members_counted : {ms : Members} {s r : Bytes} (n d : ℕ) (e : Tally.Ending) → Settled e → MoreMembers ms s r → Counted n d (n + nodes_of ms) e s r
  more_members_counted n d e k Grammar.last_member = counted_at (omega arith) (record { ending = e; settled = k; same = refl })
  more_members_counted n d e k (Grammar.next_member {v = v} {ms} b q c h t) =
      behind_of (structural_counted n d e k refl refl n d refl b ∙ string_counted n d q ∙ structural_counted (n + 1) d Tally.outside tt
      refl refl (n + 1) d refl c) (both (spells_counted (n + 1) d h) λ f l.
      counted_at (omega arith) (more_members_counted (n + 1 + nodes v) d f l t))

-- Over a JSON text so many nodes have begun as its tree has, and no bracket is open.
pub text_counted : (s : Bytes) (v : Value) → JsonText v s → (Tally.nodes_begun (tallied Tally.nothing s) ≡ nodes v) × (Tally.brackets_open (tallied Tally.nothing s) ≡ 0)
text_counted s v t =
    let a = spells_counted 0 0 t.spelled in
    let b = ws_counted (0 + nodes v) 0 a.ending a.settled t.behind in
    let e = ws_clear 0 0 t.before ∙ a.same ∙ b.same in
    (ap Tally.nodes_begun e ∙ omega arith, ap Tally.brackets_open e)

-- ---- the byte that begins a node of a given number is one
begin_grows : (n d : ℕ) (m : Tally.Mark) → n ≤ Tally.nodes_begun (Tally.begin n d m)
begin_grows n d Tally.opens = omega arith
begin_grows n d Tally.closes = omega arith
begin_grows n d Tally.quotes = omega arith
begin_grows n d Tally.figure = omega arith
begin_grows n d Tally.letter = omega arith
begin_grows n d Tally.other = omega arith

on_grows : (n d c : ℕ) (e : Tally.Ending) (b : Bool) → n ≤ Tally.nodes_begun (choose ((b, tally n d e) ∷ []) (Tally.begin n d (Tally.mark c)))
on_grows n d c e true = omega arith
on_grows n d c e false = begin_grows n d (Tally.mark c)

further_grows : (t : Tally.Tally) (c : ℕ) → Tally.nodes_begun t ≤ Tally.nodes_begun (further t c)
further_grows (tally n d Tally.outside) c = begin_grows n d (Tally.mark c)
further_grows (tally n d Tally.quoted) c = omega arith
further_grows (tally n d Tally.escaped) c = omega arith
further_grows (tally n d Tally.word) c = on_grows n d c Tally.word (Tally.is_letter c)
further_grows (tally n d (Tally.numeral k)) c = on_grows n d c (Tally.numeral (k + 1)) (Tally.in_number c)

tallied_grows : (t : Tally.Tally) (s : Bytes) → Tally.nodes_begun t ≤ Tally.nodes_begun (tallied t s)
tallied_grows t [] = omega arith
tallied_grows t (c ∷ s) = omega (arith, further_grows t c, tallied_grows (further t c) s)

-- so many nodes have begun before the byte, and one more with it
pub record Begins (t : Tally.Tally) (n : ℕ) (p : Bytes) (c : ℕ) : Type 0 where
  pub before : Tally.nodes_begun (tallied t p) ≡ n
  pub with_it : Tally.nodes_begun (further (tallied t p) c) ≡ n + 1

-- In a text no other byte begins the same node.
pub one_place : (t : Tally.Tally) (n : ℕ) (p q : Bytes) (c d : ℕ) (r u : Bytes) → p ++ (c ∷ r) ≡ q ++ (d ∷ u) → Begins t n p c → Begins t n q d → p ≡ q
one_place t n [] [] c d r u e a b = refl
one_place t n [] (x ∷ q) c d r u e a b =
    let i : c ≡ x = cc in
    absurd (omega (arith, a.with_it, b.before, tallied_grows (further t x) q, ap (λ (y : ℕ). Tally.nodes_begun (further t y)) i))
one_place t n (x ∷ p) [] c d r u e a b =
    let i : x ≡ d = cc in
    absurd (omega (arith, b.with_it, a.before, tallied_grows (further t x) p, ap (λ (y : ℕ). Tally.nodes_begun (further t y)) i))
one_place t n (x ∷ p) (y ∷ q) c d r u e a b =
    let i : x ≡ y = cc in
    let j : p ++ (c ∷ r) ≡ q ++ (d ∷ u) = cc in
    let k = one_place (further t x) n p q c d r u j (record { before = a.before; with_it = a.with_it })
    (subst (λ (z : ℕ). Begins (further t z) n q d) (sym i) (record { before = b.before; with_it = b.with_it })) in
    cc
