-- The parts of a number's characters: a sign, zeros at the start and at the end, what stands before and behind a byte.
-- Assumes nothing.
use borrow.Author.Tests.{ltb-false}
use lib.Dec.{ltb}
use Rattle.std.proofs.lemmas.List.{nil_from_length}
use Rattle.std.proofs.Common.{append-nil, ap₂, length-append, ◌||◌, Bool, Equal, Greater, Less, None, Option, Some, cond, suc, zero, ◌≡◌, ◌≢◌, ℕ, ◌+◌}
use Rattle.std.proofs.Common.{◌-◌, ◌<◌, ◌≤◌, [], ◌∷◌, ◌++◌, arith, drop, eqb, false, get_or, length, refl, sym, take, true, ◌∙◌, ap}
use Rattle.std.specs.Bool.{⊤}
use Rattle.std.specs.List.{position_or_len}
use Rattle.number.proofs.Digits.{before_nil, behind_nil}
use Rattle.number.specs.Parts.{Parsed, Splits, Trimmed, ends_whole, held, side_of, stops_at}
use Rattle.number.specs.declared.text.Decimal.{Decimal}
use Rattle.number.specs.Compare.{leading, is_nothing, is_zero, sign_of, put, trim, trim_end}
use Rattle.number.specs.Decimal.{before, behind, exponent_part, fraction_part, whole_part, is_e, is_point, is_sign, minus, unsigned}
use Rattle.json_text.proofs.Laws.{eqb_false, eqb_true}
use Rattle.json_text.specs.Bytes.{Bytes}
use lib.ListN.{drop_of_length-le}
use lib.Seq.{drop-length, split_at, take-length}

-- a row as long as it is
pub all_of : (s : Bytes) (n : ℕ) → n ≡ length s → take n s ≡ s
all_of s n e = rw e (take-length s)

-- ---- a sign
module _ (s : Bytes) where
  pub no_minus : s ≡ [] → false ≡ minus s
  unfolding minus
  no_minus e = rw e refl

  pub no_sign : s ≡ [] → s ≡ unsigned s
  unfolding unsigned
  no_sign e = rw e refl

  module _ (c : ℕ) (t : Bytes) (e : s ≡ c ∷ t) where
    pub minus_is : minus s ≡ eqb c 45
    unfolding minus
    minus_is = rw e refl

    pub unsigned_is : is_sign c ≡ true → t ≡ unsigned s
    unfolding unsigned
    unsigned_is k = rw (e, k, unsigned) refl

    pub unsigned_none : is_sign c ≡ false → s ≡ unsigned s
    unfolding unsigned
    unsigned_none k = e ∙ sym (rw (e, k, unsigned) refl)

pub other_sign : (c : ℕ) → c ≢ 45 → c ≢ 43 → is_sign c ≡ false
other_sign c p q = rw (eqb_false c 45 p, eqb_false c 43 q) refl

-- ---- zeros at the start
pub skip_zero : (s t u : Bytes) → trim s ≡ u → 1 ≤ length s → get_or s 0 0 ≡ 48 → t ≡ drop 1 s → trim t ≡ u
unfolding trim
skip_zero [] t u e h z k = absurd (omega (arith, h))
skip_zero (c ∷ s) t u e h z k = rw k (rw (z, trim) at e)

pub no_zero : (s t : Bytes) → trim s ≡ t → (1 ≤ length s → get_or s 0 0 ≢ 48) → s ≡ t
unfolding trim
no_zero [] t e h = e
no_zero (c ∷ s) t e h = rw (eqb_false c 48 (h (omega arith)), trim) at e

-- ---- what stands before the first byte that passes a test, and what stands from there on
module _ (p : ℕ → Bool) where
  module _ (c : ℕ) (s : Bytes) where
    before_stop : p c ≡ true → before p (c ∷ s) ≡ []
    unfolding before
    before_stop e = rw (e, before) refl

    before_on : p c ≡ false → before p (c ∷ s) ≡ c ∷ before p s
    unfolding before
    before_on e = rw (e, before) refl

    behind_stop : p c ≡ true → behind p (c ∷ s) ≡ s
    unfolding behind
    behind_stop e = rw (e, behind) refl

    behind_on : p c ≡ false → behind p (c ∷ s) ≡ behind p s
    unfolding behind
    behind_on e = rw (e, behind) refl

  take_all : (s : Bytes) (n : ℕ) → length s ≤ n → take n s ≡ s
  take_all [] zero h = refl
  take_all [] (suc n) h = refl
  take_all (c ∷ s) zero h = absurd (omega (arith, h))
  take_all (c ∷ s) (suc n) h = ap (λ (t : Bytes). c ∷ t) (take_all s n (omega (arith, h)))

  pub split_here : (s : Bytes) → Splits p s (take (position_or_len p s) s) (drop (position_or_len p s) s)
  split_here [] = record { front = sym (before_nil p); parts = refl; stop = refl }
  split_here (c ∷ s) = go (split_here s) (p c) refl
    where
      go : Splits p s (take (position_or_len p s) s) (drop (position_or_len p s) s) → (b : Bool) → p c ≡ b →
          Splits p (c ∷ s) (take (position_or_len p (c ∷ s)) (c ∷ s)) (drop (position_or_len p (c ∷ s)) (c ∷ s))
      go h true e = rw e (record { front = sym (before_stop c s e); parts = refl; stop = e })
      go h false e = let k : 1 + position_or_len p s ≡ suc (position_or_len p s) = omega arith in
          rw (e, k) (record { front = ap (λ (t : Bytes). c ∷ t) h.front ∙ sym (before_on c s e); parts = ap (λ (t : Bytes). c ∷ t) h.parts; stop = h.stop })

  module _ (s : Bytes) (r : Option ℕ) (e : r ≡ cond (ltb (position_or_len p s) (length s)) (Some (position_or_len p s)) None) where
    pub split_some : (at : ℕ) (a b : Bytes) → r ≡ Some at → a ≡ take at s → b ≡ drop at s → Splits p s a b
    split_some at a b k l m = go (ltb (position_or_len p s) (length s)) refl
      where
        go : (x : Bool) → ltb (position_or_len p s) (length s) ≡ x → Splits p s a b
        go true h = let j : at ≡ position_or_len p s = cc (rw h at e) in rw (l, m, j) (split_here s)
        go false h = let j = sym k ∙ rw h at e in absurd (cc)

    pub split_none : (a b : Bytes) → r ≡ None → a ≡ s → b ≡ [] → Splits p s a b
    split_none a b k l m = go (ltb (position_or_len p s) (length s)) refl
      where
        go : (x : Bool) → ltb (position_or_len p s) (length s) ≡ x → Splits p s a b
        go true h = let j = sym k ∙ rw h at e in absurd (cc)
        go false h =
            let n : length s ≤ position_or_len p s = ltb-false _ _ h in
            rw (l, m) (rw (take_all s (position_or_len p s) n, drop_of_length-le s {i = position_or_len p s} n) at (split_here s))

-- ---- the sign of a number by its digits
-- zeros at the end are all of a row only where zeros at the start are
no_nothing : (s : Bytes) → trim s ≡ s → 0 < length s → trim_end s ≢ []
unfolding trim trim_end
no_nothing [] e h k = absurd (omega (arith, h))
no_nothing (c ∷ s) e h k = go (is_zero c) refl
  where
    shorter : (s : Bytes) → length (trim s) ≤ length s
    shorter [] = omega arith
    shorter (c ∷ s) = by (shorter s) (is_zero c) refl
      where
        by : length (trim s) ≤ length s → (b : Bool) → is_zero c ≡ b → length (trim (c ∷ s)) ≤ length (c ∷ s)
        by h true e = rw (e, trim) (omega (arith, h))
        by h false e = rw (e, trim) (omega arith)

    full : (t : Bytes) → is_zero c ≡ false → put c t ≡ c ∷ t
    full [] e = rw (e, put) refl
    full (d ∷ t) e = refl

    go : (b : Bool) → is_zero c ≡ b → ⊥
    go true f = let l = ap length (rw (f, trim) at e) in absurd (omega (arith, l, shorter s))
    go false f = let l = ap length (sym (full (trim_end s) f) ∙ k) in absurd (omega (arith, l))

module _ (d : Decimal) where
  -- a digit that is not 0 leads
  some_digit : (s : Bytes) → trim s ≡ s → 0 < length s → is_nothing (trim_end s) ≡ false
  some_digit s e h = go (trim_end s) refl
    where
      go : (t : Bytes) → trim_end s ≡ t → is_nothing (trim_end s) ≡ false
      go [] k = absurd (no_nothing s e h k)
      go (c ∷ t) k = rw k refl

  digits : Trimmed d → 0 < length d.upper.now + length d.lower.now → is_nothing (trim_end (d.upper.now ++ d.lower.now)) ≡ false
  digits t h = some_digit (d.upper.now ++ d.lower.now) t (omega (arith, h, length-append d.upper.now d.lower.now))

  pub side_none : length d.upper.now ≡ 0 → length d.lower.now ≡ 0 → Equal ≡ side_of (sign_of (held d))
  unfolding trim_end
  side_none h k = rw (nil_from_length d.upper.now h, nil_from_length d.lower.now k, sign_of) refl

  pub side_below : Trimmed d → 0 < length d.upper.now + length d.lower.now → d.negative ≡ true → Less ≡ side_of (sign_of (held d))
  side_below t h n = rw (digits t h, n, sign_of) refl

  pub side_above : Trimmed d → 0 < length d.upper.now + length d.lower.now → d.negative ≡ false → Greater ≡ side_of (sign_of (held d))
  side_above t h n = rw (digits t h, n, sign_of) refl

pub unsigned_upto : (s : Bytes) → length (unsigned s) ≤ length s
unfolding unsigned
unsigned_upto [] = omega arith
unsigned_upto (c ∷ s) = go (is_sign c) refl
  where
    go : (b : Bool) → is_sign c ≡ b → length (unsigned (c ∷ s)) ≤ length (c ∷ s)
    go true e = rw (e, unsigned) (omega arith)
    go false e = rw (e, unsigned) (omega arith)

-- ---- zeros at the end
end_zero : (s : Bytes) → trim_end (s ++ (48 ∷ [])) ≡ trim_end s
unfolding trim_end
end_zero [] = refl
end_zero (c ∷ s) = ap (put c) (end_zero s)

cut_last : (s : Bytes) → 1 ≤ length s → s ≡ take (length s - 1) s ++ (get_or s (length s - 1) 0 ∷ [])
cut_last s h =
    let e : suc (length s - 1) ≡ length s = omega (arith, h) in
    rw (e, drop-length s) at (split_at s (length s - 1) 0 (omega (arith, h)))

pub skip_end : (s t u : Bytes) → trim_end s ≡ u → 1 ≤ length s → get_or s (length s - 1) 0 ≡ 48 → t ≡ take (length s - 1) s → trim_end t ≡ u
skip_end s t u e h z k = ap trim_end k ∙ sym (end_zero (take (length s - 1) s)) ∙ ap trim_end (sym (rw z at (cut_last s h))) ∙ e

kept : (s : Bytes) (c : ℕ) → c ≢ 48 → trim_end (s ++ (c ∷ [])) ≡ s ++ (c ∷ [])
unfolding trim_end
kept [] c h = rw (eqb_false c 48 h, put) refl
kept (d ∷ []) c h = rw (kept [] c h) refl
kept (d ∷ (b ∷ s)) c h = rw (kept (b ∷ s) c h) refl

pub no_end : (s t : Bytes) → trim_end s ≡ t → (1 ≤ length s → get_or s (length s - 1) 0 ≢ 48) → s ≡ t
unfolding trim_end
no_end [] t e h = e
no_end (c ∷ s) t e h =
    let l : 1 ≤ length (c ∷ s) = omega arith in
    let k = cut_last (c ∷ s) l in
    k ∙ sym (kept _ _ (h l)) ∙ ap trim_end (sym k) ∙ e

-- ---- zeros of two rows
trim_append : (a b : Bytes) → trim (a ++ b) ≡ elim (trim a) [ [] ↦ trim b | c ∷ t ↦ (c ∷ t) ++ b ]
unfolding trim
trim_append [] b = refl
trim_append (c ∷ a) b = go (trim_append a b) (is_zero c) refl
  where
    go : trim (a ++ b) ≡ elim (trim a) [ [] ↦ trim b | d ∷ t ↦ (d ∷ t) ++ b ] → (x : Bool) → is_zero c ≡ x →
        trim (c ∷ (a ++ b)) ≡ elim (trim (c ∷ a)) [ [] ↦ trim b | d ∷ t ↦ (d ∷ t) ++ b ]
    go h true e = rw (e, trim) h
    go h false e = rw (e, trim) refl

pub trim_through : (a b x y : Bytes) → x ≡ trim a → y ≡ trim b → length x ≡ 0 → x ++ y ≡ trim (a ++ b)
trim_through a b x y e f h =
    let n : x ≡ [] = nil_from_length x h in
    rw (n, f) (sym (trim_append a b ∙ rw (sym e ∙ n) refl))

pub trim_first : (a b x : Bytes) → x ≡ trim a → length x ≢ 0 → x ++ b ≡ trim (a ++ b)
trim_first a b [] e h = absurd (h refl)
trim_first a b (c ∷ x) e h = sym (trim_append a b ∙ rw (sym e) refl)

end_append : (a b : Bytes) → trim_end (a ++ b) ≡ elim (trim_end b) [ [] ↦ trim_end a | c ∷ t ↦ a ++ (c ∷ t) ]
unfolding trim_end
end_append [] b = go (trim_end b) refl
  where
    go : (u : Bytes) → trim_end b ≡ u → trim_end b ≡ elim (trim_end b) [ [] ↦ trim_end [] | c ∷ t ↦ [] ++ (c ∷ t) ]
    go [] e = rw e refl
    go (c ∷ u) e = rw e refl
end_append (d ∷ a) b = go (end_append a b) (trim_end b) refl
  where
    go : trim_end (a ++ b) ≡ elim (trim_end b) [ [] ↦ trim_end a | c ∷ t ↦ a ++ (c ∷ t) ] → (u : Bytes) → trim_end b ≡ u →
        put d (trim_end (a ++ b)) ≡ elim (trim_end b) [ [] ↦ put d (trim_end a) | c ∷ t ↦ d ∷ (a ++ (c ∷ t)) ]
    go h [] e = rw e (ap (put d) (rw e at h))
    go h (c ∷ u) e = rw e (ap (put d) (rw e at h) ∙ full a c u)
      where
        full : (a : Bytes) (c : ℕ) (u : Bytes) → put d (a ++ (c ∷ u)) ≡ d ∷ (a ++ (c ∷ u))
        full [] c u = refl
        full (x ∷ a) c u = refl

pub end_through : (a b x y : Bytes) → x ≡ trim_end a → y ≡ trim_end b → length y ≡ 0 → x ++ y ≡ trim_end (a ++ b)
end_through a b x y e f h =
    let n : y ≡ [] = nil_from_length y h in
    rw (n, e) (append-nil (trim_end a) ∙ sym (end_append a b ∙ rw (sym f ∙ n) refl))

pub end_first : (a b y : Bytes) → y ≡ trim_end b → length y ≢ 0 → a ++ y ≡ trim_end (a ++ b)
end_first a b [] e h = absurd (h refl)
end_first a b (c ∷ y) e h = sym (end_append a b ∙ rw (sym e) refl)

-- ---- what stands behind the digits before the point
-- the bytes of a row all fail a test
abbrev Clear : (ℕ → Bool) → Bytes → Type 0
Clear p [] = ⊤
Clear p (c ∷ s) = (p c ≡ false) × Clear p s

clear_before : (p : ℕ → Bool) (s : Bytes) → Clear p (before p s)
clear_before p [] = rw (before_nil p) tt
clear_before p (c ∷ s) = go (clear_before p s) (p c) refl
  where
    go : Clear p (before p s) → (b : Bool) → p c ≡ b → Clear p (before p (c ∷ s))
    go h true e = rw (before_stop p c s e) tt
    go h false e = rw (before_on p c s e) (e, h)

weaker : (p q : ℕ → Bool) → ((c : ℕ) → q c ≡ false → p c ≡ false) → (a : Bytes) → Clear q a → Clear p a
weaker p q f [] h = tt
weaker p q f (c ∷ a) h = (f c h.0, weaker p q f a h.1)

before_past : (p : ℕ → Bool) (a b : Bytes) → Clear p a → before p (a ++ b) ≡ a ++ before p b
before_past p [] b h = refl
before_past p (c ∷ a) b h = before_on p c (a ++ b) h.0 ∙ ap (λ (t : Bytes). c ∷ t) (before_past p a b h.1)

behind_past : (p : ℕ → Bool) (a b : Bytes) → Clear p a → behind p (a ++ b) ≡ behind p b
behind_past p [] b h = refl
behind_past p (c ∷ a) b h = behind_on p c (a ++ b) h.0 ∙ behind_past p a b h.1

behind_split : (p : ℕ → Bool) (s a b : Bytes) → Splits p s a b → drop 1 b ≡ behind p s
behind_split p s a b h =
    sym
    (ap (behind p) h.parts ∙ behind_past p a b (rw (sym h.front) at (clear_before p s)) ∙ here b h.stop)
  where
    here : (b : Bytes) → stops_at p b ≡ true → behind p b ≡ drop 1 b
    here [] e = behind_nil p
    here (c ∷ b) e = behind_stop p c b e

no_point : (c : ℕ) → ends_whole c ≡ false → is_point c ≡ false
no_point c h = go (is_point c) refl
  where
    go : (b : Bool) → is_point c ≡ b → is_point c ≡ false
    go true e = let z : ◌≡◌ {A = Bool} true false = rw e at h in absurd (cc)
    go false e = e

no_e : (c : ℕ) → ends_whole c ≡ false → is_e c ≡ false
no_e c h = let e = no_point c h in rw e at h

point_plain : (c : ℕ) → c ≡ 46 → (is_e c ≡ false) × (is_point c ≡ true)
point_plain c e = rw e (refl, refl)

-- where a point leads
pub past_point : (s t : Bytes) → 1 ≤ length s → get_or s 0 0 ≡ 46 → t ≡ drop 1 s →
    (before is_e t ≡ behind is_point (before is_e s)) × (behind is_e t ≡ behind is_e s)
past_point [] t h n k = absurd (omega (arith, h))
past_point (c ∷ s) t h n k =
    let i = point_plain c n in
    (rw k (sym (rw (before_on is_e c s i.0) (behind_stop is_point c (before is_e s) i.1))), rw k (sym (behind_on is_e c s i.0)))

-- where none does, no digit stands behind it
pub no_fraction : (s : Bytes) → stops_at ends_whole s ≡ true → (1 ≤ length s → get_or s 0 0 ≢ 46) → before is_e s ≡ behind is_point (before is_e s)
no_fraction [] h n = rw (before_nil is_e, behind_nil is_point) refl
no_fraction (c ∷ s) h n =
    let e : is_e c ≡ true = rw (eqb_false c 46 (n (omega arith))) at h in
    rw (before_stop is_e c s e) (sym (behind_nil is_point))

-- ---- the whole text
-- behind a sign
sign_plain : (c : ℕ) → is_sign c ≡ true → (is_e c ≡ false) × (is_point c ≡ false)
sign_plain c e = go (eqb c 45) refl
  where
    go : (b : Bool) → eqb c 45 ≡ b → (is_e c ≡ false) × (is_point c ≡ false)
    go true p = rw (eqb_true c 45 p) (refl, refl)
    go false p = rw (eqb_true c 43 (rw p at e)) (refl, refl)

fraction_unsigned : (s : Bytes) → behind is_point (before is_e s) ≡ behind is_point (before is_e (unsigned s))
fraction_unsigned [] = rw (sym (no_sign [] refl)) refl
fraction_unsigned (c ∷ s) = go (is_sign c) refl
  where
    go : (b : Bool) → is_sign c ≡ b → behind is_point (before is_e (c ∷ s)) ≡ behind is_point (before is_e (unsigned (c ∷ s)))
    go true e = let i = sign_plain c e in rw (sym (unsigned_is (c ∷ s) c s refl e), before_on is_e c s i.0, behind_on is_point c (before is_e s) i.1) refl
    go false e = rw (sym (unsigned_none (c ∷ s) c s refl e)) refl

exponent_unsigned : (s : Bytes) → behind is_e s ≡ behind is_e (unsigned s)
exponent_unsigned [] = rw (sym (no_sign [] refl)) refl
exponent_unsigned (c ∷ s) = go (is_sign c) refl
  where
    go : (b : Bool) → is_sign c ≡ b → behind is_e (c ∷ s) ≡ behind is_e (unsigned (c ∷ s))
    go true e = rw (sym (unsigned_is (c ∷ s) c s refl e), behind_on is_e c s (sign_plain c e).0) refl
    go false e = rw (sym (unsigned_none (c ∷ s) c s refl e)) refl

before_upto : (p : ℕ → Bool) (s : Bytes) → length (before p s) ≤ length s
before_upto p [] = rw (before_nil p) (omega arith)
before_upto p (c ∷ s) = go (before_upto p s) (p c) refl
  where
    go : length (before p s) ≤ length s → (b : Bool) → p c ≡ b → length (before p (c ∷ s)) ≤ length (c ∷ s)
    go h true e = rw (before_stop p c s e) (omega arith)
    go h false e = rw (before_on p c s e) (omega (arith, h))

behind_upto : (p : ℕ → Bool) (s : Bytes) → length (behind p s) ≤ length s
behind_upto p [] = rw (behind_nil p) (omega arith)
behind_upto p (c ∷ s) = go (behind_upto p s) (p c) refl
  where
    go : length (behind p s) ≤ length s → (b : Bool) → p c ≡ b → length (behind p (c ∷ s)) ≤ length (c ∷ s)
    go h true e = rw (behind_stop p c s e) (omega arith)
    go h false e = rw (behind_on p c s e) (omega (arith, h))

trim_leading : (s : Bytes) → leading s + length (trim s) ≡ length s
unfolding leading trim
trim_leading [] = refl
trim_leading (c ∷ s) = go (trim_leading s) (is_zero c) refl
  where
    go : leading s + length (trim s) ≡ length s → (b : Bool) → is_zero c ≡ b → leading (c ∷ s) + length (trim (c ∷ s)) ≡ length (c ∷ s)
    go h true e = rw (e, leading, trim) (omega (arith, h))
    go h false e = rw (e, leading, trim) (omega arith)

-- zeros at the start, where a test passes none of them
module _ (p : ℕ → Bool) (z : p 48 ≡ false) where
  zero_fails : (c : ℕ) → is_zero c ≡ true → p c ≡ false
  zero_fails c e = rw (eqb_true c 48 e) z

  trim_before : (s : Bytes) → trim (before p s) ≡ before p (trim s)
  unfolding trim
  trim_before [] = rw (before_nil p) refl
  trim_before (c ∷ s) = go (trim_before s) (is_zero c) refl (p c) refl
    where
      go : trim (before p s) ≡ before p (trim s) → (b : Bool) → is_zero c ≡ b → (k : Bool) → p c ≡ k → trim (before p (c ∷ s)) ≡ before p (trim (c ∷ s))
      go h true e k f = rw (before_on p c s (zero_fails c e), e, trim) h
      go h false e true f = rw (e, trim, before_stop p c s f) refl
      go h false e false f = rw (e, trim, before_on p c s f, e, trim) refl

  trim_behind : (s : Bytes) → behind p (trim s) ≡ behind p s
  unfolding trim
  trim_behind [] = refl
  trim_behind (c ∷ s) = go (trim_behind s) (is_zero c) refl
    where
      go : behind p (trim s) ≡ behind p s → (b : Bool) → is_zero c ≡ b → behind p (trim (c ∷ s)) ≡ behind p (c ∷ s)
      go h true e = rw (behind_on p c s (zero_fails c e), e, trim) h
      go h false e = rw (e, trim) refl

  leading_before : (s : Bytes) → leading (before p s) ≡ leading s
  unfolding leading
  leading_before [] = rw (before_nil p) refl
  leading_before (c ∷ s) = go (leading_before s) (is_zero c) refl (p c) refl
    where
      go : leading (before p s) ≡ leading s → (b : Bool) → is_zero c ≡ b → (k : Bool) → p c ≡ k → leading (before p (c ∷ s)) ≡ leading (c ∷ s)
      go h true e k f = rw (before_on p c s (zero_fails c e), e, leading) (omega (arith, h))
      go h false e true f = rw (before_stop p c s f, e, leading) refl
      go h false e false f = rw (before_on p c s f, e, leading) refl

clear_trim : (p : ℕ → Bool) (s : Bytes) → Clear p s → Clear p (trim s)
unfolding trim
clear_trim p [] h = tt
clear_trim p (c ∷ s) h = go (clear_trim p s h.1) (is_zero c) refl
  where
    go : Clear p (trim s) → (b : Bool) → is_zero c ≡ b → Clear p (trim (c ∷ s))
    go k true e = rw (e, trim) k
    go k false e = rw (e, trim) h

trim_twice : (s : Bytes) → trim (trim s) ≡ trim s
unfolding trim
trim_twice [] = refl
trim_twice (c ∷ s) = go (trim_twice s) (is_zero c) refl
  where
    go : trim (trim s) ≡ trim s → (b : Bool) → is_zero c ≡ b → trim (trim (c ∷ s)) ≡ trim (c ∷ s)
    go h true e = rw (e, trim) h
    go h false e = rw (e, trim, e, trim) refl

-- a row without the zeros at its start ends where the whole row does
module _ (p : ℕ → Bool) (z : p 48 ≡ false) (a b : Bytes) where
  trimmed_parts : (s : Bytes) → Splits p (trim s) a b → s ≡ before p s ++ b
  unfolding trim
  trimmed_parts [] h = h.parts ∙ ap (λ (t : Bytes). t ++ b) h.front
  trimmed_parts (c ∷ s) h = go (trimmed_parts s) (is_zero c) refl
    where
      go : (Splits p (trim s) a b → s ≡ before p s ++ b) → (x : Bool) → is_zero c ≡ x → c ∷ s ≡ before p (c ∷ s) ++ b
      go k true e = rw (before_on p c s (zero_fails p z c e)) (ap (λ (t : Bytes). c ∷ t) (k (rw (e, trim) at h)))
      go k false e = let l = rw (e, trim) at h in l.parts ∙ ap (λ (t : Bytes). t ++ b) l.front

  pub split_trimmed : (s : Bytes) → Splits p (trim s) a b → Splits p s (before p s) b
  split_trimmed s h = record { front = refl; parts = trimmed_parts s h; stop = h.stop }

-- the rows that zeros are taken from hold as many bytes as their zeros and what is left
trim_lengths : (a b x y : Bytes) → x ++ y ≡ trim (a ++ b) → leading (a ++ b) + (length x + length y) ≡ length a + length b
trim_lengths a b x y e = omega (arith, trim_leading (a ++ b), ap length e, length-append x y, length-append a b)

-- no zero leads what was parsed
pub parsed_trimmed : (s : Bytes) (d : Decimal) → Parsed s d → Trimmed d
parsed_trimmed s d p = ap trim p.digits ∙ trim_twice (whole_part s ++ fraction_part s) ∙ sym p.digits

module _ (s u whole rest : Bytes) (e : u ≡ unsigned s) (h : Splits ends_whole u whole rest) where
  clear : Clear ends_whole whole
  clear = rw (sym h.front) at (clear_before ends_whole u)

  before_e : before is_e u ≡ whole ++ before is_e rest
  before_e = ap (before is_e) h.parts ∙ before_past is_e whole rest (weaker is_e ends_whole no_e whole clear)

  -- the point, if there is one, is the first byte behind the whole
  ends_here : (b : Bytes) → stops_at ends_whole b ≡ true → before is_point (before is_e b) ≡ []
  ends_here [] k = rw (before_nil is_e) (before_nil is_point)
  ends_here (c ∷ b) k = go (is_e c) refl
    where
      go : (x : Bool) → is_e c ≡ x → before is_point (before is_e (c ∷ b)) ≡ []
      go true f = rw (before_stop is_e c b f) (before_nil is_point)
      go false f = rw (before_on is_e c b f) (before_stop is_point c (before is_e b) (point_of (is_point c) refl (rw f at k)))
        where
          point_of : (x : Bool) → is_point c ≡ x → (is_point c || false) ≡ true → is_point c ≡ true
          point_of true i j = i
          point_of false i j = let z : ◌≡◌ {A = Bool} false true = rw i at j in absurd (cc)

  pub whole_is : whole ≡ whole_part s
  unfolding whole_part
  whole_is =
      sym
      (ap (λ (t : Bytes). before is_point (before is_e t)) (sym e)
      ∙ ap (before is_point) before_e
      ∙ before_past is_point whole (before is_e rest) (weaker is_point ends_whole no_point whole clear)
      ∙ ap (λ (t : Bytes). whole ++ t) (ends_here rest h.stop)
      ∙ append-nil whole)

  pub fraction_is : behind is_point (before is_e rest) ≡ fraction_part s
  unfolding fraction_part
  fraction_is =
      sym
      (fraction_unsigned s
      ∙ ap (λ (t : Bytes). behind is_point (before is_e t)) (sym e)
      ∙ ap (behind is_point) before_e
      ∙ behind_past is_point whole (before is_e rest) (weaker is_point ends_whole no_point whole clear))

  pub exponent_is : behind is_e rest ≡ exponent_part s
  unfolding exponent_part
  exponent_is =
      sym
      (exponent_unsigned s
      ∙ ap (behind is_e) (sym e ∙ h.parts)
      ∙ behind_past is_e whole rest (weaker is_e ends_whole no_e whole clear))

  lengths : length whole + length rest ≤ length s
  lengths = omega (arith, unsigned_upto s, ap length e, ap length h.parts, length-append whole rest)

  clear_e : Clear is_e whole
  clear_e = weaker is_e ends_whole no_e whole clear

  -- the zeros are passed before an `e` is looked for
  module _ (fraction upper left lower at_e : Bytes) (f : before is_e fraction ≡ behind is_point (before is_e rest)) (g : behind is_e fraction ≡ behind is_e rest)
      (t : upper ≡ trim whole) (k : upper ++ left ≡ trim (whole ++ fraction)) (l : Splits is_e left lower at_e) where
    clear_upper : Clear is_e upper
    clear_upper = rw t (clear_trim is_e whole clear_e)

    raw : before is_e (whole ++ fraction) ≡ whole_part s ++ fraction_part s
    raw = before_past is_e whole fraction clear_e ∙ ap₂ (λ (a b : Bytes). a ++ b) whole_is (f ∙ fraction_is)

    digits_are : upper ++ lower ≡ trim (whole_part s ++ fraction_part s)
    digits_are =
        ap (λ (b : Bytes). upper ++ b) l.front
        ∙ sym (before_past is_e upper left clear_upper)
        ∙ ap (before is_e) k
        ∙ sym (trim_before is_e refl (whole ++ fraction))
        ∙ ap trim raw

    exponent_here : drop 1 at_e ≡ behind is_e rest
    exponent_here =
        behind_split is_e left lower at_e l
        ∙ sym (behind_past is_e upper left clear_upper)
        ∙ ap (behind is_e) k
        ∙ trim_behind is_e refl (whole ++ fraction)
        ∙ behind_past is_e whole fraction clear_e
        ∙ g

    zeros : leading (whole_part s ++ fraction_part s) + (length upper + length left) ≡ length whole + length fraction
    zeros = omega (arith, trim_lengths whole fraction upper left k, leading_before is_e refl (whole ++ fraction), ap leading raw)

    pub parsed : (d : Decimal) → d.negative ≡ minus s → d.upper.now ++ d.lower.now ≡ upper ++ lower → d.whole ≡ length whole →
        d.leading + (length upper + length left) ≡ length whole + length fraction → d.exponent.now ≡ drop 1 at_e → Parsed s d
    parsed d n m w r q =
        record {
          negative = n;
          digits = m ∙ digits_are;
          whole = w ∙ ap length whole_is;
          leads = omega (arith, r, zeros);
          exponent = q ∙ exponent_here ∙ exponent_is;
          whole_upto = omega (arith, w, lengths);
          leads_upto =
              omega (
                arith,
                r,
                zeros,
                trim_leading (whole_part s ++ fraction_part s),
                length-append (whole_part s) (fraction_part s),
                ap length whole_is,
                ap length fraction_is,
                lengths,
                behind_upto is_point (before is_e rest),
                before_upto is_e rest,
              );
          exponent_upto = omega (arith, ap length (q ∙ exponent_here), lengths, behind_upto is_e rest);
        }

-- ---- zeros before the point, passed before it is looked for
module _ (u digits upper rest : Bytes) (e : digits ≡ trim u) (h : Splits ends_whole digits upper rest) where
  pub whole_splits : Splits ends_whole u (before ends_whole u) rest
  whole_splits = split_trimmed ends_whole refl upper rest u (rw e at h)

  pub upper_is : upper ≡ trim (before ends_whole u)
  upper_is = h.front ∙ ap (before ends_whole) e ∙ sym (trim_before ends_whole refl u)

  pub upper_length : length digits ≡ length upper + length rest
  upper_length = omega (arith, ap length h.parts, length-append upper rest)

  pub whole_length : length u ≡ length (before ends_whole u) + length rest
  whole_length = omega (arith, ap length whole_splits.parts, length-append (before ends_whole u) rest)

pub trim_upto : (s t : Bytes) → t ≡ trim s → length t ≤ length s
trim_upto s t e = omega (arith, ap length e, trim_leading s)
