-- The comparison that the code runs is the order of the exact values.
-- Assumes nothing.
use mathlib.Core.Bool.{Bool, false, true, true≢false}
use mathlib.Core.List.{[], ◌++◌, ◌∷◌}
use mathlib.Core.Logic.{inl, inr, ◌≢◌, ◌⊎◌}
use mathlib.Core.Path.{ap, ap₂, refl, subst, sym, ◌∙◌, ◌≡◌}
use Prim.Native.Nat.{Ordering, compare, suc, zero, ℕ, ◌*◌, ◌+◌, ◌-◌, ◌<◌, ◌^◌, ◌≤◌}
use native.Mathlib.Nat.{le_trans, mul_assoc, mul-le-mul_left, mul-le-mul_right, mul-lt-mul_of_pos_right, one-le-pow, pow-le-pow_right, pow-suc}
use native.Mathlib.Omega.{arith}
use lib.Dec.{eqb, compare_is_eq, is_le, leb}
use lib.ListN.{length, length-append, length-replicate, replicate}
use lib.Pow.{pow-add}
use Rattle.number.specs.Compare.{Sign, is_negative, is_nothing, is_nought, is_positive, is_zero, leading, number_order, put, scaled, scaled_order, sign_of, signed_order, then, trim, trim_end}
use Rattle.number.specs.Decimal.{Decimal, below, decimal, exact_order, exponent, fraction_part, magnitudes, minus, whole_part}
use Rattle.json_text.proofs.Laws.{eqb_false, eqb_no, eqb_true}
use Rattle.json_text.proofs.Sound.{leb_le, leb_lt}
use Rattle.json_text.specs.Bytes.{Bytes, natural, order_bytes}

-- a comparison by what it says
pub data Cmp (x y : ℕ) : Ordering → Type 0 where
  less : x < y → Cmp x y Ordering.lt
  same : x ≡ y → Cmp x y Ordering.eq
  more : y < x → Cmp x y Ordering.gt

pub cmp : (x y : ℕ) → Cmp x y (compare x y)
cmp x y = go (compare x y) refl
  where
    go : (o : Ordering) → compare x y ≡ o → Cmp x y (compare x y)
    go Ordering.lt e = rw e (less (strict (leb_le (ap is_le e))))
      where
        strict : x ≤ y → x < y
        strict h = omega (arith, h, eqb_no x y (ap compare_is_eq e))
    go Ordering.eq e = rw e (same (eqb_true x y (ap compare_is_eq e)))
    go Ordering.gt e = rw e (more (leb_lt (ap is_le e)))

pub cmp_is : (x y : ℕ) (o : Ordering) → Cmp x y o → compare x y ≡ o
cmp_is x y o h = go (compare x y) (cmp x y) o h
  where
    go : (p : Ordering) → Cmp x y p → (o : Ordering) → Cmp x y o → p ≡ o
    go p (less a) o (less b) = refl
    go p (less a) o (same b) = absurd (omega (arith, a, b))
    go p (less a) o (more b) = absurd (omega (arith, a, b))
    go p (same a) o (less b) = absurd (omega (arith, a, b))
    go p (same a) o (same b) = refl
    go p (same a) o (more b) = absurd (omega (arith, a, b))
    go p (more a) o (less b) = absurd (omega (arith, a, b))
    go p (more a) o (same b) = absurd (omega (arith, a, b))
    go p (more a) o (more b) = refl

pub ten_pos : (k : ℕ) → 0 < 10 ^ k
ten_pos k = one-le-pow k 10 (omega arith)

-- a common factor changes nothing
cmp_times : (k : ℕ) → 0 < k → {x y : ℕ} {o : Ordering} → Cmp x y o → Cmp (x * k) (y * k) o
cmp_times k h (less p) = less (mul-lt-mul_of_pos_right p h)
cmp_times k h (same p) = same (ap (λ (z : ℕ). z * k) p)
cmp_times k h (more p) = more (mul-lt-mul_of_pos_right p h)

pub compare_times : (k x y : ℕ) → 0 < k → compare (x * k) (y * k) ≡ compare x y
compare_times k x y h = cmp_is (x * k) (y * k) (compare x y) (cmp_times k h (cmp x y))

-- powers
pub exponents : (x i j : ℕ) → (x * 10 ^ i) * 10 ^ j ≡ x * 10 ^ (i + j)
exponents x i j = mul_assoc x (10 ^ i) (10 ^ j) ∙ ap (λ (z : ℕ). x * z) (sym (pow-add 10 i j))

pub exponents_are : (x : ℕ) {i j : ℕ} → i ≡ j → x * 10 ^ i ≡ x * 10 ^ j
exponents_are x e = ap (λ (k : ℕ). x * 10 ^ k) e

-- both sides times a power of ten, for exponents that add up alike
compare_shift : (x y i j i' j' k : ℕ) → i' ≡ i + k → j' ≡ j + k → compare (x * 10 ^ i') (y * 10 ^ j') ≡ compare (x * 10 ^ i) (y * 10 ^ j)
compare_shift x y i j i' j' k p q =
    ap₂ compare (exponents_are x p ∙ sym (exponents x i k)) (exponents_are y q ∙ sym (exponents y j k)) ∙ compare_times (10 ^ k) (x * 10 ^ i) (y * 10 ^ j) (ten_pos k)

-- what both exponents share may be left out
pub compare_left_out : (x y i j : ℕ) → compare (x * 10 ^ (i - j)) (y * 10 ^ (j - i)) ≡ compare (x * 10 ^ i) (y * 10 ^ j)
compare_left_out x y i j = by (leb i j) refl
  where
    by : (b : Bool) → leb i j ≡ b → compare (x * 10 ^ (i - j)) (y * 10 ^ (j - i)) ≡ compare (x * 10 ^ i) (y * 10 ^ j)
    by true e = let h = leb_le {m = i} {n = j} e in sym (compare_shift x y (i - j) (j - i) i j i (omega (arith, h)) (omega (arith, h)))
    by false e = let h = leb_lt {m = i} {n = j} e in sym (compare_shift x y (i - j) (j - i) i j j (omega (arith, h)) (omega (arith, h)))

-- digits
abbrev pub AreDigits : Bytes → Type 0
AreDigits [] = Unit {0}
AreDigits (c ∷ s) = ((48 ≤ c) × (c ≤ 57)) × AreDigits s

natural_parts : (n : ℕ) (s : Bytes) → natural n s ≡ n * 10 ^ length s + natural 0 s
unfolding natural
natural_parts n [] = omega arith
natural_parts n (c ∷ s) = rw (pow-suc 10 (length s)) (omega (arith, natural_parts (n * 10 + (c - 48)) s, natural_parts (0 * 10 + (c - 48)) s))

pub natural_cons : (c : ℕ) (s : Bytes) → natural 0 (c ∷ s) ≡ (c - 48) * 10 ^ length s + natural 0 s
unfolding natural
natural_cons c s = natural_parts (0 * 10 + (c - 48)) s ∙ ap (λ (k : ℕ). k * 10 ^ length s + natural 0 s) (omega arith)

pub natural_nil : (n : ℕ) → natural n [] ≡ n
unfolding natural
natural_nil n = refl

natural_less : (s : Bytes) → AreDigits s → natural 0 s < 10 ^ length s
natural_less [] h = omega (arith, natural_nil 0)
natural_less (c ∷ s) h =
    rw (natural_cons c s, pow-suc 10 (length s))
    (omega (arith, natural_less s h.1, mul-le-mul_right {m = c - 48} {n = 9} (10 ^ length s) (omega (arith, h.0.0, h.0.1))))

natural_append : (n : ℕ) (s t : Bytes) → natural n (s ++ t) ≡ natural (natural n s) t
unfolding natural
natural_append n [] t = refl
natural_append n (c ∷ s) t = natural_append (n * 10 + (c - 48)) s t

natural_zeros : (n z : ℕ) → natural n (replicate z 48) ≡ n * 10 ^ z
unfolding natural
natural_zeros n zero = omega arith
natural_zeros n (suc z) = natural_zeros (n * 10 + 0) z ∙ rw (pow-suc 10 z) (omega arith)

-- zeros in front
trim_natural : (s : Bytes) → natural 0 (trim s) ≡ natural 0 s
unfolding trim natural
trim_natural [] = refl
trim_natural (c ∷ s) = go (trim_natural s) (is_zero c) refl
  where
    go : natural 0 (trim s) ≡ natural 0 s → (b : Bool) → is_zero c ≡ b → natural 0 (trim (c ∷ s)) ≡ natural 0 (c ∷ s)
    go below true q = rw (q, trim) (below ∙ ap (λ (k : ℕ). natural k s) (sym (ap (λ (k : ℕ). 0 * 10 + (k - 48)) (eqb_true c 48 q))))
    go below false q = rw (q, trim) refl

trim_length : (s : Bytes) → leading s + length (trim s) ≡ length s
unfolding trim leading
trim_length [] = refl
trim_length (c ∷ s) = go (trim_length s) (is_zero c) refl
  where
    go : leading s + length (trim s) ≡ length s → (b : Bool) → is_zero c ≡ b → leading (c ∷ s) + length (trim (c ∷ s)) ≡ length (c ∷ s)
    go below true q = rw (q, trim, leading) (omega (arith, below))
    go below false q = rw (q, trim, leading) (omega arith)

trim_digits : (s : Bytes) → AreDigits s → AreDigits (trim s)
unfolding trim
trim_digits [] h = tt
trim_digits (c ∷ s) h = go (trim_digits s h.1) (is_zero c) refl
  where
    go : AreDigits (trim s) → (b : Bool) → is_zero c ≡ b → AreDigits (trim (c ∷ s))
    go below true q = rw (q, trim) below
    go below false q = rw (q, trim) h

-- zeros at the end
pub record Ending (s : Bytes) : Type 0 where
  pub zeros : ℕ
  pub parts : s ≡ trim_end s ++ replicate zeros 48

abbrev pub Put : ℕ → Bytes → Bytes → Type 0
Put c t u = ((t ≡ []) × (c ≡ 48) × (u ≡ [])) ⊎ ((u ≡ c ∷ t) × ((t ≢ []) ⊎ (c ≢ 48)))

put_view : (c : ℕ) (t : Bytes) → Put c t (put c t)
put_view c [] = go (is_zero c) refl
  where
    go : (b : Bool) → is_zero c ≡ b → Put c [] (put c [])
    go true q = inl (refl, eqb_true c 48 q, rw (q, put) refl)
    go false q = inr (rw (q, put) refl, inr (eqb_no c 48 q))
put_view c (d ∷ t) = inr (refl, inl (λ f. let z : ◌≡◌ {A = Bool} true false = cc in true≢false z))

pub trim_end_cons : (c : ℕ) (s : Bytes) → Put c (trim_end s) (trim_end (c ∷ s))
unfolding trim_end
trim_end_cons c s = put_view c (trim_end s)

pub trim_end_nil : trim_end [] ≡ []
unfolding trim_end
trim_end_nil = refl

pub ending : (s : Bytes) → Ending s
ending [] = record { zeros = 0; parts = cc (trim_end_nil) }
ending (c ∷ s) = go (ending s) (trim_end_cons c s)
  where
    go : Ending s → Put c (trim_end s) (trim_end (c ∷ s)) → Ending (c ∷ s)
    go t (inl e) = record { zeros = suc t.zeros; parts = cc (t.parts, e.0, e.1, e.2) }
    go t (inr e) = record { zeros = t.zeros; parts = cc (t.parts, e.0) }

-- every part at the end of a digit string is more than nothing
abbrev pub Tight : Bytes → Type 0
Tight [] = Unit {0}
Tight (c ∷ s) = (0 < natural 0 (c ∷ s)) × Tight s

tight_first : (c : ℕ) (s : Bytes) → 48 ≤ c → c ≢ 48 → 0 < natural 0 (c ∷ s)
tight_first c s h n = rw (natural_cons c s) (le_trans (ten_pos (length s)) (omega (arith, mul-le-mul_right {m = 1} {n = c - 48} (10 ^ length s) (omega (arith, h, n)))))

tight_more : (c d : ℕ) (s : Bytes) → 0 < natural 0 (d ∷ s) → 0 < natural 0 (c ∷ d ∷ s)
tight_more c d s h = rw (natural_cons c (d ∷ s)) (omega (arith, h))

trim_end_tight : (s : Bytes) → AreDigits s → Tight (trim_end s) × AreDigits (trim_end s)
trim_end_tight [] h = rw trim_end_nil (tt, tt)
trim_end_tight (c ∷ s) h = go (trim_end_tight s h.1) (trim_end s) refl (trim_end_cons c s)
  where
    first : (t : Bytes) → Tight t → (t ≢ []) ⊎ (c ≢ 48) → 0 < natural 0 (c ∷ t)
    first t k (inr n) = tight_first c t h.0.0 n
    first [] k (inl n) = absurd (n refl)
    first (d ∷ t) k (inl n) = tight_more c d t k.0

    go : Tight (trim_end s) × AreDigits (trim_end s) → (t : Bytes) → trim_end s ≡ t → Put c (trim_end s) (trim_end (c ∷ s)) →
        Tight (trim_end (c ∷ s)) × AreDigits (trim_end (c ∷ s))
    go k t p (inl e) = rw e.2 (tt, tt)
    go k t p (inr e) = rw e.0 ((first (trim_end s) k.0 e.1, k.0), (h.0, k.1))

-- a first digit that is not 0
lead : (c : ℕ) (s : Bytes) → 48 ≤ c → c ≢ 48 → 10 ^ length (c ∷ s) ≤ 10 * natural 0 (c ∷ s)
lead c s h n = rw (natural_cons c s, pow-suc 10 (length s)) (omega (arith, mul-le-mul_right {m = 1} {n = c - 48} (10 ^ length s) (omega (arith, h, n))))

trim_first : (s : Bytes) → (trim s ≡ []) ⊎ ((c : ℕ) × (t : Bytes) × (trim s ≡ c ∷ t) × (c ≢ 48))
unfolding trim
trim_first [] = inl refl
trim_first (c ∷ s) = go (trim_first s) (is_zero c) refl
  where
    go : (trim s ≡ []) ⊎ ((d : ℕ) × (t : Bytes) × (trim s ≡ d ∷ t) × (d ≢ 48)) → (b : Bool) → is_zero c ≡ b →
        (trim (c ∷ s) ≡ []) ⊎ ((d : ℕ) × (t : Bytes) × (trim (c ∷ s) ≡ d ∷ t) × (d ≢ 48))
    go below true q = rw (q, trim) below
    go below false q = inr (c, s, rw (q, trim) refl, eqb_no c 48 q)

-- the digits of a number's characters from the first to the last that is not 0
record Core (raw : Bytes) : Type 0 where
  zeros : ℕ
  total : natural 0 raw ≡ natural 0 (trim_end (trim raw)) * 10 ^ zeros
  size : leading raw + length (trim_end (trim raw)) + zeros ≡ length raw
  tight : Tight (trim_end (trim raw))
  are_digits : AreDigits (trim_end (trim raw))
  leads : (trim_end (trim raw) ≡ []) ⊎ (10 ^ length (trim_end (trim raw)) ≤ 10 * natural 0 (trim_end (trim raw)))

core : (raw : Bytes) → AreDigits raw → Core raw
core raw h =
    record {
      zeros = e.zeros;
      total =
          sym (trim_natural raw) ∙
          ap (natural 0) e.parts ∙
          natural_append 0 (trim_end (trim raw)) (replicate e.zeros 48) ∙
          natural_zeros (natural 0 (trim_end (trim raw))) e.zeros;
      size = omega (arith, trim_length raw, ap length e.parts, length-append (trim_end (trim raw)) (replicate e.zeros 48), length-replicate {A = ℕ} e.zeros 48);
      tight = k.0;
      are_digits = k.1;
      leads = leads (trim_first raw);
    }
  where
    e : Ending (trim raw)
    e = ending (trim raw)

    d : AreDigits (trim raw)
    d = trim_digits raw h

    k : Tight (trim_end (trim raw)) × AreDigits (trim_end (trim raw))
    k = trim_end_tight (trim raw) d

    Leads : Bytes → Type 0
    Leads x = (x ≡ []) ⊎ (10 ^ length x ≤ 10 * natural 0 x)

    leads : (trim raw ≡ []) ⊎ ((c : ℕ) × (t : Bytes) × (trim raw ≡ c ∷ t) × (c ≢ 48)) → Leads (trim_end (trim raw))
    leads (inl p) = inl (ap trim_end p ∙ trim_end_nil)
    leads (inr p) = first (trim_end_cons p.0 p.1)
      where
        low : 48 ≤ p.0
        low = (subst AreDigits p.2 d).0.0

        first : Put p.0 (trim_end p.1) (trim_end (p.0 ∷ p.1)) → Leads (trim_end (trim raw))
        first (inl q) = absurd (p.3 q.1)
        first (inr q) = inr (subst (λ (x : Bytes). 10 ^ length x ≤ 10 * natural 0 x) (sym (ap trim_end p.2 ∙ q.0)) (lead p.0 (trim_end p.1) low p.3))

-- comparisons moved along equations, and past a common summand
cmp_at : {x y x' y' : ℕ} {o : Ordering} → x ≡ x' → y ≡ y' → Cmp x' y' o → Cmp x y o
cmp_at p q h = rw (p, q) h

cmp_plus : (k : ℕ) {x y : ℕ} {o : Ordering} → Cmp x y o → Cmp (x + k) (y + k) o
cmp_plus k (less p) = less (omega (arith, p))
cmp_plus k (same p) = same (omega (arith, p))
cmp_plus k (more p) = more (omega (arith, p))

-- digit strings behind the point are ordered as bytes
lexical : (a b : Bytes) → AreDigits a → AreDigits b → Tight a → Tight b → Cmp (natural 0 a * 10 ^ length b) (natural 0 b * 10 ^ length a) (order_bytes a b)
unfolding order_bytes
lexical [] [] da db ta tb = same refl
lexical [] (d ∷ b) da db ta tb = rw (natural_nil 0) (less (omega (arith, tb.0)))
lexical (c ∷ a) [] da db ta tb = rw (natural_nil 0) (more (omega (arith, ta.0)))
lexical (c ∷ a) (d ∷ b) da db ta tb = go (lexical a b da.1 db.1 ta.1 tb.1) (compare c d) (cmp c d) refl
  where
    Left : ℕ
    Left = natural 0 (c ∷ a) * 10 ^ length (d ∷ b)

    Right : ℕ
    Right = natural 0 (d ∷ b) * 10 ^ length (c ∷ a)

    left : Left ≡ (natural 0 a * 10 ^ length b + (c - 48) * (10 ^ length a * 10 ^ length b)) * 10
    left = rw (natural_cons c a, pow-suc 10 (length b)) (omega arith)

    right : Right ≡ (natural 0 b * 10 ^ length a + (d - 48) * (10 ^ length a * 10 ^ length b)) * 10
    right = rw (natural_cons d b, pow-suc 10 (length a)) (omega arith)

    go : Cmp (natural 0 a * 10 ^ length b) (natural 0 b * 10 ^ length a) (order_bytes a b) → (o : Ordering) → Cmp c d o → compare c d ≡ o →
        Cmp Left Right (order_bytes (c ∷ a) (d ∷ b))
    go rest o (less p) q = rw (q, order_bytes) (cmp_at left right (less (omega (arith, below_left, between_them))))
      where
        below_left : natural 0 a * 10 ^ length b < 10 ^ length a * 10 ^ length b
        below_left = mul-lt-mul_of_pos_right (natural_less a da.1) (ten_pos (length b))

        between_them : (c - 48 + 1) * (10 ^ length a * 10 ^ length b) ≤ (d - 48) * (10 ^ length a * 10 ^ length b)
        between_them = mul-le-mul_right (10 ^ length a * 10 ^ length b) (omega (arith, p, da.0.0))
    go rest o (same p) q =
        rw (q, order_bytes)
        (cmp_at left (right ∙ ap (λ (x : ℕ). (natural 0 b * 10 ^ length a + (x - 48) * (10 ^ length a * 10 ^ length b)) * 10) (sym p))
        (cmp_times 10 (omega arith) (cmp_plus ((c - 48) * (10 ^ length a * 10 ^ length b)) rest)))
    go rest o (more p) q = rw (q, order_bytes) (cmp_at left right (more (omega (arith, below_right, between_them))))
      where
        below_right : natural 0 b * 10 ^ length a < 10 ^ length b * 10 ^ length a
        below_right = mul-lt-mul_of_pos_right (natural_less b db.1) (ten_pos (length a))

        between_them : (d - 48 + 1) * (10 ^ length a * 10 ^ length b) ≤ (c - 48) * (10 ^ length a * 10 ^ length b)
        between_them = mul-le-mul_right (10 ^ length a * 10 ^ length b) (omega (arith, p, db.0.0))

-- a lower place is less, whatever the digits
lower : (a b : Bytes) (x y : ℕ) → AreDigits a → 10 ^ length b ≤ 10 * natural 0 b → x < y → natural 0 a * 10 ^ (x + length b) < natural 0 b * 10 ^ (y + length a)
lower a b x y da lb h = rw (pow-add 10 x (length b)) (omega (arith, f1, f2, f3, f4))
  where
    f1 : natural 0 a * (10 ^ x * 10 ^ length b) < 10 ^ length a * (10 ^ x * 10 ^ length b)
    f1 = mul-lt-mul_of_pos_right (natural_less a da) (subst (λ (k : ℕ). 0 < k) (pow-add 10 x (length b)) (ten_pos (x + length b)))

    f2 : (10 ^ length a * 10 ^ x) * 10 ^ length b ≤ (10 ^ length a * 10 ^ x) * (10 * natural 0 b)
    f2 = mul-le-mul_left (10 ^ length a * 10 ^ x) lb

    f3 : natural 0 b * 10 ^ (suc x + length a) ≤ natural 0 b * 10 ^ (y + length a)
    f3 = mul-le-mul_left (natural 0 b) (pow-le-pow_right (omega arith) (omega (arith, h)))

    f4 : natural 0 b * 10 ^ (suc x + length a) ≡ natural 0 b * ((10 ^ x * 10) * 10 ^ length a)
    f4 = ap (λ (k : ℕ). natural 0 b * k) (pow-add 10 (suc x) (length a) ∙ ap (λ (k : ℕ). k * 10 ^ length a) (pow-suc 10 x))

placed : (a b : Bytes) (x y : ℕ) → AreDigits a → AreDigits b → Tight a → Tight b → 10 ^ length a ≤ 10 * natural 0 a →
    10 ^ length b ≤ 10 * natural 0 b →
    Cmp (natural 0 a * 10 ^ (x + length b)) (natural 0 b * 10 ^ (y + length a)) (then (compare x y) (order_bytes a b))
placed a b x y da db ta tb la lb = go (compare x y) (cmp x y) refl
  where
    go : (o : Ordering) → Cmp x y o → compare x y ≡ o → Cmp (natural 0 a * 10 ^ (x + length b)) (natural 0 b * 10 ^ (y + length a)) (then (compare x y) (order_bytes a b))
    go o (less p) q = rw q (less (lower a b x y da lb p))
    go o (same p) q =
        rw q
        (cmp_at (exponents_are (natural 0 a) (omega arith) ∙ sym (exponents (natural 0 a) (length b) x))
        (exponents_are (natural 0 b) (omega (arith, p)) ∙ sym (exponents (natural 0 b) (length a) x))
        (cmp_times (10 ^ x) (ten_pos x) (lexical a b da db ta tb)))
    go o (more p) q = rw q (more (lower b a y x db la p))

-- the same order from the exact values
module _ (raw_a raw_b : Bytes) (wa fa ua da wb fb ub db : ℕ) (A : Core raw_a) (B : Core raw_b) (sa : length raw_a ≡ wa + fa) (sb : length raw_b ≡ wb + fb) where
  exact_placed : 10 ^ length (trim_end (trim raw_a)) ≤ 10 * natural 0 (trim_end (trim raw_a)) →
      10 ^ length (trim_end (trim raw_b)) ≤ 10 * natural 0 (trim_end (trim raw_b)) →
      compare (natural 0 raw_a * 10 ^ (ua + (db + fb) - (ub + (da + fa)))) (natural 0 raw_b * 10 ^ (ub + (da + fa) - (ua + (db + fb)))) ≡
      then (compare (ua + wa + (db + leading raw_b)) (ub + wb + (da + leading raw_a)))
      (order_bytes (trim_end (trim raw_a)) (trim_end (trim raw_b)))
  exact_placed la lb =
      compare_left_out (natural 0 raw_a) (natural 0 raw_b) e1 e2 ∙
      ap₂ compare (ap (λ (n : ℕ). n * 10 ^ e1) A.total ∙ exponents a A.zeros e1) (ap (λ (n : ℕ). n * 10 ^ e2) B.total ∙ exponents b B.zeros e2) ∙
      sym (compare_shift a b (A.zeros + e1) (B.zeros + e2) (A.zeros + e1 + (wa + wb)) (B.zeros + e2 + (wa + wb)) (wa + wb) refl refl) ∙
      compare_shift a b (x + length_b) (y + length_a) (A.zeros + e1 + (wa + wb)) (B.zeros + e2 + (wa + wb)) (A.zeros + B.zeros)
      (omega (arith, A.size, B.size, sa, sb)) (omega (arith, A.size, B.size, sa, sb)) ∙
      cmp_is (a * 10 ^ (x + length_b)) (b * 10 ^ (y + length_a)) _ (placed (trim_end (trim raw_a)) (trim_end (trim raw_b)) x y A.are_digits B.are_digits A.tight B.tight la lb)
    where
      a : ℕ
      a = natural 0 (trim_end (trim raw_a))

      b : ℕ
      b = natural 0 (trim_end (trim raw_b))

      length_a : ℕ
      length_a = length (trim_end (trim raw_a))

      length_b : ℕ
      length_b = length (trim_end (trim raw_b))

      e1 : ℕ
      e1 = ua + (db + fb)

      e2 : ℕ
      e2 = ub + (da + fa)

      x : ℕ
      x = ua + wa + (db + leading raw_b)

      y : ℕ
      y = ub + wb + (da + leading raw_a)

-- the digits of a number's characters
abbrev pub raw_digits : Bytes → Bytes
raw_digits s = whole_part s ++ fraction_part s

-- a number's sign, with what it says of the exact value
data SignView (s : Bytes) : Sign → Type 0 where
  nought : (decimal s).digits ≡ 0 → SignView s is_nought
  negative : below (decimal s) ≡ true → 10 ^ length (trim_end (trim (raw_digits s))) ≤ 10 * natural 0 (trim_end (trim (raw_digits s))) → SignView s is_negative
  positive : below (decimal s) ≡ false → 0 < (decimal s).digits →
      10 ^ length (trim_end (trim (raw_digits s))) ≤ 10 * natural 0 (trim_end (trim (raw_digits s))) → SignView s is_positive

sign_view : (s : Bytes) → Core (raw_digits s) → SignView s (sign_of (scaled s))
unfolding decimal scaled
sign_view s c = by (trim_end (trim (raw_digits s))) refl (minus s) refl c.leads
  where
    N : ℕ
    N = natural 0 (raw_digits s)

    D : Bytes
    D = trim_end (trim (raw_digits s))

    zero_total : D ≡ [] → N ≡ 0
    zero_total p = c.total ∙ ap (λ (x : Bytes). natural 0 x * 10 ^ c.zeros) p ∙ omega (arith, natural_nil 0)

    some_total : 10 ^ length D ≤ 10 * natural 0 D → 0 < N
    some_total l = rw c.total (omega (arith, l, ten_pos (length D), ten_pos c.zeros, mul-le-mul_right {m = 1} {n = natural 0 D} (10 ^ c.zeros) (omega (arith, l, ten_pos (length D)))))

    by : (t : Bytes) → D ≡ t → (b : Bool) → minus s ≡ b → (D ≡ []) ⊎ (10 ^ length D ≤ 10 * natural 0 D) → SignView s (sign_of (scaled s))
    by [] p b q l = rw (ap is_nothing p, sign_of) (nought (zero_total p))
    by (d ∷ t) p b q (inl e) = let z : ◌≡◌ {A = Bool} true false = cc in absurd (true≢false z)
    by (d ∷ t) p true q (inr l) = rw (ap is_nothing p, sign_of, q) (negative (cc (q, eqb_false N 0 (omega (arith, some_total l)))) l)
    by (d ∷ t) p false q (inr l) = rw (ap is_nothing p, sign_of, q) (positive (cc (q)) (some_total l) l)

raw_length : (s : Bytes) → length (raw_digits s) ≡ length (whole_part s) + length (fraction_part s)
raw_length s = length-append (whole_part s) (fraction_part s)

exact_magnitudes : (s t : Bytes) → Core (raw_digits s) → Core (raw_digits t) →
    10 ^ length (trim_end (trim (raw_digits s))) ≤ 10 * natural 0 (trim_end (trim (raw_digits s))) →
    10 ^ length (trim_end (trim (raw_digits t))) ≤ 10 * natural 0 (trim_end (trim (raw_digits t))) →
    magnitudes (decimal s) (decimal t) ≡ scaled_order (scaled s) (scaled t)
unfolding magnitudes scaled_order decimal scaled
exact_magnitudes s t a b la lb =
    exact_placed
    (raw_digits s)
    (raw_digits t)
    (length (whole_part s))
    (length (fraction_part s))
    (exponent s).up
    (exponent s).down
    (length (whole_part t))
    (length (fraction_part t))
    (exponent t).up
    (exponent t).down
    a
    b
    (raw_length s)
    (raw_length t)
    la
    lb

-- no value beside some value
zero_magnitudes : (x y : Decimal) → x.digits ≡ 0 → y.digits ≡ 0 → magnitudes x y ≡ Ordering.eq
unfolding magnitudes
zero_magnitudes x y p q = cmp_is _ _ Ordering.eq (same (rw (p, q) (omega arith)))

less_magnitudes : (x y : Decimal) → x.digits ≡ 0 → 0 < y.digits → magnitudes x y ≡ Ordering.lt
unfolding magnitudes
less_magnitudes x y p h = cmp_is _ _ Ordering.lt (less (rw p (omega (arith, mul-lt-mul_of_pos_right h (ten_pos (y.power.up + x.power.down - (x.power.up + y.power.down)))))))

more_magnitudes : (x y : Decimal) → 0 < x.digits → y.digits ≡ 0 → magnitudes x y ≡ Ordering.gt
unfolding magnitudes
more_magnitudes x y h p = cmp_is _ _ Ordering.gt (more (rw p (omega (arith, mul-lt-mul_of_pos_right h (ten_pos (x.power.up + y.power.down - (y.power.up + x.power.down)))))))

not_below : (x : Decimal) → x.digits ≡ 0 → below x ≡ false
not_below x p = go x.negative refl
  where
    go : (b : Bool) → x.negative ≡ b → below x ≡ false
    go true q = cc (q, ap (λ (k : ℕ). eqb k 0) p)
    go false q = cc (q)

-- exact_order by the two signs
module _ (x y : Decimal) where
  pub both_below : below x ≡ true → below y ≡ true → exact_order x y ≡ magnitudes y x
  unfolding exact_order
  both_below p q = rw (p, exact_order, q) refl

  pub left_below : below x ≡ true → below y ≡ false → exact_order x y ≡ Ordering.lt
  unfolding exact_order
  left_below p q = rw (p, exact_order, q) refl

  pub right_below : below x ≡ false → below y ≡ true → exact_order x y ≡ Ordering.gt
  unfolding exact_order
  right_below p q = rw (p, exact_order, q) refl

  pub none_below : below x ≡ false → below y ≡ false → exact_order x y ≡ magnitudes x y
  unfolding exact_order
  none_below p q = rw (p, exact_order, q) refl

pub order_exact : (s t : Bytes) → AreDigits (raw_digits s) → AreDigits (raw_digits t) → number_order s t ≡ exact_order (decimal s) (decimal t)
unfolding number_order
order_exact s t ds dt = by (sign_of (scaled s)) (sign_view s a) (sign_of (scaled t)) (sign_view t b)
  where
    a : Core (raw_digits s)
    a = core (raw_digits s) ds

    b : Core (raw_digits t)
    b = core (raw_digits t) dt

    x : Decimal
    x = decimal s

    y : Decimal
    y = decimal t

    by : (i : Sign) → SignView s i → (j : Sign) → SignView t j → signed_order i j (scaled_order (scaled s) (scaled t)) (scaled_order (scaled t) (scaled s)) ≡ exact_order x y
    by i (nought p) j (nought q) = sym (none_below x y (not_below x p) (not_below y q) ∙ zero_magnitudes x y p q)
    by i (nought p) j (negative q l) = sym (right_below x y (not_below x p) q)
    by i (nought p) j (positive q h l) = sym (none_below x y (not_below x p) q ∙ less_magnitudes x y p h)
    by i (negative p k) j (nought q) = sym (left_below x y p (not_below y q))
    by i (negative p k) j (negative q l) = sym (both_below x y p q ∙ exact_magnitudes t s b a l k)
    by i (negative p k) j (positive q h l) = sym (left_below x y p q)
    by i (positive p g k) j (nought q) = sym (none_below x y p (not_below y q) ∙ more_magnitudes x y g q)
    by i (positive p g k) j (negative q l) = sym (right_below x y p q)
    by i (positive p g k) j (positive q h l) = sym (none_below x y p q ∙ exact_magnitudes s t a b k l)
