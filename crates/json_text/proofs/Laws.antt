-- Laws of the definitions: byte strings, tables, names.
-- Assumes nothing.
use mathlib.Core.Bool.{Bool, false, false≢true, true, true≢false, ◌&&◌}
use mathlib.Core.List.{List, [], ◌∷◌}
use mathlib.Core.Logic.{◌≢◌}
use Rattle.std.specs.Prelude.{None, Some}
use mathlib.Core.Path.{ap, refl, subst, sym, ◌∙◌, ◌≡◌}
use Prim.Native.Nat.{Ordering, compare, ℕ, ◌<◌, ◌≤◌}
use lib.Dec.{T, eqb, eqb_refl, eqb→eq, compare_is_eq, leb, le→leb, ltb, lt→ltb}
use Rattle.json_text.specs.Bytes.{Bytes, find, is_one_of, order_bytes, same_bytes}
use Rattle.json_text.specs.Refusal.{Refusal, Result, ok, refused, ◌>>=◌}

-- a test that is true
pub holds_of : (b : Bool) → b ≡ true → T b
holds_of true e = tt
holds_of false e = absurd (false≢true e)

pub eqb_true : (m n : ℕ) → eqb m n ≡ true → m ≡ n
eqb_true m n e = eqb→eq m n (holds_of (eqb m n) e)

compare_eq : (m n : ℕ) → compare m n ≡ Ordering.eq → m ≡ n
compare_eq m n e = eqb_true m n (ap compare_is_eq e)

pub order_bytes_eq : (s t : Bytes) → order_bytes s t ≡ Ordering.eq → s ≡ t
unfolding order_bytes
order_bytes_eq [] [] e = refl
order_bytes_eq [] (d ∷ t) e = cc
order_bytes_eq (c ∷ s) [] e = cc
order_bytes_eq (c ∷ s) (d ∷ t) e = go (λ h. order_bytes_eq s t h) (compare c d) refl
  where
    go : (order_bytes s t ≡ Ordering.eq → s ≡ t) → (o : Ordering) → compare c d ≡ o → c ∷ s ≡ d ∷ t
    go below Ordering.lt q = cc (rw (q, order_bytes) at e)
    go below Ordering.eq q = cc (below (rw (q, order_bytes) at e), compare_eq c d q)
    go below Ordering.gt q = cc (rw (q, order_bytes) at e)

pub same_bytes_true : (s t : Bytes) → same_bytes s t ≡ true → s ≡ t
unfolding same_bytes
same_bytes_true [] [] e = refl
same_bytes_true [] (d ∷ t) e = cc
same_bytes_true (c ∷ s) [] e = cc
same_bytes_true (c ∷ s) (d ∷ t) e = go (λ h. same_bytes_true s t h) (eqb c d) refl
  where
    go : (same_bytes s t ≡ true → s ≡ t) → (b : Bool) → eqb c d ≡ b → c ∷ s ≡ d ∷ t
    go below true q = cc (below (rw (q, same_bytes) at e), eqb_true c d q)
    go below false q = cc (rw (q, same_bytes) at e)

pub eqb_same : (n : ℕ) → eqb n n ≡ true
eqb_same n = go (eqb n n) (eqb_refl n)
  where
    go : (b : Bool) → T b → b ≡ true
    go true h = refl
    go false h = absurd h

pub eqb_no : (m n : ℕ) → eqb m n ≡ false → m ≢ n
eqb_no m n e p = true≢false (sym (eqb_same n) ∙ subst (λ (k : ℕ). eqb k n ≡ false) p e)

pub eqb_false : (m n : ℕ) → m ≢ n → eqb m n ≡ false
eqb_false m n h = go (eqb m n) refl
  where
    go : (b : Bool) → eqb m n ≡ b → eqb m n ≡ false
    go true e = absurd (h (eqb_true m n e))
    go false e = e

pub same_bytes_refl : (s : Bytes) → same_bytes s s ≡ true
unfolding same_bytes
same_bytes_refl [] = refl
same_bytes_refl (c ∷ s) = rw (eqb_same c, same_bytes) (same_bytes_refl s)

-- a name stands in a table just where it is one of the table's names
abbrev pub names_of : {A : Type 0} → List (Bytes × A) → List Bytes
names_of [] = []
names_of (x ∷ xs) = x.0 ∷ names_of xs

pub find_none : {A : Type 0} (k : Bytes) (xs : List (Bytes × A)) → is_one_of k (names_of xs) ≡ false → find k xs ≡ None
unfolding find is_one_of
find_none k [] e = refl
find_none {A} k (x ∷ xs) e = go (λ h. find_none k xs h) (same_bytes k x.0) refl
  where
    go : (is_one_of k (names_of xs) ≡ false → find k xs ≡ None) → (b : Bool) → same_bytes k x.0 ≡ b → find k (x ∷ xs) ≡ None
    go below true q = absurd (true≢false (rw (q, is_one_of) at e))
    go below false q = rw (q, find) (below (rw (q, is_one_of) at e))

pub find_some : {A : Type 0} (k : Bytes) (xs : List (Bytes × A)) → is_one_of k (names_of xs) ≡ true → (a : A) × (find k xs ≡ Some a)
unfolding find is_one_of
find_some k [] e = absurd (false≢true e)
find_some {A} k (x ∷ xs) e = go (λ h. find_some k xs h) (same_bytes k x.0) refl
  where
    go : (is_one_of k (names_of xs) ≡ true → (a : A) × (find k xs ≡ Some a)) → (b : Bool) → same_bytes k x.0 ≡ b → (a : A) × (find k (x ∷ xs) ≡ Some a)
    go below true q = (x.1, rw (q, find) refl)
    go below false q = let r = below (rw (q, is_one_of) at e) in (r.0, rw (q, find) r.1)

is_true : (b : Bool) → T b → b ≡ true
is_true true h = refl
is_true false h = absurd h

pub leb_true : (m n : ℕ) → m ≤ n → leb m n ≡ true
leb_true m n h = is_true (leb m n) (le→leb m n h)

pub ltb_true : (m n : ℕ) → m < n → ltb m n ≡ true
ltb_true m n h = is_true (ltb m n) (lt→ltb m n h)

-- a step of a computation that was not refused
pub bind_ok : {A B : Type 0} {x : Result A} {a : A} (f : A → Result B) → x ≡ ok a → (x >>= f) ≡ f a
bind_ok f e = ap (λ y. y >>= f) e

pub bind_same : {A B : Type 0} (x : Result A) (f g : A → Result B) → ((a : A) → x ≡ ok a → f a ≡ g a) → (x >>= f) ≡ (x >>= g)
bind_same (ok a) f g h = h a refl
bind_same (refused q) f g h = refl

-- and of one that was
pub bind_refused : {A B : Type 0} {x : Result A} {q : Refusal} (f : A → Result B) → x ≡ refused q → (x >>= f) ≡ refused q
bind_refused f e = ap (λ y. y >>= f) e

pub ok_injective : {A : Type 0} {a b : A} → ok a ≡ ok b → a ≡ b
ok_injective e = cc

pub ok_not_refused {ℓ} : {A : Type 0} {X : Type ℓ} (a : A) (r : Refusal) → ok a ≡ refused r → X
ok_not_refused a r e = let z : ◌≡◌ {A = Bool} true false = cc in absurd (true≢false z)

-- both of two
pub both_true : (a b : Bool) → (a && b) ≡ true → (a ≡ true) × (b ≡ true)
both_true true b h = (refl, h)
both_true false b h = absurd (false≢true h)
