-- Bytes, byte order, and small functions on lists and options that the other definitions share.
-- Assumes nothing.
use Rattle.std.specs.Prelude.{Bool, false, true, ◌&&◌, List, [], ◌∷◌, eqb, leb}
use Rattle.std.specs.Prelude.{Option, None, Some}
use Prim.Native.Char.{code}
use Prim.Native.Nat.{Ordering, compare, ℕ, ◌*◌, ◌+◌, ◌-◌}
use Prim.Native.String.{String}

abbrev pub Bytes : Type 0
Bytes = List ℕ

-- the bytes of an ASCII text
abbrev pub ascii : String → Bytes
ascii String.[] = []
ascii (String.◌∷◌ c s) = code c ∷ ascii s

-- the first alternative whose test holds
abbrev pub choose : {A : Type 0} → List (Bool × A) → A → A
choose [] d = d
choose (x ∷ xs) d = elim x.0 [ true ↦ x.1 | false ↦ choose xs d ]

abbrev pub between : ℕ → ℕ → ℕ → Bool
between low high c = leb low c && leb c high

-- equal byte strings, and their lexicographic order
unfoldable pub same_bytes : Bytes → Bytes → Bool
same_bytes [] [] = true
same_bytes [] (d ∷ t) = false
same_bytes (c ∷ s) [] = false
same_bytes (c ∷ s) (d ∷ t) = elim (eqb c d) [ true ↦ same_bytes s t | false ↦ false ]

unfoldable pub order_bytes : Bytes → Bytes → Ordering
order_bytes [] [] = Ordering.eq
order_bytes [] (d ∷ t) = Ordering.lt
order_bytes (c ∷ s) [] = Ordering.gt
order_bytes (c ∷ s) (d ∷ t) = elim (compare c d) [ Ordering.lt ↦ Ordering.lt | Ordering.eq ↦ order_bytes s t | Ordering.gt ↦ Ordering.gt ]

unfoldable pub is_one_of : Bytes → List Bytes → Bool
unfolding same_bytes
is_one_of k [] = false
is_one_of k (x ∷ xs) = elim (same_bytes k x) [ true ↦ true | false ↦ is_one_of k xs ]

-- what a table holds under a name: its first entry of that name
unfoldable pub find : {A : Type 0} → Bytes → List (Bytes × A) → Option A
unfolding same_bytes
find k [] = None
find k (x ∷ xs) = elim (same_bytes k x.0) [ true ↦ Some x.1 | false ↦ find k xs ]

-- the number that decimal digits spell, after a number read before them
unfoldable pub natural : ℕ → Bytes → ℕ
natural n [] = n
natural n (c ∷ s) = natural (n * 10 + (c - 48)) s

-- whether a text begins with another
unfoldable pub begins : Bytes → Bytes → Bool
begins [] s = true
begins (c ∷ p) [] = false
begins (c ∷ p) (d ∷ s) = elim (eqb c d) [ true ↦ begins p s | false ↦ false ]
