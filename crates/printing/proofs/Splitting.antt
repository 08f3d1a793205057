-- Lines found one by one: up to the first LF, and where there is none the line goes on in what follows.
-- Assumes nothing.
use mathlib.Core.Bool.{Bool, false, true}
use mathlib.Core.List.{[], append_assoc, append-nil, ◌++◌, ◌∷◌}
use mathlib.Core.Path.{ap, refl, ◌∙◌, ◌≡◌}
use Prim.Native.Nat.{suc, zero, ℕ, ◌<◌, ◌≤◌}
use native.Mathlib.Omega.{arith}
use lib.Dec.{eqb}
use lib.ListN.{drop, length, length-append, take}
use borrow.Author.Tests.{ltb-false}
use Rattle.std.proofs.Common.{None, Option, Some, nat_lt, sym}
use Rattle.std.specs.List.{position, position_or_len}
use Rattle.json_text.specs.Bytes.{Bytes}
use Rattle.printing.proofs.Overlong.{long_intake}
use Rattle.printing.specs.Lines.{each, last_line, line_length, lines_from}
use Rattle.printing.specs.Progress.{Unended}

pub line_within : (s : Bytes) → line_length s ≤ length s
unfolding line_length
line_within [] = omega arith
line_within (c ∷ s) = go (line_within s) (eqb c 10) refl
  where
    go : line_length s ≤ length s → (b : Bool) → eqb c 10 ≡ b → line_length (c ∷ s) ≤ suc (length s)
    go below true q = rw q (omega arith)
    go below false q = rw q (omega (arith, below))

pub first_line : (l s rest : Bytes) → line_length s < length s → lines_from l (s ++ rest) ≡ (l ++ take (line_length s) s) ∷ lines_from [] (drop (suc (line_length s)) s ++ rest)
unfolding lines_from line_length
first_line l [] rest h = absurd (omega (arith, h))
first_line l (c ∷ s) rest h = go (λ g. first_line (l ++ (c ∷ [])) s rest g) (eqb c 10) refl
  where
    go : (line_length s < length s → lines_from (l ++ (c ∷ [])) (s ++ rest) ≡ ((l ++ (c ∷ [])) ++ take (line_length s) s) ∷ lines_from [] (drop (suc (line_length s)) s ++ rest))
        → (b : Bool) → eqb c 10 ≡ b
        → lines_from l ((c ∷ s) ++ rest) ≡ (l ++ take (line_length (c ∷ s)) (c ∷ s)) ∷ lines_from [] (drop (suc (line_length (c ∷ s))) (c ∷ s) ++ rest)
    go below true q = rw (q, append-nil)
    go below false q =
        let g : suc (line_length s) < suc (length s) = rw q at h in
        rw q (below (omega (arith, g)) ∙ ap (λ (x : Bytes). x ∷ lines_from [] (drop (suc (line_length s)) s ++ rest)) (append_assoc l (c ∷ []) (take (line_length s) s)))

pub line_goes_on : (l s rest : Bytes) → Unended s → lines_from l (s ++ rest) ≡ lines_from (l ++ s) rest
unfolding lines_from line_length
line_goes_on l [] rest h = rw append-nil
line_goes_on l (c ∷ s) rest h = go (λ g. line_goes_on (l ++ (c ∷ [])) s rest g) (eqb c 10) refl
  where
    go : (Unended s → lines_from (l ++ (c ∷ [])) (s ++ rest) ≡ lines_from ((l ++ (c ∷ [])) ++ s) rest)
        → (b : Bool) → eqb c 10 ≡ b → lines_from l ((c ∷ s) ++ rest) ≡ lines_from (l ++ (c ∷ s)) rest
    go below true q = let g : 0 ≡ suc (length s) = rw q at h in absurd (omega (arith, g))
    go below false q =
        let g : suc (line_length s) ≡ suc (length s) = rw q at h in
        rw q (below (omega (arith, g)) ∙ ap (λ (x : Bytes). lines_from x rest) (append_assoc l (c ∷ []) s))

-- two overlong lines get the same answer, and so they do where the same bytes follow
last_long : (l : Bytes) → 32768 < length l → last_line l ≡ l ∷ []
last_long [] h = absurd (omega (arith, h))
last_long (c ∷ l) h = refl

longer : (l : Bytes) (c : ℕ) → 32768 < length l → 32768 < length (l ++ (c ∷ []))
longer l c h = simp length-append (omega arith)

pub long_alike : (l m rest : Bytes) → 32768 < length l → 32768 < length m → each (lines_from l rest) ≡ each (lines_from m rest)
unfolding each lines_from
long_alike l m [] g h = rw (last_long l g, last_long m h) (ap (λ (x : Bytes). x ++ []) (long_intake l m g h))
long_alike l m (c ∷ rest) g h = go (long_alike (l ++ (c ∷ [])) (m ++ (c ∷ [])) rest (longer l c g) (longer m c h)) (eqb c 10) refl
  where
    go : each (lines_from (l ++ (c ∷ [])) rest) ≡ each (lines_from (m ++ (c ∷ [])) rest) → (b : Bool) → eqb c 10 ≡ b →
        each (lines_from l (c ∷ rest)) ≡ each (lines_from m (c ∷ rest))
    go below true q = rw q (ap (λ (x : Bytes). x ++ each (lines_from [] rest)) (long_intake l m g h))
    go below false q = rw q below

-- a part of a line without LF has none
pub unended_part : (n : ℕ) (s : Bytes) → Unended s → Unended (take n s)
unfolding line_length
unended_part zero s h = refl
unended_part (suc n) [] h = refl
unended_part (suc n) (c ∷ s) h = go (λ g. unended_part n s g) (eqb c 10) refl
  where
    go : (Unended s → Unended (take n s)) → (b : Bool) → eqb c 10 ≡ b → line_length (c ∷ take n s) ≡ suc (length (take n s))
    go below true q = let g : 0 ≡ suc (length s) = rw q at h in absurd (omega (arith, g))
    go below false q = let g : suc (line_length s) ≡ suc (length s) = rw q at h in rw q (ap suc (below (omega (arith, g))))

-- where std's search finds an LF, or finds none
abbrev pub is_lf : ℕ → Bool
is_lf c = eqb c 10

line_position : (s : Bytes) → line_length s ≡ position_or_len is_lf s
unfolding line_length
line_position [] = refl
line_position (c ∷ s) = go (eqb c 10) refl (line_position s)
  where
    go : (b : Bool) → eqb c 10 ≡ b → line_length s ≡ position_or_len is_lf s → line_length (c ∷ s) ≡ position_or_len is_lf (c ∷ s)
    go true q e = rw q refl
    go false q e = rw q (omega (arith, e))

module _ (s : Bytes) {r : Option ℕ} (e : r ≡ position is_lf s) where
  pub found_at : {n : ℕ} → r ≡ Some n → n ≡ line_length s
  found_at {n} k = go (nat_lt (position_or_len is_lf s) (length s)) refl
    where
      go : (x : Bool) → nat_lt (position_or_len is_lf s) (length s) ≡ x → n ≡ line_length s
      go true h = let j : n ≡ position_or_len is_lf s = cc (rw h at e) in j ∙ sym (line_position s)
      go false h = let j = sym k ∙ rw h at e in absurd (cc)

  pub found_nowhere : r ≡ None → length s ≡ line_length s
  found_nowhere k = go (nat_lt (position_or_len is_lf s) (length s)) refl
    where
      go : (x : Bool) → nat_lt (position_or_len is_lf s) (length s) ≡ x → length s ≡ line_length s
      go true h = let j = sym k ∙ rw h at e in absurd (cc)
      go false h = let n : length s ≤ position_or_len is_lf s = ltb-false _ _ h in omega (arith, n, line_within s, line_position s)
