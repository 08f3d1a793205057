-- Marks of names: the number of a name, byte by byte, and what a mark says of the earlier names.
-- Assumes nothing.
use mathlib.Core.Bool.{Bool, false, true}
use mathlib.Core.List.{List, [], ◌∷◌}
use Rattle.std.specs.Prelude.{None, Option, Some}
use Rattle.std.specs.Option.{is_some}
use Rattle.strings.specs.Answers.{found_of}
use mathlib.Core.Path.{refl, sym, ◌∙◌, ◌≡◌}
use Prim.Native.Nat.{ℕ, ◌%◌, ◌*◌, ◌+◌, ◌<◌}
use native.Mathlib.Omega.{arith}
use lib.ListN.{get_or}
use Rattle.json_text.specs.Bytes.{Bytes, find, is_one_of, same_bytes}
use Rattle.json_text.specs.Json.{Members, empty, entries, keys, member}
use Rattle.json_text.specs.Naming.{Noted, hashed}

-- ---- the number: what is left of the name decides the whole
pub record Hashing (whole h : ℕ) (rest : Bytes) : Type 0 where
  pub small : h < 32749
  pub same : whole ≡ hashed h rest

module _ {whole h : ℕ} {rest : Bytes} (l : Hashing whole h rest) where
  pub hashed_all : rest ≡ [] → h ≡ whole
  unfolding hashed
  hashed_all e = sym (l.same ∙ rw e)

  pub hashed_on : (c b : ℕ) (behind : Bytes) → rest ≡ c ∷ behind → b ≡ c → Hashing whole ((h * 31 + b) % 32749) behind
  unfolding hashed
  hashed_on c b behind k e = record { small = omega arith; same = l.same ∙ rw (k, e) }

-- ---- a name among members, and its number
pub found_is : (k : Bytes) (ms : Members) → is_some (find k (entries ms)) ≡ is_one_of k (keys ms)
unfolding find is_one_of
found_is k empty = refl
found_is k (member l v ms) = go (same_bytes k l) (found_is k ms)
  where
    go : (b : Bool) → is_some (find k (entries ms)) ≡ is_one_of k (keys ms) →
        is_some (elim b [ true ↦ Some v | false ↦ find k (entries ms) ]) ≡ elim b [ true ↦ true | false ↦ is_one_of k (keys ms) ]
    go true below = refl
    go false below = below

pub was_found : (s : Bytes) (w : List ℕ) (r : Option ℕ) → is_some (found_of s w r) ≡ is_some r
unfolding found_of
was_found s w None = refl
was_found s w (Some n) = refl

-- a name with no mark is none of those that have theirs
pub unmarked : (seen : List Bool) (object : ℕ) (names : List Bytes) (k : Bytes) → Noted seen object names → get_or seen (hashed object k) false ≡ false → is_one_of k names ≡ false
unmarked seen object names k f e = go (is_one_of k names) refl
  where
    go : (b : Bool) → is_one_of k names ≡ b → is_one_of k names ≡ false
    go true q = let n : ◌≡◌ {A = Bool} true false = sym (f k q) ∙ e in let z : ◌≡◌ {A = ℕ} 0 1 = cc in absurd (omega arith)
    go false q = q
