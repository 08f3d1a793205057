-- Laws of bytes laid: what was laid first and then the rest is the whole, in bytes and in place, also where the room ends.
-- Assumes nothing.
use mathlib.Core.Bool.{Bool, false, true}
use mathlib.Core.List.{List, [], ◌++◌, ◌∷◌}
use mathlib.Core.Path.{ap, refl, sym, ◌∙◌, ◌≡◌}
use Prim.Native.Nat.{min, suc, ℕ, ◌+◌, ◌<◌, ◌≤◌}
use native.Mathlib.Nat.{add-zero, zero-add}
use native.Mathlib.Numerals.{add-one}
use native.Mathlib.Omega.{arith}
use borrow.Author.Tests.{leb-false, leb-true}
use lib.Dec.{leb}
use lib.ListN.{drop, get_or, length, length-append, set}
use lib.Seq.{drop-cons, length-sets, set_out, sets, sets-eq}
use Rattle.writer.specs.Laid.{Begun, Laid, Shown}
use Rattle.writer.specs.Room.{most}
use Rattle.writer.specs.declared.lay.Output.{Output}
use Rattle.json_text.specs.Bytes.{Bytes}

-- past the end nothing is laid
sets_out : (bs o : Bytes) (at : ℕ) → length o ≤ at → sets o at bs ≡ o
sets_out [] o at h = refl
sets_out (b ∷ bs) o at h = ap (λ (l : Bytes). sets l (suc at) bs) (set_out o at b h) ∙ sets_out bs o (suc at) (omega arith)

-- one run after another
pub sets_append : (x y o : Bytes) (at : ℕ) → sets o at (x ++ y) ≡ sets (sets o at x) (at + length x) y
sets_append [] y o at = rw add-zero
sets_append (b ∷ x) y o at =
    let e : suc at + length x ≡ at + suc (length x) = omega arith in
    sets_append x y (set o at b) (suc at) ∙ ap (λ (k : ℕ). sets (sets (set o at b) (suc at) x) k y) e

module _ {a b : Output} {x : Bytes} (l : Laid a x b) where
  -- what is left to lay, from the place behind
  pub bytes_left : (y : Bytes) → sets a.bytes.now a.at (x ++ y) ≡ sets b.bytes.now b.at y
  bytes_left y = sets_append x y a.bytes.now a.at ∙ ap (λ (m : Bytes). sets m (a.at + length x) y) (sym l.bytes) ∙ go (leb (a.at + length x) most) refl
    where
      go : (t : Bool) → leb (a.at + length x) most ≡ t → sets b.bytes.now (a.at + length x) y ≡ sets b.bytes.now b.at y
      go true e = let f : a.at + length x ≡ b.at = omega (arith, leb-true (a.at + length x) most e, l.place) in ap (λ (k : ℕ). sets b.bytes.now k y) f
      go false e =
          let h = leb-false (a.at + length x) most e in
          sets_out y b.bytes.now (a.at + length x) (omega (arith, h, b.room.size)) ∙ sym (sets_out y b.bytes.now b.at (omega (arith, h, l.place, b.room.size)))

  pub place_left : (y : Bytes) → min (a.at + length (x ++ y)) most ≡ min (b.at + length y) most
  place_left y = omega (arith, l.place, length-append x y)

  -- one after another
  pub then : {y : Bytes} {c : Output} → Laid b y c → Laid a (x ++ y) c
  then {y} m = record { same = m.same ∙ l.same; bytes = m.bytes ∙ sym (bytes_left y); place = m.place ∙ sym (place_left y) }

-- A loop that lays a whole: what is left to lay, from the place in hand, gives what the whole gives from the first place.
pub record Going (a : Output) (whole : Bytes) (b : Output) (rest : Bytes) : Type 0 where
  pub same : b.bytes.ghost_name ≡ a.bytes.ghost_name
  pub bytes : sets a.bytes.now a.at whole ≡ sets b.bytes.now b.at rest
  pub place : min (a.at + length whole) most ≡ min (b.at + length rest) most

pub starts : (a : Output) (whole : Bytes) → Going a whole a whole
starts a whole = record { same = refl; bytes = refl; place = refl }

pub goes : {a b c : Output} {whole x : Bytes} (y : Bytes) → Going a whole b (x ++ y) → Laid b x c → Going a whole c y
goes y g l = record { same = l.same ∙ g.same; bytes = g.bytes ∙ bytes_left l y; place = g.place ∙ place_left l y }

pub ends : {a b : Output} {whole : Bytes} → Going a whole b [] → Laid a whole b
ends {a} {b} g = record { same = g.same; bytes = sym g.bytes; place = omega (arith, g.place, b.room.upto) }

pub ends_with : {a b c : Output} {whole rest : Bytes} → Going a whole b rest → Laid b rest c → Laid a whole c
ends_with g l = record { same = l.same ∙ g.same; bytes = l.bytes ∙ sym g.bytes; place = l.place ∙ sym g.place }

-- nothing to lay
pub nothing : (a : Output) → Laid a [] a
nothing a = ends (starts a [])

-- a whole text that has room at the start
pub sets_front : (vs l : List ℕ) → length vs ≤ length l → sets l 0 vs ≡ vs ++ drop (length vs) l
sets_front vs l h = sets-eq vs l 0 (rw zero-add h) ∙ rw zero-add

-- the same bytes by another name
pub told : {a b : Output} {bs cs : Bytes} → bs ≡ cs → Laid a bs b → Laid a cs b
told e l = rw e at l

-- the first of what is left of a string
pub next_byte : (bs : Bytes) (i : ℕ) → i < length bs → drop i bs ≡ (get_or bs i 0 ∷ []) ++ drop (i + 1) bs
next_byte bs i h = rw (add-one, drop-cons bs i 0)

-- what is laid from the start of an output
module _ {o bs : Bytes} {a b : Output} (e : Begun o a) (l : Laid a bs b) where
  all_laid : b.bytes.now ≡ sets o 0 bs
  all_laid = rw (e.bytes, e.start) at l.bytes

  all_counted : b.at ≡ min (length bs) most
  all_counted = omega (arith, l.place, e.start)

  same_size : length b.bytes.now ≡ length o
  same_size = ap length all_laid ∙ length-sets o 0 bs

  pub shown : {o₁ : Bytes} → o₁ ≡ b.bytes.now → length bs ≤ length o → Shown bs o o₁ b.at
  shown i h = rw i record { size = omega (arith, h, all_counted, b.room.size, same_size); bytes = all_laid ∙ sets_front bs o h }

-- an output is no longer than a place can tell
pub within : {o : Bytes} {a : Output} → Begun o a → length o ≤ most
within {a} e = rw e.bytes at a.room.size

-- over an empty part of an output nothing changes, and the place tells whether there is room
module _ {bs : Bytes} {a b : Output} (e : Begun [] a) (l : Laid a bs b) where
  pub measured : (o : Bytes) → b.bytes.now ++ o ≡ o
  measured o = ap (λ (x : Bytes). x ++ o) (all_laid e l ∙ sets_out bs [] 0 (omega arith))

  pub too_long : {limit : ℕ} → limit ≤ b.at → limit ≤ length bs
  too_long h = omega (arith, h, all_counted e l)

  -- and what is laid next is the whole, as long as was measured
  pub written : {limit : ℕ} {o : Bytes} {c d : Output} → Begun o c → limit ≤ most → b.at < limit → Laid c bs d →
      (length bs < limit) × (d.bytes.now ≡ sets o 0 bs) × (d.at ≡ length bs) × (b.at ≡ length bs)
  written {limit} f k h m =
      let few : length bs < limit = omega (arith, k, h, all_counted e l) in
      (few, all_laid f m, omega (arith, few, k, all_counted f m), omega (arith, few, k, all_counted e l))
