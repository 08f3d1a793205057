-- UTF-8, byte by byte: what each first byte leads to, and each turn of the check.
-- Assumes nothing.
use Rattle.std.proofs.Math.Bool.{and_assoc}
use Rattle.std.proofs.lemmas.Bool.Decides.{nat_tests}
use mathlib.Core.Bool.{Bool, and-true, false, true, ◌&&◌}
use mathlib.Core.List.{[], ◌∷◌}
use mathlib.Core.Path.{ap, refl, sym, ◌∙◌, ◌≡◌}
use Prim.Native.Nat.{ℕ, ◌+◌, ◌<◌, ◌≤◌}
use native.Mathlib.Numerals.{add-one}
use native.Mathlib.Omega.{arith}
use lib.Dec.{ltb}
use lib.ListN.{drop, drop_of_length-le, get_or, length}
use lib.Seq.{drop-cons}
use Rattle.json_text.proofs.Laws.{both_true}
use Rattle.std.specs.Prelude.{Option, None, Some, fold, max}
use Rattle.strings.specs.Answers.{expect_of, step}
use Rattle.json_text.specs.Bytes.{Bytes, between, choose}
use Rattle.json_text.specs.Utf8.{Expect, after, is_ascii, lead, never, scalar, tail, utf8}
use Rattle.strings.specs.declared.utf8.Expect.{Expect as Expected}
use Rattle.strings.specs.declared.utf8.Expect.TheVariants as expects
use borrow.Author.Tests.{lt-ltb, ltb-true}

-- ---- a further byte
never_ends : (t : Bytes) → utf8 never t ≡ false
unfolding utf8
never_ends [] = refl
never_ends (c ∷ t) = refl

stepped : (x : Expect) (c : ℕ) (t : Bytes) → utf8 x (c ∷ t) ≡ utf8 (step x c) t
unfolding utf8
stepped scalar c t = refl
stepped (tail low high n) c t = go (between low high c)
  where
    go : (b : Bool) → elim b [ true ↦ utf8 (after n) t | false ↦ false ] ≡ utf8 (elim b [ true ↦ after n | false ↦ never ]) t
    go true = refl
    go false = sym (never_ends t)
stepped never c t = sym (never_ends t)

-- ---- the loop: what is left decides the whole
pub record Checking (s : Bytes) (e : Expected) (at : ℕ) : Type 0 where
  pub upto : at ≤ length s
  pub rest : utf8 scalar s ≡ utf8 (expect_of (Some e)) (drop at s)

pub checking : (s : Bytes) → Checking s expects.Scalar 0
checking s = record { upto = omega arith; rest = refl }

module _ {s : Bytes} {e : Expected} {at : ℕ} (l : Checking s e at) where
  byte_more : (r : Option Expected) → at < length s → step (expect_of (Some e)) (get_or s at 0) ≡ expect_of r → utf8 scalar s ≡ utf8 (expect_of r) (drop (at + 1) s)
  byte_more r h f = l.rest ∙ ap (utf8 (expect_of (Some e))) opened ∙ stepped (expect_of (Some e)) (get_or s at 0) (drop (at + 1) s) ∙ ap (λ (x : Expect). utf8 x (drop (at + 1) s)) f
    where
      opened : drop at s ≡ get_or s at 0 ∷ drop (at + 1) s
      opened = rw add-one (drop-cons s at 0 h)

  pub checked : (r : Expected) → at < length s → step (expect_of (Some e)) (get_or s at 0) ≡ expect_of (Some r) → Checking s r (at + 1)
  checked r h f = record { upto = omega arith; rest = byte_more (Some r) h f }

  pub refuted : at < length s → step (expect_of (Some e)) (get_or s at 0) ≡ never → false ≡ utf8 scalar s
  refuted h f = sym (byte_more None h f ∙ never_ends (drop (at + 1) s))

  pub ended : length s ≤ at → e ≡ expects.Scalar → true ≡ utf8 scalar s
  unfolding utf8
  ended h z = sym (l.rest ∙ rw (drop_of_length-le s h, z))

  pub broken_off : length s ≤ at → (e ≡ expects.Scalar → ⊥) → false ≡ utf8 scalar s
  unfolding utf8
  broken_off h f = sym (l.rest ∙ rw (drop_of_length-le s h) (go e f))
    where
      go : (x : Expected) → (x ≡ expects.Scalar → ⊥) → utf8 (expect_of (Some x)) [] ≡ false
      go expects.Scalar f = absurd (f refl)
      go expects.One f = refl
      go expects.Two f = refl
      go expects.Three f = refl
      go expects.TwoFromA0 f = refl
      go expects.TwoTo9F f = refl
      go expects.ThreeFrom90 f = refl
      go expects.ThreeTo8F f = refl

-- ---- bytes below 128
lead_ascii : (c : ℕ) → c < 128 → lead c ≡ scalar
lead_ascii c h = rw (lt-ltb c 128 h, choose)

pub ascii_utf8 : (s : Bytes) → is_ascii s ≡ true → utf8 scalar s ≡ true
unfolding is_ascii utf8
ascii_utf8 [] h = refl
ascii_utf8 (c ∷ s) h =
    let b = both_true (ltb c 128) (is_ascii s) h in
    ap (λ (k : Expect). utf8 k s) (lead_ascii c (ltb-true c 128 b.0)) ∙ ascii_utf8 s b.1

ltb_max : (m c : ℕ) → ltb (max c m) 128 ≡ (ltb m 128 && ltb c 128)
ltb_max m c = grind (arith, nat_tests)

-- the greatest byte tells whether all are below 128
pub greatest_of_all : (s : Bytes) (greatest : ℕ) → ltb (fold (λ m c. max c m) greatest s) 128 ≡ (ltb greatest 128 && is_ascii s)
unfolding is_ascii
greatest_of_all [] greatest = sym (and-true (ltb greatest 128))
greatest_of_all (c ∷ s) greatest = greatest_of_all s (max c greatest) ∙ ap (λ (b : Bool). b && is_ascii s) both ∙ and_assoc (ltb greatest 128) (ltb c 128) (is_ascii s)
  where
    both : ltb (max c greatest) 128 ≡ (ltb greatest 128 && ltb c 128)
    both = ltb_max greatest c
