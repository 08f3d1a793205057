-- A place on a text is on it in one way: what an iterator over a text keeps is a fact, and no data.
-- Assumes nothing.
use mathlib.Core.Path.{◌≡◌, ap, subst, sym, ◌∙◌}
use Prim.Native.Nat.{ℕ, ◌+◌, ◌≤◌}
use native.Mathlib.Bridge.{le_prop}
use Rattle.std.proofs.Props.{props}
use native.Mathlib.Omega.{arith}
use Rattle.json_text.specs.Bytes.{Bytes}
use Rattle.json_text.specs.Cursor.{OnText}
use Rattle.json_text.specs.Fits.{Text}
use Rattle.json_text.specs.Refusal.{ok}

text_prop : (s : Bytes) (a e : ℕ) → IsProp (Text s a e)
text_prop s a e = hlevel props

-- where a text ends is read from where it starts
one_end : (a b : ℕ) → ok a ≡ ok b → a ≡ b
one_end a b e = cc

module _ (s : Bytes) (at left : ℕ) where
  same_stop : (x y : OnText s at left) → x.stop ≡ y.stop
  same_stop x y = omega (arith, one_end (x.stop + 1) (y.stop + 1) (sym x.text.read ∙ y.text.read))

  one_text : (e : ℕ) (p q : Text s at e) (f g : left ≤ 3) →
      ◌≡◌ {A = OnText s at left} (record { stop = e; text = p; few = f }) (record { stop = e; text = q; few = g })
  one_text e p q f g =
      ap (λ (t : Text s at e). record { stop = e; text = t; few = f }) (text_prop s at e p q) ∙
      ap (λ (k : left ≤ 3). record { stop = e; text = q; few = k }) (le_prop f g)

  pub on_text_prop : IsProp (OnText s at left)
  on_text_prop x y =
      subst (λ (e : ℕ). (q : Text s at e) → ◌≡◌ {A = OnText s at left} x (record { stop = e; text = q; few = y.few })) (same_stop x y)
      (λ q. one_text x.stop x.text q x.few y.few) y.text
