-- Texts in hand, by their places.
-- Assumes nothing.
use Rattle.std.specs.Prelude.{None, Some, Option}
use mathlib.Core.Path.{ap, subst, ◌≡◌}
use Prim.Native.Nat.{ℕ}
use Rattle.writer.specs.Texts.{IsText, text_of}
use Rattle.json_text.specs.Bytes.{Bytes}
use Rattle.json_text.specs.Cursor.{OnText}
use Rattle.json_text.specs.Spans.{text_at}

pub is_text_lem : (s : Bytes) (p : ℕ) {t : Option ℕ} → IsText s t → t ≡ Some p → OnText s p 0
unfolding IsText
is_text_lem s p h e = subst (IsText s) e h

pub is_some : (s : Bytes) (p : ℕ) {t : Option ℕ} → t ≡ Some p → text_of s t ≡ Some (text_at s p)
unfolding text_of
is_some s p e = ap (text_of s) e

pub is_none : (s : Bytes) {t : Option ℕ} → t ≡ None → text_of s t ≡ None
unfolding text_of
is_none s e = ap (text_of s) e
