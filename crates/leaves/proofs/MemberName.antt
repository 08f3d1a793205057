-- A member's name, by what is known of its bytes, and what is known once it is read.
-- Assumes nothing.
use mathlib.Core.Bool.{Bool, false, true}
use mathlib.Core.List.{List, []}
use mathlib.Core.Path.{ap, refl, sym, ◌∙◌, ◌≡◌}
use Prim.Native.Nat.{ℕ, ◌+◌, ◌-◌, ◌<◌, ◌≤◌}
use native.Mathlib.Omega.{arith}
use lib.Dec.{eqb, ltb}
use lib.ListN.{get_or-eq_default, get_or, length, set}
use lib.Seq.{get_or-set_other, get_or-set_same}
use Rattle.json_text.proofs.Agree.{skip_at_lem}
use Rattle.json_text.proofs.Laws.{bind_ok}
use Rattle.leaves.proofs.Loops.{bind_refused, none_left, not_new}
use Rattle.tokens.proofs.Scans.{byte_is}
use Rattle.json_text.specs.Bytes.{Bytes, is_one_of}
use Rattle.json_text.proofs.Texts.{text_read}
use Rattle.json_text.specs.Cursor.{OnText}
use Rattle.json_text.specs.Fits.{Text}
use Rattle.json_text.specs.Limits.{max_nodes}
use Rattle.json_text.specs.Naming.{Grown, name_at}
use Rattle.json_text.specs.Placing.{byte_at, chars_at, skip_at}
use Rattle.json_text.specs.Reader.{new_name, one_node}
use Rattle.json_text.specs.Refusal.{Refusal, ok, refused, repeated_name, too_many_nodes}
use Rattle.json_text.specs.Spans.{text_at}
use borrow.Author.Tests.{eqb-false, eqb-true, lt-ltb, ltb-false, ltb-true}

module _ (s : Bytes) (names : List Bytes) (n at : ℕ) where
  pub no_quote : (r : Refusal) → byte_at 34 s at ≡ refused r → name_at s names n at ≡ refused r
  unfolding name_at
  no_quote r e = bind_refused _ e

  module _ (is_quote : get_or s at 0 ≡ 34) where
    pub no_room : max_nodes ≤ n → name_at s names n at ≡ refused too_many_nodes
    unfolding name_at
    no_room h = bind_ok _ (byte_is 34 s at is_quote) ∙ bind_refused _ (none_left n h)

    module _ (room : n < max_nodes) where
      counted : one_node n ≡ ok (n + 1)
      unfolding one_node
      counted = rw (lt-ltb n max_nodes room, one_node)

      pub bad_text : (r : Refusal) → chars_at s (at + 1) ≡ refused r → name_at s names n at ≡ refused r
      unfolding name_at
      bad_text r e = bind_ok _ (byte_is 34 s at is_quote) ∙ bind_ok _ counted ∙ bind_refused _ e

      module _ (e : ℕ) (is_text : chars_at s (at + 1) ≡ ok e) where
        pub again : is_one_of (text_at s (at + 1)) names ≡ true → name_at s names n at ≡ refused repeated_name
        unfolding name_at
        again h = bind_ok _ (byte_is 34 s at is_quote) ∙ bind_ok _ counted ∙ bind_ok _ is_text ∙ bind_refused _ (not_new (text_at s (at + 1)) names h)

        module _ (is_new : is_one_of (text_at s (at + 1)) names ≡ false) where
          fresh : new_name (text_at s (at + 1)) names [] ≡ ok []
          unfolding new_name
          fresh = rw (is_new, new_name)

          pub no_colon : (r : Refusal) → byte_at 58 s (skip_at s e) ≡ refused r → name_at s names n at ≡ refused r
          unfolding name_at
          no_colon r f = bind_ok _ (byte_is 34 s at is_quote) ∙ bind_ok _ counted ∙ bind_ok _ is_text ∙ bind_ok _ fresh ∙ bind_refused _ f

          pub spelt : get_or s (skip_at s e) 0 ≡ 58 → name_at s names n at ≡ ok (record { stop = e - 1; value = skip_at s (skip_at s e + 1) })
          unfolding name_at
          spelt q = bind_ok _ (byte_is 34 s at is_quote) ∙ bind_ok _ counted ∙ bind_ok _ is_text ∙ bind_ok _ fresh ∙ bind_ok _ (byte_is 58 s (skip_at s e) q)

-- ---- bounds
pub skip_past : (s : Bytes) (at p : ℕ) → at ≤ length s → p ≡ skip_at s at → (at ≤ p) × (p ≤ length s)
skip_past s at p h e = let b = skip_at_lem s at _ refl h in (omega (arith, b.past), omega (arith, b.upto))

-- past the end stands no byte
pub byte_inside : (s : Bytes) (at c : ℕ) → get_or s at 0 ≡ c → 0 < c → at < length s
byte_inside s at c e h = go (ltb at (length s)) refl
  where
    go : (b : Bool) → ltb at (length s) ≡ b → at < length s
    go true q = ltb-true at (length s) q
    go false q = let k : length s ≤ at = ltb-false at (length s) q in let z : get_or s at 0 ≡ 0 = get_or-eq_default s 0 k in absurd (omega arith)

-- ---- a mark is set
pub marks_grow : (seen : List Bool) (k : ℕ) → k < length seen → Grown seen (set seen k true)
marks_grow seen k h i e = go (eqb i k) refl
  where
    go : (b : Bool) → eqb i k ≡ b → get_or (set seen k true) i false ≡ true
    go true q = ap (λ (j : ℕ). get_or (set seen k true) j false) (eqb-true i k q) ∙ get_or-set_same seen k true false h
    go false q = get_or-set_other seen k i true false (eqb-false i k q) ∙ e

-- ---- a quoted name, once its text is scanned
pub record Quoted (s : Bytes) (at count from e : ℕ) : Type 0 where
  pub is_quote : get_or s at 0 ≡ 34
  pub begins : from ≡ at + 1
  pub room : count < max_nodes
  pub is_text : chars_at s (at + 1) ≡ ok e
  pub text : Text s (at + 1) (e - 1)
  pub order : at + 1 < e
  pub upto : e ≤ length s

pub quoted : (s : Bytes) (at count from e : ℕ) → (get_or s at 0 ≡ 34) × (from ≡ at + 1) → count < max_nodes → chars_at s from ≡ ok e → Quoted s at count from e
quoted s at count from e q r t =
    let i = ap (chars_at s) (sym q.1) ∙ t in
    let f = text_read s (at + 1) e (omega (arith, byte_inside s at 34 q.0 (omega arith))) i in
    record { is_quote = q.0; begins = q.1; room = r; is_text = i; text = f.0; order = f.1; upto = f.2 }

pub on_text_lem : {s : Bytes} {at count from e : ℕ} → Quoted s at count from e → OnText s from 0
on_text_lem {s} {e = e} q = rw q.begins (record { stop = e - 1; text = q.text; few = omega arith })
