-- Texts that a node gives: one alone or several, and a text among them.
-- Assumes nothing.
use mathlib.Core.Bool.{Bool, false, true}
use mathlib.Core.List.{List, [], ◌∷◌}
use mathlib.Core.Path.{ap, refl, subst, sym, ◌∙◌, ◌≡◌}
use Prim.Native.Nat.{ℕ, ◌+◌, ◌<◌, ◌≤◌}
use native.Mathlib.Omega.{arith}
use Rattle.json_text.specs.Bytes.{Bytes, is_one_of, same_bytes}
use Rattle.json_text.specs.Cursor.{OnText}
use Rattle.json_text.specs.Json.{Value, array, bool, null, number, object, text}
use Rattle.json_text.specs.Refusal.{Result, ok, wrong_sheet}
use Rattle.json_text.specs.Sorted.{sorted}
use Rattle.json_text.specs.Spans.{text_at}
use Rattle.json_text.specs.Table.{after_at, end_at, kind_at, start_at, value_at}
use Rattle.sheet.proofs.Given.{text_given}
use Rattle.members.proofs.Verdicts.{never}
use Rattle.members.proofs.Shapes.{tag, tag_at, text_at_lem}
use Rattle.sheet.specs.Accepted.{EachGives, Gives}
use Rattle.members.specs.Kinds.{a_text, an_array_of, some_texts}
use Rattle.rules.proofs.Walking.{Walking, behind_array, ended, goes_on, next, settled}

-- ---- a text among others
among : (t x : Bytes) (xs : List Bytes) (b : Bool) → same_bytes t x ≡ b → is_one_of t (x ∷ xs) ≡ elim b [ true ↦ true | false ↦ is_one_of t xs ]
unfolding is_one_of
among t x xs b q = ap {B = Bool} (λ (c : Bool). elim c [ true ↦ true | false ↦ is_one_of t xs ]) q

one_among : (t x : Bytes) → is_one_of t (x ∷ []) ≡ same_bytes t x
unfolding is_one_of
one_among t x = go (same_bytes t x) refl
  where
    go : (b : Bool) → same_bytes t x ≡ b → is_one_of t (x ∷ []) ≡ same_bytes t x
    go true q = among t x [] true q ∙ sym q
    go false q = among t x [] false q ∙ sym q

module _ {s : Bytes} {w : List ℕ} {from e : ℕ} (text : ℕ) {k : ℕ}
    (l : Walking a_text s w from e (is_one_of (text_at s text)) (is_one_of (text_at s text)) k) (h : k < e) (at : ℕ) (p : at ≡ start_at w k) where
  pub on_element : OnText s at 0
  on_element = subst (λ (x : ℕ). OnText s x 0) (sym p) (text_given (next l h).here).on_text

  first_is : (next l h).first ≡ text_at s at
  first_is = (text_given (next l h).here).bytes ∙ ap (text_at s) (sym p)

  pub found_here : true ≡ same_bytes (text_at s text) (text_at s at) → (ts : List Bytes) → EachGives a_text s w from e ts → true ≡ is_one_of (text_at s text) ts
  found_here q = settled l h true (sym (among (text_at s text) (next l h).first (next l h).others true (ap (same_bytes (text_at s text)) first_is ∙ sym q)))

  pub not_here : false ≡ same_bytes (text_at s text) (text_at s at) → (k' : ℕ) → k' ≡ after_at w k →
      Walking a_text s w from e (is_one_of (text_at s text)) (is_one_of (text_at s text)) k'
  not_here q = goes_on l h (is_one_of (text_at s text)) (among (text_at s text) (next l h).first (next l h).others false (ap (same_bytes (text_at s text)) first_is ∙ sym q))

pub none_left : {s : Bytes} {w : List ℕ} {from e : ℕ} (text : ℕ) {k : ℕ} →
    Walking a_text s w from e (is_one_of (text_at s text)) (is_one_of (text_at s text)) k → e ≤ k → (ts : List Bytes) →
    EachGives a_text s w from e ts → false ≡ is_one_of (text_at s text) ts
unfolding is_one_of
none_left at l h = ended l h

-- ---- a text alone, or several
module _ {s : Bytes} {w : List ℕ} {n : ℕ} {ts : List Bytes} (g : Gives some_texts s w n ts) where
  alone : kind_at w n ≡ 4 → ts ≡ text_at s (start_at w n) ∷ []
  unfolding sorted
  alone k =
      let x = text_at_lem g.node k in
      let y : ◌≡◌ {A = Result (List Bytes)} (ok (text_at s (start_at w n) ∷ [])) (ok ts) = sym (ap (λ (v : Value). some_texts (sorted v)) x.0) ∙ g.is in
      let z : ts ≡ text_at s (start_at w n) ∷ [] = cc in
      z

  module _ (k : kind_at w n ≡ 4) {at : ℕ} (p : at ≡ start_at w n) where
    pub alone_on_text : OnText s at 0
    alone_on_text = subst (λ (x : ℕ). OnText s x 0) (sym p) (record { stop = end_at w n; text = (text_at_lem g.node k).1; few = omega arith })

    pub alone_same : (t : Bytes) (r : Bool) → r ≡ same_bytes t (text_at s at) → r ≡ is_one_of t ts
    alone_same t r q = q ∙ ap (λ (x : ℕ). same_bytes t (text_at s x)) p ∙ sym (ap (is_one_of t) (alone k) ∙ one_among t (text_at s (start_at w n)))

  pub several : (kind_at w n ≡ 4 → ⊥) → Gives (an_array_of a_text) s w n ts
  unfolding sorted
  several k = go (value_at s w n) refl
    where
      is : (v : Value) → value_at s w n ≡ v → some_texts (sorted v) ≡ ok ts
      is v q = sym (ap (λ (u : Value). some_texts (sorted u)) q) ∙ g.is

      go : (v : Value) → value_at s w n ≡ v → Gives (an_array_of a_text) s w n ts
      go null q = never wrong_sheet ts (is null q)
      go (bool b) q = never wrong_sheet ts (is (bool b) q)
      go (number d) q = never wrong_sheet ts (is (number d) q)
      go (text t) q = absurd (k (tag_at g.node ∙ ap tag q))
      go (array vs) q = record { node = g.node; is_tidy = g.is_tidy; is = ap (λ (u : Value). an_array_of a_text (sorted u)) q ∙ is (array vs) q }
      go (object ms) q = never wrong_sheet ts (is (object ms) q)

-- the texts of an array, behind its node
pub behind : {s : Bytes} {w : List ℕ} {n e : ℕ} {ts : List Bytes} → Gives some_texts s w n ts → (kind_at w n ≡ 4 → ⊥) → e ≡ after_at w n → EachGives a_text s w (n + 1) e ts
behind g k q = behind_array a_text (several g k) q

-- an array of texts gives its texts as a text or an array of texts does
pub as_texts : {s : Bytes} {w : List ℕ} {n : ℕ} {ts : List Bytes} → Gives (an_array_of a_text) s w n ts → Gives some_texts s w n ts
unfolding sorted
as_texts {s} {w} {n} {ts} g = go (value_at s w n) refl
  where
    is : (v : Value) → value_at s w n ≡ v → an_array_of a_text (sorted v) ≡ ok ts
    is v q = sym (ap (λ (u : Value). an_array_of a_text (sorted u)) q) ∙ g.is

    go : (v : Value) → value_at s w n ≡ v → Gives some_texts s w n ts
    go null q = never wrong_sheet ts (is null q)
    go (bool b) q = never wrong_sheet ts (is (bool b) q)
    go (number d) q = never wrong_sheet ts (is (number d) q)
    go (text t) q = never wrong_sheet ts (is (text t) q)
    go (array vs) q = record { node = g.node; is_tidy = g.is_tidy; is = ap (λ (u : Value). some_texts (sorted u)) q ∙ is (array vs) q }
    go (object ms) q = never wrong_sheet ts (is (object ms) q)
