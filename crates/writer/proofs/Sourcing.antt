-- The texts of a node that is a text or an array of texts, text by text: the loop says that the texts from its node on are left to lay.
-- Assumes nothing.
use mathlib.Core.List.{List, [], ◌++◌, ◌∷◌}
use mathlib.Core.Path.{ap, refl, sym, ◌∙◌, ◌≡◌}
use Prim.Native.Nat.{ℕ, ◌*◌, ◌+◌, ◌<◌, ◌≤◌}
use native.Mathlib.Omega.{arith}
use lib.ListN.{length}
use Rattle.writer.proofs.Laying.{Going, ends_with, goes, starts}
use Rattle.writer.proofs.Lists.{elements_more}
use Rattle.writer.specs.Once.{elements}
use Rattle.writer.specs.Laid.{Laid}
use Rattle.writer.specs.declared.lay.Output.{Output}
use Rattle.answers.specs.Line.{quoted}
use Rattle.writer.specs.Texts.{TextsHeld, texts_in}
use Rattle.json_text.proofs.Walk.{after_node, inside, is_array, is_object, is_plain, values_done, values_more, view, View}
use Rattle.json_text.specs.Bytes.{Bytes}
use Rattle.json_text.specs.Cursor.{OnText}
use Rattle.json_text.specs.Held.{AreNodes, IsNode}
use Rattle.json_text.specs.Json as json
use Rattle.json_text.specs.Limits.{max_nodes}
use Rattle.json_text.specs.Refusal.{Result, ok, refused}
use Rattle.json_text.specs.Spans.{is_false, is_null, is_number, is_text, is_true, plain, text_at}
use Rattle.json_text.specs.Table.{after_at, kind_at, start_at, value_at, values_at}
use Rattle.members.specs.Kinds.{a_text, each_of, some_texts}

never : {A : Type 0} → ◌≡◌ {A = ℕ} 0 1 → A
never z = absurd (omega arith)

-- a node that is a text
pub record TextHere (s : Bytes) (w : List ℕ) (n : ℕ) (t : Bytes) : Type 0 where
  pub is : t ≡ text_at s (start_at w n)
  pub on_text : OnText s (start_at w n) 0

-- the first of the nodes from k up to e, all of them texts
pub record First (s : Bytes) (w : List ℕ) (k e : ℕ) (rest : List Bytes) : Type 0 where
  pub others : List Bytes
  pub is : rest ≡ text_at s (start_at w k) ∷ others
  pub are : each_of a_text (json.elements (values_at s w (after_at w k) e)) ≡ ok others
  pub on_text : OnText s (start_at w k) 0

module _ {s : Bytes} {w : List ℕ} {left : ℕ} where
  pub text_here : {n : ℕ} (t : Bytes) → IsNode s w left n → a_text (value_at s w n) ≡ ok t → TextHere s w n t
  unfolding plain
  text_here {n} t h e = go (view s w h)
    where
      go : View s w left n → TextHere s w n t
      go (is_plain is_null p q v f) = let z : ◌≡◌ {A = ℕ} 0 1 = cc (rw v at e) in never z
      go (is_plain is_true p q v f) = let z : ◌≡◌ {A = ℕ} 0 1 = cc (rw v at e) in never z
      go (is_plain is_false p q v f) = let z : ◌≡◌ {A = ℕ} 0 1 = cc (rw v at e) in never z
      go (is_plain is_number p q v f) = let z : ◌≡◌ {A = ℕ} 0 1 = cc (rw v at e) in never z
      go (is_plain is_text p q v f) = let z : t ≡ text_at s (start_at w n) = cc (rw v at e) in record { is = z; on_text = record { stop = _; text = f; few = omega arith } }
      go (is_array p l v m) = let z : ◌≡◌ {A = ℕ} 0 1 = cc (rw v at e) in never z
      go (is_object p l v m) = let z : ◌≡◌ {A = ℕ} 0 1 = cc (rw v at e) in never z

  pub first_of : {k e : ℕ} {rest : List Bytes} → AreNodes s w left k e → k < e → each_of a_text (json.elements (values_at s w k e)) ≡ ok rest → First s w k e rest
  unfolding each_of
  first_of {k} {e} {rest} h q a = go (a_text (value_at s w k)) refl (each_of a_text (json.elements (values_at s w (after_at w k) e))) refl
    where
      b : each_of a_text (json.elements (json.cons (value_at s w k) (values_at s w (after_at w k) e))) ≡ ok rest
      b = rw (values_more s w h q).value at a

      go : (x : Result Bytes) → a_text (value_at s w k) ≡ x → (y : Result (List Bytes)) → each_of a_text (json.elements (values_at s w (after_at w k) e)) ≡ y → First s w k e rest
      go (refused r) i y j = let z : ◌≡◌ {A = ℕ} 0 1 = cc (rw i at b) in never z
      go (ok t) i (refused r) j = let z : ◌≡◌ {A = ℕ} 0 1 = cc (rw (i, j) at b) in never z
      go (ok t) i (ok ts) j =
          let x = text_here t (values_more s w h q).here i in
          let z : t ∷ ts ≡ rest = cc (rw (i, j) at b) in
          record { others = ts; is = sym z ∙ ap {B = List Bytes} (λ u. u ∷ ts) x.is; are = j; on_text = x.on_text }

-- the rows that are read
pub in_table : {s : Bytes} {w : List ℕ} {left n : ℕ} → IsNode s w left n → (3 * n + 3 ≤ length w) × (n < max_nodes)
in_table {s} {w} {n} h = (inside s w h, omega (arith, (after_node s w h).0, (after_node s w h).1))

module _ {s : Bytes} {w : List ℕ} {n : ℕ} (h : TextsHeld s w n) where
  -- a text alone
  pub only_text : kind_at w n ≡ 4 → (texts_in (value_at s w n) ≡ text_at s (start_at w n) ∷ []) × OnText s (start_at w n) 0
  unfolding texts_in plain
  only_text e = go (view s w h.has_node.is_node)
    where
      go : View s w h.has_node.left n → (texts_in (value_at s w n) ≡ text_at s (start_at w n) ∷ []) × OnText s (start_at w n) 0
      go (is_plain is_null p q v f) = absurd (omega arith)
      go (is_plain is_true p q v f) = absurd (omega arith)
      go (is_plain is_false p q v f) = absurd (omega arith)
      go (is_plain is_number p q v f) = absurd (omega arith)
      go (is_plain is_text p q v f) = (rw v, record { stop = _; text = f; few = omega arith })
      go (is_array p l v m) = absurd (omega arith)
      go (is_object p l v m) = absurd (omega arith)

  -- an array of texts
  pub record Array : Type 0 where
    pub left : ℕ
    pub nodes : AreNodes s w left (n + 1) (after_at w n)
    pub are : each_of a_text (json.elements (values_at s w (n + 1) (after_at w n))) ≡ ok (texts_in (value_at s w n))

  pub texts_array : (kind_at w n ≡ 4 → ⊥) → Array
  unfolding texts_in plain
  texts_array k = go (view s w h.has_node.is_node)
    where
      e : some_texts (value_at s w n) ≡ ok h.texts
      e = h.are

      got : {x : Result (List Bytes)} → some_texts (value_at s w n) ≡ x → x ≡ ok h.texts → x ≡ ok (texts_in (value_at s w n))
      got i j = j ∙ sym (rw e)

      go : View s w h.has_node.left n → Array
      go (is_plain is_null p q v f) = let z : ◌≡◌ {A = ℕ} 0 1 = cc (rw v at e) in never z
      go (is_plain is_true p q v f) = let z : ◌≡◌ {A = ℕ} 0 1 = cc (rw v at e) in never z
      go (is_plain is_false p q v f) = let z : ◌≡◌ {A = ℕ} 0 1 = cc (rw v at e) in never z
      go (is_plain is_number p q v f) = let z : ◌≡◌ {A = ℕ} 0 1 = cc (rw v at e) in never z
      go (is_plain is_text p q v f) = absurd (k p)
      go (is_array p l v m) = record { left = _; nodes = m; are = got (rw v) (rw v at e) }
      go (is_object p l v m) = let z : ◌≡◌ {A = ℕ} 0 1 = cc (rw v at e) in never z

pub record Sourcing (s : Bytes) (w : List ℕ) (whole : List Bytes) (a b : Output) (k e : ℕ) : Type 0 where
  pub left : ℕ
  pub nodes : AreNodes s w left k e
  pub rest : List Bytes
  pub are : each_of a_text (json.elements (values_at s w k e)) ≡ ok rest
  pub going : Going a (elements whole ++ (41 ∷ [])) b (elements rest ++ (41 ∷ []))

pub sourcing :
    {n e : ℕ} {s : Bytes} {w : List ℕ} (a : Output) (h : TextsHeld s w n) → (kind_at w n ≡ 4 → ⊥) → e ≡ after_at w n →
    Sourcing s w (texts_in (value_at s w n)) a a (n + 1) e
sourcing a h k q = let t = texts_array h k in rw q (record { left = t.left; nodes = t.nodes; rest = _; are = t.are; going = starts a _ })

module _ {s : Bytes} {w : List ℕ} {whole : List Bytes} {a b : Output} {k e : ℕ} (g : Sourcing s w whole a b k e) where
  pub no_source : {c : Output} → e ≤ k → Laid b (41 ∷ []) c → Laid a (elements whole ++ (41 ∷ [])) c
  unfolding elements each_of
  no_source h l =
      let z : [] ≡ g.rest = cc (rw (values_done s w g.nodes h) at g.are) in
      ends_with (rw (sym z) at g.going) l

  module _ (h : k < e) where
    pub first : First s w k e g.rest
    first = first_of g.nodes h g.are

    pub source_node : IsNode s w g.left k
    source_node = (values_more s w g.nodes h).here

    pub next_source : {j t : ℕ} {c : Output} → t ≡ start_at w k → j ≡ after_at w k → Laid b (32 ∷ quoted (text_at s t)) c → Sourcing s w whole a c j e
    next_source i q l =
        let f = first in
        rw q
        (record {
          left = g.left;
          nodes = (values_more s w g.nodes h).others;
          rest = f.others;
          are = f.are;
          going = goes (elements f.others ++ (41 ∷ [])) (rw (f.is, elements_more) at g.going) (rw i at l);
        })
