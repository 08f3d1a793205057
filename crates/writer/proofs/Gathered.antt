-- The marked nodes, gathered one by one; and each text of a list laid once.
-- Assumes nothing.
use mathlib.Core.Bool.{Bool, cond, false, true}
use mathlib.Core.List.{List, append_assoc, append-nil, [], ◌++◌, ◌∷◌}
use Rattle.std.specs.Prelude.{Option, None, Some}
use mathlib.Core.Path.{ap, refl, subst, sym, ◌∙◌, ◌≡◌}
use Prim.Native.Nat.{suc, zero, ℕ, ◌%◌, ◌+◌, ◌-◌, ◌<◌, ◌≤◌}
use native.Mathlib.Numerals.{add-one}
use native.Mathlib.Omega.{arith}
use borrow.Author.Tests.{eq-eqb, ne_eqb}
use lib.ListN.{drop, drop_of_length-le, get_or, length, set, take}
use lib.Seq.{drop-cons, length-take-le, take-suc-set}
use Rattle.order.proofs.ByText.{text_nodes_sorted}
use Rattle.order.specs.ByText.{TextNode, TextNodes, by_key, key_at}
use Rattle.json_text.specs.Bytes.{Bytes}
use Rattle.json_text.specs.Cursor.{OnText}
use Rattle.json_text.specs.Limits.{max_nodes}
use Rattle.json_text.specs.Marks.{first_mark, is_marked, marked}
use Rattle.json_text.specs.Spans.{text_at}
use Rattle.json_text.specs.Table.{start_at}
use Rattle.semantics.specs.Names.{ascending}
use Rattle.writer.proofs.Laying.{Going, ends, goes, nothing, starts}
use Rattle.writer.proofs.Once.{names_once}
use Rattle.writer.specs.Laid.{Laid}
use Rattle.writer.specs.declared.lay.Output.{Output}
use Rattle.answers.specs.Line.{quoted}
use Rattle.writer.specs.Once.{Fronted, element_after, elements, is_again, marked_nodes, marked_nodes_from, once_after, texts_of}
use Rattle.writer.specs.Texts.{IsText, NamesHeld, text_of}

-- ---- gathering: what was found, and the nodes from k on
pub record Gathering (w nodes : List ℕ) (count k : ℕ) : Type 0 where
  pub few : count ≤ k
  pub are : take count nodes ++ marked_nodes_from w (4096 - k) k ≡ marked_nodes w

all_nodes : (w : List ℕ) → marked_nodes_from w max_nodes 0 ≡ marked_nodes w
unfolding marked_nodes
all_nodes w = refl

pub gather : (w nodes : List ℕ) → Gathering w nodes 0 0
gather w nodes = record { few = omega arith; are = all_nodes w }

module _ {w nodes : List ℕ} {count k : ℕ} (g : Gathering w nodes count k) (room : 4096 ≤ length nodes) where
  pub gathered : k ≤ 4096 → 4096 ≤ k → Fronted w nodes count
  unfolding marked_nodes_from
  gathered u h =
      let e : 4096 - k ≡ 0 = omega arith in
      record {
        are = sym (append-nil (take count nodes)) ∙ rw e at g.are;
        few = omega (arith, g.few);
        fits = omega (arith, g.few, room);
      }

  module _ (h : k < 4096) where
    more : 4096 - k ≡ suc (4096 - (k + 1))
    more = omega arith

    pub pass : (get_or w (first_mark + k) 0 % 2 ≡ 1 → ⊥) → Gathering w nodes count (k + 1)
    unfolding marked_nodes_from
    pass n = record { few = omega (arith, g.few); are = rw (more, ne_eqb (get_or w (first_mark + k) 0 % 2) 1 n, marked_nodes_from) at g.are }

    pub note : get_or w (first_mark + k) 0 % 2 ≡ 1 → Gathering w (set nodes count k) (count + 1) (k + 1)
    unfolding marked_nodes_from
    note e = record {
      few = omega (arith, g.few);
      are = rw (add-one, take-suc-set nodes count k (omega (arith, g.few, room)), append_assoc) (rw (more, eq-eqb (get_or w (first_mark + k) 0 % 2) 1 e, marked_nodes_from) at g.are);
    }

-- ---- nodes with texts
pub on_text_lem : {s : Bytes} {w : List ℕ} {n p : ℕ} → TextNode s w n → p ≡ start_at w n → OnText s p 0
on_text_lem {s} t e = subst (λ (x : ℕ). OnText s x 0) (sym e) t.on_text

-- the marked ones are texts
marked_from : {s : Bytes} {w : List ℕ} → NamesHeld s w → (m k : ℕ) → k + m ≤ 4096 → TextNodes s w (marked_nodes_from w m k)
unfolding TextNodes marked_nodes_from
marked_from n zero k h = tt
marked_from {s} {w} n (suc m) k h = go (is_marked w k) refl (marked_from n m (k + 1) (omega arith))
  where
    go : (b : Bool) → is_marked w k ≡ b → TextNodes s w (marked_nodes_from w m (k + 1)) → TextNodes s w (marked_nodes_from w (suc m) k)
    go true q below = rw (q, marked_nodes_from) (record { small = omega arith; on_text = n.texts k (omega arith) q }, below)
    go false q below = rw (q, marked_nodes_from) below

pub marked_texts : {s : Bytes} {w : List ℕ} → NamesHeld s w → TextNodes s w (marked_nodes w)
marked_texts {s} {w} n = subst (TextNodes s w) (all_nodes w) (marked_from n max_nodes 0 (omega arith))

-- the front of an array: the marked nodes, and then these sorted
module _ {w ns : List ℕ} {count : ℕ} (f : Fronted w ns count) where
  pub front_long : count ≡ length (take count ns)
  front_long = sym (length-take-le count ns f.fits)

  module _ {s : Bytes} (n : NamesHeld s w) where
    pub front_texts : TextNodes s w (take count ns)
    front_texts = subst (TextNodes s w) (sym f.are) (marked_texts n)

    module _ {sorted : List ℕ} (is : sorted ≡ by_key (key_at s w) (take count ns)) where
      pub sorted_texts : TextNodes s w sorted
      sorted_texts = subst (TextNodes s w) (sym is) (text_nodes_sorted s w (take count ns) front_texts)

      pub sorted_once : once_after None (texts_of s w sorted) ≡ ascending (marked s w)
      sorted_once = ap (λ (x : List ℕ). once_after None (texts_of s w x)) (is ∙ ap (by_key (key_at s w)) f.are) ∙ names_once s w

once_next : (last : Option Bytes) (t : Bytes) (ts : List Bytes) → elements (once_after last (t ∷ ts)) ≡ element_after last t ++ elements (once_after (Some t) ts)
unfolding once_after elements
once_next last t ts = go (is_again last t)
  where
    go : (b : Bool) → elements (cond b (once_after (Some t) ts) (t ∷ once_after (Some t) ts)) ≡ cond b [] (32 ∷ quoted t) ++ elements (once_after (Some t) ts)
    go true = refl
    go false = refl

-- ---- each once: what is left to lay are the texts from i on that are not the one before them
pub record Laying (s : Bytes) (w ns : List ℕ) (a b : Output) (last : Option ℕ) (i : ℕ) : Type 0 where
  pub going : Going a (elements (once_after None (texts_of s w ns))) b (elements (once_after (text_of s last) (texts_of s w (drop i ns))))
  pub is_text : IsText s last

pub laying : (s : Bytes) (w ns : List ℕ) (a : Output) → Laying s w ns a a None 0
unfolding text_of IsText
laying s w ns a = record { going = starts a (elements (once_after None (texts_of s w ns))); is_text = tt }

-- a text that is the last one again, and one that isn't
pub again_laid : (last : Option Bytes) (t : Bytes) (b : Output) → is_again last t ≡ true → Laid b (element_after last t) b
again_laid last t b e = rw e (nothing b)

pub element_laid : (last : Option Bytes) (t : Bytes) {b c : Output} → is_again last t ≡ false → Laid b (32 ∷ quoted t) c → Laid b (element_after last t) c
element_laid last t e l = rw e l

module _ {s : Bytes} {w ns : List ℕ} {a b : Output} {last : Option ℕ} {i : ℕ} (g : Laying s w ns a b last i) where
  pub laid : length ns ≤ i → Laid a (elements (once_after None (texts_of s w ns))) b
  unfolding texts_of once_after elements
  laid h = ends (rw (drop_of_length-le ns h) at g.going)

  module _ (h : i < length ns) {p : ℕ} (e : p ≡ start_at w (get_or ns i 0)) (t : OnText s p 0) where
    on : texts_of s w (drop i ns) ≡ text_at s p ∷ texts_of s w (drop (i + 1) ns)
    unfolding texts_of
    on = rw (drop-cons ns i 0 h, add-one, ← e)

    pub lay_on : {c : Output} → Laid b (element_after (text_of s last) (text_at s p)) c → Laying s w ns a c (Some p) (i + 1)
    unfolding text_of IsText
    lay_on l =
        record {
          going = goes (elements (once_after (Some (text_at s p)) (texts_of s w (drop (i + 1) ns))))
              (rw (on, once_next (text_of s last) (text_at s p) (texts_of s w (drop (i + 1) ns))) at g.going) l;
          is_text = t;
        }
