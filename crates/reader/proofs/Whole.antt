-- The whole sheet: what the tree's reading answers is what `json` says.
-- Assumes nothing.
use Rattle.std.specs.Prelude.{Ok, Err}
use mathlib.Core.Bool.{Bool, false, true}
use mathlib.Core.List.{List}
use mathlib.Core.Path.{ap, refl, sym, ◌∙◌, ◌≡◌}
use Prim.Native.Nat.{ℕ, ◌<◌, ◌≤◌}
use native.Mathlib.Omega.{arith}
use lib.Dec.{leb}
use lib.ListN.{drop, length}
use Rattle.json_text.proofs.Agree.{erased, json_erased, read_facts}
use Rattle.reader.proofs.ArrayLoop.{past_rows}
use Rattle.json_text.proofs.Decoded.{length_rows, node_after}
use Rattle.json_text.proofs.Laws.{bind_ok}
use Rattle.leaves.proofs.Loops.{bind_refused}
use Rattle.leaves.proofs.MemberName.{skip_past}
use Rattle.json_text.proofs.Walk.{accepted, stored, value_is}
use Rattle.strings.specs.Answers.{refusal_of}
use Rattle.json_text.specs.Bytes.{Bytes}
use Rattle.json_text.specs.Json.{Value}
use Rattle.leaves.specs.Laid.{ParsedTold, Rows}
use Rattle.json_text.specs.Limits.{max_bytes, max_depth, nodes, nodes_in, nodes_of}
use Rattle.json_text.specs.Placing.{Placed, read_at, skip_at, spanned, whole_at}
use Rattle.json_text.specs.Reader.{json}
use Rattle.strings.specs.Reads.{HoldsOf, ReadTold, read_of, reading}
use Rattle.json_text.specs.Refusal.{Refusal, Result, not_json, not_utf8, ok, refused, too_long, ◌>>=◌}
use Rattle.json_text.specs.Spans.{
  Fields,
  Node,
  Nodes,
  Plain,
  arr,
  erase,
  erase_in,
  erase_of,
  field,
  is_false,
  is_null,
  is_number,
  is_text,
  is_true,
  leaf,
  no_field,
  no_node,
  node,
  obj,
  plain,
  size,
  size_in,
  size_of,
}
use Rattle.json_text.specs.Table.{rows, value_at}
use Rattle.json_text.specs.Utf8.{scalar, utf8}
use Rattle.strings.specs.declared.answer.Place.{Place}
use Rattle.strings.specs.declared.answer.Refusal.{Refusal as Why}
use Rattle.strings.specs.declared.answer.Refusal.TheVariants as whys
use borrow.Author.Tests.{eq-eqb, le-leb, lt-leb, ne_eqb}

-- ---- each value and each name is a node
plain_node : (s : Bytes) (k : Plain) (a e : ℕ) → nodes (plain s k a e) ≡ 1
unfolding plain nodes
plain_node s is_null a e = refl
plain_node s is_true a e = refl
plain_node s is_false a e = refl
plain_node s is_number a e = refl
plain_node s is_text a e = refl

mutual
  unfolding erase size nodes

  nodes_size : (s : Bytes) (t : Node) → nodes (erase s t) ≡ size t
  nodes_size s (leaf k a e) = plain_node s k a e
  nodes_size s (arr a e ts) = omega (arith, nodes_size_in s ts)
  nodes_size s (obj a e fs) = omega (arith, nodes_size_of s fs)

  nodes_size_in : (s : Bytes) (ts : Nodes) → nodes_in (erase_in s ts) ≡ size_in ts
  nodes_size_in s no_node = refl
  nodes_size_in s (node t ts) = omega (arith, nodes_size s t, nodes_size_in s ts)

  nodes_size_of : (s : Bytes) (fs : Fields) → nodes_of (erase_of s fs) ≡ size_of fs
  nodes_size_of s no_field = refl
  nodes_size_of s (field a e t fs) = omega (arith, nodes_size s t, nodes_size_of s fs)

-- ---- the first refusal of 2 and 3, and then the tree's
abbrev after : Bool → Bool → Result Node → Result Node
after fits is_utf8 x = elim fits [ false ↦ refused too_long | true ↦ elim is_utf8 [ false ↦ refused not_utf8 | true ↦ x ] ]

module _ (s : Bytes) where
  by_steps : spanned s ≡ after (leb (length s) max_bytes) (utf8 scalar s) (read_at max_depth s 0 (skip_at s 0) >>= whole_at s)
  unfolding spanned
  by_steps = refl

  pub spanned_long : max_bytes < length s → spanned s ≡ refused too_long
  spanned_long h = by_steps ∙ ap (λ (b : Bool). after b (utf8 scalar s) (read_at max_depth s 0 (skip_at s 0) >>= whole_at s)) (lt-leb (length s) max_bytes h)

  module _ (fits : length s ≤ max_bytes) where
    short : spanned s ≡ after true (utf8 scalar s) (read_at max_depth s 0 (skip_at s 0) >>= whole_at s)
    short = by_steps ∙ ap (λ (b : Bool). after b (utf8 scalar s) (read_at max_depth s 0 (skip_at s 0) >>= whole_at s)) (le-leb (length s) max_bytes fits)

    pub spanned_bytes : utf8 scalar s ≡ false → spanned s ≡ refused not_utf8
    spanned_bytes e = short ∙ ap (λ (b : Bool). after true b (read_at max_depth s 0 (skip_at s 0) >>= whole_at s)) e

    module _ (is_utf8 : utf8 scalar s ≡ true) (at : ℕ) (is_at : at ≡ skip_at s 0) where
      spanned_read : spanned s ≡ (read_at max_depth s 0 at >>= whole_at s)
      spanned_read = short ∙ ap (λ (b : Bool). after true b (read_at max_depth s 0 (skip_at s 0) >>= whole_at s)) is_utf8 ∙ ap (λ (k : ℕ). read_at max_depth s 0 k >>= whole_at s) (sym is_at)

      pub spanned_refused : (r : Refusal) → read_at max_depth s 0 at ≡ refused r → spanned s ≡ refused r
      spanned_refused r e = spanned_read ∙ bind_refused _ e

      pub spanned_more : (p : Placed Node) (k : ℕ) → read_at max_depth s 0 at ≡ ok p → k ≡ skip_at s p.place → (k ≡ length s → ⊥) → spanned s ≡ refused not_json
      unfolding whole_at
      spanned_more p k e q f = spanned_read ∙ bind_ok _ e ∙ rw (ne_eqb (skip_at s p.place) (length s) (λ z. f (q ∙ z)), whole_at)

      spanned_is : (p : Placed Node) (k : ℕ) → read_at max_depth s 0 at ≡ ok p → k ≡ skip_at s p.place → k ≡ length s → spanned s ≡ ok p.tree
      unfolding whole_at
      spanned_is p k e q z = spanned_read ∙ bind_ok _ e ∙ rw (eq-eqb (skip_at s p.place) (length s) (sym q ∙ z), whole_at)

-- ---- what is told
pub too_small : (s : Bytes) (w : List ℕ) → length w < 16384 → ReadTold s w w (Err whys.WorkTooSmall)
unfolding reading read_of HoldsOf
too_small s w h = record { answers = rw (lt-leb 16384 (length w) h, reading); holds = tt; small = λ k. refl; past = refl }

module _ (s : Bytes) (w : List ℕ) (enough : 16384 ≤ length w) where
  is_json : reading (length w) s ≡ json s
  unfolding reading
  is_json = rw (le-leb 16384 (length w) enough, reading)

  module _ (w' : List ℕ) (past : drop 12288 w' ≡ drop 12288 w) where
    pub told_refused : (r : Why) → spanned s ≡ refused (refusal_of r) → ReadTold s w w' (Err r)
    unfolding read_of HoldsOf erased
    told_refused r e = record { answers = is_json ∙ json_erased s ∙ ap (erased s) e; holds = tt; small = λ h. absurd (omega arith); past = past }

    pub told_table :
        (p : Place) (at k : ℕ) → length s ≤ max_bytes → utf8 scalar s ≡ true → at ≡ skip_at s 0 → Rows (read_at max_depth s 0 at) w w' 0 p →
        k ≡ skip_at s p.at → k ≡ length s → ReadTold s w w' (Ok p.node)
    unfolding read_of HoldsOf
    told_table p at k bytes u is_at r q z =
        let v : Placed Node = record { tree = r.tree; place = p.at; count = p.node } in
        let a = accepted s w w' r.tree (spanned_is s bytes u at is_at v k r.read q z) r.words (omega arith) in
        let f = read_facts max_depth s 0 at v (skip_past s 0 at (omega arith) is_at).1 r.read in
        let n : nodes (value_at s w' 0) ≡ size r.tree = ap nodes a.1 ∙ nodes_size s r.tree in
        let b = a.2 in
        let m : nodes (value_at s w' 0) ≡ size b.tree = ap nodes (value_is s w' b.depth b.held) ∙ nodes_size s b.tree in
        record {
          answers = is_json ∙ a.0 ∙ ap {B = Result Value} (λ y. ok y) (sym a.1);
          holds =
              record {
                bytes = bytes;
                root = b;
                count = omega (arith, n, f.1.counted);
                after = node_after s w' max_depth 0 b.tree b.held ∙ omega (arith, n, m, f.1.counted);
                spans = (
                  r.tree,
                  spanned_is s bytes u at is_at v k r.read q z,
                  stored w w' r.tree r.words
                      (omega (arith, f.1.counted, f.1.most)),
                );
              };
          small = λ h. absurd (omega arith);
          past = past;
        }

-- what the tree's answer says of the words past its rows
pub still_laid : (s : Bytes) (w w' : List ℕ) (at : ℕ) (p : Place) → at ≤ length s → Rows (read_at max_depth s 0 at) w w' 0 p → drop 12288 w' ≡ drop 12288 w
still_laid s w w' at p h r =
    let f = read_facts max_depth s 0 at (record { tree = r.tree; place = p.at; count = p.node }) h r.read in
    past_rows w w' (rows r.tree 0) 0 r.words (omega (arith, length_rows r.tree 0, f.1.counted, f.1.most))

pub refused_is : (x : Result (Placed Node)) (w w' : List ℕ) (n : ℕ) (r : Why) → ParsedTold x w w' n (Err r) →
    (x ≡ refused (refusal_of r)) × (drop 12288 w' ≡ drop 12288 w)
unfolding ParsedTold
refused_is x w w' n r t = t
