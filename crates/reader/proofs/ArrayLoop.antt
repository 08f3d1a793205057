-- An array's loop over the table: what holds at each separator, and a law for each turn.
-- Assumes nothing.
use Rattle.std.specs.Prelude.{Result as Fallible}
use Rattle.std.specs.Prelude.{Ok, Err}
use mathlib.Core.Bool.{Bool}
use mathlib.Core.List.{List}
use mathlib.Core.Path.{ap, refl, subst, sym, ◌∙◌, ◌≡◌}
use Prim.Native.Nat.{suc, ℕ, ◌*◌, ◌+◌, ◌-◌, ◌<◌, ◌≤◌}
use native.Mathlib.Omega.{arith}
use lib.ListN.{drop, length}
use lib.Seq.{length-sets, sets}
use Rattle.json_text.proofs.Agree.{ValueAgrees, read_facts}
use Rattle.json_text.proofs.Decoded.{length_rows_in}
use Rattle.leaves.proofs.Loops.{Reading, array_opens, array_shut, item_ends, item_fails, item_on, item_refused, joined, past_end, size_in_more}
use Rattle.leaves.proofs.Values.{told_bad}
use Rattle.reader.proofs.Words.{drop_sets, words_arr, words_item}
use Rattle.strings.specs.Answers.{refusal_of}
use Rattle.json_text.specs.Bytes.{Bytes}
use Rattle.leaves.specs.Laid.{Continues, Opens, ParsedTold, RowLaid, Rows}
use Rattle.json_text.specs.Limits.{max_nodes}
use Rattle.json_text.specs.Naming.{Grown}
use Rattle.json_text.specs.Placing.{Placed, arr_at, read_at}
use Rattle.json_text.specs.Json.{Value}
use Rattle.json_text.specs.Reader.{Parsed}
use Rattle.json_text.specs.Refusal.{Result, not_json, ok, refused}
use Rattle.json_text.specs.Spans.{Node, Nodes, arr, no_node, node, size_in}
use Rattle.json_text.specs.Table.{rows_in}
use Rattle.strings.specs.declared.answer.Place.{Place}
use Rattle.strings.specs.declared.answer.Refusal.{Refusal as Why}
use Rattle.strings.specs.declared.answer.Refusal.TheVariants as whys
use Rattle.leaves.specs.declared.bracket.Sep.{Sep}
use Rattle.leaves.specs.declared.bracket.Sep.TheVariants as seps

-- what falls with each turn of a loop over separators
unfoldable pub reach : Bytes → Sep → ℕ
reach s (seps.Shut e) = 0
reach s (seps.On h) = suc (length s - h)

pub reach_falls : (s : Bytes) (at close here : ℕ) (sep : Sep) → here < at → at ≤ length s → Continues s at close (Ok sep) → reach s sep < reach s (seps.On here)
unfolding reach Continues
reach_falls s at close here (seps.Shut e) h k c = omega arith
reach_falls s at close here (seps.On p) h k c = omega (arith, c.2, c.3)

-- words past the rows, after rows were written
pub past_rows : (w₀ w vs : List ℕ) (i : ℕ) → w ≡ sets w₀ i vs → i + length vs ≤ 12288 → drop 12288 w ≡ drop 12288 w₀
past_rows w₀ w vs i e h = ap (drop 12288) e ∙ drop_sets vs w₀ i 12288 h

module _ (s : Bytes) (left at n₀ : ℕ) where
  abbrev whole : Result (Placed Node)
  whole = arr_at s (λ m a. read_at left s m a) n₀ at

  unfoldable pub ArrayNext : Nodes → ℕ → Fallible Sep Why → Type 0
  ArrayNext ts n (Err q) = (q ≡ whys.NotJson) × (whole ≡ refused not_json)
  ArrayNext ts n (Ok (seps.Shut e)) = (whole ≡ ok (record { tree = arr at e ts; place = e; count = n })) × (e ≤ length s)
  ArrayNext ts n (Ok (seps.On here)) = Reading s (λ m a. read_at left s m a) at whole ts here n × (at < here) × (here ≤ length s)

  -- the elements read so far, their rows, and what the separator decides
  pub record ArrayState (w₀ w : List ℕ) (n : ℕ) (sep : Fallible Sep Why) : Type 0 where
    pub ts : Nodes
    pub words : w ≡ sets w₀ (3 * (n₀ + 1)) (rows_in ts (n₀ + 1))
    pub count : n ≡ n₀ + 1 + size_in ts
    pub below : n ≤ max_nodes
    pub next : ArrayNext ts n sep

  pub array_starts : (w : List ℕ) (sep : Sep) → at < length s → n₀ < max_nodes → Opens s at 93 sep → ArrayState w w (n₀ + 1) (Ok sep)
  unfolding ArrayNext Opens rows_in size_in
  array_starts w sep inside room o = record { ts = no_node; words = refl; count = omega arith; below = omega arith; next = go sep o }
    where
      go : (sep : Sep) → Opens s at 93 sep → ArrayNext no_node (n₀ + 1) (Ok sep)
      go (seps.Shut e) o = (
        array_shut s (λ m a. read_at left s m a) n₀ at room o.0 ∙
            ap {B = Result (Placed Node)} (λ (k : ℕ). ok (record { tree = arr at k no_node; place = k; count = n₀ + 1 })) (sym o.1),
        o.2,
      )
      go (seps.On h) o = (
        subst (λ (k : ℕ). Reading s (λ m a. read_at left s m a) at whole no_node k (n₀ + 1)) (sym o.1)
            (array_opens s (λ m a. read_at left s m a) n₀ at room o.0 (omega (arith, o.1, o.2))),
        o.2,
        o.3,
      )

  module _ {w₀ w : List ℕ} {n : ℕ} where
    pub array_long : {sep : Fallible Sep Why} → ArrayState w₀ w n sep → length w ≡ length w₀
    array_long l = ap length l.words ∙ length-sets w₀ (3 * (n₀ + 1)) (rows_in l.ts (n₀ + 1))

    array_still : {sep : Fallible Sep Why} → ArrayState w₀ w n sep → drop 12288 w ≡ drop 12288 w₀
    array_still l = past_rows w₀ w (rows_in l.ts (n₀ + 1)) (3 * (n₀ + 1)) l.words (omega (arith, length_rows_in l.ts (n₀ + 1), l.count, l.below))

    pub array_neither : {q : Why} → ArrayState w₀ w n (Err q) → ParsedTold whole w₀ w n₀ (Err q)
    unfolding ArrayNext
    array_neither l = rw l.next.0 (told_bad whole w₀ w n₀ whys.NotJson l.next.1 (array_still l))

    pub array_end : {e : ℕ} → ArrayState w₀ w n (Ok (seps.Shut e)) → e ≤ length s
    unfolding ArrayNext
    array_end l = l.next.1

    pub array_laid : {w' : List ℕ} {e : ℕ} {p : Place} → ArrayState w₀ w n (Ok (seps.Shut e)) → RowLaid w w' n₀ 5 at e n e p → ParsedTold whole w₀ w' n₀ (Ok p)
    unfolding ArrayNext ParsedTold
    array_laid {w'} {e} l r = rw r.answer (record { tree = arr at e l.ts; read = l.next.0; words = words_arr w₀ w w' n₀ n l.ts at e l.words r.words l.count })

    module _ {here : ℕ} (l : ArrayState w₀ w n (Ok (seps.On here))) where
      reading : Reading s (λ m a. read_at left s m a) at whole l.ts here n
      unfolding ArrayNext
      reading = l.next.0

      pub array_here : here ≤ length s
      unfolding ArrayNext
      array_here = l.next.2

      pub array_refused : (w' : List ℕ) (r : Why) → ParsedTold (read_at left s n here) w w' n (Err r) → ParsedTold whole w₀ w' n₀ (Err r)
      unfolding ParsedTold
      array_refused w' r p = (item_refused reading (refusal_of r) p.0 past, p.1 ∙ array_still l)
        where
          past : length s ≤ here → refusal_of r ≡ not_json
          past h = cc (p.0, past_end left s n here h)

      pub array_on : {w' : List ℕ} {p : Place} → Rows (read_at left s n here) w w' n p → (sep : Fallible Sep Why) → Continues s p.at 93 sep → ArrayState w₀ w' p.node sep
      unfolding ArrayNext Continues
      array_on {w'} {p} r sep c =
          record {
            ts = joined l.ts (node r.tree no_node);
            words = words_item w₀ w w' (n₀ + 1) n l.ts r.tree l.words r.words l.count;
            count = omega (arith, l.count, f.1.counted, size_in_more l.ts r.tree);
            below = f.1.most;
            next = go sep c;
          }
        where
          v : Placed Node
          v = record { tree = r.tree; place = p.at; count = p.node }

          f : (q : Parsed Value) × ValueAgrees s left n here q v
          f = read_facts left s n here v array_here r.read

          inside : here < length s
          inside = omega (arith, f.1.past, f.1.upto)

          go : (sep : Fallible Sep Why) → Continues s p.at 93 sep → ArrayNext (joined l.ts (node r.tree no_node)) p.node sep
          go (Err q) c = (c.0, item_fails reading v r.read inside f.1.past c.1 c.2)
          go (Ok (seps.Shut e)) c = (
            item_ends reading v r.read inside f.1.past c.0 ∙
                ap {B = Result (Placed Node)}
                (λ (k : ℕ). ok (record { tree = arr at k (joined l.ts (node r.tree no_node)); place = k; count = p.node }))
                (sym c.1),
            c.2,
          )
          go (Ok (seps.On h)) c = (
            subst (λ (k : ℕ). Reading s (λ m a. read_at left s m a) at whole (joined l.ts (node r.tree no_node)) k p.node)
                (sym c.1) (item_on reading v r.read inside f.1.past c.0 (omega (arith, c.1, c.2, f.1.past))),
            omega (arith, c.2, f.1.past, l.next.1),
            c.3,
          )

      pub array_past : {w' : List ℕ} {p : Place} → Rows (read_at left s n here) w w' n p → (here < p.at) × (p.at ≤ length s)
      array_past {w'} {p} r = let f = (read_facts left s n here (record { tree = r.tree; place = p.at; count = p.node }) array_here r.read).1 in (f.past, f.upto)

-- at a turn of the loop, with the marks that the elements added
pub record ArrayTurn (s : Bytes) (left at n₀ : ℕ) (w₀ w : List ℕ) (seen₀ seen : List Bool) (n : ℕ) (sep : Sep) : Type 0 where
  pub state : ArrayState s left at n₀ w₀ w n (Ok sep)
  pub grown : Grown seen₀ seen
  pub marks : length seen ≡ length seen₀

pub array_turn : {s : Bytes} {left at n₀ : ℕ} {w₀ w : List ℕ} {seen₀ seen : List Bool} {n : ℕ} {sep : Sep} (sep' : Sep) →
    ArrayTurn s left at n₀ w₀ w seen₀ seen n sep → sep ≡ sep' → ArrayState s left at n₀ w₀ w n (Ok sep')
array_turn {s} {left} {at} {n₀} {w₀} {w} {n = n} sep' l e = subst (λ (x : Sep). ArrayState s left at n₀ w₀ w n (Ok x)) e l.state

-- what an answer that is known says
pub was_done : {x : Result (Placed Node)} {w w' : List ℕ} {n : ℕ} {p : Place} → ParsedTold x w w' n (Ok p) → Rows x w w' n p
unfolding ParsedTold
was_done t = t
