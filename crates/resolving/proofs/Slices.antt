-- A text seen from a slice that starts in its middle; frames seen as the definitions have them; and what the code asks of both.
-- Assumes nothing.
use mathlib.Core.Bool.{Bool, false, true}
use mathlib.Core.List.{List, [], ◌∷◌}
use mathlib.Core.Path.{ap, refl, sym, ◌∙◌, ◌≡◌}
use Prim.Native.Nat.{suc, ℕ, ◌*◌, ◌+◌, ◌-◌, ◌<◌, ◌≤◌}
use native.Mathlib.Omega.{arith}
use lib.Dec.{leb}
use lib.ListN.{drop, length, length-drop, take}
use lib.Seq.{take_all}
use borrow.Author.Tests.{leb-false, leb-true}
use Rattle.json_text.proofs.Laws.{ok_injective}
use Rattle.json_text.proofs.Sound.{bind_inv}
use Rattle.json_text.specs.Bytes.{Bytes, find, same_bytes}
use Rattle.json_text.specs.Cursor.{OnText}
use Rattle.json_text.specs.Fits.{Text}
use Rattle.json_text.specs.Held.{HasNode}
use Rattle.json_text.specs.Placing.{chars_at, place_of}
use Rattle.json_text.specs.Spans.{text_at}
use Rattle.json_text.specs.Strings.{chars}
use Rattle.paths.specs.Lazy.{outer}
use Rattle.paths.specs.Reached.{BoundAs, BoundFits, bound_of}
use Rattle.paths.specs.Ready.{PathAt, Ready}
use Rattle.paths.specs.Stack.{Named, bound_in, held}
use Rattle.paths.specs.Stored.{Bound, Room, frame_of, framed, frames_of, table}
use Rattle.paths.specs.declared.frames.Frame.{Frame}
use Rattle.paths.specs.declared.frames.Frames.{Frames}
use Rattle.paths.specs.declared.operand.Operand.{Operand}
use Rattle.std.specs.Prelude.{Option}
use Rattle.paths.specs.declared.roots.Roots.{Roots}
use Rattle.paths.proofs.Ordered.{node_below}
use Rattle.paths.proofs.Stack.{top_length}
use Rattle.paths.proofs.Stands.{outer_all, outer_cons}

-- the part from k to the end, as `&s[k..]` makes it
pub rest_whole : (s : List ℕ) (k : ℕ) → take (length s - k) (drop k s) ≡ drop k s
rest_whole s k = take_all (length s - k) (drop k s) (omega (arith, length-drop k s))

pub text_from : (s : Bytes) (k : ℕ) → text_at (take (length s - k) (drop k s)) 0 ≡ text_at s k
unfolding text_at
text_from s k = ap (λ (l : Bytes). text_at l 0) (rest_whole s k)

from_text : (s : Bytes) (k e : ℕ) → k ≤ length s → Text s k e → Text (drop k s) 0 (e - k)
unfolding chars_at place_of
from_text s k e h x =
    let i = bind_inv (chars (length (drop k s)) (drop k s)) _ x.read in
    let p : length s - length i.0.rest ≡ e + 1 = ok_injective i.2 in
    let q : length (drop k s) - length i.0.rest ≡ e - k + 1 = omega (arith, length-drop k s, x.order, x.upto) in
    record { read = rw (i.1, q); order = omega arith; upto = omega (arith, length-drop k s, x.order, x.upto) }

pub path_from : (s : Bytes) (k : ℕ) → OnText s k 0 → k ≤ length s → length s ≤ 32768 → PathAt (take (length s - k) (drop k s))
path_from s k o h l =
    rw (rest_whole s k)
    (record {
      on_text = record { stop = o.stop - k; text = from_text s k o.stop h o.text; few = omega arith };
      short = omega (arith, length-drop k s);
    })

pub length_from : (s : Bytes) (k : ℕ) → length (take (length s - k) (drop k s)) ≡ length s - k
length_from s k = ap length (rest_whole s k) ∙ length-drop k s

-- frames
module _ (s : Bytes) (t : List ℕ) where
  pub framed_length : (fs : List Frame) → length (framed s t fs) ≡ length fs
  unfolding framed
  framed_length [] = refl
  framed_length (f ∷ fs) = ap suc (framed_length fs)

  pub framed_outer : (d : ℕ) (fs : List Frame) → framed s t (outer d fs) ≡ outer d (framed s t fs)
  unfolding framed
  framed_outer d [] = ap (framed s t) (outer_all d [] (omega arith)) ∙ sym (outer_all d [] (omega arith))
  framed_outer d (f ∷ fs) = go (leb (suc (length fs)) d) refl (framed_outer d fs)
    where
      go : (b : Bool) → leb (suc (length fs)) d ≡ b → framed s t (outer d fs) ≡ outer d (framed s t fs) →
          framed s t (outer d (f ∷ fs)) ≡ outer d (frame_of s t f ∷ framed s t fs)
      go true q below =
          let k = leb-true (suc (length fs)) d q in
          let l = framed_length fs in
          ap (framed s t) (outer_all d (f ∷ fs) k) ∙ sym (outer_all d (frame_of s t f ∷ framed s t fs) (omega arith))
      go false q below =
          let k = leb-false (suc (length fs)) d q in
          let l = framed_length fs in
          ap (framed s t) (outer_cons d f fs (omega arith)) ∙ below ∙ sym (outer_cons d (frame_of s t f) (framed s t fs) (omega arith))

  named_outer : (d : ℕ) (fs : List Frame) → Named s fs → Named s (outer d fs)
  unfolding Named outer
  named_outer d [] h = tt
  named_outer d (f ∷ fs) h = go (leb (suc (length fs)) d) refl (named_outer d fs h.1)
    where
      go : (b : Bool) → leb (suc (length fs)) d ≡ b → Named s (outer d fs) → Named s (outer d (f ∷ fs))
      go true q below = rw (q, outer) h
      go false q below = rw (q, outer) below

  bound_outer : (d : ℕ) (fs : List Frame) → Bound s t fs → Bound s t (outer d fs)
  unfolding Bound outer
  bound_outer d [] h = tt
  bound_outer d (f ∷ fs) h = go (leb (suc (length fs)) d) refl (bound_outer d fs h.1)
    where
      go : (b : Bool) → leb (suc (length fs)) d ≡ b → Bound s t (outer d fs) → Bound s t (outer d (f ∷ fs))
      go true q below = rw (q, outer) h
      go false q below = rw (q, outer) below

  -- a binder in force
  pub binder_as : (k : Bytes) (fs : List Frame) → Bound s t fs → BoundAs s t (bound_in s k fs) (find k (framed s t fs))
  unfolding bound_in framed find Bound bound_of BoundFits
  binder_as k [] h = record { means = refl; fits = tt }
  binder_as k (f ∷ fs) h = go (same_bytes k (text_at s f.name)) refl (binder_as k fs h.1)
    where
      go : (b : Bool) → same_bytes k (text_at s f.name) ≡ b → BoundAs s t (bound_in s k fs) (find k (framed s t fs)) →
          BoundAs s t (bound_in s k (f ∷ fs)) (find k (frame_of s t f ∷ framed s t fs))
      go true q below = rw (q, find) (record { means = refl; fits = h.0 })
      go false q below = rw (q, find) below

  binder_told : {r : Option Operand} (k : Bytes) (fs : List Frame) → Bound s t fs → r ≡ bound_in s k fs → BoundAs s t r (find k (framed s t fs))
  binder_told k fs h e = rw e (binder_as k fs h)

-- what the code asks
module _ {s : Bytes} {w : List ℕ} {roots : Roots} {f : Frames} (r : Ready s w roots f) where
  pub node_room : {n : ℕ} → HasNode s (table w) n → Room w n
  node_room h = record { rows = r.rows; node = node_below s (table w) h }

  -- what a name is bound to
  pub binder : (k : Bytes) {b : Option Operand} → b ≡ bound_in s k (held f) → BoundAs s (table w) b (find k (frames_of s (table w) f))
  binder k e = binder_told s (table w) k (held f) r.bound.operands e

  pub frames_length : length (frames_of s (table w) f) ≡ f.depth
  frames_length = framed_length s (table w) (held f) ∙ top_length f.depth f.slots

  pub ready_outer : {g : Frames} {under : Roots} → under ≡ roots → (d : ℕ) → g.depth ≤ f.depth → held g ≡ outer d (held f) → Ready s w under g
  ready_outer {g} q d l e = record {
    rows = r.rows;
    short = r.short;
    rooted = rw q r.rooted;
    linked = r.linked;
    bound =
        record {
          within = omega (arith, r.bound.within);
          names = rw e (named_outer s (table w) d (held f) r.bound.names);
          operands = rw e (bound_outer s (table w) d (held f) r.bound.operands);
        };
  }

  pub frames_outer : (g : Frames) (d : ℕ) → held g ≡ outer d (held f) → frames_of s (table w) g ≡ outer d (frames_of s (table w) f)
  frames_outer g d e = ap (framed s (table w)) e ∙ framed_outer s (table w) d (held f)

-- what falls in the cycle: expressions left first, then the length of the path
pub one_less : (l : ℕ) → (l ≡ 0 → ⊥) → 1 ≤ l
one_less l h = omega arith

pub path_falls : (l n m k c d : ℕ) {t : ℕ} → 40000 * l + n + c ≡ t → m ≡ n - k → 0 < k → k ≤ n → d ≤ c → 40000 * l + m + d < t
path_falls l n m k c d e q p u h = omega arith

pub step_falls : (l n : ℕ) {t : ℕ} → 40000 * l + n + 2 ≡ t → 40000 * l + 1 < t
step_falls l n e = omega arith

pub touch_falls : (l : ℕ) {t : ℕ} → 40000 * l + 1 ≡ t → 40000 * l < t
touch_falls l e = omega arith

pub look_falls : (l m n k : ℕ) {t : ℕ} → 40000 * l ≡ t → (l ≡ 0 → ⊥) → m ≡ n - k → n ≤ 32768 → 40000 * (l - 1) + m + 3 < t
look_falls l m n k e z q h = omega arith

-- what falls in equality: layers left
pub layer_falls : (l : ℕ) {t : ℕ} → 2 * l ≡ t → (l ≡ 0 → ⊥) → 2 * (l - 1) + 1 < t
layer_falls l e h = omega arith

pub part_falls : (l : ℕ) {t : ℕ} → 2 * l + 1 ≡ t → 2 * l < t
part_falls l e = omega arith

-- what falls in resolving: brackets left
pub parts_falls : (l : ℕ) {t : ℕ} → 2 * l ≡ t → 1 ≤ l → 2 * (l - 1) + 1 < t
parts_falls l e h = omega arith
