-- Laws of the frames in force: a push, the outermost of them, and a name looked up turn by turn.
-- Assumes nothing.
use Rattle.std.specs.Prelude.{Some, None}
use mathlib.Core.Bool.{Bool, cond, false, true}
use mathlib.Core.List.{List, [], ◌∷◌, ◌++◌, map}
use mathlib.Core.Logic.{◌≢◌, ⊎_elim}
use mathlib.Core.Path.{ap, refl, subst, sym, ◌∙◌, ◌≡◌}
use Prim.Native.Nat.{suc, zero, ℕ, ◌+◌, ◌-◌, ◌<◌, ◌≤◌}
use native.Mathlib.Nat.{eq-or-lt_of_le, le_of_suc-le-suc}
use native.Mathlib.Numerals.{add-one}
use native.Mathlib.Omega.{arith}
use lib.Dec.{leb}
use lib.ListN.{drop, get_or, length, length-map, set, take}
use lib.Seq.{get_or-append_seam, get_or-set_other, get_or-set_same}
use Rattle.std.proofs.lemmas.List.{get_or_append_left, length-take-le, length_push, take-append-drop}
use borrow.Author.Tests.{leb-false, leb-true}
use Rattle.json_text.specs.Bytes.{Bytes, same_bytes}
use Rattle.json_text.specs.Cursor.{OnText}
use Rattle.json_text.specs.Spans.{text_at}
use Rattle.paths.specs.Lazy.{outer}
use Rattle.paths.specs.Stack.{Named, bound_in, frame_in, no_slot, top}
use Rattle.paths.specs.declared.frames.Frame.{Frame}
use Rattle.paths.specs.declared.frames.Slot.{Slot}
use Rattle.paths.proofs.Stands.{outer_all, outer_cons}

pub top_set : (n : ℕ) (xs : List Slot) (m : ℕ) (v : Slot) → n ≤ m → top n (set xs m v) ≡ top n xs
unfolding top
top_set zero xs m v h = refl
top_set (suc n) xs m v h =
    let ne : n ≢ m = omega arith in
    let le : n ≤ m = omega arith in
    rw (get_or-set_other xs m n v no_slot ne, top_set n xs m v le)

pub top_push : (n : ℕ) (xs : List Slot) (v : Slot) → n < length xs → top (n + 1) (set xs n v) ≡ frame_in v ∷ top n xs
unfolding top
top_push n xs v h = rw (add-one, get_or-set_same xs n v no_slot h, top_set n xs n v (omega arith))

-- the length of an array that is a field, whose elements are structs, from what owning the struct tells
pub length_mapped : (X Y : Type 0) (f : X → Y) (l : List X) (n : ℕ) → length (map f l) ≡ n → length l ≡ n
length_mapped X Y f l n e = sym (length-map l f) ∙ e

pub top_length : (n : ℕ) (xs : List Slot) → length (top n xs) ≡ n
unfolding top
top_length zero xs = refl
top_length (suc n) xs = ap suc (top_length n xs)

-- the outermost of the first n
pub top_outer : (d n : ℕ) (xs : List Slot) → d ≤ n → top d xs ≡ outer d (top n xs)
unfolding top
top_outer d zero xs h = let z : d ≡ 0 = omega arith in rw z (sym (outer_all 0 [] (omega arith)))
top_outer d (suc n) xs h = go (leb d n) refl (top_outer d n xs)
  where
    go : (b : Bool) → leb d n ≡ b → (d ≤ n → top d xs ≡ outer d (top n xs)) → top d xs ≡ outer d (frame_in (get_or xs n no_slot) ∷ top n xs)
    go true q below =
        let k = leb-true d n q in
        let l = top_length n xs in
        below k ∙ sym (outer_cons d (frame_in (get_or xs n no_slot)) (top n xs) (omega arith))
    go false q below =
        let k = leb-false d n q in
        let z : d ≡ suc n = omega arith in
        let l = top_length (suc n) xs in
        rw z (sym (outer_all (suc n) (top (suc n) xs) (omega arith)))

pub top_whole : (d n : ℕ) (xs : List Slot) → n ≤ d → top n xs ≡ outer d (top n xs)
top_whole d n xs h = let l = top_length n xs in sym (outer_all d (top n xs) (omega arith))

pub top_least : (d n m : ℕ) (xs : List Slot) → (m < n → d ≤ m) → m ≤ d → m ≤ n → top m xs ≡ outer d (top n xs)
top_least d n m xs w h k = ⊎_elim (λ e. rw e (top_whole d n xs (omega arith))) (λ l. whole (omega (arith, w l)) l) (eq-or-lt_of_le k)
  where
    whole : m ≡ d → m < n → top m xs ≡ outer d (top n xs)
    whole e l = rw e (top_outer d n xs (omega arith))

-- the frames of slots that stand one behind the other, the last first
abbrev pub frames_in : List Slot → List Frame
frames_in xs = top (length xs) xs

top_front : (n : ℕ) (xs ys : List Slot) → n ≤ length xs → top n (xs ++ ys) ≡ top n xs
unfolding top
top_front zero xs ys h = refl
top_front (suc n) xs ys h = rw (get_or_append_left xs ys no_slot n (omega arith), top_front n xs ys (omega arith))

-- the first n slots
pub frames_front : (n : ℕ) (xs : List Slot) → n ≤ length xs → frames_in (take n xs) ≡ top n xs
frames_front n xs h =
    let long : length (take n xs) ≡ n = length-take-le n xs h in
    rw long (sym (top_front n (take n xs) (drop n xs) (omega (arith, long))) ∙ ap (λ (l : List Slot). top n l) (take-append-drop n xs))

-- the innermost of them
pub frames_last : (xs : List Slot) (v : Slot) → frames_in (xs ++ v ∷ []) ≡ frame_in v ∷ frames_in xs
unfolding top
frames_last xs v =
    let long : length (xs ++ v ∷ []) ≡ suc (length xs) = length_push xs v ∙ add-one (length xs) in
    rw (long, get_or-append_seam xs v [] no_slot, top_front (length xs) xs (v ∷ []) (omega arith))

-- what is looked up is among the slots left, whose names are texts
pub record Sought (s k : Bytes) (fs : List Frame) (left : List Slot) : Type 0 where
  pub named : Named s (frames_in left)
  pub found : bound_in s k fs ≡ bound_in s k (frames_in left)

module _ {s k : Bytes} {fs : List Frame} {left : List Slot} (rest : List Slot) (v : Slot) (h : Sought s k fs left) (e : left ≡ rest ++ v ∷ []) where
  whole : frames_in left ≡ frame_in v ∷ frames_in rest
  whole = ap frames_in e ∙ frames_last rest v

  pub sought_name : OnText s v.name 0
  unfolding Named
  sought_name = (subst (Named s) whole h.named).0

  pub sought_here : true ≡ same_bytes k (text_at s v.name) → bound_in s k fs ≡ Some (frame_in v).operand
  unfolding bound_in
  sought_here q = h.found ∙ ap (bound_in s k) whole ∙ rw (← q)

  pub sought_on : false ≡ same_bytes k (text_at s v.name) → Sought s k fs rest
  unfolding Named bound_in
  sought_on q = record { named = (subst (Named s) whole h.named).1; found = h.found ∙ ap (bound_in s k) whole ∙ rw (← q) }

pub sought_none : {s k : Bytes} {fs : List Frame} {left : List Slot} → Sought s k fs left → length left ≡ 0 → bound_in s k fs ≡ None
unfolding top bound_in
sought_none h z = h.found ∙ rw z
