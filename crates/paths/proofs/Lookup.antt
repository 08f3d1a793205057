-- A member by its name: in key order it is the last of that name as written, found turn by turn.
-- Assumes nothing.
use mathlib.Core.Bool.{Bool, cond, false, true}
use mathlib.Core.List.{List, [], ◌∷◌}
use Rattle.std.specs.Prelude.{Option, None, Some}
use mathlib.Core.Path.{ap, refl, subst, sym, ◌∙◌, ◌≡◌}
use Prim.Native.Nat.{Ordering, suc, zero, ℕ, ◌+◌, ◌<◌, ◌≤◌}
use native.Mathlib.Omega.{arith}
use Rattle.json_text.proofs.Laws.{same_bytes_true}
use Rattle.json_text.proofs.Sorted.{
  Above,
  Ascending,
  Less,
  OrderView,
  above_more,
  above_none,
  asc_more,
  asc_none,
  each_sorted,
  entries_sorted,
  in_order_ascending,
  is_eq',
  is_gt,
  is_lt,
  less_order,
  less_trans,
  order_view,
  same_order,
}
use Rattle.json_text.proofs.Walk.{MoreMembers, members_done, members_more}
use Rattle.json_text.specs.Bytes.{Bytes, find, order_bytes, same_bytes}
use Rattle.json_text.specs.Cursor.{OnText}
use Rattle.json_text.specs.Held.{HasMembers}
use Rattle.json_text.specs.Json.{entries}
use Rattle.json_text.specs.KeyOrder.{in_order, put}
use Rattle.json_text.specs.Spans.{text_at}
use Rattle.json_text.specs.Table.{after_at, end_at, members_at, start_at}
use Rattle.paths.specs.Reached.{FoundNode, MemberTold, found_tree}
use Rattle.paths.specs.Stored.{HasKind, fields_of, tree}
use Rattle.paths.proofs.Stands.{impossible}
use Rattle.paths.proofs.Trees.{object_row}

-- the later of two
abbrev pub or_earlier : {A : Type 0} → Option A → Option A → Option A
or_earlier None o = o
or_earlier (Some a) o = Some a

abbrev pub hit : {A : Type 0} → Bytes → Bytes × A → Option A
hit k x = cond (same_bytes k x.0) (Some x.1) None

unfoldable pub find_last : {A : Type 0} → Bytes → List (Bytes × A) → Option A
unfolding same_bytes
find_last k [] = None
find_last k (x ∷ xs) = or_earlier (find_last k xs) (hit k x)

or_assoc : {A : Type 0} (a b c : Option A) → or_earlier (or_earlier a b) c ≡ or_earlier a (or_earlier b c)
or_assoc None b c = refl
or_assoc (Some x) b c = refl

or_none : {A : Type 0} (a : Option A) → or_earlier a None ≡ a
or_none None = refl
or_none (Some x) = refl

less_apart : {a b : Bytes} → Less a b → same_bytes a b ≡ false
less_apart {a} {b} h = go (same_bytes a b) refl
  where
    go : (x : Bool) → same_bytes a b ≡ x → same_bytes a b ≡ false
    go false q = q
    go true q =
        let e : order_bytes a b ≡ Ordering.eq = ap (λ (y : Bytes). order_bytes a y) (sym (same_bytes_true a b q)) ∙ same_order a in
        let f = less_order h in
        absurd (impossible (cc))

module _ {A : Type 0} where
  find_above : {j k : Bytes} {ys : List (Bytes × A)} → Less j k → Above A k ys → find j ys ≡ None
  unfolding find
  find_above h above_none = refl
  find_above h (above_more {y} {ys} l a) = rw (less_apart (less_trans h l), find) (find_above h a)

  -- a member put in its place is found, unless one of its name stands there
  find_put : (k : Bytes) (x : Bytes × A) {ys : List (Bytes × A)} → Ascending A ys → find k (put x ys) ≡ or_earlier (find k ys) (hit k x)
  unfolding find put
  find_put k x asc_none = go (same_bytes k x.0) refl
    where
      go : (b : Bool) → same_bytes k x.0 ≡ b → find k (x ∷ []) ≡ hit k x
      go true q = rw (q, find)
      go false q = rw (q, find)
  find_put k x (asc_more {x = y} {xs = ys} a r) = go (order_bytes x.0 y.0) (order_view x.0 y.0) refl (same_bytes k x.0) refl (same_bytes k y.0) refl (find_put k x r)
    where
      none_above : Less x.0 y.0 → same_bytes k x.0 ≡ true → find k (y ∷ ys) ≡ None
      none_above h q = subst (λ (j : Bytes). find j (y ∷ ys) ≡ None) (sym (same_bytes_true k x.0 q)) (rw (less_apart h, find) (find_above h a))

      go : (o : Ordering) → OrderView x.0 y.0 o → order_bytes x.0 y.0 ≡ o → (b : Bool) → same_bytes k x.0 ≡ b → (c : Bool) →
          same_bytes k y.0 ≡ c → find k (put x ys) ≡ or_earlier (find k ys) (hit k x) →
          find k (put x (y ∷ ys)) ≡ or_earlier (find k (y ∷ ys)) (hit k x)
      go o (is_lt h) e true q c p below = rw (e, put, none_above h q, q, find)
      go o (is_lt h) e false q c p below = rw (e, put, q, find) (sym (or_none (find k (y ∷ ys))))
      go o (is_eq' h) e b q true p below = rw (e, put, p, find)
      go o (is_eq' h) e b q false p below = let z : same_bytes k x.0 ≡ false = ap (same_bytes k) h ∙ p in rw (e, put, z) (sym (or_none (find k (y ∷ ys))))
      go o (is_gt h) e b q true p below = rw (e, put, p, find)
      go o (is_gt h) e b q false p below = rw (e, put, p, find) below

  find_in_order : (k : Bytes) (xs : List (Bytes × A)) → find k (in_order xs) ≡ find_last k xs
  unfolding in_order find_last find
  find_in_order k [] = refl
  find_in_order k (x ∷ xs) = find_put k x (in_order_ascending xs) ∙ ap (λ (o : Option A). or_earlier o (hit k x)) (find_in_order k xs)

-- the loop from k on: what is found further on, or what was found before
pub record Picking (s : Bytes) (t : List ℕ) (key : Bytes) (n e : ℕ) (found : Option ℕ) (k : ℕ) : Type 0 where
  pub members : HasMembers s t k e
  pub node : FoundNode s t found
  pub rest : find key (entries (fields_of s t n)) ≡ or_earlier (find_last key (each_sorted (entries (members_at s t k e)))) (found_tree s t found)

-- the node that the loop has found so far, 0 for none
abbrev pub found_so_far : ℕ → Option ℕ
found_so_far zero = None
found_so_far (suc n) = Some (suc n)

pub found_none : (n : ℕ) → n ≡ 0 → None ≡ found_so_far n
found_none zero q = refl
found_none (suc n) q = absurd (omega (arith, q))

pub found_some : (n : ℕ) → (n ≡ 0 → ⊥) → Some n ≡ found_so_far n
found_some zero f = absurd (f refl)
found_some (suc n) f = refl

module _ {s : Bytes} {t : List ℕ} {key : Bytes} {n : ℕ} where
  pub picking : HasKind s t n 6 → (e : ℕ) → e ≡ after_at t n → Picking s t key n e None (n + 1)
  unfolding FoundNode found_tree fields_of
  picking h e q = rw q record {
    members = (object_row h).members;
    node = tt;
    rest = ap (find key) (entries_sorted (members_at s t (n + 1) (after_at t n))) ∙ find_in_order key _ ∙ sym (or_none _);
  }

  module _ {e k : ℕ} {found : Option ℕ} (l : Picking s t key n e found k) where
    pub picked : e ≤ k → MemberTold s t key n found
    unfolding find_last each_sorted
    picked h = record { is = l.rest ∙ rw (members_done s t l.members.members h); node = l.node }

    module _ (h : k < e) where
      m : MoreMembers s t l.members.left k e
      m = members_more s t l.members.members h

      pub name_there : {a : ℕ} → a ≡ start_at t k → OnText s a 0
      name_there {a} q = subst (λ (x : ℕ). OnText s x 0) (sym q) (record { stop = end_at t k; text = m.name; few = omega arith })

      pub room_there : k + 1 < 4096
      room_there = omega (arith, l.members.members.most, m.past, m.upto)

      pub pick_falls : {k' : ℕ} → k' ≡ after_at t (k + 1) → (k < k') × (k' ≤ e)
      pick_falls q = (omega (arith, m.past), omega (arith, m.upto))

      one_more : find key (entries (fields_of s t n)) ≡
          or_earlier (find_last key (each_sorted (entries (members_at s t (after_at t (k + 1)) e))))
          (or_earlier (hit key (text_at s (start_at t k), tree s t (k + 1))) (found_tree s t found))
      unfolding find_last each_sorted tree
      one_more =
          l.rest ∙
          rw m.value
          (or_assoc (find_last key (each_sorted (entries (members_at s t (after_at t (k + 1)) e))))
          (hit key (text_at s (start_at t k), tree s t (k + 1))) (found_tree s t found))

      keys_left : {k' : ℕ} → k' ≡ after_at t (k + 1) → HasMembers s t k' e
      keys_left r = rw r record { left = l.members.left; members = m.others }

      pub pick_here : {a k' : ℕ} → a ≡ start_at t k → same_bytes key (text_at s a) ≡ true → k' ≡ after_at t (k + 1) → Picking s t key n e (Some (k + 1)) k'
      unfolding FoundNode found_tree
      pick_here {a} p q r =
          let e' : same_bytes key (text_at s (start_at t k)) ≡ true = subst (λ (x : ℕ). same_bytes key (text_at s x) ≡ true) p q in
          record { members = keys_left r; node = record { left = l.members.left; is_node = m.here }; rest = rw r (one_more ∙ rw e') }

      pub pick_on : {a k' : ℕ} → a ≡ start_at t k → same_bytes key (text_at s a) ≡ false → k' ≡ after_at t (k + 1) → Picking s t key n e found k'
      pick_on {a} p q r =
          let e' : same_bytes key (text_at s (start_at t k)) ≡ false = subst (λ (x : ℕ). same_bytes key (text_at s x) ≡ false) p q in
          record { members = keys_left r; node = l.node; rest = rw r (one_more ∙ rw e') }

-- the next turn of the loop, by what was chosen in it
pub pick_next : {s : Bytes} {t : List ℕ} {key : Bytes} {n e k : ℕ} (found : ℕ) → Picking s t key n e (found_so_far found) k → k < e → {a f k' : ℕ} → a ≡ start_at t k →
    f ≡ cond (same_bytes key (text_at s a)) (k + 1) found → k' ≡ after_at t (k + 1) → Picking s t key n e (found_so_far f) k'
pick_next {s} {t} {key} {n} {e} {k} found l h {a} {f} {k'} p q r = go (same_bytes key (text_at s a)) refl
  where
    at : (b : Bool) → same_bytes key (text_at s a) ≡ b → f ≡ cond b (k + 1) found
    at b x = q ∙ rw x

    go : (b : Bool) → same_bytes key (text_at s a) ≡ b → Picking s t key n e (found_so_far f) k'
    go true x = rw (at true x, ← found_some (k + 1) (λ z. omega (arith, z))) (pick_here l h p x r)
    go false x = rw (at false x) (pick_on l h p x r)
