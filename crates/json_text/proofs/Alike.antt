-- Two values that are alike, members in any order, are one value once their members are sorted, where no name stands twice.
-- Assumes nothing.
use mathlib.Core.Bool.{Bool, false, false≢true, not, true, ◌&&◌}
use mathlib.Core.Logic.{inl, inr, ◌⊎◌, ◌≢◌}
use mathlib.Core.Path.{ap, refl, sym, ◌∙◌, ◌≡◌}
use Prim.Native.Nat.{Ordering, ℕ}
use Rattle.json_text.proofs.Laws.{both_true, same_bytes_refl, same_bytes_true}
use Rattle.json_text.proofs.Sorted.{Less, OrderView, is_eq', is_gt, is_lt, less_order, less_trans, more_order, order_view, same_order}
use Rattle.json_text.specs.Alike.{
  Alike,
  AlikeIn,
  AlikeOf,
  Among,
  both_array,
  both_bool,
  both_null,
  both_number,
  both_object,
  both_text,
  further,
  here,
  no_element,
  no_member,
  one_element,
  one_member,
}
use Rattle.json_text.specs.Bytes.{Bytes, is_one_of, order_bytes, same_bytes}
use Rattle.json_text.specs.Json.{Members, Value, Values, array, empty, keys, member, object}
use Rattle.json_text.specs.Limits.{tidy, tidy_in, tidy_of}
use Rattle.json_text.specs.Sorted.{insert, sorted, sorted_in, sorted_of}

-- where a member goes, by its name
module _ (k l : Bytes) (v w : Value) (ms : Members) where
  insert_before : Less k l → insert k v (member l w ms) ≡ member k v (member l w ms)
  unfolding order_bytes
  insert_before h = rw (less_order h, insert) refl

  insert_same : k ≡ l → insert k v (member l w ms) ≡ member l w ms
  unfolding order_bytes
  insert_same e = rw (e, insert, same_order l) refl

  insert_behind : Less l k → insert k v (member l w ms) ≡ member l w (insert k v ms)
  unfolding order_bytes
  insert_behind h = rw (more_order h, insert) refl

tri : (k l : Bytes) → Less k l ⊎ ((k ≡ l) ⊎ Less l k)
tri k l = go (order_bytes k l) (order_view k l)
  where
    go : (o : Ordering) → OrderView k l o → Less k l ⊎ ((k ≡ l) ⊎ Less l k)
    go o (is_lt h) = inl h
    go o (is_eq' e) = inr (inl e)
    go o (is_gt h) = inr (inr h)

-- two members of different names, in either order
module _ (k l : Bytes) (v w : Value) where
  swap_front : (ms : Members) → Less k l → insert l w ms ≡ member l w ms → insert k v ms ≡ member k v ms → insert k v (insert l w ms) ≡ insert l w (insert k v ms)
  swap_front ms h p q = ap (insert k v) p ∙ insert_before k l v w ms h ∙ ap (member k v) (sym p) ∙ sym (insert_behind l k w v ms h) ∙ ap (insert l w) (sym q)

  -- k goes before j, and l goes no further than j
  swap_apart : (j : Bytes) (x : Value) (ms ns : Members) → Less k j → Less k l → insert l w (member j x ms) ≡ member j x ns →
      insert k v (insert l w (member j x ms)) ≡ insert l w (insert k v (member j x ms))
  swap_apart j x ms ns a h p =
      ap (insert k v) p ∙
      insert_before k j v x ns a ∙
      ap (member k v) (sym p) ∙
      sym (insert_behind l k w v (member j x ms) h) ∙
      ap (insert l w) (sym (insert_before k j v x ms a))

  -- k stands there, and l goes behind it
  swap_there : (j : Bytes) (x : Value) (ms : Members) → k ≡ j → Less j l → insert k v (insert l w (member j x ms)) ≡ insert l w (insert k v (member j x ms))
  swap_there j x ms e b =
      ap (insert k v) (insert_behind l j w x ms b) ∙
      insert_same k j v x (insert l w ms) e ∙
      sym (insert_behind l j w x ms b) ∙
      ap (insert l w) (sym (insert_same k j v x ms e))

  swap_behind : (j : Bytes) (x : Value) (ms : Members) → Less j k → Less j l → insert k v (insert l w ms) ≡ insert l w (insert k v ms) →
      insert k v (insert l w (member j x ms)) ≡ insert l w (insert k v (member j x ms))
  swap_behind j x ms a b below =
      ap (insert k v) (insert_behind l j w x ms b) ∙
      insert_behind k j v x (insert l w ms) a ∙
      ap (member j x) below ∙
      sym (insert_behind l j w x (insert k v ms) b) ∙
      ap (insert l w) (sym (insert_behind k j v x ms a))

-- whichever comes first
swap : (k l : Bytes) (v w : Value) (ms : Members) → k ≢ l → insert k v (insert l w ms) ≡ insert l w (insert k v ms)
unfolding order_bytes
swap k l v w empty d = by (tri k l)
  where
    by : Less k l ⊎ ((k ≡ l) ⊎ Less l k) → insert k v (insert l w empty) ≡ insert l w (insert k v empty)
    by (inl h) = swap_front k l v w empty h refl refl
    by (inr (inl e)) = absurd (d e)
    by (inr (inr h)) = sym (swap_front l k w v empty h refl refl)
swap k l v w (member j x ms) d = by (swap k l v w ms d) (tri k j) (tri l j)
  where
    front : Less k j → Less l j → Less k l ⊎ ((k ≡ l) ⊎ Less l k) → insert k v (insert l w (member j x ms)) ≡ insert l w (insert k v (member j x ms))
    front a b (inl h) = swap_front k l v w (member j x ms) h (insert_before l j w x ms b) (insert_before k j v x ms a)
    front a b (inr (inl e)) = absurd (d e)
    front a b (inr (inr h)) = sym (swap_front l k w v (member j x ms) h (insert_before k j v x ms a) (insert_before l j w x ms b))

    by : insert k v (insert l w ms) ≡ insert l w (insert k v ms) → Less k j ⊎ ((k ≡ j) ⊎ Less j k) → Less l j ⊎ ((l ≡ j) ⊎ Less j l) →
        insert k v (insert l w (member j x ms)) ≡ insert l w (insert k v (member j x ms))
    by below (inl a) (inl b) = front a b (tri k l)
    by below (inl a) (inr (inl f)) = swap_apart k l v w j x ms ms a (rw f a) (insert_same l j w x ms f)
    by below (inl a) (inr (inr b)) = swap_apart k l v w j x ms (insert l w ms) a (less_trans a b) (insert_behind l j w x ms b)
    by below (inr (inl e)) (inl b) = sym (swap_apart l k w v j x ms ms b (rw e b) (insert_same k j v x ms e))
    by below (inr (inl e)) (inr (inl f)) = absurd (d (e ∙ sym f))
    by below (inr (inl e)) (inr (inr b)) = swap_there k l v w j x ms e b
    by below (inr (inr a)) (inl b) = sym (swap_apart l k w v j x ms (insert k v ms) b (less_trans b a) (insert_behind k j v x ms a))
    by below (inr (inr a)) (inr (inl f)) = sym (swap_there l k w v j x ms f a)
    by below (inr (inr a)) (inr (inr b)) = swap_behind k l v w j x ms a b below

-- a name that is none of these
module _ (k l : Bytes) (v : Value) (ms : Members) (e : is_one_of k (keys (member l v ms)) ≡ false) where
  not_first : k ≢ l
  unfolding is_one_of
  not_first p = false≢true (sym e ∙ rw (p, is_one_of, same_bytes_refl l) refl)

  not_rest : is_one_of k (keys ms) ≡ false
  unfolding is_one_of
  not_rest = go (same_bytes k l) refl
    where
      go : (b : Bool) → same_bytes k l ≡ b → is_one_of k (keys ms) ≡ false
      go true q = absurd (not_first (same_bytes_true k l q))
      go false q = rw (q, is_one_of) at e

-- a member put anywhere is sorted as one put first
among_sorted : (k : Bytes) (w : Value) (ms ns : Members) → Among k w ms ns → is_one_of k (keys ms) ≡ false → sorted_of ns ≡ insert k (sorted w) (sorted_of ms)
unfolding sorted
among_sorted k w ms ns here e = refl
among_sorted k w ms ns (further {l} {x} {ms = as'} {ns = bs} a) e =
    ap (insert l (sorted x)) (among_sorted k w as' bs a (not_rest k l x as' e)) ∙
    swap l k (sorted x) (sorted w) (sorted_of as') (λ p. not_first k l x as' e (sym p))

-- and is none of the names on the other side
none_of : (k l : Bytes) (v : Value) (ms : Members) → k ≢ l → is_one_of k (keys ms) ≡ false → is_one_of k (keys (member l v ms)) ≡ false
unfolding is_one_of
none_of k l v ms d e = go (same_bytes k l) refl
  where
    go : (b : Bool) → same_bytes k l ≡ b → is_one_of k (keys (member l v ms)) ≡ false
    go true q = absurd (d (same_bytes_true k l q))
    go false q = rw (q, is_one_of) e

none_among : (k j : Bytes) (w : Value) (ms ns : Members) → Among j w ms ns → k ≢ j → is_one_of k (keys ms) ≡ false → is_one_of k (keys ns) ≡ false
none_among k j w ms ns here d e = none_of k j w ms d e
none_among k j w ms ns (further {l} {x} {ms = as'} {ns = bs} a) d e = none_of k l x bs (not_first k l x as' e) (none_among k j w as' bs a d (not_rest k l x as' e))

none_alike : (k : Bytes) (ms ns : Members) → AlikeOf ms ns → is_one_of k (keys ms) ≡ false → is_one_of k (keys ns) ≡ false
none_alike k ms ns no_member e = e
none_alike k ms ns (one_member {k = j} {v} {w} {ms = as'} {ns = bs} {ns'} a h p) e =
    none_among k j w bs ns' p (not_first k j v as' e) (none_alike k as' bs h (not_rest k j v as' e))

-- what tidy says of the parts
not_true : (b : Bool) → not b ≡ true → b ≡ false
not_true true h = absurd (false≢true h)
not_true false h = refl

mutual
  unfolding sorted tidy

  pub alike_sorted : (limit : ℕ) (v w : Value) → Alike v w → tidy limit v ≡ true → sorted v ≡ sorted w
  alike_sorted limit v w both_null t = refl
  alike_sorted limit v w both_bool t = refl
  alike_sorted limit v w both_number t = refl
  alike_sorted limit v w both_text t = refl
  alike_sorted limit v w (both_array {vs} {ws} h) t = ap array (alike_sorted_in limit vs ws h t)
  alike_sorted limit v w (both_object {ms} {ns} h) t = ap object (alike_sorted_of limit ms ns h t)

  alike_sorted_in : (limit : ℕ) (vs ws : Values) → AlikeIn vs ws → tidy_in limit vs ≡ true → sorted_in vs ≡ sorted_in ws
  alike_sorted_in limit vs ws no_element t = refl
  alike_sorted_in limit vs ws (one_element {v} {w} {vs = xs} {ws = ys} a h) t =
      let p = both_true (tidy limit v) (tidy_in limit xs) t in
      let x = alike_sorted limit v w a p.0 in
      let y = alike_sorted_in limit xs ys h p.1 in
      cc

  alike_sorted_of : (limit : ℕ) (ms ns : Members) → AlikeOf ms ns → tidy_of limit ms ≡ true → sorted_of ms ≡ sorted_of ns
  alike_sorted_of limit ms ns no_member t = refl
  alike_sorted_of limit ms ns (one_member {k} {v} {w} {ms = as'} {ns = bs} {ns'} a h p) t =
      let q = both_true (not (is_one_of k (keys as'))) (tidy limit v && tidy_of limit as') t in
      let r = both_true (tidy limit v) (tidy_of limit as') q.1 in
      let x = alike_sorted limit v w a r.0 in
      let y = alike_sorted_of limit as' bs h r.1 in
      ap (λ (z : Value). insert k z (sorted_of as')) x ∙
      ap (insert k (sorted w)) y ∙
      sym (among_sorted k w bs ns' p (none_alike k as' bs h (not_true (is_one_of k (keys as')) q.0)))
