-- The printed names are the set of the names met: each once, ascending. Two gatherings with the same names print the same.
-- Assumes nothing.
use mathlib.Core.Bool.{Bool, false, true, true≢false}
use mathlib.Core.List.Memᴰ
use mathlib.Core.List.{Memᴰ, [], ◌∷◌}
use mathlib.Core.Logic.{inl, inr, ⊎_elim, ◌⊎◌, ◌↔◌}
use mathlib.Core.Path.{refl, subst, sym, ◌∙◌, ◌≡◌}
use Prim.Native.Nat.{Ordering}
use Rattle.semantics.specs.Names.{Ascends, Named, Names, ascending, follow, insert_name, none_follow}
use Rattle.json_text.proofs.Laws.{order_bytes_eq}
use Rattle.json_text.proofs.Sorted.{Less, less_order, less_trans, same_order, OrderView, is_eq', is_gt, is_lt, order_view}
use Rattle.json_text.specs.Bytes.{Bytes, order_bytes}

-- names keep their members when they are put in order
pub insert_name_here : (n : Bytes) (ms : Names) → Memᴰ n (insert_name n ms)
unfolding insert_name
insert_name_here n [] = Memᴰ.head refl
insert_name_here n (m ∷ ms) = go (insert_name_here n ms) (order_bytes n m) refl
  where
    go : Memᴰ n (insert_name n ms) → (o : Ordering) → order_bytes n m ≡ o → Memᴰ n (insert_name n (m ∷ ms))
    go below Ordering.lt q = rw (q, insert_name) (Memᴰ.head refl)
    go below Ordering.eq q = rw (q, insert_name) (Memᴰ.head (order_bytes_eq n m q))
    go below Ordering.gt q = rw (q, insert_name) (Memᴰ.tail below)

pub insert_name_there : (n x : Bytes) (ms : Names) → Memᴰ x ms → Memᴰ x (insert_name n ms)
unfolding insert_name
insert_name_there n x [] h = elim h [ ]
insert_name_there n x (m ∷ ms) h = go (λ h'. insert_name_there n x ms h') (order_bytes n m) refl h
  where
    go : (Memᴰ x ms → Memᴰ x (insert_name n ms)) → (o : Ordering) → order_bytes n m ≡ o → Memᴰ x (m ∷ ms) → Memᴰ x (insert_name n (m ∷ ms))
    go below Ordering.lt q h' = rw (q, insert_name) (Memᴰ.tail h')
    go below Ordering.eq q h' = rw (q, insert_name) h'
    go below Ordering.gt q (Memᴰ.head e) = rw (q, insert_name) (Memᴰ.head e)
    go below Ordering.gt q (Memᴰ.tail d) = rw (q, insert_name) (Memᴰ.tail (below d))

pub ascending_mem : (x : Bytes) (ms : Names) → Memᴰ x ms → Memᴰ x (ascending ms)
unfolding ascending
ascending_mem x [] h = elim h [ ]
ascending_mem x (m ∷ ms) (Memᴰ.head e) = subst (λ y. Memᴰ y (insert_name m (ascending ms))) (sym e) (insert_name_here m (ascending ms))
ascending_mem x (m ∷ ms) (Memᴰ.tail d) = insert_name_there m x (ascending ms) (ascending_mem x ms d)

-- and get no others
insert_name_only : (n x : Bytes) (ms : Names) → Named x (insert_name n ms) → (x ≡ n) ⊎ Named x ms
unfolding insert_name
insert_name_only n x [] h = Memᴰ.cases_cons h
insert_name_only n x (m ∷ ms) h = go (λ h'. insert_name_only n x ms h') (order_bytes n m) refl h
  where
    go : (Named x (insert_name n ms) → (x ≡ n) ⊎ Named x ms) → (o : Ordering) → order_bytes n m ≡ o → Named x (insert_name n (m ∷ ms)) → (x ≡ n) ⊎ Named x (m ∷ ms)
    go below Ordering.lt q h' = Memᴰ.cases_cons (rw (q, insert_name) at h')
    go below Ordering.eq q h' = inr (rw (q, insert_name) at h')
    go below Ordering.gt q h' =
        ⊎_elim (λ e. inr (Memᴰ.head e)) (λ d. ⊎_elim (λ e. inl e) (λ k. inr (Memᴰ.tail k)) (below d))
        (Memᴰ.cases_cons (rw (q, insert_name) at h'))

ascending_only : (x : Bytes) (ms : Names) → Named x (ascending ms) → Named x ms
unfolding ascending
ascending_only x [] h = h
ascending_only x (m ∷ ms) h = ⊎_elim (λ e. Memᴰ.head e) (λ d. Memᴰ.tail (ascending_only x ms d)) (insert_name_only m x (ascending ms) h)

less_of : (s t : Bytes) → order_bytes s t ≡ Ordering.lt → Less s t
less_of s t e = go (order_bytes s t) e (order_view s t)
  where
    go : (o : Ordering) → o ≡ Ordering.lt → OrderView s t o → Less s t
    go o q (is_lt l) = l
    go o q (is_eq' p) = let z : ◌≡◌ {A = Bool} true false = cc in absurd (true≢false z)
    go o q (is_gt l) = let z : ◌≡◌ {A = Bool} true false = cc in absurd (true≢false z)

insert_name_ascends : (n : Bytes) (ms : Names) → Ascends ms → Ascends (insert_name n ms)
unfolding insert_name
insert_name_ascends n [] h = follow {n = n} {ms = []} (λ m k. elim k [ ]) none_follow
insert_name_ascends n (m ∷ ms) (follow above h) = go (insert_name_ascends n ms h) (order_bytes n m) refl (order_view n m)
  where
    here : Less n m → (x : Bytes) → Named x (m ∷ ms) → Less n x
    here l x k = ⊎_elim (λ e. rw e l) (λ d. less_trans l (less_of m x (above x d))) (Memᴰ.cases_cons k)

    further : Less m n → (x : Bytes) → Named x (insert_name n ms) → Less m x
    further l x k = ⊎_elim (λ e. rw e l) (λ d. less_of m x (above x d)) (insert_name_only n x ms k)

    go : Ascends (insert_name n ms) → (o : Ordering) → order_bytes n m ≡ o → OrderView n m o → Ascends (insert_name n (m ∷ ms))
    go below o q (is_lt l) = rw (q, insert_name) (follow {n = n} {ms = m ∷ ms} (λ x k. less_order (here l x k)) (follow {n = m} {ms = ms} above h))
    go below o q (is_eq' e) = rw (q, insert_name) (follow {n = m} {ms = ms} above h)
    go below o q (is_gt l) = rw (q, insert_name) (follow {n = m} {ms = insert_name n ms} (λ x k. less_order (further l x k)) below)

ascending_ascends : (ms : Names) → Ascends (ascending ms)
unfolding ascending
ascending_ascends [] = none_follow
ascending_ascends (m ∷ ms) = insert_name_ascends m (ascending ms) (ascending_ascends ms)

never_less : {X : Type 0} (s : Bytes) → Less s s → X
never_less s h = let p = less_order h in let q = same_order s in let z : ◌≡◌ {A = Bool} true false = cc in absurd (true≢false z)

abbrev Covers : Names → Names → Type 0
Covers ms ns = (x : Bytes) → Named x ms → Named x ns

-- an ascending list is told by its names
ascends_same : (ms ns : Names) → Ascends ms → Ascends ns → Covers ms ns → Covers ns ms → ms ≡ ns
ascends_same [] [] a b f g = refl
ascends_same [] (n ∷ ns) a b f g = elim (g n (Memᴰ.head refl)) [ ]
ascends_same (m ∷ ms) [] a b f g = elim (f m (Memᴰ.head refl)) [ ]
ascends_same (m ∷ ms) (n ∷ ns) (follow above a) (follow over b) f g =
    by
    (λ h k. ascends_same ms ns a b h k)
    (Memᴰ.cases_cons (f m (Memᴰ.head refl)))
    (Memᴰ.cases_cons (g n (Memᴰ.head refl)))
  where
    -- a name that is not the first is among the rest
    rest : {X : Type 0} (k l x : Bytes) → k ≡ l → Less k x → (x ≡ l) ⊎ X → X
    rest k l x e less (inl p) = never_less x (subst (λ y. Less y x) (e ∙ sym p) less)
    rest k l x e less (inr d) = d

    heads : (Covers ms ns → Covers ns ms → ms ≡ ns) → m ≡ n → m ∷ ms ≡ n ∷ ns
    heads below e =
        let tails = below (λ x k. rest m n x e (less_of m x (above x k)) (Memᴰ.cases_cons (f x (Memᴰ.tail k))))
        (λ x k. rest n m x (sym e) (less_of n x (over x k)) (Memᴰ.cases_cons (g x (Memᴰ.tail k)))) in
        cc

    by : (Covers ms ns → Covers ns ms → ms ≡ ns) → (m ≡ n) ⊎ Named m ns → (n ≡ m) ⊎ Named n ms → m ∷ ms ≡ n ∷ ns
    by below (inl e) q = heads below e
    by below (inr d) (inl e) = heads below (sym e)
    by below (inr d) (inr k) = never_less m (less_trans (less_of m n (above n k)) (less_of n m (over m d)))

-- The printed names are the names met, each once, ascending.
pub printed_names : (ns : Names) → ((x : Bytes) → Named x (ascending ns) ↔ Named x ns) × Ascends (ascending ns)
printed_names ns = (λ x. (ascending_only x ns, ascending_mem x ns), ascending_ascends ns)

-- The printed names depend on the set of names only.
pub ascending_set : (ms ns : Names) → ((x : Bytes) → Named x ms ↔ Named x ns) → ascending ms ≡ ascending ns
ascending_set ms ns h =
    ascends_same
    (ascending ms)
    (ascending ns)
    (ascending_ascends ms)
    (ascending_ascends ns)
    (λ x k. ascending_mem x ns ((h x).0 (ascending_only x ms k)))
    (λ x k. ascending_mem x ms ((h x).1 (ascending_only x ns k)))
