-- The reader's two loops, an array's elements and an object's members: an invariant that says the whole by what is left to read, and a law for each turn.
-- Assumes nothing.
use mathlib.Core.Bool.{Bool, false, true}
use mathlib.Core.List.{List, append_assoc, append-nil, [], ◌++◌, ◌∷◌}
use mathlib.Core.Path.{ap, refl, sym, ◌∙◌, ◌≡◌}
use Prim.Native.Nat.{suc, zero, ℕ, ◌*◌, ◌+◌, ◌-◌, ◌<◌, ◌≤◌}
use native.Mathlib.Nat.{add_assoc, add-zero}
use native.Mathlib.Omega.{arith}
use lib.ListN.{get_or-eq_default, drop, get_or, length, length-drop}
use Rattle.json_text.proofs.Laws.{bind_ok}
use Rattle.tokens.proofs.Scans.{byte_is}
use Rattle.json_text.specs.Bytes.{Bytes, choose, is_one_of, same_bytes}
use Rattle.json_text.specs.Json.{keys}
use Rattle.json_text.specs.Limits.{max_nodes}
use Rattle.json_text.specs.Placing.{Placed, Placer, Sep, arr_at, chars_at, ends, fields_at, goes_on, items_at, neither, obj_at, read_at, read_with, sep, skip_at}
use Rattle.json_text.specs.Reader.{new_name, one_node, start}
use Rattle.json_text.specs.Refusal.{Refusal, Result, not_json, ok, refused, repeated_name, too_many_nodes, ◌>>=◌}
use Rattle.json_text.specs.Spans.{Fields, Node, Nodes, arr, erase_of, field, no_field, no_node, node, obj, size, size_in, size_of, text_at}
use Rattle.json_text.specs.Table.{rows, rows_in, rows_of}
use borrow.Author.Tests.{eq-eqb, le-ltb, lt-ltb, ne_eqb}

-- ---- one more at the end
unfoldable pub joined : Nodes → Nodes → Nodes
joined no_node us = us
joined (node t ts) us = node t (joined ts us)

pub joined_more : (ts : Nodes) (t : Node) (us : Nodes) → joined ts (node t us) ≡ joined (joined ts (node t no_node)) us
unfolding joined
joined_more no_node t us = refl
joined_more (node x ts) t us = ap (node x) (joined_more ts t us)

pub size_in_more : (ts : Nodes) (t : Node) → size_in (joined ts (node t no_node)) ≡ size_in ts + size t
unfolding joined size_in
size_in_more no_node t = omega arith
size_in_more (node x ts) t = omega (arith, size_in_more ts t)

pub rows_in_more : (ts : Nodes) (t : Node) (n : ℕ) → rows_in (joined ts (node t no_node)) n ≡ rows_in ts n ++ rows t (n + size_in ts)
unfolding joined rows_in size_in
rows_in_more no_node t n = append-nil (rows t n) ∙ rw add-zero
rows_in_more (node x ts) t n = ap (λ (r : List ℕ). rows x n ++ r) (rows_in_more ts t (n + size x)) ∙ rw (append_assoc, add_assoc)

-- ---- an array's elements
unfoldable pub closes : ℕ → Nodes → Result (Placed Nodes) → Result (Placed Node)
closes at ts (ok p) = ok (record { tree = arr at p.place (joined ts p.tree); place = p.place; count = p.count })
closes at ts (refused r) = refused r

-- before an element at `here`: ts were read, and n nodes are in use
pub record Reading (s : Bytes) (val : Placer Node) (at : ℕ) (whole : Result (Placed Node)) (ts : Nodes) (here n : ℕ) : Type 0 where
  pub fuel : ℕ
  pub enough : length s ≤ fuel + here
  pub rest : whole ≡ closes at ts (items_at s val fuel n here)

-- the value at the sheet's end, or past it, is none
pub past_end : (left : ℕ) (s : Bytes) (n here : ℕ) → length s ≤ here → read_at left s n here ≡ refused not_json
unfolding read_at
past_end left s n here h = go left
  where
    none : start (get_or s here 0) ≡ start 0
    none = ap start (get_or-eq_default s 0 h)

    go : (l : ℕ) → read_at l s n here ≡ refused not_json
    go zero = rw (none, read_with)
    go (suc l) = rw (none, read_with)

sep_on : (end c : ℕ) → c ≡ 44 → sep end c ≡ goes_on
sep_on end c e = rw (eq-eqb c 44 e, choose)

sep_end : (end c : ℕ) → c ≡ end → (end ≡ 44 → ⊥) → sep end c ≡ ends
sep_end end c e f = rw (ne_eqb c 44 (λ q. f (sym e ∙ q)), eq-eqb c end e, choose)

sep_none : (end c : ℕ) → (c ≡ 44 → ⊥) → (c ≡ end → ⊥) → sep end c ≡ neither
sep_none end c f g = rw (ne_eqb c 44 f, ne_eqb c end g, choose)

module _ {s : Bytes} {val : Placer Node} {at : ℕ} {whole : Result (Placed Node)} {ts : Nodes} {here n : ℕ} (l : Reading s val at whole ts here n) where
  -- the element was refused; past the sheet's end it always is
  pub item_refused : (r : Refusal) → val n here ≡ refused r → (length s ≤ here → r ≡ not_json) → whole ≡ refused r
  unfolding items_at closes
  item_refused r e f = l.rest ∙ go l.fuel l.enough
    where
      go : (m : ℕ) → length s ≤ m + here → closes at ts (items_at s val m n here) ≡ refused r
      go zero h = ap {B = Result (Placed Node)} refused (sym (f (omega arith)))
      go (suc m) h = rw (e)

  module _ (v : Placed Node) (is_v : val n here ≡ ok v) (inside : here < length s) (forward : here < v.place) where
    -- what follows the element
    After : ℕ → Sep → Result (Placed Nodes)
    After m x =
        elim
        x [
          | goes_on ↦
              (items_at s val m v.count (skip_at s (skip_at s v.place + 1)) >>= λ vs. ok (record { tree = node v.tree vs.tree; place = vs.place; count = vs.count }))
          | ends ↦
              ok (record { tree = node v.tree no_node; place = skip_at s v.place + 1; count = v.count })
          | neither ↦
              refused not_json
        ]

    opened : (m : ℕ) (x : Sep) → sep 93 (get_or s (skip_at s v.place) 0) ≡ x → closes at ts (items_at s val (suc m) n here) ≡ closes at ts (After m x)
    unfolding items_at After
    opened m x e = ap (closes at ts) (bind_ok _ is_v ∙ ap (After m) e)

    pub item_ends : get_or s (skip_at s v.place) 0 ≡ 93 → whole ≡
        ok
        (record {
          tree = arr at (skip_at s v.place + 1) (joined ts (node v.tree no_node));
          place = skip_at s v.place + 1;
          count = v.count;
        })
    unfolding After closes
    item_ends e = l.rest ∙ go l.fuel l.enough
      where
        go : (m : ℕ) → length s ≤ m + here → closes at ts (items_at s val m n here) ≡
            ok
            (record {
              tree = arr at (skip_at s v.place + 1) (joined ts (node v.tree no_node));
              place = skip_at s v.place + 1;
              count = v.count;
            })
        go zero h = absurd (omega arith)
        go (suc m) h = opened m ends (sep_end 93 _ e (λ q. omega arith))

    pub item_fails : (get_or s (skip_at s v.place) 0 ≡ 44 → ⊥) → (get_or s (skip_at s v.place) 0 ≡ 93 → ⊥) → whole ≡ refused not_json
    unfolding After closes
    item_fails f g = l.rest ∙ go l.fuel l.enough
      where
        go : (m : ℕ) → length s ≤ m + here → closes at ts (items_at s val m n here) ≡ refused not_json
        go zero h = absurd (omega arith)
        go (suc m) h = opened m neither (sep_none 93 _ f g)

    pub item_on : get_or s (skip_at s v.place) 0 ≡ 44 → here < skip_at s (skip_at s v.place + 1) →
        Reading s val at whole (joined ts (node v.tree no_node)) (skip_at s (skip_at s v.place + 1)) v.count
    unfolding After closes
    item_on e past = go l.fuel l.enough l.rest
      where
        more : (x : Result (Placed Nodes)) → closes at ts
            (x >>= λ vs. ok (record { tree = node v.tree vs.tree; place = vs.place; count = vs.count })) ≡
            closes at (joined ts (node v.tree no_node)) x
        more (ok vs) = rw (joined_more ts v.tree vs.tree)
        more (refused r) = refl

        go : (m : ℕ) → length s ≤ m + here → whole ≡ closes at ts (items_at s val m n here) →
            Reading s val at whole (joined ts (node v.tree no_node)) (skip_at s (skip_at s v.place + 1)) v.count
        go zero h q = absurd (omega arith)
        go (suc m) h q = record { fuel = m; enough = omega arith; rest = q ∙ opened m goes_on (sep_on 93 _ e) ∙ more (items_at s val m v.count (skip_at s (skip_at s v.place + 1))) }

-- an array's beginning
module _ (s : Bytes) (val : Placer Node) (n at : ℕ) where
  pub array_full : max_nodes ≤ n → arr_at s val n at ≡ refused too_many_nodes
  unfolding arr_at
  array_full h = rw (le-ltb n max_nodes h, one_node)

  module _ (room : n < max_nodes) where
    pub array_shut : get_or s (skip_at s (at + 1)) 0 ≡ 93 → arr_at s val n at ≡ ok (record { tree = arr at (skip_at s (at + 1) + 1) no_node; place = skip_at s (at + 1) + 1; count = n + 1 })
    unfolding arr_at
    array_shut e = rw (lt-ltb n max_nodes room, one_node, eq-eqb _ 93 e)

    pub array_opens : (get_or s (skip_at s (at + 1)) 0 ≡ 93 → ⊥) → at + 1 ≤ skip_at s (at + 1) → Reading s val at (arr_at s val n at) no_node (skip_at s (at + 1)) (n + 1)
    unfolding arr_at closes joined
    array_opens f past =
        record {
          fuel = length (drop (at + 1) s);
          enough = omega (arith, length-drop (at + 1) s);
          rest = rw (lt-ltb n max_nodes room, one_node, ne_eqb _ 93 f)
              (go (items_at s val (length (drop (at + 1) s)) (n + 1) (skip_at s (at + 1))));
        }
      where
        go : (x : Result (Placed Nodes)) → (x >>= λ vs. ok (record { tree = arr at vs.place vs.tree; place = vs.place; count = vs.count })) ≡ closes at no_node x
        go (ok vs) = refl
        go (refused r) = refl

-- ---- an object's members
unfoldable pub joined_of : Fields → Fields → Fields
joined_of no_field us = us
joined_of (field a e t fs) us = field a e t (joined_of fs us)

pub joined_of_more : (fs : Fields) (a e : ℕ) (t : Node) (us : Fields) → joined_of fs (field a e t us) ≡ joined_of (joined_of fs (field a e t no_field)) us
unfolding joined_of
joined_of_more no_field a e t us = refl
joined_of_more (field b f x fs) a e t us = ap (field b f x) (joined_of_more fs a e t us)

pub size_of_more : (fs : Fields) (a e : ℕ) (t : Node) → size_of (joined_of fs (field a e t no_field)) ≡ size_of fs + (1 + size t)
unfolding joined_of size_of
size_of_more no_field a e t = omega arith
size_of_more (field b f x fs) a e t = omega (arith, size_of_more fs a e t)

pub rows_of_more : (fs : Fields) (a e : ℕ) (t : Node) (n : ℕ) → rows_of (joined_of fs (field a e t no_field)) n ≡ rows_of fs n ++ rows_of (field a e t no_field) (n + size_of fs)
unfolding joined_of rows_of size_of
rows_of_more no_field a e t n = rw add-zero
rows_of_more (field b f x fs) a e t n =
    let q : n + 1 + size x + size_of fs ≡ n + (1 + (size x + size_of fs)) = omega arith in
    ap {B = List ℕ} (λ r. (8 * b + 4) ∷ f ∷ (n + 1) ∷ (rows x (n + 1) ++ r)) (rows_of_more fs a e t (n + 1 + size x)) ∙ rw (append_assoc, q)

one_here : (k x : Bytes) (xs : List Bytes) → same_bytes k x ≡ true → is_one_of k (x ∷ xs) ≡ true
unfolding is_one_of
one_here k x xs e = rw (e, is_one_of)

one_there : (k x : Bytes) (xs : List Bytes) → same_bytes k x ≡ false → is_one_of k (x ∷ xs) ≡ is_one_of k xs
unfolding is_one_of
one_there k x xs e = rw (e, is_one_of)

pub one_more : (k x : Bytes) (xs : List Bytes) → is_one_of k (xs ++ (x ∷ [])) ≡ is_one_of k (x ∷ xs)
one_more k x [] = refl
one_more k x (y ∷ ys) = go (same_bytes k y) (same_bytes k x) refl refl (one_more k x ys)
  where
    go : (a b : Bool) → same_bytes k y ≡ a → same_bytes k x ≡ b → is_one_of k (ys ++ (x ∷ [])) ≡ is_one_of k (x ∷ ys) →
        is_one_of k (y ∷ (ys ++ (x ∷ []))) ≡ is_one_of k (x ∷ y ∷ ys)
    go true true p q below = one_here k y _ p ∙ sym (one_here k x _ q)
    go true false p q below = one_here k y _ p ∙ sym (one_here k y _ p) ∙ sym (one_there k x _ q)
    go false true p q below = one_there k y _ p ∙ below ∙ one_here k x _ q ∙ sym (one_here k x _ q)
    go false false p q below = one_there k y _ p ∙ below ∙ one_there k x _ q ∙ sym (one_there k y _ p) ∙ sym (one_there k x _ q)

one_same : (k x : Bytes) (xs ys : List Bytes) → is_one_of k xs ≡ is_one_of k ys → is_one_of k (x ∷ xs) ≡ is_one_of k (x ∷ ys)
unfolding is_one_of
one_same k x xs ys e = go (same_bytes k x) refl
  where
    go : (b : Bool) → same_bytes k x ≡ b → is_one_of k (x ∷ xs) ≡ is_one_of k (x ∷ ys)
    go true q = rw (q, is_one_of)
    go false q = rw (q, is_one_of) e

pub keys_more : (s : Bytes) (fs : Fields) (a e : ℕ) (t : Node) → keys (erase_of s (joined_of fs (field a e t no_field))) ≡ keys (erase_of s fs) ++ (text_at s a ∷ [])
unfolding joined_of erase_of
keys_more s no_field a e t = refl
keys_more s (field b f x fs) a e t = ap {B = List Bytes} (λ l. text_at s b ∷ l) (keys_more s fs a e t)

unfoldable pub closes_of : ℕ → Fields → Result (Placed Fields) → Result (Placed Node)
closes_of at fs (ok p) = ok (record { tree = obj at p.place (joined_of fs p.tree); place = p.place; count = p.count })
closes_of at fs (refused r) = refused r

-- before a member at `here`: fs were read, and n nodes are in use
pub record Naming (s : Bytes) (val : Placer Node) (at : ℕ) (whole : Result (Placed Node)) (fs : Fields) (here n : ℕ) : Type 0 where
  pub fuel : ℕ
  pub names : List Bytes
  pub enough : length s ≤ fuel + here
  pub rest : whole ≡ closes_of at fs (fields_at s val fuel names n here)
  pub named : (k : Bytes) → is_one_of k names ≡ is_one_of k (keys (erase_of s fs))

pub bind_refused : {A B : Type 0} {x : Result A} {r : Refusal} (f : A → Result B) → x ≡ refused r → (x >>= f) ≡ refused r
bind_refused f e = ap (λ y. y >>= f) e

pub none_left : (n : ℕ) → max_nodes ≤ n → one_node n ≡ refused too_many_nodes
unfolding one_node
none_left n h = rw (le-ltb n max_nodes h, one_node)

pub not_new : (k : Bytes) (names : List Bytes) → is_one_of k names ≡ true → new_name k names [] ≡ refused repeated_name
unfolding new_name
not_new k names e = rw (e, new_name)

module _ {s : Bytes} {val : Placer Node} {at : ℕ} {whole : Result (Placed Node)} {fs : Fields} {here n : ℕ} (l : Naming s val at whole fs here n) where
  -- with a byte here the loop may turn
  by : (x : Result (Placed Fields)) → here < length s → ((m : ℕ) → fields_at s val (suc m) l.names n here ≡ x) → whole ≡ closes_of at fs x
  by x h f = l.rest ∙ go l.fuel l.enough
    where
      go : (m : ℕ) → length s ≤ m + here → closes_of at fs (fields_at s val m l.names n here) ≡ closes_of at fs x
      go zero k = absurd (omega arith)
      go (suc m) k = ap (closes_of at fs) (f m)

  module _ (is_quote : get_or s here 0 ≡ 34) (inside : here < length s) where
    module _ (room : n < max_nodes) where
      counted : one_node n ≡ ok (n + 1)
      unfolding one_node
      counted = rw (lt-ltb n max_nodes room, one_node)

      module _ (e : ℕ) (is_text : chars_at s (here + 1) ≡ ok e) where
        module _ (is_new : is_one_of (text_at s (here + 1)) (keys (erase_of s fs)) ≡ false) where
          fresh : new_name (text_at s (here + 1)) l.names [] ≡ ok []
          unfolding new_name
          fresh = rw (l.named (text_at s (here + 1)) ∙ is_new, new_name)

          module _ (is_colon : get_or s (skip_at s e) 0 ≡ 58) where
            pub value_refused : (r : Refusal) → val (n + 1) (skip_at s (skip_at s e + 1)) ≡ refused r → whole ≡ refused r
            unfolding fields_at closes_of
            value_refused r q =
                by (refused r) inside λ m. bind_ok _ (byte_is 34 s here is_quote) ∙
                bind_ok _ counted ∙
                bind_ok _ is_text ∙
                bind_ok _ fresh ∙
                bind_ok _ (byte_is 58 s (skip_at s e) is_colon) ∙
                bind_refused _ q

            module _ (v : Placed Node) (is_v : val (n + 1) (skip_at s (skip_at s e + 1)) ≡ ok v) where
              AfterOf : ℕ → Sep → Result (Placed Fields)
              AfterOf m x =
                  elim
                  x [
                    | goes_on ↦
                        (fields_at s val m (text_at s (here + 1) ∷ l.names) v.count (skip_at s (skip_at s v.place + 1)) >>= λ us.
                        ok (record { tree = field (here + 1) (e - 1) v.tree us.tree; place = us.place; count = us.count }))
                    | ends ↦
                        ok (record { tree = field (here + 1) (e - 1) v.tree no_field; place = skip_at s v.place + 1; count = v.count })
                    | neither ↦
                        refused not_json
                  ]

              turned : (m : ℕ) (x : Sep) → sep 125 (get_or s (skip_at s v.place) 0) ≡ x → fields_at s val (suc m) l.names n here ≡ AfterOf m x
              unfolding fields_at AfterOf
              turned m x q =
                  bind_ok _ (byte_is 34 s here is_quote) ∙
                  bind_ok _ counted ∙
                  bind_ok _ is_text ∙
                  bind_ok _ fresh ∙
                  bind_ok _ (byte_is 58 s (skip_at s e) is_colon) ∙
                  bind_ok _ is_v ∙
                  ap (AfterOf m) q

              pub member_ends : get_or s (skip_at s v.place) 0 ≡ 125 → whole ≡
                  ok
                  (record {
                    tree = obj at (skip_at s v.place + 1) (joined_of fs (field (here + 1) (e - 1) v.tree no_field));
                    place = skip_at s v.place + 1;
                    count = v.count;
                  })
              unfolding AfterOf closes_of
              member_ends q =
                  by (ok (record { tree = field (here + 1) (e - 1) v.tree no_field; place = skip_at s v.place + 1; count = v.count }))
                  inside λ m. turned m ends (sep_end 125 _ q (λ z. omega arith))

              pub member_fails : (get_or s (skip_at s v.place) 0 ≡ 44 → ⊥) → (get_or s (skip_at s v.place) 0 ≡ 125 → ⊥) → whole ≡ refused not_json
              unfolding AfterOf closes_of
              member_fails f g = by (refused not_json) inside λ m. turned m neither (sep_none 125 _ f g)

              pub member_on : get_or s (skip_at s v.place) 0 ≡ 44 → here < skip_at s (skip_at s v.place + 1) →
                  Naming s val at whole (joined_of fs (field (here + 1) (e - 1) v.tree no_field)) (skip_at s (skip_at s v.place + 1))
                  v.count
              unfolding AfterOf closes_of
              member_on q past = go l.fuel l.enough l.rest
                where
                  more : (x : Result (Placed Fields)) → closes_of at fs
                      (x >>= λ us. ok
                      (record { tree = field (here + 1) (e - 1) v.tree us.tree; place = us.place; count = us.count })) ≡
                      closes_of at (joined_of fs (field (here + 1) (e - 1) v.tree no_field)) x
                  more (ok us) = rw (joined_of_more fs (here + 1) (e - 1) v.tree us.tree)
                  more (refused r) = refl

                  go : (m : ℕ) → length s ≤ m + here → whole ≡ closes_of at fs (fields_at s val m l.names n here) →
                      Naming s val at whole (joined_of fs (field (here + 1) (e - 1) v.tree no_field)) (skip_at s (skip_at s v.place + 1))
                      v.count
                  go zero h z = absurd (omega arith)
                  go (suc m) h z =
                      record {
                        fuel = m;
                        names = text_at s (here + 1) ∷ l.names;
                        enough = omega arith;
                        rest =
                            z ∙
                            ap (closes_of at fs) (turned m goes_on (sep_on 125 _ q)) ∙
                            more (fields_at s val m (text_at s (here + 1) ∷ l.names) v.count (skip_at s (skip_at s v.place + 1)));
                        named =
                            λ k. one_same k (text_at s (here + 1)) l.names (keys (erase_of s fs)) (l.named k) ∙
                            sym (one_more k (text_at s (here + 1)) (keys (erase_of s fs))) ∙
                            ap (is_one_of k) (sym (keys_more s fs (here + 1) (e - 1) v.tree));
                      }

-- an object's beginning
module _ (s : Bytes) (val : Placer Node) (n at : ℕ) where
  pub object_full : max_nodes ≤ n → obj_at s val n at ≡ refused too_many_nodes
  unfolding obj_at
  object_full h = rw (le-ltb n max_nodes h, one_node)

  module _ (room : n < max_nodes) where
    pub object_shut : get_or s (skip_at s (at + 1)) 0 ≡ 125 → obj_at s val n at ≡
        ok (record { tree = obj at (skip_at s (at + 1) + 1) no_field; place = skip_at s (at + 1) + 1; count = n + 1 })
    unfolding obj_at
    object_shut e = rw (lt-ltb n max_nodes room, one_node, eq-eqb _ 125 e)

    pub object_opens : (get_or s (skip_at s (at + 1)) 0 ≡ 125 → ⊥) → at + 1 ≤ skip_at s (at + 1) → Naming s val at (obj_at s val n at) no_field (skip_at s (at + 1)) (n + 1)
    unfolding obj_at closes_of joined_of erase_of
    object_opens f past =
        record {
          fuel = length (drop (at + 1) s);
          names = [];
          enough = omega (arith, length-drop (at + 1) s);
          rest = rw (lt-ltb n max_nodes room, one_node, ne_eqb _ 125 f)
              (go (fields_at s val (length (drop (at + 1) s)) [] (n + 1) (skip_at s (at + 1))));
          named = λ k. refl;
        }
      where
        go : (x : Result (Placed Fields)) → (x >>= λ us. ok (record { tree = obj at us.place us.tree; place = us.place; count = us.count })) ≡ closes_of at no_field x
        go (ok us) = refl
        go (refused r) = refl
