-- The nodes of a tree that was read begin in the order of the text.
-- Assumes nothing.
use mathlib.Core.Bool.{Bool, false, true}
use mathlib.Core.List.{List, [], ◌∷◌}
use mathlib.Core.Path.{ap, refl, subst, sym, ◌≡◌}
use Prim.Native.Nat.{suc, zero, ℕ, ◌+◌, ◌-◌, ◌<◌, ◌≤◌}
use native.Mathlib.Omega.{arith}
use lib.Dec.{eqb, leb}
use lib.ListN.{drop, get_or, length, length-drop}
use Rattle.json_text.proofs.Agree.{chars_short, read_facts}
use Rattle.json_text.proofs.Complete.{ws_length}
use Rattle.json_text.proofs.Laws.{ok_injective}
use Rattle.json_text.proofs.Sound.{bind_with, chars_sound, not_ok, skip_ws}
use Rattle.json_text.specs.Ascent.{AscendIn, AscendOf, Ascends, arr_ascends, empty_ascends, field_ascends, leaf_ascends, node_ascends, none_ascend, obj_ascends, leaf_byte}
use Rattle.json_text.specs.Bytes.{Bytes, ascii}
use Rattle.json_text.specs.Limits.{max_bytes, max_depth}
use Rattle.json_text.specs.Placing
use Rattle.json_text.specs.Placing.{
  Placed,
  Placer,
  Sep,
  arr_at,
  byte_at,
  chars_at,
  digits_at,
  ends,
  fields_at,
  goes_on,
  items_at,
  neither,
  obj_at,
  read_at,
  read_with,
  sep,
  skip_at,
  spanned,
  whole_at,
  word_at,
}
use Rattle.json_text.specs.Reader.{Start, new_name, one_node, start}
use Rattle.json_text.specs.Reader
use Rattle.json_text.specs.Refusal.{Result, not_json, not_utf8, ok, refused, too_deep, too_long, ◌>>=◌}
use Rattle.json_text.specs.Spans.{Fields, Node, Nodes, Plain, arr, field, leaf, no_field, no_node, node, obj, text_at}
use Rattle.json_text.specs.Strings.{chars}
use Rattle.json_text.specs.Utf8.{scalar, utf8}

-- from an earlier place on
ascends_from : {low from high : ℕ} {t : Node} → low ≤ from → Ascends from high t → Ascends low high t
ascends_from {low} h (leaf_ascends {a = x} {k = k} a b) = let c : low ≤ leaf_byte k x = omega arith in leaf_ascends c b
ascends_from {low} h (arr_ascends {a = x} a b c d) = let g : low ≤ x = omega arith in arr_ascends g b c d
ascends_from {low} h (obj_ascends {a = x} a b c d) = let g : low ≤ x = omega arith in obj_ascends g b c d

in_from : {low from high : ℕ} {ts : Nodes} → low ≤ from → AscendIn from high ts → AscendIn low high ts
in_from h none_ascend = none_ascend
in_from h (node_ascends a b c d) = node_ascends (ascends_from h a) (omega arith) c d

of_from : {low from high : ℕ} {fs : Fields} → low ≤ from → AscendOf from high fs → AscendOf low high fs
of_from h empty_ascends = empty_ascends
of_from {low} h (field_ascends {from = f} a b c d e) = let g : low ≤ f = omega arith in field_ascends g b c d e

-- up to a later place
mutual
  ascends_upto : {low high top : ℕ} {t : Node} → high ≤ top → Ascends low high t → Ascends low top t
  ascends_upto {top = top} h (leaf_ascends {a = x} {k = k} a b) = let c : leaf_byte k x < top = omega arith in leaf_ascends a c
  ascends_upto {top = top} h (arr_ascends {from = f} a b c d) = let g : f ≤ top = omega arith in arr_ascends a b g (in_upto h d)
  ascends_upto {top = top} h (obj_ascends {from = f} a b c d) = let g : f ≤ top = omega arith in obj_ascends a b g (of_upto h d)

  in_upto : {low high top : ℕ} {ts : Nodes} → high ≤ top → AscendIn low high ts → AscendIn low top ts
  in_upto h none_ascend = none_ascend
  in_upto {top = top} h (node_ascends {middle = m} a b c d) = let g : m ≤ top = omega arith in node_ascends a b g (in_upto h d)

  of_upto : {low high top : ℕ} {fs : Fields} → high ≤ top → AscendOf low high fs → AscendOf low top fs
  of_upto h empty_ascends = empty_ascends
  of_upto {top = top} h (field_ascends {middle = m} a b c d e) = let g : m ≤ top = omega arith in field_ascends a b c g (of_upto h e)

module _ (s : Bytes) where
  -- behind spaces
  skip_from : (x y : ℕ) → x ≤ y → x ≤ length s → x ≤ skip_at s y
  unfolding skip_at Placing.place_of
  skip_from x y h l = omega (arith, ws_length (skip_ws (drop y s)), length-drop y s)

  skip_upto : (y : ℕ) → skip_at s y ≤ length s
  unfolding skip_at Placing.place_of
  skip_upto y = omega arith

  byte_past : (c at a : ℕ) → byte_at c s at ≡ ok a → a ≡ at + 1
  unfolding byte_at
  byte_past c at a e = go (eqb c (get_or s at 0)) refl
    where
      go : (b : Bool) → eqb c (get_or s at 0) ≡ b → a ≡ at + 1
      go true q = sym (ok_injective (rw (q, byte_at) at e))
      go false q = not_ok not_json (rw (q, byte_at) at e)

  chars_past : (y a x : ℕ) → chars_at s a ≡ ok x → y ≤ a → y ≤ length s → y ≤ x
  unfolding chars_at Placing.place_of
  chars_past y a x e h l =
      bind_with (chars (length (drop a s)) (drop a s)) _ e λ k f1 e1.
      omega (arith, ok_injective e1, chars_short (chars_sound (length (drop a s)) (drop a s) k f1), length-drop a s)

  -- what is known of a value that was read at a place
  record Read (at : ℕ) (q : Placed Node) : Type 0 where
    past : at < q.place
    upto : q.place ≤ length s
    order : Ascends at q.place q.tree

  module _ (val : Placer Node) (reads : (n at : ℕ) (q : Placed Node) → at ≤ length s → val n at ≡ ok q → Read at q) where
    -- what follows an element, and a member; what follows an opening bracket
    abbrev items_on : ℕ → Placed Node → Sep → Result (Placed Nodes)
    items_on f v x =
        elim
        x [
          | goes_on ↦
              (items_at s val f v.count (skip_at s (skip_at s v.place + 1)) >>= λ vs. ok (record { tree = node v.tree vs.tree; place = vs.place; count = vs.count }))
          | ends ↦
              ok (record { tree = node v.tree no_node; place = skip_at s v.place + 1; count = v.count })
          | neither ↦
              refused not_json
        ]

    abbrev fields_on : ℕ → List Bytes → ℕ → ℕ → Placed Node → Sep → Result (Placed Fields)
    fields_on f names a x v z =
        elim
        z [
          | goes_on ↦
              (do
                fs ← fields_at s val f (text_at s a ∷ names) v.count (skip_at s (skip_at s v.place + 1))
                ok (record { tree = field a (x - 1) v.tree fs.tree; place = fs.place; count = fs.count }))
          | ends ↦
              ok (record { tree = field a (x - 1) v.tree no_field; place = skip_at s v.place + 1; count = v.count })
          | neither ↦
              refused not_json
        ]

    abbrev arr_on : ℕ → ℕ → Bool → Result (Placed Node)
    arr_on at m b =
        elim
        b [
          | true ↦
              ok (record { tree = arr at (skip_at s (at + 1) + 1) no_node; place = skip_at s (at + 1) + 1; count = m })
          | false ↦
              (do
                vs ← items_at s val (length (drop (at + 1) s)) m (skip_at s (at + 1))
                ok (record { tree = arr at vs.place vs.tree; place = vs.place; count = vs.count }))
        ]

    abbrev obj_on : ℕ → ℕ → Bool → Result (Placed Node)
    obj_on at m b =
        elim
        b [
          | true ↦
              ok (record { tree = obj at (skip_at s (at + 1) + 1) no_field; place = skip_at s (at + 1) + 1; count = m })
          | false ↦
              (do
                fs ← fields_at s val (length (drop (at + 1) s)) [] m (skip_at s (at + 1))
                ok (record { tree = obj at fs.place fs.tree; place = fs.place; count = fs.count }))
        ]

    record ItemsRead (at : ℕ) (q : Placed Nodes) : Type 0 where
      past : at ≤ q.place
      order : AscendIn at q.place q.tree

    items_ascend : (f n at : ℕ) (q : Placed Nodes) → at ≤ length s → items_at s val f n at ≡ ok q → ItemsRead at q
    unfolding items_at
    items_ascend zero n at q l e = not_ok not_json e
    items_ascend (suc f) n at q l e =
        bind_with (val n at) _ e λ v f1 e1.
        by v (reads n at v l f1) (λ m k p j i. items_ascend f m k p j i) (sep 93 (get_or s (skip_at s v.place) 0)) refl e1
      where
        by : (v : Placed Node) → Read at v → ((m k : ℕ) (p : Placed Nodes) → k ≤ length s → items_at s val f m k ≡ ok p → ItemsRead k p) →
            (x : Sep) → sep 93 (get_or s (skip_at s v.place) 0) ≡ x → items_on f v x ≡ ok q → ItemsRead at q
        by v r below goes_on i e1 =
            let k = skip_at s (skip_at s v.place + 1) in
            let a = skip_from v.place v.place (omega arith) r.upto in
            let b : v.place ≤ k = skip_from v.place (skip_at s v.place + 1) (omega arith) r.upto in
            bind_with (items_at s val f v.count k) _ e1 λ vs f2 e2.
            let z = below v.count k vs (skip_upto (skip_at s v.place + 1)) f2 in
            subst (λ (x : Placed Nodes). ItemsRead at x) (ok_injective e2)
            (record {
              past = omega (arith, r.past, z.past);
              order = node_ascends r.order (omega (arith, r.past)) (omega (arith, z.past)) (in_from b z.order);
            })
        by v r below ends i e1 =
            let a = skip_from v.place v.place (omega arith) r.upto in
            subst (λ (x : Placed Nodes). ItemsRead at x) (ok_injective e1)
            (record {
              past = omega (arith, r.past);
              order = node_ascends r.order (omega (arith, r.past)) (omega arith) none_ascend;
            })
        by v r below neither i e1 = not_ok not_json e1

    record FieldsRead (at : ℕ) (q : Placed Fields) : Type 0 where
      past : at ≤ q.place
      order : AscendOf at q.place q.tree

    fields_ascend : (f : ℕ) (names : List Bytes) (n at : ℕ) (q : Placed Fields) → at ≤ length s → fields_at s val f names n at ≡ ok q → FieldsRead at q
    unfolding fields_at
    fields_ascend zero names n at q l e = not_ok not_json e
    fields_ascend (suc f) names n at q l e =
        bind_with (byte_at 34 s at) _ e λ a f1 e1.
        bind_with (one_node n) _ e1 λ m f2 e2.
        bind_with (chars_at s a) _ e2 λ x f3 e3.
        bind_with (new_name (text_at s a) names []) _ e3 λ y f4 e4.
        bind_with (byte_at 58 s (skip_at s x)) _ e4 λ u f5 e5.
        bind_with (val m (skip_at s u)) _ e5 λ v f6 e6.
        by a x v (skip_at s u) (later a x u f1 f3 f5) (reads m (skip_at s u) v (skip_upto u) f6)
        (λ ns j k p i o. fields_ascend f ns j k p i o) (sep 125 (get_or s (skip_at s v.place) 0)) refl e6
      where
        later : (a x u : ℕ) → byte_at 34 s at ≡ ok a → chars_at s a ≡ ok x → byte_at 58 s (skip_at s x) ≡ ok u → at ≤ skip_at s u
        later a x u f1 f3 f5 = skip_from at u (omega (arith, byte_past 58 (skip_at s x) u f5, skip_from at x (chars_past at a x f3 (omega (arith, byte_past 34 at a f1)) l) l)) l

        by : (a x : ℕ) (v : Placed Node) (from : ℕ) → at ≤ from → Read from v →
            ((ns : List Bytes) (m k : ℕ) (p : Placed Fields) → k ≤ length s → fields_at s val f ns m k ≡ ok p → FieldsRead k p) → (z : Sep) →
            sep 125 (get_or s (skip_at s v.place) 0) ≡ z → fields_on f names a x v z ≡ ok q → FieldsRead at q
        by a x v from h r below goes_on i e1 =
            let k = skip_at s (skip_at s v.place + 1) in
            let c = skip_from v.place v.place (omega arith) r.upto in
            let b : v.place ≤ k = skip_from v.place (skip_at s v.place + 1) (omega arith) r.upto in
            bind_with (fields_at s val f (text_at s a ∷ names) v.count k) _ e1 λ fs f2 e2.
            let z = below (text_at s a ∷ names) v.count k fs (skip_upto (skip_at s v.place + 1)) f2 in
            subst (λ (y : Placed Fields). FieldsRead at y) (ok_injective e2)
            (record {
              past = omega (arith, r.past, z.past);
              order = field_ascends h r.order (omega (arith, r.past)) (omega (arith, z.past)) (of_from b z.order);
            })
        by a x v from h r below ends i e1 =
            let c = skip_from v.place v.place (omega arith) r.upto in
            subst (λ (y : Placed Fields). FieldsRead at y) (ok_injective e1)
            (record {
              past = omega (arith, r.past);
              order = field_ascends h r.order (omega (arith, r.past)) (omega arith) empty_ascends;
            })
        by a x v from h r below neither i e1 = not_ok not_json e1

    arr_ascends_lem : (n at : ℕ) (q : Placed Node) → at < length s → arr_at s val n at ≡ ok q → Ascends at q.place q.tree
    unfolding arr_at
    arr_ascends_lem n at q l e =
        bind_with (one_node n) _ e λ m f1 e1.
        by m (eqb (get_or s (skip_at s (at + 1)) 0) 93) refl e1
      where
        inner : at + 1 ≤ skip_at s (at + 1)
        inner = skip_from (at + 1) (at + 1) (omega arith) (omega arith)

        by : (m : ℕ) (b : Bool) → eqb (get_or s (skip_at s (at + 1)) 0) 93 ≡ b → arr_on at m b ≡ ok q → Ascends at q.place q.tree
        by m true i e1 =
            subst (λ (x : Placed Node). Ascends at x.place x.tree) (ok_injective e1)
            (arr_ascends {from = at + 1} (omega arith) (omega arith) (omega (arith, inner)) none_ascend)
        by m false i e1 =
            bind_with (items_at s val (length (drop (at + 1) s)) m (skip_at s (at + 1))) _ e1 λ vs f2 e2.
            let z = items_ascend (length (drop (at + 1) s)) m (skip_at s (at + 1)) vs (skip_upto (at + 1)) f2 in
            subst (λ (x : Placed Node). Ascends at x.place x.tree) (ok_injective e2) (arr_ascends {from = skip_at s (at + 1)} (omega arith) (omega (arith, inner)) z.past z.order)

    obj_ascends_lem : (n at : ℕ) (q : Placed Node) → at < length s → obj_at s val n at ≡ ok q → Ascends at q.place q.tree
    unfolding obj_at
    obj_ascends_lem n at q l e =
        bind_with (one_node n) _ e λ m f1 e1.
        by m (eqb (get_or s (skip_at s (at + 1)) 0) 125) refl e1
      where
        inner : at + 1 ≤ skip_at s (at + 1)
        inner = skip_from (at + 1) (at + 1) (omega arith) (omega arith)

        by : (m : ℕ) (b : Bool) → eqb (get_or s (skip_at s (at + 1)) 0) 125 ≡ b → obj_on at m b ≡ ok q → Ascends at q.place q.tree
        by m true i e1 =
            subst (λ (x : Placed Node). Ascends at x.place x.tree) (ok_injective e1)
            (obj_ascends {from = at + 1} (omega arith) (omega arith) (omega (arith, inner)) empty_ascends)
        by m false i e1 =
            bind_with (fields_at s val (length (drop (at + 1) s)) [] m (skip_at s (at + 1))) _ e1 λ fs f2 e2.
            let z = fields_ascend (length (drop (at + 1) s)) [] m (skip_at s (at + 1)) fs (skip_upto (at + 1)) f2 in
            subst (λ (x : Placed Node). Ascends at x.place x.tree) (ok_injective e2) (obj_ascends {from = skip_at s (at + 1)} (omega arith) (omega (arith, inner)) z.past z.order)

  -- a value, over what follows an opening bracket
  module _ (ar ob : Placer Node)
      (arrays : (n at : ℕ) (q : Placed Node) → at < length s → ar n at ≡ ok q → Ascends at q.place q.tree)
      (objects : (n at : ℕ) (q : Placed Node) → at < length s → ob n at ≡ ok q → Ascends at q.place q.tree) where
    leaf_ascends_lem : (k : Plain) (n at a : ℕ) (q : Placed Node) (f : ℕ → Result (Placed Node)) → leaf_byte k a ≡ at → at < q.place →
        ((m : ℕ) → f m ≡ ok q → (e : ℕ) × (q.tree ≡ leaf k a e)) → (one_node n >>= f) ≡ ok q → Ascends at q.place q.tree
    leaf_ascends_lem k n at a q f i h g e =
        bind_with (one_node n) f e λ m f1 e1.
        let z = g m e1 in
        let b : at ≤ leaf_byte k a = omega arith in
        let c : leaf_byte k a < q.place = omega arith in
        subst (λ (x : Node). Ascends at q.place x) (sym z.1) (leaf_ascends b c)

    leaf_is : (k : Plain) (m a : ℕ) (scan : Result ℕ) (q : Placed Node) → Placing.leaf_at k m a scan ≡ ok q → (e : ℕ) × (q.tree ≡ leaf k a e)
    leaf_is k m a scan q e = bind_with scan _ e λ x f1 e1. (x, sym (ap (λ (y : Placed Node). y.tree) (ok_injective e1)))

    string_is : (m a : ℕ) (scan : Result ℕ) (q : Placed Node) → Placing.string_at m a scan ≡ ok q → (e : ℕ) × (q.tree ≡ leaf Plain.is_text a e)
    string_is m a scan q e = bind_with scan _ e λ x f1 e1. (x - 1, sym (ap (λ (y : Placed Node). y.tree) (ok_injective e1)))

    with_ascends : (n at : ℕ) (q : Placed Node) → at < q.place → at < length s → read_with s ar ob n at ≡ ok q → Ascends at q.place q.tree
    unfolding read_with
    with_ascends n at q h l e = by (start (get_or s at 0)) refl
      where
        leaf_read : (k : Plain) (scan : Result ℕ) → leaf_byte k at ≡ at → (one_node n >>= λ m. Placing.leaf_at k m at scan) ≡ ok q → Ascends at q.place q.tree
        leaf_read k scan i j = leaf_ascends_lem k n at at q (λ m. Placing.leaf_at k m at scan) i h (λ m z. leaf_is k m at scan q z) j

        by : (k : Start) → start (get_or s at 0) ≡ k → Ascends at q.place q.tree
        by Reader.start_null p = leaf_read Plain.is_null (word_at (ascii "null") s at) refl (rw (p, read_with) at e)
        by Reader.start_true p = leaf_read Plain.is_true (word_at (ascii "true") s at) refl (rw (p, read_with) at e)
        by Reader.start_false p = leaf_read Plain.is_false (word_at (ascii "false") s at) refl (rw (p, read_with) at e)
        by Reader.start_text p =
            leaf_ascends_lem Plain.is_text n at (at + 1) q (λ m. Placing.string_at m (at + 1) (chars_at s (at + 1))) (omega arith) h
            (λ m i. string_is m (at + 1) (chars_at s (at + 1)) q i) (rw (p, read_with) at e)
        by Reader.start_number p = leaf_read Plain.is_number (digits_at s at) refl (rw (p, read_with) at e)
        by Reader.start_array p = arrays n at q l (rw (p, read_with) at e)
        by Reader.start_object p = objects n at q l (rw (p, read_with) at e)
        by Reader.start_nothing p = not_ok not_json (rw (p, read_with) at e)

  -- places and order of a value that was read
  reads_in_order : (left n at : ℕ) (q : Placed Node) → at ≤ length s → read_at left s n at ≡ ok q → Read at q
  unfolding read_at
  reads_in_order zero n at q l e =
      let r = (read_facts zero s n at q l e).1 in
      let o = with_ascends Placing.none_at Placing.none_at (λ m b p i j. not_ok too_deep j) (λ m b p i j. not_ok too_deep j) n at q r.past (omega (arith, r.past, r.upto)) e in
      record { past = r.past; upto = r.upto; order = o }
  reads_in_order (suc left) n at q l e =
      let r = (read_facts (suc left) s n at q l e).1 in
      let o =
      with_ascends
      (arr_at s (read_at left s))
      (obj_at s (read_at left s))
      (arr_ascends_lem (read_at left s) (reads_in_order left))
      (obj_ascends_lem (read_at left s) (reads_in_order left))
      n
      at
      q
      r.past
      (omega (arith, r.past, r.upto))
      e
      in
      record { past = r.past; upto = r.upto; order = o }

-- The nodes of a sheet's tree begin in the order of the text.
pub spans_ascend : (s : Bytes) (t : Node) → spanned s ≡ ok t → Ascends 0 (length s) t
unfolding spanned whole_at
spans_ascend s t e = long (leb (length s) max_bytes) (utf8 scalar s) refl refl
  where
    whole : (x : Placed Node) → whole_at s x ≡ ok t → (b : Bool) → eqb (skip_at s x.place) (length s) ≡ b → x.tree ≡ t
    whole x i true p = ok_injective (rw (p, whole_at) at i)
    whole x i false p = not_ok not_json (rw (p, whole_at) at i)

    long : (a b : Bool) → leb (length s) max_bytes ≡ a → utf8 scalar s ≡ b → Ascends 0 (length s) t
    long true true p q =
        bind_with (read_at max_depth s 0 (skip_at s 0)) (whole_at s) (rw (p, q, spanned) at e) λ x f1 e1.
        let r = reads_in_order s max_depth 0 (skip_at s 0) x (skip_upto s 0) f1 in
        subst (λ (y : Node). Ascends 0 (length s) y) (whole x e1 (eqb (skip_at s x.place) (length s)) refl) (ascends_upto r.upto (ascends_from (omega arith) r.order))
    long true false p q = not_ok not_utf8 (rw (p, q, spanned) at e)
    long false b p q = not_ok too_long (rw (p, spanned) at e)
