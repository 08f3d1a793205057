-- 10 and 11 speak of the condition at fault in itself whose first byte is least.
-- Assumes nothing.
use mathlib.Core.Bool.{Bool, false, true}
use mathlib.Core.List.{List, [], ◌++◌, ◌∷◌}
use mathlib.Core.Logic.{◌≢◌}
use Rattle.std.specs.Prelude.{Option, None, Some}
use mathlib.Core.Path.{ap, refl, sym, ◌∙◌, ◌≡◌}
use Prim.Native.Nat.{suc, ℕ, ◌+◌, ◌<◌, ◌≤◌}
use native.Mathlib.Omega.{arith}
use lib.Dec.{eqb}
use lib.ListN.{length}
use Rattle.json_text.proofs.Ascending.{spans_ascend}
use Rattle.json_text.specs.Ascent.{AscendIn, AscendOf, Ascends, arr_ascends, empty_ascends, field_ascends, first_byte, leaf_ascends, node_ascends, none_ascend, obj_ascends}
use Rattle.json_text.specs.Bytes.{Bytes, ascii, find, same_bytes}
use Rattle.json_text.specs.Json.{Members, Value, as_text, elements, entries}
use Rattle.json_text.specs.Placing.{spanned}
use Rattle.json_text.specs.Refusal.{Refusal, Result, ok, or_else, refused, wrong_shape, ◌>>=◌}
use Rattle.json_text.specs.Spans.{Fields, Node, Nodes, Plain, arr, erase, erase_in, erase_of, field, leaf, no_field, no_node, node, obj, text_at}
use Rattle.members.proofs.Conditions.{fault_bind, first_of}
use Rattle.members.proofs.Soundness.{member_of_lem, one_of, sound_append, sound_one, soundness}
use Rattle.members.specs.Condition.{
  Condition,
  Mode,
  Operator,
  also,
  condition,
  condition_array,
  condition_object,
  conditions_in,
  conditions_of,
  formed,
  junction,
  negation,
  one_member,
  op_exists,
  op_junction,
  op_negation,
  op_not_carried,
  op_pair,
  op_quantified,
  operators,
  quantified,
  quantifier,
  two_of,
}
use Rattle.members.specs.First.{
  First,
  OneOf,
  fine,
  fine_array,
  fine_members,
  fine_object,
  here,
  in_condition,
  in_each,
  in_each_under,
  in_elements,
  in_holder,
  in_member,
  in_named,
  in_one,
  in_sheet,
  own_fault,
  own_fault_of,
  there,
  under,
}
use Rattle.members.specs.Sheet.{Holds, each_under, held_by, holders, itself, member_of, member_of_each, sound, written}
use Rattle.members.specs.Verdicts.{fault_of}

first_none : (a : Option Refusal) → first_of a None ≡ a
first_none None = refl
first_none (Some q) = refl

first_assoc : (a b c : Option Refusal) → first_of a (first_of b c) ≡ first_of (first_of a b) c
first_assoc None b c = refl
first_assoc (Some q) b c = refl

-- the fault of the first condition of a list that has one in itself
first_fault : Bytes → List Node → Option Refusal
first_fault s [] = None
first_fault s (c ∷ cs) = first_of (own_fault (erase s c)) (first_fault s cs)

first_append : (s : Bytes) (xs ys : List Node) → first_fault s (xs ++ ys) ≡ first_of (first_fault s xs) (first_fault s ys)
unfolding first_fault
first_append s [] ys = refl
first_append s (c ∷ xs) ys = ap (first_of (own_fault (erase s c))) (first_append s xs ys) ∙ first_assoc (own_fault (erase s c)) (first_fault s xs) (first_fault s ys)

bind_fault : {A B : Type 0} (x : Result A) (g : A → B) → fault_of (x >>= λ a. ok (g a)) ≡ fault_of x
bind_fault (ok a) g = refl
bind_fault (refused r) g = refl

-- ---- a quantifier: the same members, with their conditions and with those taken as fine
fine_length : (ms : Members) → length (conditions_of ms) ≡ length (fine_members ms)
unfolding conditions_of
fine_length Members.empty = refl
fine_length (Members.member k v ms) = ap suc (fine_length ms)

-- what both find under a name
data Both (s k : Bytes) (ms : Members) (xs : List Node) : Type 0 where
  neither : find k (conditions_of ms) ≡ None → find k (fine_members ms) ≡ None → Both s k ms xs
  found : (v : Value) → find k (conditions_of ms) ≡ Some (v, condition v) → find k (fine_members ms) ≡ Some (v, fine) → first_fault s xs ≡ fault_of (condition v) → Both s k ms xs

abbrev QuantifierFirst : Bytes → Mode → Members → List Node → Type 0
QuantifierFirst s m ms zs = fault_of (quantifier m (conditions_of ms)) ≡ first_of (fault_of (quantifier m (fine_members ms))) (first_fault s zs)

quantifier_first : (s : Bytes) (m : Mode) (ms : Members) (xs ys zs : List Node) → Both s (ascii "in") ms xs → Both s (ascii "as") ms ys →
    Both s (ascii "that") ms zs → QuantifierFirst s m ms zs
unfolding quantifier
quantifier_first s m ms xs ys zs a b c = go (eqb (length (fine_members ms)) 3) refl a b c
  where
    same : eqb (length (conditions_of ms)) 3 ≡ eqb (length (fine_members ms)) 3
    same = ap (λ (n : ℕ). eqb n 3) (fine_length ms)

    made : Value → Option Bytes → Result Condition → Option Refusal
    made v o x = fault_of (or_else o wrong_shape >>= λ name. x >>= λ d. ok (quantified m v name d))

    named : (v x : Value) (o : Option Bytes) → first_fault s zs ≡ fault_of (condition x) → made v o (condition x) ≡ first_of (made v o fine) (first_fault s zs)
    named v x None h = refl
    named v x (Some n) h = bind_fault (condition x) (λ d. quantified m v n d) ∙ sym h

    go : (t : Bool) → eqb (length (fine_members ms)) 3 ≡ t → Both s (ascii "in") ms xs → Both s (ascii "as") ms ys → Both s (ascii "that") ms zs → QuantifierFirst s m ms zs
    go false p a b c = rw (same, p, quantifier) refl
    go true p (neither f g) b c = rw (same, p, f, g, quantifier) refl
    go true p (found v f g h) (neither i j) c = rw (same, p, f, g, i, j, quantifier) refl
    go true p (found v f g h) (found w i j k) (neither x y) = rw (same, p, f, g, i, j, x, y, quantifier) refl
    go true p (found v f g h) (found w i j k) (found z x y l) = rw (same, p, f, g, i, j, x, y, quantifier) (named v z (as_text w) l)

-- ---- an operator, over what its member holds: whether conditions inside are fine, and what their first fault is
abbrev JunctionFirst : Bytes → Value → List Node → Type 0
JunctionFirst s v ys = (m : Mode) → fault_of (condition_array v >>= λ cs. ok (junction m cs)) ≡ first_of (fault_of (fine_array v >>= λ cs. ok (junction m cs))) (first_fault s ys)

abbrev QuantifiedFirst : Bytes → Value → List Node → Type 0
QuantifiedFirst s v zs = (m : Mode) → fault_of (condition_object v >>= quantifier m) ≡ first_of (fault_of (fine_object v >>= quantifier m)) (first_fault s zs)

abbrev FormedFirst : Bytes → Value → List Node → List Node → List Node → Option Operator → Type 0
FormedFirst s v xs ys zs o =
    fault_of (formed v (condition v) (condition_array v) (condition_object v) o) ≡
    first_of (fault_of (formed v fine (fine_array v) (fine_object v) o)) (first_fault s (under xs ys zs o))

formed_first :
    (s : Bytes) (v : Value) (xs ys zs : List Node) → fault_of (condition v) ≡ first_fault s xs → JunctionFirst s v ys → QuantifiedFirst s v zs →
    (o : Option Operator) → FormedFirst s v xs ys zs o
unfolding first_fault
formed_first s v xs ys zs a b c None = refl
formed_first s v xs ys zs a b c (Some (op_junction m)) = b m
formed_first s v xs ys zs a b c (Some op_negation) = bind_fault (condition v) negation ∙ a
formed_first s v xs ys zs a b c (Some op_exists) = refl
formed_first s v xs ys zs a b c (Some (op_pair f)) = sym (first_none (fault_of (two_of f v)))
formed_first s v xs ys zs a b c (Some (op_quantified m)) = c m
formed_first s v xs ys zs a b c (Some op_not_carried) = refl

-- one member more
abbrev Finds : Bytes → Bytes → Fields → Type 0
Finds s k fs = Both s k (erase_of s fs) (in_named s k fs)

both_member : (s k : Bytes) (a e : ℕ) (t : Node) (fs : Fields) → fault_of (condition (erase s t)) ≡ first_fault s (in_condition s t) → Finds s k fs → Finds s k (field a e t fs)
unfolding condition in_condition erase find
both_member s k a e t fs h below = go (same_bytes k (text_at s a)) refl below
  where
    go : (b : Bool) → same_bytes k (text_at s a) ≡ b → Finds s k fs → Finds s k (field a e t fs)
    go true p x = found (erase s t) (rw (p, find) refl) (rw (p, find) refl) (rw (p, in_named) (sym h))
    go false p (neither f g) = neither (rw (p, find) f) (rw (p, find) g)
    go false p (found v f g i) = found v (rw (p, find) f) (rw (p, find) g) (rw (p, in_named) i)

-- ---- a condition's fault is that of the first condition in it that has one in itself
mutual
  unfolding condition in_condition first_fault own_fault erase find

  condition_first : (s : Bytes) (t : Node) → fault_of (condition (erase s t)) ≡ first_fault s (in_condition s t)
  condition_first s (leaf Plain.is_null a e) = refl
  condition_first s (leaf Plain.is_true a e) = refl
  condition_first s (leaf Plain.is_false a e) = refl
  condition_first s (leaf Plain.is_number a e) = refl
  condition_first s (leaf Plain.is_text a e) = refl
  condition_first s (arr a e ts) = refl
  condition_first s (obj a e fs) = one_first s fs

  one_first : (s : Bytes) (fs : Fields) → fault_of (one_member (erase_of s fs)) ≡ first_of (own_fault_of (erase_of s fs)) (first_fault s (in_one s fs))
  one_first s no_field = refl
  one_first s (field a e t no_field) =
      formed_first s (erase s t) (in_condition s t) (in_elements s t) (in_member s (ascii "that") t) (condition_first s t)
      (λ m. junction_first s t m) (λ m. quantified_first s t m) (find (text_at s a) operators)
  one_first s (field a e t (field b f u fs)) = refl

  junction_first : (s : Bytes) (t : Node) → JunctionFirst s (erase s t) (in_elements s t)
  junction_first s (leaf Plain.is_null a e) m = refl
  junction_first s (leaf Plain.is_true a e) m = refl
  junction_first s (leaf Plain.is_false a e) m = refl
  junction_first s (leaf Plain.is_number a e) m = refl
  junction_first s (leaf Plain.is_text a e) m = refl
  junction_first s (arr a e ts) m = bind_fault (conditions_in (erase_in s ts)) (junction m) ∙ each_first s ts
  junction_first s (obj a e fs) m = refl

  each_first : (s : Bytes) (ts : Nodes) → fault_of (conditions_in (erase_in s ts)) ≡ first_fault s (in_each s ts)
  each_first s no_node = refl
  each_first s (node t ts) =
      fault_bind (condition (erase s t)) (λ c. conditions_in (erase_in s ts) >>= λ cs. ok (also c cs))
      (fault_of (conditions_in (erase_in s ts))) (λ c. bind_fault (conditions_in (erase_in s ts)) (also c)) ∙
      ap (λ x. first_of x (fault_of (conditions_in (erase_in s ts)))) (condition_first s t) ∙
      ap (first_of (first_fault s (in_condition s t))) (each_first s ts) ∙
      sym (first_append s (in_condition s t) (in_each s ts))

  quantified_first : (s : Bytes) (t : Node) → QuantifiedFirst s (erase s t) (in_member s (ascii "that") t)
  quantified_first s (leaf Plain.is_null a e) m = refl
  quantified_first s (leaf Plain.is_true a e) m = refl
  quantified_first s (leaf Plain.is_false a e) m = refl
  quantified_first s (leaf Plain.is_number a e) m = refl
  quantified_first s (leaf Plain.is_text a e) m = refl
  quantified_first s (arr a e ts) m = refl
  quantified_first s (obj a e fs) m =
      quantifier_first s m (erase_of s fs) (in_named s (ascii "in") fs) (in_named s (ascii "as") fs) (in_named s (ascii "that") fs)
      (both_first s (ascii "in") fs) (both_first s (ascii "as") fs) (both_first s (ascii "that") fs)

  both_first : (s k : Bytes) (fs : Fields) → Finds s k fs
  both_first s k no_field = neither refl refl
  both_first s k (field a e t fs) = both_member s k a e t fs (condition_first s t) (both_first s k fs)

-- ---- the sheet's conditions
alone_first : (s : Bytes) (t : Node) → soundness (erase s t ∷ []) ≡ first_fault s (in_condition s t)
alone_first s t = sound_one (erase s t) ∙ condition_first s t

abbrev NamedFirst : Bytes → Bytes → Fields → Type 0
NamedFirst s k fs = soundness (one_of (find k (entries (erase_of s fs)))) ≡ first_fault s (in_named s k fs)

named_first : (s k : Bytes) (fs : Fields) → NamedFirst s k fs
unfolding sound in_condition first_fault erase find
named_first s k no_field = refl
named_first s k (field a e t fs) = go (same_bytes k (text_at s a)) refl (named_first s k fs)
  where
    go : (b : Bool) → same_bytes k (text_at s a) ≡ b → NamedFirst s k fs → NamedFirst s k (field a e t fs)
    go true p below = rw (p, find, in_named) (alone_first s t)
    go false p below = rw (p, find, in_named) below

member_first : (s k : Bytes) (t : Node) → soundness (member_of k (erase s t)) ≡ first_fault s (in_member s k t)
unfolding sound in_condition first_fault erase
member_first s k (leaf Plain.is_null a e) = refl
member_first s k (leaf Plain.is_true a e) = refl
member_first s k (leaf Plain.is_false a e) = refl
member_first s k (leaf Plain.is_number a e) = refl
member_first s k (leaf Plain.is_text a e) = refl
member_first s k (arr a e ts) = refl
member_first s k (obj a e fs) = ap soundness (member_of_lem k (erase_of s fs)) ∙ named_first s k fs

under_first : (s k : Bytes) (ts : Nodes) → soundness (member_of_each k (elements (erase_in s ts))) ≡ first_fault s (in_each_under s k ts)
unfolding sound member_of_each in_each_under first_fault erase
under_first s k no_node = refl
under_first s k (node t ts) =
    sound_append (member_of k (erase s t)) (member_of_each k (elements (erase_in s ts))) ∙
    ap (λ x. first_of x (soundness (member_of_each k (elements (erase_in s ts))))) (member_first s k t) ∙
    ap (first_of (first_fault s (in_member s k t))) (under_first s k ts) ∙
    sym (first_append s (in_member s k t) (in_each_under s k ts))

holder_first : (s : Bytes) (h : Option Holds) (t : Node) → soundness (held_by h (erase s t)) ≡ first_fault s (in_holder s h t)
unfolding sound in_holder first_fault erase
holder_first s None t = refl
holder_first s (Some itself) t = alone_first s t
holder_first s (Some (each_under k)) (leaf Plain.is_null a e) = refl
holder_first s (Some (each_under k)) (leaf Plain.is_true a e) = refl
holder_first s (Some (each_under k)) (leaf Plain.is_false a e) = refl
holder_first s (Some (each_under k)) (leaf Plain.is_number a e) = refl
holder_first s (Some (each_under k)) (leaf Plain.is_text a e) = refl
holder_first s (Some (each_under k)) (arr a e ts) = under_first s k ts
holder_first s (Some (each_under k)) (obj a e fs) = refl

sheet_first : (s : Bytes) (fs : Fields) → soundness (written (entries (erase_of s fs))) ≡ first_fault s (in_sheet s fs)
unfolding sound written in_sheet first_fault erase
sheet_first s no_field = refl
sheet_first s (field a e t fs) =
    sound_append (held_by (find (text_at s a) holders) (erase s t)) (written (entries (erase_of s fs))) ∙
    ap (λ x. first_of x (soundness (written (entries (erase_of s fs))))) (holder_first s (find (text_at s a) holders) t) ∙
    ap (first_of (first_fault s (in_holder s (find (text_at s a) holders) t))) (sheet_first s fs) ∙
    sym (first_append s (in_holder s (find (text_at s a) holders) t) (in_sheet s fs))

-- ---- each begins behind the one before it
abbrev Rises : ℕ → ℕ → List Node → Type 0
Rises low high [] = Unit {0}
Rises low high (c ∷ cs) = (low ≤ first_byte c) × (first_byte c < high) × Rises (first_byte c + 1) high cs

rises_from : (low from high : ℕ) (cs : List Node) → low ≤ from → Rises from high cs → Rises low high cs
rises_from low from high [] h r = tt
rises_from low from high (c ∷ cs) h r = (omega (arith, r.0), r.1, r.2)

rises_append : (low middle high : ℕ) (xs ys : List Node) → low ≤ middle → middle ≤ high → Rises low middle xs → Rises middle high ys → Rises low high (xs ++ ys)
rises_append low middle high [] ys h k r t = rises_from low middle high ys h t
rises_append low middle high (c ∷ xs) ys h k r t = (r.0, omega (arith, r.1), rises_append (first_byte c + 1) middle high xs ys (omega (arith, r.1)) k r.2 t)

rises_upto : (low middle high : ℕ) (xs : List Node) → middle ≤ high → Rises low middle xs → Rises low high xs
rises_upto low middle high [] k r = tt
rises_upto low middle high (c ∷ xs) k r = (r.0, omega (arith, r.1), rises_upto (first_byte c + 1) middle high xs k r.2)

rises_within : (low from middle high : ℕ) (xs : List Node) → low ≤ from → middle ≤ high → Rises from middle xs → Rises low high xs
rises_within low from middle high xs h k r = rises_from low from high xs h (rises_upto from middle high xs k r)

under_rises : (low high : ℕ) (xs ys zs : List Node) (o : Option Operator) → Rises low high xs → Rises low high ys → Rises low high zs → Rises low high (under xs ys zs o)
under_rises low high xs ys zs None a b c = tt
under_rises low high xs ys zs (Some (op_junction m)) a b c = b
under_rises low high xs ys zs (Some op_negation) a b c = a
under_rises low high xs ys zs (Some op_exists) a b c = tt
under_rises low high xs ys zs (Some (op_pair f)) a b c = tt
under_rises low high xs ys zs (Some (op_quantified m)) a b c = c
under_rises low high xs ys zs (Some op_not_carried) a b c = tt

field_rises :
    (s k : Bytes) (a e : ℕ) (t : Node) (fs : Fields) (low high : ℕ) → Rises low high (in_condition s t) → Rises low high (in_named s k fs) →
    Rises low high (in_named s k (field a e t fs))
unfolding in_condition
field_rises s k a e t fs low high x y = go (same_bytes k (text_at s a)) refl
  where
    go : (b : Bool) → same_bytes k (text_at s a) ≡ b → Rises low high (in_named s k (field a e t fs))
    go true p = rw (p, in_named) x
    go false p = rw (p, in_named) y

mutual
  unfolding in_condition

  condition_rises : (s : Bytes) {low high : ℕ} {t : Node} → Ascends low high t → Rises low high (in_condition s t)
  condition_rises s (leaf_ascends a b) = (a, b, tt)
  condition_rises s (arr_ascends a b c d) = (a, omega arith, tt)
  condition_rises s {high = high} (obj_ascends {a = x} {from = f} {fs = fs} a b c d) = (a, omega arith, rises_from (x + 1) f high (in_one s fs) (omega arith) (one_rises s d))

  one_rises : (s : Bytes) {low high : ℕ} {fs : Fields} → AscendOf low high fs → Rises low high (in_one s fs)
  one_rises s empty_ascends = tt
  one_rises s {low} {high} (field_ascends {from = f} {middle = m} {a = x} {t = t} a b c d empty_ascends) =
      let o = find (text_at s x) operators in
      let xs = under (in_condition s t) (in_elements s t) (in_member s (ascii "that") t) o in
      rises_within low f m high xs a d
      (under_rises f m (in_condition s t) (in_elements s t) (in_member s (ascii "that") t) o (condition_rises s b) (elements_rise s b)
      (member_rises s (ascii "that") b))
  one_rises s (field_ascends a b c d (field_ascends e f g h i)) = tt

  elements_rise : (s : Bytes) {low high : ℕ} {t : Node} → Ascends low high t → Rises low high (in_elements s t)
  elements_rise s (leaf_ascends a b) = tt
  elements_rise s {low} {high} (arr_ascends {from = f} {ts = ts} a b c d) = rises_from low f high (in_each s ts) (omega arith) (each_rises s d)
  elements_rise s (obj_ascends a b c d) = tt

  each_rises : (s : Bytes) {low high : ℕ} {ts : Nodes} → AscendIn low high ts → Rises low high (in_each s ts)
  each_rises s none_ascend = tt
  each_rises s {low} {high} (node_ascends {middle = m} {t = t} {ts = ts} a b c d) = rises_append low m high (in_condition s t) (in_each s ts) b c (condition_rises s a) (each_rises s d)

  member_rises : (s k : Bytes) {low high : ℕ} {t : Node} → Ascends low high t → Rises low high (in_member s k t)
  member_rises s k (leaf_ascends a b) = tt
  member_rises s k (arr_ascends a b c d) = tt
  member_rises s k {low} {high} (obj_ascends {from = f} {fs = fs} a b c d) = rises_from low f high (in_named s k fs) (omega arith) (named_rises s k d)

  named_rises : (s k : Bytes) {low high : ℕ} {fs : Fields} → AscendOf low high fs → Rises low high (in_named s k fs)
  named_rises s k empty_ascends = tt
  named_rises s k {low} {high} (field_ascends {from = f} {middle = m} {a = x} {e = y} {t = t} {fs = fs} a b c d e) =
      field_rises s k x y t fs low high (rises_within low f m high (in_condition s t) a d (condition_rises s b)) (rises_from low m high (in_named s k fs) (omega arith) (named_rises s k e))

under_name_rises : (s k : Bytes) {low high : ℕ} {ts : Nodes} → AscendIn low high ts → Rises low high (in_each_under s k ts)
unfolding in_each_under
under_name_rises s k none_ascend = tt
under_name_rises s k {low} {high} (node_ascends {middle = m} {t = t} {ts = ts} a b c d) =
    rises_append low m high (in_member s k t) (in_each_under s k ts) b c (member_rises s k a) (under_name_rises s k d)

holder_rises : (s : Bytes) (h : Option Holds) {low high : ℕ} {t : Node} → Ascends low high t → Rises low high (in_holder s h t)
unfolding in_holder
holder_rises s None r = tt
holder_rises s (Some itself) r = condition_rises s r
holder_rises s (Some (each_under k)) (leaf_ascends a b) = tt
holder_rises s (Some (each_under k)) {low} {high} (arr_ascends {from = f} {ts = ts} a b c d) = rises_from low f high (in_each_under s k ts) (omega arith) (under_name_rises s k d)
holder_rises s (Some (each_under k)) (obj_ascends a b c d) = tt

sheet_rises : (s : Bytes) {low high : ℕ} {fs : Fields} → AscendOf low high fs → Rises low high (in_sheet s fs)
unfolding in_sheet
sheet_rises s empty_ascends = tt
sheet_rises s {low} {high} (field_ascends {from = f} {middle = m} {a = x} {t = t} {fs = fs} a b c d e) =
    let h = find (text_at s x) holders in
    rises_append low m high (in_holder s h t) (in_sheet s fs) (omega arith) d (rises_from low f m (in_holder s h t) a (holder_rises s h b)) (sheet_rises s e)

-- ---- the first fault is that of the least first byte
begins_behind : (low high : ℕ) (cs : List Node) (d : Node) → Rises low high cs → OneOf d cs → low ≤ first_byte d
begins_behind low high [] d r i = elim i [ ]
begins_behind low high (c ∷ cs) d r here = r.0
begins_behind low high (c ∷ cs) d r (there i) = omega (arith, r.0, begins_behind (first_byte c + 1) high cs d r.2 i)

least_first : (s : Bytes) (low high : ℕ) (cs : List Node) (q : Refusal) → Rises low high cs → first_fault s cs ≡ Some q → First s cs q
unfolding first_fault
least_first s low high [] q r e = let z : ◌≡◌ {A = ℕ} 0 1 = cc in absurd (omega arith)
least_first s low high (c ∷ cs) q r e = go (own_fault (erase s c)) refl (least_first s (first_byte c + 1) high cs q r.2)
  where
    go : (o : Option Refusal) → own_fault (erase s c) ≡ o → (first_fault s cs ≡ Some q → First s cs q) → First s (c ∷ cs) q
    go (Some x) p below = record { condition = c; is_one = here; fault = p ∙ (rw (p, first_fault) at e); least = here_least }
      where
        here_least : (d : Node) → OneOf d (c ∷ cs) → own_fault (erase s d) ≢ None → first_byte c ≤ first_byte d
        here_least d here h = omega arith
        here_least d (there i) h = omega (arith, begins_behind (first_byte c + 1) high cs d r.2 i)
    go None p below =
        let k = below (rw (p, first_fault) at e) in
        record { condition = k.condition; is_one = there k.is_one; fault = k.fault; least = there_least k }
      where
        there_least : (k : First s cs q) (d : Node) → OneOf d (c ∷ cs) → own_fault (erase s d) ≢ None → first_byte k.condition ≤ first_byte d
        there_least k d here h = absurd (h p)
        there_least k d (there i) h = k.least d i h

ascends_of : {low high a e : ℕ} {fs : Fields} → Ascends low high (obj a e fs) → (from : ℕ) × AscendOf from high fs
ascends_of (obj_ascends {from = f} a b c d) = (f, d)

-- Where the conditions of a sheet's text are refused, it is for the condition at fault in itself whose first byte is least, with that fault.
pub first_at_fault :
    (s : Bytes) (a e : ℕ) (fs : Fields) (q : Refusal) → spanned s ≡ ok (obj a e fs) → sound (written (entries (erase_of s fs))) ≡ refused q →
    First s (in_sheet s fs) q
first_at_fault s a e fs q h r =
    let k = ascends_of (spans_ascend s (obj a e fs) h) in
    least_first s k.0 (length s) (in_sheet s fs) q (sheet_rises s k.1) (sym (sheet_first s fs) ∙ ap fault_of r)

-- Where they are not refused, none is at fault in itself.
none_first : (s : Bytes) (cs : List Node) → first_fault s cs ≡ None → (d : Node) → OneOf d cs → own_fault (erase s d) ≡ None
unfolding first_fault
none_first s [] e d i = elim i [ ]
none_first s (c ∷ cs) e d i = go (own_fault (erase s c)) refl (none_first s cs) d i
  where
    go : (o : Option Refusal) → own_fault (erase s c) ≡ o → (first_fault s cs ≡ None → (b : Node) → OneOf b cs → own_fault (erase s b) ≡ None) →
        (b : Node) → OneOf b (c ∷ cs) → own_fault (erase s b) ≡ None
    go (Some x) p below b j = let z : ◌≡◌ {A = ℕ} 0 1 = cc (rw (p, first_fault) at e) in absurd (omega arith)
    go None p below b here = p
    go None p below b (there j) = below (rw (p, first_fault) at e) b j

pub none_at_fault : (s : Bytes) (fs : Fields) (b : Bool) → sound (written (entries (erase_of s fs))) ≡ ok b → (d : Node) → OneOf d (in_sheet s fs) → own_fault (erase s d) ≡ None
none_at_fault s fs b r = none_first s (in_sheet s fs) (sym (sheet_first s fs) ∙ ap fault_of r)
