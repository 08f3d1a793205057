-- The first fault among the sheet's conditions, turn by turn.
-- Assumes nothing.
use mathlib.Core.Bool.{false, true}
use mathlib.Core.List.{List, [], ◌++◌, ◌∷◌}
use Rattle.std.specs.Prelude.{Option, None, Some, Err}
use mathlib.Core.Path.{ap, refl, subst, sym, ◌∙◌, ◌≡◌}
use Prim.Native.Nat.{ℕ, ◌+◌, ◌<◌, ◌≤◌}
use Rattle.strings.specs.Answers.{found_of}
use Rattle.json_text.specs.Bytes.{Bytes, ascii, find, same_bytes}
use Rattle.json_text.specs.Held.{AreNodes, IsNode}
use Rattle.json_text.specs.Json.{Members, Value, array, bool, elements, entries, null, number, object, text}
use Rattle.json_text.specs.Refusal.{Refusal, Result, ok, refused, ◌>>=◌}
use Rattle.json_text.specs.Spans.{text_at}
use Rattle.json_text.specs.Table.{after_at, kind_at, members_at, start_at, value_at, values_at}
use Rattle.members.proofs.Conditions.{first_of}
use Rattle.members.proofs.Shapes.{array_at, object_at, tag, tagged}
use Rattle.members.proofs.Walks.{OverMembers, OverNodes, a_member, an_element, element_on, full_nodes, no_element, no_member, on}
use Rattle.members.specs.Answers.{fault_is}
use Rattle.members.specs.declared.told.Fault.{Fault}
use Rattle.members.specs.declared.told.Fault.TheVariants as faults
use Rattle.members.specs.Condition.{Condition, condition}
use Rattle.members.specs.Sheet.{Holds, each_under, held_by, holders, in_array, itself, member_of, member_of_each, sound, written}
use Rattle.members.specs.Verdicts.{fault_of}

abbrev pub soundness : List Value → Option Refusal
soundness vs = fault_of (sound vs)

pub sound_none : soundness [] ≡ None
unfolding sound
sound_none = refl

pub sound_append : (xs ys : List Value) → soundness (xs ++ ys) ≡ first_of (soundness xs) (soundness ys)
unfolding sound
sound_append [] ys = refl
sound_append (v ∷ xs) ys = go (condition v) (sound_append xs ys)
  where
    go : (c : Result Condition) → soundness (xs ++ ys) ≡ first_of (soundness xs) (soundness ys) →
        fault_of (c >>= (λ _. sound (xs ++ ys))) ≡ first_of (fault_of (c >>= (λ _. sound xs))) (soundness ys)
    go (ok a) below = below
    go (refused r) below = refl

pub sound_one : (v : Value) → soundness (v ∷ []) ≡ fault_of (condition v)
unfolding sound
sound_one v = go (condition v)
  where
    go : (c : Result Condition) → fault_of (c >>= (λ _. sound [])) ≡ fault_of c
    go (ok a) = refl
    go (refused r) = refl

-- ---- one element
no_member_of : (key : Bytes) (v : Value) → (tag v ≡ 6 → ⊥) → member_of key v ≡ []
no_member_of key null h = refl
no_member_of key (bool true) h = refl
no_member_of key (bool false) h = refl
no_member_of key (number s) h = refl
no_member_of key (text s) h = refl
no_member_of key (array vs) h = refl
no_member_of key (object ms) h = absurd (h refl)

abbrev pub one_of : Option Value → List Value
one_of None = []
one_of (Some v) = v ∷ []

pub member_of_lem : (key : Bytes) (ms : Members) → member_of key (object ms) ≡ one_of (find key (entries ms))
member_of_lem key ms = go (find key (entries ms))
  where
    go : (o : Option Value) → elim o [ None ↦ [] | Some w ↦ w ∷ [] ] ≡ one_of o
    go None = refl
    go (Some v) = refl

module _ {s : Bytes} {w : List ℕ} {n : ℕ} (h : IsNode s w 64 n) (k : ℕ) (p : k ≡ kind_at w n) (key : Bytes) where
  pub under_none : (k ≡ 6 → ⊥) → soundness (member_of key (value_at s w n)) ≡ None
  under_none f = ap soundness (no_member_of key (value_at s w n) (λ q. f (tagged h k p ∙ q))) ∙ sound_none

  module _ (q : k ≡ 6) (e : ℕ) (j : e ≡ after_at w n) (r : Option ℕ) (t : find key (entries (members_at s w (n + 1) e)) ≡ found_of s w r) where
    under_is : member_of key (value_at s w n) ≡ one_of (found_of s w r)
    under_is = ap (member_of key) ((object_at h (sym p ∙ q)).0 ∙ ap (λ (x : ℕ). object (members_at s w (n + 1) x)) (sym j)) ∙ member_of_lem key (members_at s w (n + 1) e) ∙ ap one_of t

    pub under_missing : r ≡ None → soundness (member_of key (value_at s w n)) ≡ None
    unfolding found_of
    under_missing f = ap soundness (under_is ∙ ap (λ (x : Option ℕ). one_of (found_of s w x)) f) ∙ sound_none

    pub under_found : (m : ℕ) {o : Option Refusal} → r ≡ Some m → fault_of (condition (value_at s w m)) ≡ o → soundness (member_of key (value_at s w n)) ≡ o
    unfolding found_of
    under_found m f g = ap soundness (under_is ∙ ap (λ (x : Option ℕ). one_of (found_of s w x)) f) ∙ sound_one (value_at s w m) ∙ g

  -- ---- the elements of an array
  pub each_none : (k ≡ 5 → ⊥) → soundness (in_array key (value_at s w n)) ≡ None
  each_none f = ap soundness (go (value_at s w n) (λ q. f (tagged h k p ∙ q))) ∙ sound_none
    where
      go : (v : Value) → (tag v ≡ 5 → ⊥) → in_array key v ≡ []
      go null g = refl
      go (bool true) g = refl
      go (bool false) g = refl
      go (number t) g = refl
      go (text t) g = refl
      go (array vs) g = absurd (g refl)
      go (object ms) g = refl

  pub over_each : k ≡ 5 → (e : ℕ) → e ≡ after_at w n → OverNodes s w 64 e (soundness (in_array key (value_at s w n))) (λ vs. soundness (member_of_each key (elements vs))) (n + 1)
  over_each q e j =
      let x = array_at h (sym p ∙ q) in
      record {
        nodes = subst (AreNodes s w 64 (n + 1)) (sym j) (full_nodes x.1);
        rest = ap (λ (v : Value). soundness (in_array key v)) (x.0 ∙ ap (λ (y : ℕ). array (values_at s w (n + 1) y)) (sym j));
      }

module _ {s : Bytes} {w : List ℕ} {e : ℕ} {whole : Option Refusal} (key : Bytes) {k : ℕ} (l : OverNodes s w 64 e whole (λ vs. soundness (member_of_each key (elements vs))) k) where
  pub each_sound : e ≤ k → whole ≡ None
  unfolding member_of_each
  each_sound g = no_element l g ∙ sound_none

  module _ (g : k < e) {o : Option Refusal} (f : soundness (member_of key (value_at s w k)) ≡ o) where
    each_here : whole ≡ first_of o (soundness (member_of_each key (elements (values_at s w (after_at w k) e))))
    unfolding member_of_each
    each_here =
        an_element l g ∙
        sound_append (member_of key (value_at s w k)) (member_of_each key (elements (values_at s w (after_at w k) e))) ∙
        ap (λ (x : Option Refusal). first_of x (soundness (member_of_each key (elements (values_at s w (after_at w k) e))))) f

    pub each_fault : (r : Fault) → o ≡ fault_is (Err r) → whole ≡ fault_is (Err r)
    unfolding fault_is
    each_fault faults.Shape i = each_here ∙ ap (λ (x : Option Refusal). first_of x (soundness (member_of_each key (elements (values_at s w (after_at w k) e))))) i
    each_fault faults.NotCarried i = each_here ∙ ap (λ (x : Option Refusal). first_of x (soundness (member_of_each key (elements (values_at s w (after_at w k) e))))) i

    pub each_on : o ≡ None → (k' : ℕ) → k' ≡ after_at w k → OverNodes s w 64 e whole (λ vs. soundness (member_of_each key (elements vs))) k'
    each_on i k' j = element_on l g k' j (each_here ∙ ap (λ (x : Option Refusal). first_of x (soundness (member_of_each key (elements (values_at s w (after_at w k) e))))) i)

-- ---- a member of the sheet, by its name
module _ (t : Bytes) (v : Value) {o : Option Refusal} where
  held_as : {h : Option Holds} → find t holders ≡ h → soundness (held_by h v) ≡ o → soundness (held_by (find t holders) v) ≡ o
  held_as e f = ap (λ (x : Option Holds). soundness (held_by x v)) e ∙ f

  pub held_itself : same_bytes t (ascii "condition") ≡ true → fault_of (condition v) ≡ o → soundness (held_by (find t holders) v) ≡ o
  unfolding find
  held_itself p f = held_as {h = Some itself} (rw (p, find)) (sound_one v ∙ f)

  module _ (n : same_bytes t (ascii "condition") ≡ false) where
    pub held_first : same_bytes t (ascii "preconditions") ≡ true → soundness (in_array (ascii "assert") v) ≡ o → soundness (held_by (find t holders) v) ≡ o
    unfolding find
    held_first p f = held_as {h = Some (each_under (ascii "assert"))} (rw (n, p, find)) f

    module _ (m : same_bytes t (ascii "preconditions") ≡ false) where
      pub held_second : same_bytes t (ascii "invariants") ≡ true → soundness (in_array (ascii "assert") v) ≡ o → soundness (held_by (find t holders) v) ≡ o
      unfolding find
      held_second p f = held_as {h = Some (each_under (ascii "assert"))} (rw (n, m, p, find)) f

      module _ (l : same_bytes t (ascii "invariants") ≡ false) where
        pub held_third : same_bytes t (ascii "outcomes") ≡ true → soundness (in_array (ascii "when") v) ≡ o → soundness (held_by (find t holders) v) ≡ o
        unfolding find
        held_third p f = held_as {h = Some (each_under (ascii "when"))} (rw (n, m, l, p, find)) f

        pub held_nothing : same_bytes t (ascii "outcomes") ≡ false → None ≡ o → soundness (held_by (find t holders) v) ≡ o
        unfolding find
        held_nothing p f = held_as {h = None} (rw (n, m, l, p, find)) (sound_none ∙ f)

-- ---- the sheet's members
abbrev pub soundness_of : Members → Option Refusal
soundness_of ms = soundness (written (entries ms))

module _ {s : Bytes} {w : List ℕ} {e : ℕ} {whole : Option Refusal} {k : ℕ} (l : OverMembers s w e whole soundness_of k) where
  pub all_sound : e ≤ k → whole ≡ None
  unfolding written
  all_sound g = no_member l g ∙ sound_none

  module _ (g : k < e) (a : ℕ) (q : a ≡ start_at w k) {o : Option Refusal} (f : soundness (held_by (find (text_at s a) holders) (value_at s w (k + 1))) ≡ o) where
    held_here : whole ≡ first_of o (soundness_of (members_at s w (after_at w (k + 1)) e))
    unfolding written
    held_here =
        a_member l g a q ∙
        sound_append (held_by (find (text_at s a) holders) (value_at s w (k + 1))) (written (entries (members_at s w (after_at w (k + 1)) e))) ∙
        ap (λ (x : Option Refusal). first_of x (soundness_of (members_at s w (after_at w (k + 1)) e))) f

    pub held_fault : (r : Fault) → o ≡ fault_is (Err r) → whole ≡ fault_is (Err r)
    unfolding fault_is
    held_fault faults.Shape i = held_here ∙ ap (λ (x : Option Refusal). first_of x (soundness_of (members_at s w (after_at w (k + 1)) e))) i
    held_fault faults.NotCarried i = held_here ∙ ap (λ (x : Option Refusal). first_of x (soundness_of (members_at s w (after_at w (k + 1)) e))) i

    pub held_on : o ≡ None → (k' : ℕ) → k' ≡ after_at w (k + 1) → OverMembers s w e whole soundness_of k'
    held_on i k' j = on l g k' j (held_here ∙ ap (λ (x : Option Refusal). first_of x (soundness_of (members_at s w (after_at w (k + 1)) e))) i)
