-- What a node is by its kind's number, and what that says of its value as a member.
-- Assumes nothing.
use mathlib.Core.Bool.{Bool, false, not, true, ◌||◌}
use mathlib.Core.List.{List, [], ◌∷◌}
use mathlib.Core.Path.{ap, refl, subst, sym, ◌∙◌, ◌≡◌}
use Prim.Native.Nat.{ℕ, ◌+◌, ◌-◌, ◌<◌, ◌≤◌}
use native.Mathlib.Omega.{arith}
use lib.Dec.{eqb}
use lib.Seq.{slice}
use borrow.Author.Tests.{eq-eqb, ne_eqb}
use Rattle.json_text.proofs.Walk.{View, is_array, is_object, is_plain, view}
use Rattle.json_text.specs.Bytes.{Bytes, choose}
use Rattle.json_text.specs.Fits.{FitsLeaf, Numeral, Text}
use Rattle.json_text.specs.Held.{AreMembers, AreNodes, IsNode}
use Rattle.json_text.specs.Json.{Value, array, bool, null, number, object, text}
use Rattle.json_text.specs.Refusal.{Result, ok, refused, wrong_sheet}
use Rattle.json_text.specs.Spans.{Plain, plain, text_at}
use Rattle.json_text.specs.Table.{after_at, code, end_at, kind_at, members_at, start_at, value_at, values_at}
use Rattle.members.proofs.Verdicts.{array_ok_lem}
use Rattle.members.specs.Kinds.{a_bool, a_text, a_version, an_array_of, an_object, is_version, not_null, some_texts}
use Rattle.members.specs.Verdicts.{is_ok}
use denote.Enum.Bare.{differs_false, differs_true, false_same, sameb}
use Rattle.strings.proofs.KindCodes.{is_kind, is_other}
use Rattle.strings.specs.Answers.{code_of}
use Rattle.strings.specs.contracts.rows.Kind.{the_type}
use Rattle.strings.specs.declared.rows.Kind.{Kind}
use Rattle.strings.specs.declared.rows.Kind.TheVariants as kinds
use mathlib.Core.Logic.{inl, inr, ◌⊎◌}
use Rattle.members.specs.Wants.{array_where}

-- a value's kind, by number
abbrev pub tag : Value → ℕ
tag null = 0
tag (bool true) = 1
tag (bool false) = 2
tag (number s) = 3
tag (text s) = 4
tag (array vs) = 5
tag (object ms) = 6

code_low : (k : Plain) → code k < 5
code_low Plain.is_null = omega arith
code_low Plain.is_true = omega arith
code_low Plain.is_false = omega arith
code_low Plain.is_number = omega arith
code_low Plain.is_text = omega arith

-- the kind of a code
unfoldable uncode : ℕ → Plain
uncode c = choose ((eqb c 0, Plain.is_null) ∷ (eqb c 1, Plain.is_true) ∷ (eqb c 2, Plain.is_false) ∷ (eqb c 3, Plain.is_number) ∷ []) Plain.is_text

coded : (k : Plain) → uncode (code k) ≡ k
unfolding uncode
coded Plain.is_null = refl
coded Plain.is_true = refl
coded Plain.is_false = refl
coded Plain.is_number = refl
coded Plain.is_text = refl

same_code : (k j : Plain) → code k ≡ code j → k ≡ j
same_code k j e = sym (coded k) ∙ ap uncode e ∙ coded j

plain_tag : (s : Bytes) (k : Plain) (a e : ℕ) → code k ≡ tag (plain s k a e)
unfolding plain
plain_tag s Plain.is_null a e = refl
plain_tag s Plain.is_true a e = refl
plain_tag s Plain.is_false a e = refl
plain_tag s Plain.is_number a e = refl
plain_tag s Plain.is_text a e = refl

module _ {s : Bytes} {w : List ℕ} {left n : ℕ} (h : IsNode s w left n) where
  pub tag_at : kind_at w n ≡ tag (value_at s w n)
  tag_at = go (view s w h)
    where
      go : View s w left n → kind_at w n ≡ tag (value_at s w n)
      go (is_plain k p a v f) = p ∙ plain_tag s k (start_at w n) (end_at w n) ∙ ap tag (sym v)
      go (is_array p q v m) = p ∙ ap tag (sym v)
      go (is_object p q v m) = p ∙ ap tag (sym v)

  -- a node without brackets is what its kind says
  plain_at : (j : Plain) → kind_at w n ≡ code j → (value_at s w n ≡ plain s j (start_at w n) (end_at w n)) × FitsLeaf s j (start_at w n) (end_at w n)
  plain_at j e = go (view s w h)
    where
      go : View s w left n → (value_at s w n ≡ plain s j (start_at w n) (end_at w n)) × FitsLeaf s j (start_at w n) (end_at w n)
      go (is_plain k p a v f) = subst (λ (x : Plain). (value_at s w n ≡ plain s x (start_at w n) (end_at w n)) × FitsLeaf s x (start_at w n) (end_at w n)) (same_code k j (sym p ∙ e)) (v, f)
      go (is_array p q v m) = absurd (omega (arith, code_low j))
      go (is_object p q v m) = absurd (omega (arith, code_low j))

  pub number_at : kind_at w n ≡ 3 → (value_at s w n ≡ number (slice (start_at w n) (end_at w n) s)) × Numeral s (start_at w n) (end_at w n)
  unfolding plain
  number_at e = plain_at Plain.is_number e

  pub text_at_lem : kind_at w n ≡ 4 → (value_at s w n ≡ text (text_at s (start_at w n))) × Text s (start_at w n) (end_at w n)
  unfolding plain
  text_at_lem e = plain_at Plain.is_text e

  pub array_at : kind_at w n ≡ 5 → (value_at s w n ≡ array (values_at s w (n + 1) (after_at w n))) × AreNodes s w (left - 1) (n + 1) (after_at w n) × (1 ≤ left)
  array_at e = go (view s w h)
    where
      go : View s w left n → (value_at s w n ≡ array (values_at s w (n + 1) (after_at w n))) × AreNodes s w (left - 1) (n + 1) (after_at w n) × (1 ≤ left)
      go (is_plain k p a v f) = absurd (omega (arith, code_low k))
      go (is_array p q v m) = (v, m, q)
      go (is_object p q v m) = absurd (omega arith)

  pub object_at : kind_at w n ≡ 6 → (value_at s w n ≡ object (members_at s w (n + 1) (after_at w n))) × AreMembers s w (left - 1) (n + 1) (after_at w n) × (1 ≤ left)
  object_at e = go (view s w h)
    where
      go : View s w left n → (value_at s w n ≡ object (members_at s w (n + 1) (after_at w n))) × AreMembers s w (left - 1) (n + 1) (after_at w n) × (1 ≤ left)
      go (is_plain k p a v f) = absurd (omega (arith, code_low k))
      go (is_array p q v m) = absurd (omega arith)
      go (is_object p q v m) = (v, m, q)

-- ---- a row's kind compared with another, by the codes
pub same_kind : (k q : Kind) {n : ℕ} → code_of k ≡ n → sameb the_type k q ≡ eqb n (code_of q)
same_kind k q {n = n} e = go (sameb the_type k q) refl
  where
    go : (b : Bool) → sameb the_type k q ≡ b → b ≡ eqb n (code_of q)
    go true h = sym (eq-eqb n (code_of q) (is_kind k q e (sym h)))
    go false h = sym (ne_eqb n (code_of q) (is_other k q e (sym h)))

pub other_code : (k q : Kind) → (k ≡ q → ⊥) → code_of k ≡ code_of q → ⊥
other_code k q f = is_other k q refl (sym (false_same the_type tt k q f))

-- ..and what `!=` says of them
pub alike : (k q : Kind) → false ≡ not (sameb the_type k q) → code_of k ≡ code_of q
alike k q h = ap code_of (differs_false the_type tt k q (sym h))

pub unlike : (k q : Kind) → true ≡ not (sameb the_type k q) → code_of k ≡ code_of q → ⊥
unlike k q h = other_code k q (differs_true the_type k q (sym h))

-- ---- what is wanted of a member, by the kind's number
pub text_tag : (v : Value) → eqb (tag v) 4 ≡ is_ok (a_text v)
text_tag null = refl
text_tag (bool true) = refl
text_tag (bool false) = refl
text_tag (number s) = refl
text_tag (text s) = refl
text_tag (array vs) = refl
text_tag (object ms) = refl

pub bool_tag : (v : Value) → (eqb (tag v) 1 || eqb (tag v) 2) ≡ is_ok (a_bool v)
bool_tag null = refl
bool_tag (bool true) = refl
bool_tag (bool false) = refl
bool_tag (number s) = refl
bool_tag (text s) = refl
bool_tag (array vs) = refl
bool_tag (object ms) = refl

-- of a kind that is one of two, or neither
unfoldable pub is_either : Kind → Bool
is_either k = eqb (code_of k) 1 || eqb (code_of k) 2

pub either : (k : Kind) → (k ≡ kinds.True) ⊎ (k ≡ kinds.False) → true ≡ is_either k
unfolding is_either
either k (inl e) = sym (ap is_either e)
either k (inr e) = sym (ap is_either e)

pub neither : (k : Kind) → (k ≡ kinds.True → ⊥) → (k ≡ kinds.False → ⊥) → false ≡ is_either k
unfolding is_either
neither k f g = sym (rw (ne_eqb _ 1 (other_code k kinds.True f), ne_eqb _ 2 (other_code k kinds.False g)))

pub code_bool : (k : Kind) (v : Value) → code_of k ≡ tag v → is_either k ≡ is_ok (a_bool v)
unfolding is_either
code_bool k v e = ap {B = Bool} (λ (n : ℕ). eqb n 1 || eqb n 2) e ∙ bool_tag v

pub object_tag : (v : Value) → eqb (tag v) 6 ≡ is_ok (an_object v)
object_tag null = refl
object_tag (bool true) = refl
object_tag (bool false) = refl
object_tag (number s) = refl
object_tag (text s) = refl
object_tag (array vs) = refl
object_tag (object ms) = refl

pub present_tag : (v : Value) → not (eqb (tag v) 0) ≡ is_ok (not_null v)
present_tag null = refl
present_tag (bool true) = refl
present_tag (bool false) = refl
present_tag (number s) = refl
present_tag (text s) = refl
present_tag (array vs) = refl
present_tag (object ms) = refl

pub no_version : (v : Value) → (tag v ≡ 3 → ⊥) → false ≡ is_ok (a_version v)
unfolding a_version
no_version null h = refl
no_version (bool true) h = refl
no_version (bool false) h = refl
no_version (number s) h = absurd (h refl)
no_version (text s) h = refl
no_version (array vs) h = refl
no_version (object ms) h = refl

pub version_of : (t : Bytes) → is_version t ≡ is_ok (a_version (number t))
unfolding a_version
version_of t = pick (is_version t)
  where
    pick : (b : Bool) → b ≡ is_ok {A = Bytes} (elim b [ true ↦ ok t | false ↦ refused wrong_sheet ])
    pick true = refl
    pick false = refl

-- an array by a test of its elements, alone or where one text could stand
pub array_test : {A : Type 0} (kind : Value → Result A) (v : Value) → array_where (λ w. is_ok (kind w)) v ≡ is_ok (an_array_of kind v)
array_test kind null = refl
array_test kind (bool b) = refl
array_test kind (number s) = refl
array_test kind (text s) = refl
array_test kind (array vs) = sym (array_ok_lem kind vs)
array_test kind (object ms) = refl

pub no_array : (p : Value → Bool) (v : Value) → (tag v ≡ 5 → ⊥) → false ≡ array_where p v
no_array p null h = refl
no_array p (bool b) h = refl
no_array p (number s) h = refl
no_array p (text s) h = refl
no_array p (array vs) h = absurd (h refl)
no_array p (object ms) h = refl

pub text_or_texts : (v : Value) {b : Bool} → b ≡ is_ok (a_text v) → (b || is_ok (an_array_of a_text v)) ≡ is_ok (some_texts v)
text_or_texts v e = ap (λ (c : Bool). c || is_ok (an_array_of a_text v)) e ∙ go v
  where
    go : (x : Value) → (is_ok (a_text x) || is_ok (an_array_of a_text x)) ≡ is_ok (some_texts x)
    go null = refl
    go (bool c) = refl
    go (number s) = refl
    go (text s) = refl
    go (array vs) = refl
    go (object ms) = refl

-- a kind that code has read is the value's
module _ {s : Bytes} {w : List ℕ} {left n : ℕ} (h : IsNode s w left n) (k : ℕ) (p : k ≡ kind_at w n) where
  pub tagged : k ≡ tag (value_at s w n)
  tagged = p ∙ tag_at h
