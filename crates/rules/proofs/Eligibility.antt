-- Whether an outcome is eligible, from the nodes of its members.
-- Assumes nothing.
use mathlib.Core.Bool.{Bool, false, not, true, ◌&&◌}
use mathlib.Core.List.{List}
use Rattle.std.specs.Prelude.{MatchOption, Option, None, Some}
use denote.Enum.Bare.{sameb}
use borrow.Author.Tests.{eqb-true}
use Rattle.strings.proofs.KindCodes.{is_kind, is_other}
use Rattle.strings.specs.Answers.{code_of}
use Rattle.strings.specs.contracts.rows.Kind.{the_type}
use Rattle.strings.specs.declared.rows.Kind.{Kind}
use Rattle.strings.specs.declared.rows.Kind.TheVariants as kinds
use mathlib.Core.Path.{ap, refl, subst, sym, ◌∙◌, ◌≡◌}
use Prim.Native.Nat.{ℕ, ◌*◌, ◌+◌, ◌<◌, ◌≤◌}
use lib.Dec.{eqb}
use lib.ListN.{length}
use Rattle.json_text.specs.Bytes.{Bytes, same_bytes}
use Rattle.json_text.specs.Cursor.{OnText}
use Rattle.json_text.specs.Json.{Value, array, bool, null, number, object, text}
use Rattle.json_text.specs.Refusal.{Result, ok, wrong_sheet}
use Rattle.json_text.specs.Sorted.{sorted}
use Rattle.json_text.specs.Spans.{text_at}
use Rattle.json_text.specs.Table.{kind_at, start_at, value_at}
use Rattle.sheet.proofs.Given.{text_given}
use Rattle.members.proofs.Verdicts.{never}
use Rattle.members.proofs.Shapes.{tag, tag_at}
use Rattle.members.proofs.Walks.{room}
use Rattle.sheet.specs.Accepted.{Gives, MayGive, OutcomeGives}
use Rattle.members.specs.Condition.{Condition}
use Rattle.members.specs.Kinds.{a_bool, a_text}
use Rattle.members.specs.Outcome.{Outcome, or_false}
use Rattle.sheet.specs.declared.outcome.OutcomeMembers.{OutcomeMembers}
use Rattle.sheet.specs.Accepted.{Known}
use Rattle.answers.specs.Outcomes.{eligible, fits}

-- ---- a member that may be missing
module _ {A : Type 0} (kind : Value → Result A) (s : Bytes) (w : List ℕ) {f : Option ℕ} where
  pub missing : {o : Option A} → f ≡ None → MayGive kind s w f o → o ≡ None
  unfolding MayGive
  missing {o} q g = subst (λ (x : Option ℕ). MayGive kind s w x o) q g

  pub there : {o : Option A} (n : ℕ) → f ≡ Some n → MayGive kind s w f o → (a : A) × (o ≡ Some a) × Gives kind s w n a
  unfolding MayGive
  there {o} n q g = subst (λ (x : Option ℕ). MayGive kind s w x o) q g

  pub there_room : (n : ℕ) → f ≡ Some n → Known (MayGive kind s w f) → (3 * n + 3 ≤ length w) × (n < 4096)
  there_room n q g = room (there n q g.known).2.node

-- ---- true or false
bool_given : {s : Bytes} {w : List ℕ} {n : ℕ} {b : Bool} → Gives a_bool s w n b → eqb (kind_at w n) 1 ≡ b
unfolding sorted
bool_given {s} {w} {n} {b} g = go (value_at s w n) refl
  where
    is : (v : Value) → value_at s w n ≡ v → a_bool (sorted v) ≡ ok b
    is v q = sym (ap (λ (u : Value). a_bool (sorted u)) q) ∙ g.is

    kind : (v : Value) → value_at s w n ≡ v → eqb (kind_at w n) 1 ≡ eqb (tag v) 1
    kind v q = ap {B = Bool} (λ (k : ℕ). eqb k 1) (tag_at g.node ∙ ap tag q)

    go : (v : Value) → value_at s w n ≡ v → eqb (kind_at w n) 1 ≡ b
    go null q = never wrong_sheet b (is null q)
    go (bool true) q = let i : ◌≡◌ {A = Result Bool} (ok true) (ok b) = is (bool true) q in let z : true ≡ b = cc in kind (bool true) q ∙ z
    go (bool false) q = let i : ◌≡◌ {A = Result Bool} (ok false) (ok b) = is (bool false) q in let z : false ≡ b = cc in kind (bool false) q ∙ z
    go (number d) q = never wrong_sheet b (is (number d) q)
    go (text t) q = never wrong_sheet b (is (text t) q)
    go (array vs) q = never wrong_sheet b (is (array vs) q)
    go (object ms) q = never wrong_sheet b (is (object ms) q)

module _ (w : List ℕ) {f : Option ℕ} where
  pub never_true : f ≡ None → (s : Bytes) (b : Option Bool) → MayGive a_bool s w f b → false ≡ or_false b
  never_true q s b g = ap {B = Bool} or_false (sym (missing a_bool s w q g))

  pub as_it_is_lem : (n : ℕ) → f ≡ Some n → (r : Bool) → r ≡ eqb (kind_at w n) 1 → (s : Bytes) (b : Option Bool) → MayGive a_bool s w f b → r ≡ or_false b
  as_it_is_lem n q r i s b g = let t = there a_bool s w n q g in i ∙ bool_given t.2 ∙ ap {B = Bool} or_false (sym t.1)

-- whether it is there and true, by its kind
flag_is : (k : Kind) (n : ℕ) → code_of k ≡ n → (r : Bool) → r ≡ sameb the_type k kinds.True → r ≡ eqb n 1
flag_is k n e true h = sym (ap {B = Bool} (λ (x : ℕ). eqb x 1) (is_kind k kinds.True e h))
flag_is k n e false h = go (eqb n 1) refl
  where
    go : (b : Bool) → eqb n 1 ≡ b → false ≡ b
    go true q = absurd (is_other k kinds.True e h (eqb-true n 1 q))
    go false q = refl

pub flag_told :
    (w : List ℕ) (f : Option ℕ) (r : Bool) → MatchOption f (r ≡ false) (λ n. (k : Kind) × ((code_of k ≡ kind_at w n) × (r ≡ sameb the_type k kinds.True))) →
    (s : Bytes) (b : Option Bool) → MayGive a_bool s w f b → r ≡ or_false b
flag_told w None r h s b g = h ∙ never_true w refl s b g
flag_told w (Some n) r h s b g = as_it_is_lem w n refl r (flag_is h.0 (kind_at w n) h.1.0 r h.1.1) s b g

-- ---- states
module _ (s : Bytes) (w : List ℕ) {f : Option ℕ} where
  pub state_text : {o : Option Bytes} (n : ℕ) → f ≡ Some n → MayGive a_text s w f o → {a : ℕ} → a ≡ start_at w n → o ≡ Some (text_at s a)
  state_text n q g p = let t = there a_text s w n q g in t.1 ∙ ap Some ((text_given t.2).bytes ∙ ap (text_at s) (sym p))

  pub state_on_text : (n : ℕ) → f ≡ Some n → Known (MayGive a_text s w f) → {a : ℕ} → a ≡ start_at w n → OnText s a 0
  state_on_text n q g p = subst (λ (y : ℕ). OnText s y 0) (sym p) (text_given (there a_text s w n q g.known).2).on_text

  pub no_own : f ≡ None → (i t : Option Bytes) → MayGive a_text s w f i → true ≡ fits i t
  no_own q i t g = ap (λ (x : Option Bytes). fits x t) (sym (missing a_text s w q g))

  module _ {f' : Option ℕ} (m : ℕ) (p : f ≡ Some m) where
    pub no_state : f' ≡ None → (i t : Option Bytes) → MayGive a_text s w f i → MayGive a_text s w f' t → true ≡ fits i t
    no_state q i t g h = let a = there a_text s w m p g in sym (ap (λ (x : Option Bytes). fits x t) a.1 ∙ ap (fits (Some a.0)) (missing a_text s w q h))

    pub both_states :
        {a b n : ℕ} → f' ≡ Some n → a ≡ start_at w m → b ≡ start_at w n → (r : Bool) → r ≡ same_bytes (text_at s a) (text_at s b) →
        (i t : Option Bytes) → MayGive a_text s w f i → MayGive a_text s w f' t → r ≡ fits i t
    both_states {a} {b} {n} q u v r e i t g h = e ∙ sym (ap (λ (x : Option Bytes). fits x t) (state_text m p g u) ∙ ap (fits (Some (text_at s a))) (it h))
      where
        it : MayGive a_text s w f' t → t ≡ Some (text_at s b)
        it y = let z = there a_text s w n q y in z.1 ∙ ap Some ((text_given z.2).bytes ∙ ap (text_at s) (sym v))

-- ---- eligible
module _ (s : Bytes) (w : List ℕ) {m : OutcomeMembers} where
  pub not_eligible : ((s : Bytes) (b : Option Bool) → MayGive a_bool s w m.wrong_state b → true ≡ or_false b) →
      (o : Outcome Condition) (t : Option Bytes) → OutcomeGives s w m o → false ≡ eligible t o
  unfolding eligible
  not_eligible q o t g = ap {B = Bool} (λ (b : Bool). not b && fits o.in_state t) (q s g.wrong g.wrong_state ∙ sym g.is_wrong)

  pub as_fits : ((s : Bytes) (b : Option Bool) → MayGive a_bool s w m.wrong_state b → false ≡ or_false b) →
      (o : Outcome Condition) (t : Option Bytes) → OutcomeGives s w m o → fits o.in_state t ≡ eligible t o
  unfolding eligible
  as_fits q o t g = ap {B = Bool} (λ (b : Bool). not b && fits o.in_state t) (q s g.wrong g.wrong_state ∙ sym g.is_wrong)
