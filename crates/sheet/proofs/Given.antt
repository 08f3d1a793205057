-- From the node that gives a member further down: texts, numbers, objects, lists, rules, outcomes and moves of an accepted sheet, and where they stand.
-- Assumes nothing.
use mathlib.Core.Bool.{Bool, false, true, ◌&&◌}
use mathlib.Core.List.{List, [], ◌∷◌}
use Rattle.std.specs.Prelude.{Option, None, Some}
use mathlib.Core.Path.{ap, refl, subst, sym, ◌∙◌, ◌≡◌}
use Prim.Native.Nat.{ℕ, ◌+◌, ◌<◌, ◌≤◌}
use native.Mathlib.Omega.{arith}
use lib.Seq.{slice}
use Rattle.json_text.proofs.Laws.{bind_ok}
use Rattle.json_text.proofs.Walk.{values_done, values_more}
use Rattle.strings.specs.Answers.{FoundTold, found_of}
use Rattle.json_text.specs.Bytes.{Bytes, ascii, find, same_bytes}
use Rattle.json_text.specs.Cursor.{OnText}
use Rattle.json_text.specs.Held.{AreMembers, IsNode}
use Rattle.json_text.specs.Json.{Members, Value, Values, array, bool, cons, elements, entries, keys, null, number, object, text}
use Rattle.json_text.specs.Limits.{max_number, tidy, tidy_in, tidy_of}
use Rattle.json_text.specs.Refusal.{Result, ok, or_else, refused, wrong_sheet, ◌>>=◌}
use Rattle.json_text.specs.Sorted.{sorted, sorted_in, sorted_of}
use Rattle.json_text.specs.Spans.{text_at}
use Rattle.json_text.specs.Table.{after_at, end_at, kind_at, members_at, start_at, value_at, values_at}
use Rattle.sheet.proofs.Accepted.{gives, may_give}
use Rattle.members.proofs.Shapes.{array_at, number_at, object_at, tag, tag_at, text_at_lem}
use Rattle.sheet.proofs.SortedKinds.{Okay, a_text_sorted, a_version_sorted, bind_inv}
use Rattle.sheet.proofs.SortedMembers.{and_first, and_second, find_sorted, mapped}
use Rattle.members.proofs.Walks.{full_members, full_nodes}
use Rattle.members.proofs.Verdicts.{never}
use Rattle.sheet.specs.Accepted.{EachGives, Given, Gives, MoveGives, OutcomeGives, RuleGives, node_of}
use Rattle.members.specs.Condition.{Condition, condition}
use Rattle.members.specs.Kinds.{a_bool, a_text, a_version, an_array_of, an_object, each_of, is_version, only, optional, required, some_texts}
use Rattle.sheet.specs.Named.{MoveNamed, OutcomeNamed, RuleNamed}
use Rattle.members.specs.Outcome.{Effect, Outcome, a_move, an_effect, an_outcome, effect_words, moves, or_false, or_stays, stays}
use Rattle.members.specs.Rule.{Rule, a_rule}
use Rattle.sheet.specs.declared.outcome.MoveMembers.{MoveMembers}
use Rattle.sheet.specs.declared.outcome.OutcomeMembers.{OutcomeMembers}
use Rattle.sheet.specs.declared.rule.RuleMembers.{RuleMembers}

-- ---- what a value is, once a kind gives something
is_text_lem : (v : Value) (t : Bytes) → a_text v ≡ ok t → v ≡ text t
is_text_lem null t e = never wrong_sheet t e
is_text_lem (bool b) t e = never wrong_sheet t e
is_text_lem (number s) t e = never wrong_sheet t e
is_text_lem (text s) t e = let q : s ≡ t = cc in ap text q
is_text_lem (array vs) t e = never wrong_sheet t e
is_text_lem (object ms) t e = never wrong_sheet t e

is_number : (v : Value) (t : Bytes) → a_version v ≡ ok t → v ≡ number t
unfolding a_version
is_number null t e = never wrong_sheet t e
is_number (bool b) t e = never wrong_sheet t e
is_number (number s) t e = ap number (go (is_version s) e)
  where
    go : (b : Bool) → ◌≡◌ {A = Result Bytes} (elim b [ true ↦ ok s | false ↦ refused wrong_sheet ]) (ok t) → s ≡ t
    go true i = cc
    go false i = never wrong_sheet t i
is_number (text s) t e = never wrong_sheet t e
is_number (array vs) t e = never wrong_sheet t e
is_number (object ms) t e = never wrong_sheet t e

-- a value whose sorted tree has members, or elements
is_object : {A : Type 0} (v : Value) (f : Members → Result A) → Okay (an_object (sorted v) >>= f) → (ms : Members) × (v ≡ object ms)
unfolding sorted
is_object null f o = never wrong_sheet o.0 o.1
is_object (bool b) f o = never wrong_sheet o.0 o.1
is_object (number s) f o = never wrong_sheet o.0 o.1
is_object (text s) f o = never wrong_sheet o.0 o.1
is_object (array vs) f o = never wrong_sheet o.0 o.1
is_object (object ms) f o = (ms, refl)

is_array : {A : Type 0} (v : Value) (kind : Value → Result A) → Okay (an_array_of kind (sorted v)) → (vs : Values) × (v ≡ array vs)
unfolding sorted
is_array null kind o = never wrong_sheet o.0 o.1
is_array (bool b) kind o = never wrong_sheet o.0 o.1
is_array (number s) kind o = never wrong_sheet o.0 o.1
is_array (text s) kind o = never wrong_sheet o.0 o.1
is_array (object ms) kind o = never wrong_sheet o.0 o.1
is_array (array vs) kind o = (vs, refl)

-- ---- texts and numbers: their bytes stand at the node
pub record TextHere (s : Bytes) (w : List ℕ) (n : ℕ) (t : Bytes) : Type 0 where
  pub is_kind : kind_at w n ≡ 4
  pub bytes : t ≡ text_at s (start_at w n)
  pub on_text : OnText s (start_at w n) 0

pub text_given : {s : Bytes} {w : List ℕ} {n : ℕ} {t : Bytes} → Gives a_text s w n t → TextHere s w n t
text_given {s} {w} {n} {t} g =
    let v = is_text_lem (value_at s w n) t (sym (a_text_sorted (value_at s w n)) ∙ g.is) in
    let k : kind_at w n ≡ 4 = tag_at g.node ∙ ap tag v in
    let x = text_at_lem g.node k in
    let b : t ≡ text_at s (start_at w n) = cc (v, x.0) in
    record { is_kind = k; bytes = b; on_text = record { stop = end_at w n; text = x.1; few = omega arith } }

pub version_given : {s : Bytes} {w : List ℕ} {n : ℕ} {d : Bytes} → Gives a_version s w n d → (kind_at w n ≡ 3) × (d ≡ slice (start_at w n) (end_at w n) s)
version_given {s} {w} {n} {d} g =
    let v = is_number (value_at s w n) d (sym (a_version_sorted (value_at s w n)) ∙ g.is) in
    let k : kind_at w n ≡ 3 = tag_at g.node ∙ ap tag v in
    let x = number_at g.node k in
    let b : d ≡ slice (start_at w n) (end_at w n) s = cc (v, x.0) in
    (k, b)

-- ---- objects: their members stand behind the node
pub record ObjectHere (s : Bytes) (w : List ℕ) (n : ℕ) : Type 0 where
  pub is_kind : kind_at w n ≡ 6
  pub members : AreMembers s w 64 (n + 1) (after_at w n)
  pub value : value_at s w n ≡ object (members_at s w (n + 1) (after_at w n))
  pub is_tidy : tidy_of max_number (members_at s w (n + 1) (after_at w n)) ≡ true

pub object_here : {s : Bytes} {w : List ℕ} {n : ℕ} → IsNode s w 64 n → tidy max_number (value_at s w n) ≡ true → (ms : Members) → value_at s w n ≡ object ms → ObjectHere s w n
unfolding tidy
object_here h t ms e =
    let k = tag_at h ∙ ap tag e in
    let x = object_at h k in
    record { is_kind = k; members = full_members x.1; value = x.0; is_tidy = sym (ap (tidy max_number) x.0) ∙ t }

pub object_given : {s : Bytes} {w : List ℕ} {n : ℕ} {ms : Members} → Gives an_object s w n ms → ObjectHere s w n × (ms ≡ sorted_of (members_at s w (n + 1) (after_at w n)))
unfolding sorted
object_given {s} {w} {n} {ms} g =
    let q = is_object (value_at s w n) (λ x. ok x) (ms, ap {B = Result Members} (λ y. y >>= (λ x. ok x)) g.is) in
    let x = object_here g.node g.is_tidy q.0 q.1 in
    let y : ◌≡◌ {A = Result Members} (ok (sorted_of (members_at s w (n + 1) (after_at w n)))) (ok ms) = sym (ap (λ (v : Value). an_object (sorted v)) x.value) ∙ g.is in
    let z : ms ≡ sorted_of (members_at s w (n + 1) (after_at w n)) = cc in
    (x, z)

-- ---- lists: the elements stand behind the node, one after the other
pub array_given : {A : Type 0} (kind : Value → Result A) {s : Bytes} {w : List ℕ} {n : ℕ} {xs : List A} → Gives (an_array_of kind) s w n xs →
    (kind_at w n ≡ 5) × EachGives kind s w (n + 1) (after_at w n) xs
unfolding sorted tidy
array_given kind {s} {w} {n} {xs} g =
    let q = is_array (value_at s w n) kind (xs, g.is) in
    let k = tag_at g.node ∙ ap tag q.1 in
    let x = array_at g.node k in
    (k, record { nodes = full_nodes x.1; is_tidy = sym (ap (tidy max_number) x.0) ∙ g.is_tidy; is = sym (ap (λ (v : Value). an_array_of kind (sorted v)) x.0) ∙ g.is })

pub record NextGives {A : Type 0} (kind : Value → Result A) (s : Bytes) (w : List ℕ) (k e : ℕ) (xs : List A) : Type 0 where
  pub first : A
  pub others : List A
  pub is_cons : xs ≡ first ∷ others
  pub here : Gives kind s w k first
  pub rest : EachGives kind s w (after_at w k) e others
  pub past : k < after_at w k
  pub upto : after_at w k ≤ e

module _ {A : Type 0} (kind : Value → Result A) {s : Bytes} {w : List ℕ} {k e : ℕ} {xs : List A} (g : EachGives kind s w k e xs) where
  pub each_done : e ≤ k → xs ≡ []
  unfolding each_of sorted_in
  each_done h =
      let y : ◌≡◌ {A = Result (List A)} (ok []) (ok xs) = sym
      (ap (λ (vs : Values). each_of kind (elements (sorted_in vs))) (values_done s w g.nodes h)) ∙
      g.is in let z : xs ≡ [] = cc in z

  pub each_next : k < e → NextGives kind s w k e xs
  unfolding each_of sorted_in tidy_in
  each_next h =
      let m = values_more s w g.nodes h in
      let a = bind_inv (kind (sorted (value_at s w k))) _ (xs, sym (ap (λ (vs : Values). each_of kind (elements (sorted_in vs))) m.value) ∙ g.is) in
      let b = bind_inv (each_of kind (elements (sorted_in (values_at s w (after_at w k) e)))) _ a.2 in
      let t : (tidy max_number (value_at s w k) && tidy_in max_number (values_at s w (after_at w k) e)) ≡ true = sym (ap (tidy_in max_number) m.value) ∙ g.is_tidy in
      record {
        first = a.0;
        others = b.0;
        is_cons = joined a.0 b.0 a.1 b.1 m.value;
        here = record { node = m.here; is_tidy = and_first (tidy max_number (value_at s w k)) _ t; is = a.1 };
        rest = record { nodes = m.others; is_tidy = and_second (tidy max_number (value_at s w k)) _ t; is = b.1 };
        past = m.past;
        upto = m.upto;
      }
    where
      joined : (x : A) (ys : List A) → kind (sorted (value_at s w k)) ≡ ok x →
          each_of kind (elements (sorted_in (values_at s w (after_at w k) e))) ≡ ok ys →
          values_at s w k e ≡ cons (value_at s w k) (values_at s w (after_at w k) e) → xs ≡ x ∷ ys
      joined x ys p q v =
          let y : each_of kind (elements (sorted_in (values_at s w k e))) ≡ ok (x ∷ ys) = ap (λ (vs : Values). each_of kind (elements (sorted_in vs))) v ∙ bind_ok _ p ∙ bind_ok _ q in
          let z : ◌≡◌ {A = Result (List A)} (ok xs) (ok (x ∷ ys)) = sym g.is ∙ y in
          let i : xs ≡ x ∷ ys = cc in
          i

-- ---- rules, outcomes and moves, by the nodes that were found
given :
    {A : Type 0} (kind : Value → Result A) {s : Bytes} {w : List ℕ} (ms : Members) (t : tidy_of max_number ms ≡ true) (k : Bytes) (r : Option ℕ)
    (f : FoundTold s w (find k (entries ms)) r) (a : A) → required kind k (sorted_of ms) ≡ ok a → Given kind s w r a
unfolding node_of found_of
given {A} kind {s} {w} ms t k r f a e = go r refl (gives kind ms t k r f a e)
  where
    go : (x : Option ℕ) → r ≡ x → Gives kind s w (node_of r) a → Given kind s w r a
    go None i g = missing (find k (entries (sorted_of ms))) refl
      where
        missing : (o : Option Value) → find k (entries (sorted_of ms)) ≡ o → Given kind s w r a
        missing o q = never wrong_sheet a (sym (ap {B = Result A} (λ y. or_else y wrong_sheet >>= kind) (find_sorted k ms t ∙ ap (mapped sorted) (f.answers ∙ ap (found_of s w) i))) ∙ e)
    go (Some n) i g = record { node = n; found = i; gives = subst (λ (x : ℕ). Gives kind s w x a) (ap node_of i) g }

rule_given_by :
    {s : Bytes} {w : List ℕ} (ms : Members) → tidy_of max_number ms ≡ true → (m : RuleMembers) → RuleNamed s w ms m → (r : Rule Condition) →
    a_rule condition (object (sorted_of ms)) ≡ ok r → RuleGives s w m r
unfolding a_rule
rule_given_by {s} {w} ms t m named r e =
    let a = bind_inv (only (ascii "assert" ∷ ascii "name" ∷ ascii "message" ∷ []) (keys (sorted_of ms))) _ (r, e) in
    let b = bind_inv (required condition (ascii "assert") (sorted_of ms)) _ a.2 in
    let c = bind_inv (optional a_text (ascii "name") (sorted_of ms)) _ b.2 in
    let d = bind_inv (optional a_text (ascii "message") (sorted_of ms)) _ c.2 in
    go b.0 c.0 d.0 b.1 c.1 d.1 (bind_ok _ a.1 ∙ bind_ok _ b.1 ∙ bind_ok _ c.1 ∙ bind_ok _ d.1)
  where
    go : (x : Condition) (y z : Option Bytes) → required condition (ascii "assert") (sorted_of ms) ≡ ok x →
        optional a_text (ascii "name") (sorted_of ms) ≡ ok y → optional a_text (ascii "message") (sorted_of ms) ≡ ok z →
        a_rule condition (object (sorted_of ms)) ≡ ok (record { name = y; message = z; assert = x }) → RuleGives s w m r
    go x y z i j k w' =
        let q : ◌≡◌ {A = Rule Condition} (record { name = y; message = z; assert = x }) r = cc (sym w' ∙ e) in
        subst (RuleGives s w m) q
        (record {
          assert = given condition ms t (ascii "assert") m.assert named.assert x i;
          name = may_give a_text ms t (ascii "name") m.name named.name y j;
          message = may_give a_text ms t (ascii "message") m.message named.message z k;
        })

pub rule_given : {s : Bytes} {w : List ℕ} {n : ℕ} {r : Rule Condition} → Gives (a_rule condition) s w n r →
    ObjectHere s w n × ((m : RuleMembers) → RuleNamed s w (members_at s w (n + 1) (after_at w n)) m → RuleGives s w m r)
unfolding a_rule sorted
rule_given {s} {w} {n} {r} g =
    let q = is_object (value_at s w n) _ (r, g.is) in
    let x = object_here g.node g.is_tidy q.0 q.1 in
    (x, λ m named. rule_given_by (members_at s w (n + 1) (after_at w n)) x.is_tidy m named r (sym (ap (λ (v : Value). a_rule condition (sorted v)) x.value) ∙ g.is))

outcome_given_by : {s : Bytes} {w : List ℕ} (ms : Members) → tidy_of max_number ms ≡ true → (m : OutcomeMembers) → OutcomeNamed s w ms m →
    (o : Outcome Condition) → an_outcome condition (object (sorted_of ms)) ≡ ok o → OutcomeGives s w m o
unfolding an_outcome
outcome_given_by {s} {w} ms t m named o e =
    let a = bind_inv (only (ascii "name" ∷ ascii "when" ∷ ascii "in_state" ∷ ascii "wrong_state" ∷ ascii "effect" ∷ []) (keys (sorted_of ms))) _ (o, e) in
    let b = bind_inv (required a_text (ascii "name") (sorted_of ms)) _ a.2 in
    let c = bind_inv (optional condition (ascii "when") (sorted_of ms)) _ b.2 in
    let d = bind_inv (optional a_text (ascii "in_state") (sorted_of ms)) _ c.2 in
    let f = bind_inv (optional a_bool (ascii "wrong_state") (sorted_of ms)) _ d.2 in
    let g = bind_inv (optional an_effect (ascii "effect") (sorted_of ms)) _ f.2 in
    go b.0 c.0 d.0 f.0 g.0 b.1 c.1 d.1 f.1 g.1
    (bind_ok _ a.1 ∙ bind_ok _ b.1 ∙ bind_ok _ c.1 ∙ bind_ok _ d.1 ∙ bind_ok _ f.1 ∙ bind_ok _ g.1)
  where
    go : (x : Bytes) (y : Option Condition) (z : Option Bytes) (u : Option Bool) (v : Option Effect) →
        required a_text (ascii "name") (sorted_of ms) ≡ ok x → optional condition (ascii "when") (sorted_of ms) ≡ ok y →
        optional a_text (ascii "in_state") (sorted_of ms) ≡ ok z → optional a_bool (ascii "wrong_state") (sorted_of ms) ≡ ok u →
        optional an_effect (ascii "effect") (sorted_of ms) ≡ ok v →
        an_outcome condition (object (sorted_of ms)) ≡
        ok (record { name = x; when = y; in_state = z; wrong_state = or_false u; effect = or_stays v }) → OutcomeGives s w m o
    go x y z u v i1 i2 i3 i4 i5 q =
        let r : ◌≡◌ {A = Outcome Condition} (record { name = x; when = y; in_state = z; wrong_state = or_false u; effect = or_stays v }) o = cc (sym q ∙ e) in
        subst
        (OutcomeGives s w m)
        r
        (record {
          name = given a_text ms t (ascii "name") m.name named.name x i1;
          when = may_give condition ms t (ascii "when") m.when named.when y i2;
          in_state = may_give a_text ms t (ascii "in_state") m.in_state named.in_state z i3;
          wrong = u;
          is_wrong = refl;
          wrong_state = may_give a_bool ms t (ascii "wrong_state") m.wrong_state named.wrong_state u i4;
          does = v;
          is_effect = refl;
          effect = may_give an_effect ms t (ascii "effect") m.effect named.effect v i5;
        })

pub outcome_given : {s : Bytes} {w : List ℕ} {n : ℕ} {o : Outcome Condition} → Gives (an_outcome condition) s w n o →
    ObjectHere s w n × ((m : OutcomeMembers) → OutcomeNamed s w (members_at s w (n + 1) (after_at w n)) m → OutcomeGives s w m o)
unfolding an_outcome sorted
outcome_given {s} {w} {n} {o} g =
    let q = is_object (value_at s w n) _ (o, g.is) in
    let x = object_here g.node g.is_tidy q.0 q.1 in
    (x, λ m named. outcome_given_by (members_at s w (n + 1) (after_at w n)) x.is_tidy m named o (sym (ap (λ (v : Value). an_outcome condition (sorted v)) x.value) ∙ g.is))

-- ---- effects
move_given_by : {s : Bytes} {w : List ℕ} (ms : Members) → tidy_of max_number ms ≡ true → (f : Effect) → a_move (object (sorted_of ms)) ≡ ok f →
    (to : Bytes) × (from : List Bytes) × (f ≡ moves to from) × ((m : MoveMembers) → MoveNamed s w ms m → MoveGives s w m to from)
unfolding a_move
move_given_by {s} {w} ms t f e =
    let a = bind_inv (only (ascii "to" ∷ ascii "from" ∷ []) (keys (sorted_of ms))) _ (f, e) in
    let b = bind_inv (required a_text (ascii "to") (sorted_of ms)) _ a.2 in
    let c = bind_inv (required some_texts (ascii "from") (sorted_of ms)) _ b.2 in
    go b.0 c.0 b.1 c.1 (bind_ok _ a.1 ∙ bind_ok _ b.1 ∙ bind_ok _ c.1)
  where
    go : (x : Bytes) (y : List Bytes) → required a_text (ascii "to") (sorted_of ms) ≡ ok x →
        required some_texts (ascii "from") (sorted_of ms) ≡ ok y → a_move (object (sorted_of ms)) ≡ ok (moves x y) →
        (to : Bytes) × (from : List Bytes) × (f ≡ moves to from) × ((m : MoveMembers) → MoveNamed s w ms m → MoveGives s w m to from)
    go x y i j q =
        let r : f ≡ moves x y = cc (sym e ∙ q) in
        (x, y, r, λ m named. record { goes = given a_text ms t (ascii "to") m.to named.to x i; comes = given some_texts ms t (ascii "from") m.from named.from y j })

pub move_given : {s : Bytes} {w : List ℕ} {n : ℕ} {f : Effect} → Gives a_move s w n f →
    ObjectHere s w n ×
    ((to : Bytes) × (from : List Bytes) × (f ≡ moves to from) ×
    ((m : MoveMembers) → MoveNamed s w (members_at s w (n + 1) (after_at w n)) m → MoveGives s w m to from))
unfolding a_move sorted
move_given {s} {w} {n} {f} g =
    let q = is_object (value_at s w n) _ (f, g.is) in
    let x = object_here g.node g.is_tidy q.0 q.1 in
    (x, move_given_by (members_at s w (n + 1) (after_at w n)) x.is_tidy f (sym (ap (λ (v : Value). a_move (sorted v)) x.value) ∙ g.is))

-- a word leaves the state; an object has its move under `moves`
pub data EffectHere (s : Bytes) (w : List ℕ) (n : ℕ) (f : Effect) : Type 0 where
  by_word : kind_at w n ≡ 4 → f ≡ stays → EffectHere s w n f
  by_move : ObjectHere s w n → ((r : Option ℕ) → FoundTold s w (find (ascii "moves") (entries (members_at s w (n + 1) (after_at w n)))) r → Given a_move s w r f) → EffectHere s w n f

word_stays : (t : Bytes) (f : Effect) → or_else (find t effect_words) wrong_sheet ≡ ok f → f ≡ stays
unfolding find
word_stays t f e = one (same_bytes t (ascii "none")) refl
  where
    three : (b : Bool) → same_bytes t (ascii "updates") ≡ b → ◌≡◌ {A = Result Effect} (or_else (elim b [ true ↦ Some stays | false ↦ None ]) wrong_sheet) (ok f) → f ≡ stays
    three true q i = cc
    three false q i = never wrong_sheet f i

    two : (b : Bool) → same_bytes t (ascii "creates") ≡
        b → ◌≡◌ {A = Result Effect} (or_else (elim b [ true ↦ Some stays | false ↦ find t ((ascii "updates", stays) ∷ []) ]) wrong_sheet)
        (ok f) → f ≡ stays
    two true q i = cc
    two false q i = three (same_bytes t (ascii "updates")) refl i

    one : (b : Bool) → same_bytes t (ascii "none") ≡ b → f ≡ stays
    one true q = cc (rw (q, find) at e)
    one false q = two (same_bytes t (ascii "creates")) refl (rw (q, find) at e)

pub effect_given : {s : Bytes} {w : List ℕ} {n : ℕ} {f : Effect} → Gives an_effect s w n f → EffectHere s w n f
unfolding an_effect sorted
effect_given {s} {w} {n} {f} g = go (value_at s w n) refl g.is
  where
    go : (v : Value) → value_at s w n ≡ v → an_effect (sorted v) ≡ ok f → EffectHere s w n f
    go null e i = never wrong_sheet f i
    go (bool b) e i = never wrong_sheet f i
    go (number t) e i = never wrong_sheet f i
    go (text t) e i = by_word (tag_at g.node ∙ ap tag e) (word_stays t f i)
    go (array vs) e i = never wrong_sheet f i
    go (object ms) e i =
        let x = object_here g.node g.is_tidy ms e in
        let j : an_effect (object (sorted_of (members_at s w (n + 1) (after_at w n)))) ≡
        ok f = sym (ap (λ (v : Value). an_effect (sorted v)) x.value) ∙
        ap (λ (v : Value). an_effect (sorted v)) e ∙
        i in
        let a = bind_inv (only (ascii "moves" ∷ []) (keys (sorted_of (members_at s w (n + 1) (after_at w n))))) _ (f, j) in
        let k : required a_move (ascii "moves") (sorted_of (members_at s w (n + 1) (after_at w n))) ≡ ok f = sym (bind_ok _ a.1) ∙ j in
        by_move x (λ r told. given a_move (members_at s w (n + 1) (after_at w n)) x.is_tidy (ascii "moves") r told f k)
