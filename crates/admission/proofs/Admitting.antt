-- Admission from the nodes of an accepted sheet, case by case.
-- Assumes nothing.
use mathlib.Core.Bool.{Bool, false, not, true, ◌&&◌}
use mathlib.Core.List.{List}
use Rattle.std.specs.Prelude.{Option, Some, None}
use mathlib.Core.Path.{ap, refl, subst, sym, ◌∙◌, ◌≡◌}
use Prim.Native.Nat.{ℕ, ◌*◌, ◌+◌, ◌<◌, ◌≤◌}
use lib.ListN.{length}
use Rattle.writer.specs.Meaning.{Held, meaning}
use Rattle.writer.specs.Texts.{or_none, texts_in}
use Rattle.answers.specs.Verdict.{Verdict, admitted, selected}
use Rattle.writer.specs.declared.answer.Answer.{Answer}
use Rattle.writer.specs.declared.answer.Answer.TheVariants as answers
use Rattle.writer.specs.declared.answer.Outcome.{Outcome as Entry}
use Rattle.json_text.specs.Bytes.{Bytes, is_one_of}
use Rattle.json_text.specs.Cursor.{OnText}
use Rattle.json_text.specs.Refusal.{Result, not_a_source, ok, or_else, refused, wrong_state}
use Rattle.json_text.specs.Spans.{text_at}
use Rattle.json_text.specs.Table.{start_at, value_at}
use Rattle.sheet.proofs.Given.{text_given}
use Rattle.sheet.proofs.SortedKinds.{some_texts_sorted}
use Rattle.members.proofs.Walks.{room}
use Rattle.sheet.specs.Accepted.{Gives, MayGive, OutcomeGives, node_of}
use Rattle.members.specs.Condition.{Condition, condition}
use Rattle.members.specs.Kinds.{a_text, some_texts}
use Rattle.members.specs.Outcome.{Effect, Outcome, an_effect, an_outcome, moves, or_stays, stays}
use Rattle.sheet.specs.declared.outcome.OutcomeMembers.{OutcomeMembers}
use Rattle.answers.specs.Admission.{admit, is_source, is_wrong}
use Rattle.answers.specs.Decide.{as_admitted, as_selected}
use Rattle.sheet.specs.Accepted.{Known}
use Rattle.rules.specs.Given.{SourcesAt}
use Rattle.answers.specs.Outcomes.{Placed, first_from}
use Rattle.admission.specs.Places.{PlacedAt}
use Rattle.rules.specs.Told.{Entered, Told, admission}
use Rattle.rules.specs.declared.placed.Placed.{Placed as Spot}
use Rattle.rules.proofs.Starting.{given_node}

-- ---- an outcome's name
module _ {s : Bytes} {w : List ℕ} {n : ℕ} {m : OutcomeMembers} (given : (o : Outcome Condition) → Gives (an_outcome condition) s w n o → OutcomeGives s w m o)
    {x : ℕ} (q : x ≡ node_of m.name) where
  name_node : {o : Outcome Condition} → Gives (an_outcome condition) s w n o → Gives a_text s w x o.name
  name_node {o} g = given_node (given o g).name q

  pub name_room : Known (Gives (an_outcome condition) s w n) → (3 * x + 3 ≤ length w) × (x < 4096)
  name_room g = room (name_node g.known).node

  pub entered : (place : ℕ) {a : ℕ} → a ≡ start_at w x → (o : Outcome Condition) → Gives (an_outcome condition) s w n o →
      Entered s place o.name (record { place = place; name = a })
  entered place {a} i o g =
      let y = text_given (name_node g) in
      record { is_place = refl; is_name = ap (text_at s) i ∙ sym y.bytes; on_text = subst (λ (z : ℕ). OnText s z 0) (sym i) y.on_text }

-- ---- the wrong state
pub declared : (ts : List Bytes) (os : List (Outcome Condition)) (t : Bytes) (a b : Bool) → a ≡ is_one_of t ts → b ≡ is_source t os → a ≡ true → not b ≡ is_wrong ts os t
declared ts os t a b p q e = ap {B = Bool} (λ (x : Bool). x && not b) (sym e ∙ p) ∙ ap {B = Bool} (λ (x : Bool). is_one_of t ts && not x) q

pub undeclared : (ts : List Bytes) (os : List (Outcome Condition)) (t : Bytes) (a : Bool) → a ≡ is_one_of t ts → a ≡ false → false ≡ is_wrong ts os t
undeclared ts os t a p e = ap {B = Bool} (λ (x : Bool). x && not (is_source t os)) (sym e ∙ p)

-- ---- answers
-- what is said of an outcome is said of its entry
pub entered_as : {s : Bytes} {place : ℕ} {name : Bytes} {r : Entry} (f : ℕ → Bytes → Result Verdict) → Entered s place name r → f r.place (text_at s r.name) ≡ f place name
entered_as {s} {place} {name} {r} f h = ap {B = Result Verdict} (λ (i : ℕ). f i (text_at s r.name)) h.is_place ∙ ap {B = Result Verdict} (f place) h.is_name

module _ (s : Bytes) (w : List ℕ) where
  pub told_admitted : (place : ℕ) (o : Outcome Condition) {r : Entry} → Entered s place o.name r →
      Told s w (ok (as_admitted (record { place = place; outcome = o }))) (answers.Admitted r)
  unfolding meaning Held
  told_admitted place o h = record { means = entered_as (λ (i : ℕ) (n : Bytes). ok (admitted i n)) h; held = h.on_text }

  pub told_selected : (place : ℕ) (o : Outcome Condition) {r : Entry} → Entered s place o.name r →
      Told s w (ok (as_selected (record { place = place; outcome = o }))) (answers.Selected r)
  unfolding meaning Held
  told_selected place o h = record { means = entered_as (λ (i : ℕ) (n : Bytes). ok (selected i n)) h; held = h.on_text }

  abbrev or_admitted : ℕ → Option Placed → Result Verdict
  or_admitted state x = admission (or_else x (wrong_state (text_at s state)))

  pub told_wrong : (x : Option Placed) {c : Option Spot} (state : ℕ) → OnText s state 0 → c ≡ None → PlacedAt s w x c →
      Told s w (or_admitted state x) (answers.WrongState state)
  unfolding meaning Held PlacedAt
  told_wrong x state h q g = record { means = sym (ap {B = Result Verdict} (or_admitted state) (subst (PlacedAt s w x) q g)); held = h }

  module _ (x : Option Placed) {c : Option Spot} (p : Spot) (q : c ≡ Some p) (g : PlacedAt s w x c) where
    its : (o : Outcome Condition) × (x ≡ Some (record { place = p.place; outcome = o })) × Gives (an_outcome condition) s w p.node o
    unfolding PlacedAt
    its = subst (PlacedAt s w x) q g

    pub chosen_node : Known (Gives (an_outcome condition) s w p.node)
    chosen_node = record { given = its.0; known = its.2 }

    pub told_chosen :
        (state : ℕ) {r : Entry} → ((o : Outcome Condition) → Gives (an_outcome condition) s w p.node o → Entered s p.place o.name r) →
        Told s w (or_admitted state x) (answers.Admitted r)
    told_chosen state {r} e =
        subst (λ (y : Result Verdict). Told s w y (answers.Admitted r)) (sym (ap {B = Result Verdict} (or_admitted state) its.1))
        (told_admitted p.place its.0 (e its.0 its.2))

-- the texts that a move starts from, as the answer lists them
texts_listed : {s : Bytes} {w : List ℕ} {n : ℕ} {us : List Bytes} → Gives some_texts s w n us → some_texts (value_at s w n) ≡ ok us
texts_listed {s} {w} {n} g = sym (some_texts_sorted (value_at s w n)) ∙ g.is

told_not_a_source : (s : Bytes) (w : List ℕ) {n state place : ℕ} {us : List Bytes} → Gives some_texts s w n us → OnText s state 0 →
    (name : Bytes) {x : Entry} → Entered s place name x →
    Told s w (refused (not_a_source place name (text_at s state) us)) (answers.NotASource (record { outcome = x; state = state; from = n }))
unfolding meaning Held texts_in
told_not_a_source s w {n} {state} {place} {us} g y name {x} e =
    record {
      means = it e.is_place e.is_name (ap or_none (texts_listed g));
      held = (e.on_text, y, record { has_node = record { left = 64; is_node = g.node }; texts = us; are = texts_listed g });
    }
  where
    it : x.place ≡ place → text_at s x.name ≡ name → texts_in (value_at s w n) ≡
        us → ◌≡◌ {A = Result Verdict} (refused (not_a_source x.place (text_at s x.name) (text_at s state) (texts_in (value_at s w n))))
        (refused (not_a_source place name (text_at s state) us))
    it p q r =
        ap {B = Result Verdict} (λ (i : ℕ). refused (not_a_source i (text_at s x.name) (text_at s state) (texts_in (value_at s w n)))) p ∙
        ap {B = Result Verdict} (λ (m : Bytes). refused (not_a_source place m (text_at s state) (texts_in (value_at s w n)))) q ∙
        ap {B = Result Verdict} (λ (us' : List Bytes). refused (not_a_source place name (text_at s state) us')) r

-- ---- admission
pub sources_of :
    (s : Bytes) (w : List ℕ) {n : ℕ} {m : OutcomeMembers} → ((o : Outcome Condition) → Gives (an_outcome condition) s w n o → OutcomeGives s w m o) → (r : Option ℕ) →
    ((f : Option Effect) → MayGive an_effect s w m.effect f → SourcesAt s w (or_stays f) r) → (o : Outcome Condition) →
    Gives (an_outcome condition) s w n o → SourcesAt s w o.effect r
sources_of s w given r h o g = let x = given o g in subst (λ (e : Effect). SourcesAt s w e r) (sym x.is_effect) (h x.does x.effect)

module _ (ts : List Bytes) (os : List (Outcome Condition)) (t : Bytes) (p : Placed) where
  abbrev by_wrong : List Bytes → Bool → Result Placed
  by_wrong from c = elim c [ true ↦ or_else (first_from (λ o. o.wrong_state) 0 os) (wrong_state t) | false ↦ refused (not_a_source p.place p.outcome.name t from) ]

  abbrev by_source : List Bytes → Bool → Result Placed
  by_source from b = elim b [ true ↦ ok p | false ↦ by_wrong from (is_wrong ts os t) ]

  abbrev by_effect : Effect → Result Placed
  by_effect e = elim e [ stays ↦ ok p | moves to from ↦ by_source from (is_one_of t from) ]

  by_effect_lem : (e : Effect) → p.outcome.effect ≡ e → admit ts os t p ≡ by_effect e
  unfolding admit
  by_effect_lem e q = ap {B = Result Placed} by_effect q

module _ (s : Bytes) (w : List ℕ) (ts : List Bytes) (os : List (Outcome Condition)) (state place : ℕ) (o : Outcome Condition) (r : Option ℕ) (h : SourcesAt s w o.effect r) where
  abbrev here : Placed
  here = record { place = place; outcome = o }

  told_by : (x : Result Placed) → admit ts os (text_at s state) here ≡ x → {a : Answer} → Told s w (admission x) a → Told s w (admission (admit ts os (text_at s state) here)) a
  told_by x q {a} g = subst (λ (y : Result Placed). Told s w (admission y) a) (sym q) g

  pub keeps_staying : r ≡ None → {x : Entry} → Entered s place o.name x → Told s w (admission (admit ts os (text_at s state) here)) (answers.Admitted x)
  unfolding SourcesAt
  keeps_staying q e = told_by (ok here) (by_effect_lem ts os (text_at s state) here stays (subst (SourcesAt s w o.effect) q h)) (told_admitted s w place o e)

  module _ (n : ℕ) (q : r ≡ Some n) (b : Bool) (i : (us : List Bytes) → Gives some_texts s w n us → b ≡ is_one_of (text_at s state) us) where
    its_move : (to : Bytes) × (from : List Bytes) × (o.effect ≡ moves to from) × Gives some_texts s w n from
    unfolding SourcesAt
    its_move = subst (SourcesAt s w o.effect) q h

    by_source_lem : admit ts os (text_at s state) here ≡ by_source ts os (text_at s state) here its_move.1 b
    by_source_lem =
        by_effect_lem ts os (text_at s state) here (moves its_move.0 its_move.1) its_move.2 ∙
        ap (by_source ts os (text_at s state) here its_move.1) (sym (i its_move.1 its_move.3))

    pub keeps_moving : b ≡ true → {x : Entry} → Entered s place o.name x → Told s w (admission (admit ts os (text_at s state) here)) (answers.Admitted x)
    keeps_moving z e = told_by (ok here) (by_source_lem ∙ ap (by_source ts os (text_at s state) here its_move.1) z) (told_admitted s w place o e)

    module _ (z : b ≡ false) (c : Bool) (j : c ≡ is_wrong ts os (text_at s state)) where
      by_wrong_lem : (d : Bool) → c ≡ d → admit ts os (text_at s state) here ≡ by_wrong ts os (text_at s state) here its_move.1 d
      by_wrong_lem d k = by_source_lem ∙ ap (by_source ts os (text_at s state) here its_move.1) z ∙ ap (by_wrong ts os (text_at s state) here its_move.1) (sym j ∙ k)

      pub turns_wrong :
          c ≡ true → {a : Answer} → Told s w (admission (or_else (first_from (λ u. u.wrong_state) 0 os) (wrong_state (text_at s state)))) a →
          Told s w (admission (admit ts os (text_at s state) here)) a
      turns_wrong k = told_by (or_else (first_from (λ u. u.wrong_state) 0 os) (wrong_state (text_at s state))) (by_wrong_lem true k)

      pub has_no_source : c ≡ false → OnText s state 0 → {x : Entry} → Entered s place o.name x →
          Told s w (admission (admit ts os (text_at s state) here)) (answers.NotASource (record { outcome = x; state = state; from = n }))
      has_no_source k y {x} e = told_by (refused (not_a_source place o.name (text_at s state) its_move.1)) (by_wrong_lem false k) (told_not_a_source s w its_move.3 y o.name e)
