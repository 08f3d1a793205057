-- The calls on an accepted sheet, from the nodes of its members.
-- Assumes nothing.
use mathlib.Core.List.{List}
use Rattle.std.specs.Prelude.{Option, None, Some}
use mathlib.Core.Path.{ap, refl, subst, sym, ◌∙◌, ◌≡◌}
use Prim.Native.Nat.{ℕ, ◌*◌, ◌+◌, ◌<◌, ◌≤◌}
use lib.ListN.{length}
use Rattle.writer.specs.Meaning.{Held, meaning}
use Rattle.answers.specs.Verdict.{Verdict}
use Rattle.writer.specs.declared.answer.Answer.{Answer}
use Rattle.writer.specs.declared.answer.Answer.TheVariants as answers
use Rattle.json_text.specs.Bytes.{Bytes}
use Rattle.json_text.specs.Cursor.{OnText}
use Rattle.json_text.specs.Refusal.{Result, no_input, or_else, refused, ◌>>=◌}
use Rattle.json_text.specs.Spans.{text_at}
use Rattle.json_text.specs.Table.{after_at, start_at}
use Rattle.sheet.proofs.Given.{text_given}
use Rattle.members.proofs.Walks.{room}
use Rattle.sheet.specs.Accepted.{Accepted, EachGives, Gives}
use Rattle.members.specs.Condition.{Condition, condition}
use Rattle.members.specs.Kinds.{a_text, an_array_of}
use Rattle.members.specs.Outcome.{Outcome, an_outcome}
use Rattle.members.specs.Sheet.{Sheet}
use Rattle.sheet.specs.declared.shape.Members.{Members}
use Rattle.answers.specs.Admission.{admit}
use Rattle.answers.specs.Decide.{admit_call}
use Rattle.sheet.specs.Accepted.{Known}
use Rattle.answers.specs.Outcomes.{Placed, at}
use Rattle.admission.specs.Places.{PlacedAt}
use Rattle.rules.specs.Told.{Told, admission}
use Rattle.rules.specs.declared.placed.Placed.{Placed as Spot}
use Rattle.rules.proofs.Eligibility.{missing, there}
use Rattle.rules.proofs.Walking.{behind_array}

pub told_no_input : (s : Bytes) (w : List ℕ) → Told s w (refused no_input) answers.NoInput
unfolding meaning Held
told_no_input s w = record { means = refl; held = tt }

-- admission in a state, of an outcome at its place
module _ (sheet : Sheet Condition) where
  abbrev in_state : Placed → Option Bytes → Result Verdict
  in_state p t = or_else t no_input >>= (λ (x : Bytes). admission (admit sheet.states sheet.outcomes x p))

  abbrev of_place : Option Placed → Option Bytes → Result Verdict
  of_place o t = or_else o no_input >>= (λ (p : Placed). in_state p t)

  by_parts : (place : ℕ) (o : Option Placed) (t : Option Bytes) → at 0 place sheet.outcomes ≡ o → sheet.state ≡ t → admit_call sheet place ≡ of_place o t
  unfolding admit_call
  by_parts place o t e f = ap {B = Result Verdict} (λ (x : Option Placed). of_place x sheet.state) e ∙ ap {B = Result Verdict} (of_place o) f

module _ (s : Bytes) (w : List ℕ) (m : Members) (sheet : Sheet Condition) (a : Accepted s w m sheet) where
  pub each_outcome : {e : ℕ} → e ≡ after_at w m.outcomes → EachGives (an_outcome condition) s w (m.outcomes + 1) e sheet.outcomes
  each_outcome = behind_array (an_outcome condition) a.outcomes

  module _ (place : ℕ) (c : Option Spot) (g : PlacedAt s w (at 0 place sheet.outcomes) c) where
    pub told_unplaced : c ≡ None → Told s w (admit_call sheet place) answers.NoInput
    unfolding PlacedAt
    told_unplaced q =
        subst (λ (y : Result Verdict). Told s w y answers.NoInput)
        (sym (by_parts sheet place None sheet.state (subst (PlacedAt s w (at 0 place sheet.outcomes)) q g) refl)) (told_no_input s w)

    module _ (p : Spot) (q : c ≡ Some p) where
      its : (o : Outcome Condition) × (at 0 place sheet.outcomes ≡ Some (record { place = p.place; outcome = o })) × Gives (an_outcome condition) s w p.node o
      unfolding PlacedAt
      its = subst (PlacedAt s w (at 0 place sheet.outcomes)) q g

      pub told_stateless : m.state ≡ None → Told s w (admit_call sheet place) answers.NoInput
      told_stateless f =
          subst (λ (y : Result Verdict). Told s w y answers.NoInput)
          (sym
          (by_parts sheet place (Some (record { place = p.place; outcome = its.0 })) None its.1 (missing a_text s w f a.state)))
          (told_no_input s w)

      module _ (n : ℕ) (f : m.state ≡ Some n) where
        state_here : (t : Bytes) × (sheet.state ≡ Some t) × Gives a_text s w n t
        state_here = there a_text s w n f a.state

        pub state_room : (3 * n + 3 ≤ length w) × (n < 4096)
        state_room = room state_here.2.node

        module _ (x : ℕ) (e : x ≡ start_at w n) where
          pub admits : Known (Gives (an_array_of a_text) s w m.states) ×
              Known (Gives (an_array_of (an_outcome condition)) s w m.outcomes) × OnText s x 0 ×
              Known (Gives (an_outcome condition) s w p.node)
          admits = (
            record { given = sheet.states; known = a.states },
            record { given = sheet.outcomes; known = a.outcomes },
            subst
                (λ (z : ℕ). OnText s z 0) (sym e) (text_given state_here.2).on_text,
            record { given = its.0; known = its.2 },
          )

          state_is : sheet.state ≡ Some (text_at s x)
          state_is = state_here.1 ∙ ap {B = Option Bytes} (λ (z : Bytes). Some z) ((text_given state_here.2).bytes ∙ ap (text_at s) (sym e))

          pub told_admission : {r : Answer} →
              ((ts : List Bytes) (os : List (Outcome Condition)) (o : Outcome Condition) → Gives (an_array_of a_text) s w m.states ts →
              Gives (an_array_of (an_outcome condition)) s w m.outcomes os → Gives (an_outcome condition) s w p.node o → Told s w
              (admission (admit ts os (text_at s x) (record { place = p.place; outcome = o }))) r) → Told s w (admit_call sheet place) r
          told_admission {r} h =
              subst (λ (y : Result Verdict). Told s w y r)
              (sym (by_parts sheet place (Some (record { place = p.place; outcome = its.0 })) (Some (text_at s x)) its.1 state_is))
              (h sheet.states sheet.outcomes its.0 a.states a.outcomes its.2)
