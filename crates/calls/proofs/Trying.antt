-- Outcomes tried by place, from the nodes of an accepted sheet: each guard's answer, each outcome, and the selection so far.
-- Assumes nothing.
use Rattle.std.specs.Prelude.{IsErrAnd, Result as Fallible}
use mathlib.Core.Bool.{Bool, false, true}
use mathlib.Core.List.{List, [], ◌∷◌}
use Rattle.std.specs.Prelude.{Option, Some, None, Ok, Err}
use mathlib.Core.Path.{ap, refl, subst, sym, ◌∙◌, ◌≡◌}
use Prim.Native.Nat.{ℕ, ◌*◌, ◌+◌, ◌<◌, ◌≤◌}
use native.Mathlib.Omega.{arith}
use lib.ListN.{length}
use Rattle.evaluation.proofs.After.{accepted_rows, each_gives_rows, gives_rows}
use Rattle.writer.specs.Meaning.{Held, meaning, names_in}
use Rattle.answers.specs.Verdict.{Verdict}
use Rattle.writer.specs.declared.answer.Answer as code
use Rattle.writer.specs.declared.answer.Answer.TheVariants as answers
use Rattle.writer.specs.declared.answer.Outcome.{Outcome as Entry}
use Rattle.paths.specs.Stored.{table}
use Rattle.json_text.proofs.Laws.{bind_ok}
use Rattle.json_text.specs.Bytes.{Bytes}
use Rattle.json_text.specs.Json.{Value}
use Rattle.json_text.specs.Refusal.{Result, guard_unknown, ok, refused, ◌>>=◌}
use Rattle.json_text.specs.Table.{after_at}
use Rattle.semantics.specs.Evaluate.{Answer, evaluate}
use Rattle.semantics.specs.Names.{Names, ascending}
use Rattle.semantics.specs.Semantics.{kernel}
use Rattle.semantics.specs.Told.{truth_of}
use Rattle.semantics.specs.Truth.{False, True, Truth, Unknown}
use Rattle.semantics.specs.declared.truth.Truth.{Truth as CodeTruth}
use Rattle.semantics.specs.declared.truth.Truth.TheVariants as truths
use Rattle.sheet.specs.Accepted.{Accepted, EachGives, Gives, Known, MayGive}
use Rattle.members.specs.Condition.{Condition, condition}
use Rattle.members.specs.Outcome.{Outcome, an_outcome}
use Rattle.members.specs.Sheet.{Sheet}
use Rattle.sheet.specs.declared.shape.Members.{Members}
use Rattle.rules.specs.Alone.{Alone, Judged, OnlyMarks}
use Rattle.rules.specs.declared.placed.Placed.{Placed as Spot}
use Rattle.rules.proofs.Stopping.{returned, stops_as, stops_refused, stops_through}
use Rattle.answers.specs.Outcomes.{Placed, eligible, guard, select}
use Rattle.rules.specs.Told.{Entered}
use Rattle.calls.specs.Trying.{SelectedAs, Selects, TriedAs, Tries, by_guard, taken}
use Rattle.admission.proofs.Admitting.{entered_as}
use Rattle.rules.proofs.Checking.{one_sheet}
use Rattle.rules.proofs.Eligibility.{missing, there}
use Rattle.rules.proofs.Settling.{judged, stopped}
use Rattle.rules.proofs.Unmarking.{marks_none, marks_then}
use Rattle.rules.proofs.Walking.{Walking, behind_array, element_room, ended, falls, goes_on, next, settled, starts}

-- ---- a guard's truth
module _ (s : Bytes) (w : List ℕ) {t : CodeTruth} {x : Result Answer} (place : ℕ) (name : Bytes) (j : Judged s w x t) where
  by_truth : (u : CodeTruth) → t ≡ u → by_guard place name x ≡ by_guard place name (ok (record { truth = truth_of u; names = j.names }))
  by_truth u q = ap (by_guard place name) (j.is ∙ ap (λ (v : CodeTruth). ok (record { truth = truth_of v; names = j.names })) q)

  pub guard_takes : t ≡ truths.True → TriedAs s w (by_guard place name x) (Ok true)
  unfolding TriedAs by_guard
  guard_takes q = by_truth truths.True q

  pub guard_passes : t ≡ truths.False → TriedAs s w (by_guard place name x) (Ok false)
  unfolding TriedAs by_guard
  guard_passes q = by_truth truths.False q

  pub guard_stops : t ≡ truths.Unknown → {e : Entry} → Entered s place name e → TriedAs s w (by_guard place name x) (Err (answers.GuardUnknown e))
  unfolding TriedAs by_guard meaning Held
  guard_stops q h =
      stops_refused (guard_unknown place name (ascending j.names)) (by_truth truths.Unknown q)
      (record {
        means = entered_as (λ (i : ℕ) (n : Bytes). refused (guard_unknown i n (names_in s w))) h ∙
            ap {B = Result Verdict} (λ (ns : Names). refused (guard_unknown place name ns)) j.marked;
        held = (h.on_text, j.held);
      })

-- ---- a guard that may be missing
module _ (s : Bytes) (w : List ℕ) {f : Option ℕ} where
  pub guard_there : (n : ℕ) → f ≡ Some n → Known (MayGive condition s w f) → Known (Gives condition s w n)
  guard_there n q g = let x = there condition s w n q g.known in record { given = x.0; known = x.2 }

  module _ (sheet : Sheet Condition) (c : Option Condition) (place : ℕ) (o : Outcome Condition) (g : MayGive condition s w f c) where
    pub no_guard : f ≡ None → Tries s w w (by_guard place o.name (guard sheet c)) (Ok true)
    unfolding TriedAs by_guard guard
    no_guard q = record { is = ap (λ (d : Option Condition). by_guard place o.name (guard sheet d)) (missing condition s w q g); only = marks_none w }

    module _ (n : ℕ) (q : f ≡ Some n) {w' : List ℕ} {r : Fallible CodeTruth code.Answer}
        (answer : (d : Condition) → Gives condition s w n d → Alone s w w' r (evaluate kernel sheet [] d)) where
      its_answer : Alone s w w' r (guard sheet c)
      unfolding guard
      its_answer =
          let x = there condition s w n q g in
          subst (λ (d : Option Condition). Alone s w w' r (guard sheet d)) (sym x.1) (answer x.0 x.2)

      pub by_judged : {k : ℕ} → Gives (an_outcome condition) s w k o → (t : CodeTruth) → r ≡ Ok t → {v : Fallible Bool code.Answer} →
          ((o' : Outcome Condition) (x : Result Answer) → Gives (an_outcome condition) s w' k o' → Judged s w' x t → TriedAs s w' (by_guard place o'.name x) v) →
          Tries s w w' (by_guard place o.name (guard sheet c)) v
      by_judged h t i by =
          record { is = by o (guard sheet c) (gives_rows its_answer.only.rows h) (judged its_answer t i); only = its_answer.only }

      pub guard_refused : (a : code.Answer) → r ≡ Err a → (v : Fallible Bool code.Answer) → IsErrAnd v (λ y. y ≡ a) → Tries s w w' (by_guard place o.name (guard sheet c)) v
      unfolding TriedAs by_guard
      guard_refused a i v e =
          subst (Tries s w w' (by_guard place o.name (guard sheet c))) (returned v e)
          (record { is = stops_through (guard sheet c) _ (stopped its_answer a i); only = its_answer.only })

-- ---- an outcome
module _ (sheet : Sheet Condition) (i : ℕ) (o : Outcome Condition) where
  taken_not : false ≡ eligible sheet.state o → taken sheet i o ≡ ok false
  unfolding taken
  taken_not q = rw (← q, taken)

  taken_by : true ≡ eligible sheet.state o → taken sheet i o ≡ by_guard i o.name (guard sheet o.when)
  unfolding taken
  taken_by q = rw (← q, taken)

  -- and then the others
  module _ (os : List (Outcome Condition)) where
    abbrev onward : Bool → Result Placed
    onward b = elim b [ true ↦ ok (record { place = i; outcome = o }) | false ↦ select sheet (i + 1) os ]

    abbrev selecting : Bool → Result Answer → Result Placed
    selecting b x =
        elim
        b [
          | false ↦
              select sheet (i + 1) os
          | true ↦
              x
              >>=
              (λ (a : Answer). elim a.truth [
                | True ↦ ok (record { place = i; outcome = o })
                | False ↦ select sheet (i + 1) os
                | Unknown ↦ refused
                    (guard_unknown i o.name (ascending a.names))
              ])
        ]

    abbrev taking : Bool → Result Answer → Result Bool
    taking b x = elim b [ false ↦ ok false | true ↦ by_guard i o.name x ]

    as_taking : (b : Bool) (x : Result Answer) → selecting b x ≡ (taking b x >>= onward)
    unfolding by_guard
    as_taking false x = refl
    as_taking true (refused r) = refl
    as_taking true (ok a) = by a.truth a.names
      where
        by : (t : Truth) (ns : Names) → selecting true (ok (record { truth = t; names = ns })) ≡ (taking true (ok (record { truth = t; names = ns })) >>= onward)
        by True ns = refl
        by False ns = refl
        by Unknown ns = refl

    select_by : select sheet i (o ∷ os) ≡ (taken sheet i o >>= onward)
    unfolding select taken
    select_by = as_taking (eligible sheet.state o) (guard sheet o.when)

module _ (s : Bytes) (w : List ℕ) (sheet : Sheet Condition) (place : ℕ) (o : Outcome Condition) (b : Bool) (e : b ≡ eligible sheet.state o) where
  pub passed_over : b ≡ false → Tries s w w (taken sheet place o) (Ok false)
  unfolding TriedAs
  passed_over q = record { is = taken_not sheet place o (sym q ∙ e); only = marks_none w }

  pub by_its_guard : b ≡ true → {w' : List ℕ} {v : Fallible Bool code.Answer} → Tries s w w' (by_guard place o.name (guard sheet o.when)) v → Tries s w w' (taken sheet place o) v
  by_its_guard q {w'} {v} h = subst (λ (x : Result Bool). Tries s w w' x v) (sym (taken_by sheet place o (sym q ∙ e))) h

-- ---- the outcomes in turn
walking_rows :
    {A B : Type 0} {kind : Value → Result A} {s : Bytes} {w w' : List ℕ} {from e : ℕ} {whole here : List A → B} {k : ℕ} → table w' ≡ table w →
    Walking kind s w from e whole here k → Walking kind s w' from e whole here k
walking_rows q l = record { rest = l.rest; gives = each_gives_rows q l.gives; same = λ xs g. l.same xs (each_gives_rows (sym q) g) }

-- the outcomes before the node k are passed over
pub record Trying (s : Bytes) (m : Members) (w₀ : List ℕ) (e : ℕ) (w : List ℕ) (i k : ℕ) : Type 0 where
  pub sheet : Sheet Condition
  pub accepted : Accepted s w m sheet
  pub every : EachGives (an_outcome condition) s w (m.outcomes + 1) e sheet.outcomes
  pub only : OnlyMarks w₀ w
  pub enough : 16384 ≤ length w
  pub low : i ≤ k
  pub walking : Walking (an_outcome condition) s w (m.outcomes + 1) e (select sheet 0) (select sheet i) k

pub trying : {s : Bytes} {w : List ℕ} {m : Members} {e : ℕ} → 16384 ≤ length w → Known (Accepted s w m) → e ≡ after_at w m.outcomes → Trying s m w e w 0 (m.outcomes + 1)
trying {w = w} long g q =
    let every = behind_array (an_outcome condition) g.known.outcomes q in
    record {
      sheet = g.given;
      accepted = g.known;
      every = every;
      only = marks_none w;
      enough = long;
      low = omega arith;
      walking = starts (select g.given 0) (record { given = g.given.outcomes; known = every });
    }

module _ {s : Bytes} {m : Members} {w₀ : List ℕ} {e : ℕ} {w : List ℕ} {i k : ℕ} (l : Trying s m w₀ e w i k) where
  -- what holds of the sheet in hand holds of every sheet accepted at the start
  of_every : {w' : List ℕ} {r : Fallible Spot code.Answer} → Selects s w₀ w' (select l.sheet 0 l.sheet.outcomes) r → (sheet : Sheet Condition) →
      Accepted s w₀ m sheet → Selects s w₀ w' (select sheet 0 sheet.outcomes) r
  of_every {w'} {r} h sheet a = subst (λ (x : Sheet Condition). Selects s w₀ w' (select x 0 x.outcomes) r) (one_sheet l.accepted a) h

  pub none_left : e ≤ k → (sheet : Sheet Condition) → Accepted s w₀ m sheet → Selects s w₀ w (select sheet 0 sheet.outcomes) (Err answers.NoOutcome)
  unfolding SelectedAs meaning Held select
  none_left h = of_every (record { is = stops_as (sym (ended l.walking h l.sheet.outcomes l.every)) (λ f. record { means = refl; held = tt }); only = l.only })

  module _ (h : k < e) where
    pub outcome_known : (16384 ≤ length w) × Known (Accepted s w m) × Known (Gives (an_outcome condition) s w k)
    outcome_known = (l.enough, record { given = l.sheet; known = l.accepted }, record { given = (next l.walking h).first; known = (next l.walking h).here })

    module _ {w' : List ℕ} {r : Fallible Bool code.Answer}
        (tries : (sheet : Sheet Condition) (o : Outcome Condition) → Accepted s w m sheet → Gives (an_outcome condition) s w k o → Tries s
        w w' (taken sheet i o) r) where
      now_only : OnlyMarks w w'
      now_only = (tries l.sheet (next l.walking h).first l.accepted (next l.walking h).here).only

      on : Walking (an_outcome condition) s w' (m.outcomes + 1) e (select l.sheet 0) (select l.sheet i) k
      on = walking_rows now_only.rows l.walking

      abbrev first : Outcome Condition
      first = (next on h).first

      said : TriedAs s w' (taken l.sheet i first) r
      said = (tries l.sheet first l.accepted (gives_rows (sym now_only.rows) (next on h).here)).is

      chooses : select l.sheet 0 l.sheet.outcomes ≡ (taken l.sheet i first >>= onward l.sheet i first (next on h).others)
      chooses = sym (settled on h _ (sym (select_by l.sheet i first (next on h).others)) l.sheet.outcomes (each_gives_rows now_only.rows l.every))

      pub takes : r ≡ (Ok true) → (sheet : Sheet Condition) → Accepted s w₀ m sheet →
          Selects s w₀ w' (select sheet 0 sheet.outcomes) (Ok (record { place = i; node = k }))
      unfolding TriedAs SelectedAs
      takes q =
          of_every
          (record {
            is = (
              first,
              chooses ∙
                  bind_ok (onward l.sheet i first (next on h).others) (subst (TriedAs s w' (taken l.sheet i first)) q said),
              (next on h).here,
            );
            only = marks_then l.only now_only;
          })

      pub refuses : (a : code.Answer) → r ≡ Err a → (v : Fallible Spot code.Answer) → IsErrAnd v (λ y. y ≡ a) → (sheet : Sheet Condition) → Accepted s w₀ m sheet →
          Selects s w₀ w' (select sheet 0 sheet.outcomes) v
      unfolding TriedAs SelectedAs
      refuses a q v z sheet b =
          subst (Selects s w₀ w' (select sheet 0 sheet.outcomes)) (returned v z)
          (of_every
          (record {
            is = stops_as chooses
                (stops_through (taken l.sheet i first) (onward l.sheet i first (next on h).others)
                (subst (TriedAs s w' (taken l.sheet i first)) q said));
            only = marks_then l.only now_only;
          }) sheet b)

      -- the item behind
      module _ {p : Spot} (p_is : p ≡ record { place = i + 1; node = after_at w' k }) where
        behind : p.node ≡ after_at w' k
        behind = ap (λ (x : Spot). x.node) p_is

        pub tries_on : r ≡ Ok false → Trying s m w₀ e w' p.place p.node
        unfolding TriedAs
        tries_on q =
            let x : taken l.sheet i first ≡ ok false = subst (TriedAs s w' (taken l.sheet i first)) q said in
            subst (λ (y : ℕ). Trying s m w₀ e w' y p.node) (sym (ap (λ (y : Spot). y.place) p_is))
            (record {
              sheet = l.sheet;
              accepted = accepted_rows now_only.rows l.accepted;
              every = each_gives_rows now_only.rows l.every;
              only = marks_then l.only now_only;
              enough = omega (arith, now_only.long, l.enough);
              low = omega (arith, (next on h).past, l.low, behind);
              walking =
                  goes_on
                  on
                  h
                  (select l.sheet (i + 1))
                  (select_by l.sheet i first (next on h).others ∙ bind_ok (onward l.sheet i first (next on h).others) x)
                  p.node
                  behind;
            })

        pub falls_after : (k < p.node) × (p.node ≤ e)
        falls_after = falls on h p.node behind

      -- the table at hand when the next outcome is looked for
      pub room_after : (i ≤ k) × (3 * k + 3 ≤ length w') × (k < 4096)
      room_after = let x = element_room on h in (l.low, x.0, x.1)
