-- Rules one after the other over a table whose marks change: those from a node on settle the whole.
-- Assumes nothing.
use Rattle.std.specs.Prelude.{IsErrAnd, Result as Fallible}
use Rattle.std.specs.Prelude.{Ok, Err}
use mathlib.Core.List.{List}
use mathlib.Core.Path.{ap, refl, subst, sym, ◌∙◌, ◌≡◌}
use Prim.Native.Nat.{ℕ, ◌*◌, ◌+◌, ◌<◌, ◌≤◌}
use native.Mathlib.Omega.{arith}
use lib.ListN.{length}
use Rattle.writer.specs.Meaning.{rules_of}
use Rattle.answers.specs.Verdict.{Verdict}
use Rattle.writer.specs.declared.answer.Answer.{Answer}
use Rattle.writer.specs.declared.answer.Rules.{Rules}
use Rattle.json_text.proofs.Laws.{ok_injective}
use Rattle.json_text.specs.Bytes.{Bytes}
use Rattle.json_text.specs.Refusal.{Result}
use Rattle.json_text.specs.Table.{after_at}
use Rattle.sheet.specs.Accepted.{Accepted, EachGives, Gives, Known}
use Rattle.members.specs.Condition.{Condition, condition}
use Rattle.members.specs.Kinds.{an_array_of}
use Rattle.members.specs.Rule.{Rule, a_rule}
use Rattle.members.specs.Sheet.{Sheet}
use Rattle.sheet.specs.declared.shape.Members.{Members}
use Rattle.rules.specs.Alone.{OnlyMarks}
use Rattle.rules.specs.Ruled.{Checked, CheckedAs, Ruled, RuledAs}
use Rattle.rules.specs.declared.placed.Placed.{Placed}
use Rattle.rules.proofs.Stopping.{returned, stops_as}
use Rattle.answers.specs.Rules.{check}
use Rattle.rules.specs.Told.{Answered, Told}
use Rattle.evaluation.proofs.After.{accepted_rows, gives_rows}
use Rattle.rules.proofs.Unmarking.{marks_none, marks_then, same_after}
use Rattle.rules.proofs.Walking.{Walking, behind_array, element_room, ended, falls, goes_on, next, settled, starts}

-- an answer over a table that differs in its marks only
pub answered_over : {s : Bytes} {w w' : List ℕ} {whole : Result Verdict} {r : Answer} → OnlyMarks w w' → Told s w' whole r → Answered s w w' whole r
answered_over o t = record { told = t; rows = o.rows; long = o.long; further = o.further }

-- bytes are accepted as one sheet only
pub one_sheet : {s : Bytes} {w w' : List ℕ} {m : Members} {x y : Sheet Condition} → Accepted s w m x → Accepted s w' m y → x ≡ y
one_sheet a b = ok_injective (sym a.reads ∙ b.reads)

-- from the node k on, what is left answers as all rules do; w₀ is the table at the start, w the one now
pub record Checking (s : Bytes) (w₀ : List ℕ) (m : Members) (kind : Rules) (node e : ℕ) (w : List ℕ) (i k : ℕ) : Type 0 where
  pub sheet : Sheet Condition
  pub accepted : Accepted s w₀ m sheet
  pub large : 16384 ≤ length w₀
  pub is_end : e ≡ after_at w₀ node
  pub only : OnlyMarks w₀ w
  pub low : i ≤ k
  pub walking : Walking (a_rule condition) s w₀ (node + 1) e (check sheet (rules_of kind) 0) (check sheet (rules_of kind) i) k

pub checking : {s : Bytes} {w : List ℕ} {m : Members} (kind : Rules) {node e : ℕ} →
    (16384 ≤ length w) × Known (Accepted s w m) × Known (Gives (an_array_of (a_rule condition)) s w node) → e ≡ after_at w node →
    Checking s w m kind node e w 0 (node + 1)
checking {s} {w} kind (large, a, g) q = record {
  sheet = a.given;
  accepted = a.known;
  large = large;
  is_end = q;
  only = marks_none w;
  low = omega arith;
  walking = starts (check a.given (rules_of kind) 0) (record { given = g.given; known = behind_array (a_rule condition) g.known q });
}

module _ {s : Bytes} {w₀ : List ℕ} {m : Members} {kind : Rules} {node e : ℕ} {w : List ℕ} {i k : ℕ} (l : Checking s w₀ m kind node e w i k) where
  -- what is told of the rules is told of those that any such sheet gives
  told_whole : {w' : List ℕ} {y : Fallible (Unit {0}) Answer} → OnlyMarks w₀ w' →
      ((xs : List (Rule Condition)) → EachGives (a_rule condition) s w₀ (node + 1) e xs → CheckedAs s w' (check l.sheet (rules_of kind) 0 xs) y) →
      (sheet : Sheet Condition) (xs : List (Rule Condition)) → Accepted s w₀ m sheet → Gives (an_array_of (a_rule condition)) s w₀ node xs →
      Checked s w₀ w' (check sheet (rules_of kind) 0 xs) y
  told_whole {w'} {y} o h sheet xs a g =
      record {
        is = subst (λ (x : Sheet Condition). CheckedAs s w' (check x (rules_of kind) 0 xs) y) (one_sheet l.accepted a) (h xs (behind_array (a_rule condition) g l.is_end));
        only = o;
      }

  pub all_hold : e ≤ k → (sheet : Sheet Condition) (xs : List (Rule Condition)) → Accepted s w₀ m sheet →
      Gives (an_array_of (a_rule condition)) s w₀ node xs → Checked s w₀ w (check sheet (rules_of kind) 0 xs) (Ok tt)
  unfolding check
  all_hold h = told_whole l.only (λ xs g. sym (ended l.walking h xs g))

  accepted_now : Accepted s w m l.sheet
  accepted_now = accepted_rows l.only.rows l.accepted

  module _ (h : k < e) where
    rule_now : Gives (a_rule condition) s w k (next l.walking h).first
    rule_now = gives_rows l.only.rows (next l.walking h).here

    pub rule_next : (16384 ≤ length w) × Known (Accepted s w m) × Known (Gives (a_rule condition) s w k)
    rule_next = (omega (arith, l.large, l.only.long), record { given = l.sheet; known = accepted_now }, record { given = (next l.walking h).first; known = rule_now })

    module _ {w' : List ℕ} {r : Fallible (Unit {0}) Answer}
        (j : (sheet : Sheet Condition) (x : Rule Condition) → Accepted s w m sheet → Gives (a_rule condition) s w k x → Ruled s w w' sheet
        (rules_of kind) i x r) where
      its : Ruled s w w' l.sheet (rules_of kind) i (next l.walking h).first r
      its = j l.sheet (next l.walking h).first accepted_now rule_now

      since : OnlyMarks w₀ w'
      since = marks_then l.only its.only

      pub rule_settles :
          (y : Answer) → r ≡ Err y → (z : Fallible (Unit {0}) Answer) → IsErrAnd z (λ v. v ≡ y) → (sheet : Sheet Condition) (xs : List (Rule Condition)) →
          Accepted s w₀ m sheet → Gives (an_array_of (a_rule condition)) s w₀ node xs → Checked s w₀ w' (check sheet (rules_of kind) 0 xs) z
      rule_settles y q z e sheet xs a g =
          let f = subst (RuledAs s w' l.sheet (rules_of kind) i (next l.walking h).first) q its.is in
          subst (Checked s w₀ w' (check sheet (rules_of kind) 0 xs)) (returned z e)
          (told_whole since (λ ys b. stops_as (sym (settled l.walking h _ refl ys b)) (f (next l.walking h).others)) sheet xs a g)

      pub rule_room : (i ≤ k) × (3 * k + 3 ≤ length w') × (k < 4096)
      rule_room = let x = element_room l.walking h in (l.low, omega (arith, x.0, since.long), x.1)

      -- the item behind
      module _ {p : Placed} (q : p ≡ record { place = i + 1; node = after_at w' k }) where
        rule_after : p.node ≡ after_at w₀ k
        rule_after = ap (λ (x : Placed). x.node) q ∙ same_after since k rule_room.2

        pub rule_falls : (k < p.node) × (p.node ≤ e)
        rule_falls = falls l.walking h p.node rule_after

        pub rule_behind : {u : Unit {0}} → r ≡ Ok u → Checking s w₀ m kind node e w' p.place p.node
        rule_behind t =
            let z = subst (RuledAs s w' l.sheet (rules_of kind) i (next l.walking h).first) t its.is in
            subst (λ (x : ℕ). Checking s w₀ m kind node e w' x p.node) (sym (ap (λ (x : Placed). x.place) q))
            (record {
              sheet = l.sheet;
              accepted = l.accepted;
              large = l.large;
              is_end = l.is_end;
              only = since;
              low = omega (arith, l.low, rule_falls.0);
              walking = goes_on l.walking h (check l.sheet (rules_of kind) (i + 1)) (z (next l.walking h).others) p.node rule_after;
            })
