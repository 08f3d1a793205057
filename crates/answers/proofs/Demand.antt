-- Laws of the demand's definition: what its premises say of each reading, which guards count, and what a refusal names.
-- Assumes nothing.
use mathlib.Core.Bool.{false, true, true≢false}
use mathlib.Core.List.{Memᴰ, [], ◌∷◌}
use mathlib.Core.Logic.{inl, inr, ◌≢◌, ◌⊎◌}
use Rattle.std.specs.Prelude.{Option, None, Some}
use mathlib.Core.Path.{ap, refl, sym, ◌∙◌, ◌≡◌}
use Prim.Native.Nat.{ℕ, ◌<◌}
use borrow.Author.Tests.{ltb-true}
use Rattle.answers.specs.Decide.{decide_call}
use Rattle.answers.specs.Demand.{Comparable, IsUnobservable, Kept, NamesVanished, RefusedAgain, SameRules, Vanished, counts_for, guard}
use Rattle.answers.specs.Outcomes.{Placed, select}
use Rattle.answers.specs.Verdict.{Verdict}
use Rattle.semantics.proofs.Later.{Every, Fact, known_gives}
use Rattle.semantics.specs.Expression.{gives}
use Rattle.semantics.specs.Names.{Names}
use Rattle.semantics.specs.Readings.{IsReading, Reading, sheet_readings}
use Rattle.semantics.specs.Semantics.{kernel}
use Rattle.json_text.proofs.Laws.{ok_injective}
use Rattle.json_text.specs.Bytes.{Bytes}
use Rattle.json_text.specs.Json.{Value, is_null, null}
use Rattle.json_text.specs.Refusal.{Result, ok}
use Rattle.members.specs.Condition.{Condition}
use Rattle.members.specs.Sheet.{Sheet}

-- the readings of two sheets with the same rules are the same
pub same_readings : (old new : Sheet Condition) → SameRules old new → sheet_readings new ≡ sheet_readings old
same_readings old new same =
    let a = same.rules in
    let b = same.outcomes in
    cc

not_null_lem : (v : Value) → is_null v ≡ false → v ≢ null
not_null_lem v e p = true≢false (sym (ap is_null p) ∙ e)

-- a text of a reading that has vanished
unfoldable pub Erased : Sheet Condition → Sheet Condition → Bytes → Type 0
Erased old new e = (r : Reading) × (r.text ≡ e) × IsReading old r × Vanished old new r

-- Of two sheets that are compared, every reading gives a value or nothing on both, and on the new one its old value or nothing, which is what evaluation needs.
pub fact_of : (old new : Sheet Condition) (c : Comparable old new) → Every (Fact kernel (Erased old new) old new) (sheet_readings old)
unfolding Erased
fact_of old new c r m =
    record {
      was = was.0;
      now = now.0;
      is_was = was.1;
      is_now = now.1;
      change = change (c.old_value_or_nothing r m);
      exact = exact (c.old_value_or_nothing r m);
      erased =
          λ v p n g. (
            r,
            refl,
            m,
            record {
              value = v;
              gave = was.1 ∙ ap {B = Result (Option Value)} ok p;
              not_null = not_null_lem v n;
              gone = now.1 ∙ ap {B = Result (Option Value)} ok g;
            },
          );
    }
  where
    was : (g : Option Value) × (gives kernel old [] r.text ≡ ok g)
    was = known_gives kernel old (sheet_readings old) c.is_clean r m

    now : (g : Option Value) × (gives kernel new [] r.text ≡ ok g)
    now = known_gives kernel new (sheet_readings new) c.is_clean_again r (rw (same_readings old new c.same_rules) m)

    change : Kept old new r → (now.0 ≡ was.0) ⊎ (now.0 ≡ None)
    change (inl u) = inl (ok_injective (sym now.1 ∙ u ∙ was.1))
    change (inr g) = inr (ok_injective (sym now.1 ∙ g.1))

    exact : Kept old new r → r.exact ≡ true → now.0 ≡ was.0
    exact (inl u) e = ok_injective (sym now.1 ∙ u ∙ was.1)
    exact (inr g) e = absurd (true≢false (sym e ∙ g.0))

-- where the outcome selected has no guard, only the guards before it count
pub before_selected :
    (s : Sheet Condition) (v : Verdict) (p : Placed) (k : ℕ) → decide_call s ≡ ok v → select s 0 s.outcomes ≡ ok p → p.outcome.when ≡ None →
    counts_for s (guard k) ≡ true → k < p.place
unfolding counts_for
before_selected s v p k e f w c = ltb-true k p.place (rw (e, counts_for, f, w) at c)

-- a name of a reading of the old sheet that gave a value other than null and now gives nothing
abbrev pub NamesLost : Sheet Condition → Sheet Condition → Names → Type 0
NamesLost old new ns =
    (x : Reading) ×
    (v : Value) ×
    IsReading old x ×
    (gives kernel old [] x.text ≡ ok (Some v)) ×
    (v ≢ null) ×
    (gives kernel new [] x.text ≡ ok None) ×
    Memᴰ (36 ∷ x.text) ns

-- a refusal has one, unless the old decision was an unobservable refusal at the same step
pub names_vanished : (old new : Sheet Condition) (r : RefusedAgain old new) → (IsUnobservable old r.step → ⊥) → NamesLost old new r.names
names_vanished old new r h = by r.named
  where
    by : NamesVanished old new r.names ⊎ IsUnobservable old r.step → NamesLost old new r.names
    by (inl n) = (n.0, n.2.value, n.1, n.2.gave, n.2.not_null, n.2.gone, n.3)
    by (inr q) = absurd (h q)
