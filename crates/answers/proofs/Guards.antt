-- The guards tried again, where readings are as before or gone: the same selection, or a guard up to it cannot be evaluated.
-- Assumes nothing.
use mathlib.Core.Bool.{Bool, false, true, true≢false}
use mathlib.Core.List.{List, [], ◌∷◌}
use mathlib.Core.Logic.{inl, inr, ◌⊎◌}
use Rattle.std.specs.Prelude.{Option, None, Some}
use mathlib.Core.Path.{ap, refl, sym, ◌∙◌, ◌≡◌}
use Prim.Native.Nat.{ℕ, suc, ◌+◌, ◌≤◌}
use native.Mathlib.Nat.{le_refl, le_trans}
use native.Mathlib.Omega.{arith}
use Rattle.answers.proofs.LaterRules.{lost_ascending}
use Rattle.answers.specs.Outcomes.{Placed, at, eligible, guard as guard_held, select}
use Rattle.answers.specs.Demand.{is_guarded}
use Rattle.semantics.proofs.Later.{Both, Every, Fact, Later, Lost, every_left, every_right, later_evaluate, truth_gone, truth_kept}
use Rattle.semantics.specs.Evaluate.{Answer}
use Rattle.semantics.specs.Names.{Names, ascending}
use Rattle.semantics.specs.Readings.{guard_readings, when_readings}
use Rattle.semantics.specs.Semantics.{kernel}
use Rattle.semantics.specs.Truth.{False, True, Truth, Unknown}
use Rattle.json_text.proofs.Laws.{bind_ok}
use Rattle.json_text.specs.Bytes.{Bytes}
use Rattle.json_text.specs.Refusal.{Result, guard_unknown, no_outcome, ok, refused}
use Rattle.members.specs.Condition.{Condition}
use Rattle.members.specs.Outcome.{Outcome}
use Rattle.members.specs.Sheet.{Sheet}

-- one outcome more
module _ (s : Sheet Condition) (i : ℕ) (o : Outcome Condition) (os : List (Outcome Condition)) where
  pub select_skip : eligible s.state o ≡ false → select s i (o ∷ os) ≡ select s (i + 1) os
  unfolding select
  select_skip e = rw (e, select) refl

  module _ (a : Answer) (e : eligible s.state o ≡ true) (v : guard_held s o.when ≡ ok a) where
    pub select_true : a.truth ≡ True → select s i (o ∷ os) ≡ ok (record { place = i; outcome = o })
    unfolding select
    select_true t = rw (e, select) (bind_ok _ v ∙ rw t refl)

    pub select_false : a.truth ≡ False → select s i (o ∷ os) ≡ select s (i + 1) os
    unfolding select
    select_false t = rw (e, select) (bind_ok _ v ∙ rw t refl)

    pub select_unknown : a.truth ≡ Unknown → select s i (o ∷ os) ≡ refused (guard_unknown i o.name (ascending a.names))
    unfolding select
    select_unknown t = rw (e, select) (bind_ok _ v ∙ rw t refl)

pub select_none : (s : Sheet Condition) (i : ℕ) → select s i [] ≡ refused no_outcome
unfolding select
select_none s i = refl

-- where an earlier selection settled, from a place on
pub data GuardShape (i : ℕ) (x : Result Placed) : Type 0 where
  chosen : (p : Placed) → x ≡ ok p → i ≤ p.place → GuardShape i x
  exhausted : x ≡ refused no_outcome → GuardShape i x
  stopped : (j : ℕ) (n : Bytes) (ns : Names) → x ≡ refused (guard_unknown j n ns) → i ≤ j → GuardShape i x

pub guard_shape_down : (i : ℕ) (x : Result Placed) → GuardShape (i + 1) x → GuardShape i x
guard_shape_down i x (chosen p e h) = chosen p e (le_trans (omega arith) h)
guard_shape_down i x (exhausted e) = exhausted e
guard_shape_down i x (stopped j n ns e h) = stopped j n ns e (le_trans (omega arith) h)

-- a guard at a place counts: the selection came later, or by that guard
abbrev pub GuardTried : ℕ → Result Placed → Type 0
GuardTried i x =
    GuardShape (i + 1) x ⊎
    ((x ≡ refused no_outcome) ⊎
    (((p : Placed) × (c : Condition) × (x ≡ ok p) × (p.outcome.when ≡ Some c) × (i ≤ p.place)) ⊎
    ((j : ℕ) × (n : Bytes) × (ns : Names) × (x ≡ refused (guard_unknown j n ns)) × (i ≤ j))))

module _ (Erased : Bytes → Type 0) where
  pub record GuardRefused (x y : Result Placed) : Type 0 where
    pub place : ℕ
    pub name : Bytes
    pub names : Names
    pub is_new : y ≡ refused (guard_unknown place name names)
    pub tried : GuardTried place x
    pub named : Lost Erased names ⊎ ((ms : Names) × (x ≡ refused (guard_unknown place name ms)))

  pub record GuardsLater (i : ℕ) (x y : Result Placed) : Type 0 where
    pub shape : GuardShape i x
    pub later : (y ≡ x) ⊎ GuardRefused x y

  pub record GuardLater (old new : Sheet Condition) (w : Option Condition) : Type 0 where
    pub answers : Both (Later Erased) (guard_held old w) (guard_held new w)
    pub has : answers.now.truth ≡ Unknown → (c : Condition) × (w ≡ Some c)

  module _ (old new : Sheet Condition) where
    pub later_guard : (w : Option Condition) → Every (Fact kernel Erased old new) (when_readings w) → GuardLater old new w
    unfolding guard_held
    later_guard None h = record { answers = record { was = _; now = _; is_was = refl; is_now = refl; rel = truth_kept refl }; has = λ e. absurd (true≢false (ap is_true e)) }
      where
        is_true : Truth → Bool
        is_true True = true
        is_true False = false
        is_true Unknown = false
    later_guard (Some c) h = record { answers = later_evaluate kernel Erased old new [] c h; has = λ e. (c, refl) }

    -- one outcome more, eligible on both sheets or on neither
    pub later_outcome : (i : ℕ) (o : Outcome Condition) (os : List (Outcome Condition)) → eligible new.state o ≡ eligible old.state o →
        GuardLater old new o.when → GuardsLater (i + 1) (select old (i + 1) os) (select new (i + 1) os) →
        GuardsLater i (select old i (o ∷ os)) (select new i (o ∷ os))
    later_outcome i o os same g below = by (eligible old.state o) refl
      where
        k : Both (Later Erased) (guard_held old o.when) (guard_held new o.when)
        k = g.answers

        pass_on : select old i (o ∷ os) ≡ select old (i + 1) os → select new i (o ∷ os) ≡ select new (i + 1) os → GuardsLater i (select old i (o ∷ os)) (select new i (o ∷ os))
        pass_on p q = rw (p, q) (record { shape = guard_shape_down i _ below.shape; later = below.later })

        shape_of : eligible old.state o ≡ true → (t : Truth) → k.was.truth ≡ t → GuardShape i (select old i (o ∷ os))
        shape_of e True p = chosen _ (select_true old i o os k.was e k.is_was p) (le_refl i)
        shape_of e False p = rw (select_false old i o os k.was e k.is_was p) (guard_shape_down i _ below.shape)
        shape_of e Unknown p = stopped i _ _ (select_unknown old i o os k.was e k.is_was p) (le_refl i)

        tried_of : eligible old.state o ≡ true → k.now.truth ≡ Unknown → (t : Truth) → k.was.truth ≡ t → GuardTried i (select old i (o ∷ os))
        tried_of e u True p = inr (inr (inl (_, (g.has u).0, select_true old i o os k.was e k.is_was p, (g.has u).1, le_refl i)))
        tried_of e u False p = rw (select_false old i o os k.was e k.is_was p) (inl below.shape)
        tried_of e u Unknown p = inr (inr (inr (i, _, _, select_unknown old i o os k.was e k.is_was p, le_refl i)))

        go : eligible old.state o ≡ true → eligible new.state o ≡ true → Later Erased k.was k.now → (t : Truth) →
            k.was.truth ≡ t → GuardsLater i (select old i (o ∷ os)) (select new i (o ∷ os))
        go e f (truth_kept q) True p =
            record {
              shape = shape_of e True p;
              later = inl (select_true new i o os k.now f k.is_now (q ∙ p) ∙ sym (select_true old i o os k.was e k.is_was p));
            }
        go e f (truth_kept q) False p = pass_on (select_false old i o os k.was e k.is_was p) (select_false new i o os k.now f k.is_now (q ∙ p))
        go e f (truth_kept q) Unknown p =
            record {
              shape = shape_of e Unknown p;
              later =
                  inr
                  (record {
                    place = i;
                    name = o.name;
                    names = _;
                    is_new = select_unknown new i o os k.now f k.is_now (q ∙ p);
                    tried = tried_of e (q ∙ p) Unknown p;
                    named = inr (_, select_unknown old i o os k.was e k.is_was p);
                  });
            }
        go e f (truth_gone u l) t p =
            record {
              shape = shape_of e t p;
              later =
                  inr
                  (record {
                    place = i;
                    name = o.name;
                    names = _;
                    is_new = select_unknown new i o os k.now f k.is_now u;
                    tried = tried_of e u t p;
                    named = inl (lost_ascending Erased k.now.names l);
                  });
            }

        by : (b : Bool) → eligible old.state o ≡ b → GuardsLater i (select old i (o ∷ os)) (select new i (o ∷ os))
        by false e = pass_on (select_skip old i o os e) (select_skip new i o os (same ∙ e))
        by true e = go e (same ∙ e) k.rel k.was.truth refl

    pub later_select :
        (i : ℕ) (os : List (Outcome Condition)) → ((o : Outcome Condition) → eligible new.state o ≡ eligible old.state o) →
        Every (Fact kernel Erased old new) (guard_readings os) → GuardsLater i (select old i os) (select new i os)
    unfolding guard_readings
    later_select i [] same h = record { shape = exhausted (select_none old i); later = inl (select_none new i ∙ sym (select_none old i)) }
    later_select i (o ∷ os) same h =
        later_outcome
        i
        o
        os
        (same o)
        (later_guard o.when (every_left (when_readings o.when) (guard_readings os) h))
        (later_select (i + 1) os same (every_right (when_readings o.when) (guard_readings os) h))

    -- a guard that could not be evaluated is that of an eligible outcome
    pub guard_at :
        (i : ℕ) (os : List (Outcome Condition)) → Every (Fact kernel Erased old new) (guard_readings os) → (j : ℕ) (n : Bytes) (ns : Names) →
        select new i os ≡ refused (guard_unknown j n ns) → (k : ℕ) × (j ≡ i + k) × (is_guarded new.state (at i k os) ≡ true)
    unfolding guard_readings at
    guard_at i [] h j n ns e =
        let q = sym (select_none new i) ∙ e in
        let z : ◌≡◌ {A = Bool} true false = cc in
        absurd (true≢false z)
    guard_at i (o ∷ os) h j n ns e = by (λ f. further (guard_at (i + 1) os (every_right (when_readings o.when) (guard_readings os) h) j n ns f)) (eligible new.state o) refl
      where
        g : GuardLater old new o.when
        g = later_guard o.when (every_left (when_readings o.when) (guard_readings os) h)

        further : (k : ℕ) × (j ≡ i + 1 + k) × (is_guarded new.state (at (i + 1) k os) ≡ true) →
            (k : ℕ) × (j ≡ i + k) × (is_guarded new.state (at i k (o ∷ os)) ≡ true)
        further f = (suc f.0, omega (arith, f.1), f.2)

        guarded : eligible new.state o ≡ true → (c : Condition) → o.when ≡ Some c → is_guarded new.state (Some (record { place = i; outcome = o })) ≡ true
        guarded q c w = rw (q, w) refl

        judged : (select new (i + 1) os ≡ refused (guard_unknown j n ns) → (k : ℕ) × (j ≡ i + k) ×
            (is_guarded new.state (at i k (o ∷ os)) ≡ true)) → eligible new.state o ≡ true → (t : Truth) → g.answers.now.truth ≡ t →
            (k : ℕ) × (j ≡ i + k) × (is_guarded new.state (at i k (o ∷ os)) ≡ true)
        judged below q True p =
            let r = sym (select_true new i o os g.answers.now q g.answers.is_now p) ∙ e in
            let z : ◌≡◌ {A = Bool} true false = cc in
            absurd (true≢false z)
        judged below q False p = below (sym (select_false new i o os g.answers.now q g.answers.is_now p) ∙ e)
        judged below q Unknown p =
            let r = sym (select_unknown new i o os g.answers.now q g.answers.is_now p) ∙ e in
            let f : j ≡ i = cc in
            let c = g.has p in
            (0, omega (arith, f), guarded q c.0 c.1)

        by : (select new (i + 1) os ≡ refused (guard_unknown j n ns) → (k : ℕ) × (j ≡ i + k) ×
            (is_guarded new.state (at i k (o ∷ os)) ≡ true)) → (b : Bool) → eligible new.state o ≡ b →
            (k : ℕ) × (j ≡ i + k) × (is_guarded new.state (at i k (o ∷ os)) ≡ true)
        by below false q = below (sym (select_skip new i o os q) ∙ e)
        by below true q = judged below q g.answers.now.truth refl
