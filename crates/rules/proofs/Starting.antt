-- The states that an effect and the outcomes start from, from the nodes of their members.
-- Assumes nothing.
use mathlib.Core.Bool.{Bool, false, true}
use mathlib.Core.List.{List, ◌∷◌}
use Rattle.std.specs.Prelude.{MatchOption, Option, Some, None}
use mathlib.Core.Path.{ap, refl, subst, sym, ◌∙◌, ◌≡◌}
use Prim.Native.Nat.{ℕ, ◌+◌, ◌<◌, ◌≤◌}
use native.Mathlib.Omega.{arith}
use Rattle.strings.specs.Answers.{FoundTold}
use Rattle.json_text.specs.Bytes.{Bytes, ascii, find, is_one_of}
use Rattle.json_text.specs.Held.{AreMembers}
use Rattle.json_text.specs.Json.{Value, entries}
use Rattle.json_text.specs.Refusal.{Result}
use Rattle.json_text.specs.Table.{after_at, kind_at, members_at}
use Rattle.sheet.proofs.Given.{EffectHere, ObjectHere, by_move, by_word, effect_given, move_given, outcome_given}
use Rattle.sheet.specs.Accepted.{EachGives, Given, Gives, MayGive, OutcomeGives, node_of}
use Rattle.members.specs.Condition.{Condition, condition}
use Rattle.members.specs.Kinds.{some_texts}
use Rattle.sheet.specs.Named.{MoveNamed, OutcomeNamed}
use Rattle.members.specs.Outcome.{Effect, Outcome, a_move, an_effect, an_outcome, or_stays, stays}
use Rattle.sheet.specs.declared.outcome.MoveMembers.{MoveMembers}
use Rattle.sheet.specs.declared.outcome.OutcomeMembers.{OutcomeMembers}
use Rattle.answers.specs.Admission.{is_source, sources}
use Rattle.sheet.specs.Accepted.{Known}
use Rattle.rules.specs.Given.{SourcesAt}
use Rattle.rules.proofs.Eligibility.{missing, there}
use Rattle.rules.proofs.Walking.{Walking, ended, goes_on, next, settled}

-- the members behind a node, up to a number that is the node after it
pub members_behind : {s : Bytes} {w : List ℕ} {n e : ℕ} → ObjectHere s w n → e ≡ after_at w n → AreMembers s w 64 (n + 1) e
members_behind {s} {w} {n} h q = subst (λ (x : ℕ). AreMembers s w 64 (n + 1) x) (sym q) h.members

-- the node of a member that must be there
pub given_node : {A : Type 0} {kind : Value → Result A} {s : Bytes} {w : List ℕ} {f : Option ℕ} {a : A} → Given kind s w f a → {x : ℕ} → x ≡ node_of f → Gives kind s w x a
unfolding node_of
given_node {A} {kind} {s} {w} {f} {a} g q = subst (λ (i : ℕ). Gives kind s w i a) (sym (q ∙ ap node_of g.found)) g.gives

-- ---- a move
pub move_sources :
    (s : Bytes) (w : List ℕ) {n e : ℕ} (m : MoveMembers) → e ≡ after_at w n → MoveNamed s w (members_at s w (n + 1) e) m → (f : Effect) →
    Gives a_move s w n f → SourcesAt s w f m.from
unfolding SourcesAt
move_sources s w {n} {e} m q named f g =
    let x = (move_given g).1 in
    let y = x.3 m (subst (λ (i : ℕ). MoveNamed s w (members_at s w (n + 1) i) m) q named) in
    subst (SourcesAt s w f) (sym y.comes.found) (x.0, x.1, x.2, y.comes.gives)

-- ---- an effect
module _ (s : Bytes) (w : List ℕ) {e : Option ℕ} where
  pub none_stays : e ≡ None → (f : Option Effect) → MayGive an_effect s w e f → SourcesAt s w (or_stays f) None
  unfolding SourcesAt
  none_stays q f g = ap or_stays (missing an_effect s w q g)

  module _ (n : ℕ) (q : e ≡ Some n) where
    pub word_stays : kind_at w n ≡ 4 → (f : Option Effect) → MayGive an_effect s w e f → SourcesAt s w (or_stays f) None
    unfolding SourcesAt
    word_stays k f g = let t = there an_effect s w n q g in ap or_stays t.1 ∙ go t.0 (effect_given t.2)
      where
        go : (a : Effect) → EffectHere s w n a → a ≡ stays
        go a (by_word p z) = z
        go a (by_move h x) = absurd (omega (arith, h.is_kind))

    -- an effect that is no word is an object with its move
    record Moving (a : Effect) : Type 0 where
      pub here : ObjectHere s w n
      pub given : (r : Option ℕ) → FoundTold s w (find (ascii "moves") (entries (members_at s w (n + 1) (after_at w n)))) r → Given a_move s w r a

    moving : (kind_at w n ≡ 4 → ⊥) → (f : Option Effect) (g : MayGive an_effect s w e f) → Moving (there an_effect s w n q g).0
    moving k f g = go (there an_effect s w n q g).0 (effect_given (there an_effect s w n q g).2)
      where
        go : (a : Effect) → EffectHere s w n a → Moving a
        go a (by_word p z) = absurd (k p)
        go a (by_move h x) = record { here = h; given = x }

    pub object_moving : (kind_at w n ≡ 4 → ⊥) → Known (MayGive an_effect s w e) → ObjectHere s w n
    object_moving k h = (moving k h.given h.known).here

    module _ (k : kind_at w n ≡ 4 → ⊥) {end : ℕ} (p : end ≡ after_at w n) {r : Option ℕ} (told : FoundTold s w (find (ascii "moves") (entries (members_at s w (n + 1) end))) r) where
      its_move : (f : Option Effect) (g : MayGive an_effect s w e f) → Given a_move s w r (there an_effect s w n q g).0
      its_move f g = (moving k f g).given r (subst (λ (i : ℕ). FoundTold s w (find (ascii "moves") (entries (members_at s w (n + 1) i))) r) p told)

      pub move_node : Known (MayGive an_effect s w e) → (m : ℕ) → r ≡ Some m → Known (Gives a_move s w m)
      move_node h m i =
          let x = its_move h.given h.known in let j : x.node ≡
          m = cc (x.found, i) in
          record {
            given = (there an_effect s w n q h.known).0;
            known = subst (λ (y : ℕ). Gives a_move s w y (there an_effect s w n q h.known).0) j x.gives;
          }

      pub as_move :
          (m : ℕ) → r ≡ Some m → (v : Option ℕ) → ((f : Effect) → Gives a_move s w m f → SourcesAt s w f v) → (f : Option Effect) →
          MayGive an_effect s w e f → SourcesAt s w (or_stays f) v
      as_move m i v a f g =
          let x = its_move f g in
          let j : x.node ≡ m = cc (x.found, i) in
          subst (λ (y : Effect). SourcesAt s w y v) (sym (ap or_stays (there an_effect s w n q g).1))
          (a (there an_effect s w n q g).0 (subst (λ (y : ℕ). Gives a_move s w y (there an_effect s w n q g).0) j x.gives))

      pub no_move : r ≡ None → (v : Option ℕ) → (f : Option Effect) → MayGive an_effect s w e f → SourcesAt s w (or_stays f) v
      no_move i v f g = let x = its_move f g in let z : None ≡ Some x.node = sym i ∙ x.found in let y : ◌≡◌ {A = ℕ} 0 1 = cc in absurd (omega arith)

-- ---- a text among them
module _ (s : Bytes) (w : List ℕ) (f : Effect) {r : Option ℕ} (h : SourcesAt s w f r) where
  pub no_sources : r ≡ None → (t : Bytes) → false ≡ is_one_of t (sources f)
  unfolding SourcesAt is_one_of
  no_sources q t = let e : f ≡ stays = subst (SourcesAt s w f) q h in ap (λ (y : Effect). is_one_of t (sources y)) (sym e)

  pub sources_here : (n : ℕ) → r ≡ Some n → Gives some_texts s w n (sources f)
  unfolding SourcesAt
  sources_here n q = let x = subst (SourcesAt s w f) q h in subst (λ (y : Effect). Gives some_texts s w n (sources y)) (sym x.2) x.3

-- whether a text is one of them
pub starts_told :
    (s : Bytes) (w : List ℕ) (f : Effect) (r : Option ℕ) → SourcesAt s w f r → (t : Bytes) (b : Bool) →
    MatchOption r (b ≡ false) (λ n. (us : List Bytes) → Gives some_texts s w n us → b ≡ is_one_of t us) → b ≡ is_one_of t (sources f)
starts_told s w f None h t b e = e ∙ no_sources s w f h refl t
starts_told s w f (Some n) h t b e = e (sources f) (sources_here s w f h n refl)

-- ---- an outcome
-- the members of the outcome at a node
pub outcome_here : {s : Bytes} {w : List ℕ} {n : ℕ} {o : Outcome Condition} → Gives (an_outcome condition) s w n o → ObjectHere s w n
outcome_here g = (outcome_given g).0

pub outcome_members :
    {s : Bytes} {w : List ℕ} {n e : ℕ} {m : OutcomeMembers} → e ≡ after_at w n → OutcomeNamed s w (members_at s w (n + 1) e) m →
    {o : Outcome Condition} → Gives (an_outcome condition) s w n o → OutcomeGives s w m o
outcome_members {s} {w} {n} {e} {m} q named g = (outcome_given g).1 m (subst (λ (i : ℕ). OutcomeNamed s w (members_at s w (n + 1) i) m) q named)

pub effect_known : {s : Bytes} {w : List ℕ} {m : OutcomeMembers} {o : Outcome Condition} → OutcomeGives s w m o → Known (MayGive an_effect s w m.effect)
effect_known g = record { given = g.does; known = g.effect }

-- ---- outcomes, one after the other
starting : (t : Bytes) (o : Outcome Condition) (os : List (Outcome Condition)) (b : Bool) → is_one_of t (sources o.effect) ≡ b →
    is_source t (o ∷ os) ≡ elim b [ true ↦ true | false ↦ is_source t os ]
unfolding is_source
starting t o os b q = ap {B = Bool} (λ (c : Bool). elim c [ true ↦ true | false ↦ is_source t os ]) q

module _ {s : Bytes} {w : List ℕ} {from e : ℕ} (t : Bytes) {k : ℕ}
    (l : Walking (an_outcome condition) s w from e (is_source t) (is_source t) k) (h : k < e)
    {m : OutcomeMembers} (given : (o : Outcome Condition) → Gives (an_outcome condition) s w k o → OutcomeGives s w m o) (b : Bool)
    (a : (f : Option Effect) → MayGive an_effect s w m.effect f → b ≡ is_one_of t (sources (or_stays f))) where
  here_is : is_one_of t (sources (next l h).first.effect) ≡ b
  here_is = let g = given (next l h).first (next l h).here in sym (a g.does g.effect ∙ ap (λ (y : Effect). is_one_of t (sources y)) (sym g.is_effect))

  pub starts_here : b ≡ true → (os : List (Outcome Condition)) → EachGives (an_outcome condition) s w from e os → true ≡ is_source t os
  starts_here q = settled l h true (sym (starting t (next l h).first (next l h).others true (here_is ∙ q)))

  pub starts_elsewhere : b ≡ false → (k' : ℕ) → k' ≡ after_at w k → Walking (an_outcome condition) s w from e (is_source t) (is_source t) k'
  starts_elsewhere q = goes_on l h (is_source t) (starting t (next l h).first (next l h).others false (here_is ∙ q))

pub none_starts :
    {s : Bytes} {w : List ℕ} {from e : ℕ} (t : Bytes) {k : ℕ} → Walking (an_outcome condition) s w from e (is_source t) (is_source t) k → e ≤ k →
    (os : List (Outcome Condition)) → EachGives (an_outcome condition) s w from e os → false ≡ is_source t os
unfolding is_source
none_starts t l h = ended l h
