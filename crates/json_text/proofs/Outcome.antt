-- What a reader makes of a text hangs on the text up to one byte: how that is stated of each reader, and laws that compose it as readers are composed.
-- Assumes nothing.
use mathlib.Core.Bool.{Bool, false, true, true≢false}
use mathlib.Core.List.{append_assoc, append-nil, [], ◌++◌, ◌∷◌}
use mathlib.Core.Logic.{◌≢◌}
use mathlib.Core.Path.{ap, refl, subst, sym, ◌∙◌, ◌≡◌}
use Prim.Native.Nat.{ℕ}
use Rattle.json_text.proofs.Ascii.{is_ascii, last_append, last_ascii}
use Rattle.json_text.proofs.Counting.{tallied_append}
use Rattle.json_text.proofs.Laws.{bind_ok, bind_refused}
use Rattle.json_text.specs.Bytes.{Bytes}
use Rattle.json_text.specs.Fault.{StandsAt}
use Rattle.json_text.specs.Tally.{Tally, further, tallied}
use Rattle.json_text.specs.Refusal.{Refusal, Result, not_json, ok, refused, ◌>>=◌}

-- a text that is over, or that begins with the same byte as another
pub data Follows : Bytes → Bytes → Type 0 where
  nothing : {r : Bytes} → Follows r []
  same : {c : ℕ} {u x : Bytes} → Follows (c ∷ u) (c ∷ x)

pub follows_self : (r : Bytes) → Follows r r
follows_self [] = nothing
follows_self (c ∷ r) = same

pub follows_behind : (p : Bytes) {r x : Bytes} → Follows r x → Follows (p ++ r) (p ++ x)
follows_behind [] h = h
follows_behind (c ∷ p) h = same

pub follows_good : (good r : Bytes) → Follows (good ++ r) good
follows_good [] r = nothing
follows_good (c ∷ good) r = same

follows_from : {s s' x : Bytes} → s ≡ s' → Follows s' x → Follows s x
follows_from {x} e h = subst (λ y. Follows y x) (sym e) h

-- nothing is wrong but that the text may end too early: all of it is read, or it is refused with 4
pub data Quiet {A B : Type 0} (mk : B → Bytes → A) : Result A → Type 0 where
  all_read : (b : B) → Quiet mk (ok (mk b []))
  early : Quiet mk (refused not_json)

-- at 6 and 7 what follows the byte need pass neither 5 nor 8
abbrev pub spares : {st : Tally} {c : ℕ} {q : Refusal} → StandsAt st c q → Bool
spares (StandsAt.bracket h x y) = false
spares (StandsAt.numeral h x y) = true
spares (StandsAt.begins h x y) = true
spares (StandsAt.quote h x) = false

-- how a byte shows its refusal, behind what was counted: at 4 nothing can follow it; at 5 to 8 A says that something can
pub data Shown (st : Tally) (c : ℕ) (A : Bool → Type 0) : Refusal → Type 0 where
  dead : Shown st c A not_json
  past : {q : Refusal} (m : StandsAt st c q) → A (spares m) → Shown st c A q

-- a byte that is not ASCII stands behind one that is, so that no character is cut
abbrev pub Edge : Bytes → ℕ → Type 0
Edge good c = is_ascii c ≡ false → last_ascii true good ≡ true

-- What a reader P makes of s, where `mk b r` is its answer b with the rest r. It takes a part of s, whatever may follow its first byte (T
-- says of what is taken that it is spelled so); or s ends too early, or P refuses it at a byte c, whatever follows c. `G true` says of a
-- beginning that it can be completed sparingly, passing neither 5 nor 8; `G false`, that it can be completed. `st` is what has been counted
-- before s.
pub data Outcome (st : Tally) {A B : Type 0} (mk : B → Bytes → A) (P : Bytes → Result A) (G : Bool → Bytes → Type 0) (T : B → Bytes → Type 0) (s : Bytes) : Type 0 where
  took : (b : B) (used r : Bytes) → s ≡ used ++ r → ((x : Bytes) → Follows r x → P (used ++ x) ≡ ok (mk b x)) → T b used →
      last_ascii true used ≡ true → Outcome st mk P G T s
  cut : P s ≡ refused not_json → G true s → Outcome st mk P G T s
  fault : (q : Refusal) (good : Bytes) (c : ℕ) (t : Bytes) → s ≡ good ++ (c ∷ t) → ((x : Bytes) → P (good ++ (c ∷ x)) ≡ refused q) →
      Quiet mk (P good) → G true good → Shown (tallied st good) c (λ i. G i (good ++ (c ∷ []))) q → Edge good c → Outcome st mk P G T s

pub quiet_at : {A B : Type 0} {mk : B → Bytes → A} {x y : Result A} → x ≡ y → Quiet mk y → Quiet mk x
quiet_at {mk} e h = subst (λ z. Quiet mk z) (sym e) h

pub shown_map : {st : Tally} {c : ℕ} {A B : Bool → Type 0} {q : Refusal} → ((i : Bool) → A i → B i) → Shown st c A q → Shown st c B q
shown_map f dead = dead
shown_map f (past m a) = past m (f (spares m) a)

module _ {st : Tally} {A B : Type 0} {mk : B → Bytes → A} {G : Bool → Bytes → Type 0} {T : B → Bytes → Type 0} where
  -- readers that agree on what begins with the same byte
  pub ext : {P Q : Bytes → Result A} {s : Bytes} → ((x : Bytes) → Follows s x → P x ≡ Q x) → Outcome st mk Q G T s → Outcome st mk P G T s
  ext h (took b used r e again t l) = took b used r e (λ x f. h (used ++ x) (follows_from e (follows_behind used f)) ∙ again x f) t l
  ext {s = s} h (cut e g) = cut (h s (follows_self s) ∙ e) g
  ext h (fault q good c t p again quiet g u l) =
      fault q good c t p (λ x. h (good ++ (c ∷ x)) (follows_from p (follows_behind good same)) ∙ again x)
      (quiet_at (h good (follows_from p (follows_good good (c ∷ t)))) quiet) g u l

  pub weaken :
      {P : Bytes → Result A} {G' : Bool → Bytes → Type 0} {T' : B → Bytes → Type 0} {s : Bytes} → ((b : Bool) (g : Bytes) → G b g → G' b g) →
      ((b : B) (u : Bytes) → T b u → T' b u) → Outcome st mk P G T s → Outcome st mk P G' T' s
  weaken h k (took b used r e again t l) = took b used r e again (k b used t) l
  weaken {s = s} h k (cut e g) = cut e (h true s g)
  weaken h k (fault q good c t p again quiet g u l) = fault q good c t p again quiet (h true good g) (shown_map (λ i. h i (good ++ (c ∷ []))) u) l

  -- an answer with the text as its rest
  pub done : (b : B) (s : Bytes) → T b [] → Outcome st mk (λ x. ok (mk b x)) G T s
  done b s t = took b [] s refl (λ x f. refl) t refl

  -- a byte that is refused, whatever follows it
  pub stopped :
      {P : Bytes → Result A} (q : Refusal) (c : ℕ) (t : Bytes) → ((x : Bytes) → P (c ∷ x) ≡ refused q) → Quiet mk (P []) → G true [] →
      Shown st c (λ i. G i (c ∷ [])) q → Outcome st mk P G T (c ∷ t)
  stopped q c t again quiet g u = fault q [] c t refl again quiet g u (λ e. refl)

  -- one byte, and then another reader, which takes a byte at least where the first is not ASCII
  pub step_any :
      {P Q : Bytes → Result A} (c : ℕ) (s : Bytes) → ((x : Bytes) → P (c ∷ x) ≡ Q x) → ((b : B) → is_ascii c ≡ false → Q [] ≢ ok (mk b [])) →
      ((q : Refusal) (d : ℕ) → is_ascii c ≡ false → ((x : Bytes) → Q (d ∷ x) ≡ refused q) → is_ascii d ≡ true) →
      Outcome (further st c) mk Q (λ b g. G b (c ∷ g)) (λ b u. T b (c ∷ u)) s → Outcome st mk P G T (c ∷ s)
  step_any {P} {Q} c s h some_byte next_ascii (took b used r e again t l) =
      took b (c ∷ used) r (ap {B = Bytes} (λ x. c ∷ x) e) (λ x f. h (used ++ x) ∙ again x f) t (go (is_ascii c) refl used again l)
    where
      go : (a : Bool) → is_ascii c ≡ a → (u : Bytes) → ((x : Bytes) → Follows r x → Q (u ++ x) ≡ ok (mk b x)) → last_ascii true u ≡ true → last_ascii (is_ascii c) u ≡ true
      go true q u k f = subst (λ (a : Bool). last_ascii a u ≡ true) (sym q) f
      go false q [] k f = absurd (some_byte b q (k [] nothing))
      go false q (d ∷ u) k f = f
  step_any c s h some_byte next_ascii (cut e g) = cut (h s ∙ e) g
  step_any {P} {Q} c s h some_byte next_ascii (fault q good d t p again quiet g u l) =
      fault q (c ∷ good) d t (ap {B = Bytes} (λ x. c ∷ x) p) (λ x. h (good ++ (d ∷ x)) ∙ again x) (quiet_at (h good) quiet) g u
      (go (is_ascii c) refl good again l)
    where
      go : (a : Bool) → is_ascii c ≡ a → (w : Bytes) → ((x : Bytes) → Q (w ++ (d ∷ x)) ≡ refused q) → Edge w d → Edge (c ∷ w) d
      go true i w k f e = subst (λ (a : Bool). last_ascii a w ≡ true) (sym i) (f e)
      go false i [] k f e = absurd (true≢false (sym (next_ascii q d i k) ∙ e))
      go false i (x ∷ w) k f e = f e

  -- an ASCII byte, and then another reader
  pub step : {P Q : Bytes → Result A} (c : ℕ) (s : Bytes) → is_ascii c ≡ true → ((x : Bytes) → P (c ∷ x) ≡ Q x) →
      Outcome (further st c) mk Q (λ b g. G b (c ∷ g)) (λ b u. T b (c ∷ u)) s → Outcome st mk P G T (c ∷ s)
  step c s a h o = step_any c s h (λ b e. absurd (true≢false (sym a ∙ e))) (λ q d e k. absurd (true≢false (sym a ∙ e))) o

pub quiet_refused : {A B : Type 0} {mk : B → Bytes → A} {q : Refusal} → Quiet mk (refused q) → q ≡ not_json
quiet_refused early = refl

quietly : {A B A' B' : Type 0} {mk : B → Bytes → A} {mk' : B' → Bytes → A'} (f : A → Result A') {x : Result A} → Quiet mk x →
    ((b : B) → Quiet mk' (f (mk b []))) → Quiet mk' (x >>= f)
quietly f (all_read b) over = over b
quietly f early over = early

-- the same count
pub moved : {st st' : Tally} {A B : Type 0} {mk : B → Bytes → A} {P : Bytes → Result A} {G : Bool → Bytes → Type 0} {T : B → Bytes → Type 0}
    {s : Bytes} → st ≡ st' → Outcome st' mk P G T s → Outcome st mk P G T s
moved {mk = mk} {P} {G} {T} {s} e o = subst (λ x. Outcome x mk P G T s) (sym e) o

-- one reader, and then another on its rest
module _ {st : Tally} {A B A' B' : Type 0} {mk' : B' → Bytes → A'} (f : A → Result A') {G' : Bool → Bytes → Type 0}
    {T' : B' → Bytes → Type 0} (s : Bytes) where
  pub resume : (mk : B → Bytes → A) (P : Bytes → Result A) (b : B) (used r : Bytes) → s ≡ used ++ r →
      ((x : Bytes) → Follows r x → P (used ++ x) ≡ ok (mk b x)) → last_ascii true used ≡ true →
      Outcome (tallied st used) mk' (λ x. f (mk b x)) (λ i g. G' i (used ++ g)) (λ c u. T' c (used ++ u)) r →
      Outcome st mk' (λ x. P x >>= f) G' T' s
  resume mk P b used r e again l (took b' used' r' e' again' t m) =
      took
      b'
      (used ++ used')
      r'
      (e ∙ ap (λ (x : Bytes). used ++ x) e' ∙ sym (append_assoc used used' r'))
      (λ x h. ap (λ (y : Bytes). P y >>= f) (append_assoc used used' x) ∙ bind_ok f (again (used' ++ x) (follows_from e' (follows_behind used' h))) ∙ again' x h)
      t
      (last_append true used used' ∙ subst (λ (a : Bool). last_ascii a used' ≡ true) (sym l) m)
  resume mk P b used r e again l (cut e' g) = cut (ap (λ (y : Bytes). P y >>= f) e ∙ bind_ok f (again r (follows_self r)) ∙ e') (subst (λ y. G' true y) (sym e) g)
  resume mk P b used r e again l (fault q good c t e' again' quiet g u m) =
      fault
      q
      (used ++ good)
      c
      t
      (e ∙ ap (λ (x : Bytes). used ++ x) e' ∙ sym (append_assoc used good (c ∷ t)))
      (λ x. ap (λ (y : Bytes). P y >>= f) (append_assoc used good (c ∷ x)) ∙ bind_ok f (again (good ++ (c ∷ x)) (follows_from e' (follows_behind good same))) ∙ again' x)
      (quiet_at (bind_ok f (again good (follows_from e' (follows_good good (c ∷ t))))) quiet)
      g
      (subst (λ x. Shown x c (λ i. G' i ((used ++ good) ++ (c ∷ []))) q) (sym (tallied_append st used good))
      (shown_map (λ i h. subst (λ y. G' i y) (sym (append_assoc used good (c ∷ []))) h) u))
      (λ i. last_append true used good ∙ subst (λ (a : Bool). last_ascii a good ≡ true) (sym l) (m i))

  -- the second reader minds nothing but the end of a text that is over
  pub bind : {mk : B → Bytes → A} {P : Bytes → Result A} {G : Bool → Bytes → Type 0} {T : B → Bytes → Type 0} → Outcome st mk P G T s →
      ((i : Bool) (g : Bytes) → G i g → G' i g) → ((b : B) → Quiet mk' (f (mk b []))) →
      ((b : B) (used r : Bytes) → s ≡ used ++ r → T b used → P used ≡
      ok (mk b []) → Outcome (tallied st used) mk' (λ x. f (mk b x)) (λ i g. G' i (used ++ g)) (λ c u. T' c (used ++ u)) r) →
      Outcome st mk' (λ x. P x >>= f) G' T' s
  bind {mk} {P} (took b used r e again t l) h over k = resume mk P b used r e again l (k b used r e t (ap P (sym (append-nil used)) ∙ again [] nothing))
  bind (cut e g) h over k = cut (bind_refused f e) (h true s g)
  bind (fault q good c t e again quiet g u l) h over k =
      fault q good c t e (λ x. bind_refused f (again x)) (quietly f quiet over) (h true good g) (shown_map (λ i. h i (good ++ (c ∷ []))) u)
      l
