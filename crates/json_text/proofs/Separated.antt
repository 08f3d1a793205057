-- What a loop over the entries of an array or an object makes of a text, from what the reader of one entry makes of it.
-- Assumes nothing.
use mathlib.Core.Bool.{Bool, false, true}
use mathlib.Core.List.{append-nil, [], ◌++◌, ◌∷◌}
use mathlib.Core.Path.{ap, refl, subst, sym, ◌∙◌, ◌≡◌}
use Prim.Native.Nat.{suc, zero, ℕ, ◌+◌, ◌≤◌}
use native.Mathlib.Omega.{arith}
use lib.Dec.{eqb}
use lib.ListN.{length, length-append}
use Rattle.json_text.proofs.Ascii.{is_ascii}
use Rattle.json_text.proofs.Complete.{ws_length}
use Rattle.json_text.proofs.Counting.{Counted, Settled, clear, settled_byte}
use Rattle.json_text.proofs.Laws.{bind_refused, bind_same, eqb_true}
use Rattle.json_text.proofs.Outcome.{Outcome, Quiet, all_read, bind, cut, dead, done, early, ext, moved, quiet_at, step, stopped, weaken}
use Rattle.json_text.proofs.Sound.{NextView, ends, fails, goes_on, next_view, skip_ws}
use Rattle.json_text.proofs.Tokens.{Completes, Spaces, Takes, behind, finish, regroup, skipping, spaces_clear}
use Rattle.json_text.specs.Bytes.{Bytes, choose}
use Rattle.json_text.specs.Grammar.{Structural, Ws, no_space, space, structural}
use Rattle.json_text.specs.Limits.{max_nodes}
use Rattle.json_text.specs.Reader.{Next, Parsed, Parser, closed, more, neither, next}
use Rattle.json_text.specs.Refusal.{Result, not_json, ok, refused, ◌>>=◌}
use Rattle.json_text.specs.Scan.{skip}
use Rattle.json_text.specs.Tally
use Rattle.json_text.specs.Tally.{Tally, further, tally}

-- what is read, with how many nodes there are, and its rest
abbrev pub parsed_of : {A : Type 0} → A × ℕ → Bytes → Parsed A
parsed_of b x = record { tree = b.0; rest = x; count = b.1 }

pub ws_trans : {s t r : Bytes} → Ws s t → Ws t r → Ws s r
ws_trans no_space k = k
ws_trans (space e h) k = space e (ws_trans h k)

-- a rule with spaces behind what it spells, or before it
abbrev pub Spaced : {X : Type 0} → (X → Bytes → Bytes → Type 0) → X → Bytes → Bytes → Type 0
Spaced R x s r = (to : Bytes) × R x s to × Ws to r

abbrev pub Lead : {X : Type 0} → (X → Bytes → Bytes → Type 0) → X → Bytes → Bytes → Type 0
Lead R x s r = (from : Bytes) × Ws s from × R x from r

-- spaces between two tokens, and a reader behind them
pub leading : {A B X : Type 0} {mk : B → Bytes → A} {R : Bool → X → Bytes → Bytes → Type 0} {S : B → Bytes → Bytes → Type 0} (n d : ℕ)
    (P : Bytes → Result A) (s : Bytes) → Quiet mk (P []) →
    ((sp r : Bytes) → s ≡ sp ++ r → Outcome (clear n d) mk P (λ i. Completes (R i)) (Takes S) r) →
    Outcome (clear n d) mk (λ x. P (skip x)) (λ i. Completes (Lead (R i))) (Takes (Lead S)) s
leading {S} n d P s q f =
    skipping P s q λ sp r e h.
    moved (spaces_clear n d sp h)
    (weaken (λ i g. behind sp (λ x. x) λ x z y k. (z, h z, k))
    (λ b u k y. regroup (λ (z : Bytes). Lead S b z y) sp u y (u ++ y, h (u ++ y), k y)) (f sp r e))

-- a structural byte and what a rule spells behind it
abbrev pub Behind : ℕ → {X : Type 0} → (X → Bytes → Bytes → Type 0) → X → Bytes → Bytes → Type 0
Behind c R x s r = (from : Bytes) × Structural c s from × R x from r

pub behind_byte : {X : Type 0} {R : X → Bytes → Bytes → Type 0} {g : Bytes} (c : ℕ) → Completes (Lead R) g → Completes (Behind c R) (c ∷ g)
behind_byte c k = behind (c ∷ []) (λ x. x) (λ x z r h. (h.0, structural no_space h.1, h.2)) k

pub spaced_structural : {c : ℕ} {s t r : Bytes} → Ws s t → Structural c t r → Structural c s r
spaced_structural h (structural a b) = structural (ws_trans h a) b

-- what follows a value in brackets: a comma, the closing bracket, or neither
abbrev pub After : {A : Type 0} → (Bytes → Result A) → (Bytes → Result A) → Next → Result A
After A B k = elim k [ more t ↦ A t | closed t ↦ B t | neither ↦ refused not_json ]

pub after_same : {X : Type 0} (end : ℕ) (r : Bytes) (A A' B : Bytes → Result X) → ((t : Bytes) → r ≡ 44 ∷ t → A t ≡ A' t) →
    After A B (next end r) ≡ After A' B (next end r)
after_same end r A A' B h = go (next end r) (next_view end r)
  where
    go : (k : Next) → NextView end r k → After A B k ≡ After A' B k
    go k (goes_on {t} e) = h t e
    go k (ends e) = refl
    go k fails = refl

pub next_local : {st : Tally} {A B : Type 0} {mk : B → Bytes → A} {G : Bool → Bytes → Type 0} {T : B → Bytes → Type 0} (end : ℕ)
    (goes stays : Bytes → Result A) (s : Bytes) → is_ascii end ≡ true → ((x : Bytes) → next end (end ∷ x) ≡ closed x) → G true [] →
    ((t : Bytes) → s ≡ 44 ∷ t → Outcome (further st 44) mk goes (λ i g. G i (44 ∷ g)) (λ b u. T b (44 ∷ u)) t) →
    ((t : Bytes) → Outcome (further st end) mk stays (λ i g. G i (end ∷ g)) (λ b u. T b (end ∷ u)) t) →
    Outcome st mk (λ x. After goes stays (next end x)) G T s
next_local end goes stays [] l h g a b = cut refl g
next_local {st} {mk = mk} {G} {T} end goes stays (c ∷ s) l h g a b = go (eqb c 44) (eqb c end) refl refl
  where
    go : (x y : Bool) → eqb c 44 ≡ x → eqb c end ≡ y → Outcome st mk (λ x. After goes stays (next end x)) G T (c ∷ s)
    go true y p q =
        subst (λ (d : ℕ). Outcome st mk (λ x. After goes stays (next end x)) G T (d ∷ s)) (sym (eqb_true c 44 p))
        (step 44 s refl (λ x. refl) (a s (ap (λ (d : ℕ). d ∷ s) (eqb_true c 44 p))))
    go false true p q =
        subst (λ (d : ℕ). Outcome st mk (λ x. After goes stays (next end x)) G T (d ∷ s)) (sym (eqb_true c end q))
        (step end s l (λ x. ap (After goes stays) (h x)) (b s))
    go false false p q = stopped not_json c s (λ x. rw (p, q, choose) refl) early g dead

-- an answer and the spaces behind it
pub closing : {st : Tally} {A : Type 0} {G : Bool → Bytes → Type 0} {T : A × ℕ → Bytes → Type 0} (b : A × ℕ) (t : Bytes) →
    ((sp : Bytes) → Takes Spaces tt sp → T b sp) → Outcome st parsed_of (λ x. ok (parsed_of b (skip x))) G T t
closing {T = T} b t h = skipping (λ x. ok (parsed_of b x)) t (all_read b) λ sp r e k. done b r (rw (append-nil sp) (h sp k))

-- The loop over the entries of an array or an object: `state` is what it carries along, `entry` reads one entry, and each rule has its relation.
abbrev pub After-entry : {E L : Type 0} → ℕ → (E → L) → (E → L → L) → (E → Parser L) → Parsed E → Result (Parsed L)
After-entry end one add loop p =
    After
    (λ t. loop p.tree p.count (skip t) >>= λ l. ok (record { tree = add p.tree l.tree; rest = l.rest; count = l.count }))
    (λ t. ok (record { tree = one p.tree; rest = skip t; count = p.count })) (next end p.rest)

abbrev pub EntryThen : {E : Type 0} → (E → Bytes → Bytes → Type 0) → E × ℕ → Bytes → Bytes → Type 0
EntryThen R b s r = Spaced R b.0 s r

abbrev pub Closed : {L : Type 0} → ℕ → (L → Bytes → Bytes → Type 0) → L × ℕ → Bytes → Bytes → Type 0
Closed end S b s r = (to : Bytes) × S b.0 s to × Structural end to r

-- what is known of an entry that was read: so many nodes have begun, and no bracket is left open
pub record EntryRead (n d m : ℕ) (u : Bytes) : Type 0 where
  pub most : m ≤ max_nodes
  pub counted : Counted n d m Tally.outside u []

pub record Loop {State E L : Type 0} (depth end : ℕ) (one : E → L) (add : E → L → L) (pass : State → E → State)
    (entry : State → Parser E) (loop : ℕ → State → Parser L) (R : State → Bool → E → Bytes → Bytes → Type 0)
    (S : State → Bool → L → Bytes → Bytes → Type 0) : Type 0 where
  pub none_left : (a : State) (n : ℕ) (s : Bytes) → loop zero a n s ≡ refused not_json
  pub one_more : (f : ℕ) (a : State) (n : ℕ) (s : Bytes) → loop (suc f) a n s ≡ (entry a n s >>= After-entry end one add (λ e. loop f (pass a e)))
  pub closed_ascii : is_ascii end ≡ true
  pub closes : (x : Bytes) → next end (end ∷ x) ≡ closed x
  pub local : (a : State) (n : ℕ) (s : Bytes) → n ≤ max_nodes → Outcome (clear n depth) parsed_of (entry a n) (λ i. Completes (R a i)) (Takes (EntryThen (R a true))) s
  pub entered : (a : State) (n : ℕ) (u : Bytes) (b : E × ℕ) → entry a n u ≡ ok (parsed_of b []) → EntryRead n depth b.1 u
  pub over : (a : State) (n : ℕ) → entry a n [] ≡ refused not_json
  pub opens : (a : State) → Completes (R a true) []
  pub loose : (a : State) (i : Bool) (e : E) (s r : Bytes) → R a true e s r → R a i e s r
  pub takes : (a : State) (n : ℕ) (s : Bytes) (p : Parsed E) → entry a n s ≡ ok p → length p.rest + 1 ≤ length s
  pub last : (a : State) (i : Bool) (e : E) (s r : Bytes) → R a i e s r → S a i (one e) s r
  pub further : (a : State) (i : Bool) (e : E) (l : L) (s t u r : Bytes) → R a i e s t → Structural 44 t u → S (pass a e) i l u r → S a i (add e l) s r

module _ {State E L : Type 0} (depth end : ℕ) (one : E → L) (add : E → L → L) (pass : State → E → State) (entry : State → Parser E)
    (loop : ℕ → State → Parser L) (R : State → Bool → E → Bytes → Bytes → Type 0) (S : State → Bool → L → Bytes → Bytes → Type 0)
    (laws : Loop depth end one add pass entry loop R S) where
  -- as many steps as there are bytes are enough
  entry_same :
      (a : State) (n : ℕ) (s : Bytes) (l l' : E → Parser L) → ((e : E) (k : ℕ) (t : Bytes) → length t + 1 ≤ length s → l e k t ≡ l' e k t) →
      (entry a n s >>= After-entry end one add l) ≡ (entry a n s >>= After-entry end one add l')
  entry_same a n s l l' h =
      bind_same (entry a n s) _ _ λ p i.
      after_same end p.rest _ _ _ λ t e.
      ap (λ (y : Result (Parsed L)). y >>= λ z. ok (record { tree = add p.tree z.tree; rest = z.rest; count = z.count }))
      (h p.tree p.count (skip t) (omega (arith, laws.takes a n s p i, ap length e, ws_length (skip_ws t))))

  pub loop_over : (f : ℕ) (a : State) (n : ℕ) → loop f a n [] ≡ refused not_json
  loop_over zero a n = laws.none_left a n []
  loop_over (suc f) a n = laws.one_more f a n [] ∙ bind_refused _ (laws.over a n)

  pub loop_steps : (f g : ℕ) (a : State) (n : ℕ) (s : Bytes) → length s ≤ f → length s ≤ g → loop f a n s ≡ loop g a n s
  loop_steps zero g a n [] l k = loop_over zero a n ∙ sym (loop_over g a n)
  loop_steps zero g a n (c ∷ s) l k = absurd (omega arith)
  loop_steps (suc f) zero a n [] l k = loop_over (suc f) a n ∙ sym (loop_over zero a n)
  loop_steps (suc f) zero a n (c ∷ s) l k = absurd (omega arith)
  loop_steps (suc f) (suc g) a n s l k =
      laws.one_more f a n s ∙
      entry_same a n s (λ e. loop f (pass a e)) (λ e. loop g (pass a e))
      (λ e j t i. loop_steps f g (pass a e) j t (omega arith) (omega arith)) ∙
      sym (laws.one_more g a n s)

  abbrev pub loop_of : State → Parser L
  loop_of a n s = loop (length s) a n s

  loop_unroll : (a : State) (n : ℕ) (s : Bytes) → loop_of a n s ≡ (entry a n s >>= After-entry end one add (λ e. loop_of (pass a e)))
  loop_unroll a n s =
      loop_steps (length s) (suc (length s)) a n s (omega arith) (omega arith) ∙
      laws.one_more (length s) a n s ∙
      entry_same a n s (λ e. loop (length s) (pass a e)) (λ e. loop_of (pass a e)) λ e k t i. loop_steps (length s) (length t) (pass a e) k t (omega arith) (omega arith)

  abbrev pub LoopLocal : State → ℕ → Bytes → Type 0
  LoopLocal a n s = Outcome (clear n depth) parsed_of (loop_of a n) (λ i. Completes (Spaced (S a i))) (Takes (Closed end (S a true))) s

  -- behind an entry that was taken
  after_entry : (a : State) (b : E × ℕ) (used r : Bytes) (e : Tally.Ending) → Settled e → Takes (EntryThen (R a true)) b used →
      ((sp t : Bytes) → r ≡ 44 ∷ (sp ++ t) → LoopLocal (pass a b.0) b.1 t) →
      Outcome (tally b.1 depth e) parsed_of (λ x. After-entry end one add (λ e. loop_of (pass a e)) (parsed_of b x))
      (λ i g. Completes (Spaced (S a i)) (used ++ g)) (λ c u. Takes (Closed end (S a true)) c (used ++ u)) r
  after_entry a b used r ending settled taken below = next_local end _ _ r laws.closed_ascii laws.closes now comma (λ t. closing (one b.0, b.1) t close)
    where
      now : Completes (Spaced (S a true)) (used ++ [])
      now =
          record {
            end = [];
            what = one b.0;
            spelled = λ y. regroup (λ (z : Bytes). Spaced (S a true) (one b.0) z y) used [] y
                (let w = taken y in (w.0, laws.last a true b.0 (used ++ y) w.0 w.1, w.2));
            plain = refl;
          }

      next_opens : (i : Bool) (g : Bytes) → Completes (Lead (Spaced (S (pass a b.0) i))) g → Completes (Spaced (S a i)) (used ++ (44 ∷ g))
      next_opens i g h =
          behind used (λ l. add b.0 l)
          (λ l z y k. let w = taken z in (
            k.2.0,
            laws.further a i b.0 l (used ++ z) w.0 k.0 k.2.0 (laws.loose a i b.0 (used ++ z) w.0 w.1)
                (spaced_structural w.2 k.1) k.2.1,
            k.2.2,
          )) (behind_byte 44 h)

      comma : (t : Bytes) → r ≡
          44 ∷ t → Outcome (further (tally b.1 depth ending) 44) parsed_of
          (λ x. loop_of (pass a b.0) b.1 (skip x) >>= λ l. ok
          (record { tree = add b.0 l.tree; rest = l.rest; count = l.count }))
          (λ i g. Completes (Spaced (S a i)) (used ++ (44 ∷ g))) (λ c u. Takes (Closed end (S a true)) c (used ++ (44 ∷ u))) t
      comma t e =
          moved (settled_byte b.1 depth ending 44 settled refl refl) (bind _ t (leading {R = λ i. Spaced (S (pass a b.0) i)} {S =
          Closed end (S (pass a b.0) true)} b.1 depth (loop_of (pass a b.0) b.1) t (quiet_at (loop_over zero (pass a b.0)
          b.1) early) λ sp y i. below sp y (e ∙ ap {B = Bytes} (λ z. 44 ∷ z) i)) next_opens (λ c. all_read (add b.0 c.0, c.1))
          λ c more x i h o.
          done (add b.0 c.0, c.1) x
          (rw (append-nil more) λ y. regroup (λ (z : Bytes). Closed end (S a true) (add b.0 c.0, c.1) z y) used (44 ∷ more) y
          (let w = taken (44 ∷ (more ++ y)) in let j = h y in (
            j.2.0,
            laws.further a true b.0 c.0 (used ++ (44 ∷ (more ++ y))) w.0 j.0 j.2.0 w.1
                (structural w.2 j.1) j.2.1,
            j.2.2,
          ))))

      close : (sp : Bytes) → Takes Spaces tt sp → Takes (Closed end (S a true)) (one b.0, b.1) (used ++ (end ∷ sp))
      close sp h y =
          regroup (λ (z : Bytes). Closed end (S a true) (one b.0, b.1) z y) used (end ∷ sp) y
          (let w = taken (end ∷ (sp ++ y)) in
          (w.0, laws.last a true b.0 (used ++ (end ∷ (sp ++ y))) w.0 w.1, structural w.2 (h y)))

  loop_below : (m : ℕ) (a : State) (n : ℕ) (s : Bytes) → n ≤ max_nodes → length s ≤ m → LoopLocal a n s
  loop_below zero a n [] few l = cut (loop_over zero a n) (finish [] refl one (λ e z r h. (r, laws.last a true e z r h, no_space)) (laws.opens a))
  loop_below zero a n (c ∷ s) few l = absurd (omega arith)
  loop_below (suc m) a n s few l =
      ext (λ x h. loop_unroll a n x) (bind _ s (laws.local a n s few) (λ i x. finish [] refl one λ e z r h. (r, laws.last a i e z r h, no_space)) (λ b. early) λ b used r e t o.
      let k = laws.entered a n used b o in
      moved k.counted.same
      (after_entry a b used r k.counted.ending k.counted.settled t λ sp y i. loop_below m (pass a b.0) b.1 y k.most
      (omega (arith, ap length e, length-append used r, ap length i, length-append sp y))))

  pub loop_local : (a : State) (n : ℕ) (s : Bytes) → n ≤ max_nodes → LoopLocal a n s
  loop_local a n s few = loop_below (length s) a n s few (omega arith)
