-- What the readers of spaces, words, numbers and strings make of a text: each refuses at the first byte after which nothing can complete what it reads.
-- Assumes nothing.
use mathlib.Core.Bool.{Bool, false, false≢true, true, true≢false}
use mathlib.Core.List.{append_assoc, append-nil, [], ◌++◌, ◌∷◌}
use mathlib.Core.Logic.{inl, inr, ◌≢◌}
use mathlib.Core.Path.{ap, refl, subst, sym, ◌∙◌, ◌≡◌}
use Prim.Native.Nat.{ℕ, ◌+◌, ◌-◌}
use native.Mathlib.Omega.{arith}
use lib.Dec.{eqb}
use Rattle.json_text.proofs.Ascii.{all_append, all_ascii, digit_ascii, is_ascii, space_ascii}
use Rattle.json_text.proofs.Complete.{skip_idle, stop_other}
use Rattle.json_text.proofs.Counting.{clear, digit_byte, nonzero_digit, number_byte, ws_clear}
use Rattle.json_text.proofs.Laws.{eqb_no, eqb_true}
use Rattle.json_text.proofs.Outcome.{Follows, Outcome, Quiet, all_read, bind, cut, dead, done, early, moved, nothing, past, same, step, stopped, took, weaken}
use Rattle.json_text.proofs.Sound.{DigitView, From, digit_view, from_end, from_step, v_e, v_minus, v_nonzero, v_other, v_plus, v_point, v_zero}
use Rattle.json_text.specs.Bytes.{Bytes}
use Rattle.json_text.specs.Fault
use Rattle.json_text.specs.Grammar.{Int, Ws, no_digit, no_exp, no_frac, no_sign, no_space, some_digits, space}
use Rattle.json_text.specs.Limits.{max_number}
use Rattle.json_text.specs.Numerals
use Rattle.json_text.specs.Numerals.{Place, complete, digit, digits, is_stop, onward}
use Rattle.json_text.specs.Refusal.{Result, not_json, number_too_long, ok}
use Rattle.json_text.specs.Scan.{Read, is_space, skip, word}
use Rattle.json_text.specs.Tally
use Rattle.json_text.specs.Tally.{Tally, bytes_of_number, further, numeral, tallied, tally}

-- a beginning, and bytes that complete it to what a rule spells, whatever follows
pub record Completes {X : Type 0} (R : X → Bytes → Bytes → Type 0) (g : Bytes) : Type 0 where
  pub end : Bytes
  pub what : X
  pub spelled : (r : Bytes) → R what (g ++ (end ++ r)) r
  pub plain : all_ascii end ≡ true

module _ {X Y : Type 0} {R : X → Bytes → Bytes → Type 0} {S : Y → Bytes → Bytes → Type 0} {g : Bytes} where
  -- with further bytes behind it
  pub finish : (w : Bytes) → all_ascii w ≡ true → (y : X → Y) → ((x : X) (s r : Bytes) → R x s (w ++ r) → S (y x) s r) → Completes R g → Completes S g
  finish w a y h c =
      record {
        end = c.end ++ w;
        what = y c.what;
        spelled = λ r. subst (λ (z : Bytes). S (y c.what) (g ++ z) r) (sym (append_assoc c.end w r))
            (h c.what (g ++ (c.end ++ (w ++ r))) r (c.spelled (w ++ r)));
        plain = all_append c.end w c.plain a;
      }

  -- and in front of it
  pub behind : (pre : Bytes) (y : X → Y) → ((x : X) (s r : Bytes) → R x s r → S (y x) (pre ++ s) r) → Completes R g → Completes S (pre ++ g)
  behind pre y h c =
      record {
        end = c.end;
        what = y c.what;
        spelled = λ r. subst (λ (z : Bytes). S (y c.what) z r) (sym (append_assoc pre g (c.end ++ r)))
            (h c.what (g ++ (c.end ++ r)) r (c.spelled r));
        plain = c.plain;
      }

-- what is taken is spelled so, whatever follows
abbrev pub Takes : {X : Type 0} → (X → Bytes → Bytes → Type 0) → X → Bytes → Type 0
Takes R x u = (r : Bytes) → R x (u ++ r) r

pub regroup : (P : Bytes → Type 0) (u v r : Bytes) → P (u ++ (v ++ r)) → P ((u ++ v) ++ r)
regroup P u v r h = subst P (sym (append_assoc u v r)) h

-- one and the same for both ways of completing
abbrev pub Either : (Bytes → Type 0) → Bool → Bytes → Type 0
Either G b g = G g

-- answers and their rests
abbrev pub bare : Unit {0} → Bytes → Bytes
bare b x = x

abbrev pub read_of : {A : Type 0} → A → Bytes → Read A
read_of a x = record { got = a; rest = x }

-- spaces
idle : (c : ℕ) (s x : Bytes) → is_space c ≡ false → Follows (c ∷ s) x → skip x ≡ x
unfolding skip
idle c s x e nothing = refl
idle c s x e (same {x = y}) = skip_idle c y e

none_follows : {x : Bytes} → Follows [] x → x ≡ []
none_follows nothing = refl

abbrev pub Spaces : Unit {0} → Bytes → Bytes → Type 0
Spaces b s r = Ws s r

skipped : (st : Tally) (s : Bytes) → Outcome st bare (λ x. ok (skip x)) (λ b g. ⊥) (Takes Spaces) s
unfolding skip
skipped st [] = took tt [] [] refl (λ x f. ap (λ y. ok (skip y)) (none_follows f) ∙ ap ok (sym (none_follows f))) (λ r. no_space) refl
skipped st (c ∷ s) = go (skipped (further st c) s) (is_space c) refl
  where
    go : Outcome (further st c) bare (λ x. ok (skip x)) (λ b g. ⊥) (Takes Spaces) s → (b : Bool) → is_space c ≡ b →
        Outcome st bare (λ x. ok (skip x)) (λ b g. ⊥) (Takes Spaces) (c ∷ s)
    go below true q = step c s (space_ascii c q) (λ x. rw (q, skip) refl) (weaken (λ i g h. h) (λ b u h r. space q (h r)) below)
    go below false q = took tt [] (c ∷ s) refl (λ x f. ap ok (idle c s x q f)) (λ r. no_space) refl

-- a reader behind spaces
pub skipping :
    {st : Tally} {A B : Type 0} {mk : B → Bytes → A} {G : Bool → Bytes → Type 0} {T : B → Bytes → Type 0} (P : Bytes → Result A) (s : Bytes) →
    Quiet mk (P []) →
    ((sp r : Bytes) → s ≡ sp ++ r → Takes Spaces tt sp → Outcome (tallied st sp) mk P (λ i g. G i (sp ++ g)) (λ b u. T b (sp ++ u)) r) →
    Outcome st mk (λ x. P (skip x)) G T s
skipping {st} P s quiet k = bind P s (skipped st s) (λ i g h. absurd h) (λ b. quiet) (λ b used r e t w. k used r e t)

-- spaces between two tokens count nothing
pub spaces_clear : (n d : ℕ) (sp : Bytes) → Takes Spaces tt sp → tallied (clear n d) sp ≡ clear n d
spaces_clear n d sp h = ap (tallied (clear n d)) (sym (append-nil sp)) ∙ ws_clear n d (h [])

-- words
abbrev pub IsWord : Bytes → Unit {0} → Bytes → Bytes → Type 0
IsWord w b s r = s ≡ w ++ r

pub word_local : (st : Tally) (w : Bytes) → all_ascii w ≡ true → (s : Bytes) → Outcome st bare (word w) (Either (Completes (IsWord w))) (Takes (IsWord w)) s
unfolding word
word_local st [] a s = done tt s (λ r. refl)
word_local st (c ∷ w) a [] = cut refl (record { end = c ∷ w; what = tt; spelled = λ r. refl; plain = a })
word_local st (c ∷ w) a (d ∷ s) = go (λ h. word_local (further st d) w h s) (eqb c d) (is_ascii c) refl refl
  where
    go : (all_ascii w ≡ true → Outcome (further st d) bare (word w) (Either (Completes (IsWord w))) (Takes (IsWord w)) s) → (b i : Bool) →
        eqb c d ≡ b → is_ascii c ≡ i → Outcome st bare (word (c ∷ w)) (Either (Completes (IsWord (c ∷ w)))) (Takes (IsWord (c ∷ w))) (d ∷ s)
    go below true true q p =
        step d s (subst (λ (x : ℕ). is_ascii x ≡ true) (eqb_true c d q) p) (λ x. rw (q, word) refl)
        (weaken (λ i g. behind (d ∷ []) (λ x. x) λ x z r h. cc (eqb_true c d q)) (λ b u h r. cc (h r, eqb_true c d q))
        (below (rw (p, all_ascii) at a)))
    go below true false q p = absurd (false≢true (rw (p, all_ascii) at a))
    go below false i q p = stopped not_json d s (λ x. rw (q, word) refl) early (record { end = c ∷ w; what = tt; spelled = λ r. refl; plain = a }) dead

-- numbers, from a place on
abbrev pub FromPlace : Place → Unit {0} → Bytes → Bytes → Type 0
FromPlace p b s r = From p s r

pub place_opens : (p : Place) → is_stop p ≡ false → Completes (FromPlace p) []
place_opens Place.sign e = record { end = 48 ∷ []; what = tt; spelled = λ r. (r, Int.zero refl, (r, no_frac, no_exp)); plain = refl }
place_opens Place.zeroed e = record { end = []; what = tt; spelled = λ r. (r, no_frac, no_exp); plain = refl }
place_opens Place.whole e = record { end = []; what = tt; spelled = λ r. (r, no_digit, (r, no_frac, no_exp)); plain = refl }
place_opens Place.point e = record { end = 48 ∷ []; what = tt; spelled = λ r. (r, some_digits refl no_digit, no_exp); plain = refl }
place_opens Place.fraction e = record { end = []; what = tt; spelled = λ r. (r, no_digit, no_exp); plain = refl }
place_opens Place.exponent e = record { end = 48 ∷ []; what = tt; spelled = λ r. (48 ∷ r, no_sign, some_digits refl no_digit); plain = refl }
place_opens Place.exp_sign e = record { end = 48 ∷ []; what = tt; spelled = λ r. some_digits refl no_digit; plain = refl }
place_opens Place.exp_digits e = record { end = []; what = tt; spelled = λ r. no_digit; plain = refl }
place_opens Place.stop e = absurd (true≢false e)

-- the characters taken, as they are spelled
abbrev pub TakesFrom : Place → Bytes → Bytes → Type 0
TakesFrom p x u = (u ≡ x) × Takes (FromPlace p) tt u

abbrev pub DigitsLocal : Tally → Place → ℕ → Bytes → Type 0
DigitsLocal st p left s = Outcome st read_of (digits p left) (Either (Completes (FromPlace p))) (TakesFrom p) s

digits_over : (p : Place) (left : ℕ) → Quiet read_of (digits p left [])
unfolding digits
digits_over p left = go (complete p) refl
  where
    go : (b : Bool) → complete p ≡ b → Quiet read_of (digits p left [])
    go true q = rw (q, digits) (all_read [])
    go false q = rw (q, digits) early

ended : (st : Tally) (p : Place) (left : ℕ) (s : Bytes) → complete p ≡ true → ((x : Bytes) → Follows s x → digits p left x ≡ ok (read_of [] x)) → DigitsLocal st p left s
ended st p left s q h = took [] [] s refl h (refl, λ r. from_end r p q) refl

numeral_byte : (p : Place) (c : ℕ) → is_stop (onward p (digit c)) ≡ false → digit c ≢ Numerals.is_other
numeral_byte p c e h = true≢false (sym (stop_other p) ∙ subst (λ (d : Numerals.Digit). is_stop (onward p d) ≡ false) h e)

in_number_lem : (c : ℕ) → digit c ≢ Numerals.is_other → Tally.in_number c ≡ true
in_number_lem c n = go (digit_view c) n
  where
    at : (b : ℕ) → c ≡ b → Tally.in_number b ≡ true → Tally.in_number c ≡ true
    at b e h = ap Tally.in_number e ∙ h

    go : {k : Numerals.Digit} → DigitView c k → k ≢ Numerals.is_other → Tally.in_number c ≡ true
    go (v_zero e) h = at 48 e refl
    go (v_nonzero e) h = digit_byte c (nonzero_digit c e)
    go (v_minus e) h = at 45 e refl
    go (v_plus e) h = at 43 e refl
    go (v_point e) h = at 46 e refl
    go (v_e (inl e)) h = at 69 e refl
    go (v_e (inr e)) h = at 101 e refl
    go v_other h = absurd (h refl)

-- what has been counted in front of a number's further bytes: k of them, and `left` may still come
pub digits_local : (n d k : ℕ) (p : Place) → is_stop p ≡ false → (left : ℕ) (s : Bytes) → k + left ≡ max_number → DigitsLocal (tally n d (numeral k)) p left s
unfolding digits
digits_local n d k p go_on left [] few = go (complete p) refl
  where
    over : complete p ≡ true → (x : Bytes) → Follows [] x → digits p left x ≡ ok (read_of [] x)
    over q x nothing = rw (q, digits) refl

    go : (b : Bool) → complete p ≡ b → DigitsLocal (tally n d (numeral k)) p left []
    go true q = ended (tally n d (numeral k)) p left [] q (over q)
    go false q = cut (rw (q, digits) refl) (place_opens p go_on)
digits_local n d k p go_on left (c ∷ s) few = go (λ h z. digits_local n d (k + 1) (onward p (digit c)) h (left - 1) s z) (is_stop (onward p (digit c))) refl
  where
    stops : (b : Bool) → complete p ≡ b → is_stop (onward p (digit c)) ≡ true → DigitsLocal (tally n d (numeral k)) p left (c ∷ s)
    stops true q t = ended (tally n d (numeral k)) p left (c ∷ s) q over
      where
        over : (x : Bytes) → Follows (c ∷ s) x → digits p left x ≡ ok (read_of [] x)
        over x nothing = rw (q, digits) refl
        over x same = rw (t, digits, q) refl
    stops false q t = stopped not_json c s (λ x. rw (t, digits, q) refl) (digits_over p left) (place_opens p go_on) dead

    opens : {g : Bytes} → Completes (FromPlace (onward p (digit c))) g → Completes (FromPlace p) (c ∷ g)
    opens h = behind (c ∷ []) (λ x. x) (λ x z r i. from_step c z r p (digit c) (digit_view c) i) h

    one_byte : is_stop (onward p (digit c)) ≡ false → further (tally n d (numeral k)) c ≡ tally n d (numeral (k + 1))
    one_byte t = number_byte n d k c (in_number_lem c (numeral_byte p c t))

    goes : (k + 1 + (left - 1) ≡ max_number → DigitsLocal (tally n d (numeral (k + 1))) (onward p (digit c)) (left - 1) s) → (b : Bool) →
        eqb left 0 ≡ b → is_stop (onward p (digit c)) ≡ false → DigitsLocal (tally n d (numeral k)) p left (c ∷ s)
    goes below true q t =
        stopped number_too_long c s (λ x. rw (t, digits, q) refl) (digits_over p left) (place_opens p go_on)
        (past
        (Fault.numeral (numeral_byte p c t) (omega (arith, eqb_true left 0 q))
        (ap bytes_of_number (one_byte t) ∙ omega (arith, eqb_true left 0 q))) (opens (place_opens (onward p (digit c)) t)))
    goes below false q t =
        step c s (digit_ascii c (numeral_byte p c t)) (λ x. rw (t, digits, q) refl) (moved (one_byte t) (bind (λ r. ok (record {
          got = c
              ∷ r.got;
          rest = r.rest;
        })) s (below (omega (arith, eqb_no left 0 q))) (λ i g h. opens h) (λ b. all_read (c ∷ b)) λ b used r e
        h w.
        done (c ∷ b) r (rw (append-nil used) (cc h.0, λ z. from_step c (used ++ z) z p (digit c) (digit_view c) (h.1 z)))))

    go : (is_stop (onward p (digit c)) ≡ false → k + 1 + (left - 1) ≡
        max_number → DigitsLocal (tally n d (numeral (k + 1))) (onward p (digit c)) (left - 1) s) → (b : Bool) →
        is_stop (onward p (digit c)) ≡ b → DigitsLocal (tally n d (numeral k)) p left (c ∷ s)
    go below true t = stops (complete p) refl t
    go below false t = goes (below t) (eqb left 0) refl t
