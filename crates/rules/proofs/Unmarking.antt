-- Tables that differ in their marks only; clearing the marks; and a condition evaluated over cleared marks.
-- Assumes nothing.
use Rattle.std.specs.Prelude.{Result as Fallible}
use Rattle.std.specs.Prelude.{Ok, Err}
use mathlib.Core.Bool.{Bool, false, true}
use mathlib.Core.List.{List, [], ◌++◌, ◌∷◌}
use mathlib.Core.Logic.{◌≢◌, ◌⊎◌, inl, inr}
use mathlib.Core.Path.{ap, refl, subst, sym, ◌∙◌, ◌≡◌}
use Prim.Native.Nat.{suc, ℕ, ◌%◌, ◌*◌, ◌+◌, ◌-◌, ◌/◌, ◌<◌, ◌≤◌}
use native.Mathlib.Omega.{arith}
use lib.Dec.{eqb}
use lib.ListN.{drop, get_or, length, length-append, length-drop, length-set, set, take}
use lib.Seq.{drop-append_seam, drop-drop, get_or-set_other, get_or-set_same, length-take-le, take-append_seam}
use Rattle.std.proofs.lemmas.List.{get_or-drop, get_or-take}
use borrow.Author.Tests.{eqb-false, eqb-true}
use Rattle.answers.specs.Verdict.{Verdict}
use Rattle.comparison.specs.Answers.{EvaluatedAs, Marks}
use Rattle.paths.specs.declared.operand.EvalError.{EvalError}
use Rattle.paths.specs.declared.operand.EvalError.TheVariants as errors
use Rattle.writer.specs.Meaning.{Held, meaning}
use Rattle.writer.specs.Texts.{NamesHeld}
use Rattle.writer.specs.declared.answer.Answer.{Answer as Reply}
use Rattle.writer.specs.declared.answer.Answer.TheVariants as answers
use Rattle.paths.proofs.Ordered.{node_below}
use Rattle.paths.proofs.Trees.{text_row}
use Rattle.paths.proofs.Words.{row_word, same_row_word}
use Rattle.paths.specs.Marks.{Left}
use Rattle.paths.specs.Stored.{HasKind, Room, table, unmarked}
use Rattle.json_text.specs.Bytes.{Bytes}
use Rattle.json_text.specs.Cursor.{OnText}
use Rattle.json_text.specs.Json.{Value}
use Rattle.json_text.specs.Refusal.{Result, no_id, refused, unknown_expression}
use Rattle.json_text.specs.Spans.{text_at}
use Rattle.json_text.specs.Table.{after_at, start_at}
use Rattle.semantics.specs.Evaluate.{Answer}
use Rattle.semantics.specs.Names.{Names, ascending}
use Rattle.sheet.specs.Accepted.{Accepted, Gives, Known}
use Rattle.sheet.specs.declared.shape.Members.{Members}
use Rattle.rules.specs.Alone.{Alone, OnlyMarks, RefusedAt, Unmarked}
use Rattle.rules.specs.Told.{Stops}
use Rattle.rules.proofs.Stopping.{stops_refused}
use Rattle.semantics.specs.declared.truth.Truth.{Truth as CodeTruth}
use Rattle.evaluation.proofs.After.{accepted_rows, gives_rows, names_marked}

-- ---- tables that differ in their marks only
pub marks_none : (w : List ℕ) → OnlyMarks w w
marks_none w = record { rows = refl; long = refl; further = refl }

pub marks_then : {w w' w'' : List ℕ} → OnlyMarks w w' → OnlyMarks w' w'' → OnlyMarks w w''
marks_then a b = record { rows = b.rows ∙ a.rows; long = b.long ∙ a.long; further = b.further ∙ a.further }

module _ {w w' : List ℕ} (o : OnlyMarks w w') where
  pub same_after : (n : ℕ) → n < 4096 → after_at w' n ≡ after_at w n
  same_after n h = same_row_word w w' o.rows (3 * n + 2) (omega arith)

module _ {s : Bytes} {w w' : List ℕ} (o : OnlyMarks w w') where
  pub still_accepted : {m : Members} → Known (Accepted s w m) → Known (Accepted s w' m)
  still_accepted k = record { given = k.given; known = accepted_rows o.rows k.known }

  pub still_given : {A : Type 0} {kind : Value → Result A} {n : ℕ} → Known (Gives kind s w n) → Known (Gives kind s w' n)
  still_given k = record { given = k.given; known = gives_rows o.rows k.known }

-- ---- clearing the marks
even : (x : ℕ) → (2 * (x / 2) / 2 ≡ x / 2) × (2 * (x / 2) % 2 ≡ 0)
even x = (omega arith, omega arith)

-- the words up to i are without their mark, and the others as they were
pub record Clearing (l l' : List ℕ) (i : ℕ) : Type 0 where
  pub long : length l' ≡ length l
  pub cleared : (k : ℕ) → k < i → get_or l' k 0 ≡ 2 * (get_or l k 0 / 2)
  pub kept : (k : ℕ) → i ≤ k → get_or l' k 0 ≡ get_or l k 0

pub clearing : (l : List ℕ) → Clearing l l 0
clearing l = record { long = refl; cleared = λ k h. absurd (omega (arith, h)); kept = λ k h. refl }

pub clearing_one : {l l' : List ℕ} {i : ℕ} → Clearing l l' i → i < length l → Clearing l (set l' i (2 * (get_or l' i 0 / 2))) (i + 1)
clearing_one {l} {l'} {i} c h =
    record {
      long = length-set l' i v ∙ c.long;
      cleared = λ k j. go k j (eqb k i) refl;
      kept = λ k j. get_or-set_other l' i k v 0 (λ e. omega (arith, j, e)) ∙ c.kept k (omega (arith, j));
    }
  where
    v : ℕ
    v = 2 * (get_or l' i 0 / 2)

    go : (k : ℕ) → k < i + 1 → (b : Bool) → eqb k i ≡ b → get_or (set l' i v) k 0 ≡ 2 * (get_or l k 0 / 2)
    go k j true q =
        let e : k ≡ i = eqb-true k i q in
        ap (λ (x : ℕ). get_or (set l' i v) x 0) e ∙ get_or-set_same l' i v 0 (omega (arith, c.long, h)) ∙ ap (λ (x : ℕ). 2 * (x / 2)) (c.kept i (omega arith)) ∙
        sym (ap (λ (x : ℕ). 2 * (get_or l x 0 / 2)) e)
    go k j false q =
        let ne : k ≢ i = eqb-false k i q in
        get_or-set_other l' i k v 0 ne ∙ c.cleared k (omega (arith, j, ne))

same_halves : (l l' : List ℕ) → length l' ≡ length l → ((k : ℕ) → k < length l → get_or l' k 0 / 2 ≡ get_or l k 0 / 2) → unmarked l' ≡ unmarked l
unfolding unmarked
same_halves [] [] e h = refl
same_halves [] (y ∷ l') e h = absurd (omega (arith, e))
same_halves (x ∷ l) [] e h = absurd (omega (arith, e))
same_halves (x ∷ l) (y ∷ l') e h =
    ap (λ (n : ℕ). 2 * n ∷ unmarked l') (h 0 (omega arith)) ∙ ap (λ (t : List ℕ). 2 * (x / 2) ∷ t) (same_halves l l' (omega (arith, e)) (λ k j. h (suc k) (omega (arith, j))))

-- a list whose b elements from a on are others
abbrev pub put : ℕ → ℕ → List ℕ → List ℕ → List ℕ
put a b w l = take a w ++ (l ++ drop b (drop a w))

module _ (a b : ℕ) (w l : List ℕ) (room : a + b ≤ length w) (long : length l ≡ b) where
  pub put_front : take a (put a b w l) ≡ take a w
  put_front = subst (λ (n : ℕ). take n (put a b w l) ≡ take a w) (length-take-le a w (omega (arith, room))) (take-append_seam (take a w) (l ++ drop b (drop a w)))

  put_behind : drop a (put a b w l) ≡ l ++ drop b (drop a w)
  put_behind = subst (λ (n : ℕ). drop n (put a b w l) ≡ l ++ drop b (drop a w)) (length-take-le a w (omega (arith, room))) (drop-append_seam (take a w) (l ++ drop b (drop a w)))

  pub put_mid : take b (drop a (put a b w l)) ≡ l
  put_mid = ap (take b) put_behind ∙ subst (λ (n : ℕ). take n (l ++ drop b (drop a w)) ≡ l) long (take-append_seam l (drop b (drop a w)))

  pub put_past : drop (a + b) (put a b w l) ≡ drop (a + b) w
  put_past =
      sym (drop-drop b a (put a b w l)) ∙ ap (drop b) put_behind ∙ subst (λ (n : ℕ). drop n (l ++ drop b (drop a w)) ≡ drop b (drop a w)) long (drop-append_seam l (drop b (drop a w))) ∙
      drop-drop b a w

  pub put_long : length (put a b w l) ≡ length w
  put_long =
      length-append (take a w) (l ++ drop b (drop a w)) ∙
      omega (arith, length-take-le a w (omega (arith, room)), length-append l (drop b (drop a w)), long, length-drop b (drop a w), length-drop a w, room)

  pub put_at : (k : ℕ) → k < b → get_or (put a b w l) (a + k) 0 ≡ get_or l k 0
  put_at k h = sym (get_or-drop a (put a b w l) k 0) ∙ sym (get_or-take b (drop a (put a b w l)) k 0 h) ∙ ap (λ (x : List ℕ). get_or x k 0) put_mid

pub unmarking : (w l : List ℕ) (i : ℕ) → 16384 ≤ length w → Clearing (take 4096 (drop 12288 w)) l i → length (take 4096 (drop 12288 w)) ≤ i →
    Unmarked w (put 12288 4096 w l) 16384
unfolding table
unmarking w l i large c all =
    record {
      only = record { rows = rows; long = put_long 12288 4096 w l large long; further = put_past 12288 4096 w l large long };
      unmarked = λ j p q. go j p (omega arith) (omega (arith, q));
    }
  where
    full : length (take 4096 (drop 12288 w)) ≡ 4096
    full = length-take-le 4096 (drop 12288 w) (omega (arith, large, length-drop 12288 w))

    long : length l ≡ 4096
    long = c.long ∙ full

    is : (k : ℕ) → k < 4096 → get_or l k 0 ≡ 2 * (get_or (take 4096 (drop 12288 w)) k 0 / 2)
    is k h = c.cleared k (omega (arith, h, all, full))

    rows : table (put 12288 4096 w l) ≡ table w
    rows =
        ap (λ (x : List ℕ). x ++ unmarked (take 4096 (drop 12288 (put 12288 4096 w l)))) (put_front 12288 4096 w l large long) ∙
        ap (λ (x : List ℕ). take 12288 w ++ unmarked x) (put_mid 12288 4096 w l large long) ∙
        ap (λ (x : List ℕ). take 12288 w ++ x)
        (same_halves (take 4096 (drop 12288 w)) l c.long (λ k h. ap (λ (x : ℕ). x / 2) (is k (omega (arith, h, full))) ∙ (even (get_or (take 4096 (drop 12288 w)) k 0)).0))

    go : (j : ℕ) → 12288 ≤ j → 12288 + (j - 12288) ≡ j → j - 12288 < 4096 → get_or (put 12288 4096 w l) j 0 % 2 ≡ 0
    go j p e h =
        ap (λ (x : ℕ). get_or (put 12288 4096 w l) x 0 % 2) (sym e) ∙ ap (λ (x : ℕ). x % 2) (put_at 12288 4096 w l large long (j - 12288) h ∙ is (j - 12288) h) ∙
        (even (get_or (take 4096 (drop 12288 w)) (j - 12288) 0)).1

-- ---- a condition evaluated over cleared marks
module _ {s : Bytes} {w w₁ w' : List ℕ} (large : 16384 ≤ length w) (u : Unmarked w w₁ 16384) where
  names_held : {ns : Names} → Left s w₁ w' ns → NamesHeld s w'
  names_held l = record { size = omega (arith, u.only.long, l.long); texts = λ k h m. go k h (l.texts k h (eqb-true (get_or w' (12288 + k) 0 % 2) 1 m)) }
    where
      go : (k : ℕ) → k < 4096 → (get_or w₁ (12288 + k) 0 % 2 ≡ 1) ⊎ HasKind s (table w₁) k 4 → OnText s (start_at w' k) 0
      go k h (inl m) = absurd (omega (arith, u.unmarked (12288 + k) (omega arith) (omega arith)))
      go k h (inr i) =
          subst (λ (x : ℕ). OnText s x 0)
          (sym (ap (λ (x : ℕ). x / 8) (row_word w' (3 * k) (omega arith) ∙ ap (λ (t : List ℕ). get_or t (3 * k) 0) l.rows)))
          (text_row i).on_text

  module _ {r : Fallible CodeTruth EvalError} {m : Result Answer} (e : EvaluatedAs s w₁ w' r m) where
    since : OnlyMarks w w'
    since = marks_then u.only (record { rows = e.left.rows; long = e.left.long; further = e.left.further })

    -- what the refusal is given
    pub refusal_known : (why : EvalError) → r ≡ Err why → (16384 ≤ length w') × Known (λ (t : Bytes). RefusedAt t w' why)
    refusal_known why q = (omega (arith, since.long, large), record { given = s; known = go why (subst (Marks s (table w₁) e.names e.met) q e.marks) })
      where
        go : (x : EvalError) → Marks s (table w₁) e.names e.met (Err x) → RefusedAt s w' x
        go (errors.UnknownExpression n) h = subst (λ (t : List ℕ). HasKind s t n 4) (sym e.left.rows) h
        go errors.NoId h = tt

    pub alone : (t : CodeTruth) → r ≡ Ok t → Alone s w w' (Ok t) m
    alone t q =
        let f : EvaluatedAs s w₁ w' (Ok t) m = subst (λ (y : Fallible CodeTruth EvalError). EvaluatedAs s w₁ w' y m) q e in
        record {
          is = record { names = f.names; is = sym f.means; held = names_held f.left; marked = names_marked u.unmarked f.left ∙ ap ascending f.marks };
          only = since;
        }

    pub alone_refused :
        (why : EvalError) → r ≡ Err why → {a : Reply} → ((t : Bytes) (v : List ℕ) (x : Result Answer) → EvaluatedAs t v w' (Err why) x → Stops t w' x a) →
        Alone s w w' (Err a) m
    alone_refused why q h = record { is = h s w₁ m (subst (λ (y : Fallible CodeTruth EvalError). EvaluatedAs s w₁ w' y m) q e); only = since }

-- ---- a refusal
pub expression_room : {s : Bytes} {w : List ℕ} {n : ℕ} → 16384 ≤ length w → HasKind s (table w) n 4 → Room w n
expression_room {s} {w} h k = record { rows = omega (arith, h); node = node_below s (table w) k.node }

module _ {s : Bytes} {w w' : List ℕ} {m : Result Answer} where
  pub stops_unknown : (n : ℕ) → EvaluatedAs s w w' (Err (errors.UnknownExpression n)) m → {e : ℕ} → e ≡ start_at (table w') n → Stops s w' m (answers.UnknownExpression e)
  unfolding meaning Held
  stops_unknown n a {e} p =
      let q : e ≡ start_at (table w) n = p ∙ ap (λ (t : List ℕ). start_at t n) a.left.rows in
      stops_refused (unknown_expression (text_at s (start_at (table w) n))) (sym a.means)
      (record {
        means = ap {B = Result Verdict} (λ (x : ℕ). refused (unknown_expression (text_at s x))) q;
        held = subst (λ (x : ℕ). OnText s x 0) (sym q) (text_row a.marks).on_text;
      })

  pub stops_no_id : EvaluatedAs s w w' (Err errors.NoId) m → Stops s w' m answers.NoId
  unfolding meaning Held
  stops_no_id a = stops_refused no_id (sym a.means) (record { means = refl; held = tt })
