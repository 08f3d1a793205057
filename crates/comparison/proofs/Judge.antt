-- Evaluation without copies agrees with the definition.
-- Assumes nothing.
use mathlib.Core.Path.{◌≡◌, refl, ◌∙◌, ap}
use mathlib.Core.List.{List, [], ◌∷◌}
use Rattle.std.specs.Prelude.{None, Some}
use mathlib.Core.Bool.{Bool, true, false}
use Prim.Native.Nat.{ℕ, ◌+◌, ◌*◌, ◌≤◌, ◌<◌}
use native.Mathlib.Omega.{arith}
use lib.ListN.{length}
use Rattle.paths.specs.Comparing.{nesting}
use Rattle.comparison.specs.Judge.{compared_of, in_turn, judge, judge_all, over_of}
use Rattle.paths.specs.Lazy.{Frames, Operand}
use Rattle.paths.specs.Shape.{Shape, collected, seconds}
use Rattle.paths.proofs.Stands.{Agree, refusing, lacking, standing, Stands, Standing, no_frame, frame, standing_length, operand_agrees}
use Rattle.operands.proofs.Layers.{FitsIn, no_item, one_item, FitsOf, no_field, one_field, Fits, is_nothing, is_truth, is_digits, is_words, is_items, is_fields, shape_fits, holds_agrees}
use Rattle.paths.proofs.Nesting.{LowSheet, Low, LowAll, LowEnv, resolve_low}
use Rattle.semantics.proofs.Parts.{Operands}
use Rattle.semantics.specs.Evaluate.{Answer, each, certain, collection, compared, evaluate, evaluate_all, is_present, joined, over, unknown, values_of}
use Rattle.semantics.specs.Expression.{Env}
use Rattle.semantics.specs.Operand.{Resolved, present, resolve}
use Rattle.semantics.specs.Semantics.{kernel}
use Rattle.semantics.specs.Truth.{settles}
use Rattle.json_text.specs.Bytes.{Bytes}
use Rattle.json_text.specs.Json.{Members, Value, Values, elements}
use Rattle.json_text.specs.Limits.{depth, depth_in, depth_of}
use Rattle.json_text.specs.Refusal.{Result, ◌>>=◌, ok}
use Rattle.members.specs.Condition.{Condition, Conditions, Form, Mode, also, exists, junction, literal, negation, no_more, pair, quantified}
use Rattle.members.specs.Sheet.{Sheet}

-- the elements of a collection, each standing for one that nests no deeper than the whole
pub data Turns (R : Operand → Value → Type 0) (n : ℕ) : List Operand → List Value → Type 0 where
  done : Turns R n [] []
  turn : {o : Operand} {v : Value} {xs : List Operand} {vs : List Value} → R o v → depth v ≤ n → Turns R n xs vs → Turns R n (o ∷ xs) (v ∷ vs)

turns_in : {R : Operand → Value → Type 0} (n : ℕ) {xs : List Operand} {vs : Values} → FitsIn R xs vs → depth_in vs ≤ n → Turns R n xs (elements vs)
unfolding depth_in
turns_in n no_item h = done
turns_in n (one_item {v = v} {vs = vs} r k) h = turn r (omega arith) (turns_in n k (omega arith))

turns_of : {R : Operand → Value → Type 0} (n : ℕ) {xs : List (Bytes × Operand)} {ms : Members} → FitsOf R xs ms → depth_of ms ≤ n → Turns R n (seconds xs) (values_of ms)
unfolding depth_of seconds
turns_of n no_field h = done
turns_of n (one_field {v = v} {ms = ms} r k) h = turn r (omega arith) (turns_of n k (omega arith))

each_agrees : {R : Operand → Value → Type 0} (n : ℕ) (m : Mode) (f : Operand → Result Answer) (g : Value → Result Answer) →
    ((o : Operand) (v : Value) → R o v → depth v ≤ n → f o ≡ g v) → {xs : List Operand} {vs : List Value} → Turns R n xs vs →
    in_turn m f xs ≡ each m g vs
unfolding in_turn each
each_agrees n m f g h done = refl
each_agrees n m f g h (turn {o = o} {v = v} {xs = xs} {vs = vs} r l k) =
    ap (λ (x : Result Answer). x >>= λ a. elim (settles m a.truth) as (λ _. Result Answer) [ true ↦ ok a | false ↦ (in_turn m f xs >>= λ b. ok (joined m a b)) ]) (h o v r l) ∙
    ap (λ (y : Result Answer). g v >>= λ a. elim (settles m a.truth) as (λ _. Result Answer) [ true ↦ ok a | false ↦ (y >>= λ b. ok (joined m a b)) ]) (each_agrees n m f g h k)

collected_agrees : {R : Operand → Value → Type 0} (n : ℕ) (m : Mode) (f : Operand → Result Answer) (g : Value → Result Answer) →
    ((o : Operand) (v : Value) → R o v → depth v ≤ n → f o ≡ g v) → {s : Shape Operand} {v : Value} → Fits R s v → depth v ≤ n → ◌≡◌
    {A = Result Answer} (elim (collected s) [ None ↦ ok (unknown []) | Some xs ↦ in_turn m f xs ])
    (elim (collection v) [ None ↦ ok (unknown []) | Some vs ↦ each m g vs ])
unfolding depth
collected_agrees n m f g h is_nothing l = refl
collected_agrees n m f g h is_truth l = refl
collected_agrees n m f g h is_digits l = refl
collected_agrees n m f g h is_words l = refl
collected_agrees n m f g h (is_items k) l = each_agrees n m f g h (turns_in n k (omega arith))
collected_agrees n m f g h (is_fields k) l = each_agrees n m f g h (turns_of n k (omega arith))

module _ {C : Type 0} (sheet : Sheet C) (low : LowSheet sheet) where
  exists_agrees : {R : Operand → Value → Type 0} {x : Result (Resolved Operand)} {y : Result (Resolved Value)} → Agree R x y →
      (x >>= λ r. ok (certain (is_present r))) ≡ (y >>= λ r. ok (certain (is_present r)))
  exists_agrees refusing = refl
  exists_agrees lacking = refl
  exists_agrees (standing k) = refl

  pair_agrees :
      {fs : Frames} {env : Env} (f : Form) {x p : Result (Resolved Operand)} {y q : Result (Resolved Value)} → Standing sheet fs env →
      ((v : Value) → y ≡ ok (present v) → depth v < nesting (length fs)) →
      ((w : Value) → q ≡ ok (present w) → depth w < nesting (length fs)) → Agree (Stands sheet env (length env)) x y →
      Agree (Stands sheet env (length env)) p q →
      (x >>= λ r. p >>= λ t. ok (compared_of sheet fs f r t)) ≡ (y >>= λ r. q >>= λ t. ok (compared kernel f r t))
  unfolding compared_of
  pair_agrees f s h l refusing k = refl
  pair_agrees f s h l lacking refusing = refl
  pair_agrees f s h l lacking lacking = refl
  pair_agrees f s h l lacking (standing k) = refl
  pair_agrees f s h l (standing j) refusing = refl
  pair_agrees f s h l (standing j) lacking = refl
  pair_agrees f s h l (standing {a = o} {b = v} j) (standing {a = p} {b = w} k) = ap (λ (b : Bool). ok (certain b)) (holds_agrees sheet f o p v w s j k (h v refl) (l w refl))

  over_agrees :
      {fs : Frames} {env : Env} (n : ℕ) (m : Mode) (f : Operand → Result Answer) (g : Value → Result Answer) {x : Result (Resolved Operand)}
      {y : Result (Resolved Value)} → Standing sheet fs env → ((v : Value) → y ≡ ok (present v) → depth v ≤ n) →
      ((o : Operand) (v : Value) → Stands sheet env (length env) o v → depth v ≤ n → f o ≡ g v) → Agree (Stands sheet env (length env)) x y →
      (x >>= λ r. over_of sheet fs m f r) ≡ (y >>= λ r. over m g r)
  unfolding over_of
  over_agrees n m f g s l h refusing = refl
  over_agrees n m f g s l h lacking = refl
  over_agrees n m f g s l h (standing {b = v} k) = collected_agrees n m f g h (shape_fits sheet s (omega arith) k) (l v refl)

  written_low : {fs : Frames} {env : Env} (v : Value) → Standing sheet fs env → LowEnv env → depth v ≤ 64 → (w : Value) →
      resolve kernel sheet env v ≡ ok (present w) → depth w < nesting (length fs)
  written_low {fs} {env} v s l h w e = let a = standing_length sheet s in let b = resolve_low sheet low env v l e in omega arith

  mutual
    unfolding judge evaluate Operands LowEnv

    pub judge_evaluates : (c : Condition) {fs : Frames} {env : Env} → Standing sheet fs env → LowEnv env → Low c → judge sheet fs c ≡ evaluate kernel sheet env c
    judge_evaluates (literal b) s l h = refl
    judge_evaluates (junction m cs) s l h = judge_all_evaluates cs m s l h
    judge_evaluates (negation c) s l h = rw (judge_evaluates c s l h) refl
    judge_evaluates (exists v) s l h = exists_agrees (operand_agrees sheet v s)
    judge_evaluates (pair f v w) s l h = pair_agrees f s (written_low v s l h.0) (written_low w s l h.1) (operand_agrees sheet v s) (operand_agrees sheet w s)
    judge_evaluates (quantified m v x c) {fs} {env} s l h =
        over_agrees (64 * (length env + 2)) m (λ o. judge sheet ((x, o) ∷ fs) c) (λ w. evaluate kernel sheet ((x, w) ∷ env) c) s
        (λ w e. let b = resolve_low sheet low env v l e in let k = h.0 in omega arith)
        (λ o w k d. judge_evaluates c (frame k s) (d, l) h.1)
        (operand_agrees sheet v s)

    pub judge_all_evaluates : (cs : Conditions) (m : Mode) {fs : Frames} {env : Env} → Standing sheet fs env → LowEnv env → LowAll cs →
        judge_all sheet fs m cs ≡ evaluate_all kernel sheet env m cs
    judge_all_evaluates no_more m s l h = refl
    judge_all_evaluates (also c cs) m s l h = rw (judge_evaluates c s l h.0, judge_all_evaluates cs m s l h.1) refl

  -- with no binder in force
  pub judge_whole : (c : Condition) → Low c → judge sheet [] c ≡ evaluate kernel sheet [] c
  unfolding LowEnv
  judge_whole c h = judge_evaluates c no_frame tt h
