-- Whatever is refused of a sheet, a rule, an outcome or an effect by its members is refused with 9.
-- Assumes nothing.
use mathlib.Core.Bool.{Bool, false, true}
use mathlib.Core.List.{List, [], ◌∷◌}
use Rattle.std.specs.Prelude.{Option, None, Some}
use mathlib.Core.Path.{ap, refl, ◌≡◌}
use Rattle.json_text.specs.Bytes.{Bytes, ascii, find, is_one_of}
use Rattle.json_text.specs.Json.{Members, Value, as_array, as_bool, as_number, as_object, as_text, elements, entries, is_null, keys}
use Rattle.json_text.specs.Refusal.{Result, ok, or_else, refused, wrong_sheet, ◌>>=◌}
use Rattle.members.specs.Kinds.{a_bool, a_text, a_version, an_array_of, an_object, each_of, is_version, not_null, only, optional, required, some_texts}
use Rattle.members.specs.Outcome.{Effect, a_move, an_effect, an_outcome, effect_words}
use Rattle.members.specs.Rule.{a_rule}
use Rattle.members.specs.Sheet.{a_sheet, sheet_names}
use Rattle.members.specs.Verdicts.{is_ok}

abbrev pub OnlyNine : {A : Type 0} → Result A → Type 0
OnlyNine (ok a) = Unit {0}
OnlyNine (refused r) = r ≡ wrong_sheet

pub nine : {A : Type 0} (x : Result A) → OnlyNine x → false ≡ is_ok x → x ≡ refused wrong_sheet
nine {A} (ok a) h e = cc
nine {A} (refused r) h e = ap {B = Result A} (λ y. refused y) h

bind : {A B : Type 0} (x : Result A) (f : A → Result B) → OnlyNine x → ((a : A) → OnlyNine (f a)) → OnlyNine (x >>= f)
bind (ok a) f p q = q a
bind (refused r) f p q = p

last : {A B : Type 0} (x : Result A) (f : A → B) → OnlyNine x → OnlyNine (x >>= (λ a. ok (f a)))
last x f p = bind x (λ a. ok (f a)) p (λ a. tt)

else : {A : Type 0} (o : Option A) → OnlyNine (or_else o wrong_sheet)
else None = refl
else (Some a) = tt

only_nine : (allowed ks : List Bytes) → OnlyNine (only allowed ks)
unfolding only
only_nine allowed [] = tt
only_nine allowed (k ∷ ks) = go (is_one_of k allowed) (only_nine allowed ks)
  where
    go : (b : Bool) → OnlyNine (only allowed ks) → OnlyNine {A = Bool} (elim b [ true ↦ only allowed ks | false ↦ refused wrong_sheet ])
    go true below = below
    go false below = refl

each_nine : {A : Type 0} (kind : Value → Result A) → ((v : Value) → OnlyNine (kind v)) → (vs : List Value) → OnlyNine (each_of kind vs)
unfolding each_of
each_nine kind h [] = tt
each_nine kind h (v ∷ vs) = bind (kind v) _ (h v) (λ a. last (each_of kind vs) _ (each_nine kind h vs))

array_nine : {A : Type 0} (kind : Value → Result A) → ((v : Value) → OnlyNine (kind v)) → (v : Value) → OnlyNine (an_array_of kind v)
array_nine kind h v = bind (or_else (as_array v) wrong_sheet) _ (else (as_array v)) (λ vs. each_nine kind h (elements vs))

text_nine : (v : Value) → OnlyNine (a_text v)
text_nine v = else (as_text v)

object_nine : (v : Value) → OnlyNine (an_object v)
object_nine v = else (as_object v)

version_nine : (v : Value) → OnlyNine (a_version v)
unfolding a_version
version_nine v = bind (or_else (as_number v) wrong_sheet) _ (else (as_number v)) (λ s. go s (is_version s))
  where
    go : (s : Bytes) (b : Bool) → OnlyNine {A = Bytes} (elim b [ true ↦ ok s | false ↦ refused wrong_sheet ])
    go s true = tt
    go s false = refl

present_nine : (v : Value) → OnlyNine (not_null v)
present_nine v = go (is_null v)
  where
    go : (b : Bool) → OnlyNine {A = Value} (elim b [ true ↦ refused wrong_sheet | false ↦ ok v ])
    go true = refl
    go false = tt

some_nine : (v : Value) → OnlyNine (some_texts v)
some_nine v = go (as_text v)
  where
    go : (o : Option Bytes) → OnlyNine {A = List Bytes} (elim o [ Some s ↦ ok (s ∷ []) | None ↦ an_array_of a_text v ])
    go (Some s) = tt
    go None = array_nine a_text text_nine v

module _ {A : Type 0} (kind : Value → Result A) (h : (v : Value) → OnlyNine (kind v)) (k : Bytes) (ms : Members) where
  required_nine : OnlyNine (required kind k ms)
  required_nine = bind (or_else (find k (entries ms)) wrong_sheet) kind (else (find k (entries ms))) h

  optional_nine : OnlyNine (optional kind k ms)
  optional_nine = go (find k (entries ms))
    where
      go : (o : Option Value) → OnlyNine {A = Option A} (elim o [ None ↦ ok None | Some v ↦ (kind v >>= (λ a. ok (Some a))) ])
      go None = tt
      go (Some v) = last (kind v) _ (h v)

move_nine : (v : Value) → OnlyNine (a_move v)
unfolding a_move
move_nine v =
    bind (an_object v) _ (object_nine v)
    (λ ms. bind (only (ascii "to" ∷ ascii "from" ∷ []) (keys ms)) _ (only_nine (ascii "to" ∷ ascii "from" ∷ []) (keys ms))
    (λ _. bind (required a_text (ascii "to") ms) _ (required_nine a_text text_nine (ascii "to") ms)
    (λ t. last (required some_texts (ascii "from") ms) _ (required_nine some_texts some_nine (ascii "from") ms))))

effect_nine : (v : Value) → OnlyNine (an_effect v)
unfolding an_effect
effect_nine v = go (as_text v)
  where
    go : (o : Option Bytes) → OnlyNine {A = Effect}
        (elim o [
          | Some s ↦ or_else (find s effect_words) wrong_sheet
          | None ↦
              (an_object v >>= (λ ms. only (ascii "moves" ∷ []) (keys ms) >>= (λ _. required a_move (ascii "moves") ms)))
        ])
    go (Some s) = else (find s effect_words)
    go None =
        bind (an_object v) _ (object_nine v)
        (λ ms. bind (only (ascii "moves" ∷ []) (keys ms)) _ (only_nine (ascii "moves" ∷ []) (keys ms)) (λ _. required_nine a_move move_nine (ascii "moves") ms))

rule_nine : (v : Value) → OnlyNine (a_rule not_null v)
unfolding a_rule
rule_nine v =
    bind (an_object v) _ (object_nine v)
    (λ ms. bind (only (ascii "assert" ∷ ascii "name" ∷ ascii "message" ∷ []) (keys ms)) _ (only_nine (ascii "assert" ∷ ascii "name" ∷ ascii "message" ∷ []) (keys ms))
    (λ _. bind (required not_null (ascii "assert") ms) _ (required_nine not_null present_nine (ascii "assert") ms)
    (λ c. bind (optional a_text (ascii "name") ms) _ (optional_nine a_text text_nine (ascii "name") ms)
    (λ n. last (optional a_text (ascii "message") ms) _ (optional_nine a_text text_nine (ascii "message") ms)))))

bool_nine : (v : Value) → OnlyNine (a_bool v)
bool_nine v = else (as_bool v)

outcome_nine : (v : Value) → OnlyNine (an_outcome not_null v)
unfolding an_outcome
outcome_nine v =
    bind (an_object v) _ (object_nine v)
    (λ ms. bind (only (ascii "name" ∷ ascii "when" ∷ ascii "in_state" ∷ ascii "wrong_state" ∷ ascii "effect" ∷ []) (keys ms)) _
    (only_nine (ascii "name" ∷ ascii "when" ∷ ascii "in_state" ∷ ascii "wrong_state" ∷ ascii "effect" ∷ []) (keys ms))
    (λ _. bind (required a_text (ascii "name") ms) _ (required_nine a_text text_nine (ascii "name") ms)
    (λ n. bind (optional not_null (ascii "when") ms) _ (optional_nine not_null present_nine (ascii "when") ms)
    (λ c. bind (optional a_text (ascii "in_state") ms) _ (optional_nine a_text text_nine (ascii "in_state") ms)
    (λ i. bind (optional a_bool (ascii "wrong_state") ms) _ (optional_nine a_bool bool_nine (ascii "wrong_state") ms)
    (λ w. last (optional an_effect (ascii "effect") ms) _ (optional_nine an_effect effect_nine (ascii "effect") ms)))))))

pub sheet_nine : (v : Value) → OnlyNine (a_sheet not_null v)
unfolding a_sheet
sheet_nine v =
    bind (an_object v) _ (object_nine v)
    (λ ms. bind (only sheet_names (keys ms)) _ (only_nine sheet_names (keys ms))
    (λ _. bind (optional a_text (ascii "id") ms) _ (optional_nine a_text text_nine (ascii "id") ms)
    (λ x0. bind (required a_text (ascii "entity") ms) _ (required_nine a_text text_nine (ascii "entity") ms)
    (λ x1. bind (required a_version (ascii "version") ms) _ (required_nine a_version version_nine (ascii "version") ms)
    (λ x2. bind (required an_object (ascii "args") ms) _ (required_nine an_object object_nine (ascii "args") ms)
    (λ x3. bind (required an_object (ascii "fields") ms) _ (required_nine an_object object_nine (ascii "fields") ms)
    (λ x4. bind (required an_object (ascii "old_fields") ms) _
    (required_nine an_object object_nine (ascii "old_fields") ms)
    (λ x5. bind (optional a_text (ascii "from_state") ms) _ (optional_nine a_text text_nine (ascii "from_state") ms)
    (λ x6. bind (required a_text (ascii "to_state") ms) _ (required_nine a_text text_nine (ascii "to_state") ms)
    (λ x7. bind (optional a_text (ascii "state") ms) _ (optional_nine a_text text_nine (ascii "state") ms)
    (λ x8. bind (required (an_array_of a_text) (ascii "states") ms) _
    (required_nine (an_array_of a_text) (array_nine a_text text_nine) (ascii "states") ms)
    (λ x9. bind (optional not_null (ascii "condition") ms) _
    (optional_nine not_null present_nine (ascii "condition") ms)
    (λ x10. bind (required (an_array_of (a_rule not_null)) (ascii "preconditions") ms) _
    (required_nine (an_array_of (a_rule not_null)) (array_nine (a_rule not_null) rule_nine)
    (ascii "preconditions") ms)
    (λ x11. bind (required (an_array_of (a_rule not_null)) (ascii "invariants") ms) _
    (required_nine (an_array_of (a_rule not_null)) (array_nine (a_rule not_null) rule_nine)
    (ascii "invariants") ms)
    (λ x12. last (required (an_array_of (an_outcome not_null)) (ascii "outcomes") ms) _
    (required_nine (an_array_of (an_outcome not_null))
    (array_nine (an_outcome not_null) outcome_nine) (ascii "outcomes") ms))))))))))))))))
