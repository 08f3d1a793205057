-- What a member is read as from the sorted tree, where it could be read from the tree as written.
-- Assumes nothing.
use mathlib.Core.Bool.{true}
use mathlib.Core.List.{List, [], ◌∷◌}
use Rattle.std.specs.Prelude.{Option, None, Some}
use mathlib.Core.Path.{ap, refl, subst, sym, ◌∙◌, ◌≡◌}
use Prim.Native.Nat.{ℕ}
use native.Mathlib.Omega.{arith}
use Rattle.json_text.proofs.Laws.{bind_ok}
use Rattle.json_text.specs.Bytes.{Bytes, ascii, find}
use Rattle.json_text.specs.Json.{Members, Value, Values, array, bool, cons, elements, entries, keys, nil, null, number, object, text}
use Rattle.json_text.specs.Limits.{max_number, tidy, tidy_of}
use Rattle.json_text.specs.Refusal.{Result, ok, or_else, refused, wrong_sheet, ◌>>=◌}
use Rattle.json_text.specs.Sorted.{sorted, sorted_in, sorted_of}
use Rattle.sheet.proofs.SortedConditions.{text_sorted}
use Rattle.sheet.proofs.SortedMembers.{find_sorted, find_tidy, mapped, only_sorted}
use Rattle.members.proofs.Verdicts.{never}
use Rattle.members.specs.Kinds.{a_bool, a_text, a_version, an_array_of, an_object, each_of, only, optional, required, some_texts}
use Rattle.members.specs.Outcome.{a_move, an_effect}
use Rattle.members.specs.Verdicts.{is_ok}

-- it gives a value
abbrev pub Okay : {A : Type 0} → Result A → Type 0
Okay {A} x = (a : A) × (x ≡ ok a)

pub okay : {A : Type 0} (x : Result A) → is_ok x ≡ true → Okay x
okay (ok a) e = (a, refl)
okay (refused r) e = let z : ◌≡◌ {A = ℕ} 0 1 = cc in absurd (omega arith)

pub okay_is : {A : Type 0} (x : Result A) → Okay x → is_ok x ≡ true
okay_is x e = ap is_ok e.1

-- what came before gave a value, and so does what follows
pub bind_inv : {A B : Type 0} (x : Result A) (f : A → Result B) → Okay (x >>= f) → (a : A) × (x ≡ ok a) × Okay (f a)
bind_inv (ok a) f e = (a, refl, e)
bind_inv (refused r) f e = never r e.0 e.1

pub bind_okay : {A B : Type 0} {x : Result A} (f : A → Result B) (a : A) → x ≡ ok a → Okay (f a) → Okay (x >>= f)
bind_okay f a e o = (o.0, bind_ok f e ∙ o.1)

pub as_object_lem : {B : Type 0} (v : Value) (f : Members → Result B) → Okay (an_object v >>= f) → (ms : Members) × (v ≡ object ms)
as_object_lem null f e = never wrong_sheet e.0 e.1
as_object_lem (bool b) f e = never wrong_sheet e.0 e.1
as_object_lem (number s) f e = never wrong_sheet e.0 e.1
as_object_lem (text s) f e = never wrong_sheet e.0 e.1
as_object_lem (array vs) f e = never wrong_sheet e.0 e.1
as_object_lem (object ms) f e = (ms, refl)

-- ---- kinds that sorting leaves as they are
pub a_text_sorted : (v : Value) → a_text (sorted v) ≡ a_text v
a_text_sorted v = ap {B = Result Bytes} (λ o. or_else o wrong_sheet) (text_sorted v)

pub a_bool_sorted : (v : Value) → a_bool (sorted v) ≡ a_bool v
unfolding sorted
a_bool_sorted null = refl
a_bool_sorted (bool b) = refl
a_bool_sorted (number s) = refl
a_bool_sorted (text s) = refl
a_bool_sorted (array vs) = refl
a_bool_sorted (object ms) = refl

pub a_version_sorted : (v : Value) → a_version (sorted v) ≡ a_version v
unfolding sorted a_version
a_version_sorted null = refl
a_version_sorted (bool b) = refl
a_version_sorted (number s) = refl
a_version_sorted (text s) = refl
a_version_sorted (array vs) = refl
a_version_sorted (object ms) = refl

each_texts : (vs : Values) → each_of a_text (elements (sorted_in vs)) ≡ each_of a_text (elements vs)
unfolding sorted_in each_of
each_texts nil = refl
each_texts (cons v vs) = rw (a_text_sorted v, each_texts vs)

pub texts_sorted : (v : Value) → an_array_of a_text (sorted v) ≡ an_array_of a_text v
unfolding sorted
texts_sorted null = refl
texts_sorted (bool b) = refl
texts_sorted (number s) = refl
texts_sorted (text s) = refl
texts_sorted (array vs) = each_texts vs
texts_sorted (object ms) = refl

pub some_texts_sorted : (v : Value) → some_texts (sorted v) ≡ some_texts v
unfolding sorted
some_texts_sorted null = refl
some_texts_sorted (bool b) = refl
some_texts_sorted (number s) = refl
some_texts_sorted (text s) = refl
some_texts_sorted (array vs) = each_texts vs
some_texts_sorted (object ms) = refl

-- ---- members of the sorted object
-- a value that is one of the members, under its name
abbrev pub Kept : {A B : Type 0} → Members → Bytes → (Value → Result A) → (Value → Result B) → Type 0
Kept ms k kind kind' = (v : Value) → tidy max_number v ≡ true → find k (entries ms) ≡ Some v → Okay (kind v) → Okay (kind' (sorted v))

pub kept : {A : Type 0} (kind : Value → Result A) → ((v : Value) → kind (sorted v) ≡ kind v) → (ms : Members) (k : Bytes) → Kept ms k kind kind
kept kind h ms k v t e o = (o.0, h v ∙ o.1)

pub object_kept : (ms : Members) (k : Bytes) → Kept ms k an_object an_object
unfolding sorted
object_kept ms k null t e o = never wrong_sheet o.0 o.1
object_kept ms k (bool b) t e o = never wrong_sheet o.0 o.1
object_kept ms k (number s) t e o = never wrong_sheet o.0 o.1
object_kept ms k (text s) t e o = never wrong_sheet o.0 o.1
object_kept ms k (array vs) t e o = never wrong_sheet o.0 o.1
object_kept ms k (object xs) t e o = (sorted_of xs, refl)

module _ {A B : Type 0} (kind : Value → Result A) (kind' : Value → Result B) (ms : Members) (t : tidy_of max_number ms ≡ true) (k : Bytes) (h : Kept ms k kind kind') where
  pub required_sorted : Okay (required kind k ms) → Okay (required kind' k (sorted_of ms))
  required_sorted o = go (find k (entries ms)) refl o
    where
      go : (f : Option Value) → find k (entries ms) ≡ f → Okay (or_else f wrong_sheet >>= kind) → Okay (required kind' k (sorted_of ms))
      go None e x = never wrong_sheet x.0 x.1
      go (Some v) e x = let r = h v (find_tidy k ms v t e) e x in (r.0, ap {B = Result B} (λ f. or_else f wrong_sheet >>= kind') (find_sorted k ms t ∙ ap (mapped sorted) e) ∙ r.1)

  pub optional_sorted : Okay (optional kind k ms) → Okay (optional kind' k (sorted_of ms))
  optional_sorted o = go (find k (entries ms)) refl o
    where
      go : (f : Option Value) → find k (entries ms) ≡
          f → Okay {A = Option A} (elim f [ None ↦ ok None | Some v ↦ (kind v >>= (λ a. ok (Some a))) ]) → Okay
          (optional kind' k (sorted_of ms))
      go None e x = (None, ap {B = Result (Option B)} (λ f. elim f [ None ↦ ok None | Some v ↦ (kind' v >>= (λ a. ok (Some a))) ]) (find_sorted k ms t ∙ ap (mapped sorted) e))
      go (Some v) e x =
          let y = bind_inv (kind v) (λ a. ok (Some a)) x in
          let r = h v (find_tidy k ms v t e) e (y.0, y.1) in (
            Some r.0,
            ap {B = Result (Option B)} (λ f. elim f [ None ↦ ok None | Some u ↦ (kind' u >>= (λ a. ok (Some a))) ])
                (find_sorted k ms t ∙ ap (mapped sorted) e) ∙
                bind_ok (λ a. ok (Some a)) r.1,
          )

pub only_okay : (names : List Bytes) (ms : Members) → Okay (only names (keys ms)) → Okay (only names (keys (sorted_of ms)))
only_okay names ms o = okay (only names (keys (sorted_of ms))) (only_sorted names ms (okay_is (only names (keys ms)) o))

-- ---- effects
move_sorted : (v : Value) → tidy max_number v ≡ true → Okay (a_move v) → Okay (a_move (sorted v))
unfolding a_move sorted tidy
move_sorted v t o = subst (λ (x : Value). tidy max_number x ≡ true → Okay (a_move x) → Okay (a_move (sorted x))) (sym q.1) (go q.0) t o
  where
    q : (ms : Members) × (v ≡ object ms)
    q = as_object_lem v _ o

    go : (ms : Members) → tidy_of max_number ms ≡ true → Okay (a_move (object ms)) → Okay (a_move (object (sorted_of ms)))
    go ms u x =
        let a = bind_inv (only (ascii "to" ∷ ascii "from" ∷ []) (keys ms)) _ x in
        let b = bind_inv (required a_text (ascii "to") ms) _ a.2 in
        let c = bind_inv (required some_texts (ascii "from") ms) _ b.2 in
        let a' = only_okay (ascii "to" ∷ ascii "from" ∷ []) ms (a.0, a.1) in
        let b' = required_sorted a_text a_text ms u (ascii "to") (kept a_text a_text_sorted ms (ascii "to")) (b.0, b.1) in
        let c' = required_sorted some_texts some_texts ms u (ascii "from") (kept some_texts some_texts_sorted ms (ascii "from")) (c.0, c.1) in
        bind_okay _ a'.0 a'.1 (bind_okay _ b'.0 b'.1 (bind_okay _ c'.0 c'.1 (_, refl)))

pub effect_sorted : (v : Value) → tidy max_number v ≡ true → Okay (an_effect v) → Okay (an_effect (sorted v))
unfolding an_effect sorted tidy
effect_sorted null t o = o
effect_sorted (bool b) t o = o
effect_sorted (number s) t o = o
effect_sorted (text s) t o = o
effect_sorted (array vs) t o = o
effect_sorted (object ms) t o =
    let a = bind_inv (only (ascii "moves" ∷ []) (keys ms)) _ o in
    let a' = only_okay (ascii "moves" ∷ []) ms (a.0, a.1) in
    bind_okay _ a'.0 a'.1 (required_sorted a_move a_move ms t (ascii "moves") (λ v u e x. move_sorted v u x) a.2)
