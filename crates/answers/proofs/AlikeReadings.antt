-- The demand's premises told from two texts, members in any order: what an expression gives is what stands in the text, sorted, so a reading is kept
-- where the texts have it alike, and all readings are where all that expressions read is alike.
-- Assumes nothing.
use mathlib.Core.Bool.{Bool, false, true, true≢false}
use mathlib.Core.List.{List, [], ◌∷◌}
use mathlib.Core.Logic.{inl, inr}
use Rattle.std.specs.Prelude.{Option, None, Some}
use mathlib.Core.Path.{ap, refl, subst, sym, ◌∙◌, ◌≡◌}
use Rattle.answers.proofs.AlikeRules.{ReadFrom, alike_rules, optional_alike, read_from, required_alike}
use Rattle.answers.proofs.Demand.{same_readings}
use Rattle.answers.proofs.Each.{Each, done, each_found, one}
use Rattle.answers.specs.AlikeMembers.{AlikeRules, AlikeSources}
use Rattle.answers.specs.AlikeReadings.{AlikeGiven, KeptInText, both_give, both_nothing, given_in, member_read}
use Rattle.answers.specs.Demand.{Comparable, Kept, SameRules}
use Rattle.json_text.proofs.Alike.{alike_sorted}
use Rattle.json_text.proofs.Laws.{ok_injective, ok_not_refused}
use Rattle.json_text.specs.Bytes.{Bytes, ascii, find, same_bytes}
use Rattle.json_text.specs.Json.{Members, Value, array, bool, entries, null, number, object, text}
use Rattle.json_text.specs.Limits.{max_number, tidy, tidy_of}
use Rattle.json_text.specs.Reader.{json}
use Rattle.json_text.specs.Refusal.{Result, ok, or_else, refused, unknown_expression, wrong_sheet, ◌>>=◌}
use Rattle.json_text.specs.Sorted.{sorted, sorted_of}
use Rattle.members.specs.Condition.{Condition}
use Rattle.members.specs.Kinds.{a_text, a_version, an_object, is_version, required}
use Rattle.members.specs.Sheet.{Sheet, read_sheet}
use Rattle.semantics.proofs.Later.{known_gives}
use Rattle.semantics.specs.Expression.{bases, gives, gives_parts, id_of, if_any, parts, roots, unbound, walk}
use Rattle.semantics.specs.Readings.{IsReading, Reading, clean, sheet_readings}
use Rattle.semantics.specs.Semantics.{kernel}
use Rattle.sheet.proofs.SortedMembers.{find_sorted, find_tidy, mapped}

-- a walk through a sorted tree gives the sorted value
walk_sorted : (ks : List Bytes) (v : Value) → tidy max_number v ≡ true → walk kernel ks (sorted v) ≡ mapped sorted (walk kernel ks v)
unfolding walk sorted tidy
walk_sorted [] v t = refl
walk_sorted (k ∷ ks) null t = refl
walk_sorted (k ∷ ks) (bool b) t = refl
walk_sorted (k ∷ ks) (number s) t = refl
walk_sorted (k ∷ ks) (text s) t = refl
walk_sorted (k ∷ ks) (array vs) t = refl
walk_sorted (k ∷ ks) (object ms) t =
    ap (λ (o : Option Value). elim o [ None ↦ None | Some w ↦ walk kernel ks w ]) (find_sorted k ms t) ∙
    go (walk_sorted ks) (find k (entries ms)) refl
  where
    go :
        ((w : Value) → tidy max_number w ≡ true → walk kernel ks (sorted w) ≡ mapped sorted (walk kernel ks w)) → (o : Option Value) →
        find k (entries ms) ≡ o →
        (elim (mapped sorted o) [ None ↦ None | Some w ↦ walk kernel ks w ]) ≡ mapped sorted (elim o [ None ↦ None | Some w ↦ walk kernel ks w ])
    go below None e = refl
    go below (Some w) e = below w (find_tidy k ms w t e)

walk_tidy : (ks : List Bytes) (v w : Value) → tidy max_number v ≡ true → walk kernel ks v ≡ Some w → tidy max_number w ≡ true
unfolding walk tidy
walk_tidy [] v w t e = let i : v ≡ w = cc in subst (λ (x : Value). tidy max_number x ≡ true) i t
walk_tidy (k ∷ ks) null w t e = let z : ◌≡◌ {A = Bool} true false = cc in absurd (true≢false z)
walk_tidy (k ∷ ks) (bool b) w t e = let z : ◌≡◌ {A = Bool} true false = cc in absurd (true≢false z)
walk_tidy (k ∷ ks) (number s) w t e = let z : ◌≡◌ {A = Bool} true false = cc in absurd (true≢false z)
walk_tidy (k ∷ ks) (text s) w t e = let z : ◌≡◌ {A = Bool} true false = cc in absurd (true≢false z)
walk_tidy (k ∷ ks) (array vs) w t e = let z : ◌≡◌ {A = Bool} true false = cc in absurd (true≢false z)
walk_tidy (k ∷ ks) (object ms) w t e = go (walk_tidy ks) (find k (entries ms)) refl e
  where
    go :
        ((x y : Value) → tidy max_number x ≡ true → walk kernel ks x ≡ Some y → tidy max_number y ≡ true) → (o : Option Value) →
        find k (entries ms) ≡ o → (elim o [ None ↦ None | Some x ↦ walk kernel ks x ]) ≡ Some w → tidy max_number w ≡ true
    go below None q f = let z : ◌≡◌ {A = Bool} true false = cc in absurd (true≢false z)
    go below (Some x) q f = below x w (find_tidy k ms x t q) f

-- ---- what a member of a kind was read from
is_text_lem : (v : Value) (s : Bytes) → a_text v ≡ ok s → v ≡ text s
is_text_lem null s e = ok_not_refused s wrong_sheet (sym e)
is_text_lem (bool b) s e = ok_not_refused s wrong_sheet (sym e)
is_text_lem (number n) s e = ok_not_refused s wrong_sheet (sym e)
is_text_lem (text t) s e = ap text (ok_injective e)
is_text_lem (array vs) s e = ok_not_refused s wrong_sheet (sym e)
is_text_lem (object ms) s e = ok_not_refused s wrong_sheet (sym e)

is_version_lem : (v : Value) (s : Bytes) → a_version v ≡ ok s → v ≡ number s
unfolding a_version
is_version_lem null s e = ok_not_refused s wrong_sheet (sym e)
is_version_lem (bool b) s e = ok_not_refused s wrong_sheet (sym e)
is_version_lem (number n) s e = by (is_version n) e
  where
    by : (b : Bool) → (elim b [ true ↦ ok n | false ↦ refused wrong_sheet ]) ≡ ok s → number n ≡ number s
    by true f = ap number (ok_injective f)
    by false f = ok_not_refused s wrong_sheet (sym f)
is_version_lem (text t) s e = ok_not_refused s wrong_sheet (sym e)
is_version_lem (array vs) s e = ok_not_refused s wrong_sheet (sym e)
is_version_lem (object ms) s e = ok_not_refused s wrong_sheet (sym e)

is_object : (v : Value) (a : Members) → an_object v ≡ ok a → v ≡ object a
is_object null a e = ok_not_refused a wrong_sheet (sym e)
is_object (bool b) a e = ok_not_refused a wrong_sheet (sym e)
is_object (number n) a e = ok_not_refused a wrong_sheet (sym e)
is_object (text t) a e = ok_not_refused a wrong_sheet (sym e)
is_object (array vs) a e = ok_not_refused a wrong_sheet (sym e)
is_object (object ms) a e = ap object (ok_injective e)

-- where a kind says what the value was
module _ {A : Type 0} (kind : Value → Result A) (back : A → Value) (is : (v : Value) (a : A) → kind v ≡ ok a → v ≡ back a) where
  required_from : (o : Option Value) (a : A) → (or_else o wrong_sheet >>= kind) ≡ ok a → o ≡ Some (back a)
  required_from None a e = ok_not_refused a wrong_sheet (sym e)
  required_from (Some v) a e = ap Some (is v a e)

optional_from : (o : Option Value) (t : Option Bytes) → (elim o [ None ↦ ok None | Some v ↦ (a_text v >>= λ a. ok (Some a)) ]) ≡ ok t → o ≡ if_any t
optional_from None t e = let i : None ≡ t = cc in ap if_any i
optional_from (Some v) t e = by (a_text v) refl e
  where
    by : (x : Result Bytes) → a_text v ≡ x → (x >>= λ a. ok (Some a)) ≡ ok t → Some v ≡ if_any t
    by (ok s) q f = let i : Some s ≡ t = cc in ap Some (is_text_lem v s q) ∙ ap if_any i
    by (refused r) q f = ok_not_refused t r (sym f)

-- ---- an expression that is known gives what stands in the text, sorted
module _ (ms : Members) (sheet : Sheet Condition) (x : ReadFrom ms sheet) where
  RootWritten : Bytes × Result (Option Value) → Type 0
  RootWritten b = (g : Option Value) → b.1 ≡ ok g → g ≡ mapped sorted (find (member_read b.0) (entries ms))

  root_by : (k : Bytes) (v : Option Value) → find k (entries (sorted_of ms)) ≡ v → (g : Option Value) → ok v ≡ ok g → g ≡ mapped sorted (find k (entries ms))
  root_by k v f g e = sym (ok_injective e) ∙ sym f ∙ find_sorted k ms x.is_tidy

  id_by : (o : Option Bytes) → find (ascii "id") (entries (sorted_of ms)) ≡ if_any o → (g : Option Value) → id_of o ≡ ok g → g ≡ mapped sorted (find (ascii "id") (entries ms))
  id_by None f g e = ok_not_refused g _ (sym e)
  id_by (Some s) f g e = root_by (ascii "id") (Some (text s)) f g e

  text_found : (k t : Bytes) → required a_text k (sorted_of ms) ≡ ok t → find k (entries (sorted_of ms)) ≡ Some (text t)
  text_found k t e = required_from a_text text is_text_lem (find k (entries (sorted_of ms))) t e

  object_found : (k : Bytes) (a : Members) → required an_object k (sorted_of ms) ≡ ok a → find k (entries (sorted_of ms)) ≡ Some (object a)
  object_found k a e = required_from an_object object is_object (find k (entries (sorted_of ms))) a e

  roots_written : Each RootWritten (roots sheet)
  unfolding RootWritten same_bytes
  roots_written =
      one (id_by sheet.id (optional_from _ sheet.id x.parts.id))
      (one (root_by (ascii "entity") _ (text_found (ascii "entity") sheet.entity x.parts.entity))
      (one (root_by (ascii "version") _ (required_from a_version number is_version_lem _ sheet.version x.parts.version))
      (one (root_by (ascii "from_state") _ (optional_from _ sheet.from_state x.parts.from_state))
      (one (root_by (ascii "to_state") _ (text_found (ascii "to_state") sheet.to_state x.parts.to_state))
      (one (root_by (ascii "to_state") _ (text_found (ascii "to_state") sheet.to_state x.parts.to_state))
      (one (root_by (ascii "args") _ (object_found (ascii "args") sheet.args x.parts.args))
      (one (root_by (ascii "fields") _ (object_found (ascii "fields") sheet.fields x.parts.fields))
      (one (root_by (ascii "old_fields") _ (object_found (ascii "old_fields") sheet.old_fields x.parts.old_fields)) done))))))))

  BaseWritten : Bytes × Members → Type 0
  BaseWritten b = find b.0 (entries (sorted_of ms)) ≡ Some (object b.1)

  bases_written : Each BaseWritten (bases sheet)
  unfolding BaseWritten
  bases_written =
      one (object_found (ascii "args") sheet.args x.parts.args)
      (one (object_found (ascii "fields") sheet.fields x.parts.fields)
      (one (object_found (ascii "old_fields") sheet.old_fields x.parts.old_fields) done))

  pub gives_written : (e : Bytes) (g : Option Value) → gives kernel sheet [] e ≡ ok g → g ≡ mapped sorted (given_in ms (parts e))
  unfolding gives gives_parts unbound given_in RootWritten BaseWritten walk sorted tidy
  gives_written e g h = by (parts e) h
    where
      root :
          (name : Bytes) (o : Option (Result (Option Value))) → find name (roots sheet) ≡ o →
          (elim o [ None ↦ refused (unknown_expression (36 ∷ e)) | Some r ↦ r ]) ≡ ok g → g ≡ mapped sorted (find (member_read name) (entries ms))
      root name None q f = ok_not_refused g _ (sym f)
      root name (Some r) q f = each_found roots_written name r q g f

      empty : (o : Option Members) → (elim o [ None ↦ refused (unknown_expression (36 ∷ e)) | Some b ↦ ok None ]) ≡ ok g → g ≡ None
      empty None f = ok_not_refused g _ (sym f)
      empty (Some b) f = sym (ok_injective f)

      path :
          (name : Bytes) (ks : List Bytes) (o : Option Members) → find name (bases sheet) ≡ o →
          (elim o [ None ↦ refused (unknown_expression (36 ∷ e)) | Some b ↦ ok (walk kernel ks (object b)) ]) ≡ ok g →
          g ≡ mapped sorted (walk kernel (name ∷ ks) (object ms))
      path name ks None q f = ok_not_refused g _ (sym f)
      path name ks (Some b) q f =
          sym (ok_injective f) ∙
          sym (ap (λ (o : Option Value). elim o [ None ↦ None | Some w ↦ walk kernel ks w ]) (each_found bases_written name b q)) ∙
          walk_sorted (name ∷ ks) (object ms) x.is_tidy

      by : (ps : List Bytes) → gives_parts kernel sheet [] e ps ≡ ok g → g ≡ mapped sorted (given_in ms ps)
      by [] f = ok_not_refused g _ (sym f)
      by (name ∷ []) f = root name (find name (roots sheet)) refl f
      by (name ∷ [] ∷ ps) f = empty (find name (bases sheet)) f
      by (name ∷ (c ∷ p) ∷ ps) f = path name ((c ∷ p) ∷ ps) (find name (bases sheet)) refl f

-- ---- readings that the texts have alike
given_tidy : (ms : Members) → tidy_of max_number ms ≡ true → (ps : List Bytes) (v : Value) → given_in ms ps ≡ Some v → tidy max_number v ≡ true
unfolding given_in tidy
given_tidy ms t [] v e = let z : ◌≡◌ {A = Bool} true false = cc in absurd (true≢false z)
given_tidy ms t (name ∷ []) v e = find_tidy (member_read name) ms v t e
given_tidy ms t (name ∷ [] ∷ ps) v e = let z : ◌≡◌ {A = Bool} true false = cc in absurd (true≢false z)
given_tidy ms t (name ∷ (c ∷ p) ∷ ps) v e = walk_tidy (name ∷ (c ∷ p) ∷ ps) (object ms) v t e

given_alike : (ms : Members) → tidy_of max_number ms ≡ true → (ps : List Bytes) (o p : Option Value) → given_in ms ps ≡ o → AlikeGiven o p → mapped sorted o ≡ mapped sorted p
given_alike ms t ps None None e both_nothing = refl
given_alike ms t ps None (Some w) e x = elim x [ ]
given_alike ms t ps (Some v) None e x = elim x [ ]
given_alike ms t ps (Some v) (Some w) e (both_give a) = ap {B = Option Value} (λ z. Some z) (alike_sorted max_number v w a (given_tidy ms t ps v e))

-- The premises, but for `clean`, told from the texts: rules and state are alike, and so is every reading, or it gives nothing now.
pub comparable_texts :
    (s s' : Bytes) (ms ns : Members) (old new : Sheet Condition) → json s ≡ ok (object ms) → json s' ≡ ok (object ns) → read_sheet s ≡ ok old →
    read_sheet s' ≡ ok new → AlikeRules ms ns → clean kernel old ≡ true → clean kernel new ≡ true →
    ((r : Reading) → IsReading old r → KeptInText ms ns r) → Comparable old new
comparable_texts s s' ms ns old new j j' q q' a c c' h = record { same_rules = same; is_clean = c; is_clean_again = c'; old_value_or_nothing = λ r m. kept r m (h r m) }
  where
    same : SameRules old new
    same = alike_rules s s' ms ns old new j j' q q' a

    x : ReadFrom ms old
    x = read_from s ms old j q

    y : ReadFrom ns new
    y = read_from s' ns new j' q'

    was : (r : Reading) → IsReading old r → gives kernel old [] r.text ≡ ok (mapped sorted (given_in ms (parts r.text)))
    was r m = let k = known_gives kernel old (sheet_readings old) c r m in k.1 ∙ ap {B = Result (Option Value)} ok (gives_written ms old x r.text k.0 k.1)

    now : (r : Reading) → IsReading old r → gives kernel new [] r.text ≡ ok (mapped sorted (given_in ns (parts r.text)))
    now r m =
        let k = known_gives kernel new (sheet_readings new) c' r (rw (same_readings old new same) m) in k.1 ∙
        ap {B = Result (Option Value)} ok (gives_written ns new y r.text k.0 k.1)

    kept : (r : Reading) → IsReading old r → KeptInText ms ns r → Kept old new r
    kept r m (inl g) = inl (now r m ∙ ap {B = Result (Option Value)} ok (sym (given_alike ms x.is_tidy (parts r.text) _ _ refl g)) ∙ sym (was r m))
    kept r m (inr g) = inr (g.0, now r m ∙ ap (λ (o : Option Value). ok (mapped sorted o)) g.1)

-- ---- every expression
-- what expressions read is the same on two sheets
record SameSources (old new : Sheet Condition) : Type 0 where
  id : new.id ≡ old.id
  entity : new.entity ≡ old.entity
  version : new.version ≡ old.version
  from_state : new.from_state ≡ old.from_state
  to_state : new.to_state ≡ old.to_state
  args : new.args ≡ old.args
  fields : new.fields ≡ old.fields
  old_fields : new.old_fields ≡ old.old_fields

same_gives : (old new : Sheet Condition) → SameSources old new → (e : Bytes) → gives kernel new [] e ≡ gives kernel old [] e
unfolding gives gives_parts unbound
same_gives old new h e = by (parts e)
  where
    rooted : roots new ≡ roots old
    rooted = cc

    based : bases new ≡ bases old
    based = cc

    by : (ps : List Bytes) → gives_parts kernel new [] e ps ≡ gives_parts kernel old [] e ps
    by [] = refl
    by (name ∷ []) = ap (λ (rs : List (Bytes × Result (Option Value))). elim (find name rs) [ None ↦ refused (unknown_expression (36 ∷ e)) | Some r ↦ r ]) rooted
    by (name ∷ [] ∷ ps) = ap (λ (bs : List (Bytes × Members)). elim (find name bs) [ None ↦ refused (unknown_expression (36 ∷ e)) | Some ms ↦ ok None ]) based
    by (name ∷ (c ∷ p) ∷ ps) =
        ap
        (λ (bs : List (Bytes × Members)). elim (find name bs)
        [ None ↦ refused (unknown_expression (36 ∷ e)) | Some ms ↦ ok (walk kernel ((c ∷ p) ∷ ps) (object ms)) ]) based

pub alike_readings :
    (s s' : Bytes) (ms ns : Members) (old new : Sheet Condition) → json s ≡ ok (object ms) → json s' ≡ ok (object ns) → read_sheet s ≡ ok old →
    read_sheet s' ≡ ok new → AlikeSources ms ns → (e : Bytes) → gives kernel new [] e ≡ gives kernel old [] e
alike_readings s s' ms ns old new j j' r r' a e =
    let x = read_from s ms old j r in
    let y = read_from s' ns new j' r' in
    same_gives
    old
    new
    (record {
      id = optional_alike x.is_tidy y.is_tidy (ascii "id") a_text old.id new.id a.id x.parts.id y.parts.id;
      entity = required_alike x.is_tidy y.is_tidy (ascii "entity") a_text old.entity new.entity a.entity x.parts.entity y.parts.entity;
      version = required_alike x.is_tidy y.is_tidy (ascii "version") a_version old.version new.version a.version x.parts.version y.parts.version;
      from_state = optional_alike x.is_tidy y.is_tidy (ascii "from_state") a_text old.from_state new.from_state a.from_state x.parts.from_state y.parts.from_state;
      to_state = required_alike x.is_tidy y.is_tidy (ascii "to_state") a_text old.to_state new.to_state a.to_state x.parts.to_state y.parts.to_state;
      args = required_alike x.is_tidy y.is_tidy (ascii "args") an_object old.args new.args a.args x.parts.args y.parts.args;
      fields = required_alike x.is_tidy y.is_tidy (ascii "fields") an_object old.fields new.fields a.fields x.parts.fields y.parts.fields;
      old_fields = required_alike x.is_tidy y.is_tidy (ascii "old_fields") an_object old.old_fields new.old_fields a.old_fields x.parts.old_fields y.parts.old_fields;
    })
    e
