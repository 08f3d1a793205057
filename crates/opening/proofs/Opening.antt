-- Opening a sheet, from what reading and the shape say: refused as the calls refuse, or accepted.
-- Assumes nothing.
use Rattle.std.specs.Prelude.{IsErrAnd, Result as Fallible}
use mathlib.Core.Bool.{Bool, false, true}
use mathlib.Core.List.{List}
use Rattle.std.specs.Prelude.{None, Ok, Err}
use mathlib.Core.Path.{ap, refl, subst, sym, ◌∙◌, ◌≡◌}
use Prim.Native.Nat.{ℕ, ◌<◌, ◌≤◌}
use native.Mathlib.Omega.{arith}
use lib.Dec.{T, leb, leb→le}
use lib.ListN.{drop, length}
use lib.Seq.{drop-drop}
use Rattle.std.proofs.lemmas.Result.{err_from_is_err_and}
use Rattle.answers.specs.Line.{refusal_line}
use Rattle.order.specs.Ordered.{Ordered, Unordered}
use Rattle.json_text.proofs.Complete.{read_exactly}
use Rattle.json_text.proofs.Laws.{leb_true}
use Rattle.json_text.proofs.Walk.{after_node}
use Rattle.strings.specs.Answers.{refusal_of}
use Rattle.json_text.specs.Bytes.{Bytes}
use Rattle.json_text.specs.Json.{Value}
use Rattle.json_text.specs.Reader.{json}
use Rattle.strings.specs.Reads.{HoldsOf, ReadTold, read_of, reading}
use Rattle.json_text.specs.Refusal.{Refusal, Result, ok, refused, work_too_small, ◌>>=◌}
use Rattle.json_text.specs.Table.{value_at}
use Rattle.strings.specs.declared.answer.Refusal.{Refusal as Why}
use Rattle.strings.specs.declared.answer.Refusal.TheVariants as whys
use Rattle.sheet.specs.Accepted.{Shaped, Stored}
use Rattle.members.specs.Condition.{Condition}
use Rattle.members.specs.Sheet.{Sheet, checked, read_sheet}
use Rattle.sheet.specs.declared.shape.Members.{Members}
use Rattle.sheet.specs.declared.shape.Misshapen.{Misshapen}
use Rattle.sheet.specs.declared.shape.Misshapen.TheVariants as misshapen
use Rattle.answers.specs.Entry.{enough, work_words}
use Rattle.opening.specs.Opening.{OpenedAs, Opening, opening, why_not}
use Rattle.opening.specs.declared.open.NotOpened.{NotOpened}
use Rattle.opening.specs.declared.open.NotOpened.TheVariants as not_opened

-- no refusal on opening has a line
no_line_lem : (why : NotOpened) → refusal_line (why_not why) ≡ None
unfolding refusal_line
no_line_lem (not_opened.Unread whys.WorkTooSmall) = refl
no_line_lem (not_opened.Unread whys.TooLong) = refl
no_line_lem (not_opened.Unread whys.NotUtf8) = refl
no_line_lem (not_opened.Unread whys.NotJson) = refl
no_line_lem (not_opened.Unread whys.TooDeep) = refl
no_line_lem (not_opened.Unread whys.NumberTooLong) = refl
no_line_lem (not_opened.Unread whys.TooManyNodes) = refl
no_line_lem (not_opened.Unread whys.RepeatedName) = refl
no_line_lem (not_opened.Misshapen misshapen.WrongSheet) = refl
no_line_lem (not_opened.Misshapen misshapen.WrongShape) = refl
no_line_lem (not_opened.Misshapen misshapen.NotCarried) = refl

module _ (words : ℕ) (s : Bytes) where
  abbrev read_by : Bool → Result Value
  read_by b = elim b [ true ↦ json s | false ↦ refused work_too_small ]

  abbrev enough_by : Bool → Result Bool
  enough_by b = elim b [ true ↦ ok true | false ↦ refused work_too_small ]

  abbrev open_by : Bool → Result (Sheet Condition)
  open_by b = elim b [ true ↦ read_sheet s | false ↦ refused work_too_small ]

  read_by_lem : (b : Bool) → leb work_words words ≡ b → reading words s ≡ read_by b
  unfolding reading
  read_by_lem b e = ap {B = Result Value} read_by e

  open_by_lem : (b : Bool) → leb work_words words ≡ b → opening words s ≡ open_by b
  unfolding opening enough
  open_by_lem true e = ap {B = Result (Sheet Condition)} (λ (c : Bool). enough_by c >>= (λ _. read_sheet s)) e
  open_by_lem false e = ap {B = Result (Sheet Condition)} (λ (c : Bool). enough_by c >>= (λ _. read_sheet s)) e

  pub sheet_opened : 16384 ≤ words → opening words s ≡ read_sheet s
  sheet_opened h = open_by_lem true (leb_true work_words words h)

  sheet_refused : (f : Refusal) → json s ≡ refused f → read_sheet s ≡ refused f
  unfolding read_sheet
  sheet_refused f e = ap {B = Result (Sheet Condition)} (λ (x : Result Value). x >>= checked) e

  pub reading_refused : (f : Refusal) → reading words s ≡ refused f → opening words s ≡ refused f
  reading_refused f h = go (leb work_words words) refl
    where
      go : (b : Bool) → leb work_words words ≡ b → opening words s ≡ refused f
      go true e = open_by_lem true e ∙ sheet_refused f (sym (read_by_lem true e) ∙ h)
      go false e = open_by_lem false e ∙ ap {B = Result (Sheet Condition)} (λ (x : Refusal). refused x) (refusal_is (sym (read_by_lem false e) ∙ h))
        where
          refusal_is : ◌≡◌ {A = Result Value} (refused work_too_small) (refused f) → work_too_small ≡ f
          refusal_is z = cc

  -- a table that was read is large enough
  module _ (v : Value) (h : reading words s ≡ ok v) where
    large : leb work_words words ≡ true
    large = go (leb work_words words) refl
      where
        go : (b : Bool) → leb work_words words ≡ b → b ≡ true
        go true e = refl
        go false e =
            let z : refused work_too_small ≡ ok v = sym (read_by_lem false e) ∙ h in
            let y : ◌≡◌ {A = ℕ} 0 1 = cc in
            absurd (omega arith)

    pub is_large : 16384 ≤ words
    is_large = leb→le work_words words (subst T (sym large) tt)

    pub is_json : json s ≡ ok v
    is_json = sym (read_by_lem true large) ∙ h

    pub is_sheet : opening words s ≡ read_sheet s
    is_sheet = open_by_lem true large

-- what `?` returns
returned : (r : Fallible Members NotOpened) {why : NotOpened} → IsErrAnd r (λ e. e ≡ why) → Err why ≡ r
returned r h = let x = err_from_is_err_and r h in sym (x.1 ∙ ap Err x.2)

past_table : {s : Bytes} {w w' : List ℕ} {r : Fallible ℕ Why} → ReadTold s w w' r → drop 16384 w' ≡ drop 16384 w
past_table {s} {w} {w'} t = sym (drop-drop 4096 12288 w') ∙ ap (drop 4096) t.past ∙ drop-drop 4096 12288 w

module _ {s : Bytes} {w w' : List ℕ} {r : Fallible ℕ Why} (t : ReadTold s w w' r) where
  pub stopped_reading : (why : Why) → r ≡ Err why → (a : Fallible Members NotOpened) → IsErrAnd a (λ e. e ≡ not_opened.Unread why) → Opening s w w' a
  unfolding OpenedAs read_of
  stopped_reading why q a h =
      subst (Opening s w w') (returned a h)
      (record {
        is = record { is = reading_refused (length w) s (refusal_of why) (t.answers ∙ ap {B = Result Value} (read_of s w') q); no_line = no_line_lem (not_opened.Unread why) };
        small = t.small;
        past = λ h. past_table t;
      })

  module _ (k : ℕ) (q : r ≡ Ok k) where
    was_read : reading (length w) s ≡ ok (value_at s w' 0)
    unfolding read_of
    was_read = t.answers ∙ ap {B = Result Value} (read_of s w') q

    read_large : 16384 ≤ length w
    read_large = is_large (length w) s (value_at s w' 0) was_read

    reads_json : json s ≡ ok (value_at s w' 0)
    reads_json = is_json (length w) s (value_at s w' 0) was_read

    pub unordered : length w' ≡ length w → Unordered s w'
    unfolding HoldsOf
    unordered e = record { long = omega (arith, e, read_large); root = (subst (HoldsOf s w') q t.holds).root; is_tidy = ((read_exactly s (value_at s w' 0)).0 reads_json).is_tidy }

    -- the table once its members are linked
    module _ {w'' : List ℕ} (o : Ordered s w' w'') where
      pub stored : Stored s w''
      stored = record { reads = reads_json ∙ ap {B = Result Value} (λ v. ok v) (sym o.same); node = o.root; linked = o.linked }

      still_small : length w < 16384 → w'' ≡ w
      still_small h = absurd (omega (arith, h, read_large))

      still_past : 16384 ≤ length w → drop 16384 w'' ≡ drop 16384 w
      still_past h = o.further ∙ past_table t

      shape_says : (why : Misshapen) → Shaped s w'' (Err why) → read_sheet s ≡ refused (why_not (not_opened.Misshapen why))
      unfolding Shaped
      shape_says misshapen.WrongSheet h = h
      shape_says misshapen.WrongShape h = h
      shape_says misshapen.NotCarried h = h

      pub stopped_shape :
          {f : Fallible Members Misshapen} → Shaped s w'' f → (why : Misshapen) → f ≡ Err why → (a : Fallible Members NotOpened) →
          IsErrAnd a (λ e. e ≡ not_opened.Misshapen why) → Opening s w w'' a
      unfolding OpenedAs
      stopped_shape h why z a r =
          subst (Opening s w w'') (returned a r)
          (record {
            is = record {
              is = is_sheet (length w) s (value_at s w' 0) was_read ∙ shape_says why (subst (Shaped s w'') z h);
              no_line = no_line_lem (not_opened.Misshapen why);
            };
            small = still_small;
            past = still_past;
          })

      pub opened_sheet : {a : Fallible Members Misshapen} → Shaped s w'' a → (m : Members) → a ≡ Ok m → Opening s w w'' (Ok m)
      unfolding OpenedAs Shaped
      opened_sheet {a} h m e =
          let x = subst (Shaped s w'') e h in
          record {
            is = record { long = read_large; bounded = record { few = (after_node s w'' o.root).1; behind = o.behind }; sheet = x.0; accepted = x.1 };
            small = still_small;
            past = still_past;
          }
