-- An object's loop over the table: what holds at each separator, and a law for each turn.
-- Assumes nothing.
use Rattle.std.specs.Prelude.{Result as Fallible}
use Rattle.std.specs.Prelude.{Ok, Err}
use mathlib.Core.Bool.{Bool, false, true}
use mathlib.Core.List.{List, append_assoc, [], ◌++◌, ◌∷◌}
use mathlib.Core.Path.{ap, refl, subst, sym, ◌∙◌, ◌≡◌}
use Prim.Native.Nat.{suc, zero, ℕ, ◌*◌, ◌+◌, ◌-◌, ◌<◌, ◌≤◌}
use native.Mathlib.Omega.{arith}
use lib.ListN.{get_or-eq_default, drop, get_or, length, take}
use lib.Seq.{drop_at, length-sets, length-take-le, sets, sets-eq}
use Rattle.json_text.proofs.Agree.{ValueAgrees, read_facts}
use Rattle.reader.proofs.ArrayLoop.{past_rows}
use Rattle.json_text.proofs.Decoded.{length_rows_of}
use Rattle.json_text.proofs.Laws.{ok_injective, same_bytes_true}
use Rattle.leaves.proofs.Loops.{Naming, closes_of, joined_of, keys_more, member_ends, member_fails, member_on, object_opens, object_shut, one_more, size_of_more, value_refused}
use Rattle.leaves.proofs.MemberName.{byte_inside, no_quote, skip_past}
use Rattle.tokens.proofs.Scans.{byte_not, byte_was}
use Rattle.json_text.proofs.Sound.{bind_inv, new_name_sound, one_node_sound}
use Rattle.json_text.proofs.Texts.{text_read}
use Rattle.leaves.proofs.Values.{told_bad}
use Rattle.json_text.proofs.Walk.{members_are}
use Rattle.reader.proofs.Words.{words_member, words_obj}
use Rattle.strings.specs.Answers.{refusal_of}
use Rattle.json_text.specs.Bytes.{Bytes, is_one_of, same_bytes}
use Rattle.json_text.specs.Fits.{Fits, FitsOf, Text, fits_empty, fits_field}
use Rattle.json_text.specs.Held.{Begins, FieldsAt, HasMembers}
use Rattle.json_text.specs.Json.{Value, keys}
use Rattle.leaves.specs.Laid.{Continues, NameLaid, NameTold, Opens, ParsedTold, RowLaid, Rows, earlier}
use Rattle.json_text.specs.Limits.{max_depth, max_nodes}
use Rattle.json_text.specs.Naming.{Grown, NameSpan, Noted, hashed, name_at}
use Rattle.json_text.specs.Placing.{Placed, Placer, byte_at, chars_at, fields_at, obj_at, read_at, skip_at}
use Rattle.json_text.specs.Reader.{Parsed, new_name, one_node}
use Rattle.json_text.specs.Refusal.{Refusal, Result, not_json, ok, refused, ◌>>=◌}
use Rattle.json_text.specs.Spans.{Fields, Node, deep, deep_of, erase_of, field, no_field, obj, size_of, text_at}
use Rattle.json_text.specs.Table.{rows_of}
use Rattle.strings.specs.declared.answer.Place.{Place}
use Rattle.strings.specs.declared.answer.Refusal.{Refusal as Why}
use Rattle.strings.specs.declared.answer.Refusal.TheVariants as whys
use Rattle.leaves.specs.declared.bracket.Sep.{Sep}
use Rattle.leaves.specs.declared.bracket.Sep.TheVariants as seps

-- ---- a name that was refused, and one that was read
both_refuse : {A B C : Type 0} (x : Result A) (f : A → Result B) (g : A → Result C) (r : Refusal) → (x >>= f) ≡ refused r →
    ((a : A) → f a ≡ refused r → g a ≡ refused r) → (x >>= g) ≡ refused r
both_refuse (ok a) f g r e k = k a e
both_refuse {A} {B} {C} (refused q) f g r e k = let z : q ≡ r = cc in ap {B = Result C} (λ y. refused y) z

name_same : (k : Bytes) (xs ys : List Bytes) → is_one_of k xs ≡ is_one_of k ys → new_name k xs [] ≡ new_name k ys []
unfolding new_name
name_same k xs ys e = rw (e, new_name)

module _ (s : Bytes) (val : Placer Node) (names keyed : List Bytes) (same : (k : Bytes) → is_one_of k names ≡ is_one_of k keyed) (n at : ℕ) where
  fields_refused : (m : ℕ) (r : Refusal) → name_at s keyed n at ≡ refused r → fields_at s val (suc m) names n at ≡ refused r
  unfolding name_at fields_at
  fields_refused m r e =
      both_refuse (byte_at 34 s at) _ _ r e λ a e₁.
      both_refuse (one_node n) _ _ r e₁ λ _ e₂.
      both_refuse (chars_at s a) _ _ r e₂ λ x e₃.
      rw (name_same (text_at s a) names keyed (same (text_at s a)))
      (both_refuse (new_name (text_at s a) keyed []) _ _ r e₃ λ _ e₄.
      both_refuse (byte_at 58 s (skip_at s x)) _ _ r e₄ λ u e₅.
      let z : ◌≡◌ {A = ℕ} 0 1 = cc in absurd (omega arith))

-- what is known of a name that was read
pub record NameFacts (s : Bytes) (names : List Bytes) (n at : ℕ) (x : NameSpan) : Type 0 where
  pub is_quote : get_or s at 0 ≡ 34
  pub room : n < max_nodes
  pub end : ℕ
  pub is_text : chars_at s (at + 1) ≡ ok end
  pub is_new : is_one_of (text_at s (at + 1)) names ≡ false
  pub is_colon : get_or s (skip_at s end) 0 ≡ 58
  pub stop : x.stop ≡ end - 1
  pub value : x.value ≡ skip_at s (skip_at s end + 1)

pub name_facts : (s : Bytes) (names : List Bytes) (n at : ℕ) (x : NameSpan) → name_at s names n at ≡ ok x → NameFacts s names n at x
unfolding name_at
name_facts s names n at x e =
    let i = bind_inv (byte_at 34 s at) _ e in
    let j = bind_inv (one_node n) _ i.2 in
    let k = bind_inv (chars_at s i.0) _ j.2 in
    let l = bind_inv (new_name (text_at s i.0) names []) _ k.2 in
    let m = bind_inv (byte_at 58 s (skip_at s k.0)) _ l.2 in
    let a = byte_was 34 s at i.0 i.1 in
    let u = byte_was 58 s (skip_at s k.0) m.0 m.1 in
    let o = one_node_sound n j.0 j.1 in
    let z = ok_injective m.2 in
    record {
      is_quote = a.0;
      room = omega (arith, o.0, o.1);
      end = k.0;
      is_text = sym (ap (chars_at s) a.1) ∙ k.1;
      is_new = sym (ap (λ (q : ℕ). is_one_of (text_at s q) names) a.1) ∙ (new_name_sound (text_at s i.0) names [] l.0 l.1).0;
      is_colon = u.0;
      stop = sym (ap (λ (y : NameSpan). y.stop) z);
      value = sym (ap (λ (y : NameSpan). y.value) z) ∙ ap (skip_at s) u.1;
    }

-- ---- one member more
fits_more : {s : Bytes} {a e : ℕ} {t : Node} (fs : Fields) → FitsOf s fs → Text s a e → Fits s t → FitsOf s (joined_of fs (field a e t no_field))
unfolding joined_of
fits_more no_field f x y = fits_field x y fits_empty
fits_more (field b c u fs) (fits_field p q r) x y = fits_field p q (fits_more fs r x y)

deep_more : (fs : Fields) (a e : ℕ) (t : Node) (left : ℕ) → deep_of fs ≤ left → deep t ≤ left → deep_of (joined_of fs (field a e t no_field)) ≤ left
unfolding joined_of deep_of
deep_more no_field a e t left h k = omega arith
deep_more (field b c u fs) a e t left h k = omega (arith, deep_more fs a e t left (omega arith) k)

noted_more : (s : Bytes) (seen seen' : List Bool) (object : ℕ) (fs : Fields) (a e : ℕ) (t : Node) → Noted seen object (keys (erase_of s fs)) →
    Grown seen seen' → get_or seen' (hashed object (text_at s a)) false ≡ true →
    Noted seen' object (keys (erase_of s (joined_of fs (field a e t no_field))))
unfolding is_one_of
noted_more s seen seen' object fs a e t f g h k q =
    go (same_bytes k (text_at s a)) refl
    (sym (one_more k (text_at s a) (keys (erase_of s fs))) ∙ ap (is_one_of k) (sym (keys_more s fs a e t)) ∙ q)
  where
    go : (b : Bool) → same_bytes k (text_at s a) ≡ b → is_one_of k (text_at s a ∷ keys (erase_of s fs)) ≡ true → get_or seen' (hashed object k) false ≡ true
    go true p o = ap (λ (x : Bytes). get_or seen' (hashed object x) false) (same_bytes_true k (text_at s a) p) ∙ h
    go false p o = g (hashed object k) (f k (rw (p, is_one_of) at o))

-- rows that were written are what the table begins with there
begins : (w₀ w vs : List ℕ) (i : ℕ) → w ≡ sets w₀ i vs → i + length vs ≤ length w₀ → Begins w i vs
begins w₀ w vs i e h = (
  drop (i + length vs) w₀,
  ap (drop i) (e ∙ sets-eq vs w₀ i h ∙ append_assoc (take i w₀) vs (drop (i + length vs) w₀)) ∙
      drop_at (take i w₀) (vs ++ drop (i + length vs) w₀) i (length-take-le i w₀ (omega arith)),
)

-- ---- the loop
module _ (s : Bytes) (left at n₀ : ℕ) where
  abbrev whole : Result (Placed Node)
  whole = obj_at s (λ m a. read_at left s m a) n₀ at

  unfoldable pub ObjectNext : Fields → ℕ → Fallible Sep Why → Type 0
  ObjectNext fs n (Err q) = (q ≡ whys.NotJson) × (whole ≡ refused not_json)
  ObjectNext fs n (Ok (seps.Shut e)) = (whole ≡ ok (record { tree = obj at e fs; place = e; count = n })) × (e ≤ length s)
  ObjectNext fs n (Ok (seps.On here)) = Naming s (λ m a. read_at left s m a) at whole fs here n × (at < here) × (here ≤ length s)

  -- the members read so far, their rows and marks, and what the separator decides
  pub record ObjectState (w₀ w : List ℕ) (seen : List Bool) (n : ℕ) (sep : Fallible Sep Why) : Type 0 where
    pub fs : Fields
    pub words : w ≡ sets w₀ (3 * (n₀ + 1)) (rows_of fs (n₀ + 1))
    pub count : n ≡ n₀ + 1 + size_of fs
    pub below : n ≤ max_nodes
    pub fits : FitsOf s fs
    pub shallow : deep_of fs ≤ left
    pub noted : Noted seen n₀ (keys (erase_of s fs))
    pub next : ObjectNext fs n sep

  pub object_starts : (w : List ℕ) (seen : List Bool) (sep : Sep) → at < length s → n₀ < max_nodes → Opens s at 125 sep → ObjectState w w seen (n₀ + 1) (Ok sep)
  unfolding ObjectNext Opens rows_of size_of deep_of erase_of is_one_of
  object_starts w seen sep inside room o =
      record {
        fs = no_field;
        words = refl;
        count = omega arith;
        below = omega arith;
        fits = fits_empty;
        shallow = omega arith;
        noted = λ k q. none q;
        next = go sep o;
      }
    where
      none : {X : Type 0} → false ≡ true → X
      none q = let z : ◌≡◌ {A = ℕ} 0 1 = cc in absurd (omega arith)

      go : (sep : Sep) → Opens s at 125 sep → ObjectNext no_field (n₀ + 1) (Ok sep)
      go (seps.Shut e) o = (
        object_shut s (λ m a. read_at left s m a) n₀ at room o.0 ∙
            ap {B = Result (Placed Node)} (λ (k : ℕ). ok (record { tree = obj at k no_field; place = k; count = n₀ + 1 })) (sym o.1),
        o.2,
      )
      go (seps.On h) o = (
        subst (λ (k : ℕ). Naming s (λ m a. read_at left s m a) at whole no_field k (n₀ + 1)) (sym o.1)
            (object_opens s (λ m a. read_at left s m a) n₀ at room o.0 (omega (arith, o.1, o.2))),
        o.2,
        o.3,
      )

  module _ {w₀ w : List ℕ} {seen : List Bool} {n : ℕ} where
    pub object_long : {sep : Fallible Sep Why} → ObjectState w₀ w seen n sep → length w ≡ length w₀
    object_long l = ap length l.words ∙ length-sets w₀ (3 * (n₀ + 1)) (rows_of l.fs (n₀ + 1))

    object_still : {sep : Fallible Sep Why} → ObjectState w₀ w seen n sep → drop 12288 w ≡ drop 12288 w₀
    object_still l = past_rows w₀ w (rows_of l.fs (n₀ + 1)) (3 * (n₀ + 1)) l.words (omega (arith, length_rows_of l.fs (n₀ + 1), l.count, l.below))

    pub object_neither : {q : Why} → ObjectState w₀ w seen n (Err q) → ParsedTold whole w₀ w n₀ (Err q)
    unfolding ObjectNext
    object_neither l = rw l.next.0 (told_bad whole w₀ w n₀ whys.NotJson l.next.1 (object_still l))

    pub object_end : {e : ℕ} → ObjectState w₀ w seen n (Ok (seps.Shut e)) → e ≤ length s
    unfolding ObjectNext
    object_end l = l.next.1

    pub object_laid : {w' : List ℕ} {e : ℕ} {p : Place} → ObjectState w₀ w seen n (Ok (seps.Shut e)) → RowLaid w w' n₀ 6 at e n e p → ParsedTold whole w₀ w' n₀ (Ok p)
    unfolding ObjectNext ParsedTold
    object_laid {w'} {e} l r = rw r.answer (record { tree = obj at e l.fs; read = l.next.0; words = words_obj w₀ w w' n₀ n l.fs at e l.words r.words l.count })

    -- the members stand in the table
    module _ {sep : Fallible Sep Why} (l : ObjectState w₀ w seen n sep) (long : 12288 ≤ length w₀) (depth : left ≤ max_depth) where
      held : FieldsAt s w left (n₀ + 1) n l.fs
      held =
          record {
            words = begins w₀ w (rows_of l.fs (n₀ + 1)) (3 * (n₀ + 1)) l.words
                (omega (arith, length_rows_of l.fs (n₀ + 1), l.count, l.below));
            upto = l.count;
            shallow = l.shallow;
            fits = l.fits;
          }

      pub object_members : HasMembers s w (n₀ + 1) n
      object_members = record { left = left; members = record { tree = l.fs; held = held; depth = depth; most = l.below } }

      pub object_earlier : earlier s w n₀ n ≡ keys (erase_of s l.fs)
      unfolding earlier
      object_earlier = ap keys (members_are s w depth held)

      pub object_noted : Noted seen n₀ (earlier s w n₀ n)
      object_noted k q = l.noted k (ap (is_one_of k) (sym object_earlier) ∙ q)

    module _ {here : ℕ} (l : ObjectState w₀ w seen n (Ok (seps.On here))) (long : 12288 ≤ length w₀) (depth : left ≤ max_depth) where
      naming : Naming s (λ m a. read_at left s m a) at whole l.fs here n
      unfolding ObjectNext
      naming = l.next.0

      pub object_here : here ≤ length s
      unfolding ObjectNext
      object_here = l.next.2

      pub object_name_bad : (w' : List ℕ) (r : Why) → name_at s (earlier s w n₀ n) n here ≡ refused (refusal_of r) → w' ≡ w → ParsedTold whole w₀ w' n₀ (Err r)
      unfolding closes_of fields_at
      object_name_bad w' r e q = told_bad whole w₀ w' n₀ r (naming.rest ∙ go naming.fuel naming.enough) (ap (drop 12288) q ∙ object_still l)
        where
          is : name_at s (keys (erase_of s l.fs)) n here ≡ refused (refusal_of r)
          is = ap (λ (xs : List Bytes). name_at s xs n here) (sym (object_earlier l long depth)) ∙ e

          past : length s ≤ here → not_json ≡ refusal_of r
          past h = cc (no_quote s (keys (erase_of s l.fs)) n here not_json (byte_not 34 s here (λ z. let y : get_or s here 0 ≡ 0 = get_or-eq_default s 0 h in omega arith)), is)

          go : (m : ℕ) → length s ≤ m + here → closes_of at l.fs (fields_at s (λ m a. read_at left s m a) m naming.names n here) ≡ refused (refusal_of r)
          go zero h = ap {B = Result (Placed Node)} (λ y. refused y) (past (omega arith))
          go (suc m) h = ap (closes_of at l.fs) (fields_refused s (λ m a. read_at left s m a) naming.names (keys (erase_of s l.fs)) naming.named n here m (refusal_of r) is)

      module _ {w₁ : List ℕ} {seen₁ : List Bool} {value : ℕ} (a : NameLaid s w w₁ seen seen₁ n₀ here n value) where
        facts : NameFacts s (keys (erase_of s l.fs)) n here (record { stop = a.stop; value = value })
        facts =
            name_facts s (keys (erase_of s l.fs)) n here (record { stop = a.stop; value = value })
            (ap (λ (xs : List Bytes). name_at s xs n here) (sym (object_earlier l long depth)) ∙ a.read)

        inside : here < length s
        inside = byte_inside s here 34 facts.is_quote (omega arith)

        pub object_value_here : (value ≤ length s) × (n + 1 ≤ max_nodes)
        object_value_here = (
          (skip_past s (skip_at s facts.end + 1) value
              (omega (arith, byte_inside s (skip_at s facts.end) 58 facts.is_colon (omega arith))) facts.value).1,
          omega (arith, facts.room),
        )

        pub object_value_long : length w₁ ≡ length w₀
        object_value_long = ap length a.words ∙ length-sets w (3 * n) ((8 * (here + 1) + 4) ∷ a.stop ∷ (n + 1) ∷ []) ∙ object_long l

        pub object_value_bad : (w₂ : List ℕ) (r : Why) → ParsedTold (read_at left s (n + 1) value) w₁ w₂ (n + 1) (Err r) →
            ParsedTold whole w₀ w₂ n₀ (Err r)
        unfolding ParsedTold
        object_value_bad w₂ r p = (
          value_refused naming facts.is_quote inside facts.room facts.end facts.is_text facts.is_new facts.is_colon
              (refusal_of r) (ap (read_at left s (n + 1)) (sym facts.value) ∙ p.0),
          p.1 ∙ past_rows w w₁ ((8 * (here + 1) + 4) ∷ a.stop ∷ (n + 1) ∷ []) (3 * n) a.words (omega (arith, facts.room)) ∙ object_still l,
        )

        module _ {w₂ : List ℕ} {p : Place} (r : Rows (read_at left s (n + 1) value) w₁ w₂ (n + 1) p) where
          abbrev v : Placed Node
          v = record { tree = r.tree; place = p.at; count = p.node }

          read : (q : Parsed Value) × ValueAgrees s left (n + 1) value q v
          read = read_facts left s (n + 1) value v object_value_here.0 r.read

          is_v : read_at left s (n + 1) (skip_at s (skip_at s facts.end + 1)) ≡ ok v
          is_v = ap (read_at left s (n + 1)) (sym facts.value) ∙ r.read

          pub object_past : (here < p.at) × (p.at ≤ length s)
          object_past =
              let t = text_read s (here + 1) facts.end (omega (arith, inside)) facts.is_text in
              let i = skip_past s facts.end (skip_at s facts.end) t.2 refl in
              let j = skip_past s (skip_at s facts.end + 1) value (omega (arith, byte_inside s (skip_at s facts.end) 58 facts.is_colon (omega arith))) facts.value in
              (omega (arith, t.1, i.0, j.0, read.1.past), read.1.upto)

          abbrev more : Fields
          more = joined_of l.fs (field (here + 1) (facts.end - 1) r.tree no_field)

          pub object_on : (seen₂ : List Bool) → Grown seen₁ seen₂ → (sep : Fallible Sep Why) → Continues s p.at 125 sep → ObjectState w₀ w₂ seen₂ p.node sep
          unfolding ObjectNext Continues
          object_on seen₂ g sep c = record {
            fs = more;
            words =
                words_member w₀ w w₂ (n₀ + 1) n l.fs (here + 1) (facts.end - 1) r.tree w₁ l.words
                (a.words ∙ ap (λ (i : ℕ). sets w (3 * n) ((8 * (here + 1) + 4) ∷ i ∷ (n + 1) ∷ [])) facts.stop) r.words l.count;
            count = omega (arith, l.count, read.1.counted, size_of_more l.fs (here + 1) (facts.end - 1) r.tree);
            below = read.1.most;
            fits = fits_more l.fs l.fits (text_read s (here + 1) facts.end (omega (arith, inside)) facts.is_text).0 read.1.fits;
            shallow = deep_more l.fs (here + 1) (facts.end - 1) r.tree left l.shallow read.1.shallow;
            noted = noted_more s seen seen₂ n₀ l.fs (here + 1) (facts.end - 1) r.tree l.noted (λ i q. g i (a.grown i q)) (g _ a.marked);
            next = go sep c;
          }
            where
              go : (sep : Fallible Sep Why) → Continues s p.at 125 sep → ObjectNext more p.node sep
              go (Err q) c = (c.0, member_fails naming facts.is_quote inside facts.room facts.end facts.is_text facts.is_new facts.is_colon v is_v c.1 c.2)
              go (Ok (seps.Shut e)) c = (
                member_ends naming facts.is_quote inside facts.room facts.end facts.is_text facts.is_new facts.is_colon
                    v is_v c.0 ∙
                    ap {B = Result (Placed Node)} (λ (i : ℕ). ok (record { tree = obj at i more; place = i; count = p.node }))
                    (sym c.1),
                c.2,
              )
              go (Ok (seps.On h)) c = (
                subst (λ (i : ℕ). Naming s (λ m a. read_at left s m a) at whole more i p.node) (sym c.1)
                    (member_on naming facts.is_quote inside facts.room facts.end facts.is_text facts.is_new facts.is_colon
                    v is_v c.0 (omega (arith, c.1, c.2, object_past.0))),
                omega (arith, c.2, object_past.0, l.next.1),
                c.3,
              )

-- at a turn of the loop, with the marks that the members added
pub record ObjectTurn (s : Bytes) (left at n₀ : ℕ) (w₀ w : List ℕ) (seen₀ seen : List Bool) (n : ℕ) (sep : Sep) : Type 0 where
  pub state : ObjectState s left at n₀ w₀ w seen n (Ok sep)
  pub grown : Grown seen₀ seen
  pub marks : length seen ≡ length seen₀

pub object_turn : {s : Bytes} {left at n₀ : ℕ} {w₀ w : List ℕ} {seen₀ seen : List Bool} {n : ℕ} {sep : Sep} (sep' : Sep) →
    ObjectTurn s left at n₀ w₀ w seen₀ seen n sep → sep ≡ sep' → ObjectState s left at n₀ w₀ w seen n (Ok sep')
object_turn {s} {left} {at} {n₀} {w₀} {w} {seen₀} {seen} {n} sep' l e = subst (λ (x : Sep). ObjectState s left at n₀ w₀ w seen n (Ok x)) e l.state

-- what an answer that is known says
pub name_was_bad : (s : Bytes) (w w' : List ℕ) (seen seen' : List Bool) (object at n : ℕ) (q : Why) → NameTold s w w' seen seen' object at n (Err q) →
    (name_at s (earlier s w object n) n at ≡ refused (refusal_of q)) × (w' ≡ w) × (seen' ≡ seen)
unfolding NameTold
name_was_bad s w w' seen seen' object at n q t = t

pub name_was : (s : Bytes) (w w' : List ℕ) (seen seen' : List Bool) (object at n value : ℕ) →
    NameTold s w w' seen seen' object at n (Ok value) → NameLaid s w w' seen seen' object at n value
unfolding NameTold
name_was s w w' seen seen' object at n value t = t
