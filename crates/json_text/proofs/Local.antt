-- What the readers of values, arrays and objects make of a text: each refuses it at a byte, whatever follows, and what stands before that byte can be completed.
-- Assumes nothing.
use mathlib.Core.Bool.{Bool, false, false≢true, true}
use mathlib.Core.List.{List, append_assoc, append-nil, [], ◌++◌, ◌∷◌}
use mathlib.Core.Logic.{inl, inr, ◌⊎◌, ◌≢◌}
use Rattle.std.specs.Prelude.{Option, None, Some}
use mathlib.Core.Path.{ap, refl, subst, sym, ◌∙◌, ◌≡◌}
use Prim.Native.Nat.{suc, zero, ℕ, ◌+◌, ◌-◌, ◌≤◌}
use native.Mathlib.Omega.{arith}
use lib.Dec.{eqb}
use lib.ListN.{length}
use Rattle.json_text.proofs.Ascii.{all_ascii, is_ascii}
use Rattle.json_text.proofs.Complete.{ws_length}
use Rattle.json_text.proofs.Counting.{clear, digit_mark}
use Rattle.json_text.proofs.Laws.{bind_refused, bind_same, eqb_no, eqb_true}
use Rattle.json_text.proofs.Named.{
  Member,
  ValueLocal,
  ValueThen,
  Valued,
  bind_through,
  member_entered,
  member_local,
  member_opens,
  member_takes,
  member_of,
  node_local,
  starts,
  value_entered,
  value_opens,
  value_takes,
}
use Rattle.json_text.proofs.Outcome.{Follows, Outcome, Quiet, all_read, bind, cut, dead, done, early, ext, moved, nothing, quiet_at, past, same, step, stopped, took, weaken}
use Rattle.json_text.proofs.Quoted.{chars_local, chars_of}
use Rattle.json_text.proofs.Separated.{Closed, Lead, Loop, Spaced, closing, leading, loop_local, loop_over, loop_steps, parsed_of}
use Rattle.json_text.proofs.Sound.{
  ParserSound,
  SomeElements,
  SomeMembers,
  StartView,
  array_start,
  between_in,
  between_not,
  comma_elements,
  comma_members,
  false_start,
  first_view,
  no_start,
  null_start,
  number_of,
  number_start,
  object_start,
  skip_ws,
  some_elements_lem,
  some_members_lem,
  some_elements,
  some_members,
  start_view,
  text_start,
  true_start,
  value_sound,
  ws_at,
}
use Rattle.json_text.proofs.Sparing.{
  Sparing,
  SparingIn,
  SparingOf,
  array_sparing,
  bool_sparing,
  cons_sparing,
  empty_sparing,
  member_sparing,
  nil_sparing,
  null_sparing,
  number_sparing,
  object_sparing,
  text_sparing,
}
use Rattle.json_text.proofs.Tokens.{Completes, FromPlace, Takes, behind, digits_local, finish, place_opens, regroup, word_local}
use Rattle.json_text.specs.Bytes.{Bytes, ascii, between, choose}
use Rattle.json_text.specs.Fault
use Rattle.json_text.specs.Fault.{Continues}
use Rattle.json_text.specs.Grammar
use Rattle.json_text.specs.Grammar.{Spells, Structural, Ws, no_space, structural}
use Rattle.json_text.specs.Json.{Members, Value, Values, array, bool, cons, empty, member, nil, null, number, object, text}
use Rattle.json_text.specs.Limits
use Rattle.json_text.specs.Numerals
use Rattle.json_text.specs.Numerals.{is_stop}
use Rattle.json_text.specs.Reader
use Rattle.json_text.specs.Reader.{Parsed, Parser, fields, items, more}
use Rattle.json_text.specs.Refusal.{Result, not_json, ok, refused, too_deep, ◌>>=◌}
use Rattle.json_text.specs.Scan.{expect, skip, word}
use Rattle.json_text.specs.Tally
use Rattle.json_text.specs.Tally.{Tally, brackets_open, further, numeral, tallied, tally}

-- the loops of arrays and objects, over the reader of values
abbrev ItemsRule : ℕ → Bool → Values → Bytes → Bytes → Type 0
ItemsRule left i vs s r = SomeElements vs s r × (i ≡ true → SparingIn left vs)

abbrev FieldsRule : ℕ → List Bytes → Bool → Members → Bytes → Bytes → Type 0
FieldsRule left names i ms s r = SomeMembers ms s r × (i ≡ true → SparingOf left names ms)

module _ (left : ℕ) (val : Parser Value) (vlocal : ValueLocal left val) (vsound : ParserSound left val)
    (vover : (n : ℕ) → val n [] ≡ refused not_json) (depth : ℕ) (deep : depth + left ≡ Limits.max_depth) where
  items_loop : Loop depth 93 (λ v. cons v nil) cons (λ (a : Unit {0}) e. a) (λ a n s. val n s) (λ f a n s. items val f n s) (λ a. Valued left) (λ a. ItemsRule left)
  unfolding items
  items_loop =
      record {
        none_left = λ a n s. refl;
        one_more = λ f a n s. refl;
        closed_ascii = refl;
        closes = λ x. refl;
        local = λ a n s few. vlocal n depth s few deep;
        entered = λ a n u b e. value_entered left val vlocal vsound vover n depth u b e;
        over = λ a n. vover n;
        opens = λ a. value_opens left true;
        loose = λ a i v s r h. (h.0, λ e. h.1 refl);
        takes = λ a n s p e. value_takes left val vlocal vsound vover n s p e;
        last = λ a i v s r h. (some_elements h.0 Grammar.last_element, λ e. cons_sparing left v nil (h.1 e) (nil_sparing left));
        further = λ a i v vs s t u r h c p. (some_elements h.0 (comma_elements c p.0), λ e. cons_sparing left v vs (h.1 e) (p.1 e));
      }

  fields_loop : Loop depth 125 (λ e. member e.0 e.1 empty) (λ e ms. member e.0 e.1 ms)
      (λ (names : List Bytes) e. e.0 ∷ names) (member_of left val vlocal vsound vover) (λ f names n s. fields val f names n s) (Member left)
      (FieldsRule left)
  unfolding fields member_of expect
  fields_loop =
      record {
        none_left = λ a n s. refl;
        one_more =
            λ f names n s. bind_through (expect 34 s) _ _ _ λ t. bind_through (Reader.one_node n) _ _ _ λ m. bind_through (chars_of t) _ _ _ λ
            k. bind_through (Reader.new_name k.got names k.rest) _ _ _ λ r. bind_through (expect 58 (skip r)) _ _ _ λ u. bind_through
            (val m (skip u)) _ _ _ λ v. refl;
        closed_ascii = refl;
        closes = λ x. refl;
        local = λ names n s few. member_local left val vlocal vsound vover names n depth s few deep;
        entered = λ names n u b e. member_entered left val vlocal vsound vover names n depth u b e;
        over = λ names n. refl;
        opens = member_opens left val vlocal vsound vover;
        loose = λ names i e s r h. (h.0, h.1, h.2, h.3, (h.4.0, λ q. h.4.1 refl), λ q. h.5 refl);
        takes = member_takes left val vlocal vsound vover;
        last =
            λ names i e s r h. (
              some_members h.2 h.3 h.4.0 Grammar.last_member,
              λ q. member_sparing left names e.0 e.1 empty (h.5 q)
                  (h.4.1 q) (empty_sparing left (e.0 ∷ names)),
            );
        further =
            λ names i e ms s t u r h c p. (
              some_members h.2 h.3 h.4.0 (comma_members c p.0),
              λ q. member_sparing left names e.0 e.1 ms (h.5 q)
                  (h.4.1 q) (p.1 q),
            );
      }

-- behind an opening bracket: a closing one, or entries and then a closing one
abbrev Entered : {L : Type 0} → Value → (L → Value) → ℕ → Result (Parsed L) → Option Bytes → Result (Parsed Value)
Entered none_in wrap m x o =
    elim o [
      | Some t ↦ ok (record { tree = none_in; rest = skip t; count = m })
      | None ↦
          (x >>= λ l. ok (record { tree = wrap l.tree; rest = l.rest; count = l.count }))
    ]

abbrev Body : {L : Type 0} → ℕ → Value → (L → Value) → Parser L → Parser Value
Body end none_in wrap loop m y = Entered none_in wrap m (loop m y) (Reader.is_closed end y)

-- what stands behind an opening bracket spells a value, whatever spaces stand before the bracket
abbrev Inner : ℕ → ℕ → Bool → Value → Bytes → Bytes → Type 0
Inner left byte i v s r = (z : Bytes) → Structural byte z s → Valued left i v z r

abbrev InnerThen : ℕ → ℕ → Value × ℕ → Bytes → Bytes → Type 0
InnerThen left byte b s r = Inner left byte true b.0 s r

-- a bracket's two bytes, its value without entries and with them
record Bracket {L : Type 0} (left depth byte end : ℕ) (none_in : Value) (wrap : L → Value) (loop : Parser L) (S : Bool → L → Bytes → Bytes → Type 0) : Type 0 where
  local : (m : ℕ) (y : Bytes) → m ≤ Limits.max_nodes → Outcome (clear m (depth + 1)) parsed_of (loop m) (λ i. Completes (Spaced (S i))) (Takes (Closed end (S true))) y
  over : (m : ℕ) → loop m [] ≡ refused not_json
  counts : (n : ℕ) → further (clear n depth) byte ≡ clear (n + 1) (depth + 1)
  closed_ascii : is_ascii end ≡ true
  alone : (i : Bool) (z s r : Bytes) → Structural byte z s → Structural end s r → Valued left i none_in z r
  filled : (i : Bool) (l : L) (z s t r : Bytes) → Structural byte z s → S i l s t → Structural end t r → Valued left i (wrap l) z r

module _ {L : Type 0} (left depth byte end : ℕ) (none_in : Value) (wrap : L → Value) (loop : Parser L)
    (S : Bool → L → Bytes → Bytes → Type 0) (laws : Bracket left depth byte end none_in wrap loop S) where
  end_plain : all_ascii (end ∷ []) ≡ true
  end_plain = rw (laws.closed_ascii, all_ascii) refl

  inner_opens : Completes (Inner left byte true) []
  inner_opens = record { end = end ∷ []; what = none_in; spelled = λ r z h. laws.alone true z (end ∷ r) r h (structural no_space no_space); plain = end_plain }

  body_over : (m : ℕ) → Body end none_in wrap loop m [] ≡ refused not_json
  body_over m = bind_refused _ (laws.over m)

  body_local : (m : ℕ) (y : Bytes) → m ≤ Limits.max_nodes →
      Outcome (clear m (depth + 1)) parsed_of (Body end none_in wrap loop m) (λ i. Completes (Inner left byte i))
      (Takes (InnerThen left byte)) y
  body_local m [] few = cut (body_over m) inner_opens
  body_local m (c ∷ t) few = go (eqb c end) refl
    where
      entered : (x : Bytes) → eqb c end ≡ false → Follows (c ∷ t) x → Body end none_in wrap loop m x ≡
          (loop m x >>= λ l. ok (record { tree = wrap l.tree; rest = l.rest; count = l.count }))
      entered x q nothing = refl
      entered x q same = rw (q, Body, Reader.is_closed) refl

      go : (b : Bool) → eqb c end ≡ b →
          Outcome (clear m (depth + 1)) parsed_of (Body end none_in wrap loop m) (λ i. Completes (Inner left byte i))
          (Takes (InnerThen left byte)) (c ∷ t)
      go true q =
          step c t (subst (λ (x : ℕ). is_ascii x ≡ true) (sym (eqb_true c end q)) laws.closed_ascii)
          (λ x. rw (q, Body, Reader.is_closed) refl)
          (closing (none_in, m) t λ sp h y z o. laws.alone true z (c ∷ (sp ++ y)) y o
          (structural (ws_at (ap (λ (d : ℕ). d ∷ (sp ++ y)) (eqb_true c end q)) no_space) (h y)))
      go false q =
          ext (λ x h. entered x q h) (bind _ (c ∷ t) (laws.local m (c ∷ t) few) (λ i g. finish (end ∷ []) end_plain wrap λ l z r h w o.
          laws.filled i l w z h.0 r o h.1 (structural h.2 no_space)) (λ b. all_read (wrap b.0, b.1)) λ b used r e h o.
          done (wrap b.0, b.1) r (rw (append-nil used) λ y z w. let j = h y in laws.filled true b.0 z (used ++ y) j.0 y w j.1 j.2))

  -- the bracket itself
  bracket_opens : Completes (Valued left true) (byte ∷ [])
  bracket_opens =
      record {
        end = end ∷ [];
        what = none_in;
        spelled = λ r. laws.alone true (byte ∷ end ∷ r) (end ∷ r) r (structural no_space no_space) (structural no_space no_space);
        plain = end_plain;
      }

  bracket_local : (n : ℕ) (P : Bytes → Result (Parsed Value)) (s : Bytes) → n ≤ Limits.max_nodes →
      ((x : Bytes) → P (byte ∷ x) ≡ (Reader.one_node n >>= λ m. Body end none_in wrap loop m (skip x))) → Quiet parsed_of (P []) →
      Reader.start byte ≢ Reader.start_nothing →
      Outcome (clear n depth) parsed_of P (λ i. Completes (Valued left i)) (Takes (ValueThen left)) (byte ∷ s)
  bracket_local n P s few h quiet begins =
      node_local byte n depth s (λ m x. Body end none_in wrap loop m (skip x)) few h quiet begins (value_opens left true) bracket_opens λ more.
      moved (laws.counts n) (weaken
      (λ i g. behind (byte ∷ []) (λ v. v) λ v z r k. k.2 (byte ∷ z) (structural no_space k.1))
      (λ b u k y. let j = k y in (y, j.2 (byte ∷ (u ++ y)) (structural no_space j.1), no_space))
      (leading {R = Inner left byte} {S = InnerThen left byte} (n + 1) (depth + 1) (Body end none_in wrap loop (n + 1)) s
      (quiet_at (body_over (n + 1)) early) λ sp r i. body_local (n + 1) r more))

-- the reader of what stands behind an opening bracket, seen from the bracket on
abbrev BracketLocal : ℕ → ℕ → Parser Value → Type 0
BracketLocal left byte arr =
    (n d : ℕ) (P : Bytes → Result (Parsed Value)) (s : Bytes) → n ≤ Limits.max_nodes → d + left ≡
    Limits.max_depth → ((x : Bytes) → P (byte ∷ x) ≡ arr n x) → Quiet parsed_of (P []) → Outcome (clear n d) parsed_of P
    (λ i. Completes (Valued left i)) (Takes (ValueThen left)) (byte ∷ s)

module _ (left : ℕ) (val : Parser Value) (vlocal : ValueLocal left val) (vsound : ParserSound left val) (vover : (n : ℕ) → val n [] ≡ refused not_json) where
  array_bracket : (d : ℕ) → d + suc left ≡ Limits.max_depth → Bracket (suc left) d 91 93 (array nil) array (λ m y. items val (length y) m y) (ItemsRule left)
  array_bracket d deep =
      record {
        local =
            λ m y. loop_local (d + 1) 93 (λ v. cons v nil) cons (λ a e. a) (λ a n s. val n s) (λ f a n s. items val f n s)
            (λ a. Valued left) (λ a. ItemsRule left) (items_loop left val vlocal vsound vover (d + 1) (omega arith)) tt m y;
        over =
            λ m. loop_over (d + 1) 93 (λ v. cons v nil) cons (λ a e. a) (λ a n s. val n s) (λ f a n s. items val f n s) (λ a. Valued left)
            (λ a. ItemsRule left) (items_loop left val vlocal vsound vover (d + 1) (omega arith)) 0 tt m;
        counts = λ n. refl;
        closed_ascii = refl;
        alone = λ i z s r o c. (Spells.is_array o Grammar.no_element c, λ e. array_sparing left nil (nil_sparing left));
        filled = λ i vs z s t r o p c. (Spells.is_array o (some_elements_lem p.0) c, λ e. array_sparing left vs (p.1 e));
      }

  array_local : BracketLocal (suc left) 91 (Reader.array_rest val)
  unfolding Reader.array_rest
  array_local n d P s few deep h quiet =
      bracket_local (suc left) d 91 93 (array nil) array (λ m y. items val (length y) m y) (ItemsRule left) (array_bracket d deep) n P s
      few
      (λ x. h x ∙
      bind_same (Reader.one_node n) _ _ λ m i. ap (λ z. Entered (array nil) array m z (Reader.is_closed 93 (skip x)))
      (loop_steps (d + 1) 93 (λ v. cons v nil) cons (λ a e. a) (λ a n s. val n s) (λ f a n s. items val f n s) (λ a. Valued left)
      (λ a. ItemsRule left) (items_loop left val vlocal vsound vover (d + 1) (omega arith)) (length x) (length (skip x)) tt m
      (skip x) (ws_length (skip_ws x)) (omega arith))) quiet (starts Reader.start_array refl)

  object_bracket : (d : ℕ) → d + suc left ≡ Limits.max_depth → Bracket (suc left) d 123 125 (object empty) object (λ m y. fields val (length y) [] m y) (FieldsRule left [])
  object_bracket d deep =
      record {
        local =
            λ m y. loop_local (d + 1) 125 (λ e. member e.0 e.1 empty) (λ e ms. member e.0 e.1 ms) (λ names e. e.0 ∷ names)
            (member_of left val vlocal vsound vover) (λ f names n s. fields val f names n s) (Member left) (FieldsRule left)
            (fields_loop left val vlocal vsound vover (d + 1) (omega arith)) [] m y;
        over =
            λ m. loop_over (d + 1) 125 (λ e. member e.0 e.1 empty) (λ e ms. member e.0 e.1 ms) (λ names e. e.0 ∷ names)
            (member_of left val vlocal vsound vover) (λ f names n s. fields val f names n s) (Member left) (FieldsRule left)
            (fields_loop left val vlocal vsound vover (d + 1) (omega arith)) 0 [] m;
        counts = λ n. refl;
        closed_ascii = refl;
        alone = λ i z s r o c. (Spells.is_object o Grammar.no_member c, λ e. object_sparing left empty (empty_sparing left []));
        filled = λ i ms z s t r o p c. (Spells.is_object o (some_members_lem p.0) c, λ e. object_sparing left ms (p.1 e));
      }

  object_local : BracketLocal (suc left) 123 (Reader.object_rest val)
  unfolding Reader.object_rest
  object_local n d P s few deep h quiet =
      bracket_local (suc left) d 123 125 (object empty) object (λ m y. fields val (length y) [] m y) (FieldsRule left [])
      (object_bracket d deep) n P s few
      (λ x. h x ∙
      bind_same (Reader.one_node n) _ _ λ m i. ap (λ z. Entered (object empty) object m z (Reader.is_closed 125 (skip x)))
      (loop_steps (d + 1) 125 (λ e. member e.0 e.1 empty) (λ e ms. member e.0 e.1 ms) (λ names e. e.0 ∷ names)
      (member_of left val vlocal vsound vover) (λ f names n s. fields val f names n s) (Member left) (FieldsRule left)
      (fields_loop left val vlocal vsound vover (d + 1) (omega arith)) (length x) (length (skip x)) [] m (skip x)
      (ws_length (skip_ws x)) (omega arith))) quiet (starts Reader.start_object refl)

-- a value without brackets: one byte, what a reader takes behind it, and spaces
scalar_local : {X A : Type 0} {mk : X → Bytes → A} {take : Bytes → Result A} {G : Bool → Bytes → Type 0} {T : X → Bytes → Type 0} (left : ℕ)
    (P : Bytes → Result (Parsed Value)) (c n d : ℕ) (s : Bytes) → n ≤ Limits.max_nodes → (tree : X → Value) →
    ((b : X) → Sparing left (tree b)) → (f : ℕ → A → Result (Parsed Value)) →
    ((m : ℕ) (b : X) (x : Bytes) → f m (mk b x) ≡ ok (parsed_of (tree b, m) (skip x))) → Outcome (further (clear n d) c) mk take G T s →
    ((i : Bool) (g : Bytes) → G i g → Completes (Valued left i) (c ∷ g)) →
    ((b : X) (u : Bytes) → T b u → (y : Bytes) → Spells (tree b) (c ∷ (u ++ y)) y) →
    ((x : Bytes) → P (c ∷ x) ≡ (Reader.one_node n >>= λ m. take x >>= f m)) → Quiet parsed_of (P []) → Reader.start c ≢ Reader.start_nothing →
    Completes (Valued left true) (c ∷ []) → Outcome (clear n d) parsed_of P (λ i. Completes (Valued left i)) (Takes (ValueThen left)) (c ∷ s)
unfolding skip
scalar_local {take} left P c n d s few tree spare f e o opens takes h quiet begins g =
    node_local c n d s (λ m x. take x >>= f m) few h quiet begins (value_opens left true) g λ more.
    bind (f (n + 1)) s o opens (λ b. quiet_at (e (n + 1) b []) (all_read (tree b, n + 1))) λ b used r i t w.
    ext (λ x k. e (n + 1) b x)
    (closing (tree b, n + 1) r λ sp k y. regroup (λ (z : Bytes). ValueThen left (tree b, n + 1) (c ∷ z) y) used sp y
    (sp ++ y, (takes b used t (sp ++ y), λ q. spare b), k y))

word_value : (left : ℕ) (P : Bytes → Result (Parsed Value)) (c : ℕ) (w : Bytes) (v : Value) → all_ascii w ≡ true → Sparing left v →
    ((s r : Bytes) → s ≡ c ∷ (w ++ r) → Spells v s r) → (n d : ℕ) (s : Bytes) → n ≤ Limits.max_nodes →
    ((x : Bytes) → P (c ∷ x) ≡ (Reader.one_node n >>= λ m. word w x >>= λ t. ok (record { tree = v; rest = skip t; count = m }))) →
    Quiet parsed_of (P []) → Reader.start c ≢ Reader.start_nothing →
    Outcome (clear n d) parsed_of P (λ i. Completes (Valued left i)) (Takes (ValueThen left)) (c ∷ s)
word_value left P c w v a spare spell n d s few h quiet begins =
    scalar_local left P c n d s few (λ b. v) (λ b. spare) (λ m t. ok (record { tree = v; rest = skip t; count = m })) (λ m b x. refl)
    (word_local (further (clear n d) c) w a s)
    (λ i g. behind (c ∷ []) (λ x. v) λ x z r k. (spell (c ∷ z) r (ap {B = Bytes} (λ y. c ∷ y) k), λ q. spare))
    (λ b u t y. spell (c ∷ (u ++ y)) y (ap {B = Bytes} (λ z. c ∷ z) (t y))) h quiet begins
    (record { end = w; what = v; spelled = λ r. (spell (c ∷ (w ++ r)) r refl, λ q. spare); plain = a })

number_opens : (left c : ℕ) (i : Bool) (g : Bytes) → Completes (FromPlace (Numerals.first c)) g → Completes (Valued left i) (c ∷ g)
number_opens left c i g k =
    record {
      end = k.end;
      what = number (c ∷ (g ++ k.end));
      spelled = λ r. (
        Spells.is_number (number_of c (g ++ (k.end ++ r)) r (Numerals.first c) (first_view c) (k.spelled r))
            (ap {B = Bytes} (λ y. c ∷ y) (sym (append_assoc g k.end r))),
        λ q. number_sparing left (c ∷ (g ++ k.end)),
      );
      plain = k.plain;
    }

first_goes : (c : ℕ) → (c ≡ 45) ⊎ (between 48 57 c ≡ true) → is_stop (Numerals.first c) ≡ false
first_goes c (inl e) = rw e refl
first_goes c (inr e) = go (eqb c 45) (eqb c 48) (between 49 57 c) refl refl refl
  where
    go : (x y z : Bool) → eqb c 45 ≡ x → eqb c 48 ≡ y → between 49 57 c ≡ z → is_stop (Numerals.first c) ≡ false
    go true y z p q r = rw (p, choose) refl
    go false true z p q r = rw (p, q, choose) refl
    go false false true p q r = rw (p, q, r, choose) refl
    go false false false p q r =
        let b = between_in 48 57 c e in
        absurd (omega (arith, between_not 49 57 c r (omega (arith, eqb_no c 48 q))))

figure_first : (c n d : ℕ) → (c ≡ 45) ⊎ (between 48 57 c ≡ true) → further (clear n d) c ≡ tally (n + 1) d (numeral 1)
figure_first c n d (inl e) = ap (further (clear n d)) e
figure_first c n d (inr e) = ap (Tally.begin n d) (digit_mark c e)

-- a value, whatever is left of the brackets
module _ (left : ℕ) (arr obj : Parser Value) (alocal : BracketLocal left 91 arr) (olocal : BracketLocal left 123 obj) where
  with_local : ValueLocal left (Reader.value_with arr obj)
  unfolding Reader.value_with
  with_local n d [] few deep = cut refl (value_opens left true)
  with_local n d (c ∷ s) few deep = go (start_view c) refl
    where
      at : {b : ℕ} → c ≡ b →
          Outcome (clear n d) parsed_of (Reader.value_with arr obj n) (λ i. Completes (Valued left i)) (Takes (ValueThen left)) (b ∷ s) →
          Outcome (clear n d) parsed_of (Reader.value_with arr obj n) (λ i. Completes (Valued left i)) (Takes (ValueThen left)) (c ∷ s)
      at q o = subst (λ (b : ℕ). Outcome (clear n d) parsed_of (Reader.value_with arr obj n) (λ i. Completes (Valued left i)) (Takes (ValueThen left)) (b ∷ s)) (sym q) o

      go : {k : Reader.Start} → StartView c k → Reader.start c ≡ k →
          Outcome (clear n d) parsed_of (Reader.value_with arr obj n) (λ i. Completes (Valued left i)) (Takes (ValueThen left)) (c ∷ s)
      go (null_start q) i = at q (word_value left _ 110 (ascii "ull") null refl (null_sparing left) (λ z r e. Spells.is_null e) n d s few (λ x. refl) early (starts Reader.start_null refl))
      go (true_start q) i =
          at q
          (word_value left _ 116 (ascii "rue") (bool true) refl (bool_sparing left true) (λ z r e. Spells.is_true e) n d s few (λ x. refl)
          early (starts Reader.start_true refl))
      go (false_start q) i =
          at q
          (word_value left _ 102 (ascii "alse") (bool false) refl (bool_sparing left false) (λ z r e. Spells.is_false e) n d s few
          (λ x. refl) early (starts Reader.start_false refl))
      go (text_start q) i =
          at q
          (scalar_local left _ 34 n d s few text (text_sparing left)
          (λ m t. ok (record { tree = text t.got; rest = skip t.rest; count = m })) (λ m b x. refl)
          (chars_local (further (clear n d) 34) s)
          (λ j g k. behind (34 ∷ []) text (λ x z r h. (Spells.is_text (Grammar.string refl h.0), λ e. text_sparing left x)) (k 0))
          (λ b u t y. Spells.is_text (Grammar.string refl (t y))) (λ x. refl) early (starts Reader.start_text refl)
          (record {
            end = 34 ∷ [];
            what = text [];
            spelled = λ r. (Spells.is_text (Grammar.string refl (Grammar.close refl)), λ e. text_sparing left []);
            plain = refl;
          }))
      go (number_start q) i =
          let l = first_goes c q in
          scalar_local left _ c n d s few (λ b. number (c ∷ b)) (λ b. number_sparing left (c ∷ b))
          (λ m t. ok (record { tree = number (c ∷ t.got); rest = skip t.rest; count = m })) (λ m b x. refl)
          (moved (figure_first c n d q) (digits_local (n + 1) d 1 (Numerals.first c) l (Limits.max_number - 1) s refl))
          (number_opens left c)
          (λ b u t y. Spells.is_number (number_of c (u ++ y) y (Numerals.first c) (first_view c) (t.1 y))
          (ap {B = Bytes} (λ z. c ∷ (z ++ y)) t.0)) (λ x. rw (i, Reader.value_with) refl) early
          (subst (λ (k : Reader.Start). k ≢ Reader.start_nothing) (sym i) (starts Reader.start_number refl))
          (number_opens left c true [] (place_opens (Numerals.first c) l))
      go (array_start q) i = at q (alocal n d _ s few deep (λ x. refl) early)
      go (object_start q) i = at q (olocal n d _ s few deep (λ x. refl) early)
      go no_start i = stopped not_json c s (λ x. rw (i, Reader.value_with) refl) early (value_opens left true) dead

one_deeper : (byte n d : ℕ) → (byte ≡ 91) ⊎ (byte ≡ 123) → brackets_open (further (clear n d) byte) ≡ d + 1
one_deeper byte n d (inl e) = ap (λ (c : ℕ). brackets_open (further (clear n d) c)) e
one_deeper byte n d (inr e) = ap (λ (c : ℕ). brackets_open (further (clear n d) c)) e

no_bracket_lem : (byte end : ℕ) (v : Value) → is_ascii end ≡ true → (byte ≡ 91) ⊎ (byte ≡ 123) → ((r : Bytes) → Spells v (byte ∷ end ∷ r) r) →
    BracketLocal 0 byte Reader.no_bracket
no_bracket_lem byte end v a which spell n d P s few deep h quiet =
    stopped too_deep byte s h quiet (value_opens 0 true)
    (past (Fault.bracket which (omega arith) (one_deeper byte n d which ∙ omega arith))
    (record { end = end ∷ []; what = v; spelled = λ r. (spell r, λ e. absurd (false≢true e)); plain = rw (a, all_ascii) refl }))

value_over : (left n : ℕ) → Reader.value left n [] ≡ refused not_json
unfolding Reader.value
value_over zero n = refl
value_over (suc left) n = refl

pub value_local : (left : ℕ) → ValueLocal left (Reader.value left)
unfolding Reader.value
value_local zero =
    with_local 0 Reader.no_bracket Reader.no_bracket
    (no_bracket_lem 91 93 (array nil) refl (inl refl) λ r. Spells.is_array (structural no_space no_space) Grammar.no_element
    (structural no_space no_space))
    (no_bracket_lem 123 125 (object empty) refl (inr refl) λ r. Spells.is_object (structural no_space no_space) Grammar.no_member
    (structural no_space no_space))
value_local (suc left) =
    with_local (suc left) (Reader.array_rest (Reader.value left)) (Reader.object_rest (Reader.value left))
    (array_local left (Reader.value left) (value_local left) (value_sound left) (value_over left))
    (object_local left (Reader.value left) (value_local left) (value_sound left) (value_over left))

-- a whole text
abbrev pub tree_only : Value → Bytes → Value
tree_only v x = v

-- a beginning of a JSON text that ASCII completes, and sparingly of one that passes neither 5 nor 8
abbrev pub Goes : ℕ → Bool → Bytes → Type 0
Goes left i g = (k : Continues g) × (i ≡ true → Sparing left k.tree) × (all_ascii k.more ≡ true)

abbrev pub ParseLocal : Bytes → Type 0
ParseLocal s = Outcome Tally.nothing tree_only Reader.parse (Goes Limits.max_depth) (λ v u. Unit {0}) s

value_continues : (left : ℕ) (i : Bool) (g : Bytes) → Completes (Lead (Valued left i)) g → Goes left i g
value_continues left i g k =
    let h = k.spelled [] in (
      record {
        more = k.end;
        tree = k.what;
        is_json =
            record {
              from = h.0;
              to = [];
              before = subst (λ (x : Bytes). Ws (g ++ x) h.0) (append-nil k.end) h.1;
              spelled = h.2.0;
              behind = no_space;
            };
      },
      h.2.1,
      k.plain,
    )

whole_local : (st : Tally) (left : ℕ) (b : Value × ℕ) (used r : Bytes) → Takes (Lead (ValueThen left)) b used →
    Outcome st tree_only (λ x. Reader.whole_text (parsed_of b x)) (λ i g. Goes left i (used ++ g)) (λ v u. Unit {0}) r
unfolding Reader.whole_text
whole_local st left b used [] t = took b.0 [] [] refl over tt refl
  where
    over : (x : Bytes) → Follows [] x → Reader.whole_text (parsed_of b x) ≡ ok b.0
    over x nothing = refl
whole_local st left b used (c ∷ r) t =
    let h = t [] in
    stopped not_json c r (λ x. refl) (all_read b.0) (
      record {
        more = [];
        tree = b.0;
        is_json =
            record {
              from = h.0;
              to = h.2.0;
              before = subst (λ (x : Bytes). Ws x h.0) (sym (append-nil (used ++ []))) h.1;
              spelled = h.2.1.0;
              behind = h.2.2;
            };
      },
      h.2.1.1,
      refl,
    ) dead

parse_with : (left : ℕ) → 0 + left ≡ Limits.max_depth → (s : Bytes) →
    Outcome Tally.nothing tree_only (λ x. Reader.value left 0 (skip x) >>= Reader.whole_text) (Goes left) (λ v u. Unit {0}) s
unfolding Reader.whole_text
parse_with left deep s =
    bind Reader.whole_text s
    (leading {R = Valued left} {S = ValueThen left} 0 0 (Reader.value left 0) s (quiet_at (value_over left 0) early) λ sp r i. value_local
    left 0 0 r (omega arith) deep) (value_continues left) (λ b. all_read b.0) λ b used r e t o. whole_local (tallied Tally.nothing used)
    left b used r t

pub parse_local : (s : Bytes) → ParseLocal s
unfolding Reader.parse
parse_local s = ext (λ x h. refl) (parse_with Limits.max_depth refl s)
