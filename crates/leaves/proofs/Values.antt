-- A value without brackets, by its first byte, and what the reader's separators say.
-- Assumes nothing.
use Rattle.strings.specs.declared.answer.Place.{Place}
use Rattle.std.specs.Prelude.{Err, IsErrAnd, None, Ok, Result as Fallible, Some}
use mathlib.Core.Bool.{Bool, false, true}
use mathlib.Core.List.{List, [], ◌∷◌}
use mathlib.Core.Path.{ap, refl, sym, ◌∙◌, ◌≡◌}
use Prim.Native.Nat.{suc, zero, ℕ, ◌*◌, ◌+◌, ◌-◌, ◌<◌, ◌≤◌}
use native.Mathlib.Omega.{arith}
use Rattle.std.proofs.Common.{rules}
use lib.Dec.{eqb}
use lib.ListN.{drop, get_or, length}
use lib.Seq.{sets}
use Rattle.json_text.proofs.Agree.{read_facts}
use Rattle.json_text.proofs.Laws.{bind_ok}
use Rattle.leaves.proofs.Loops.{bind_refused, none_left}
use Rattle.leaves.proofs.MemberName.{byte_inside, skip_past}
use Rattle.json_text.proofs.Sound.{between_out}
use Rattle.strings.specs.Answers.{code_of, refusal_of}
use Rattle.json_text.specs.Bytes.{Bytes, between, choose}
use Rattle.leaves.specs.Laid.{Continues, Opens, ParsedTold, RowLaid, kind_by, plain_by, scan_by}
use Rattle.json_text.specs.Limits.{max_nodes}
use Rattle.json_text.specs.Placing.{Placed, arr_at, leaf_at, obj_at, read_at, read_with, skip_at, string_at}
use Rattle.json_text.specs.Reader.{Start, one_node, start, start_array, start_false, start_nothing, start_null, start_number, start_object, start_text, start_true}
use Rattle.json_text.specs.Refusal.{Refusal, Result, not_json, ok, refused, too_deep, too_many_nodes, ◌>>=◌}
use Rattle.json_text.specs.Spans.{Node, Plain, is_false, is_null, is_number, is_text, is_true, leaf}
use Rattle.json_text.specs.Table.{code, rows}
use Rattle.strings.specs.declared.answer.Refusal.{Refusal as Why}
use Rattle.strings.specs.declared.answer.Refusal.TheVariants as whys
use Rattle.strings.specs.declared.rows.Kind.{Kind}
use Rattle.strings.specs.declared.rows.Kind.TheVariants as kinds
use Rattle.leaves.specs.declared.bracket.Sep.TheVariants as seps
use Rattle.strings.specs.contracts.rows.Kind as KindT
use denote.Enum.Bare.{same_true, sameb}
use borrow.Author.Tests.{lt-ltb, ne_eqb}

-- ---- the first byte
pub starts_none :
    (c : ℕ) → (c ≡ 34 → ⊥) → (c ≡ 45 → ⊥) → (48 ≤ c → c ≤ 57 → ⊥) → (c ≡ 91 → ⊥) → (c ≡ 123 → ⊥) → (c ≡ 110 → ⊥) → (c ≡ 116 → ⊥) →
    (c ≡ 102 → ⊥) → start c ≡ start_nothing
starts_none c p1 p2 p3 p4 p5 p6 p7 p8 =
    rw (
      ne_eqb c 34 p1,
      ne_eqb c 45 p2,
      between_out 48 57 c p3,
      ne_eqb c 91 p4,
      ne_eqb c 123 p5,
      ne_eqb c 110 p6,
      ne_eqb c 116 p7,
      ne_eqb c
          102 p8,
      choose,
    )

pub is_text_by : (k : Kind) → (k ≡ kinds.Null → ⊥) → (k ≡ kinds.True → ⊥) → (k ≡ kinds.False → ⊥) → (k ≡ kinds.Number → ⊥) → plain_by k ≡ is_text
is_text_by kinds.Null a b c d = absurd (a refl)
is_text_by kinds.True a b c d = absurd (b refl)
is_text_by kinds.False a b c d = absurd (c refl)
is_text_by kinds.Number a b c d = absurd (d refl)
is_text_by kinds.Text a b c d = refl
is_text_by kinds.Array a b c d = refl
is_text_by kinds.Object a b c d = refl
is_text_by kinds.Free a b c d = refl

-- a leaf of a kind, from its scan
abbrev shaped : Plain → ℕ → ℕ → Result ℕ → Result (Placed Node)
shaped is_null at m x = leaf_at is_null m at x
shaped is_true at m x = leaf_at is_true m at x
shaped is_false at m x = leaf_at is_false m at x
shaped is_number at m x = leaf_at is_number m at x
shaped is_text at m x = string_at m (at + 1) x

-- kinds that compare as equal, and as another
pub same_kind : (k j : Kind) → sameb KindT.the_type k j ≡ true → k ≡ j
same_kind k j e = same_true KindT.the_type (search rules) k j e

-- how a value of a kind begins
start_of : Kind → Start
start_of kinds.Null = start_null
start_of kinds.True = start_true
start_of kinds.False = start_false
start_of kinds.Number = start_number
start_of kinds.Text = start_text
start_of kinds.Array = start_array
start_of kinds.Object = start_object
start_of kinds.Free = start_nothing

kind_start : (y : Start) (k : Kind) → Some k ≡ kind_by y → y ≡ start_of k
unfolding start_of
kind_start start_null k q = let z : kinds.Null ≡ k = cc in ap start_of z
kind_start start_true k q = let z : kinds.True ≡ k = cc in ap start_of z
kind_start start_false k q = let z : kinds.False ≡ k = cc in ap start_of z
kind_start start_number k q = let z : kinds.Number ≡ k = cc in ap start_of z
kind_start start_text k q = let z : kinds.Text ≡ k = cc in ap start_of z
kind_start start_array k q = let z : kinds.Array ≡ k = cc in ap start_of z
kind_start start_object k q = let z : kinds.Object ≡ k = cc in ap start_of z
kind_start start_nothing k q = cc

none_start : (y : Start) → None ≡ kind_by y → y ≡ start_nothing
none_start start_null q = cc
none_start start_true q = cc
none_start start_false q = cc
none_start start_number q = cc
none_start start_text q = cc
none_start start_array q = cc
none_start start_object q = cc
none_start start_nothing q = refl

pub code_small : (k : Kind) → code_of k < 8
code_small kinds.Null = omega arith
code_small kinds.True = omega arith
code_small kinds.False = omega arith
code_small kinds.Number = omega arith
code_small kinds.Text = omega arith
code_small kinds.Array = omega arith
code_small kinds.Object = omega arith
code_small kinds.Free = omega arith

-- no value starts past the end
module _ (s : Bytes) (n at : ℕ) where
  -- what is known where a kind without brackets starts
  pub record PlainAt (k : Kind) : Type 0 where
    pub coded : code (plain_by k) ≡ code_of k
    pub read : read_at 0 s n at ≡ (one_node n >>= λ m. shaped (plain_by k) at m (scan_by (plain_by k) s at))

  pub plain_at : (k : Kind) → Some k ≡ kind_by (start (get_or s at 0)) → sameb KindT.the_type k kinds.Array ≡ false →
      sameb KindT.the_type k kinds.Object ≡ false → PlainAt k
  unfolding read_at scan_by start_of
  plain_at k e f g = go k e f g (kind_start (start (get_or s at 0)) k e)
    where
      go : (k : Kind) → Some k ≡ kind_by (start (get_or s at 0)) → sameb KindT.the_type k kinds.Array ≡ false →
          sameb KindT.the_type k kinds.Object ≡ false → start (get_or s at 0) ≡ start_of k → PlainAt k
      go kinds.Null e f g y = record { coded = refl; read = rw (y, read_with) }
      go kinds.True e f g y = record { coded = refl; read = rw (y, read_with) }
      go kinds.False e f g y = record { coded = refl; read = rw (y, read_with) }
      go kinds.Number e f g y = record { coded = refl; read = rw (y, read_with) }
      go kinds.Text e f g y = record { coded = refl; read = rw (y, read_with) }
      go kinds.Array e f g y = let z : ◌≡◌ {A = ℕ} 0 1 = cc in absurd (omega arith)
      go kinds.Object e f g y = let z : ◌≡◌ {A = ℕ} 0 1 = cc in absurd (omega arith)
      go kinds.Free e f g y = let q : Some kinds.Free ≡ None = rw y at e in let z : ◌≡◌ {A = ℕ} 0 1 = cc in absurd (omega arith)

  pub leaf_none : None ≡ kind_by (start (get_or s at 0)) → read_at 0 s n at ≡ refused not_json
  unfolding read_at
  leaf_none e = let y = none_start (start (get_or s at 0)) e in rw (y, read_with)

  pub leaf_array : (k : Kind) → Some k ≡ kind_by (start (get_or s at 0)) → k ≡ kinds.Array → read_at 0 s n at ≡ refused too_deep
  unfolding read_at start_of
  leaf_array k e q = let y = kind_start (start (get_or s at 0)) k e ∙ ap start_of q in rw (y, read_with)

  pub leaf_object : (k : Kind) → Some k ≡ kind_by (start (get_or s at 0)) → k ≡ kinds.Object → read_at 0 s n at ≡ refused too_deep
  unfolding read_at start_of
  leaf_object k e q = let y = kind_start (start (get_or s at 0)) k e ∙ ap start_of q in rw (y, read_with)

  module _ (k : Kind) (l : PlainAt k) where
    pub leaf_full : max_nodes ≤ n → read_at 0 s n at ≡ refused too_many_nodes
    leaf_full h = l.read ∙ bind_refused _ (none_left n h)

    module _ (room : n < max_nodes) where
      counted : one_node n ≡ ok (n + 1)
      unfolding one_node
      counted = rw (lt-ltb n max_nodes room, one_node)

      pub leaf_bad : (r : Refusal) → scan_by (plain_by k) s at ≡ refused r → read_at 0 s n at ≡ refused r
      leaf_bad r e = l.read ∙ bind_ok _ counted ∙ rw e (go (plain_by k))
        where
          go : (p : Plain) → shaped p at (n + 1) (refused r) ≡ refused r
          go is_null = refl
          go is_true = refl
          go is_false = refl
          go is_number = refl
          go is_text = refl

      pub leaf_text : (e : ℕ) → sameb KindT.the_type k kinds.Text ≡ true → scan_by (plain_by k) s at ≡ ok e →
          read_at 0 s n at ≡ ok (record { tree = leaf (plain_by k) (at + 1) (e - 1); place = e; count = n + 1 })
      leaf_text e f q = let z = same_kind k kinds.Text f in l.read ∙ bind_ok _ counted ∙ rw (q, z)

      pub leaf_is : (e : ℕ) → sameb KindT.the_type k kinds.Text ≡ false → scan_by (plain_by k) s at ≡ ok e → read_at 0 s n at ≡ ok (record { tree = leaf (plain_by k) at e; place = e; count = n + 1 })
      leaf_is e f q = l.read ∙ bind_ok _ counted ∙ rw q (go k l.coded f)
        where
          go : (k : Kind) → code (plain_by k) ≡ code_of k → sameb KindT.the_type k kinds.Text ≡ false →
              shaped (plain_by k) at (n + 1) (ok e) ≡ ok (record { tree = leaf (plain_by k) at e; place = e; count = n + 1 })
          go kinds.Null h f = refl
          go kinds.True h f = refl
          go kinds.False h f = refl
          go kinds.Number h f = refl
          go kinds.Text h f = let z : ◌≡◌ {A = ℕ} 0 1 = cc in absurd (omega arith)
          go kinds.Array h f = absurd (omega arith)
          go kinds.Object h f = absurd (omega arith)
          go kinds.Free h f = absurd (omega arith)

-- what `?` hands on is the refusal itself
pub handed_on : {A : Type 0} (r : Fallible A Why) {e : Why} → IsErrAnd r (λ y. y ≡ e) → r ≡ Err e
handed_on (Ok a) h = absurd h
handed_on (Err y) h = ap Err h

-- ---- what is told of it
pub told_bad : (x : Result (Placed Node)) (w w' : List ℕ) (n : ℕ) (r : Why) → x ≡ refused (refusal_of r) → drop 12288 w' ≡ drop 12288 w →
    ParsedTold x w w' n (Err r)
unfolding ParsedTold
told_bad x w w' n r e h = (e, h)

pub told_leaf : {x : Result (Placed Node)} {w w' : List ℕ} {n a e place : ℕ} (k : Kind) {p : Place} → code (plain_by k) ≡ code_of k → x ≡
    ok (record { tree = leaf (plain_by k) a e; place = place; count = n + 1 }) → RowLaid w w' n (code_of k) a e (n + 1) place p →
    ParsedTold x w w' n (Ok p)
unfolding ParsedTold rows
told_leaf {x} {w} {w'} {n} {a} {e} k h q l =
    rw l.answer
    (record {
      tree = leaf (plain_by k) a e;
      read = q;
      words = l.words ∙ ap (λ (i : ℕ). sets w (3 * n) ((8 * a + i) ∷ e ∷ (n + 1) ∷ [])) (sym h);
    })

pub read_places : (left : ℕ) (s : Bytes) (n at : ℕ) (q : Placed Node) → at ≤ length s → read_at left s n at ≡ ok q → (at < q.place) × (q.place ≤ length s)
read_places left s n at q h e = let f = read_facts left s n at q h e in (f.1.past, f.1.upto)

-- ---- separators
module _ (s : Bytes) (at close p : ℕ) (byte : 0 < close) where
  pub opens_shut : at < length s → p ≡ skip_at s (at + 1) → get_or s p 0 ≡ close → Opens s at close (seps.Shut (p + 1))
  unfolding Opens
  opens_shut h e q =
      let i = byte_inside s p close q byte in
      (ap (λ (k : ℕ). get_or s k 0) (sym e) ∙ q, ap (λ (k : ℕ). k + 1) e, omega arith)

  pub opens_on : at < length s → p ≡ skip_at s (at + 1) → (get_or s p 0 ≡ close → ⊥) → Opens s at close (seps.On p)
  unfolding Opens
  opens_on h e f = let i = skip_past s (at + 1) p (omega arith) e in ((λ q. f (ap (λ (k : ℕ). get_or s k 0) e ∙ q)), e, omega (arith, i.0), i.1)

  pub continues_on : at ≤ length s → p ≡ skip_at s at → get_or s p 0 ≡ 44 → (h : ℕ) → h ≡ skip_at s (p + 1) → Continues s at close (Ok (seps.On h))
  unfolding Continues
  continues_on l e q h d =
      let i = byte_inside s p 44 q (omega arith) in
      let j = skip_past s at p l e in
      let k = skip_past s (p + 1) h (omega arith) d in
      (ap (λ (k : ℕ). get_or s k 0) (sym e) ∙ q, d ∙ ap (λ (k : ℕ). skip_at s (k + 1)) e, omega (arith, j.0, k.0), k.1)

  pub continues_shut : p ≡ skip_at s at → get_or s p 0 ≡ close → Continues s at close (Ok (seps.Shut (p + 1)))
  unfolding Continues
  continues_shut e q =
      let i = byte_inside s p close q byte in
      (ap (λ (k : ℕ). get_or s k 0) (sym e) ∙ q, ap (λ (k : ℕ). k + 1) e, omega arith)

  pub continues_not : p ≡ skip_at s at → (get_or s p 0 ≡ 44 → ⊥) → (get_or s p 0 ≡ close → ⊥) → Continues s at close (Err whys.NotJson)
  unfolding Continues
  continues_not e f g = (refl, (λ q. f (ap (λ (k : ℕ). get_or s k 0) e ∙ q)), (λ q. g (ap (λ (k : ℕ). get_or s k 0) e ∙ q)))

-- ---- a value, by its first byte
is_bracket : Start → Bool
is_bracket start_null = false
is_bracket start_true = false
is_bracket start_false = false
is_bracket start_text = false
is_bracket start_number = false
is_bracket start_array = true
is_bracket start_object = true
is_bracket start_nothing = false

no_bracket_lem : (c : ℕ) → (c ≡ 91 → ⊥) → (c ≡ 123 → ⊥) → is_bracket (start c) ≡ false
unfolding is_bracket
no_bracket_lem c f g = rw (ne_eqb c 91 f, ne_eqb c 123 g) (go (eqb c 34) (eqb c 45) (between 48 57 c) (eqb c 110) (eqb c 116) (eqb c 102))
  where
    go : (a b d e f g : Bool) →
        is_bracket
        (choose
        ((a, start_text) ∷ (b, start_number) ∷ (d, start_number) ∷ (false, start_array) ∷ (false, start_object) ∷ (e, start_null) ∷
        (f, start_true) ∷ (g, start_false) ∷ []) start_nothing) ≡ false
    go true b d e f g = refl
    go false true d e f g = refl
    go false false true e f g = refl
    go false false false true f g = refl
    go false false false false true g = refl
    go false false false false false true = refl
    go false false false false false false = refl

module _ (s : Bytes) (n at : ℕ) where
  pub value_array : (left : ℕ) → (left ≡ 0 → ⊥) → get_or s at 0 ≡ 91 → read_at left s n at ≡ arr_at s (λ m a. read_at (left - 1) s m a) n at
  unfolding read_at
  value_array zero z e = absurd (z refl)
  value_array (suc left) z e = let q : left ≡ suc left - 1 = omega arith in rw (ap start e, read_with) (ap (λ (k : ℕ). arr_at s (λ m a. read_at k s m a) n at) q)

  pub value_object : (left : ℕ) → (left ≡ 0 → ⊥) → get_or s at 0 ≡ 123 → read_at left s n at ≡ obj_at s (λ m a. read_at (left - 1) s m a) n at
  unfolding read_at
  value_object zero z e = absurd (z refl)
  value_object (suc left) z e = let q : left ≡ suc left - 1 = omega arith in rw (ap start e, read_with) (ap (λ (k : ℕ). obj_at s (λ m a. read_at k s m a) n at) q)

  pub value_leaf : (left : ℕ) → (get_or s at 0 ≡ 91 → ⊥) → (get_or s at 0 ≡ 123 → ⊥) → read_at left s n at ≡ read_at 0 s n at
  unfolding read_at is_bracket
  value_leaf zero f g = refl
  value_leaf (suc left) f g = go (start (get_or s at 0)) refl (no_bracket_lem (get_or s at 0) f g)
    where
      go : (y : Start) → start (get_or s at 0) ≡ y → is_bracket (start (get_or s at 0)) ≡ false → read_at (suc left) s n at ≡ read_at 0 s n at
      go start_null e h = rw (e, read_with)
      go start_true e h = rw (e, read_with)
      go start_false e h = rw (e, read_with)
      go start_text e h = rw (e, read_with)
      go start_number e h = rw (e, read_with)
      go start_array e h = let z : true ≡ false = sym (ap is_bracket e) ∙ h in let y : ◌≡◌ {A = ℕ} 0 1 = cc in absurd (omega arith)
      go start_object e h = let z : true ≡ false = sym (ap is_bracket e) ∙ h in let y : ◌≡◌ {A = ℕ} 0 1 = cc in absurd (omega arith)
      go start_nothing e h = rw (e, read_with)
