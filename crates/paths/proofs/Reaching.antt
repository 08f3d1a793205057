-- Touching, looking up and walking on over the table, step by step as the code takes them.
-- Assumes nothing.
use Rattle.std.specs.Prelude.{Result as Fallible}
use mathlib.Core.Bool.{false, true}
use mathlib.Core.List.{List, [], ◌∷◌}
use Rattle.std.specs.Prelude.{Option, None, Some, Ok, Err}
use mathlib.Core.Path.{ap, refl, subst, sym, ◌∙◌, ◌≡◌}
use Prim.Native.Nat.{suc, ℕ, ◌-◌, ◌≤◌}
use native.Mathlib.Omega.{arith}
use lib.ListN.{length}
use Rattle.json_text.proofs.Laws.{same_bytes_true}
use Rattle.json_text.specs.Bytes.{Bytes, find, same_bytes}
use Rattle.json_text.specs.Held.{HasNode}
use Rattle.json_text.specs.Json.{Members, Value, entries, null, object, text}
use Rattle.json_text.specs.Refusal.{ok, refused, unknown_expression, ◌>>=◌}
use Rattle.json_text.specs.Spans.{text_at}
use Rattle.json_text.specs.Table.{kind_at, start_at}
use Rattle.members.specs.Condition.{Condition}
use Rattle.members.specs.Sheet.{Sheet}
use Rattle.semantics.specs.Expression.{bases, below, parts, unbound, walk}
use Rattle.paths.specs.Lazy as lazy
use Rattle.paths.specs.Lazy.{given, look, look_parts, map_some, or_null, outer, read_part, step_from, touch, walk_from}
use Rattle.semantics.specs.Operand.{escaped, expression, plain, read_text}
use Rattle.paths.specs.Path.{further, part}
use Rattle.paths.specs.Reached.{BoundAs, BoundFits, FoundNode, LookedAs, LookedFits, MemberTold, NullTold, bound_of, found_tree, looked_of, written_kind}
use Rattle.paths.specs.Rooted.{base_gives, base_named, root_gives, root_of}
use Rattle.semantics.specs.Semantics.{kernel, member_step}
use Rattle.paths.specs.Stored.{Fits, HasKind, Means, OperandAt, fields_of, less_one, meant, operand_of, tree}
use Rattle.paths.specs.Told.{Behind}
use Rattle.paths.specs.declared.operand.Kind.{Kind}
use Rattle.paths.specs.declared.operand.Kind.TheVariants as kinds
use Rattle.paths.specs.declared.operand.LookupError.{LookupError}
use Rattle.paths.specs.declared.operand.LookupError.TheVariants as lookups
use Rattle.paths.specs.declared.operand.Operand.{Operand}
use Rattle.paths.proofs.Stands.{impossible}
use Rattle.paths.proofs.Trees.{Layer, a_false, a_null, a_number, a_text, a_true, an_array, an_object, layer, operand_at, text_row}
use Rattle.paths.proofs.Unbound.{base_whole, root_whole}
use Rattle.paths.proofs.Units.{parts_by, parts_after}

pub null_at : {r : Fallible (Option Operand) LookupError} {o : Operand} → r ≡ Ok (Some o) → NullTold r o
unfolding or_null looked_of LookedFits
null_at {r} {o} q s t e h = rw q (record { means = refl; fits = subst (LookedFits s t) q h })

-- null
nothing_at : (s : Bytes) (t : List ℕ) → OperandAt s t (record { node = 0; depth = 0; kind = kinds.Null })
unfolding Fits
nothing_at s t = record { node = omega arith; depth = omega arith; fits = tt }

null_none : {r x : Fallible (Option Operand) LookupError} {o : Operand} → r ≡ x → o ≡
    record { node = 0; depth = 0; kind = kinds.Null } → ((s : Bytes) (t : List ℕ) (e : Bytes) → or_null (looked_of s t e x) ≡ given null) →
    NullTold r o
unfolding meant
null_none q p z s t e h = rw (q, p) (record { means = sym (z s t e); fits = nothing_at s t })

pub null_other : {r : Fallible (Option Operand) LookupError} {o : Operand} → ((p : Operand) → r ≡ Ok (Some p) → ⊥) →
    o ≡ record { node = 0; depth = 0; kind = kinds.Null } → NullTold r o
unfolding or_null looked_of
null_other {r} {o} f p = go r refl
  where
    go : (x : Fallible (Option Operand) LookupError) → r ≡ x → NullTold r o
    go (Ok (Some y)) e = absurd (f y e)
    go (Ok None) e = null_none e p (λ s t x. refl)
    go (Err lookups.Unknown) e = null_none e p (λ s t x. refl)
    go (Err lookups.NoId) e = null_none e p (λ s t x. refl)

-- what was bound or found
module _ {s : Bytes} {t : List ℕ} {b : Option Operand} {m : Option lazy.Operand} (h : BoundAs s t b m) where
  pub bound_is : (o : Operand) → b ≡ Some o → m ≡ Some (operand_of s t o)
  unfolding bound_of
  bound_is o q = sym h.means ∙ ap (bound_of s t) q

  pub bound_fits : (o : Operand) → b ≡ Some o → OperandAt s t o
  unfolding BoundFits
  bound_fits o q = subst (BoundFits s t) q h.fits

  pub bound_not : b ≡ None → m ≡ None
  unfolding bound_of
  bound_not q = sym h.means ∙ ap (bound_of s t) q

looked_as : (s : Bytes) (t : List ℕ) (e : Bytes) (x : Option Operand) → BoundFits s t x → LookedAs s t e (Ok x) (ok (bound_of s t x))
unfolding looked_of bound_of BoundFits LookedFits
looked_as s t e (Some o) f = record { means = refl; fits = f }
looked_as s t e None f = record { means = refl; fits = tt }

pub bound_looked : {s : Bytes} {t : List ℕ} {b : Option Operand} {m : Option lazy.Operand} → BoundAs s t b m → (e : Bytes) → LookedAs s t e (Ok b) (ok m)
bound_looked {s} {t} {b} h e = rw (← h.means) (looked_as s t e b h.fits)

-- the parts of a path, by its first dot
pub parts_last : (e : Bytes) → further e ≡ None → parts e ≡ part e ∷ []
parts_last e z = parts_by e ∙ ap (λ (o : Option Bytes). part e ∷ parts_after o) z

pub parts_on : (e : Bytes) {rest : Bytes} → further e ≡ Some rest → parts e ≡ part e ∷ parts rest
parts_on e z = parts_by e ∙ ap (λ (o : Option Bytes). part e ∷ parts_after o) z

-- `touched` is how a written part is read
module _ (sheet : Sheet Condition) (touched : lazy.Frames → Value → lazy.Operand) (fs : lazy.Frames) where
  look_bound : (e : Bytes) {name : Bytes} {path : List Bytes} {o : lazy.Operand} → parts e ≡ name ∷ path → find name fs ≡ Some o →
      look sheet touched fs e ≡ ok (walk_from sheet touched fs path o)
  unfolding look look_parts
  look_bound e p q = ap (look_parts sheet touched fs e) p ∙ rw (q, look_parts)

  look_free : (e : Bytes) {name : Bytes} {path : List Bytes} → parts e ≡ name ∷ path → find name fs ≡ None →
      look sheet touched fs e ≡ (unbound kernel sheet e name path >>= λ x. ok (map_some given x))
  unfolding look look_parts
  look_free e p q = ap (look_parts sheet touched fs e) p ∙ rw (q, look_parts)

  -- a step of a walk
  walk_none : (k : Bytes) (ks : List Bytes) (o : lazy.Operand) → step_from sheet touched fs k o ≡ None → walk_from sheet touched fs (k ∷ ks) o ≡ None
  unfolding walk_from
  walk_none k ks o q = rw (q, walk_from)

  walk_some : (k : Bytes) (ks : List Bytes) (o : lazy.Operand) {p : lazy.Operand} → step_from sheet touched fs k o ≡ Some p →
      walk_from sheet touched fs (k ∷ ks) o ≡ walk_from sheet touched fs ks p
  unfolding walk_from
  walk_some k ks o q = rw (q, walk_from)

  -- a value of the sheet is walked as the definition does
  given_walk : (ks : List Bytes) (x : Value) → walk_from sheet touched fs ks (given x) ≡ map_some given (walk kernel ks x)
  unfolding walk_from walk map_some step_from
  given_walk [] x = refl
  given_walk (k ∷ ks) x = go (member_step k x) refl (λ y. given_walk ks y)
    where
      go : (o : Option Value) → member_step k x ≡ o →
          ((y : Value) → walk_from sheet touched fs ks (given y) ≡ map_some given (walk kernel ks y)) →
          walk_from sheet touched fs (k ∷ ks) (given x) ≡ map_some given (walk kernel (k ∷ ks) x)
      go None q further_on = let w : walk kernel (k ∷ ks) x ≡ None = rw (q, walk) in walk_none k ks (given x) (ap (map_some given) q) ∙ ap (map_some given) (sym w)
      go (Some y) q further_on =
          let w : walk kernel (k ∷ ks) x ≡ walk kernel ks y = rw (q, walk) in walk_some k ks (given x) (ap (map_some given) q) ∙
          further_on y ∙
          ap (map_some given) (sym w)

from_base : (sheet : Sheet Condition) (e name : Bytes) (p : Bytes) (ps : List Bytes) {ms : Members} → find name (bases sheet) ≡ Some ms →
    unbound kernel sheet e name (p ∷ ps) ≡ ok (below kernel sheet p ps ms)
unfolding unbound
from_base sheet e name p ps q = rw (q, unbound)

no_base : (sheet : Sheet Condition) (e name : Bytes) (p : Bytes) (ps : List Bytes) → find name (bases sheet) ≡ None →
    unbound kernel sheet e name (p ∷ ps) ≡ refused (unknown_expression (36 ∷ e))
unfolding unbound
no_base sheet e name p ps q = rw (q, unbound)

-- looking up, by the first part of the path and what is behind it
module _ (sheet : Sheet Condition) (touched : lazy.Frames → Value → lazy.Operand) {s : Bytes} {t : List ℕ} (fs : lazy.Frames) (e : Bytes) where
  module _ {b : Option Operand} (h : BoundAs s t b (find (part e) fs)) where
    pub look_binder : (o : Operand) → b ≡ Some o → further e ≡ None → LookedAs s t e (Ok (Some o)) (look sheet touched fs e)
    unfolding walk_from looked_of LookedFits
    look_binder o q z = record { means = sym (look_bound sheet touched fs e (parts_last e z) (bound_is h o q)); fits = bound_fits h o q }

    pub look_root : b ≡ None → further e ≡ None → {r : Fallible (Option Operand) LookupError} → LookedAs s t e r (root_gives sheet e (root_of (part e))) → LookedAs s t e r (look sheet touched fs e)
    unfolding root_gives
    look_root q z w = rw (look_free sheet touched fs e (parts_last e z) (bound_not h q), root_whole sheet e (part e)) w

    module _ {rest : Bytes} (z : further e ≡ Some rest) where
      pub look_walk : (o : Operand) → b ≡ Some o → {w : Option Operand} →
          BoundAs s t w (walk_from sheet touched fs (parts rest) (operand_of s t o)) →
          LookedAs s t e (Ok w) (look sheet touched fs e)
      look_walk o q w = rw (look_bound sheet touched fs e (parts_on e z) (bound_is h o q)) (bound_looked w e)

      module _ (q : b ≡ None) {c : Option Operand} (g : BoundAs s t c (base_gives sheet (root_of (part e)))) where
        abbrev others : List Bytes
        others = parts_after (further rest)

        free : look sheet touched fs e ≡ (unbound kernel sheet e (part e) (part rest ∷ others) >>= λ x. ok (map_some given x))
        free = look_free sheet touched fs e (parts_on e z ∙ ap (λ (l : List Bytes). part e ∷ l) (parts_by rest)) (bound_not h q)

        pub look_unknown : c ≡ None → LookedAs s t e (Err lookups.Unknown) (look sheet touched fs e)
        unfolding base_gives map_some looked_of LookedFits
        look_unknown p = go (base_named sheet (root_of (part e))) refl (bound_not g p)
          where
            go : (x : Option Members) → base_named sheet (root_of (part e)) ≡ x → map_some (λ ms. given (object ms)) x ≡ None →
                LookedAs s t e (Err lookups.Unknown) (look sheet touched fs e)
            go None k l = record { means = sym (free ∙ rw (no_base sheet e (part e) (part rest) others (base_whole sheet (part e) ∙ k))); fits = tt }
            go (Some ms) k l = absurd (impossible (cc))

        module _ (o : Operand) (p : c ≡ Some o) where
          based : {A : Type 0} → ((ms : Members) → find (part e) (bases sheet) ≡ Some ms → given (object ms) ≡ operand_of s t o → A) → A
          unfolding base_gives map_some
          based {A} f = go (base_named sheet (root_of (part e))) refl (bound_is g o p)
            where
              go : (x : Option Members) → base_named sheet (root_of (part e)) ≡ x → map_some (λ ms. given (object ms)) x ≡ Some (operand_of s t o) → A
              go None k l = absurd (impossible (cc))
              go (Some ms) k l = f ms (base_whole sheet (part e) ∙ k) (cc)

          pub look_empty : true ≡ same_bytes (part rest) [] → LookedAs s t e (Ok None) (look sheet touched fs e)
          unfolding looked_of LookedFits map_some
          look_empty k = based λ ms l _. record { means = sym (free ∙ rw (same_bytes_true (part rest) [] (sym k), from_base sheet e (part e) [] others l)); fits = tt }

          pub look_base : false ≡ same_bytes (part rest) [] → {w : Option Operand} →
              BoundAs s t w (walk_from sheet touched fs (parts rest) (operand_of s t o)) →
              LookedAs s t e (Ok w) (look sheet touched fs e)
          unfolding same_bytes
          look_base k {w} y = based λ ms l v. rw (free ∙ go (part rest) refl ms l v) (bound_looked y e)
            where
              go :
                  (n : Bytes) → part rest ≡ n → (ms : Members) → find (part e) (bases sheet) ≡ Some ms → given (object ms) ≡ operand_of s t o →
                  (unbound kernel sheet e (part e) (part rest ∷ others) >>= λ x. ok (map_some given x)) ≡
                  ok (walk_from sheet touched fs (parts rest) (operand_of s t o))
              go [] n ms l v = absurd (impossible (let a : false ≡ true = k ∙ rw n in cc))
              go (d ∷ n) m ms l v =
                  rw (m, from_base sheet e (part e) (d ∷ n) others l)
                  (ap (λ (x : Option lazy.Operand). ok x) (sym (given_walk sheet touched fs ((d ∷ n) ∷ others) (object ms)) ∙ cc (v, m, parts_by rest)))

  -- walking on
  module _ (o : lazy.Operand) {b : Option Operand} (h : BoundAs s t b (step_from sheet touched fs (part e) o)) where
    pub walk_stops : b ≡ None → BoundAs s t None (walk_from sheet touched fs (parts e) o)
    unfolding bound_of BoundFits
    walk_stops q =
        record {
          means = sym
              (ap (λ (l : List Bytes). walk_from sheet touched fs l o) (parts_by e) ∙
              walk_none sheet touched fs (part e) (parts_after (further e)) o (bound_not h q));
          fits = tt;
        }

    pub walk_arrives : (p : Operand) → b ≡ Some p → further e ≡ None → BoundAs s t (Some p) (walk_from sheet touched fs (parts e) o)
    unfolding bound_of BoundFits walk_from
    walk_arrives p q z =
        record {
          means = sym
              (ap (λ (l : List Bytes). walk_from sheet touched fs l o) (parts_last e z) ∙
              walk_some sheet touched fs (part e) [] o (bound_is h p q));
          fits = bound_fits h p q;
        }

    pub walk_goes : (p : Operand) → b ≡ Some p → (rest : Bytes) → further e ≡ Some rest → {w : Option Operand} →
        BoundAs s t w (walk_from sheet touched fs (parts rest) (operand_of s t p)) → BoundAs s t w (walk_from sheet touched fs (parts e) o)
    walk_goes p q rest z {w} y =
        subst (BoundAs s t w)
        (sym
        (ap (λ (l : List Bytes). walk_from sheet touched fs l o) (parts_on e z) ∙
        walk_some sheet touched fs (part e) (parts rest) o (bound_is h p q))) y

-- a member that was found
module _ {s : Bytes} {t : List ℕ} {k : Bytes} {n : ℕ} {r : Option ℕ} (h : MemberTold s t k n r) where
  pub member_not : r ≡ None → find k (entries (fields_of s t n)) ≡ None
  unfolding found_tree
  member_not q = h.is ∙ ap (found_tree s t) q

  pub member_is : {v : ℕ} → r ≡ Some v → (find k (entries (fields_of s t n)) ≡ Some (tree s t v)) × HasNode s t v
  unfolding found_tree FoundNode
  member_is q = (h.is ∙ ap (found_tree s t) q, subst (FoundNode s t) q h.node)

-- a step, by the operand's kind
meant_as : (s : Bytes) (t : List ℕ) (o : Operand) (x : Kind) → o.kind ≡ x → operand_of s t o ≡ meant s t o.node o.depth x
meant_as s t o x q = ap (meant s t o.node o.depth) q

pub fits_as : (s : Bytes) (t : List ℕ) (o : Operand) (x : Kind) → o.kind ≡ x → Fits s t o.node o.kind → Fits s t o.node x
fits_as s t o x q h = subst (Fits s t o.node) q h

module _ (sheet : Sheet Condition) (touched : lazy.Frames → Value → lazy.Operand) {s : Bytes} {t : List ℕ} (fs : lazy.Frames) (k : Bytes) (o : Operand) where
  pub object_none : {v : Option ℕ} → o.kind ≡ kinds.Object → MemberTold s t k o.node v → v ≡ None → BoundAs s t None (step_from sheet touched fs k (operand_of s t o))
  unfolding step_from meant bound_of BoundFits map_some
  object_none q h z = record { means = rw (meant_as s t o kinds.Object q, member_not h z); fits = tt }

  pub object_some :
      {r : Option ℕ} {v : ℕ} {p : Operand} → o.kind ≡ kinds.Object → MemberTold s t k o.node r → r ≡ Some v → Means s t p (given (tree s t v)) →
      BoundAs s t (Some p) (step_from sheet touched fs k (operand_of s t o))
  unfolding step_from meant bound_of BoundFits map_some
  object_some q h z m = record { means = rw (meant_as s t o kinds.Object q, (member_is h z).0, m.means); fits = m.fits }

  pub named_none : {v : Option ℕ} → o.kind ≡ kinds.Named → MemberTold s t k o.node v → v ≡ None → BoundAs s t None (step_from sheet touched fs k (operand_of s t o))
  unfolding step_from meant bound_of BoundFits map_some
  named_none q h z = record { means = rw (meant_as s t o kinds.Named q, member_not h z); fits = tt }

  pub named_some : {r : Option ℕ} {v : ℕ} {p : Operand} → o.kind ≡ kinds.Named → MemberTold s t k o.node r → r ≡ Some v →
      Means s t p (touched (outer o.depth fs) (tree s t v)) → BoundAs s t (Some p) (step_from sheet touched fs k (operand_of s t o))
  unfolding step_from meant bound_of BoundFits map_some
  named_some q h z m = record { means = rw (meant_as s t o kinds.Named q, (member_is h z).0, m.means); fits = m.fits }

  pub other_none : (o.kind ≡ kinds.Object → ⊥) → (o.kind ≡ kinds.Named → ⊥) → BoundAs s t None (step_from sheet touched fs k (operand_of s t o))
  unfolding bound_of BoundFits step_from meant
  other_none h g = record { means = go o.kind h g; fits = tt }
    where
      go : (x : Kind) → (x ≡ kinds.Object → ⊥) → (x ≡ kinds.Named → ⊥) → None ≡ step_from sheet touched fs k (meant s t o.node o.depth x)
      go kinds.Null y z = refl
      go kinds.False y z = refl
      go kinds.True y z = refl
      go kinds.Number y z = refl
      go kinds.Text y z = refl
      go kinds.Less y z = refl
      go kinds.Array y z = refl
      go kinds.Object y z = absurd (y refl)
      go kinds.Listed y z = refl
      go kinds.Named y z = absurd (z refl)

-- touching a node, by its row
once_more : (sheet : Sheet Condition) (fs : lazy.Frames) (left : ℕ) (v : Value) → (left ≡ 0 → ⊥) → touch sheet left fs v ≡ read_part sheet (touch sheet (left - 1)) fs v
unfolding touch
once_more sheet fs left v more = let q : left ≡ suc (left - 1) = omega arith in ap (λ (m : ℕ). touch sheet m fs v) q

module _ (sheet : Sheet Condition) {s : Bytes} {t : List ℕ} (fs : lazy.Frames) (n : ℕ) where
  pub touch_none : (left : ℕ) {o : Operand} → left ≡ 0 → o ≡ record { node = 0; depth = 0; kind = kinds.Null } → Means s t o (touch sheet left fs (tree s t n))
  unfolding touch meant
  touch_none left e q = rw (e, q) (record { means = refl; fits = nothing_at s t })

  module _ (left : ℕ) (more : left ≡ 0 → ⊥) where
    pub touch_written :
        HasNode s t n → (c : ℕ) → c ≡ kind_at t n → (c ≡ 4 → ⊥) → {x : Kind} → x ≡ written_kind c → {d : ℕ} → d ≡ length fs → d ≤ 32 →
        Means s t (record { node = n; depth = d; kind = x }) (touch sheet left fs (tree s t n))
    unfolding read_part meant Fits
    touch_written h c e u {x} p {d} l few = rw (once_more sheet fs left (tree s t n) more, p) (go (layer s t n h))
      where
        go : Layer s t n → Means s t (record { node = n; depth = d; kind = written_kind c }) (read_part sheet (touch sheet (left - 1)) fs (tree s t n))
        go (a_null q v) = rw (e, q, v) (record { means = refl; fits = operand_at h few tt })
        go (a_true q v) = rw (e, q, v) (record { means = refl; fits = operand_at h few tt })
        go (a_false q v) = rw (e, q, v) (record { means = refl; fits = operand_at h few tt })
        go (a_number q v i) = rw (e, q, v) (record { means = refl; fits = operand_at h few (record { node = h; kind = q }) })
        go (a_text q v i) = absurd (u (e ∙ q))
        go (an_array q v i) = rw (e, q, v) (record { means = rw l; fits = operand_at h few (record { node = h; kind = q }) })
        go (an_object q v i) = rw (e, q, v) (record { means = rw l; fits = operand_at h few (record { node = h; kind = q }) })

    module _ (row : HasKind s t n 4) where
      pub touch_plain : read_text (text_at s (start_at t n)) ≡ plain → Means s t (record { node = n; depth = 0; kind = kinds.Text }) (touch sheet left fs (tree s t n))
      unfolding read_part meant Fits
      touch_plain e = rw (once_more sheet fs left (tree s t n) more, (text_row row).value, e, read_part) (record { means = refl; fits = operand_at row.node (omega arith) row })

      pub touch_less : {p : ℕ} → read_text (text_at s (start_at t n)) ≡ escaped (text_at s p) → Behind s (start_at t n) p →
          Means s t (record { node = n; depth = 0; kind = kinds.Less }) (touch sheet left fs (tree s t n))
      unfolding read_part meant Fits
      touch_less {p} e b =
          rw (once_more sheet fs left (tree s t n) more, (text_row row).value, e, read_part)
          (record {
            means = ap (λ (x : Bytes). given (text (less_one x))) b.dollar;
            fits = operand_at row.node (omega arith) (row, (text_at s p, b.dollar));
          })

      pub touch_looked : {e : Bytes} {r : Fallible (Option Operand) LookupError} {o : Operand} → read_text (text_at s (start_at t n)) ≡ expression e →
          LookedAs s t e r (look sheet (touch sheet (left - 1)) fs e) → NullTold r o → Means s t o (touch sheet left fs (tree s t n))
      unfolding read_part
      touch_looked {e} {r} {o} q l z = rw (once_more sheet fs left (tree s t n) more, (text_row row).value, q, read_part, ← l.means) (z s t e l.fits)
