-- Expressions that no binder takes, by the roots that their first part names.
-- Assumes nothing.
use mathlib.Core.Bool.{Bool, false, true}
use mathlib.Core.List.{List, [], ◌∷◌}
use Rattle.std.specs.Prelude.{Option, None, Some, Ok, Err}
use mathlib.Core.Path.{refl, subst, sym, ◌≡◌}
use Prim.Native.Nat.{ℕ}
use native.Mathlib.Omega.{arith}
use Rattle.json_text.proofs.Laws.{same_bytes_true}
use Rattle.json_text.specs.Bytes.{Bytes, ascii, find, same_bytes}
use Rattle.json_text.specs.Json.{Members, Value, number, object, text}
use Rattle.json_text.specs.Refusal.{Result, ok, refused, unknown_expression}
use Rattle.members.specs.Condition.{Condition}
use Rattle.members.specs.Sheet.{Sheet}
use Rattle.semantics.specs.Expression.{bases, below, roots, unbound}
use Rattle.paths.specs.Lazy.{given, map_some}
use Rattle.paths.specs.Reached.{BoundAs, BoundFits, LookedAs, LookedFits, bound_of, looked_of}
use Rattle.paths.specs.Rooted.{
  BaseTold,
  IsNumber,
  IsObject,
  IsText,
  MayBeText,
  RootTold,
  base_gives,
  base_members,
  base_named,
  named_value,
  root_gives,
  root_names,
  root_of,
  root_value,
}
use Rattle.semantics.specs.Semantics.{kernel}
use Rattle.paths.specs.Stored.{Fits, meant, plain_at}
use Rattle.paths.specs.declared.operand.Kind.TheVariants as kinds
use Rattle.paths.specs.declared.operand.Operand.{Operand}
use Rattle.paths.specs.declared.operand.LookupError.TheVariants as lookups
use Rattle.paths.specs.declared.roots.Root.{Root}
use Rattle.paths.specs.declared.roots.Root.TheVariants as root
use Rattle.paths.specs.declared.roots.Roots.{Roots}
use Rattle.paths.proofs.Trees.{operand_at}

-- the definition's tables, by roots
module _ (sheet : Sheet Condition) (e k : Bytes) where
  abbrev or_refused : Option (Result (Option Value)) → Result (Option Value)
  or_refused None = refused (unknown_expression (36 ∷ e))
  or_refused (Some r) = r

  -- the entries from some root on
  record Entries (xs : List (Bytes × Root)) (ys : List (Bytes × Result (Option Value))) : Type 0 where
    agree : or_refused (find k ys) ≡ named_value sheet e (find k xs)

  entry : {w : Bytes} (x : Root) {xs : List (Bytes × Root)} {ys : List (Bytes × Result (Option Value))} → Entries xs ys → Entries ((w, x) ∷ xs) ((w, root_value sheet x) ∷ ys)
  unfolding find
  entry {w} x {xs} {ys} below = record { agree = go (same_bytes k w) refl }
    where
      go : (b : Bool) → same_bytes k w ≡ b → or_refused (find k ((w, root_value sheet x) ∷ ys)) ≡ named_value sheet e (find k ((w, x) ∷ xs))
      go true q = rw (q, find)
      go false q = rw (q, find) below.agree

  no_entry : Entries [] []
  unfolding find
  no_entry = record { agree = refl }

  all_entries : Entries root_names (roots sheet)
  all_entries =
      entry root.Id
      (entry root.Entity
      (entry root.Version
      (entry root.FromState
      (entry root.ToState (entry root.ToState (entry root.Args (entry root.Fields (entry root.OldFields no_entry))))))))

  pub root_whole : unbound kernel sheet e k [] ≡ named_value sheet e (root_of k)
  unfolding unbound root_of find
  root_whole = all_entries.agree

-- a path's base is one of the roots
module _ (sheet : Sheet Condition) (k : Bytes) where
  abbrev Base : Bytes → Type 0
  Base j = find j (bases sheet) ≡ base_named sheet (root_of j)

  pick : (w : Bytes) → Base w → (same_bytes k w ≡ false → Base k) → Base k
  pick w h f = go (same_bytes k w) refl
    where
      go : (b : Bool) → same_bytes k w ≡ b → Base k
      go true q = subst Base (sym (same_bytes_true k w q)) h
      go false q = f q

  pub base_whole : find k (bases sheet) ≡ base_named sheet (root_of k)
  unfolding find root_of
  base_whole =
      pick (ascii "id") refl λ q₁.
      pick (ascii "entity") refl λ q₂.
      pick (ascii "version") refl λ q₃.
      pick (ascii "from_state") refl λ q₄.
      pick (ascii "to_state") refl λ q₅.
      pick (ascii "state") refl λ q₆.
      pick (ascii "args") refl λ q₇.
      pick (ascii "fields") refl λ q₈.
      pick (ascii "old_fields") refl λ q₉.
      rw (q₇, q₈, q₉, q₁, q₂, q₃, q₄, q₅, q₆, q₇, q₈, q₉, find)

-- what a node that holds a member of the sheet gives
module _ {s : Bytes} {t : List ℕ} (e : Bytes) (n : ℕ) where
  pub looked_text : {b : Bytes} → IsText s t n b → LookedAs s t e (Ok (Some (plain_at n kinds.Text))) (ok (Some (given (text b))))
  unfolding looked_of LookedFits meant Fits
  looked_text h = record { means = rw h.is; fits = operand_at h.row.node (omega arith) h.row }

  pub looked_number : {b : Bytes} → IsNumber s t n b → LookedAs s t e (Ok (Some (plain_at n kinds.Number))) (ok (Some (given (number b))))
  unfolding looked_of LookedFits meant Fits
  looked_number h = record { means = rw h.is; fits = operand_at h.row.node (omega arith) h.row }

  pub looked_object : {ms : Members} → IsObject s t n ms → LookedAs s t e (Ok (Some (plain_at n kinds.Object))) (ok (Some (given (object ms))))
  unfolding looked_of LookedFits meant Fits
  looked_object h = record { means = rw h.is; fits = operand_at h.row.node (omega arith) h.row }

pub bound_object : {s : Bytes} {t : List ℕ} (n : ℕ) {ms : Members} → IsObject s t n ms → BoundAs s t (Some (plain_at n kinds.Object)) (Some (given (object ms)))
unfolding bound_of BoundFits meant Fits
bound_object n h = record { means = rw h.is; fits = operand_at h.row.node (omega arith) h.row }

no_text : (s : Bytes) (t : List ℕ) {r : Option ℕ} {o : Option Bytes} → r ≡ None → MayBeText s t r o → o ≡ None
unfolding MayBeText
no_text s t {o = o} q h = subst (λ (r : Option ℕ). MayBeText s t r o) q h

some_text : (s : Bytes) (t : List ℕ) (n : ℕ) {r : Option ℕ} {o : Option Bytes} → r ≡ Some n → MayBeText s t r o → (b : Bytes) × (o ≡ Some b) × IsText s t n b
unfolding MayBeText
some_text s t n {o = o} q h = subst (λ (r : Option ℕ). MayBeText s t r o) q h

-- what names no root
pub no_root : (sheet : Sheet Condition) (s : Bytes) (t : List ℕ) (e : Bytes) → LookedAs s t e (Err lookups.Unknown) (root_gives sheet e None)
unfolding root_gives looked_of LookedFits
no_root sheet s t e = record { means = refl; fits = tt }

pub no_base_root : (sheet : Sheet Condition) (s : Bytes) (t : List ℕ) → BoundAs s t None (base_gives sheet None)
unfolding base_gives bound_of BoundFits map_some
no_base_root sheet s t = record { means = refl; fits = tt }

-- the answers of the code, root by root
module _ (rs : Roots) {x : Root} where
  pub told_no_id : x ≡ root.Id → rs.id ≡ None → RootTold rs x (Err lookups.NoId)
  unfolding root_gives looked_of LookedFits
  told_no_id q z sheet s t e h = record { means = rw (q, no_text s t z h.id); fits = tt }

  pub told_id : x ≡ root.Id → (n : ℕ) → rs.id ≡ Some n → RootTold rs x (Ok (Some (plain_at n kinds.Text)))
  unfolding root_gives map_some
  told_id q n z sheet s t e h = let b = some_text s t n z h.id in rw (q, b.1) (looked_text e n b.2)

  pub told_entity : x ≡ root.Entity → RootTold rs x (Ok (Some (plain_at rs.entity kinds.Text)))
  unfolding root_gives map_some
  told_entity q sheet s t e h = rw q (looked_text e rs.entity h.entity)

  pub told_version : x ≡ root.Version → RootTold rs x (Ok (Some (plain_at rs.version kinds.Number)))
  unfolding root_gives map_some
  told_version q sheet s t e h = rw q (looked_number e rs.version h.version)

  told_no_from : x ≡ root.FromState → rs.from ≡ None → RootTold rs x (Ok None)
  unfolding root_gives map_some looked_of LookedFits
  told_no_from q z sheet s t e h = record { means = rw (q, no_text s t z h.from_state); fits = tt }

  told_some_from : x ≡ root.FromState → (n : ℕ) → rs.from ≡ Some n → RootTold rs x (Ok (Some (plain_at n kinds.Text)))
  unfolding root_gives map_some
  told_some_from q n z sheet s t e h = let b = some_text s t n z h.from_state in rw (q, b.1) (looked_text e n b.2)

  pub told_from : x ≡ root.FromState → {r : Option Operand} → (rs.from ≡ None → r ≡ None) → ((n : ℕ) → rs.from ≡ Some n → r ≡ Some (plain_at n kinds.Text)) →
      RootTold rs x (Ok r)
  told_from q {r} f g = go rs.from refl
    where
      go : (o : Option ℕ) → rs.from ≡ o → RootTold rs x (Ok r)
      go None z = rw (f z) (told_no_from q z)
      go (Some n) z = rw (g n z) (told_some_from q n z)

  pub told_to : x ≡ root.ToState → RootTold rs x (Ok (Some (plain_at rs.to kinds.Text)))
  unfolding root_gives map_some
  told_to q sheet s t e h = rw q (looked_text e rs.to h.to_state)

  pub told_args : x ≡ root.Args → RootTold rs x (Ok (Some (plain_at rs.args kinds.Object)))
  unfolding root_gives map_some
  told_args q sheet s t e h = rw q (looked_object e rs.args h.args)

  pub told_fields : x ≡ root.Fields → RootTold rs x (Ok (Some (plain_at rs.fields kinds.Object)))
  unfolding root_gives map_some
  told_fields q sheet s t e h = rw q (looked_object e rs.fields h.fields)

  pub told_old : x ≡ root.OldFields → RootTold rs x (Ok (Some (plain_at rs.old kinds.Object)))
  unfolding root_gives map_some
  told_old q sheet s t e h = rw q (looked_object e rs.old h.old_fields)

  pub base_args : x ≡ root.Args → BaseTold rs x (Some (plain_at rs.args kinds.Object))
  unfolding base_gives map_some
  base_args q sheet s t h = rw q (bound_object rs.args h.args)

  pub base_fields : x ≡ root.Fields → BaseTold rs x (Some (plain_at rs.fields kinds.Object))
  unfolding base_gives map_some
  base_fields q sheet s t h = rw q (bound_object rs.fields h.fields)

  pub base_old : x ≡ root.OldFields → BaseTold rs x (Some (plain_at rs.old kinds.Object))
  unfolding base_gives map_some
  base_old q sheet s t h = rw q (bound_object rs.old h.old_fields)

pub base_none : (rs : Roots) (x : Root) → (x ≡ root.Args → ⊥) → (x ≡ root.Fields → ⊥) → (x ≡ root.OldFields → ⊥) → BaseTold rs x None
unfolding base_gives bound_of BoundFits map_some
base_none rs x a f o sheet s t h = record { means = go x a f o; fits = tt }
  where
    go : (y : Root) → (y ≡ root.Args → ⊥) → (y ≡ root.Fields → ⊥) → (y ≡ root.OldFields → ⊥) → None ≡ base_gives sheet (Some y)
    go root.Id a f o = refl
    go root.Entity a f o = refl
    go root.Version a f o = refl
    go root.FromState a f o = refl
    go root.ToState a f o = refl
    go root.Args a f o = absurd (a refl)
    go root.Fields a f o = absurd (f refl)
    go root.OldFields a f o = absurd (o refl)
