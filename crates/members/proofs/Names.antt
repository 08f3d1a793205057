-- A member by its name, and whether every name is a known one, turn by turn.
-- Assumes nothing.
use mathlib.Core.Bool.{Bool, false, true}
use mathlib.Core.List.{List, [], ◌∷◌}
use Rattle.std.specs.Prelude.{Option, None, Some}
use mathlib.Core.Path.{refl, subst, sym, ◌∙◌, ◌≡◌}
use Prim.Native.Nat.{ℕ, ◌+◌, ◌<◌, ◌≤◌}
use lib.Dec.{eqb}
use Rattle.json_text.proofs.Laws.{eqb_false, eqb_no, eqb_same, eqb_true}
use Rattle.json_text.proofs.Walk.{members_more}
use Rattle.strings.specs.Answers.{FoundIn, FoundTold, found_of}
use Rattle.json_text.specs.Bytes.{Bytes, find, is_one_of, same_bytes}
use Rattle.json_text.specs.Held.{AreMembers, IsNode}
use Rattle.json_text.specs.Json.{Members, Value, entries, keys, member}
use Rattle.json_text.specs.Spans.{text_at}
use Rattle.json_text.specs.Table.{after_at, members_at, start_at, value_at}
use Rattle.members.proofs.Walks.{OverMembers, a_member, no_member, on, value_node}
use Rattle.members.specs.Answers.{FoundLeft, Located}
use Rattle.members.specs.Kinds.{only}
use Rattle.members.specs.Verdicts.{is_ok}

pub same_bytes_sym : (k l : Bytes) → same_bytes k l ≡ same_bytes l k
unfolding same_bytes
same_bytes_sym [] [] = refl
same_bytes_sym [] (d ∷ l) = refl
same_bytes_sym (c ∷ k) [] = refl
same_bytes_sym (c ∷ k) (d ∷ l) = go (eqb c d) refl (same_bytes_sym k l)
  where
    go : (b : Bool) → eqb c d ≡ b → same_bytes k l ≡ same_bytes l k → same_bytes (c ∷ k) (d ∷ l) ≡ same_bytes (d ∷ l) (c ∷ k)
    go true e below = let q : c ≡ d = eqb_true c d e in rw (q, eqb_same d, same_bytes) below
    go false e below = let q : eqb d c ≡ false = eqb_false d c (λ z. eqb_no c d e (sym z)) in rw (e, q, same_bytes)

-- what is not found, and what is
pub found_nothing : {s : Bytes} {w : List ℕ} {whole : Option Value} → whole ≡ None → FoundTold s w whole None
unfolding found_of FoundIn
found_nothing e = record { answers = e; bounds = tt }

pub found_at : {s : Bytes} {w : List ℕ} {whole : Option Value} {n : ℕ} → whole ≡ Some (value_at s w n) → IsNode s w 64 n → FoundTold s w whole (Some n)
unfolding found_of FoundIn
found_at e h = record { answers = e; bounds = record { left = 64; is_node = h } }

pub find_this : (key k : Bytes) (v : Value) (ms : Members) → true ≡ same_bytes k key → find key (entries (member k v ms)) ≡ Some v
unfolding find
find_this key k v ms e = rw (same_bytes_sym key k, sym e, find)

pub find_later : (key k : Bytes) (v : Value) (ms : Members) → false ≡ same_bytes k key → find key (entries (member k v ms)) ≡ find key (entries ms)
unfolding find
find_later key k v ms e = rw (same_bytes_sym key k, sym e, find)

-- whether every name is a known one
abbrev pub all_known : List Bytes → Members → Bool
all_known names ms = is_ok (only names (keys ms))

pub name_further : (names : List Bytes) (k : Bytes) (v : Value) (ms : Members) → is_one_of k names ≡ false → all_known names (member k v ms) ≡ false
unfolding only
name_further names k v ms e = rw (e, only)

pub name_known : (names : List Bytes) (k : Bytes) (v : Value) (ms : Members) → is_one_of k names ≡ true → all_known names (member k v ms) ≡ all_known names ms
unfolding only
name_known names k v ms e = rw (e, only)

-- ---- the loops
pub record Sought (s : Bytes) (w : List ℕ) (from e : ℕ) (key : Bytes) (whole : Option Value) (k : ℕ) : Type 0 where
  pub over : OverMembers s w e whole (λ ms. find key (entries ms)) k
  pub within : (left : ℕ) → AreMembers s w left from e → AreMembers s w left k e

pub seek : (s : Bytes) (w : List ℕ) (from e : ℕ) (key : Bytes) → AreMembers s w 64 from e → Sought s w from e key (find key (entries (members_at s w from e))) from
seek s w from e key h = record { over = record { members = h; rest = refl }; within = λ left m. m }

pub sought_nowhere : {s : Bytes} {w : List ℕ} {from e k : ℕ} {key : Bytes} {whole : Option Value} → Sought s w from e key whole k → e ≤ k →
    Located s w from e whole None
unfolding find FoundLeft
sought_nowhere l h = record { told = found_nothing (no_member l.over h); within = λ left m. tt }

abbrev pub Knowing : Bytes → List ℕ → ℕ → List Bytes → Bool → ℕ → Type 0
Knowing s w e names whole k = OverMembers s w e whole (all_known names) k

module _ {s : Bytes} {w : List ℕ} {e k : ℕ} (h : k < e) (a : ℕ) (q : a ≡ start_at w k) where
  module _ {from : ℕ} {key : Bytes} {whole : Option Value} (l : Sought s w from e key whole k) where
    pub sought_here : true ≡ same_bytes (text_at s a) key → Located s w from e whole (Some (k + 1))
    unfolding FoundLeft
    sought_here g =
        record {
          told = found_at
              (a_member l.over h a q ∙ find_this key (text_at s a) (value_at s w (k + 1)) (members_at s w (after_at w (k + 1)) e) g)
              (value_node l.over h);
          within = λ left m. (members_more s w (l.within left m) h).here;
        }

    pub sought_on : false ≡ same_bytes (text_at s a) key → (k' : ℕ) → k' ≡ after_at w (k + 1) → Sought s w from e key whole k'
    sought_on g k' p =
        record {
          over = on l.over h k' p
              (a_member l.over h a q ∙ find_later key (text_at s a) (value_at s w (k + 1)) (members_at s w (after_at w (k + 1)) e) g);
          within = λ left m. subst (λ (x : ℕ). AreMembers s w left x e) (sym p) (members_more s w (l.within left m) h).others;
        }

  -- whether the name is one of the names
  module _ (names : List Bytes) {whole : Bool} (l : Knowing s w e names whole k) {b : Bool} (p : b ≡ is_one_of (text_at s a) names) where
    pub unknown_here : b ≡ false → false ≡ whole
    unknown_here j = sym (a_member l h a q ∙ name_further names (text_at s a) (value_at s w (k + 1)) (members_at s w (after_at w (k + 1)) e) (sym p ∙ j))

    pub known_here : b ≡ true → (k' : ℕ) → k' ≡ after_at w (k + 1) → Knowing s w e names whole k'
    known_here j k' o =
        on l h k' o (a_member l h a q ∙ name_known names (text_at s a) (value_at s w (k + 1)) (members_at s w (after_at w (k + 1)) e) (sym p ∙ j))
