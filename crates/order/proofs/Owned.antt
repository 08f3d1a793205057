-- A name belongs to one object.
-- Assumes nothing.
use mathlib.Core.List.{List, Memᴰ}
use mathlib.Core.Logic.{⊎_elim}
use mathlib.Core.Path.{ap, ◌≡◌}
use Prim.Native.Nat.{ℕ, ◌+◌, ◌<◌, ◌≤◌}
use native.Mathlib.Decide.{dec_lt}
use native.Mathlib.Omega.{arith}
use Rattle.json_text.proofs.Walk.{members_more}
use Rattle.json_text.specs.Bytes.{Bytes}
use Rattle.json_text.specs.Held.{AreMembers, HasMembers, IsNode}
use Rattle.json_text.specs.KeyOrder.{names_at, nodes_of}
use Rattle.json_text.specs.Table.{after_at, kind_at}
use Rattle.order.proofs.Names.{by_members, name_cases, name_none, name_row}
use Rattle.order.proofs.Rows.{nested, object_members}

module _ (s : Bytes) (w : List ℕ) where
  abbrev pub NameIn : ℕ → ℕ → ℕ → Type 0
  NameIn k e x = Memᴰ x (nodes_of (names_at s w k e))

  -- no name of members stands among the rows of an object j below them: that is a part of one member's value
  outside : {k e : ℕ} (j x : ℕ) → HasMembers s w k e → kind_at w j ≡ 6 → j < e → j < x → x < after_at w j → k ≤ j → NameIn k e x → ⊥
  outside {k} {e} j x h q to less more =
      by_members s w (λ i. i ≤ j → NameIn i e x → ⊥) (λ i l from m. name_none s w l m)
      (λ i a l below from m. ⊎_elim (λ y. omega arith) (others i a l below from) (name_cases s w a l m)) k h.members
    where
      others : (i : ℕ) → AreMembers s w h.left i e → i < e → (after_at w (i + 1) ≤ j → NameIn (after_at w (i + 1)) e x → ⊥) → i ≤ j →
          NameIn (after_at w (i + 1)) e x → ⊥
      others i a l below from b =
          let v = members_more s w a l in
          let other : i ≡ j → ⊥ = λ z. omega (arith, v.is_kind, ap (kind_at w) z) in
          elim (dec_lt j (after_at w (i + 1))) [
            | yes y ↦
                omega (arith, (nested s w v.here j (omega arith) y).1, (name_row s w (record { left = h.left; members = v.others }) b).from)
            | no n ↦ below (omega arith) b
          ]

  -- so no name of an object i is one of an object j behind it
  owned_later : {i j x : ℕ} → HasMembers s w (i + 1) (after_at w i) → HasMembers s w (j + 1) (after_at w j) → kind_at w j ≡ 6 → i < j →
      NameIn (i + 1) (after_at w i) x → NameIn (j + 1) (after_at w j) x → ⊥
  owned_later {i} {j} {x} g h q l a b =
      let y = name_row s w g a in
      let z = name_row s w h b in
      outside j x g q (omega (arith, y.upto, z.from)) (omega (arith, z.from)) (omega (arith, z.upto)) (omega arith) a

  -- No name belongs to two objects.
  pub owned :
      {left p : ℕ} → IsNode s w left p → (i j k : ℕ) → p ≤ i → i < after_at w p → kind_at w i ≡ 6 → p ≤ j → j < after_at w p → kind_at w j ≡ 6 →
      (i ≡ j → ⊥) → NameIn (i + 1) (after_at w i) k → NameIn (j + 1) (after_at w j) k → ⊥
  owned root i j k from to q from' to' q' n a b =
      let g = object_members s w root i from to q in
      let h = object_members s w root j from' to' q' in
      elim (dec_lt i j) [ yes l ↦ owned_later g h q' l a b | no l ↦ owned_later h g q (omega arith) b a ]
