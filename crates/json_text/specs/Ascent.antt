-- The first byte of each node of a tree, and that nodes begin in the order of the text.
-- Assumes nothing.
use Rattle.std.specs.Prelude.{ℕ, ◌-◌, ◌<◌, ◌≤◌}
use Rattle.json_text.specs.Spans.{Fields, Node, Nodes, Plain, arr, field, leaf, no_field, no_node, node, obj}

-- a string begins with its quote, which stands before its content
abbrev pub leaf_byte : Plain → ℕ → ℕ
leaf_byte Plain.is_null a = a
leaf_byte Plain.is_true a = a
leaf_byte Plain.is_false a = a
leaf_byte Plain.is_number a = a
leaf_byte Plain.is_text a = a - 1

abbrev pub first_byte : Node → ℕ
first_byte (leaf k a e) = leaf_byte k a
first_byte (arr a e ts) = a
first_byte (obj a e fs) = a

-- every node begins between the two places: what stands in it behind its own first byte, elements and members one behind the other
mutual
  pub data Ascends : ℕ → ℕ → Node → Type 0 where
    leaf_ascends : {low high a e : ℕ} {k : Plain} → low ≤ leaf_byte k a → leaf_byte k a < high → Ascends low high (leaf k a e)
    arr_ascends : {low high a e from : ℕ} {ts : Nodes} → low ≤ a → a < from → from ≤ high → AscendIn from high ts → Ascends low high (arr a e ts)
    obj_ascends : {low high a e from : ℕ} {fs : Fields} → low ≤ a → a < from → from ≤ high → AscendOf from high fs → Ascends low high (obj a e fs)

  pub data AscendIn : ℕ → ℕ → Nodes → Type 0 where
    none_ascend : {low high : ℕ} → AscendIn low high no_node
    node_ascends :
        {low middle high : ℕ} {t : Node} {ts : Nodes} → Ascends low middle t → low ≤ middle → middle ≤ high → AscendIn middle high ts →
        AscendIn low high (node t ts)

  pub data AscendOf : ℕ → ℕ → Fields → Type 0 where
    empty_ascends : {low high : ℕ} → AscendOf low high no_field
    field_ascends :
        {low from middle high a e : ℕ} {t : Node} {fs : Fields} → low ≤ from → Ascends from middle t → from ≤ middle → middle ≤ high →
        AscendOf middle high fs → AscendOf low high (field a e t fs)
