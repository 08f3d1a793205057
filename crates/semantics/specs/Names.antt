-- The names of a condition: the expressions that gave nothing or null. They are gathered in the order met and printed each once, by ascending
-- bytes; only which names there are counts.
-- Assumes nothing.
use mathlib.Core.List.{List, Memᴰ, [], ◌++◌, ◌∷◌}
use Rattle.std.specs.Prelude.{◌≡◌}
use Prim.Native.Nat.{Ordering}
use Rattle.json_text.specs.Bytes.{Bytes, order_bytes}

abbrev pub Names : Type 0
Names = List Bytes

abbrev pub no_names : Names
no_names = []

abbrev pub one_name : Bytes → Names
one_name n = n ∷ []

abbrev pub join_names : Names → Names → Names
join_names ms ns = ms ++ ns

abbrev pub Named : Bytes → Names → Type 0
Named n ns = Memᴰ n ns

-- a name put in its place, unless it stands there
unfoldable pub insert_name : Bytes → Names → Names
unfolding order_bytes
insert_name n [] = n ∷ []
insert_name n (m ∷ ms) = elim (order_bytes n m) [ Ordering.lt ↦ n ∷ m ∷ ms | Ordering.eq ↦ m ∷ ms | Ordering.gt ↦ m ∷ insert_name n ms ]

-- each name once, by ascending bytes
unfoldable pub ascending : Names → Names
unfolding insert_name
ascending [] = []
ascending (n ∷ ns) = insert_name n (ascending ns)

-- each name below all that follow it
pub data Ascends : Names → Type 0 where
  none_follow : Ascends []
  follow : {n : Bytes} {ms : Names} → ((m : Bytes) → Named m ms → order_bytes n m ≡ Ordering.lt) → Ascends ms → Ascends (n ∷ ms)
