-- What `compare` answers for any two byte strings.
-- Assumes nothing.
use Rattle.std.specs.Prelude.{false, true, ◌&&◌, leb, length}
use Prim.Native.Nat.{Ordering}
use Rattle.number.specs.Compare.{number_order}
use Rattle.json_text.specs.Bytes.{Bytes}
use Rattle.json_text.specs.Limits.{max_number}
pub use Rattle.json_text.specs.Orders.{order_of}

-- bytes longer than a number may be are not looked at: they count as equal to anything
unfoldable pub compared : Bytes → Bytes → Ordering
unfolding number_order
compared s t = elim (leb (length s) max_number && leb (length t) max_number) [ true ↦ number_order s t | false ↦ Ordering.eq ]
