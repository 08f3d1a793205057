-- What reading a whole sheet promises: the number or the tree, and the words that it leaves.
-- Assumes nothing.
use Rattle.strings.specs.declared.answer.Refusal.{Refusal as Why}
use Rattle.std.specs.Prelude.{Result as Fallible}
use Rattle.std.specs.Prelude.{false, true, List, ◌≡◌, ℕ, ◌*◌, ◌<◌, ◌≤◌, leb, drop, length, take, Ok, Err}
use Rattle.strings.specs.Answers.{refusal_of}
use Rattle.json_text.specs.Bytes.{Bytes}
use Rattle.json_text.specs.Held.{IsNode}
use Rattle.json_text.specs.Json.{Value}
use Rattle.json_text.specs.Limits.{max_bytes, max_depth, nodes}
use Rattle.json_text.specs.Placing.{spanned}
use Rattle.json_text.specs.Reader.{json}
use Rattle.json_text.specs.Refusal.{Result, ok, refused, work_too_small}
use Rattle.json_text.specs.Spans.{Node, size}
use Rattle.json_text.specs.Table.{after_at, rows, value_at}

-- 1 for a work table of so many words, else what `json` says
unfoldable pub reading : ℕ → Bytes → Result Value
unfolding json
reading words s = elim (leb 16384 words) [ true ↦ json s | false ↦ refused work_too_small ]

-- what the code answers, its table read back
unfoldable pub read_of : Bytes → List ℕ → Fallible ℕ Why → Result Value
unfolding value_at
read_of s w (Err r) = refused (refusal_of r)
read_of s w (Ok n) = ok (value_at s w 0)

-- a table that holds the sheet's tree from node 0 on
pub record Holds (s : Bytes) (w : List ℕ) (n : ℕ) : Type 0 where
  pub bytes : length s ≤ max_bytes
  pub root : IsNode s w max_depth 0
  pub count : n ≡ nodes (value_at s w 0)
  pub after : after_at w 0 ≡ n
  pub spans : (t : Node) × (spanned s ≡ ok t) × (take (3 * size t) w ≡ rows t 0)

unfoldable pub HoldsOf : Bytes → List ℕ → Fallible ℕ Why → Type 0
HoldsOf s w (Err r) = Unit {0}
HoldsOf s w (Ok n) = Holds s w n

-- no word behind the rows is touched
pub record ReadTold (s : Bytes) (w w' : List ℕ) (r : Fallible ℕ Why) : Type 0 where
  pub answers : reading (length w) s ≡ read_of s w' r
  pub holds : HoldsOf s w' r
  pub small : length w < 16384 → w' ≡ w
  pub past : drop 12288 w' ≡ drop 12288 w
