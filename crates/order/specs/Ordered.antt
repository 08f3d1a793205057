-- What linking a sheet's members asks of its table, and what it leaves.
-- Assumes nothing.
use Rattle.std.specs.Prelude.{true, List, ◌≡◌, ℕ, ◌*◌, ◌<◌, ◌≤◌, drop, get_or, length, take}
use Rattle.json_text.specs.Bytes.{Bytes}
use Rattle.json_text.specs.Held.{IsNode}
use Rattle.json_text.specs.Limits.{max_depth, max_number, tidy}
use Rattle.json_text.specs.Links.{Linked, LinkedAt}
use Rattle.json_text.specs.Marks.{first_mark}
use Rattle.json_text.specs.Table.{after_at, kind_at, value_at}

-- the table holds a tree from node 0 on, in which no object has a name twice
pub record Unordered (s : Bytes) (w : List ℕ) : Type 0 where
  pub long : 16384 ≤ length w
  pub root : IsNode s w max_depth 0
  pub is_tidy : tidy max_number (value_at s w 0) ≡ true

-- the same tree, the names of every object linked; the rows behind it are zero
pub record Ordered (s : Bytes) (w w' : List ℕ) : Type 0 where
  pub root : IsNode s w' max_depth 0
  pub same : value_at s w' 0 ≡ value_at s w 0
  pub linked : Linked s w'
  pub behind : (i : ℕ) → 3 * after_at w' 0 ≤ i → i < first_mark → get_or w' i 0 ≡ 0
  pub long : length w' ≡ length w
  pub further : drop 16384 w' ≡ drop 16384 w

-- on the way there: the objects before a row are linked, whatever the rows behind the last node are
pub record CanOrderRows (s : Bytes) (w : List ℕ) (count names spare : ℕ) : Type 0 where
  pub table : Unordered s w
  pub counted : count ≡ after_at w 0
  pub room : 2048 ≤ names
  pub more : 2048 ≤ spare

pub record LinkedUpto (s : Bytes) (w w' : List ℕ) (k : ℕ) : Type 0 where
  pub rows : take first_mark w' ≡ take first_mark w
  pub further : drop 16384 w' ≡ drop 16384 w
  pub links : (n : ℕ) → n < k → kind_at w n ≡ 6 → LinkedAt s w' n
