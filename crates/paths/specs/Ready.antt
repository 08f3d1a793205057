-- What evaluation asks of a sheet, its table, the nodes of its members and the frames.
-- Assumes nothing.
use Rattle.std.specs.Prelude.{List, ℕ, ◌*◌, ◌≤◌, length}
use Rattle.json_text.specs.Bytes.{Bytes}
use Rattle.json_text.specs.Cursor.{OnText}
use Rattle.json_text.specs.Limits.{max_bytes, max_nodes}
use Rattle.json_text.specs.Links.{Linked}
use Rattle.paths.specs.Rooted.{Rooted}
use Rattle.members.specs.Sheet.{sheet_in}
use Rattle.paths.specs.Stored.{FramesAt, table}
use Rattle.paths.specs.declared.frames.Frames.{Frames}
use Rattle.paths.specs.declared.roots.Roots.{Roots}

pub record Ready (s : Bytes) (w : List ℕ) (roots : Roots) (frames : Frames) : Type 0 where
  pub rows : 4 * max_nodes ≤ length w
  pub short : length s ≤ max_bytes
  pub rooted : Rooted (sheet_in s) s (table w) roots
  pub linked : Linked s (table w)
  pub bound : FramesAt s (table w) frames

-- a path: a text from the start of a slice on
pub record PathAt (path : Bytes) : Type 0 where
  pub on_text : OnText path 0 0
  pub short : length path ≤ max_bytes
