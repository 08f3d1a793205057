-- An input that is answered part by part. Bytes that were handed on and bytes that are kept stand for an input if the answers to it, however it goes
-- on, are those handed on and then the answers to what is kept, going on in the same way.
-- Assumes nothing.
use Rattle.std.specs.Prelude.{false, true, [], ◌++◌, ◌≡◌, min, ℕ, ◌-◌, ◌<◌, ◌≤◌, drop, length, take}
use Rattle.json_text.specs.Bytes.{Bytes}
use Rattle.printing.specs.Lines.{answers, line_length}
use Rattle.printing.specs.declared.lines.Progress.{Progress}

pub record StandsFor (input handed kept : Bytes) : Type 0 where
  pub always : (rest : Bytes) → answers (input ++ rest) ≡ handed ++ answers (kept ++ rest)

-- no LF is left
abbrev pub Unended : Bytes → Type 0
Unended s = line_length s ≡ length s

-- what is kept of a line that has no LF yet: as much as tells an overlong one
unfoldable pub cut : Bytes → Bytes
cut s = take 32769 s

-- the answers put into the output stand for what was used
pub record Advanced (input out : Bytes) (r : Progress) : Type 0 where
  pub within : r.used ≤ length input
  pub fits : r.put ≤ length out
  pub stands_for : StandsFor input (take r.put out) (drop r.used input)
  pub unended : r.done ≡ true → Unended (drop r.used input)
  pub moved : r.done ≡ false → 0 < r.used

-- what is left of a line without LF stands at the start, and so many bytes are kept
pub record Kept (input : Bytes) (from end : ℕ) (after : Bytes) (r : ℕ) : Type 0 where
  pub size : r ≡ min (end - from) 32769
  pub bytes : take r after ≡ cut (take (end - from) (drop from input))

-- how an input goes through the program: a chunk is read behind what is kept, whole lines are answered, and of a line that has no LF yet the start
-- is enough
pub data Fed : Bytes → Bytes → Bytes → Type 0 where
  start : Fed [] [] []
  read : {input handed kept : Bytes} (chunk : Bytes) → Fed input handed kept → Fed (input ++ chunk) handed (kept ++ chunk)
  answer : {input handed kept more left : Bytes} → Fed input handed kept → StandsFor kept more left → Fed input (handed ++ more) left
  shorten : {input handed kept : Bytes} → Fed input handed kept → Unended kept → Fed input handed (cut kept)
