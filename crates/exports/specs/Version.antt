-- The library's version, as one number that grows with it.
-- Assumes nothing.
use Rattle.std.specs.Prelude.{ℕ, ◌*◌, ◌+◌}

-- major, minor and patch, each below 100
abbrev pub version_of : ℕ → ℕ → ℕ → ℕ
version_of major minor patch = 10000 * major + 100 * minor + patch

-- the one in the file VERSION
abbrev pub version : ℕ
version = version_of 0 1 0
