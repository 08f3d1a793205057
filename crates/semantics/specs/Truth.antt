-- Kleene's strong truth tables, and how `all` and `any` start, join and settle.
-- Assumes nothing.
use Rattle.std.specs.Prelude.{Bool, false, true}
use Rattle.members.specs.Condition.{Mode, any, every}

pub data Truth : Type 0 where
  True False Unknown : Truth

abbrev pub and : Truth → Truth → Truth
and True u = u
and False u = False
and Unknown True = Unknown
and Unknown False = False
and Unknown Unknown = Unknown

abbrev pub or : Truth → Truth → Truth
or True u = True
or False u = u
or Unknown True = True
or Unknown False = Unknown
or Unknown Unknown = Unknown

abbrev pub negate : Truth → Truth
negate True = False
negate False = True
negate Unknown = Unknown

abbrev pub of_bool : Bool → Truth
of_bool true = True
of_bool false = False

abbrev pub join : Mode → Truth → Truth → Truth
join every t u = and t u
join any t u = or t u

-- what an empty collection gives, and what settles a whole one
abbrev pub start : Mode → Truth
start every = True
start any = False

abbrev pub settles : Mode → Truth → Bool
settles every True = false
settles every False = true
settles every Unknown = false
settles any True = true
settles any False = false
settles any Unknown = false
