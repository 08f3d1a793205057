-- A condition whose path goes on from a written object into the sheet, judged without copies: the definition computes.
-- Assumes nothing.
use mathlib.Core.Path.{refl, ◌≡◌}
use mathlib.Core.List.{[], ◌∷◌}
use Rattle.std.specs.Prelude.{None}
use Rattle.comparison.specs.Judge.{judge}
use Rattle.semantics.specs.Truth.{True}
use Rattle.json_text.specs.Bytes.{ascii}
use Rattle.json_text.specs.Json.{array, cons, empty, member, nil, number, object, text}
use Rattle.json_text.specs.Refusal.{ok}
use Rattle.members.specs.Condition.{Condition, Mode, eq, pair, quantified}
use Rattle.members.specs.Sheet.{Sheet}

-- for_any in [{"k":"$args"}] as c that for_any in "$c.k.v" as d that eq ["$d", 2]; args {"v":[1,2]}
abbrev sheet_one : Sheet Condition
sheet_one = record {
  id = None;
  entity = [];
  version = 49 ∷ [];
  args = member (ascii "v") (array (cons (number (49 ∷ [])) (cons (number (50 ∷ [])) nil))) empty;
  fields = empty;
  old_fields = empty;
  from_state = None;
  to_state = [];
  state = None;
  states = [];
  condition = None;
  preconditions = [];
  invariants = [];
  outcomes = [];
}

abbrev deep : Condition
deep =
    quantified Mode.any (array (cons (object (member (ascii "k") (text (ascii "$args")) empty)) nil)) (ascii "c")
    (quantified Mode.any (text (ascii "$c.k.v")) (ascii "d") (pair eq (text (ascii "$d")) (number (50 ∷ []))))

walked_on : judge sheet_one [] deep ≡ ok (record { truth = True; names = [] })
unfolding judge
walked_on = refl
