-- What the iterators over nodes of the table are still to give.
-- Assumes nothing.
use mathlib.Core.Path.{◌≡◌}
use Rattle.std.specs.Prelude.{List, Option, ℕ, ◌<◌, ◌≤◌}
use Rattle.std.specs.Option.{MatchOption}
use Rattle.strings.specs.declared.rows.Elements.{Elements}
use Rattle.strings.specs.declared.rows.Keys.{Keys}
use Rattle.json_text.specs.Table.{after_at}
use Rattle.strings.specs.Leads.{Walked, of_array, of_object, row}

-- a walk along rows, by the words of the table, what it goes along, the node that ends it, and the one where it stands
pub record Walk : Type 0 where
  pub words : List ℕ
  pub along : Walked
  pub upto : ℕ
  pub place : ℕ

abbrev pub elements_left : Elements → Walk
elements_left it = record { words = it.work.now; along = of_array; upto = it.end; place = it.at }

abbrev pub keys_left : Keys → Walk
keys_left it = record { words = it.work.now; along = of_object; upto = it.end; place = it.at }

-- the walk behind the node where this one stands
abbrev pub onward : Walk → Walk
onward l = record { words = l.words; along = l.along; upto = l.upto; place = after_at l.words (row l.along l.place) }

-- a step of a walk gives the node where it stands, and goes on
abbrev pub Steps : Walk → Option ℕ → Walk → Type 0
Steps l r m = MatchOption r (l.upto ≤ l.place) (λ x. (x ≡ l.place) × (x < l.upto) × (m ≡ onward l))
