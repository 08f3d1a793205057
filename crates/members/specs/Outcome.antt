-- An outcome and its effect (the paper's "Rule and outcome").
-- Assumes nothing.
use Rattle.std.specs.Prelude.{Bool, false, List, [], ◌∷◌}
use Rattle.std.specs.Prelude.{Option, None, Some}
use Rattle.json_text.specs.Bytes.{Bytes, ascii, find}
use Rattle.json_text.specs.Json.{Value, as_text, keys}
use Rattle.json_text.specs.Refusal.{Result, ok, or_else, wrong_sheet, ◌>>=◌}
use Rattle.members.specs.Kinds.{a_bool, a_text, an_object, each_of, only, optional, required, some_texts}

-- What an effect does to the state: "none", "creates" and "updates" leave it, `moves` has where it goes and where it may come from, in written order.
pub data Effect : Type 0 where
  stays : Effect
  moves : Bytes → List Bytes → Effect

-- an outcome, over what a condition is read as; `when` is its guard
pub record Outcome (C : Type 0) : Type 0 where
  pub name : Bytes
  pub when : Option C
  pub in_state : Option Bytes
  pub wrong_state : Bool
  pub effect : Effect

-- the effects that are one word
abbrev pub effect_words : List (Bytes × Effect)
effect_words = (ascii "none", stays) ∷ (ascii "creates", stays) ∷ (ascii "updates", stays) ∷ []

-- where a move goes and where it may come from
unfoldable pub a_move : Value → Result Effect
unfolding find only each_of
a_move v = do
  ms ← an_object v
  _ ← only (ascii "to" ∷ ascii "from" ∷ []) (keys ms)
  to ← required a_text (ascii "to") ms
  from ← required some_texts (ascii "from") ms
  ok (moves to from)

-- a value as an effect, or 9: a known word, or an object whose one member is `moves`
unfoldable pub an_effect : Value → Result Effect
unfolding find only a_move
an_effect v =
    elim
    (as_text v) [
      | Some s ↦
          or_else (find s effect_words) wrong_sheet
      | None ↦
          (do
            ms ← an_object v
            _ ← only (ascii "moves" ∷ []) (keys ms)
            required a_move (ascii "moves") ms)
    ]

-- a missing effect leaves the state; a missing `wrong_state` is false
abbrev pub or_stays : Option Effect → Effect
or_stays None = stays
or_stays (Some e) = e

abbrev pub or_false : Option Bool → Bool
or_false None = false
or_false (Some b) = b

module _ {C : Type 0} (kind : Value → Result C) where
  -- a value as an outcome, or 9
  unfoldable pub an_outcome : Value → Result (Outcome C)
  unfolding find only an_effect
  an_outcome v = do
    ms ← an_object v
    _ ← only (ascii "name" ∷ ascii "when" ∷ ascii "in_state" ∷ ascii "wrong_state" ∷ ascii "effect" ∷ []) (keys ms)
    n ← required a_text (ascii "name") ms
    c ← optional kind (ascii "when") ms
    i ← optional a_text (ascii "in_state") ms
    w ← optional a_bool (ascii "wrong_state") ms
    e ← optional an_effect (ascii "effect") ms
    ok (record { name = n; when = c; in_state = i; wrong_state = or_false w; effect = or_stays e })
