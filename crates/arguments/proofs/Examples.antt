-- What some arguments ask.
-- Assumes nothing.
use mathlib.Core.List.{[], ◌∷◌}
use mathlib.Core.Path.{refl, ◌≡◌}
use Rattle.std.specs.Prelude.{Err, None, Ok, Some}
use Rattle.json_text.specs.Bytes.{ascii}
use Rattle.arguments.specs.Asked.{ask}
use Rattle.arguments.specs.declared.asked.Asked.TheVariants as asked
use Rattle.calling.specs.declared.Call.TheVariants as calls
use Rattle.arguments.specs.declared.asked.Misuse.TheVariants as misuses
use Rattle.arguments.specs.declared.asked.Task.TheVariants as tasks

nothing : ask [] ≡ Ok (asked.Run (tasks.One calls.Decide) None)
unfolding ask
nothing = refl

a_call : ask (ascii "select" ∷ []) ≡ Ok (asked.Run (tasks.One calls.Select) None)
unfolding ask
a_call = refl

a_call_of_a_file : ask (ascii "decide" ∷ ascii "decide" ∷ []) ≡ Ok (asked.Run (tasks.One calls.Decide) (Some 1))
unfolding ask
a_call_of_a_file = refl

a_file : ask (ascii "./decide" ∷ []) ≡ Ok (asked.Run (tasks.One calls.Decide) (Some 0))
unfolding ask
a_file = refl

the_largest_place : ask (ascii "admit" ∷ ascii "18446744073709551615" ∷ []) ≡ Ok (asked.Run (tasks.One (calls.Admit 18446744073709551615)) None)
unfolding ask
the_largest_place = refl

too_large_a_place : ask (ascii "admit" ∷ ascii "18446744073709551616" ∷ []) ≡ Err misuses.WrongPlace
unfolding ask
too_large_a_place = refl

a_zero_in_front : ask (ascii "admit" ∷ ascii "01" ∷ []) ≡ Err misuses.WrongPlace
unfolding ask
a_zero_in_front = refl

no_place : ask (ascii "admit" ∷ []) ≡ Err misuses.NoPlace
unfolding ask
no_place = refl

one_too_many : ask (ascii "admit" ∷ ascii "0" ∷ ascii "a" ∷ ascii "b" ∷ []) ≡ Err (misuses.Further 3)
unfolding ask
one_too_many = refl

an_unknown_option : ask (ascii "-x" ∷ []) ≡ Err misuses.UnknownOption
unfolding ask
an_unknown_option = refl
