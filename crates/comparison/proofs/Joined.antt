-- Truths and answers joined: what an empty collection gives changes nothing, and it does not matter which two are joined first.
-- Assumes nothing.
use mathlib.Core.List.{[], append_assoc, append-nil}
use mathlib.Core.Path.{ap, refl, ◌≡◌}
use Rattle.json_text.specs.Refusal.{Result, ok, refused, ◌>>=◌}
use Rattle.semantics.specs.Evaluate.{Answer, joined}
use Rattle.semantics.specs.Truth.{False, True, Truth, Unknown, join, start}
use Rattle.members.specs.Condition.{Mode, every}

join_assoc : (m : Mode) (a b c : Truth) → join m a (join m b c) ≡ join m (join m a b) c
join_assoc every True b c = refl
join_assoc every False b c = refl
join_assoc every Unknown True c = refl
join_assoc every Unknown False c = refl
join_assoc every Unknown Unknown True = refl
join_assoc every Unknown Unknown False = refl
join_assoc every Unknown Unknown Unknown = refl
join_assoc Mode.any True b c = refl
join_assoc Mode.any False b c = refl
join_assoc Mode.any Unknown True c = refl
join_assoc Mode.any Unknown False c = refl
join_assoc Mode.any Unknown Unknown True = refl
join_assoc Mode.any Unknown Unknown False = refl
join_assoc Mode.any Unknown Unknown Unknown = refl

start_join : (m : Mode) (t : Truth) → join m (start m) t ≡ t
start_join every t = refl
start_join Mode.any t = refl

join_start : (m : Mode) (t : Truth) → join m t (start m) ≡ t
join_start every True = refl
join_start every False = refl
join_start every Unknown = refl
join_start Mode.any True = refl
join_start Mode.any False = refl
join_start Mode.any Unknown = refl

-- an answer joined to what was answered so far
abbrev pub Joining : Mode → Answer → Result Answer → Result Answer
Joining m a x = x >>= λ b. ok (joined m a b)

pub joining_twice : (m : Mode) (a b : Answer) (x : Result Answer) → Joining m a (Joining m b x) ≡ Joining m (joined m a b) x
joining_twice m a b (ok c) = rw (join_assoc m a.truth b.truth c.truth, append_assoc a.names b.names c.names)
joining_twice m a b (refused f) = refl

pub joining_none : (m : Mode) (x : Result Answer) → Joining m (record { truth = start m; names = [] }) x ≡ x
joining_none m (ok b) = ap {B = Result Answer} (λ (t : Truth). ok (record { truth = t; names = b.names })) (start_join m b.truth)
joining_none m (refused f) = refl

pub joining_last : (m : Mode) (a : Answer) → Joining m a (ok (record { truth = start m; names = [] })) ≡ ok a
joining_last m a = rw (join_start m a.truth, append-nil a.names)
