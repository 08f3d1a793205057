-- Each answer of a call is a row of the table.
-- Assumes nothing.
use native.Mathlib.Omega.{arith}
use mathlib.Core.Path.{refl}
use Rattle.line.specs.Replies.{Told, length_of, number_of, size_of}
use Rattle.line.specs.declared.reply.Reply.{Reply}
use Rattle.line.specs.declared.reply.Reply.TheVariants as replies

pub told : (r : Reply) → Told (number_of r) (size_of r)
unfolding number_of length_of
told (replies.Line n) = record { most = omega arith; early = λ a b. absurd (omega (arith, a)); last = λ e. absurd (omega (arith, e)) }
told replies.WorkTooSmall = record { most = omega arith; early = λ a b. refl; last = λ e. refl }
told replies.TooLong = record { most = omega arith; early = λ a b. refl; last = λ e. refl }
told replies.NotUtf8 = record { most = omega arith; early = λ a b. refl; last = λ e. refl }
told replies.NotJson = record { most = omega arith; early = λ a b. refl; last = λ e. refl }
told replies.TooDeep = record { most = omega arith; early = λ a b. refl; last = λ e. refl }
told replies.NumberTooLong = record { most = omega arith; early = λ a b. refl; last = λ e. refl }
told replies.TooManyNodes = record { most = omega arith; early = λ a b. refl; last = λ e. refl }
told replies.RepeatedName = record { most = omega arith; early = λ a b. refl; last = λ e. refl }
told replies.WrongSheet = record { most = omega arith; early = λ a b. refl; last = λ e. refl }
told replies.WrongShape = record { most = omega arith; early = λ a b. refl; last = λ e. refl }
told replies.NotCarried = record { most = omega arith; early = λ a b. refl; last = λ e. refl }
told replies.NoInput = record { most = omega arith; early = λ a b. refl; last = λ e. refl }
told (replies.UnknownExpression n) = record { most = omega arith; early = λ a b. absurd (omega (arith, b)); last = λ e. absurd (omega (arith, e)) }
told (replies.NoId n) = record { most = omega arith; early = λ a b. absurd (omega (arith, b)); last = λ e. absurd (omega (arith, e)) }
told (replies.PreconditionFalse n) = record { most = omega arith; early = λ a b. absurd (omega (arith, b)); last = λ e. absurd (omega (arith, e)) }
told (replies.PreconditionUnknown n) = record { most = omega arith; early = λ a b. absurd (omega (arith, b)); last = λ e. absurd (omega (arith, e)) }
told (replies.InvariantFalse n) = record { most = omega arith; early = λ a b. absurd (omega (arith, b)); last = λ e. absurd (omega (arith, e)) }
told (replies.InvariantUnknown n) = record { most = omega arith; early = λ a b. absurd (omega (arith, b)); last = λ e. absurd (omega (arith, e)) }
told (replies.NoOutcome n) = record { most = omega arith; early = λ a b. absurd (omega (arith, b)); last = λ e. absurd (omega (arith, e)) }
told (replies.GuardUnknown n) = record { most = omega arith; early = λ a b. absurd (omega (arith, b)); last = λ e. absurd (omega (arith, e)) }
told (replies.WrongState n) = record { most = omega arith; early = λ a b. absurd (omega (arith, b)); last = λ e. absurd (omega (arith, e)) }
told (replies.NotASource n) = record { most = omega arith; early = λ a b. absurd (omega (arith, b)); last = λ e. absurd (omega (arith, e)) }
told replies.LineTooLong = record { most = omega arith; early = λ a b. refl; last = λ e. refl }
