-- The paper's number and the line's length of each answer of a call.
-- Assumes nothing.
use Rattle.std.specs.Prelude.{Option, None, Some, ◌≡◌, ℕ, ◌<◌, ◌≤◌, unwrap_or}
use Rattle.line.specs.declared.reply.Reply.{Reply}
use Rattle.line.specs.declared.reply.Reply.TheVariants as replies

unfoldable pub number_of : Reply → ℕ
number_of (replies.Line n) = 0
number_of replies.WorkTooSmall = 1
number_of replies.TooLong = 2
number_of replies.NotUtf8 = 3
number_of replies.NotJson = 4
number_of replies.TooDeep = 5
number_of replies.NumberTooLong = 6
number_of replies.TooManyNodes = 7
number_of replies.RepeatedName = 8
number_of replies.WrongSheet = 9
number_of replies.WrongShape = 10
number_of replies.NotCarried = 11
number_of replies.NoInput = 12
number_of (replies.UnknownExpression n) = 13
number_of (replies.NoId n) = 14
number_of (replies.PreconditionFalse n) = 15
number_of (replies.PreconditionUnknown n) = 16
number_of (replies.InvariantFalse n) = 17
number_of (replies.InvariantUnknown n) = 18
number_of (replies.NoOutcome n) = 19
number_of (replies.GuardUnknown n) = 20
number_of (replies.WrongState n) = 21
number_of (replies.NotASource n) = 22
number_of replies.LineTooLong = 23

unfoldable pub length_of : Reply → Option ℕ
length_of (replies.Line n) = Some n
length_of replies.WorkTooSmall = None
length_of replies.TooLong = None
length_of replies.NotUtf8 = None
length_of replies.NotJson = None
length_of replies.TooDeep = None
length_of replies.NumberTooLong = None
length_of replies.TooManyNodes = None
length_of replies.RepeatedName = None
length_of replies.WrongSheet = None
length_of replies.WrongShape = None
length_of replies.NotCarried = None
length_of replies.NoInput = None
length_of (replies.UnknownExpression n) = Some n
length_of (replies.NoId n) = Some n
length_of (replies.PreconditionFalse n) = Some n
length_of (replies.PreconditionUnknown n) = Some n
length_of (replies.InvariantFalse n) = Some n
length_of (replies.InvariantUnknown n) = Some n
length_of (replies.NoOutcome n) = Some n
length_of (replies.GuardUnknown n) = Some n
length_of (replies.WrongState n) = Some n
length_of (replies.NotASource n) = Some n
length_of replies.LineTooLong = None

-- 0 where there is none
abbrev pub size_of : Reply → ℕ
size_of r = unwrap_or (length_of r) 0

-- a number of the table, with the length of a line where the table has one
pub record Told (number size : ℕ) : Type 0 where
  pub most : number ≤ 23
  pub early : 0 < number → number ≤ 12 → size ≡ 0
  pub last : number ≡ 23 → size ≡ 0
