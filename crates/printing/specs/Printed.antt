-- What the program prints for a call on the bytes of a sheet: the line, or the number by itself where there is no line.
-- Assumes nothing.
use Rattle.std.specs.Prelude.{None, Some}
use Rattle.answers.specs.Entry.{Reply, work_words}
use Rattle.answers.specs.Line.{number_line}
use Rattle.decision.specs.Calls.{call_of}
use Rattle.calling.specs.declared.Call.{Call}
use Rattle.calling.specs.declared.Call.TheVariants as calls
use Rattle.json_text.specs.Bytes.{Bytes}

abbrev pub printed : Reply → Bytes
printed r = elim r.line [ None ↦ number_line r.number | Some line ↦ line ]

-- with 65,536 bytes of output
abbrev pub answer_to : Call → Bytes → Bytes
answer_to call s = printed (call_of call s work_words 65536)

unfoldable pub intake : Bytes → Bytes
intake s = answer_to calls.Decide s
