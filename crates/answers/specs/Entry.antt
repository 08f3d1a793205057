-- The calls on a sheet's bytes, with the sizes of the work table and the output: a number, 0 where nothing is refused, and a line or none.
-- Assumes nothing.
use Rattle.std.specs.Prelude.{Bool, false, true, List, ◌++◌, ℕ, leb, drop, length, replicate}
use Rattle.answers.specs.Decide.{admit_call, decide_call, evaluate_call, invariants_call, preconditions_call, select_call}
pub use Rattle.answers.specs.Reply.{Reply, fitted, output_after}
unfoldable pub use Rattle.answers.specs.Reply.{reply}
use Rattle.answers.specs.Verdict.{Verdict}
use Rattle.json_text.specs.Bytes.{Bytes}
use Rattle.json_text.specs.Refusal.{Result, ok, refused, work_too_small, ◌>>=◌}
use Rattle.members.specs.Condition.{Condition}
use Rattle.members.specs.Sheet.{Sheet, read_sheet}

abbrev pub work_words : ℕ
work_words = 16384

unfoldable pub enough : ℕ → Result Bool
enough work = elim (leb work_words work) [ true ↦ ok true | false ↦ refused work_too_small ]

unfoldable pub call : (Sheet Condition → Result Verdict) → Bytes → ℕ → ℕ → Reply
unfolding enough read_sheet reply
call f s work output =
    reply
    output
    (do
      _ ← enough work
      sheet ← read_sheet s
      f sheet)

unfoldable pub evaluate : Bytes → ℕ → ℕ → Reply
unfolding call evaluate_call
evaluate s work output = call evaluate_call s work output

unfoldable pub check_preconditions : Bytes → ℕ → ℕ → Reply
unfolding call preconditions_call
check_preconditions s work output = call preconditions_call s work output

unfoldable pub check_invariants : Bytes → ℕ → ℕ → Reply
unfolding call invariants_call
check_invariants s work output = call invariants_call s work output

unfoldable pub select : Bytes → ℕ → ℕ → Reply
unfolding call select_call
select s work output = call select_call s work output

unfoldable pub admit : ℕ → Bytes → ℕ → ℕ → Reply
unfolding call admit_call
admit place s work output = call (λ sheet. admit_call sheet place) s work output

unfoldable pub decide : Bytes → ℕ → ℕ → Reply
unfolding call decide_call
decide s work output = call decide_call s work output

-- shut, so that nothing writes 16,384 elements out
unfoldable pub zeros : ℕ → List ℕ
zeros n = replicate n 0

-- what a call leaves in the work table
unfoldable pub work_after : List ℕ → List ℕ
unfolding zeros
work_after work = elim (leb work_words (length work)) [ false ↦ work | true ↦ zeros work_words ++ drop work_words work ]
