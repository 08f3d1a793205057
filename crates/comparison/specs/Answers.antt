-- What an evaluation answers and leaves.
-- Assumes nothing.
use Rattle.std.specs.Prelude.{List, ◌≡◌, ℕ, Result as Fallible, Ok, Err}
use Rattle.json_text.specs.Bytes.{Bytes}
use Rattle.json_text.specs.Refusal.{Result, no_id, ok, refused, unknown_expression}
use Rattle.json_text.specs.Spans.{text_at}
use Rattle.json_text.specs.Table.{start_at}
use Rattle.semantics.specs.Evaluate.{Answer}
use Rattle.paths.specs.Marks.{Left}
use Rattle.semantics.specs.Names.{Names}
use Rattle.paths.specs.Stored.{HasKind, table}
use Rattle.semantics.specs.Told.{truth_of}
use Rattle.semantics.specs.declared.truth.Truth.{Truth as CodeTruth}
use Rattle.paths.specs.declared.operand.EvalError.{EvalError}
use Rattle.paths.specs.declared.operand.EvalError.TheVariants as errors

-- a result as the definition has it, with these names
abbrev pub outcome_of : Bytes → List ℕ → Names → Fallible CodeTruth EvalError → Result Answer
outcome_of s t ns (Ok x) = ok (record { truth = truth_of x; names = ns })
outcome_of s t ns (Err (errors.UnknownExpression n)) = refused (unknown_expression (text_at s (start_at t n)))
outcome_of s t ns (Err errors.NoId) = refused no_id

-- a judged condition leaves its names marked; the node of a refusal is a text's
abbrev pub Marks : Bytes → List ℕ → Names → Names → Fallible CodeTruth EvalError → Type 0
Marks s t ns met (Ok x) = met ≡ ns
Marks s t ns met (Err (errors.UnknownExpression n)) = HasKind s t n 4
Marks s t ns met (Err errors.NoId) = Unit {0}

pub record EvaluatedAs (s : Bytes) (w w' : List ℕ) (r : Fallible CodeTruth EvalError) (m : Result Answer) : Type 0 where
  pub names : Names
  pub met : Names
  pub means : outcome_of s (table w) names r ≡ m
  pub left : Left s w w' met
  pub marks : Marks s (table w) names met r
