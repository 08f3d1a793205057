-- What a truth of the code stands for.
-- Assumes nothing.
use Rattle.semantics.specs.Truth.{False, True, Truth, Unknown}
use Rattle.semantics.specs.declared.truth.Truth as code
use Rattle.semantics.specs.declared.truth.Truth.TheVariants as truths

abbrev pub truth_of : code.Truth → Truth
truth_of truths.True = True
truth_of truths.False = False
truth_of truths.Unknown = Unknown
