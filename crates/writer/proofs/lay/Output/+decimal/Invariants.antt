-- `writer::lay::Output::decimal` meets its contract: the digits of a tenth, and then the last one; the number falls.
-- Assumes nothing.
use Rattle.writer.proofs.lay.Output.+decimal.Given as goal

abbrev pub decreases-decimal : goal.decreases-decimal
decreases-decimal l = l.n
