-- `strings::utf8::is_ascii` meets its contract: the greatest byte tells.
-- Assumes nothing.
use mathlib.Core.Path.{◌∙◌, ap}
use Prim.Native.Nat.{ℕ}
use lib.Dec.{ltb}
use Rattle.std.specs.Prelude.{max}
use Rattle.std.proofs.Common.{rules}
use Rattle.std.proofs.lemmas.Iterator.{YieldsList-from_slice}
use Rattle.std.proofs.lemmas.Iterator.Consumers.{fold_from_yields_List}
use Rattle.strings.proofs.Encoding.{greatest_of_all}
use Rattle.strings.proofs.utf8.is_ascii.Goals as goal

pub returns : goal.returns
returns c =
    ap (λ (m : ℕ). ltb m 128)
    (fold_from_yields_List _ (λ (m x : ℕ). max x m) 0 c.fold.result c.fold.ensures.ran (YieldsList-from_slice c.args.s.now cc) (λ a x b q k. search rules)) ∙
    greatest_of_all c.args.s.now 0
