-- `paths::frames::Frames::push` puts a frame in front.
-- Assumes nothing.
use borrow.Author.Rules.{rules}
use mathlib.Core.Path.{◌≡◌, refl, ◌∙◌, ap}
use mathlib.Core.List.{◌∷◌}
use lib.ListN.{length}
use Rattle.paths.specs.declared.frames.Frame.{Frame}
use Rattle.paths.specs.Stack.{top}
use Rattle.paths.proofs.Stack.{length_mapped, top_push}
use native.Mathlib.Omega.{arith}
use Rattle.paths.proofs.frames.Frames.push.Goals as goal

pub returns : goal.returns
returns c =
    let long : length c.args.self.slots ≡ 32 = search (rules, length_mapped) in
    (refl, top_push c.args.self.depth c.args.self.slots _ (omega arith) ∙ ap (λ (f : Frame). f ∷ top c.args.self.depth c.args.self.slots) c.of.ensures)
