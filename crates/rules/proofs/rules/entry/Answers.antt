-- `calls::rules::entry` meets its contract: from its two texts.
-- Assumes nothing.
use mathlib.Core.Path.{refl}
use Rattle.rules.proofs.rules.entry.Goals as goal

pub text_of-requires : goal.text_of-requires
text_of-requires c =
    record {
      given = c.requires.given;
      known =
          record { given = c.requires.known.given.name; known = c.requires.known.known.name };
    }

pub text_of-requires-2 : goal.text_of-requires-2
text_of-requires-2 c =
    record {
      given = c.requires.given;
      known = record { given = c.requires.known.given.message; known = c.requires.known.known.message };
    }

pub returns : goal.returns
returns c =
    λ s x g.
    record {
      is_kind = refl;
      is_place = refl;
      name = c.text_of.ensures s x.name g.name;
      message = c.text_of-2.ensures s x.message g.message;
    }
