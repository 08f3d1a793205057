-- Which members of an accepted sheet expressions start from.
-- Assumes nothing.
use Rattle.sheet.specs.declared.shape.Members.{Members}
use Rattle.paths.specs.declared.roots.Roots.{Roots}

-- each by its node; those that may be missing as they were found
unfoldable pub roots_of : Members → Roots
roots_of m =
    record {
      id = m.id;
      entity = m.entity;
      version = m.version;
      from = m.from_state;
      to = m.to_state;
      args = m.args;
      fields = m.fields;
      old = m.old_fields;
    }
