-- What an iterator over a text is still to give.
-- Assumes nothing.
use Rattle.json_text.specs.Bytes.{Bytes}
use Rattle.json_text.specs.Cursor.{before}
use Rattle.strings.specs.declared.text.Decoded.{Decoded}

-- the bytes that are left
unfoldable pub left_of : Decoded → Bytes
left_of d = before d.s.now d.at d.unit d.left
