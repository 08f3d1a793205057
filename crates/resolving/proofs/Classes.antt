-- The kind of a row from its code.
-- Assumes nothing.
use mathlib.Core.Path.{refl, ◌≡◌}
use native.Mathlib.Omega.{arith}
use Rattle.strings.specs.Answers.{code_of}
use Rattle.strings.specs.declared.rows.Kind.{Kind as Class}
use Rattle.strings.specs.declared.rows.Kind.TheVariants as classes

pub text_coded : (k : Class) → code_of k ≡ 4 → k ≡ classes.Text
text_coded classes.Null e = absurd (omega arith)
text_coded classes.True e = absurd (omega arith)
text_coded classes.False e = absurd (omega arith)
text_coded classes.Number e = absurd (omega arith)
text_coded classes.Text e = refl
text_coded classes.Array e = absurd (omega arith)
text_coded classes.Object e = absurd (omega arith)
text_coded classes.Free e = absurd (omega arith)

pub array_coded : (k : Class) → code_of k ≡ 5 → k ≡ classes.Array
array_coded classes.Null e = absurd (omega arith)
array_coded classes.True e = absurd (omega arith)
array_coded classes.False e = absurd (omega arith)
array_coded classes.Number e = absurd (omega arith)
array_coded classes.Text e = absurd (omega arith)
array_coded classes.Array e = refl
array_coded classes.Object e = absurd (omega arith)
array_coded classes.Free e = absurd (omega arith)

pub object_coded : (k : Class) → code_of k ≡ 6 → k ≡ classes.Object
object_coded classes.Null e = absurd (omega arith)
object_coded classes.True e = absurd (omega arith)
object_coded classes.False e = absurd (omega arith)
object_coded classes.Number e = absurd (omega arith)
object_coded classes.Text e = absurd (omega arith)
object_coded classes.Array e = absurd (omega arith)
object_coded classes.Object e = refl
object_coded classes.Free e = absurd (omega arith)
