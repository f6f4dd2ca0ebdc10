-- Cited by private functions alone: no contract of another crate rests on it.
-- What operations on two operands give.
use Rattle.std.specs.Prelude.{false}
use Rattle.program_trees.specs.Shapes.{shape_of}
use Rattle.reached_instances.specs.Domains.{joined_domain}
use Rattle.lowered_expressions.specs.declared.notes.Given.{Given}
use Rattle.lowered_expressions.specs.declared.noting.Two.{Two}
use Rattle.lowered_expressions.specs.declared.noting.Two.TheVariants.{Element, Cat, Lookup, Of}
use Rattle.lowered_expressions.specs.inner.Notes.{given_of}

abbrev pub two_given : Two → Given → Given → Given
two_given Element l r = given_of l.domain (shape_of l.shape.element false)
two_given Cat l r = given_of (joined_domain l.domain r.domain) l.shape
two_given Lookup l r = given_of (joined_domain l.domain r.domain) (shape_of l.shape.element r.shape.array)
two_given (Of s) l r = given_of (joined_domain l.domain r.domain) s
