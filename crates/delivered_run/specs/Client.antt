-- What the client makes of the shares that are handed in.
use Rattle.std.specs.Prelude.{ℕ, List}
use Rattle.sc_text.specs.declared.elements.Element.{Element}
use Rattle.program_trees.specs.declared.kinds.Shape.{Shape}
use Rattle.miner_core.specs.Places.{form_of}
use Rattle.program_run.specs.Telling.{elements_told}
use Rattle.code_runs.specs.ClientTold.{all_added_up}

-- the elements, so many, of a value of this shape, of which the three miners have these shares
abbrev pub handed_elements : Shape → (count : ℕ) → (first second third : List ℕ) → List Element
handed_elements shape count first second third = elements_told (form_of shape) (all_added_up (form_of shape).element count first second third)
