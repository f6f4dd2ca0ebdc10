-- The words that the gates have opened, by what was told of it.
use Rattle.std.specs.Prelude.{ℕ, Bool, true, false, List, [], ◌∷◌, ◌++◌, map}
use Rattle.sc_text.specs.declared.elements.Element.{Element}
use Rattle.sc_text.specs.declared.elements.Element.TheVariants.{Word, Negative, Truth}
pub use Rattle.sc_text.specs.Elements.{element_word}
use Rattle.sc_text.specs.declared.event.Event.{Event}
use Rattle.sc_text.specs.declared.event.Event.TheVariants.{Open}
use Rattle.program_trees.specs.declared.expression.DataType.TheVariants.{Uint64, Int64}
use Rattle.program_trees.specs.declared.expression.DataType.TheVariants as datatype
use Rattle.language_model.specs.Values.{gate_words}

-- all elements of a value are of one type
abbrev pub elements_words : List Element → List ℕ
elements_words [] = []
elements_words (Word x ∷ es) = gate_words Uint64 (map element_word (Word x ∷ es))
elements_words (Negative x ∷ es) = gate_words Int64 (map element_word (Negative x ∷ es))
elements_words (Truth b ∷ es) = gate_words datatype.Bool (map element_word (Truth b ∷ es))

-- opening by opening
abbrev pub learned_of : List Event → List ℕ
learned_of [] = []
learned_of (Open es ∷ events) = elements_words es ++ learned_of events
learned_of (_ ∷ events) = learned_of events
