-- What three miners tell beside the events of the run in the clear.
use Rattle.std.specs.Prelude.{ℕ, List, [], ◌∷◌, length, map}
use Rattle.program_trees.specs.declared.expression.DataType.{DataType}
use Rattle.program_trees.specs.declared.expression.DataType.TheVariants.{Uint64, Int64}
use Rattle.program_trees.specs.declared.expression.DataType.TheVariants as datatype
use Rattle.sc_text.specs.declared.elements.Element.{Element}
use Rattle.sc_text.specs.declared.elements.ElementKind.{ElementKind}
use Rattle.sc_text.specs.declared.event.Event.{Event}
use Rattle.sc_text.specs.declared.event.Event.TheVariants.{Open, Publish, Hand}
use Rattle.proto_core.specs.Ring.{Ring}
use Rattle.proto_core.specs.declared.party.Number.{Number}
use Rattle.proto_core.specs.Strand.{ElementType, Unsigned, Signed, TruthValue, Form, Notice, Shown, Published, Handed}
use Rattle.gates.specs.Clear.{ring_of}
use Rattle.shared_gates.specs.Shares.{AreShares}
use Rattle.language_model.specs.Values.{ring_for, gate_words, element_of, printed_kind}
use Rattle.gate_laws.specs.Dealt.{InRange}

abbrev pub type_of : ElementType → DataType
type_of Unsigned = Uint64
type_of Signed = Int64
type_of TruthValue = datatype.Bool

-- words of a form as they are printed, what their elements are, and the ring in which they are shared
abbrev pub elements_told : Form → List ℕ → List Element
elements_told form words = map (element_of (type_of form.element)) words

abbrev pub kind_told : Form → ElementKind
kind_told form = printed_kind (type_of form.element)

abbrev pub ring_told : Form → Ring
ring_told form = ring_of (ring_for (type_of form.element))

-- numbers are words, truth values 0 or 1
abbrev pub AreOf : Form → List ℕ → Type 0
AreOf form words = InRange (type_of form.element) words

-- one event after another: all three tell the same words, or each its share of them
pub data Tells : List Event → (Number → List Notice) → Type 0 where
  nothing : Tells [] (λ i. [])
  opened :
      {events : List Event} {notices : Number → List Notice} (form : Form) (words : List ℕ) → AreOf form words → Tells events notices
      → Tells (Open (elements_told form words) ∷ events) (λ i. Shown form words ∷ notices i)
  published :
      {events : List Event} {notices : Number → List Notice} (text : List ℕ) (form : Form) (words : List ℕ) → AreOf form words → Tells events notices
      → Tells (Publish text (elements_told form words) ∷ events) (λ i. Published text form words ∷ notices i)
  handed :
      {events : List Event} {notices : Number → List Notice} (text : List ℕ) (form : Form) (words : List ℕ) (shares : Number → List ℕ)
      → AreOf form words → AreShares (ring_told form) (gate_words (type_of form.element) words) shares → Tells events notices
      → Tells (Hand text (kind_told form) (elements_told form words) ∷ events) (λ i. Handed text form (length words) (shares i) ∷ notices i)
