-- The parts of a view, list after list.
use Rattle.std.proofs.Common.{◌≡◌, ◌∷◌, ◌++◌, List, [], refl, ap}
use Rattle.program_trees.specs.declared.expression.DataType.{DataType}
use Rattle.program_trees.specs.declared.expression.DataType.TheVariants.{Uint64}
use Rattle.program_trees.specs.declared.expression.DataType.TheVariants as datatype
use Rattle.sc_text.specs.declared.elements.Element.{Element}
use Rattle.proto_core.specs.Strand.{Notice, Shown, Published, Handed}
use Rattle.miner_core.specs.Places.{element_type_of}
use Rattle.delivered_run.specs.Telling.{elements_told, type_of}
use Rattle.viewed_run.specs.CodeViews.{shown_in}

pub shown_append : (ns ms : List Notice) → shown_in (ns ++ ms) ≡ shown_in ns ++ shown_in ms
shown_append [] ms = refl
shown_append (Shown form words ∷ ns) ms = ap (λ (shown : List (List Element)). elements_told form words ∷ shown) (shown_append ns ms)
shown_append (Published name form words ∷ ns) ms = shown_append ns ms
shown_append (Handed name form count words ∷ ns) ms = shown_append ns ms

pub told_type : (t : DataType) → type_of (element_type_of t) ≡ t
told_type Uint64 = refl
told_type datatype.Int64 = refl
told_type datatype.Bool = refl
