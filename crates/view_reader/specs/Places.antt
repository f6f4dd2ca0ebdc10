-- How far a view's text was read, as a place beside the parts that were read.
use Rattle.std.specs.Prelude.{ℕ, Bool, true, false, ◌&&◌, ◌==◌, List, Option, Some, None}
use Rattle.sc_text.specs.declared.elements.Element.{Element}
use Rattle.proto_core.specs.declared.party.Number.{Number}
use Rattle.view_text.specs.View.{InputShare, Received, View}
use Rattle.view_text.specs.Reading.{Stage, AtHeading, AtInputs, AtMessages, AtOpenings, Whole as AtEnd}
use Rattle.view_reader.specs.declared.place.Place.{Place}
use Rattle.view_reader.specs.declared.place.Place.TheVariants.{Heading, Inputs, Messages, Openings, Whole}

abbrev pub stage_at : Place → List InputShare → List ℕ → List Received → List (List Element) → Stage
stage_at Heading ss ws rs os = AtHeading
stage_at (Inputs i) ss ws rs os = AtInputs i ss
stage_at (Messages i) ss ws rs os = AtMessages i ss ws rs
stage_at (Openings i) ss ws rs os = AtOpenings i ss ws rs os
stage_at (Whole i e) ss ws rs os = AtEnd (record { miner = i; inputs = ss; drew = ws; got = rs; opened = os; end = e })

-- of what comes later nothing is there yet: so many inputs, messages and openings are
abbrev pub nothing_ahead : Place → ℕ → ℕ → ℕ → Bool
nothing_ahead Heading inputs got opened = (inputs == 0) && ((got == 0) && (opened == 0))
nothing_ahead (Inputs i) inputs got opened = (got == 0) && (opened == 0)
nothing_ahead (Messages i) inputs got opened = opened == 0
nothing_ahead (Openings i) inputs got opened = true
nothing_ahead (Whole i e) inputs got opened = true

-- whether the heading comes next
abbrev pub is_heading : Place → Bool
is_heading Heading = true
is_heading _ = false

-- whose view it is, where inputs or the words drawn come next
abbrev pub at_inputs : Place → Option Number
at_inputs (Inputs i) = Some i
at_inputs _ = None

-- whether messages may come next
abbrev pub is_messages : Place → Bool
is_messages (Messages i) = true
is_messages _ = false

-- whose view it is, where openings or the end may come next
abbrev pub before_end : Place → Option Number
before_end (Messages i) = Some i
before_end (Openings i) = Some i
before_end _ = None

-- the stage after a line, where the line could come
abbrev pub taken : Bool → Stage → Option Stage
taken true stage = Some stage
taken false stage = None

-- the view, where all of it was read
abbrev pub whole_of : Stage → Option View
whole_of (AtEnd view) = Some view
whole_of _ = None
