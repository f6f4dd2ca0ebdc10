-- What each miner sends and takes, in order, by its links alone.
use Rattle.std.specs.Prelude.{◌≡◌, List, [], map}
use Rattle.proto_core.specs.declared.party.Number.{Number}
use Rattle.proto_core.specs.Parties.{of_three}
use Rattle.proto_core.specs.Script as script
use Rattle.proto_core.specs.Strand.{Shape, shaped}
use Rattle.counted_net.specs.declared.moves.Move.{Move}
use Rattle.counted_net.specs.declared.moves.Move.TheVariants.{Sends, Takes}
use Rattle.counted_net.specs.declared.moves.Scripts.{Scripts}

-- a move without its shape
abbrev pub link_move : script.Move → Move
link_move (script.Sends l shape) = Sends l
link_move (script.Takes l shape) = Takes l

abbrev pub links_in : List script.Move → List Move
links_in moves = map link_move moves

abbrev pub moves_of : Scripts → Number → List Move
moves_of s i = of_three s.one.items s.two.items s.three.items i

-- these are the scripts, but for the shapes
abbrev pub AreScripts : (Number → List script.Move) → Scripts → Type 0
AreScripts moves s = (i : Number) → moves_of s i ≡ links_in (moves i)

-- ---- one shape for all

abbrev pub no_shape : Shape
no_shape = shaped 0 []

abbrev pub plain_move : Move → script.Move
plain_move (Sends l) = script.Sends l no_shape
plain_move (Takes l) = script.Takes l no_shape

abbrev pub plain : List Move → List script.Move
plain moves = map plain_move moves

abbrev pub plain_of : Scripts → Number → List script.Move
plain_of s i = plain (moves_of s i)
