-- What the calls of links in memory mean.
use Rattle.std.specs.Prelude.{List, map}
use Rattle.outside.specs.Links.{LinkMove, joined, gave, took}
use Rattle.outside.specs.declared.link_call.LinkCall.{LinkCall}
use Rattle.outside.specs.declared.link_call.LinkCall.TheVariants.{Joined, Gave, Took}

-- a call, without where its bytes lie in memory
abbrev pub move_of : LinkCall → LinkMove
move_of (Joined me port) = joined me port
move_of (Gave peer bytes) = gave peer bytes.items
move_of (Took peer bytes) = took peer bytes.items

abbrev pub moves_of : List LinkCall → List LinkMove
moves_of calls = map move_of calls
