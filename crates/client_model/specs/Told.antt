-- A value that is shared anew, for a miner that is told its words: all that is done stays, and the row is an opening's.
use Rattle.proto_core.specs.Ring.{Ring}
use Rattle.proto_core.specs.Protocol.{Protocol}
use Rattle.blocked_protocol.specs.Opening.{open_tape}
use Rattle.blocked_protocol.specs.Resharing.{reshare_protocol}

-- the next miner's words become the previous one's new share, as where the value is opened
abbrev pub told_protocol : Ring → Protocol
told_protocol r = record (reshare_protocol r) { tape = open_tape r; back = open_tape r }
