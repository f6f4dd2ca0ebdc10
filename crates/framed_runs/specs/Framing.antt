-- Messages that frames can carry.
use Rattle.std.specs.List.{All}
use Rattle.proto_core.specs.declared.link.Link.{Link}
use Rattle.proto_core.specs.Strand.{Mail}
use Rattle.wire.specs.Frames.{IsFrameable}

-- each message of each link has 1 to 2,048 words of 64 bits
abbrev pub CanBeFramed : Mail → Type 0
CanBeFramed mail = (l : Link) → All IsFrameable (mail l)
