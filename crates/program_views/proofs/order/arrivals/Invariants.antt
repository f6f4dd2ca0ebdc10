use Rattle.std.proofs.Common.{◌≡◌, ◌++◌, drop}
use Rattle.proto_core.specs.Net.{mail_of}
use Rattle.protocol_model.specs.Arrivals.{arrivals}
use Rattle.program_views.specs.Coming.{mail_in}
use Rattle.program_views.proofs.order.arrivals.Given as goal

abbrev pub invariant-loop-link : goal.invariant-loop-link
invariant-loop-link l =
    l.got.items ++ arrivals l.coming.miner (mail_in l.coming) (drop l.link-index l.order)
    ≡ arrivals l.fn.miner (mail_of l.fn.miner l.fn.previous l.fn.next) l.order
