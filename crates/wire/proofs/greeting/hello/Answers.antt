use Rattle.wire.proofs.HelloLaws.{written}
use Rattle.wire.proofs.greeting.hello.Goals as goal

pub returns-clause-ok : goal.returns-clause-ok
returns-clause-ok c =
    written c.args.hello.now _ _ _ _ _ c.in_ok-reserve.ensures.items c.in_ok-extend_from_slice.ensures.items
    c.in_ok-extend_from_slice-2.ensures.items c.in_ok-extend_from_slice-3.ensures.items
