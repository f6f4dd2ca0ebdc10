use Rattle.std.proofs.Common.{◌∙◌}
use Rattle.proto_core.specs.Parties.{of_three}
use Rattle.trio.proofs.Waits.{waited, all_waited}
use Rattle.trio.proofs.launching.wait_all.Goals as goal

pub returns-clause-waited : goal.returns-clause-waited
returns-clause-waited g c =
    let state = g.C.Spawner.state in
    let one = c.wait-first in
    let two = c.wait-second in
    let three = c.wait-third in
    all_waited (of_three c.args.three.first c.args.three.second c.args.three.third) (of_three one.result two.result three.result)
    (waited (state c.args.children.now) (state one.new.self) c.args.three.first one.result one.ensures.ok one.ensures.status one.ensures.err
    one.ensures.cause one.ensures.steady one.ensures.still)
    (waited (state one.new.self) (state two.new.self) c.args.three.second two.result two.ensures.ok two.ensures.status two.ensures.err
    two.ensures.cause two.ensures.steady two.ensures.still)
    (waited (state two.new.self) (state three.new.self) c.args.three.third three.result three.ensures.ok three.ensures.status three.ensures.err
    three.ensures.cause three.ensures.steady three.ensures.still)

pub returns-clause-held : goal.returns-clause-held
returns-clause-held g c = c.wait-third.ensures.held ∙ c.wait-second.ensures.held ∙ c.wait-first.ensures.held
