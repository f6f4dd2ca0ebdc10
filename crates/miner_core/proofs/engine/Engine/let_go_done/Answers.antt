use Rattle.std.proofs.Common.{refl}
use Rattle.miner_core.proofs.Past.{lighter_so, holds_little}
use Rattle.miner_core.proofs.engine.Engine.let_go_done.Goals as goal

pub returns-in-All-clause-lighter : goal.returns-in-All-clause-lighter
returns-in-All-clause-lighter g c = record { previous = refl; next = refl; tape = refl; same = refl }

pub returns-in-Needed-clause-lighter : goal.returns-in-Needed-clause-lighter
returns-in-Needed-clause-lighter g c =
    let taken = c.let_go_taken.ensures in
    let drawn = c.let_go_drawn.ensures in
    lighter_so c.args.self.now c.let_go_taken.new.self c.let_go_drawn.new.self taken.previous taken.next taken.previous_left taken.next_left taken.same
    drawn.lets_go drawn.left drawn.same

pub returns-in-Needed-clause-little : goal.returns-in-Needed-clause-little
returns-in-Needed-clause-little g c = λ lets.
    let taken = c.let_go_taken.ensures in
    let drawn = c.let_go_drawn.ensures in
    holds_little c.args.self.now c.let_go_taken.new.self c.let_go_drawn.new.self taken.previous taken.next taken.previous_left taken.next_left taken.same
    drawn.lets_go drawn.left drawn.same
