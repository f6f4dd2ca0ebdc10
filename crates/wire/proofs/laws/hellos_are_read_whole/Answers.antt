use Rattle.wire.proofs.HelloLaws.{greeted-short, greeted-broken, greeted-came}
use Rattle.wire.proofs.laws.hellos_are_read_whole.Goals as goal

pub returns-clause-short : goal.returns-clause-short
returns-clause-short c = greeted-short

pub returns-clause-broken : goal.returns-clause-broken
returns-clause-broken c = greeted-broken

pub returns-clause-came : goal.returns-clause-came
returns-clause-came c = greeted-came
