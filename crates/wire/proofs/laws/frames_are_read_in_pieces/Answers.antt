use Rattle.wire.proofs.FrameLaws.{framed-short, framed-broken, framed-cut, framed-came}
use Rattle.wire.proofs.laws.frames_are_read_in_pieces.Goals as goal

pub returns-clause-short : goal.returns-clause-short
returns-clause-short c = framed-short

pub returns-clause-broken : goal.returns-clause-broken
returns-clause-broken c = framed-broken

pub returns-clause-cut : goal.returns-clause-cut
returns-clause-cut c = framed-cut

pub returns-clause-came : goal.returns-clause-came
returns-clause-came c = framed-came
