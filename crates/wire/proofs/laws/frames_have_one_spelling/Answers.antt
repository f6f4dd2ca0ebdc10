use Rattle.wire.proofs.FrameLaws.{framed-frame_bytes, framed-spelled, frames-apart}
use Rattle.wire.proofs.laws.frames_have_one_spelling.Goals as goal

pub returns-clause-read_again : goal.returns-clause-read_again
returns-clause-read_again c = framed-frame_bytes

pub returns-clause-spelled_so : goal.returns-clause-spelled_so
returns-clause-spelled_so c = framed-spelled

pub returns-clause-apart : goal.returns-clause-apart
returns-clause-apart c = frames-apart
