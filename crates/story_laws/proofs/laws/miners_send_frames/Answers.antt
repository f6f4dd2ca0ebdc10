use Rattle.story_laws.proofs.Miners.{sends_frames}
use Rattle.story_laws.proofs.laws.miners_send_frames.Goals as goal

pub returns : goal.returns
returns c = sends_frames
