use Rattle.honest_miners.proofs.Reading.{reads_frames}
use Rattle.honest_miners.proofs.frame_laws.fronts_of_frames_are_frames.Goals as goal

pub returns : goal.returns
returns c = λ s. reads_frames s
