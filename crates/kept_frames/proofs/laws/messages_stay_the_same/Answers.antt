use Rattle.kept_frames.proofs.Repeated.{sends_the_same}
use Rattle.kept_frames.proofs.laws.messages_stay_the_same.Goals as goal

pub returns : goal.returns
returns c = λ s ks more. sends_the_same s ks more
