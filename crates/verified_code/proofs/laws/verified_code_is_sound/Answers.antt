use Rattle.verified_code.proofs.Sound.{verified_is_sound}
use Rattle.verified_code.proofs.laws.verified_code_is_sound.Goals as goal

pub returns : goal.returns
returns c = verified_is_sound
