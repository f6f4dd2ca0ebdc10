use Rattle.verified_code.proofs.Sound.{sound_is_verified}
use Rattle.verified_code.proofs.laws.sound_code_is_verified.Goals as goal

pub returns : goal.returns
returns c = sound_is_verified
