use Rattle.verified_code.proofs.Sound.{verified_is_sound}
use Rattle.code_model.proofs.Settled.{sound_fits, sound_forward}
use Rattle.code_model.proofs.laws.verified_code_runs.Goals as goal

pub returns : goal.returns
returns c = λ code verified. let sound = verified_is_sound code verified in (sound_fits code sound, sound_forward code sound)
