-- Lines by hand.
use Rattle.std.specs.Prelude.{◌≡◌, [], ◌∷◌, codes}
use Rattle.std.proofs.Common.{refl}
use Rattle.std.specs.Fmt.{digits}
use Rattle.outside.specs.Spawner.{started, awaited}
use Rattle.row_files.specs.Calls.{calls_told}

pub two_calls : calls_told (started (codes "run" ∷ codes "p.sc" ∷ []) 0 ∷ awaited 0 ∷ []) ≡ codes "start run p.sc\nwait 0\n"
unfolding digits
two_calls = refl
