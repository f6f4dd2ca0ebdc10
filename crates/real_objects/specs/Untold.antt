-- Nothing is told of what the real objects hold: only their faults are counted.
use Rattle.std.specs.Prelude.{ℕ, List, pos, [], false, Option}
use Rattle.std.specs.FinMap.{empty}
use Rattle.outside.specs.Files.{FilesState}
use Rattle.outside.specs.Links.{LinksState}
use Rattle.outside.specs.Sink.{SinkState}
use Rattle.outside.specs.Spawner.{SpawnerState}

-- but the sizes that were answered are known
abbrev pub untold_files : ℕ → (List ℕ → Option ℕ) → FilesState
untold_files faults sized = record { told = false; contents = empty; faults = faults; steady = false; sized = sized }

abbrev pub untold_sink : ℕ → SinkState
untold_sink faults = record { told = false; written = []; lost = []; faults = faults; shortages = 0; steady = false }

abbrev pub untold_links : ℕ → LinksState
untold_links faults = record { told = false; moves = []; sent = λ _. []; coming = λ _. []; faults = faults; steady = false }

abbrev pub untold_spawner : ℕ → SpawnerState
untold_spawner faults = record { told = false; calls = []; held = []; status = λ _. pos 0; faults = faults; steady = false }
