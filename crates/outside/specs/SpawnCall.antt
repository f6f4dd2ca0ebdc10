-- What the calls of a spawner in memory mean.
use Rattle.std.specs.Prelude.{ℕ, ℤ, pos, List, [], ◌∷◌, Option, map, Bool, false, ◌==◌, string_bytes, slice_get, unwrap_or}
use Rattle.std.specs.List.{flat_map}
use Rattle.outside.specs.Files.{Contents}
use Rattle.outside.specs.HeldFiles.{held_in}
use Rattle.outside.specs.Spawner.{ChildCall, started, awaited}
use Rattle.outside.specs.declared.spawn_call.SpawnCall.{SpawnCall}
use Rattle.outside.specs.declared.spawn_call.SpawnCall.TheVariants.{Started, Awaited}

-- a call, without where its words lie in memory
abbrev pub call_of : SpawnCall → ChildCall
call_of (Started words child held) = started (map string_bytes words.items) child
call_of (Awaited child) = awaited child

abbrev pub calls_of : List SpawnCall → List ChildCall
calls_of calls = map call_of calls

-- what the store held as children were started
abbrev pub held_by : SpawnCall → List (Option Contents)
held_by (Started words child held) = held_in held ∷ []
held_by (Awaited child) = []

abbrev pub held_of : List SpawnCall → List (Option Contents)
held_of calls = flat_map held_by calls

-- the call started this child
abbrev pub starts_child : ChildCall → ℕ → Bool
starts_child (started words number) child = number == child
starts_child (awaited number) child = false

-- the status of the child with this number; 0 for one that has none of its own
abbrev pub status_in : List ℤ → ℕ → ℤ
status_in statuses child = unwrap_or (slice_get statuses child) (pos 0)
