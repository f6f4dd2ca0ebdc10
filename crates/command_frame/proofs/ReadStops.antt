-- What is known of a stop in the reading, whatever is decided.
use Rattle.std.proofs.Common.{◌≡◌, ◌≤◌, arith, true, Ok, Err, Result, ◌∙◌}
use Rattle.std.specs.Prelude.{IfErr}
use Rattle.outside.specs.Files.{FilesState}
use Rattle.command_frame.specs.declared.object.Object.TheVariants as objects
use Rattle.command_frame.specs.declared.stop.Stop.{Stop}
use Rattle.command_frame.specs.declared.stop.Stop.TheVariants as stops
use Rattle.command_frame.specs.Answer.{Cause}
use Rattle.command_frame.specs.Reads.{Gives, OnlyRead, Stops, StopsReading}

pub stops_reading : {Y : Type 0} (old new : FilesState) (stop : Stop) (decided : Result Y Cause) → Stops old new stop decided → StopsReading old new stop
stops_reading old new stops.Memory decided s = tt
stops_reading old new (stops.Refused r) decided s = tt
stops_reading old new (stops.Breached b) decided s = s
stops_reading old new stops.Usage decided s = s
stops_reading old new (stops.Failed (objects.File line)) decided s = s.rose
stops_reading old new (stops.Failed objects.Output) decided s = s
stops_reading old new (stops.Failed objects.Links) decided s = s
stops_reading old new (stops.Failed objects.Children) decided s = s

-- a stop in a later step of the reading
pub stops_later : (first old new : FilesState) (stop : Stop) → first.faults ≤ old.faults → StopsReading old new stop → StopsReading first new stop
stops_later first old new stops.Memory later s = tt
stops_later first old new (stops.Refused r) later s = tt
stops_later first old new (stops.Breached b) later s = s
stops_later first old new stops.Usage later s = s
stops_later first old new (stops.Failed (objects.File line)) later s = omega (arith, later, s)
stops_later first old new (stops.Failed objects.Output) later s = s
stops_later first old new (stops.Failed objects.Links) later s = s
stops_later first old new (stops.Failed objects.Children) later s = s

-- ---- what was read before, and what is read after it

pub read_on : (a b c : FilesState) → OnlyRead a b → OnlyRead b c → OnlyRead a c
read_on a b c h k =
    let early = h.later in
    let late = k.later in
    record {
      same = record { told = k.same.told ∙ h.same.told; contents = k.same.contents ∙ h.same.contents };
      later = omega (arith, early, late);
      still = λ s. k.still (h.still s);
    }

-- what is decided of files that stayed as they were is decided of those of the beginning
pub later_stops : {Y : Type 0} (f g g' : FilesState) (a b : Result Y Cause) → OnlyRead f g → (f.told ≡ true → a ≡ b) → (stop : Stop) → Stops g g' stop b
    → Stops f g' stop a
later_stops f g g' a b only same stops.Memory h = tt
later_stops f g g' a b only same (stops.Refused r) h = λ told. same told ∙ h (only.same.told ∙ told)
later_stops f g g' a b only same (stops.Breached b') h = absurd h
later_stops f g g' a b only same stops.Usage h = absurd h
later_stops f g g' a b only same (stops.Failed (objects.File line)) h =
    let later = only.later in
    let rose = h.rose in
    record { rose = omega (arith, later, rose); missing = λ steady told. same told ∙ h.missing (only.still steady) (only.same.told ∙ told) }
later_stops f g g' a b only same (stops.Failed objects.Output) h = absurd h
later_stops f g g' a b only same (stops.Failed objects.Links) h = absurd h
later_stops f g g' a b only same (stops.Failed objects.Children) h = absurd h

pub later_gives : {X Y : Type 0} (view : X → Y) (f g g' : FilesState) (a b : Result Y Cause) → OnlyRead f g → (f.told ≡ true → a ≡ b) → (r : Result X Stop)
    → Gives view g g' r b → Gives view f g' r a
later_gives view f g g' a b only same (Ok x) h = λ told. same told ∙ h (only.same.told ∙ told)
later_gives view f g g' a b only same (Err stop) h = later_stops f g g' a b only same stop h

-- of what file it tells, the count rose since the beginning
pub gives_anyhow : {X Y : Type 0} (view : X → Y) (f g g' : FilesState) (a : Result Y Cause) (r : Result X Stop) → OnlyRead f g → Gives view g g' r a
    → IfErr r (StopsReading f g')
gives_anyhow view f g g' a (Ok x) only h = tt
gives_anyhow view f g g' a (Err stop) only h = stops_later f g g' stop only.later (stops_reading g g' stop a h)
