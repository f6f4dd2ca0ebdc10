-- What a command did until it had decided: it read, wrote the files that its course has first, and asked peers and other programs.
use Rattle.std.specs.Prelude.{ℕ, ◌≡◌, ◌⊎◌, List, true, Result, Ok, Err}
use Rattle.outside.specs.Causes.{Rose}
use Rattle.outside.specs.Files.{FilesState, SameFiles}
use Rattle.command_frame.specs.declared.plan.Plan.{Plan}
use Rattle.command_frame.specs.declared.status.Status.TheVariants.{File}
use Rattle.command_frame.specs.declared.stop.Stop.{Stop}
use Rattle.command_frame.specs.declared.stop.Stop.TheVariants as stops
use Rattle.command_frame.specs.Answer.{Cause, Course, Written, after_writes, breach_of, cause_of, effect_of}
use Rattle.command_frame.specs.Finish.{ShortOfMemory}
use Rattle.command_frame.specs.Moments.{AreTold, Reach, Sources}
use Rattle.command_frame.specs.Objects.{OfObject}
use Rattle.command_frame.specs.Reads.{cut_off}

-- exactly these files were written
pub record AfterWrites (writes : List Written) (old new : FilesState) : Type 0 where
  pub told : new.told ≡ old.told
  pub contents : new.contents ≡ after_writes writes old.contents

-- no file was written, or those before one of them, or all of them
abbrev pub WroteSome : List Written → FilesState → FilesState → Type 0
WroteSome writes old new = SameFiles old new ⊎ (ShortOfMemory writes old new ⊎ AfterWrites writes old new)

-- a course is refused for this cause, and its first files are written
abbrev pub RefusesFor : Course → FilesState → FilesState → Cause → Type 0
RefusesFor course old new cause = (course.answer ≡ Err cause) × AfterWrites course.first old new

module _ (reach : Reach) (course : Course) (old new : Sources) where
  -- the count of the files rose, and that of a steady store only where a file is missing
  pub record FileFailed (line : List ℕ) : Type 0 where
    pub rose : Rose old.files.faults new.files.faults
    pub missing : old.files.steady ≡ true → AreTold reach old → RefusesFor course old.files new.files (record { status = File; line = line })

  -- the count of the links rose, and that of steady ones only where a peer's bytes end early
  pub record LinksFailed : Type 0 where
    pub reached : reach.links ≡ true
    pub rose : Rose old.links.faults new.links.faults
    pub dry : old.links.steady ≡ true → AreTold reach old → course.answer ≡ Err cut_off
    pub files : AreTold reach old → AfterWrites course.first old.files new.files

  -- the count of the other programs rose, which that of steady ones doesn't
  pub record ChildrenFailed : Type 0 where
    pub reached : reach.children ≡ true
    pub rose : Rose old.children.faults new.children.faults
    pub unsteady : old.children.steady ≡ true → AreTold reach old → ⊥
    pub files : AreTold reach old → AfterWrites course.first old.files new.files

  abbrev pub StopsDeciding : Stop → Type 0
  StopsDeciding stops.Memory = AreTold reach old → WroteSome course.first old.files new.files
  StopsDeciding stops.Usage = ⊥
  StopsDeciding (stops.Refused r) = AreTold reach old → RefusesFor course old.files new.files (cause_of r)
  StopsDeciding (stops.Breached b) = (reach.breach b.status ≡ true) × (AreTold reach old → RefusesFor course old.files new.files (breach_of b))
  StopsDeciding (stops.Failed object) = OfObject FileFailed ⊥ LinksFailed ChildrenFailed object

  -- the plan is what is left of the effect once the first files are written
  abbrev pub Decides : Result Plan Stop → Type 0
  Decides (Ok plan) = AreTold reach old → (course.answer ≡ Ok (effect_of plan)) × AfterWrites course.first old.files new.files
  Decides (Err stop) = StopsDeciding stop

-- the same whatever the course is
module _ (reach : Reach) (old new : Sources) where
  abbrev pub StopsDecidingAnyhow : Stop → Type 0
  StopsDecidingAnyhow stops.Memory = Unit {0}
  StopsDecidingAnyhow stops.Usage = ⊥
  StopsDecidingAnyhow (stops.Refused r) = Unit {0}
  StopsDecidingAnyhow (stops.Breached b) = reach.breach b.status ≡ true
  StopsDecidingAnyhow (stops.Failed object) =
      OfObject
      (λ line. Rose old.files.faults new.files.faults) ⊥
      ((reach.links ≡ true) × Rose old.links.faults new.links.faults)
      ((reach.children ≡ true) × Rose old.children.faults new.children.faults) object
