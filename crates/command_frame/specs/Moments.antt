-- The states of the objects at one moment, and which of them a command reaches.
use Rattle.std.specs.Prelude.{◌≡◌, Bool, true, false}
use Rattle.outside.specs.Files.{FilesState}
use Rattle.outside.specs.Links.{LinksState}
use Rattle.outside.specs.Sink.{SinkState}
use Rattle.outside.specs.Spawner.{SpawnerState}
use Rattle.command_frame.specs.declared.status.Status.{Status}

-- what a command decides by, and may change before it decides: the files, the links to the peers, other programs
pub record Sources : Type 0 where
  pub files : FilesState
  pub links : LinksState
  pub children : SpawnerState

-- all objects: these, the output, and the error stream
pub record Moment : Type 0 where
  pub sources : Sources
  pub out : SinkState
  pub err : SinkState

-- what a command reaches beside files and output, and for which statuses it stops at what another miner did
pub record Reach : Type 0 where
  pub links : Bool
  pub children : Bool
  pub breach : Status → Bool

-- files and output alone
abbrev pub files_alone : Reach
files_alone = record { links = false; children = false; breach = λ s. false }

-- what is reached tells what it holds
pub record AreTold (reach : Reach) (s : Sources) : Type 0 where
  pub files : s.files.told ≡ true
  pub links : reach.links ≡ true → s.links.told ≡ true
  pub children : reach.children ≡ true → s.children.told ≡ true

-- what is reached is steady
pub record AreSteady (reach : Reach) (m : Moment) : Type 0 where
  pub files : m.sources.files.steady ≡ true
  pub out : m.out.steady ≡ true
  pub links : reach.links ≡ true → m.sources.links.steady ≡ true
  pub children : reach.children ≡ true → m.sources.children.steady ≡ true
