-- All that an answer is a function of, beside the words.
use Rattle.std.specs.Prelude.{ℕ, ℤ, List, length, drop, get_or}
use Rattle.outside.specs.Files.{Contents, FilesState}
use Rattle.outside.specs.Links.{LinksState}
use Rattle.outside.specs.Sink.{SinkState}
use Rattle.outside.specs.Spawner.{SpawnerState, given_in}
use Rattle.command_frame.specs.Moments.{Moment, Sources}
use Rattle.program_commands.specs.Judging.{Finding}
use Rattle.proto_core.specs.declared.party.Number.{Number}
use Rattle.proto_core.specs.declared.party.Number.TheVariants.{One, Two, Three}

-- ---- moments

abbrev pub sources_of : FilesState → LinksState → SpawnerState → Sources
sources_of f l c = record { files = f; links = l; children = c }

abbrev pub moment_of : FilesState → (out err : SinkState) → LinksState → SpawnerState → Moment
moment_of f out err l c = record { sources = sources_of f l c; out = out; err = err }

-- what the files hold at a moment
abbrev pub contents_in : Moment → Contents
contents_in m = m.sources.files.contents

-- ---- what an answer hangs on

-- what the objects tell as they are handed over: what the files hold, the bytes that are to come from each peer, and the status that the child
-- ends with which is started first, second and so on
pub record Outside : Type 0 where
  pub files : Contents
  pub coming : ℕ → List ℕ
  pub status : ℕ → ℤ

-- the numbers of the children that a call has started, in order; it is the spawner that gives them
abbrev pub started_since : (before after : SpawnerState) → List ℕ
started_since before after = given_in (drop (length before.calls) after.calls)

abbrev pub statuses_since : (before after : SpawnerState) → ℕ → ℤ
statuses_since before after k = before.status (get_or (started_since before after) k 0)

-- miner 1's child is started first
abbrev pub place_of : Number → ℕ
place_of One = 0
place_of Two = 1
place_of Three = 2

abbrev pub outside_of : (before after : Sources) → Outside
outside_of before after = record {
  files = before.files.contents;
  coming = before.links.coming;
  status = statuses_since before.children after.children;
}

-- that, and what is found of the program that is read
pub record Told : Type 0 where
  pub outside : Outside
  pub found : Finding

abbrev pub told_of : Outside → Finding → Told
told_of outside found = record { outside = outside; found = found }
