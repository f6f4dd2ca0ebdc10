-- What a command sent to its peers, and which other programs it started.
use Rattle.std.specs.Prelude.{◌≡◌, true, Result, Ok, Err}
use Rattle.outside.specs.Links.{LinksState}
use Rattle.proto_core.specs.declared.party.Number.{Number}
use Rattle.command_frame.specs.declared.stop.Stop.{Stop}
use Rattle.command_frame.specs.declared.stop.Stop.TheVariants as stops
use Rattle.command_frame.specs.Moments.{Sources}
use Rattle.command_frame.specs.Objects.{OfObject}
use Rattle.command_frame.specs.Reads.{BothTold}
use Rattle.command_words.specs.Ask.{Ask, TrioAsk, miner, trio}
use Rattle.miner_command.specs.Miner.{sent_of}
use Rattle.miner_command.specs.Playing.{MovesSo, SentAll, SentFronts}
use Rattle.honest_miners.specs.Nodes.{Outgoing}
use Rattle.program_commands.specs.Judging.{Finding, FoundAt, its_program}
use Rattle.trio_command.specs.Launching.{LaunchesBy, MayLaunchBy, StoredBy}
use Rattle.trio_command.specs.Trio.{prepared_of, words_for}

-- where it goes on, and where files or a peer are refused, all of these bytes; else a front of them for each peer
abbrev pub MinerSent : {X : Type 0} → Number → (old new : LinksState) → Outgoing → Result X Stop → Type 0
MinerSent me old new out (Ok x) = SentAll me old new out
MinerSent me old new out (Err stops.Memory) = SentFronts me old new out
MinerSent me old new out (Err stops.Usage) = SentFronts me old new out
MinerSent me old new out (Err (stops.Refused r)) = SentAll me old new out
MinerSent me old new out (Err (stops.Breached b)) = SentAll me old new out
MinerSent me old new out (Err (stops.Failed object)) =
    OfObject (λ line. SentFronts me old new out) (SentAll me old new out) (SentFronts me old new out) ⊥ object

-- miners 1, 2 and 3 were run where their files could be dealt, as far as its result tells, and no child was started where not
abbrev pub RanThem : {X : Type 0} → TrioAsk → (s s' : Sources) → Result X Stop → Type 0
RanThem ask s s' r =
    (found : Finding) → FoundAt (its_program ask.program) s.files.contents found → s.files.told ≡ true → s.children.told ≡ true
    → LaunchesBy (words_for ask) s.children s'.children r (prepared_of found ask s.files.contents)

-- and as each was started, the store held what was dealt
abbrev pub HadFiles : TrioAsk → (s s' : Sources) → Type 0
HadFiles ask s s' =
    (found : Finding) → FoundAt (its_program ask.program) s.files.contents found → s.files.told ≡ true → s.children.told ≡ true
    → StoredBy s.files.contents s.children s'.children (prepared_of found ask s.files.contents)

-- of a command that reaches no peers and no other programs nothing is said: these are as they were
abbrev pub Moves : {X : Type 0} → Ask → (s s' : Sources) → Result X Stop → Type 0
Moves (miner ask) s s' r =
    BothTold s.files s.links → MinerSent ask.me s.links s'.links (sent_of ask s.files.contents s.links.coming) r
    × MovesSo ask s.files.contents s.links s'.links
Moves (trio ask) s s' r = MayLaunchBy (words_for ask) s.children s'.children × RanThem ask s s' r × HadFiles ask s s'
Moves _ s s' r = Unit {0}
