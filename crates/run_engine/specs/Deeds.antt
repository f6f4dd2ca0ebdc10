-- What a call does that its answer doesn't tell: what `load` prints whatever the files tell, what `miner` sends, which programs `trio` starts.
use Rattle.std.specs.Prelude.{◌≡◌, ◌≢◌, ◌⊎◌, ℕ, List, [], true, Some}
use Rattle.outside.specs.Causes.{Rose}
use Rattle.outside.specs.Spawner.{SpawnerState}
use Rattle.command_frame.specs.declared.status.Status.{Status}
use Rattle.command_frame.specs.declared.status.Status.TheVariants.{Child, Disagree, File, Write}
use Rattle.command_frame.specs.Answer.{Written}
use Rattle.command_frame.specs.Moments.{AreTold, Moment}
use Rattle.command_frame.specs.Status.{is_end}
use Rattle.command_words.specs.Ask.{MinerAsk, TrioAsk, load, miner, trio, words_of}
use Rattle.proto_core.specs.declared.party.Number.{Number}
use Rattle.trio_command.specs.Deciding.{trio_reach}
use Rattle.trio_command.specs.Launching.{AreRun, MayLaunch}
use Rattle.trio_command.specs.Trio.{words_for}
use Rattle.run_engine.specs.Call.{OfEachAnswer}
use Rattle.run_engine.specs.Loading.{Loaded}
use Rattle.run_engine.specs.MinerPromises.{MinerSends}
use Rattle.run_engine.specs.Moves.{HadFiles}
use Rattle.run_engine.specs.Told.{contents_in}
use Rattle.run_engine.specs.Words.{files_and_links}

-- miners 1, 2 and 3 were started with these words, all before any was waited for, and then each was waited for: where the call has ended, where the output
-- failed, and where two texts differ; so they were where a child or a text is the cause, but that a start or a wait may have failed, as the count of faults
-- tells; at a file that fails it is so, or no child was started
pub record StartsByStatus (words : Number → List (List ℕ)) (before after : SpawnerState) (given : Status) : Type 0 where
  pub ended : (is_end given ≡ true) ⊎ (given ≡ Write) → AreRun words before after
  pub differ : given ≡ Disagree → AreRun words before after
  pub child : given ≡ Child → AreRun words before after ⊎ Rose before.faults after.faults
  pub file : given ≡ File → (after ≡ before) ⊎ AreRun words before after

-- they were where the answer writes files first; where it doesn't no child is started, however it stops
pub record StartsByAnswer (words : Number → List (List ℕ)) (first : List Written) (before after : SpawnerState) (given : Status) : Type 0 where
  pub none : first ≡ [] → after ≡ before
  pub some : first ≢ [] → StartsByStatus words before after given

pub record Deeds (words : List (List ℕ)) (before after : Moment) (given : Status) : Type 0 where
  -- `load` prints the text of the evaluation of the workload of its number, and how many messages were delivered, with the evaluation's end; or the
  -- output failed, which a steady one doesn't, or memory ran out. It is never refused. It reads no file, so whether any tells or is steady is all one.
  pub loads : (number : ℕ) → words_of words ≡ Some (load number) → Loaded number before.out after.out given
  -- The bytes that `miner` sends are a hello to each peer and the frames of what its node sends on the messages that came: where its run has ended, or
  -- it is refused, exactly these, else a front of them; and nothing to anybody else. It joins its peers before it moves a byte, as the miner and at the
  -- port of its words; and it takes a byte only when it awaits one of this peer, and has given all that the bytes taken before lead to. Files and links
  -- tell.
  pub miner_sends :
      (ask : MinerAsk) → words_of words ≡ Some (miner ask) → AreTold files_and_links before.sources
      → MinerSends ask (contents_in before) before.sources.links after.sources.links given
  -- However `trio` stops, no other program is started or waited for, or it starts miners 1, 2 and 3 in this order with the words of `miner` until a
  -- start fails; where none fails it waits for each of them. It does nothing else with other programs.
  pub trio_starts_miners_only :
      (ask : TrioAsk) → words_of words ≡ Some (trio ask) → MayLaunch (words_for ask) before.sources.children after.sources.children
  -- As it started each of them, the store held the files that it deals, beside those that were there before. Files and children tell.
  pub trio_deals_first : (ask : TrioAsk) → words_of words ≡ Some (trio ask) → HadFiles ask before.sources after.sources
  -- Where its answer writes files first, these are what the three miners read, and it has started all three and waited for each, as its status tells;
  -- where not, it has started none: nothing can be dealt, or the program or a file is refused or missing. Files and children tell.
  pub trio_starts :
      (ask : TrioAsk) → words_of words ≡ Some (trio ask) → AreTold trio_reach before.sources
      → OfEachAnswer words before after (λ answer. StartsByAnswer (words_for ask) answer.first before.sources.children after.sources.children given)
