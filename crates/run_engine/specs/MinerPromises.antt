-- What `miner` sends.
use Rattle.std.specs.Prelude.{◌≡◌, ◌⊎◌, true}
use Rattle.outside.specs.Files.{Contents}
use Rattle.outside.specs.Links.{LinksState}
use Rattle.command_frame.specs.declared.status.Status.{Status}
use Rattle.command_frame.specs.Status.{is_end}
use Rattle.command_words.specs.Ask.{MinerAsk}
use Rattle.miner_command.specs.Miner.{sent_of}
use Rattle.miner_command.specs.Playing.{MovesSo, SentAll, SentFronts}
use Rattle.run_engine.specs.Promises.{is_refusal}

-- a front of the bytes that what came leads to, for each peer, and nothing to anybody else; where its run has ended, or it is refused, all of them
pub record MinerSends (ask : MinerAsk) (files : Contents) (before after : LinksState) (given : Status) : Type 0 where
  pub front : SentFronts ask.me before after (sent_of ask files before.coming)
  -- it joined its peers first, and then took each byte when all was given that those before it lead to, and no byte that wasn't awaited
  pub moves : MovesSo ask files before after
  pub all : (is_end given ≡ true) ⊎ (is_refusal given ≡ true) → SentAll ask.me before after (sent_of ask files before.coming)
