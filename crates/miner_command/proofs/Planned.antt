-- What `miner` answers is what is decided of the files and of the bytes that come.
use Rattle.std.proofs.Common.{◌≡◌, ℕ, List, [], true, Result, Ok, Err, IfErr, refl, sym, ap, ◌∙◌, subst, inl, inr}
use Rattle.outside.specs.Causes.{Rose}
use Rattle.outside.specs.Files.{Contents, FilesState, OnlyRead, file_at}
use Rattle.outside.specs.Links.{LinksState}
use Rattle.proto_core.specs.declared.party.Number.{Number}
use Rattle.proto_core.proofs.Beginnings.{append-none}
use Rattle.command_frame.specs.declared.object.Object.TheVariants as objects
use Rattle.command_frame.specs.declared.plan.Plan.{Plan}
use Rattle.command_frame.specs.declared.stop.Stop.{Stop}
use Rattle.command_frame.specs.declared.stop.Stop.TheVariants as stops
use Rattle.command_frame.specs.Answer.{Answer, Cause, effect_of}
use Rattle.command_frame.specs.Reads.{BothTold, GivesOfPeers, Stops, StopsReadingAmong}
use Rattle.command_frame.specs.Status.{of_peers}
use Rattle.command_words.specs.Ask.{MinerAsk}
use Rattle.miner_core.proofs.Sources.{rose_on}
use Rattle.miner_node.specs.Peers.{Sends}
use Rattle.node_run.specs.Nodes.{Outgoing, own_bytes, own_serving}
use Rattle.node_run.proofs.Joins.{none_sent}
use Rattle.tape_sources.specs.FileTapes.{file_in, words_in}
use Rattle.miner_command.specs.Files.{Given, given_at}
use Rattle.miner_command.specs.Miner.{miner_of, node_answer, own_of, sent_of, sent_with}
use Rattle.miner_command.specs.declared.files.MinerFiles.{MinerFiles}
use Rattle.miner_command.specs.Playing.{LeavesLinks, MovesBy, MovesSo, Plays, PlaysOn, SendsSo}
use Rattle.miner_command.specs.Views.{given_seen, given_with}

-- what is told, whatever is decided
abbrev pub StopsAnyhow : (f f' : FilesState) (l l' : LinksState) → Stop → Type 0
StopsAnyhow f f' l l' stop = StopsReadingAmong (Rose l.faults l'.faults) of_peers f f' stop

-- ---- A FILE STOPS IT

unread : (ask : MinerAsk) (files : Contents) (coming : ℕ → List ℕ) (cause : Cause) → given_at ask files ≡ Err cause
    → miner_of ask files coming ≡ Err cause
unfolding miner_of
unread ask files coming cause is = rw is refl

none_to : (i : Number) (sent : ℕ → List ℕ) → Sends i sent sent [] []
none_to i sent = record { to_next = sym (append-none _); to_previous = sym (append-none _); others = λ p a b. refl }

module _ (ask : MinerAsk) (f f' : FilesState) (l : LinksState) where
  abbrev decided : Answer
  decided = miner_of ask f.contents l.coming

  pub file_stops : (stop : Stop) → Stops f f' stop (given_at ask f.contents) → GivesOfPeers {X = Plan} effect_of f f' l l (Err stop) decided
  file_stops stops.Memory h = tt
  file_stops stops.Usage h = absurd h
  file_stops (stops.Refused r) h = λ both. unread ask f.contents l.coming _ (h both.0)
  file_stops (stops.Breached b) h = absurd h
  file_stops (stops.Failed (objects.File line)) h =
      record { rose = h.rose; missing = λ st t. unread ask f.contents l.coming _ (h.missing st t) }
  file_stops (stops.Failed objects.Output) h = absurd h
  file_stops (stops.Failed objects.Links) h = absurd h
  file_stops (stops.Failed objects.Children) h = absurd h

  pub file_sends : (stop : Stop) → Stops f f' stop (given_at ask f.contents)
      → SendsSo ask.me l l ask.tape (sent_of ask f.contents l.coming) (Err stop)
  file_sends stops.Memory h = none_sent ask.me l.sent l.sent _ _ refl
  file_sends stops.Usage h = absurd h
  file_sends (stops.Refused r) h = none_to ask.me l.sent
  file_sends (stops.Breached b) h = absurd h
  file_sends (stops.Failed (objects.File line)) h = inl (none_to ask.me l.sent)
  file_sends (stops.Failed objects.Output) h = absurd h
  file_sends (stops.Failed objects.Links) h = absurd h
  file_sends (stops.Failed objects.Children) h = absurd h

  pub file_anyhow : (stop : Stop) → Stops f f' stop (given_at ask f.contents) → StopsAnyhow f f' l l stop
  file_anyhow stops.Memory h = tt
  file_anyhow stops.Usage h = absurd h
  file_anyhow (stops.Refused r) h = tt
  file_anyhow (stops.Breached b) h = absurd h
  file_anyhow (stops.Failed (objects.File line)) h = h.rose
  file_anyhow (stops.Failed objects.Output) h = absurd h
  file_anyhow (stops.Failed objects.Links) h = absurd h
  file_anyhow (stops.Failed objects.Children) h = absurd h

  pub file_leaves : (stop : Stop) → Stops f f' stop (given_at ask f.contents) → LeavesLinks ask.tape l l (Err stop)
  file_leaves stops.Memory h = tt
  file_leaves stops.Usage h = absurd h
  file_leaves (stops.Refused r) h = refl
  file_leaves (stops.Breached b) h = absurd h
  file_leaves (stops.Failed (objects.File line)) h = inl refl
  file_leaves (stops.Failed objects.Output) h = absurd h
  file_leaves (stops.Failed objects.Links) h = absurd h
  file_leaves (stops.Failed objects.Children) h = absurd h

-- ---- THE FILES ARE READ

reads_on : (ask : MinerAsk) (files : Contents) (coming : ℕ → List ℕ) (given : Given) → given_at ask files ≡ Ok given
    → miner_of ask files coming ≡ node_answer ask (own_serving ask.me (own_of ask given) coming)
unfolding miner_of
reads_on ask files coming given is = rw is refl

sends_on : (ask : MinerAsk) (files : Contents) (coming : ℕ → List ℕ) (given : Given) → given_at ask files ≡ Ok given
    → sent_of ask files coming ≡ own_bytes ask.me (own_of ask given) coming
unfolding sent_of
sends_on ask files coming given is = ap (λ (g : Result Given Cause). sent_with ask g coming) is

-- links that are as they were
pub moves_none : (ask : MinerAsk) (read : Result Given Cause) (l : LinksState) → MovesBy ask read l l
moves_none ask (Ok given) l = λ told. inl (record { told = refl; moves = refl; sent = refl; coming = refl })
moves_none ask (Err cause) l = record { told = refl; moves = refl; sent = refl; coming = refl }

-- the files are read in one state of the store, and the tape is drawn in later ones
module _ (ask : MinerAsk) (f b f' : FilesState) (l l' : LinksState) (read : MinerFiles) (only : OnlyRead f b) where
  abbrev Decided : List ℕ → Type 0
  Decided tape = given_at ask f.contents ≡ Ok (given_with read tape)

  -- what was read is decided of the files, with the words that are in the file of the tape
  module _ (is : f.told ≡ true → given_at ask f.contents ≡ Ok (given_seen (file_in f ask.tape) read)) where
    tape_is : f.told ≡ true → (tape : List ℕ) → (b.told ≡ true → tape ≡ words_in (file_in b ask.tape) 8 read.tape.words) → Decided tape
    tape_is told tape there =
        let same : tape ≡ words_in (file_in f ask.tape) 8 read.tape.words =
        there (only.same.told ∙ told) ∙ ap (λ files. words_in (file_at files ask.tape) 8 read.tape.words) only.same.contents in
        is told ∙ ap (λ (t : List ℕ). Ok (given_with read t)) (sym same)

    module _ (tape : List ℕ) (there : b.told ≡ true → tape ≡ words_in (file_in b ask.tape) 8 read.tape.words) where
      abbrev given : Given
      given = given_with read tape

      on : (both : BothTold f l) → miner_of ask f.contents l.coming ≡ node_answer ask (own_serving ask.me (own_of ask given) l.coming)
      on both = reads_on ask f.contents l.coming given (tape_is both.0 tape there)

      gives_so : (result : Result Plan Stop) → Plays ask given b f' l l' result
          → GivesOfPeers effect_of f f' l l' result (miner_of ask f.contents l.coming)
      gives_so (Ok plan) h = λ both. on both ∙ h.answers both.1
      gives_so (Err stops.Memory) h = tt
      gives_so (Err stops.Usage) h = absurd h.answers
      gives_so (Err (stops.Refused r)) h = absurd h.answers
      gives_so (Err (stops.Breached x)) h = λ both. on both ∙ h.answers.1 both.1
      gives_so (Err (stops.Failed (objects.File line))) h =
          record {
            rose = rose_on f.faults b.faults f'.faults only.later h.answers.1.rose;
            missing = λ st t. absurd (h.answers.1.unsteady (only.same.told ∙ t) (only.still st));
          }
      gives_so (Err (stops.Failed objects.Output)) h = absurd h.answers
      gives_so (Err (stops.Failed objects.Links)) h =
          record { rose = h.answers.rose; dry = λ st both. on both ∙ h.answers.dry st both.1 }
      gives_so (Err (stops.Failed objects.Children)) h = absurd h.answers

      sends_so : (result : Result Plan Stop) → Plays ask given b f' l l' result → BothTold f l
          → SendsSo ask.me l l' ask.tape (sent_of ask f.contents l.coming) result
      sends_so result h both =
          subst (λ (out : Outgoing). SendsSo ask.me l l' ask.tape out result)
          (sym (sends_on ask f.contents l.coming given (tape_is both.0 tape there))) (h.sends both.1)

    pub played_gives : (result : Result Plan Stop) → PlaysOn ask read b f' l l' result
        → GivesOfPeers effect_of f f' l l' result (miner_of ask f.contents l.coming)
    played_gives result h = gives_so h.tape h.there result h.plays

    pub played_sends : (result : Result Plan Stop) → PlaysOn ask read b f' l l' result → BothTold f l
        → SendsSo ask.me l l' ask.tape (sent_of ask f.contents l.coming) result
    played_sends result h both = sends_so h.tape h.there result h.plays both

    pub played_moves : (result : Result Plan Stop) → PlaysOn ask read b f' l l' result → BothTold f l → MovesSo ask f.contents l l'
    played_moves result h both = subst (λ (g : Result Given Cause). MovesBy ask g l l') (sym (tape_is both.0 h.tape h.there)) h.plays.joins

  anyhow_so : (given : Given) (stop : Stop) → Plays ask given b f' l l' (Err stop) → StopsAnyhow f f' l l' stop
  anyhow_so had stops.Memory h = tt
  anyhow_so had stops.Usage h = absurd h.answers
  anyhow_so had (stops.Refused r) h = tt
  anyhow_so had (stops.Breached x) h = h.answers.0
  anyhow_so had (stops.Failed (objects.File line)) h = rose_on f.faults b.faults f'.faults only.later h.answers.1.rose
  anyhow_so had (stops.Failed objects.Output) h = absurd h.answers
  anyhow_so had (stops.Failed objects.Links) h = h.answers.rose
  anyhow_so had (stops.Failed objects.Children) h = absurd h.answers

  pub played_anyhow : (result : Result Plan Stop) → PlaysOn ask read b f' l l' result → IfErr result (StopsAnyhow f f' l l')
  played_anyhow (Ok plan) h = tt
  played_anyhow (Err stop) h = anyhow_so (given_with read h.tape) stop h.plays

  leaves_so : (given : Given) (stop : Stop) → Plays ask given b f' l l' (Err stop) → LeavesLinks ask.tape l l' (Err stop)
  leaves_so had stops.Memory h = tt
  leaves_so had stops.Usage h = absurd h.answers
  leaves_so had (stops.Refused r) h = absurd h.answers
  leaves_so had (stops.Breached x) h = tt
  leaves_so had (stops.Failed (objects.File line)) h = inr h.answers.0
  leaves_so had (stops.Failed objects.Output) h = absurd h.answers
  leaves_so had (stops.Failed objects.Links) h = tt
  leaves_so had (stops.Failed objects.Children) h = absurd h.answers

  pub played_leaves : (result : Result Plan Stop) → PlaysOn ask read b f' l l' result → LeavesLinks ask.tape l l' result
  played_leaves (Ok plan) h = tt
  played_leaves (Err stop) h = leaves_so (given_with read h.tape) stop h.plays
