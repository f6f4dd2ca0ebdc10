-- What `simulate` plans is what is decided of the files.
use Rattle.std.proofs.Common.{◌≡◌, ℕ, List, length, true, Option, Some, Ok, Err, Result, refl, sym, ◌∙◌, ap, subst}
use Rattle.outside.specs.Files.{FilesState}
use Rattle.command_frame.specs.declared.stop.Stop.{Stop}
use Rattle.command_frame.specs.Answer.{Answer, ◌>>=◌}
use Rattle.command_frame.specs.Reads.{StopNames, Stops}
use Rattle.command_words.specs.Ask.{SimulateAsk}
use Rattle.proto_core.specs.declared.link.Link.{Link}
use Rattle.proto_core.specs.declared.party.Number.{Number}
use Rattle.protocol_model.specs.Network as network
use Rattle.protocol_model.specs.Network.{Delivery}
use Rattle.program_trees.specs.TypedPrograms.{TypedProgramTree}
use Rattle.value_file.specs.declared.public.PublicEntry.{PublicEntry}
use Rattle.tape_file.specs.Tapes.{FourTapes}
use Rattle.language_model.specs.Effects.{Ended, Short, RunStop}
use Rattle.language_model.specs.Reports.{Report}
use Rattle.blind_evaluation.specs.Courses.{IsEnded}
use Rattle.view_model.specs.Seen.{Seen}
use Rattle.view_text.specs.View.{View}
use Rattle.view_simulator.specs.Views.{lengths_of, made_of, told_run, view_at}
use Rattle.view_simulator.specs.Simulating.{IsMadeView, IsSimulation}
use Rattle.view_simulator.specs.declared.errors.SimulateErr.{SimulateErr}
use Rattle.view_simulator.specs.declared.errors.SimulateErr.TheVariants as refusal
use Rattle.program_commands.specs.Judging.{Finding}
use Rattle.program_commands.specs.Programs.{program_at}
use Rattle.program_commands.specs.Reading.{delivery_at, opened_at, public_at, tape_file_at}
use Rattle.program_commands.specs.Schedules.{by_net, empty_line, refused_with, stalled_line}
use Rattle.tape_commands.specs.Simulate.{IsSimulateStop, by_told, net_simulated, short_line, short_with}
use Rattle.tape_commands.specs.Simulate.{simulate_effect, simulate_of, stop_told, view_simulated}
use Rattle.program_commands.proofs.Judged.{refused_so}
use Rattle.program_commands.proofs.Exits.{unnamed_memory, unnamed_refusal}

-- what gives a view has ended
ended_so : (i : Number) (seen : Seen) (r : Report) (s : RunStop) (view : View) → view_at i seen r s ≡ Some view → IsEnded s
ended_so i seen r (Ended ending) view is = tt
ended_so i seen r Short view is = absurd cc

pub view_ended : (ask : SimulateAsk) (p : TypedProgramTree) (part : List PublicEntry) (opened : List ℕ) (tapes : FourTapes) (delivery : Delivery) (view : View)
    → view_simulated ask p part opened tapes delivery ≡ Some view → IsEnded (stop_told ask p part opened tapes)
view_ended ask p part opened tapes delivery view is =
    ended_so ask.miner (made_of ask.miner part tapes delivery (told_run p part opened (lengths_of tapes) ask.budget))
    (told_run p part opened (lengths_of tapes) ask.budget) (stop_told ask p part opened tapes) view is

-- ---- what is decided once the files are read

pub enough_told : (have : ℕ) (s : RunStop) (more : Answer) → IsEnded s → (by_told have s >>= λ ending. more) ≡ more
unfolding by_told
enough_told have (Ended ending) more ended = refl
enough_told have Short more ended = absurd ended

pub short_told : (have : ℕ) (s : RunStop) (more : Answer) → s ≡ Short → (by_told have s >>= λ ending. more) ≡ Err (short_with (short_line have))
unfolding by_told
short_told have s more is = rw is refl

module _ (ask : SimulateAsk) (p : TypedProgramTree) (part : List PublicEntry) (opened : List ℕ) (tapes : FourTapes) (delivery : Delivery) where
  abbrev pub simulated_to : Answer
  simulated_to = Ok (simulate_effect ask (view_simulated ask p part opened tapes delivery))

  -- where the words suffice
  abbrev pub by_the_net : Answer
  by_the_net = by_net (net_simulated ask p part opened tapes delivery) >>= λ taken. simulated_to

  abbrev pub by_the_words : Answer
  by_the_words = by_told (length opened) (stop_told ask p part opened tapes) >>= λ ending. by_the_net

  pub taken_so : net_simulated ask p part opened tapes delivery ≡ network.Accepted → by_the_net ≡ simulated_to
  unfolding by_net
  taken_so accepted = rw accepted refl

  emptied : (entry : ℕ) (link : Link) (sent : ℕ) → net_simulated ask p part opened tapes delivery ≡ network.EmptyLink entry link sent
      → by_the_net ≡ Err (refused_with (empty_line entry link sent))
  unfolding by_net
  emptied entry link sent is = rw is refl

  stalled : (miner : Number) (link : Link) → net_simulated ask p part opened tapes delivery ≡ network.Stalled miner link
      → by_the_net ≡ Err (refused_with (stalled_line miner link))
  unfolding by_net
  stalled miner link is = rw is refl

  pub enough : IsEnded (stop_told ask p part opened tapes) → by_the_words ≡ by_the_net
  enough ended = enough_told (length opened) (stop_told ask p part opened tapes) by_the_net ended

  short : (have : ℕ) → have ≡ length opened → stop_told ask p part opened tapes ≡ Short → by_the_words ≡ Err (short_with (short_line have))
  short have all is =
      short_told (length opened) (stop_told ask p part opened tapes) by_the_net is
      ∙ ap (λ (n : ℕ). Err (short_with (short_line n))) (sym all)

-- what is decided of the files that were read
module _ (found : Finding) (ask : SimulateAsk) (f : FilesState) (p : TypedProgramTree) (part : List PublicEntry) (opened : List ℕ) (tapes : FourTapes)
    (delivery : Delivery)
    (program : f.told ≡ true → program_at found f.contents ask.program ≡ Ok p)
    (public : f.told ≡ true → public_at f.contents ask.public ≡ Ok part)
    (words : f.told ≡ true → opened_at f.contents ask.opened ≡ Ok opened)
    (taped : f.told ≡ true → tape_file_at f.contents ask.sim ≡ Ok tapes)
    (order : f.told ≡ true → delivery_at f.contents ask.order ≡ Ok delivery) where
  read_so : f.told ≡ true → simulate_of found ask f.contents ≡ by_the_words ask p part opened tapes delivery
  unfolding simulate_of
  read_so t = rw (program t, public t, words t, taped t, order t) refl

  made_so : (view : View) → IsMadeView ask.miner p part opened tapes ask.budget delivery view → f.told ≡ true
      → simulate_of found ask f.contents ≡ Ok (simulate_effect ask (Some view))
  made_so view h t =
      read_so t ∙ enough ask p part opened tapes delivery (view_ended ask p part opened tapes delivery view h.made)
      ∙ taken_so ask p part opened tapes delivery h.accepted
      ∙ ap (λ (v : Option View). Ok (simulate_effect ask v)) h.made

  -- a simulator without a view stops the command
  stops_so : (f' : FilesState) (e : SimulateErr) (stop : Stop) → IsSimulation ask.miner p part opened tapes ask.budget delivery (Err e)
      → IsSimulateStop e stop → Stops f f' stop (simulate_of found ask f.contents)
  stops_so f' (refusal.OpenedShort have) stop h is =
      refused_so f f' stop (simulate_of found ask f.contents) is
      (λ t. read_so t ∙ short ask p part opened tapes delivery have h.all h.short)
  stops_so f' (refusal.EmptyLink entry link sent) stop h is =
      refused_so f f' stop (simulate_of found ask f.contents) is
      (λ t. read_so t ∙ enough ask p part opened tapes delivery h.ended ∙ emptied ask p part opened tapes delivery entry link sent h.refused)
  stops_so f' (refusal.Stalled miner link) stop h is =
      refused_so f f' stop (simulate_of found ask f.contents) is
      (λ t. read_so t ∙ enough ask p part opened tapes delivery h.ended ∙ stalled ask p part opened tapes delivery miner link h.refused)
  stops_so f' refusal.Memory stop h is = subst (λ (s : Stop). Stops f f' s (simulate_of found ask f.contents)) (sym is) tt

  -- the words as they are lent to the simulator
  module _ (lent : List ℕ) (same : lent ≡ opened) where
    abbrev answers : (words : List ℕ) → Result View SimulateErr → Type 0
    answers words result = IsSimulation ask.miner p part words tapes ask.budget delivery result

    pub simulated_so : (view : View) → answers lent (Ok view) → f.told ≡ true
        → simulate_of found ask f.contents ≡ Ok (simulate_effect ask (Some view))
    simulated_so view h t = made_so view (subst (λ (words : List ℕ). answers words (Ok view)) same h) t

    pub stops : (f' : FilesState) (e : SimulateErr) (stop : Stop) → answers lent (Err e) → IsSimulateStop e stop
        → Stops f f' stop (simulate_of found ask f.contents)
    stops f' e stop h is = stops_so f' e stop (subst (λ (words : List ℕ). answers words (Err e)) same h) is

-- a simulator that gives no view names no file
pub simulate_stop_names : (paths : List (List ℕ)) (e : SimulateErr) (stop : Stop) → IsSimulateStop e stop → StopNames paths stop
simulate_stop_names paths (refusal.OpenedShort have) stop of = unnamed_refusal paths (short_with (short_line have)) stop of
simulate_stop_names paths (refusal.EmptyLink entry link sent) stop of = unnamed_refusal paths (refused_with (empty_line entry link sent)) stop of
simulate_stop_names paths (refusal.Stalled miner link) stop of = unnamed_refusal paths (refused_with (stalled_line miner link)) stop of
simulate_stop_names paths refusal.Memory stop of = unnamed_memory paths stop of
