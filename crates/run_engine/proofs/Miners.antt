-- The programs that `run` reads are run by three miners on shares.
use Rattle.std.proofs.Common.{◌≡◌, ◌∙◌, ℕ, List}
use Rattle.outside.specs.Files.{Contents}
use Rattle.command_words.specs.Ask.{RunAsk}
use Rattle.tape_file.specs.Tapes.{FourTapes}
use Rattle.program_trees.specs.TypedPrograms.{TypedProgramTree}
use Rattle.value_file.specs.declared.inputs.Entry.{Entry}
use Rattle.protocol_model.specs.Network.{Accepted, Delivery}
use Rattle.net_laws.specs.MinersTold.{IsToldByMiners}
use Rattle.net_laws.proofs.MinersTold.{run_is_told}
use Rattle.program_commands.specs.Dealt.{CanBeDealt}
use Rattle.program_commands.specs.Reports.{eval_with}
use Rattle.miner_commands.specs.Programs.{OwnRunsOnShares}
use Rattle.miner_commands.proofs.Programs.{own_runs_where_accepted}
use Rattle.miner_commands.specs.Premises.{HaveWords, IsMade}
use Rattle.miner_commands.proofs.Taken.{made_deliveries_are_taken}
use Rattle.program_views.specs.Inputs.{AreSound}
use Rattle.program_views.specs.Laws.{IsGivenTo}
use Rattle.program_views.specs.Simulated.{ViewIsSimulated}
use Rattle.program_views.specs.TapeMaps.{MapsCorrespond}
use Rattle.program_views.proofs.Corresponding.{tapes_corresponding}
use Rattle.program_views.proofs.Simulated.{views_simulated}
use Rattle.proto_core.specs.declared.party.Number.{Number}
use Rattle.view_model.specs.TapeMaps.{AreTapes}
use Rattle.miner_commands.specs.CodeViews.{SeesItsView}
use Rattle.miner_commands.proofs.CodeViews.{code_views_are_views}
use Rattle.miner_commands.proofs.Agreeing.{nets_agree}
use Rattle.run_engine.specs.Runs.{HoldsRun, net_for}
use Rattle.program_commands.specs.Held.{HoldsTyped}
use Rattle.run_engine.proofs.OfWords.{read_of_words}
use Rattle.program_commands.proofs.Accepted.{accepted_so, written_so}

pub miners_run : (ask : RunAsk) (files : Contents) (p : TypedProgramTree) (entries : List Entry) (tapes : FourTapes) (delivery : Delivery)
    → HoldsRun ask files p entries tapes delivery → CanBeDealt entries tapes → OwnRunsOnShares p entries tapes ask.budget
miners_run ask files p entries tapes delivery h can =
    own_runs_where_accepted p entries tapes ask.budget (accepted_so ask.program files p h.program) can

-- they tell what evaluation tells
pub told_by_miners : (ask : RunAsk) (files : Contents) (p : TypedProgramTree) (entries : List Entry) (tapes : FourTapes) (delivery : Delivery)
    → HoldsRun ask files p entries tapes delivery → CanBeDealt entries tapes → net_for ask p entries tapes delivery ≡ Accepted
    → IsToldByMiners p entries tapes ask.budget delivery (eval_with p entries tapes ask.budget)
told_by_miners ask files p entries tapes delivery h can taken =
    run_is_told p entries tapes ask.budget delivery (accepted_so ask.program files p h.program) can taken

pub made_taken : (ask : RunAsk) (files : Contents) (p : TypedProgramTree) (entries : List Entry) (tapes : FourTapes) (delivery : Delivery)
    → HoldsRun ask files p entries tapes delivery → IsMade delivery → net_for ask p entries tapes delivery ≡ Accepted
made_taken ask files p entries tapes delivery h made =
    made_deliveries_are_taken p entries tapes ask.budget delivery (accepted_so ask.program files p h.program)
    (read_of_words files ask.input ask.source entries tapes h.inputs h.tapes) made

-- ---- views

pub given_to : (path : List ℕ) (files : Contents) (p : TypedProgramTree) (entries : List Entry) (h : HoldsTyped path files p) → AreSound entries
    → IsGivenTo h.tree p h.within.list entries
given_to path files p entries h sound = record {
  program = record {
    typed = h.held.accepted.typed;
    written = written_so path files p h;
    resolved = h.typed;
    reached = h.within.reached;
    within = h.within;
  };
  inputs = sound;
}

pub of_words : (entries : List Entry) (tapes : FourTapes) → HaveWords entries tapes → AreTapes tapes
of_words entries tapes have = record { dealer = have.dealer; miners = have.words }

pub views_made : (i : Number) (ask : RunAsk) (files : Contents) (p : TypedProgramTree) (entries : List Entry) (tapes : FourTapes) (delivery : Delivery)
    → HoldsRun ask files p entries tapes delivery → ViewIsSimulated i p entries tapes ask.budget delivery
views_made i ask files p entries tapes delivery h =
    let have = read_of_words files ask.input ask.source entries tapes h.inputs h.tapes in
    views_simulated i h.program.tree p entries tapes ask.budget delivery h.program.within.list
    (given_to ask.program files p entries h.program have.sound) (of_words entries tapes have)

pub views_seen : (i : Number) (ask : RunAsk) (files : Contents) (p : TypedProgramTree) (entries : List Entry) (tapes : FourTapes) (delivery : Delivery)
    → HoldsRun ask files p entries tapes delivery → CanBeDealt entries tapes → net_for ask p entries tapes delivery ≡ Accepted
    → SeesItsView i p entries tapes ask.budget delivery
views_seen i ask files p entries tapes delivery h can accepts =
    code_views_are_views i p entries tapes ask.budget delivery (accepted_so ask.program files p h.program) can
    ((nets_agree p entries tapes ask.budget delivery).answers ∙ accepts)

pub maps_made : (i : Number) (ask : RunAsk) (files : Contents) (p : TypedProgramTree) (entries : List Entry) (tapes : FourTapes) (delivery : Delivery)
    → HoldsRun ask files p entries tapes delivery → MapsCorrespond i p entries tapes ask.budget
maps_made i ask files p entries tapes delivery h =
    let have = read_of_words files ask.input ask.source entries tapes h.inputs h.tapes in
    tapes_corresponding i h.program.tree p entries tapes ask.budget h.program.within.list
    (given_to ask.program files p entries h.program have.sound) (of_words entries tapes have)
