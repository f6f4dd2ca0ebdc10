-- The tapes that `map` writes correspond to those that it reads, the simulator makes the view of a run that it is told of, and a twin gives
-- the same view.
use Rattle.std.proofs.Common.{ℕ, List, sym, ◌∙◌}
use Rattle.outside.specs.Files.{Contents}
use Rattle.command_words.specs.Ask.{MapAsk, SimulateAsk, TwinAsk}
use Rattle.tape_file.specs.Tapes.{FourTapes}
use Rattle.program_trees.specs.TypedPrograms.{TypedProgramTree}
use Rattle.value_file.specs.declared.inputs.Entry.{Entry}
use Rattle.value_file.specs.Public.{part_of}
use Rattle.miner_commands.specs.Premises.{HaveWords}
use Rattle.miner_commands.proofs.Agreeing.{nets_agree}
use Rattle.protocol_model.specs.Network.{Delivery}
use Rattle.program_views.specs.Simulated.{ViewIsSimulated}
use Rattle.program_views.specs.TapeMaps.{IsTwin, MapsCorrespond, twinned}
use Rattle.program_views.proofs.Corresponding.{tapes_corresponding}
use Rattle.program_views.proofs.Simulated.{views_simulated}
use Rattle.program_views.proofs.Twins.{twins_see}
use Rattle.tape_commands.proofs.Runs.{nets_simulated}
use Rattle.run_engine.specs.MapPromises.{HoldsMap}
use Rattle.run_engine.specs.SimulatePromises.{HoldsOfRun, IsOfRun, opened_and, tapes_mapped}
use Rattle.run_engine.specs.TwinPromises.{AreTaken, HoldsTwin}
use Rattle.run_engine.proofs.Miners.{given_to, of_words}
use Rattle.run_engine.proofs.OfWords.{file_of_words}
use Rattle.tape_commands.proofs.SimulatePlanned.{view_ended}

pub maps_correspond : (ask : MapAsk) (files : Contents) (p : TypedProgramTree) (entries : List Entry) (tapes : FourTapes)
    → HoldsMap ask files p entries tapes → MapsCorrespond ask.miner p entries tapes ask.budget
maps_correspond ask files p entries tapes h =
    let have = file_of_words files ask.input ask.tape entries tapes h.inputs h.tapes in
    tapes_corresponding ask.miner h.program.tree p entries tapes ask.budget h.program.within.list
    (given_to ask.program files p entries h.program have.sound) (of_words entries tapes have)

pub simulated_so : (ask : SimulateAsk) (files : Contents) (p : TypedProgramTree) (entries : List Entry) (tapes : FourTapes) (more : List ℕ)
    (delivery : Delivery) → HoldsOfRun ask p entries tapes more delivery files → HaveWords entries tapes → IsOfRun ask p entries tapes more delivery
simulated_so ask files p entries tapes more delivery h have =
    let given = given_to ask.program files p entries h.program have.sound in
    let v : ViewIsSimulated ask.miner p entries tapes ask.budget delivery =
    views_simulated ask.miner h.program.tree p entries tapes ask.budget delivery h.program.within.list given (of_words entries tapes have) in
    record {
      suffice =
          view_ended ask p (part_of entries) (opened_and ask p entries tapes more) (tapes_mapped ask p entries tapes) delivery v.view (v.made_with_more more);
      net =
          nets_simulated ask.miner h.program.tree p entries tapes ask.budget delivery h.program.within.list given (of_words entries tapes have) more
          ∙ (nets_agree p entries tapes ask.budget delivery).answers;
      view = v.made_with_more more ∙ sym v.seen;
    }

pub twins_see_it : (ask : TwinAsk) (files : Contents) (p : TypedProgramTree) (first second : List Entry) (tapes : FourTapes)
    → HoldsTwin ask files p first second tapes → AreTaken ask p first second tapes
    → IsTwin ask.miner p first second tapes (twinned ask.miner p first second tapes ask.budget) ask.budget
twins_see_it ask files p first second tapes h alike =
    let have = file_of_words files ask.input ask.tape first tapes h.inputs h.tapes in
    let other = file_of_words files ask.second ask.tape second tapes h.other h.tapes in
    twins_see ask.miner h.program.tree p first second tapes ask.budget h.program.within.list
    (record {
      one = given_to ask.program files p first h.program have.sound;
      other = given_to ask.program files p second h.program other.sound;
      alike = alike;
    })
    (of_words first tapes have)
