-- The tapes that `client-map` writes correspond to those that it reads, the simulator makes the client's view of a run that it is told of, and a
-- twin gives it the same view.
use Rattle.std.proofs.Common.{◌≡◌, ℕ, List, ◌++◌, Option, Some, None, refl, sym, ◌∙◌, ap}
use Rattle.outside.specs.Files.{Contents}
use Rattle.command_words.specs.Ask.{ClientMapAsk, ClientSimulateAsk, ClientTwinAsk}
use Rattle.sc_text.specs.declared.event.Event.{Event}
use Rattle.tape_file.specs.Tapes.{FourTapes}
use Rattle.program_trees.specs.TypedPrograms.{TypedProgramTree}
use Rattle.value_file.specs.declared.inputs.Entry.{Entry}
use Rattle.value_file.specs.declared.public.PublicEntry.{PublicEntry}
use Rattle.value_file.specs.Public.{part_of}
use Rattle.language_model.specs.Effects.{Ended, Short, RunStop}
use Rattle.language_model.specs.Reports.{Report}
use Rattle.blind_evaluation.specs.Courses.{IsEnded}
use Rattle.miner_commands.specs.Premises.{HaveWords}
use Rattle.program_views.specs.Views.{lengths_of, told_run}
use Rattle.client_view.specs.Views.{ClientView, view_at, told_events, made_with}
use Rattle.client_view.specs.TapeMaps.{ClientMapsCorrespond, client_twinned, IsClientTwin}
use Rattle.client_view.specs.Laws.{ClientViewIsSimulated}
use Rattle.client_view.proofs.Maps.{client_tapes}
use Rattle.client_view.proofs.Simulated.{client_views}
use Rattle.client_view.proofs.Twins.{client_twins_see}
use Rattle.client_commands.specs.Simulate.{run_told}
use Rattle.run_engine.specs.ClientMapPromises.{HoldsClientMap}
use Rattle.run_engine.specs.ClientSimulatePromises.{HoldsOfClientRun, IsClientSimulated, IsOfClientRun, opened_and, published_and, tapes_mapped}
use Rattle.run_engine.specs.ClientTwinPromises.{AreTakenByClient, HoldsClientTwin}
use Rattle.run_engine.proofs.Miners.{given_to, of_words}
use Rattle.run_engine.proofs.OfWords.{file_of_words}

pub client_maps_correspond : (ask : ClientMapAsk) (files : Contents) (p : TypedProgramTree) (entries : List Entry) (tapes : FourTapes)
    → HoldsClientMap ask files p entries tapes → ClientMapsCorrespond p entries tapes ask.budget
client_maps_correspond ask files p entries tapes h =
    let have = file_of_words files ask.input ask.tape entries tapes h.inputs h.tapes in
    client_tapes h.program.tree p entries tapes ask.budget h.program.within.list
    (given_to ask.program files p entries h.program have.sound) (of_words entries tapes have)

-- ---- what gives a view has ended, and had words enough

record Sufficed (part : List PublicEntry) (s : FourTapes) (r : Report) (told : Option (List Event)) : Type 0 where
  ended : IsEnded r.stop
  events : List Event
  is : told ≡ Some events

ended_so : (part : List PublicEntry) (s : FourTapes) (r : Report) (events : List Event) (stop : RunStop) (view : ClientView) → r.stop ≡ stop
    → made_with part s r (Some events) ≡ Some view → IsEnded r.stop
ended_so part s r events (Ended ending) view is made = rw is tt
ended_so part s r events Short view is made = absurd cc

sufficed : (part : List PublicEntry) (s : FourTapes) (r : Report) (told : Option (List Event)) (view : ClientView) → made_with part s r told ≡ Some view
    → Sufficed part s r told
sufficed part s r None view made = absurd cc
sufficed part s r (Some events) view made = record { ended = ended_so part s r events r.stop view refl made; events = events; is = refl }

pub client_simulated_so : (ask : ClientSimulateAsk) (files : Contents) (p : TypedProgramTree) (entries : List Entry) (tapes : FourTapes) (more also : List ℕ)
    → HoldsOfClientRun ask p entries tapes more also files → HaveWords entries tapes → IsOfClientRun ask p entries tapes more also
client_simulated_so ask files p entries tapes more also h have =
    let v : ClientViewIsSimulated p entries tapes ask.budget =
    client_views h.program.tree p entries tapes ask.budget h.program.within.list (given_to ask.program files p entries h.program have.sound)
    (of_words entries tapes have) in
    let r : Report = run_told ask p (part_of entries) (opened_and ask p entries tapes more also) (tapes_mapped ask p entries tapes more also) in
    let enough = sufficed (part_of entries) (tapes_mapped ask p entries tapes more also) r
    (told_events r.events (published_and ask p entries tapes more also)) v.view (v.made more also) in
    record {
      suffice = record { suffice = enough.ended; events = enough.events; told = enough.is };
      view = v.made more also ∙ sym v.seen;
    }

pub client_twins_see_it : (ask : ClientTwinAsk) (files : Contents) (p : TypedProgramTree) (first second : List Entry) (tapes : FourTapes)
    → HoldsClientTwin ask files p first second tapes → AreTakenByClient ask p first second tapes
    → IsClientTwin p first second tapes (client_twinned p first second tapes ask.budget) ask.budget
client_twins_see_it ask files p first second tapes h alike =
    let have = file_of_words files ask.input ask.tape first tapes h.inputs h.tapes in
    let other = file_of_words files ask.second ask.tape second tapes h.other h.tapes in
    client_twins_see h.program.tree p first second tapes ask.budget h.program.within.list
    (record {
      one = given_to ask.program files p first h.program have.sound;
      other = given_to ask.program files p second h.program other.sound;
      alike = alike;
    })
    (of_words first tapes have)
