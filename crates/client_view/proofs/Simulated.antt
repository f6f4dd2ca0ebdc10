-- What the client sees of a program's run is what the simulator makes.
use Rattle.std.proofs.Common.{◌≡◌, ℕ, ◌≤◌, Bool, true, false, List, [], ◌++◌, length, Some, refl, sym, ap, ◌∙◌, subst}
use Rattle.proto_core.specs.declared.party.Number.{Number}
use Rattle.proto_core.proofs.Beginnings.{append-none}
use Rattle.protocol_model.specs.Runs.{Tapes, Ready, run_values}
use Rattle.gates.specs.declared.gate.Gate.{Gate}
use Rattle.gates.specs.Clear.{Values}
use Rattle.sc_text.specs.declared.event.Event.{Event}
use Rattle.program_trees.specs.Programs.{ProgramTree}
use Rattle.program_trees.specs.TypedPrograms.{TypedProgramTree}
use Rattle.reached_instances.specs.Instances.{Instance}
use Rattle.value_file.specs.declared.inputs.Entry.{Entry}
use Rattle.value_file.specs.Public.{part_of}
use Rattle.input_share.specs.Dealing.{need_of}
use Rattle.tape_file.specs.Tapes.{FourTapes}
use Rattle.language_model.specs.Effects.{Clear, RunStop, Ended, Short}
use Rattle.language_model.specs.Reports.{Report, world_of}
use Rattle.blind_evaluation.specs.Courses.{TakeSameCourse, IsEnded}
use Rattle.clear_eval.specs.Offers.{offered}
use Rattle.gate_laws.specs.Laws.{GatesSuit}
use Rattle.gate_laws.specs.Facts as facts
use Rattle.code_inputs.specs.Inputs.{dealt_of}
use Rattle.code_inputs.proofs.Running.{evaluation_suits}
use Rattle.view_model.specs.Dealing.{dealt_to, private_sizes, hidden_sizes}
use Rattle.view_model.specs.Held.{private_kinds, private_values}
use Rattle.view_model.specs.TapeMaps.{miners_of, no_values, gates_dealt, is_dealt, AreTapes, Reaches}
use Rattle.view_model.proofs.Corresponding.{le_from, miners_four, ready_with}
use Rattle.view_model.proofs.DealtSizes.{sizes_hidden}
use Rattle.view_model.proofs.Holding.{run_computes}
use Rattle.program_views.specs.Views.{lengths_of, run_on, told_run}
use Rattle.program_views.specs.Laws.{IsGivenTo}
use Rattle.program_views.proofs.Given.{given_so}
use Rattle.program_views.proofs.Simulated.{same_lengths, can_run}
use Rattle.program_views.proofs.Undealt.{no_events, no_gates}
use Rattle.program_views.proofs.Blind.{takes_same_course, is_ended}
use Rattle.handed_shares.specs.Handed.{all_of, handed_values}
use Rattle.client_model.specs.ClientMaps.{to_client}
use Rattle.client_model.specs.Given.{Given, made_from}
use Rattle.client_model.proofs.Given.{given-made}
use Rattle.client_view.specs.Views.{ClientView, view_at, given_in, view_with, client_view_of, published_of, gate_words_of, made_with, made_view}
use Rattle.client_view.specs.Views.{client_simulated}
use Rattle.client_view.specs.TapeMaps.{client_mapped}
use Rattle.client_view.specs.Laws.{ClientViewIsSimulated, ClientViewsAreSimulated}
use Rattle.client_view.proofs.Lists.{HaveKinds, have_kinds, told_exactly, handed_words, all_handed}
use Rattle.client_view.proofs.Maps.{client_maps_correspond}

-- ---- THE SHARES ARE MADE

module _
    (source : ProgramTree) (p : TypedProgramTree) (is : List Instance) (entries : List Entry) (given : IsGivenTo source p is entries) (t : FourTapes)
    (are : AreTapes t) (budget : ℕ)
  where
    abbrev r : Report
    r = run_on p entries (lengths_of t) budget

    abbrev mapped : List Gate → Tapes
    mapped gates = to_client all_of (dealt_to entries t.dealer) (private_sizes entries) gates (miners_of t)

    abbrev IsMade : List Gate → Type 0
    IsMade gates = made_from all_of 0 (private_sizes entries) [] gates (gate_words_of r.events) (mapped gates) ≡ given_in entries gates t

    suited : need_of entries ≤ length t.dealer → GatesSuit (world_of Clear (offered entries (lengths_of t))) (dealt_of entries t.dealer) r
    suited h =
        evaluation_suits source entries t.dealer (offered entries (lengths_of t)) budget given.inputs
        (record { words = are.dealer; enough = h }) (given_so entries) p is given.program

    made_dealt : need_of entries ≤ length t.dealer → IsMade r.gates
    made_dealt h =
        let suits = suited h in
        let reaches : Reaches entries r.gates t = can_run source p is entries given t are budget h in
        let ready : Ready (gates_dealt entries t.dealer r.gates) no_values (miners_of t) = ready_with entries r.gates t.dealer t are.miners h reaches in
        let c = run_computes entries r.gates t suits.kinds are given.inputs.words h reaches suits.formed.kinded in
        let words : gate_words_of r.events ≡ handed_values all_of 0 c.more r.gates =
        handed_words r.events (facts.handed_values c.more r.gates) (suits.handed c.more c.fit) ∙ sym (all_handed c.more r.gates 0) in
        let shares : Number → Values = run_values (gates_dealt entries t.dealer r.gates) no_values (miners_of t) in
        ap (λ (ws : Values). made_from all_of 0 (private_sizes entries) [] r.gates ws (mapped r.gates))
        (words ∙ sym (append-none (handed_values all_of 0 c.more r.gates)))
        ∙ given-made all_of (private_kinds entries) suits.kinds (private_values entries) (dealt_to entries t.dealer) (private_sizes entries) c.more shares
        c.held [] r.gates (miners_of t) ready suits.formed.kinded c.fit c.count (λ i. refl)

    made_all : IsMade r.gates
    made_all = by_test (is_dealt entries t) refl
      where
        by_test : (b : Bool) → is_dealt entries t ≡ b → IsMade r.gates
        by_test true e = made_dealt (le_from _ _ e)
        by_test false e = subst IsMade (sym (no_gates p entries t budget e)) refl

    kinds_dealt : need_of entries ≤ length t.dealer → HaveKinds r.events
    kinds_dealt h =
        let suits = suited h in
        let reaches : Reaches entries r.gates t = can_run source p is entries given t are budget h in
        let c = run_computes entries r.gates t suits.kinds are given.inputs.words h reaches suits.formed.kinded in
        have_kinds r.events (facts.handed_values c.more r.gates) (suits.handed c.more c.fit)

    -- what is handed over is of the kind that is told with it
    kinds_told : HaveKinds r.events
    kinds_told = by_test (is_dealt entries t) refl
      where
        by_test : (b : Bool) → is_dealt entries t ≡ b → HaveKinds r.events
        by_test true e = kinds_dealt (le_from _ _ e)
        by_test false e = subst HaveKinds (sym (no_events p entries t budget e)) tt

    -- ---- THE VIEW

    abbrev s : FourTapes
    s = client_mapped p entries t budget

    long : lengths_of s ≡ lengths_of t
    long = same_lengths s t (client_maps_correspond source p is entries given budget t are).kept

    -- of a report of the same course, with the run's events
    same_view : (o : Report) → TakeSameCourse r o → made_with (part_of entries) s o (Some r.events) ≡ view_with entries t r
    same_view o course =
        ap
        (λ (gates : List Gate).
        view_at r.events (made_from all_of 0 (hidden_sizes (part_of entries)) [] gates (gate_words_of r.events) (miners_of s)) o.stop o.cost)
        (sym course.gates)
        ∙ ap (λ (ds : List ℕ). view_at r.events (made_from all_of 0 ds [] r.gates (gate_words_of r.events) (miners_of s)) o.stop o.cost) (sizes_hidden entries)
        ∙ ap (λ (ts : Tapes). view_at r.events (made_from all_of 0 (private_sizes entries) [] r.gates (gate_words_of r.events) ts) o.stop o.cost)
        (miners_four t.dealer (mapped r.gates))
        ∙ ap (λ (gs : List Given). view_at r.events gs o.stop o.cost) made_all
        ∙ ap (λ (stop : RunStop). view_at r.events (given_in entries r.gates t) stop o.cost) (sym course.stop)
        ∙ ap (λ cost. view_at r.events (given_in entries r.gates t) r.stop cost) (sym course.cost)

    pub with_more :
        (words more : List ℕ)
        → client_simulated p (part_of entries) (r.opened ++ words) (published_of r.events ++ more) s budget ≡ client_view_of p entries t budget
    with_more words more =
        let o : Report = told_run p (part_of entries) (r.opened ++ words) (lengths_of t) budget in
        let course : TakeSameCourse r o = takes_same_course p entries (lengths_of t) budget words in
        ap (λ lengths. made_view (part_of entries) (published_of r.events ++ more) s (told_run p (part_of entries) (r.opened ++ words) lengths budget)) long
        ∙ ap (made_with (part_of entries) s o) (told_exactly r.events o.events course.events kinds_told more)
        ∙ same_view o course

    pub client_is_simulated : ClientViewIsSimulated p entries t budget
    client_is_simulated =
        let v = gives_view r.events (given_in entries r.gates t) r.stop r.cost (is_ended p entries (lengths_of t) budget) in
        record { view = v.0; seen = v.1; made = λ words more. with_more words more ∙ v.1 }
      where
        gives_view : (events : List Event) (gs : List Given) (stop : RunStop) (cost : ℕ) → IsEnded stop
            → (view : ClientView) × (view_at events gs stop cost ≡ Some view)
        gives_view events gs (Ended ending) cost h = (_, refl)
        gives_view events gs Short cost h = absurd h

pub client_views : (source : ProgramTree) (p : TypedProgramTree) (entries : List Entry) (t : FourTapes) (budget : ℕ)
    → ClientViewsAreSimulated source p entries t budget
client_views source p entries t budget is given are = client_is_simulated source p is entries given t are budget
