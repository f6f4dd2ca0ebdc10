-- Three miners that run code do what its run in the clear reports.
use Rattle.std.proofs.Common.{◌≡◌, ℕ, ◌-◌, List, [], Option, Some, refl, sym, ap, ◌∙◌, subst, arith}
use Rattle.std.specs.Prelude.{if◌then◌else◌}
use Rattle.std.specs.List.{slice_get}
use Rattle.proto_core.specs.declared.party.Number.{Number}
use Rattle.proto_core.specs.declared.party.Number.TheVariants.{One, Two, Three}
use Rattle.proto_core.specs.declared.link.Link.{Link}
use Rattle.proto_core.specs.Strand.{Strand, told_in}
use Rattle.proto_core.specs.Net.{nothing, run_of, opened_by, Finishes}
use Rattle.protocol_model.specs.Network.{Accepted, Default, Delivery, Shuffled, net, order_of, walked}
use Rattle.protocol_model.proofs.Sizes.{past_end}
use Rattle.protocol_model.specs.Gates.{sizes_of, AreSound, AreSilent, gates_script}
use Rattle.protocol_model.specs.Gates as model
use Rattle.protocol_model.specs.Runs.{Tapes, Ready, run_messages, run_values, run_opened}
use Rattle.protocol_model.specs.Schedules.{AnyOrder}
use Rattle.shared_gates.specs.Model.{miner_of}
use Rattle.shared_gates.proofs.Models.{gates-sound}
use Rattle.shared_gates.proofs.Silence.{gates-silent}
use Rattle.code_model.specs.Courses.{LikeEvents}
use Rattle.language_model.specs.Effects.{World, Clear, Stage, RunStop, words_each}
use Rattle.language_model.specs.Learned.{learned_of}
use Rattle.language_model.specs.Reports.{Report, Offered, world_of, beginning, reported, not_dealt}
use Rattle.code_model.specs.Machine.{start, exec}
use Rattle.code_model.specs.Meaning.{fuel, stopped_or, report_at, mean}
use Rattle.code_model.proofs.Ends.{starts}
use Rattle.code_model.proofs.Kept.{begins}
use Rattle.program_trees.specs.TypedPrograms.{TypedProgramTree}
use Rattle.reached_instances.specs.Instances.{Instance}
use Rattle.code_model.specs.Programs.{code_of}
use Rattle.code_model.proofs.Means.{means}
use Rattle.verified_code.specs.Steps.{Function}
use Rattle.gate_laws.specs.Facts.{nothing_handed, none_of, run_at, IsAt}
use Rattle.gate_laws.specs.Dealt.{drawn_by, Dealt}
use Rattle.gate_laws.proofs.Steps.{start_stands}
use Rattle.driven_nodes.specs.Driven.{Turn, path, stop, notices}
use Rattle.driven_nodes.specs.Steps.{Stand, Running, Stopped, Short, next_turn}
use Rattle.driven_nodes.specs.Twins.{gates_of, Reads, StandAlike, Twins}
use Rattle.driven_nodes.proofs.Laws.{driven_orders_are_the_run, driven_notices}
use Rattle.driven_nodes.proofs.NodeRuns.{SameRunAs, nodes_run_the_gates}
use Rattle.driven_nodes.proofs.StepLaws as laws
use Rattle.code_places.specs.Places.{Place, first_place, run_dealt}
use Rattle.code_places.specs.Twins.{GoAlike, EndAlike}
use Rattle.code_places.specs.Laws.{in_the_clear}
use Rattle.code_places.specs.Places.{when_told}
use Rattle.code_places.proofs.Joins.{run_dealt_joins}
use Rattle.code_places.proofs.Turns.{code_has_twins, begins_alike}
use Rattle.code_runs.specs.Telling.{Tells}
use Rattle.code_runs.specs.Runs.{miners, StopsAs, RunAsReported}
use Rattle.code_runs.specs.Laws.{MayRunShared, MinersRunTheCode, MinersRunTheProgram}
use Rattle.code_runs.proofs.Stays.{Stays}
use Rattle.code_runs.proofs.Values.{ready, same_opened}
use Rattle.code_runs.proofs.Shown.{reads}
use Rattle.code_runs.proofs.Ends.{EndsAs, ends}
use Rattle.code_runs.specs.Handing.{handed_in, kept_from}
use Rattle.code_runs.proofs.Notices.{retold}
use Rattle.code_runs.proofs.Tellings.{tellings}

module _ (o : Offered) (d : Dealt) (c : List Function) (budget : ℕ) (tapes : Tapes) (may : MayRunShared o d c tapes) where
  abbrev w : World
  w = world_of Clear o

  abbrev pub first : Place
  first = first_place c budget

  abbrev pub twins : Twins (in_the_clear o c) (when_told o c) GoAlike EndAlike
  twins = code_has_twins o c

  abbrev alike : GoAlike first first
  alike = begins_alike c budget

  nothing_drawn : (i : Number) → drawn_by (words_each 0) (miner_of i) ≡ 0
  nothing_drawn One = refl
  nothing_drawn Two = refl
  nothing_drawn Three = refl

  start_at : IsAt w d [] none_of (beginning budget [])
  start_at =
      record {
        formed = record { dealt_held = may.dealt.held; dealt_sized = may.dealt.sized; kinded = tt; suits = tt; counted = refl };
        made = refl;
        drawn = nothing_drawn;
        answers = λ k. past_end k;
        handed = λ values fit. nothing_handed;
        opened = λ clear values fit. refl;
      }

  pub stays_first : Stays o d c first
  stays_first =
      record {
        kinds = [];
        within = begins c may.code.fitting may.main may.first;
        stage = start_at;
        stands = start_stands (run_at w d [] (beginning budget [])) (slice_get c 0);
        tapes = (omega arith, omega arith, omega arith);
        answers = refl;
      }

  -- ---- THE RUN IN THE CLEAR

  abbrev begun : Stage
  begun = beginning budget []

  pub stopped : (x : RunStop × Stage) × (exec w c (fuel c budget) (start c) begun ≡ Some x)
  stopped = starts w c may.forward begun

  abbrev pub end : RunStop × Stage
  end = (stopped).0

  pub ended : EndsAs o d c may.code twins (fuel c budget) first end
  ended = ends o d c may.code twins (fuel c budget) first first stays_first alike end (stopped).1

  abbrev pub report : Report
  report = reported w budget (end).0 (end).1

  pub same_report : report ≡ mean c o budget
  same_report =
      ap (λ x. report_at w budget (stopped_or begun x)) (sym (stopped).1)
      ∙ ap (λ b. if b then report_at w budget (stopped_or begun (exec w c (fuel c budget) (start c) begun)) else not_dealt w) (sym may.dealer)

  -- ---- ITS GATES

  abbrev pub gates : List model.Gate
  gates = run_dealt d [] (report).gates

  abbrev course_gates : List model.Gate
  course_gates = run_dealt d [] (gates_of (in_the_clear o c) (fuel c budget) first)

  same_gates : course_gates ≡ gates
  same_gates = ap (run_dealt d []) (sym (ended).gates)

  sound : AreSound gates
  sound = gates-sound d.shares (sizes_of d.inputs) [] (report).gates

  ready_gates : Ready gates (λ i. []) tapes
  ready_gates = ready o d tapes may.words may.long (ended).kinds (end).1 (ended).at (ended).tapes

  pub read : Reads (in_the_clear o c) (run_dealt d) (fuel c budget) first (λ i. []) tapes
  read = reads o d c tapes may.words may.long may.code (fuel c budget) first stays_first (λ i. []) tapes refl refl

  course_sound : AreSound course_gates
  course_sound = subst AreSound (sym same_gates) sound

  course_ready : Ready course_gates (λ i. []) tapes
  course_ready = subst (λ g. Ready g (λ i. []) tapes) (sym same_gates) ready_gates

  -- ---- THE MINERS

  pub same : SameRunAs (in_the_clear o c) (when_told o c) (run_dealt d) GoAlike EndAlike (fuel c budget) first first (λ i. []) tapes
  same =
      nodes_run_the_gates (in_the_clear o c) (when_told o c) (run_dealt d) GoAlike EndAlike (run_dealt_joins d) twins (fuel c budget) first first (λ i. [])
      tapes alike read

  stopped_beside :
      (last : Place) (stand : Stand Place) → StandAlike (in_the_clear o c) (when_told o c) GoAlike EndAlike (Stopped last) stand
      → (q : Place) × (stand ≡ Stopped q) × EndAlike last q
  stopped_beside last (Running q) h = absurd h
  stopped_beside last (Stopped q) h = (q, refl, h)
  stopped_beside last (Short q) h = absurd h

  -- where they stop
  abbrev course_end : Stand Place
  course_end = stop (next_turn (when_told o c) (run_dealt d)) (fuel c budget) (Running first) (λ i. []) tapes

  pub beside : (q : Place) × (course_end ≡ Stopped q) × EndAlike (ended).last q
  beside =
      stopped_beside (ended).last course_end
      (subst (λ z. StandAlike (in_the_clear o c) (when_told o c) GoAlike EndAlike z course_end) (ended).stand
      (laws.nodes_stand (in_the_clear o c) (when_told o c) (run_dealt d) GoAlike EndAlike (run_dealt_joins d) twins (fuel c budget) first first (λ i. []) tapes
      alike read course_sound course_ready))

  pub finish : Finishes (miners o d c budget tapes) (run_messages gates (λ i. []) tapes) (λ i. (Stopped (beside).0, run_values gates (λ i. []) tapes i))
  finish =
      subst (λ z. Finishes (miners o d c budget tapes) (run_messages gates (λ i. []) tapes) (λ i. (z, run_values gates (λ i. []) tapes i))) (beside).1
      (subst (λ g. Finishes (miners o d c budget tapes) (run_messages g (λ i. []) tapes) (λ i. (course_end, run_values g (λ i. []) tapes i))) same_gates
      (laws.nodes_finish (in_the_clear o c) (when_told o c) (run_dealt d) GoAlike EndAlike (run_dealt_joins d) twins (fuel c budget) first first (λ i. []) tapes
      alike read course_sound course_ready))

  pub stops : StopsAs report budget (beside).0
  stops =
      let q = (beside).0 in
      let like = (beside).2 in
      let at_end : (ended).last.stage ≡ (end).1 = (ended).stage in
      record {
        ending = (ended).ending;
        stop = (ended).stop;
        ended = sym like.ended ∙ (ended).ended;
        cost = ap (λ z. budget - z.left) like.stage.same ∙ ap (λ z. budget - z.left) at_end;
        drawn = ap (λ z. z.drawn) like.stage.same ∙ ap (λ z. z.drawn) at_end;
        gates = ap (λ z. z.gates) like.stage.same ∙ ap (λ z. z.gates) at_end;
        opened = ap (λ z. z.opened) like.stage.same ∙ ap (λ z. z.opened) at_end;
        events = subst (λ z. LikeEvents z.events q.stage.events) at_end like.stage.events;
      }

  pub open_the_words : (i : Number) → opened_by (miners o d c budget tapes) (run_messages gates (λ i. []) tapes) i ≡ learned_of (report).events
  open_the_words i =
      subst (λ g. opened_by (miners o d c budget tapes) (run_messages g (λ i. []) tapes) i ≡ run_opened g (λ i. []) tapes) same_gates
      (laws.nodes_open (in_the_clear o c) (when_told o c) (run_dealt d) GoAlike EndAlike (run_dealt_joins d) twins (fuel c budget) first first (λ i. []) tapes
      alike read course_sound course_ready i)
      ∙ same_opened o d tapes may.words may.long (ended).kinds (end).1 (ended).at (ended).tapes

  -- ---- EVERY SCHEDULE

  abbrev nodes : Number → Strand (Stand Place × List (List ℕ))
  nodes = miners o d c budget tapes

  pub deliveries_are_counted :
      (delivery : Delivery) → walked nodes 0 nothing (order_of (λ i. gates_script i gates) delivery) ≡ net (λ i. gates_script i gates) delivery
  deliveries_are_counted delivery =
      subst (λ g. walked nodes 0 nothing (order_of (λ i. gates_script i g) delivery) ≡ net (λ i. gates_script i g) delivery) same_gates
      (laws.nodes_deliveries_are_counted (in_the_clear o c) (when_told o c) (run_dealt d) GoAlike EndAlike (run_dealt_joins d) twins (fuel c budget) first first
      (λ i. []) tapes alike read course_sound course_ready delivery)

  pub default_is_accepted : walked nodes 0 nothing (order_of (λ i. gates_script i gates) Default) ≡ Accepted
  default_is_accepted =
      subst (λ g. walked nodes 0 nothing (order_of (λ i. gates_script i g) Default) ≡ Accepted) same_gates
      (laws.nodes_default_is_accepted (in_the_clear o c) (when_told o c) (run_dealt d) GoAlike EndAlike (run_dealt_joins d) twins (fuel c budget) first first
      (λ i. []) tapes alike read course_sound course_ready)

  pub shuffles_are_accepted : (words : ℕ → ℕ) → walked nodes 0 nothing (order_of (λ i. gates_script i gates) (Shuffled words)) ≡ Accepted
  shuffles_are_accepted words =
      subst (λ g. walked nodes 0 nothing (order_of (λ i. gates_script i g) (Shuffled words)) ≡ Accepted) same_gates
      (laws.nodes_shuffles_are_accepted (in_the_clear o c) (when_told o c) (run_dealt d) GoAlike EndAlike (run_dealt_joins d) twins (fuel c budget) first first
      (λ i. []) tapes alike read course_sound course_ready words)

  abbrev next : Stand Place → Option (Turn (Stand Place))
  next = next_turn (when_told o c) (run_dealt d)

  pub whole_path : path next (fuel c budget) (Running first) (λ i. []) tapes ≡ gates
  whole_path = (same).gates ∙ same_gates

  path_sound : AreSound (path next (fuel c budget) (Running first) (λ i. []) tapes)
  path_sound = subst AreSound (sym whole_path) sound

  path_ready : Ready (path next (fuel c budget) (Running first) (λ i. []) tapes) (λ i. []) tapes
  path_ready = subst (λ g. Ready g (λ i. []) tapes) (sym whole_path) ready_gates

  pub orders_are_the_run : (order : List Link) → AnyOrder nodes (run_messages gates (λ i. []) tapes) order
  orders_are_the_run order =
      subst (λ g. AnyOrder nodes (run_messages g (λ i. []) tapes) order) whole_path
      (driven_orders_are_the_run next (fuel c budget) (Running first) (λ i. []) tapes path_sound path_ready (same).led order)

  -- ---- WHAT THEY TELL

  path_silent : AreSilent (path next (fuel c budget) (Running first) (λ i. []) tapes)
  path_silent = subst AreSilent (sym whole_path) (gates-silent d.shares (sizes_of d.inputs) [] (report).gates)

  pub notices_are :
      (i : Number)
      → told_in (run_of nodes (run_messages gates (λ i. []) tapes) i).acts ≡ notices next (fuel c budget) i (Running first) (λ i. []) tapes
  notices_are i =
      subst (λ g. told_in (run_of nodes (run_messages g (λ i. []) tapes) i).acts ≡ notices next (fuel c budget) i (Running first) (λ i. []) tapes) whole_path
      (driven_notices next (fuel c budget) (Running first) (λ i. []) tapes path_sound path_ready (same).led path_silent i)

  pub tell_the_events : Tells (report).events (λ i. notices next (fuel c budget) i (Running first) (λ i. []) tapes)
  tell_the_events =
      let whole =
      tellings o d c tapes may.words may.long may.code twins (fuel c budget) first first stays_first alike (λ i. []) tapes refl refl end (stopped).1 in
      subst (λ es. Tells es (λ i. notices next (fuel c budget) i (Running first) (λ i. []) tapes)) (sym whole.all) whole.told

  pub give_their_shares :
      (i : Number) → handed_in (notices next (fuel c budget) i (Running first) (λ i. []) tapes) ≡ kept_from 0 (run_values gates (λ i. []) tapes i) (report).gates
  give_their_shares i =
      let whole =
      tellings o d c tapes may.words may.long may.code twins (fuel c budget) first first stays_first alike (λ i. []) tapes refl refl end (stopped).1 in
      whole.gave i

  pub as_reported : RunAsReported o d c budget tapes report
  as_reported =
      record {
        turns = record {
          gates = whole_path;
          ready = ready_gates;
          last = (beside).0;
          end = (beside).1;
          stops = stops;
          told = tell_the_events;
        };
        finishes = finish;
        opened = open_the_words;
        told = retold (λ i. sym (notices_are i)) tell_the_events;
        gave = λ i. ap handed_in (notices_are i) ∙ give_their_shares i;
        counted = deliveries_are_counted;
        in_order = default_is_accepted;
        shuffled = shuffles_are_accepted;
        any_order = orders_are_the_run;
      }

pub miners_run_the_code : (o : Offered) (d : Dealt) (c : List Function) (budget : ℕ) (tapes : Tapes) → MinersRunTheCode o d c budget tapes
miners_run_the_code o d c budget tapes may =
    subst (RunAsReported o d c budget tapes) (same_report o d c budget tapes may) (as_reported o d c budget tapes may)

pub miners_run_the_program :
    (o : Offered) (d : Dealt) (p : TypedProgramTree) (is : List Instance) (budget : ℕ) (tapes : Tapes) → MinersRunTheProgram o d p is budget tapes
miners_run_the_program o d p is budget tapes fit may =
    subst (RunAsReported o d (code_of p is) budget tapes) (means p is fit (world_of Clear o) budget [])
    (miners_run_the_code o d (code_of p is) budget tapes may)
