-- A step that begins its gates, and one that is done again.
use Rattle.std.proofs.Common.{◌≡◌, ℕ, suc, List, [], length, drop, refl, sym, ◌∙◌, ap, subst, slice_get}
use Rattle.std.specs.Prelude.{Option, None, Some}
use Rattle.proto_core.specs.declared.party.Number.{Number}
use Rattle.proto_core.specs.Strand.{then_do}
use Rattle.gates.specs.declared.gate.Gate.{Gate}
use Rattle.gates.specs.Clear.{Values}
use Rattle.language_model.specs.Beginnings.{Begins}
use Rattle.language_model.specs.Effects.{Stage, World}
use Rattle.language_model.proofs.Onward.{begins_none}
use Rattle.bytecode.specs.Raw.{RawCode}
use Rattle.verified_code.specs.InMemory.{step_at, steps_of as held_steps}
use Rattle.verified_code.specs.Settled.{settled}
use Rattle.verified_code.specs.Steps.{Function}
use Rattle.code_machine.specs.Machine.{Machine, steps_of}
use Rattle.value_steps.specs.Views.{stage_seen}
use Rattle.value_steps.specs.declared.stage.Stage as reached
use Rattle.code_machine.specs.Marks.{HasGained, again_at}
use Rattle.code_machine.specs.Views.{machine_seen}
use Rattle.code_machine.specs.declared.machine.Machine as running
use Rattle.driven_nodes.specs.Driven.{telling}
use Rattle.driven_nodes.specs.Steps.{Went, place_of, gained, last_of}
use Rattle.own_code.specs.Places.{Place, place, step_told, next_step, told_by, where_made}
use Rattle.block_steps.specs.Outcomes.{mail_left}
use Rattle.gate_node.specs.OwnGates.{then_gates}
use Rattle.gate_node.specs.Nodes as node
use Rattle.gate_node.specs.declared.engine.Engine as gates
use Rattle.miner_core.specs.declared.outcome.Turned.{Turned}
use Rattle.miner_core.specs.declared.outcome.Turned.TheVariants as turned
use Rattle.miner_core.specs.declared.speech.Speech.{Speech}
use Rattle.miner_core.specs.declared.telling.Told as told
use Rattle.miner_core.specs.TurnViews.{went_as, went_to, speech_seen}
use Rattle.miner_core.proofs.Places.{gates_grow, stage_went, wants_keep, wants_tell_none}
use Rattle.miner_core.specs.declared.engine.At.TheVariants as at
use Rattle.miner_core.specs.declared.engine.Engine.{Engine}
use Rattle.own_code.specs.OwnCode.{tell_and_go_on, gates_between, led_by, own_code}
use Rattle.miner_core.specs.Views.{task_world, task_code}
use Rattle.miner_core.specs.Engines.{place_at, code_from, goes_on_at, engine_left, IsThrough, IsQuiet, IsDone, GoesOn}
use Rattle.miner_core.proofs.Quiet.{QuietAt, quiet_own}
use Rattle.miner_core.proofs.Turns.{first, IsLed, acts_is, begins, does_again}

-- the step that comes next stands in the code at the place of the machine
steps_same : (f : Option Function) → held_steps f ≡ steps_of f
steps_same None = refl
steps_same (Some f) = refl

pub comes_next : (code : RawCode) (m : running.Machine) → step_at code m.function m.place ≡ next_step (machine_seen code m)
comes_next code m = ap (λ steps. slice_get steps m.place) (steps_same (slice_get (settled code) m.function))

led_acts : (w : World) (c : List Function) (values : Values) (p : Place) (t : Turned) (m : Machine) (s : Stage) → GoesOn t →
    led_by w c values p (went_as t m s) ≡ went_as t m s
led_acts w c values p turned.On m s h = refl
led_acts w c values p (turned.Over ending) m s h = refl
led_acts w c values p turned.Short m s h = absurd h

-- ---- a stage that was rewound is where the step began

module _ (w : World) (c : List Function) (m n : Machine) (s later : Stage) (step : step_told w c (place None m s) [] ≡ went_as turned.Short n later) where
  gained_only : HasGained s later
  gained_only =
      let p = place None m s in
      let grown : Begins s.gates later.gates =
      subst (λ (z : Went Place). Begins s.gates (place_of z).stage.gates) step (gates_grow w c p []) in
      let none = wants_tell_none w c p [] (place None n later) step in
      let events = begins_none s.events later.events none.0 in
      let opened = begins_none s.opened later.opened none.1 in
      record {
        gates = grown;
        events = events;
        opened = opened;
      }

  pub place_again : (rewound : Stage) → (HasGained s later → rewound ≡ again_at s later.answers) → place None n rewound ≡ place None m s
  place_again rewound back =
      let kept : n ≡ m = wants_keep w c (place None m s) [] (place None n later) step in
      ap (λ z. place None z rewound) kept ∙ ap (λ z. place None m z) (back gained_only)

-- ---- a step is done with at once

module _ {P : Type 0} (i : Number) (e : Engine P) (m : running.Machine) (s : reached.Stage) (f : ℕ) (t : Turned) (from : ℕ) (before : told.Told)
    (ready : e.at ≡ at.Ready) (through : IsThrough i e.node) (fuel : e.fuel ≡ suc f) (step : first i e e ≡ went_to e.task.code t m s)
    (gates_then : from ≡ length e.stage.gates.items) (events_then : before.events ≡ length e.stage.events.items) (done : IsDone t s from before) where
  abbrev done_here : Engine P
  done_here = record e { machine = m; stage = s; fuel = f }

  went_on : first i e e ≡ went_as turned.On (machine_seen e.task.code m) (stage_seen s)
  went_on = step ∙ ap (λ t. went_to e.task.code t m s) done.on

  no_gates : [] ≡ gates_between (place_at i e) (place_of (first i e e))
  no_gates =
      sym done.made
      ∙ ap (λ n. drop n s.gates.items) gates_then
      ∙ sym (ap (λ (z : Went Place). gained e.stage.gates.items (place_of z).stage.gates) went_on)

  no_events : drop (length e.stage.events.items) s.events.items ≡ []
  no_events = ap (λ n. drop n s.events.items) (sym events_then) ∙ done.told

  goes_on_there : IsLed i e done_here
  goes_on_there values tape =
      let w = task_world e.task in
      let c = task_code e.task in
      let p = place_at i e in
      let q : Place = place None (machine_seen e.task.code m) (stage_seen s) in
      let on = own_code w c i e.node.dealt f in
      ap (λ a. goes_on_at i done_here a values tape) ready
      ∙ sym (ap (λ events. telling (where_made events
      (told_by (next_step p.machine) p.machine (gained p.stage.opened q.stage.opened) (last_of values))) (on q values tape)) no_events)
      ∙ sym (ap (λ z. tell_and_go_on on p (led_by w c values p z) values tape) went_on)

  pub done_left : engine_left i done_here ≡ engine_left i e
  done_left =
      begins i e done_here [] ready through (through ∙ sym (ap (λ v. then_do v (then_gates i e.node.dealt [])) through)) fuel no_gates goes_on_there

-- ---- a step begins

module _ {P : Type 0} (i : Number) (e : Engine P) (m : running.Machine) (s : reached.Stage) (f : ℕ) (n : gates.Engine P) (t : Turned) (more : List Gate)
    (ready : e.at ≡ at.Ready) (through : IsThrough i e.node)
    (left : node.engine_left i n ≡ then_do (node.engine_left i e.node) (then_gates i e.node.dealt more)) (dealt : n.dealt ≡ e.node.dealt)
    (fuel : e.fuel ≡ suc f) (step : first i e e ≡ went_to e.task.code t m s)
    (from : more ≡ drop (length e.stage.gates.items) s.gates.items) where
  made : more ≡ gates_between (place_at i e) (place_of (first i e e))
  made =
      from
      ∙ sym (ap (λ (z : Went Place). gained e.stage.gates.items (place_of z).stage.gates) step
      ∙ ap (λ (u : Stage). gained e.stage.gates.items u.gates) (stage_went t (machine_seen e.task.code m) (stage_seen s)))

  pub gates_quiet : IsQuiet i n
  gates_quiet =
      subst (λ v. QuietAt v (mail_left i n.links)) (sym (left ∙ ap (λ v. then_do v (then_gates i e.node.dealt more)) through))
      (quiet_own i e.node.dealt more e.node.values e.node.tape.1 (mail_left i n.links))

  pub begins_acts :
      (speech : Speech) (before : told.Told) → GoesOn t → before.events ≡ length e.stage.events.items → before.opened ≡ length e.stage.opened.items →
      ((words last : List ℕ) → speech_seen speech words last ≡ told_by (next_step (place_at i e).machine) (place_at i e).machine words last) →
      engine_left i (record e { machine = m; stage = s; fuel = f; at = at.Acts t speech before; node = n }) ≡ engine_left i e
  begins_acts speech before goes events opened says =
      let w = task_world e.task in
      let c = task_code e.task in
      let p = place_at i e in
      let went = went_to e.task.code t m s in
      begins i e (record e { machine = m; stage = s; fuel = f; at = at.Acts t speech before; node = n }) more ready through left fuel made
      (λ values tape.
      acts_is (own_code w c i n.dealt f) p t (machine_seen e.task.code m) s speech before events opened says values tape
      ∙ ap (λ d. tell_and_go_on (own_code w c i d f) p went values tape) dealt
      ∙ ap (λ z. tell_and_go_on (own_code w c i e.node.dealt f) p z values tape)
      (sym (ap (led_by w c values p) step ∙ led_acts w c values p t (machine_seen e.task.code m) (stage_seen s) goes)))

  pub begins_again :
      (back : reached.Stage) → t ≡ turned.Short
      → (HasGained (stage_seen e.stage) (stage_seen s) → stage_seen back ≡ again_at (stage_seen e.stage) (stage_seen s).answers) →
      engine_left i (record e { machine = m; stage = back; fuel = f; at = at.Again; node = n }) ≡ engine_left i e
  begins_again back short again =
      let w = task_world e.task in
      let c = task_code e.task in
      let p = place_at i e in
      let wants : first i e e ≡ went_as turned.Short (machine_seen e.task.code m) (stage_seen s) =
      step ∙ ap (λ t. went_to e.task.code t m s) short in
      let here : place None (machine_seen e.task.code m) (stage_seen back) ≡ p =
      place_again w c (machine_seen e.task.code e.machine) (machine_seen e.task.code m) (stage_seen e.stage) (stage_seen s) wants (stage_seen back) again in
      begins i e (record e { machine = m; stage = back; fuel = f; at = at.Again; node = n }) more ready through left fuel made
      (λ values tape.
      ap (λ q. tell_and_go_on (own_code w c i n.dealt f) q (step_told w c q (last_of values)) values tape) here
      ∙ ap (λ d. tell_and_go_on (own_code w c i d f) p (step_told w c p (last_of values)) values tape) dealt
      ∙ sym (ap (λ z. tell_and_go_on (own_code w c i e.node.dealt f) p (led_by w c values p z) values tape) wants))

-- ---- and is done again

pub acts_again :
    {P : Type 0} (i : Number) (e : Engine P) (m : running.Machine) (s : reached.Stage) (t : Turned) (speech : Speech) (before : told.Told) (last : List ℕ) →
    e.at ≡ at.Again → IsThrough i e.node → last ≡ last_of e.node.values →
    step_told (task_world e.task) (task_code e.task) (place_at i e) last ≡ went_to e.task.code t m s →
    before.events ≡ length e.stage.events.items → before.opened ≡ length e.stage.opened.items →
    ((words last : List ℕ) → speech_seen speech words last ≡ told_by (next_step (place_at i e).machine) (place_at i e).machine words last) →
    engine_left i (record e { machine = m; stage = s; at = at.Acts t speech before }) ≡ engine_left i e
acts_again i e m s t speech before last again through own step events opened says =
    let p = place_at i e in
    does_again i e (record e { machine = m; stage = s; at = at.Acts t speech before }) again through refl
    (acts_is (code_from i e) p t (machine_seen e.task.code m) s speech before events opened says e.node.values e.node.tape.1
    ∙ ap (λ z. tell_and_go_on (code_from i e) p z e.node.values e.node.tape.1)
    (sym (ap (λ ws. step_told (task_world e.task) (task_code e.task) p ws) (sym own) ∙ step)))
