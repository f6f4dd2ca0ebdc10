-- What a step of a miner leaves to do.
use Rattle.std.proofs.Common.{◌≡◌, ℕ, suc, List, [], ◌∷◌, ◌++◌, map, length, drop, refl, sym, ◌∙◌, ap, subst, append_assoc}
use Rattle.std.specs.Prelude.{Option, Vec}
use Rattle.std.specs.declared.alloc.Global.{Global}
use Rattle.proto_core.specs.declared.party.Number.{Number}
use Rattle.proto_core.specs.declared.link.Link.{Link}
use Rattle.proto_core.specs.declared.refused.BadMessage.{BadMessage}
use Rattle.proto_core.specs.Strand.{Notice, Mail, Strand, run, then_do, told_in}
use Rattle.gates.specs.declared.gate.Gate.{Gate}
use Rattle.gates.specs.Clear.{Values}
use Rattle.language_model.specs.Effects.{Stage}
use Rattle.code_machine.specs.Machine.{Machine}
use Rattle.value_steps.specs.Views.{stage_seen}
use Rattle.value_steps.specs.declared.stage.Stage as reached
use Rattle.driven_nodes.specs.Driven.{telling}
use Rattle.driven_nodes.specs.Steps.{Went, place_of, stand_of, gained, last_of}
use Rattle.own_code.specs.Places.{Place, step_told, notices_between, next_step, told_by, where_made}
use Rattle.block_steps.specs.declared.links.Links.{Links}
use Rattle.block_steps.specs.Outcomes.{outcome, outcome_of, mail_left}
use Rattle.gate_node.specs.OwnGates.{GatesEnd, Whole, Stuck, own_gates, then_gates}
use Rattle.gate_node.specs.Nodes as node
use Rattle.gate_node.proofs.Always.{then-all}
use Rattle.miner_core.specs.declared.outcome.Turned.{Turned}
use Rattle.miner_core.specs.declared.outcome.Turned.TheVariants as turned
use Rattle.miner_core.specs.declared.speech.Speech.{Speech}
use Rattle.miner_core.specs.declared.telling.Told as told
use Rattle.miner_core.specs.TurnViews.{went_as, went_to, speech_seen}
use Rattle.miner_core.proofs.Places.{stage_went}
use Rattle.miner_core.specs.declared.engine.At.{At}
use Rattle.miner_core.specs.declared.engine.At.TheVariants as at
use Rattle.miner_core.specs.declared.engine.Engine.{Engine}
use Rattle.gate_node.specs.declared.standing.Standing.{Standing}
use Rattle.gate_node.specs.declared.standing.Standing.TheVariants as stand
use Rattle.miner_core.specs.declared.notice.Notice as said
use Rattle.own_code.specs.OwnCode.{From, go_on, tell_and_go_on, gates_between, led_by, behind_gates, own_code, Ended}
use Rattle.miner_core.specs.Views.{task_world, task_code, told_since, notice_seen}
use Rattle.miner_core.specs.Engines.{place_at, code_from, goes_on_at, behind_node, engine_left}
use Rattle.miner_core.specs.Engines.{engine_outcome, engine_told, IsThrough, IsThroughAlways, IsOver, StandsAlways}
use Rattle.miner_core.specs.Engines.{KeepsLinks, Keeps, measure, acting, led_to}

-- ---- what a step tells

module _ (on : From Place) (p : Place) (t : Turned) (m : Machine) (s : reached.Stage) (speech : Speech) (before : told.Told)
    (events : before.events ≡ length p.stage.events) (opened : before.opened ≡ length p.stage.opened)
    (says : (words last : List ℕ) → speech_seen speech words last ≡ told_by (next_step p.machine) p.machine words last) where
  told_is : (values : Values) → told_since speech before s (last_of values) ≡ notices_between p (place_of (went_as t m (stage_seen s))) values
  told_is values =
      ap (λ n. where_made (drop n s.events.items) (speech_seen speech (drop before.opened s.opened.items) (last_of values))) events
      ∙ ap (λ n. where_made (drop (length p.stage.events) s.events.items) (speech_seen speech (drop n s.opened.items) (last_of values))) opened
      ∙ ap (λ ns. where_made (drop (length p.stage.events) s.events.items) ns) (says (drop (length p.stage.opened) s.opened.items) (last_of values))
      ∙ sym (ap (λ (u : Stage). where_made (gained p.stage.events u.events)
      (told_by (next_step p.machine) p.machine (gained p.stage.opened u.opened) (last_of values))) (stage_went t m (stage_seen s)))

  pub acts_is :
      (values : Values) (tape : List ℕ) →
      telling (told_since speech before s (last_of values)) (go_on on (stand_of (went_as t m (stage_seen s))) values tape)
      ≡ tell_and_go_on on p (went_as t m (stage_seen s)) values tape
  acts_is values tape = ap (λ ns. telling ns (go_on on (stand_of (went_as t m (stage_seen s))) values tape)) (told_is values)

-- ---- a step begins

module _ {P : Type 0} (i : Number) (e e2 : Engine P) where
  abbrev pub led_at : (values : Values) → Went Place → Went Place
  led_at values went = led_by (task_world e.task) (task_code e.task) values (place_at i e) went

  abbrev pub first : Went Place
  first = step_told (task_world e.task) (task_code e.task) (place_at i e) []

  abbrev pub code_at : (fuel : ℕ) → From Place
  code_at fuel = own_code (task_world e.task) (task_code e.task) i e.node.dealt fuel

  -- after its gates the miner is where the step has led
  abbrev pub IsLed : Type 0
  IsLed = (values : Values) (tape : List ℕ)
      → goes_on_at i e2 e2.at values tape ≡ tell_and_go_on (code_at e2.fuel) (place_at i e) (led_at values first) values tape

  led_on : IsLed → (h : GatesEnd) → behind_node i e2 e2.at h ≡ behind_gates (task_world e.task) (task_code e.task) (code_at e2.fuel) (place_at i e) first h
  led_on led (Whole values tape) = led values tape
  led_on led Stuck = refl

  pub begins :
      (gates : List Gate) → e.at ≡ at.Ready → IsThrough i e.node →
      node.engine_left i e2.node ≡ then_do (node.engine_left i e.node) (then_gates i e.node.dealt gates) → e.fuel ≡ suc e2.fuel →
      gates ≡ gates_between (place_at i e) (place_of first) → IsLed → engine_left i e2 ≡ engine_left i e
  begins gates ready through left fuel made led =
      let values = e.node.values in
      let tape = e.node.tape.1 in
      let behind = behind_gates (task_world e.task) (task_code e.task) (code_at e2.fuel) (place_at i e) first in
      ap (λ s. then_do s (behind_node i e2 e2.at)) (left ∙ ap (λ s. then_do s (then_gates i e.node.dealt gates)) through)
      ∙ then-all (own_gates i e.node.dealt gates values tape) (behind_node i e2 e2.at) behind (led_on led)
      ∙ ap (λ g. then_do (own_gates i e.node.dealt g values tape) behind) made
      ∙ ap (λ k. code_at k (place_at i e) values tape) (sym fuel)
      ∙ sym (ap (λ a. then_do (node.engine_left i e.node) (behind_node i e a)) ready ∙ ap (λ s. then_do s (behind_node i e at.Ready)) through)

  -- ---- done again

  pub does_again :
      e.at ≡ at.Again → IsThrough i e.node → node.engine_left i e2.node ≡ node.engine_left i e.node →
      goes_on_at i e2 e2.at e.node.values e.node.tape.1
      ≡ tell_and_go_on (code_from i e) (place_at i e) (step_told (task_world e.task) (task_code e.task) (place_at i e) (last_of e.node.values))
      e.node.values e.node.tape.1 →
      engine_left i e2 ≡ engine_left i e
  does_again again through left led =
      ap (λ s. then_do s (behind_node i e2 e2.at)) (left ∙ through)
      ∙ led
      ∙ sym (ap (λ a. then_do (node.engine_left i e.node) (behind_node i e a)) again ∙ ap (λ s. then_do s (behind_node i e at.Again)) through)

-- ---- what is told, and on

outcome_telling :
    {A : Type 0} (i : Number) (n p : List (List ℕ)) (o : List ℕ) (ns : List Notice) (s : Strand A) (x : Mail) →
    outcome i n p o (run (telling ns s) x) ≡ outcome i n p o (run s x)
outcome_telling i n p o [] s x = refl
outcome_telling i n p o (t ∷ ns) s x = outcome_telling i n p o ns s x

told_telling : {A : Type 0} (ns : List Notice) (s : Strand A) (x : Mail) → told_in (run (telling ns s) x).acts ≡ ns ++ told_in (run s x).acts
told_telling [] s x = refl
told_telling (t ∷ ns) s x = ap (λ v. t ∷ v) (told_telling ns s x)

module _ {P : Type 0} (i : Number) (e : Engine P) where
  there_is :
      (t : Turned) (values : Values) (tape : List ℕ) →
      goes_on_at i e (led_to t) values tape ≡ go_on (code_from i e) (stand_of (went_to e.task.code t e.machine e.stage)) values tape
  there_is turned.On values tape = refl
  there_is (turned.Over ending) values tape = refl
  there_is turned.Short values tape = refl

  module _ (through : IsThrough i e.node) (t : Turned) (speech : Speech) (before : told.Told) where
    abbrev there : Strand Ended
    there = go_on (code_from i e) (stand_of (went_to e.task.code t e.machine e.stage)) e.node.values e.node.tape.1

    abbrev says : List Notice
    says = told_since speech before e.stage (last_of e.node.values)

    left_there : (a : At) (own : Vec said.Notice Global) → a ≡ led_to t → engine_left i (record e { at = a; notices = own }) ≡ there
    left_there a own led =
        ap (λ s. then_do s (behind_node i (record e { at = a; notices = own }) a)) through
        ∙ ap (λ b. goes_on_at i (record e { at = a; notices = own }) b e.node.values e.node.tape.1) led
        ∙ there_is t e.node.values e.node.tape.1

    left_acting : engine_left i (acting e t speech before) ≡ telling says there
    left_acting = ap (λ s. then_do s (behind_node i (acting e t speech before) (at.Acts t speech before))) through

    pub goes_on_same :
        (a : At) (own : Vec said.Notice Global) → a ≡ led_to t
        → engine_outcome i (record e { at = a; notices = own }) ≡ engine_outcome i (acting e t speech before)
    goes_on_same a own led =
        let l = e.node.links in
        ap (outcome_of i l) (left_there a own led)
        ∙ sym (ap (outcome_of i l) left_acting ∙ outcome_telling i l.to_next l.to_previous l.opened.items says there (mail_left i l))

    pub goes_on_told :
        (a : At) (own : Vec said.Notice Global) → a ≡ led_to t → map notice_seen own.items ≡ map notice_seen e.notices.items ++ says →
        engine_told i (record e { at = a; notices = own }) ≡ engine_told i (acting e t speech before)
    goes_on_told a own led told =
        let x = mail_left i e.node.links in
        let mine = map notice_seen e.notices.items in
        ap (λ s. map notice_seen own.items ++ told_in (run s x).acts) (left_there a own led)
        ∙ ap (λ ns. ns ++ told_in (run there x).acts) told
        ∙ append_assoc mine says (told_in (run there x).acts)
        ∙ sym (ap (λ s. mine ++ told_in (run s x).acts) left_acting ∙ ap (λ ns. mine ++ ns) (told_telling says there x))

-- ---- what it is at was looked at, or put back

module _ {P : Type 0} (i : Number) (e : Engine P) (a : At) (is : e.at ≡ a) where
  abbrev pub put : Engine P
  put = record e { at = a }

  pub put_same : engine_outcome i put ≡ engine_outcome i e
  put_same = ap (λ b. engine_outcome i (record e { at = b })) (sym is)

  pub put_told : engine_told i put ≡ engine_told i e
  put_told = ap (λ b. engine_told i (record e { at = b })) (sym is)

  pub put_measure : measure put ≡ measure e
  put_measure = ap (λ b. measure (record e { at = b })) (sym is)

  pub beside_same : (e2 : Engine P) → engine_left i e2 ≡ engine_left i put → KeepsLinks put e2 → engine_outcome i e2 ≡ engine_outcome i e
  beside_same e2 left kept =
      ap (outcome_of i e2.node.links) left ∙ ap (λ l. outcome_of i l (engine_left i put)) kept.links ∙ put_same

  pub beside_told : (e2 : Engine P) → engine_left i e2 ≡ engine_left i put → KeepsLinks put e2 → engine_told i e2 ≡ engine_told i e
  beside_told e2 left kept =
      ap (λ s. map notice_seen e2.notices.items ++ told_in (run s (mail_left i e2.node.links)).acts) left
      ∙ ap (λ (v : Vec said.Notice Global). map notice_seen v.items ++ told_in (run (engine_left i put) (mail_left i e2.node.links)).acts) kept.notices
      ∙ ap (λ l. map notice_seen e.notices.items ++ told_in (run (engine_left i put) (mail_left i l)).acts) kept.links
      ∙ put_told

-- no message is taken or sent
pub holds_links : {P : Type 0} (e e2 : Engine P) → KeepsLinks e e2 → Keeps e e2
holds_links e e2 k =
    record {
      links = record { previous = ap (λ (l : Links). l.from_previous.0) k.links; next = ap (λ (l : Links). l.from_next.0) k.links };
      task = k.task;
      dealt = k.dealt;
      tape = ap (λ (t : List ℕ × List ℕ). t.0) k.tape;
    }

-- ---- where it rests

no_through_waits : (link : Link) (cause : Option BadMessage) → stand.Waits link cause ≡ stand.Through → ⊥
no_through_waits link cause e = cc

no_through_unfit : stand.Unfit ≡ stand.Through → ⊥
no_through_unfit e = cc

no_through_wants : (count : ℕ) → stand.Wants count ≡ stand.Through → ⊥
no_through_wants count e = cc

module _ {P : Type 0} (i : Number) (e : Engine P) (s : Standing) where
  pub stands_waits : (link : Link) (cause : Option BadMessage) → s ≡ stand.Waits link cause → node.StandsAlways i s e.node → StandsAlways i s e
  stands_waits link cause is h = record { node = h; over = λ other. absurd (no_through_waits link cause (sym is ∙ other)) }

  pub stands_unfit : s ≡ stand.Unfit → node.StandsAlways i s e.node → StandsAlways i s e
  stands_unfit is h = record { node = h; over = λ other. absurd (no_through_unfit (sym is ∙ other)) }

  pub stands_wants : (count : ℕ) → s ≡ stand.Wants count → node.StandsAlways i s e.node → StandsAlways i s e
  stands_wants count is h = record { node = h; over = λ other. absurd (no_through_wants count (sym is ∙ other)) }

  pub stands_over : s ≡ stand.Through → IsOver i e e.at × IsThroughAlways i e.node → StandsAlways i s e
  stands_over is h = record { node = subst (λ s. node.StandsAlways i s e.node) (sym is) h.1; over = λ other. h.0 }
