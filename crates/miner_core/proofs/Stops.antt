-- Where a miner has ended, by what its engine holds.
use Rattle.std.proofs.Common.{◌≡◌, ◌-◌, ℕ, List, [], Option, Some, None, refl, sym, ◌∙◌, ap}
use Rattle.sc_text.specs.declared.end.Ending.{Ending}
use Rattle.proto_core.specs.declared.party.Number.{Number}
use Rattle.proto_core.specs.declared.refused.BadMessage.{BadMessage}
use Rattle.proto_core.specs.Strand.{Strand, Ends, Acts, Waits, then_do}
use Rattle.gates.specs.Clear.{Values}
use Rattle.shared_gates.specs.Model.{miner_of}
use Rattle.value_steps.specs.Views.{stage_seen, drawn_seen}
use Rattle.code_machine.specs.Views.{machine_seen}
use Rattle.own_code.specs.Dealt.{drawn_by}
use Rattle.own_code.specs.Places.{Place, place}
use Rattle.driven_nodes.specs.Steps.{Running, Stopped, Short}
use Rattle.block_steps.specs.declared.links.Links.{Links}
use Rattle.block_steps.specs.Outcomes.{Outcome, StandsAt}
use Rattle.gate_node.specs.OwnGates.{GatesEnd}
use Rattle.gate_node.specs.Nodes as node
use Rattle.miner_core.specs.declared.engine.At.{At}
use Rattle.miner_core.specs.declared.engine.At.TheVariants as at
use Rattle.miner_core.specs.declared.engine.Engine.{Engine}
use Rattle.gate_node.specs.declared.standing.Standing.{Standing}
use Rattle.gate_node.specs.declared.standing.Standing.TheVariants.{Through, Waits as AtWait, Unfit as NotFit, Wants as WantsMore}
use Rattle.own_code.specs.EarlierGates.{place_with_gates}
use Rattle.own_code.specs.OwnCode.{Ended, Reached, Unfit}
use Rattle.miner_core.specs.Engines.{behind_node, ended_by, ending_at, engine_left, forgetting, goes_on_at, if_ended, IsOver, Rests}
use Rattle.miner_core.specs.Story.{Story, Follows, at_stop_or, ending_in, cost_in, drawn_in}
use Rattle.miner_core.specs.Story as story
use Rattle.miner_core.proofs.Stories.{unfit_ends, wants_ends}

-- ---- what is read off a place, whatever its gates are

module _ {A : Type 0} (other : A) (f : Place → A) (ignores : (p : Place) → f (place_with_gates [] p) ≡ f p) where
  -- the same where values were let go, and gates
  forgetting_reads : (s : Strand Ended) → at_stop_or other f (forgetting s) ≡ at_stop_or other f s
  forgetting_reads (Ends (Reached (Stopped p) values)) = ignores p
  forgetting_reads (Ends (Reached (Running p) values)) = refl
  forgetting_reads (Ends (Reached (Short p) values)) = refl
  forgetting_reads (Ends Unfit) = refl
  forgetting_reads (Acts a s) = refl
  forgetting_reads (Waits l shape k) = refl

  -- nothing is, where a message is awaited
  waits_reads : (i : Number) (l : Links) (cause : Option BadMessage) (g : GatesEnd → Strand Ended) (s : Strand GatesEnd) → StandsAt i l cause s →
      at_stop_or other f (then_do s g) ≡ other
  waits_reads i l cause g (Ends a) h = absurd h
  waits_reads i l cause g (Acts a s) h = absurd h
  waits_reads i l cause g (Waits k shape c) h = refl

  module _ {P : Type 0} (i : Number) where
    -- read off the engine's place
    abbrev pub read_off : Engine P → Option Ending → A
    read_off e None = other
    read_off e (Some ending) = f (place (Some ending) (machine_seen e.task.code e.machine) (stage_seen e.stage))

    over_reads : (e : Engine P) (a : At) (values : Values) (tape : List ℕ) → IsOver i e a →
        at_stop_or other f (goes_on_at i e a values tape) ≡ read_off e (ended_by a)
    over_reads e at.Ready values tape h = ap (λ k. at_stop_or other f (goes_on_at i (record e { fuel = k }) at.Ready values tape)) h
    over_reads e at.Again values tape h = absurd h
    over_reads e (at.Acts t speech before) values tape h = absurd h
    over_reads e (at.Over ending) values tape h = refl
    over_reads e at.Short values tape h = refl

    rest_reads : (e : Engine P) (r : Standing) → Rests i r e → at_stop_or other f (engine_left i e) ≡ read_off e (ending_at r e.at)
    rest_reads e Through h =
        ap (λ s. at_stop_or other f (then_do s (behind_node i e e.at))) h.node ∙ over_reads e e.at e.node.values e.node.tape.1 (h.over refl)
    rest_reads e NotFit h = ap (at_stop_or other f) (unfit_ends i e h)
    rest_reads e (WantsMore count) h = ap (at_stop_or other f) (wants_ends i e count h)
    rest_reads e (AtWait link cause) h = waits_reads i e.node.links cause (behind_node i e e.at) (node.engine_left i e.node) h.node.0

    pub stop_is : (e : Engine P) (r : Standing) (s : Story) → Follows i e s → Rests i r e →
        at_stop_or other f (story.node i s).left ≡ read_off e (ending_at r e.at)
    stop_is e r s follows rests =
        sym (forgetting_reads (story.node i s).left)
        ∙ ap (λ (o : Outcome Ended). at_stop_or other f o.left) (sym follows.same)
        ∙ forgetting_reads (engine_left i e)
        ∙ rest_reads e r rests

-- ---- how the run has ended, its cost, and the words that it has drawn

module _ {P : Type 0} (i : Number) (e : Engine P) (r : Standing) (s : Story) (follows : Follows i e s) (rests : Rests i r e) where
  pub ending_is : ending_in i s ≡ ending_at r e.at
  ending_is = stop_is None (λ p. p.ended) (λ p. refl) i e r s follows rests ∙ same (ending_at r e.at)
    where
      same : (o : Option Ending) → read_off None (λ p. p.ended) (λ p. refl) i e o ≡ o
      same None = refl
      same (Some ending) = refl

  pub cost_is : cost_in i s ≡ if_ended (ending_at r e.at) (s.budget - e.stage.left)
  cost_is = stop_is 0 (λ p. s.budget - p.stage.left) (λ p. refl) i e r s follows rests ∙ same (ending_at r e.at)
    where
      same : (o : Option Ending) → read_off 0 (λ p. s.budget - p.stage.left) (λ p. refl) i e o ≡ if_ended o (s.budget - e.stage.left)
      same None = refl
      same (Some ending) = refl

  pub drawn_is : drawn_in i s ≡ if_ended (ending_at r e.at) (drawn_by (drawn_seen e.stage.drawn) (miner_of i))
  drawn_is = stop_is 0 (λ p. drawn_by p.stage.drawn (miner_of i)) (λ p. refl) i e r s follows rests ∙ same (ending_at r e.at)
    where
      same : (o : Option Ending) → read_off 0 (λ p. drawn_by p.stage.drawn (miner_of i)) (λ p. refl) i e o
          ≡ if_ended o (drawn_by (drawn_seen e.stage.drawn) (miner_of i))
      same None = refl
      same (Some ending) = refl
