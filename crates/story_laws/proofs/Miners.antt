-- A miner at work, as a strand: each gate is tested before it is run, so that its part moves along its script.
use Rattle.std.proofs.Common.{◌≡◌, ◌≤◌, ℕ, zero, suc, List, [], ◌∷◌, ◌++◌, length, drop, Bool, true, false, if◌then◌else◌, refl, subst, arith}
use Rattle.std.specs.Prelude.{nat_le}
use Rattle.proto_core.specs.declared.party.Number.{Number}
use Rattle.proto_core.specs.Script.{Move, Sends, Takes, UsesOwnLinks}
use Rattle.proto_core.specs.Strand.{Strand, Ends, then_do}
use Rattle.proto_core.proofs.MessageFields.{first_true, second_true}
use Rattle.protocol_model.specs.Gates.{Joined, Local, AreSound, sizes_of, needed, gates_strand, gates_script}
use Rattle.protocol_model.specs.Gates as model
use Rattle.protocol_model.proofs.GateRuns.{gates-move}
use Rattle.gates.specs.declared.gate.Gate.{Gate}
use Rattle.gates.specs.Clear.{Values}
use Rattle.shared_gates.specs.Model.{SizesSuit}
use Rattle.shared_gates.proofs.Models.{gates-sound, gates-sized}
use Rattle.gate_node.specs.Suiting.{suits}
use Rattle.gate_node.specs.OwnGates.{GatesEnd, Whole, Stuck, own_gate, own_draws, can_run, own_gates}
use Rattle.gate_node.proofs.Suiting.{test-is}
use Rattle.framed_runs.proofs.FramedScripts.{SendsFit, GatesFit, run_gates-fit}
use Rattle.language_model.specs.Effects.{World}
use Rattle.verified_code.specs.Steps.{Function}
use Rattle.code_places.specs.Places.{Place, first_place, notices_between, step_told}
use Rattle.driven_nodes.specs.Steps.{Went, Running, Stopped, Short, Stand, place_of, stand_of}
use Rattle.own_code.specs.OwnCode.{gates_between, led_by, go_on, own_code, behind_gates}
use Rattle.miner_core.specs.Meaning.{fuel}
use Rattle.miner_core.specs.Story.{Story, node, strand_in, mail_in}
use Rattle.story_laws.specs.Stories.{WaitsAtItsLinks, SendsFrames}
use Rattle.story_laws.proofs.Strands.{Behaves, RanWell, IsAtItsLinks, then_behaves, telling_behaves, script_behaves, run_behaves, stands_at_its_links}
use Rattle.story_laws.proofs.Strands.{sent_framed, none_sent}

-- ---- GATES

own_both : (i : Number) (xs ys : List Move) → UsesOwnLinks i xs → UsesOwnLinks i ys → UsesOwnLinks i (xs ++ ys)
own_both i [] ys h g = g
own_both i (Sends l shape ∷ xs) ys h g = (h.0, own_both i xs ys h.1 g)
own_both i (Takes l shape ∷ xs) ys h g = (h.0, own_both i xs ys h.1 g)

sent_both : (xs ys : List Move) → SendsFit xs → SendsFit ys → SendsFit (xs ++ ys)
sent_both [] ys h g = g
sent_both (Sends l shape ∷ xs) ys h g = (h.0, sent_both xs ys h.1 g)
sent_both (Takes l shape ∷ xs) ys h g = sent_both xs ys h g

gates_own : (i : Number) (gates : List model.Gate) → AreSound gates → UsesOwnLinks i (gates_script i gates)
gates_own i [] sound = tt
gates_own i (Joined p n u v ∷ gates) sound = own_both i (p.script n i) (gates_script i gates) (sound.0.own_links n i) (gates_own i gates sound.1)
gates_own i (Local n f ∷ gates) sound = gates_own i gates sound

gates_sent : (i : Number) (gates : List model.Gate) → GatesFit gates → SendsFit (gates_script i gates)
gates_sent i [] fit = tt
gates_sent i (Joined p n u v ∷ gates) fit = sent_both (p.script n i) (gates_script i gates) (fit.0 i) (gates_sent i gates fit.1)
gates_sent i (Local n f ∷ gates) fit = gates_sent i gates fit.1

at_most : (a b : ℕ) → nat_le a b ≡ true → a ≤ b
at_most a b h = grind arith

module _ (i : Number) (dealt : Values) where
  one_behaves : (gate : Gate) (values : Values) (tape : List ℕ) → can_run i dealt values tape gate ≡ true
      → Behaves i (gates_strand i (own_gate i dealt values gate ∷ []) values tape)
  one_behaves gate values tape can =
      let ds = sizes_of dealt in
      let sizes = sizes_of values in
      let suit : SizesSuit ds sizes gate = (test-is ds sizes gate).0 (first_true (suits ds sizes gate) (nat_le (own_draws i dealt values gate) (length tape)) can) in
      let one : List model.Gate = own_gate i dealt values gate ∷ [] in
      script_behaves i (gates_strand i one values tape) (gates_script i one)
      (gates-move i one sizes values tape (gates-sound (λ k. dealt) ds sizes (gate ∷ [])) (gates-sized (λ k. dealt) ds sizes (gate ∷ []) (λ k. refl) (suit, tt)) refl
      (at_most _ _ (second_true (suits ds sizes gate) (nat_le (own_draws i dealt values gate) (length tape)) can)))
      (gates_own i one (gates-sound (λ k. dealt) ds sizes (gate ∷ [])))
      (gates_sent i one (run_gates-fit (λ k. dealt) ds sizes (gate ∷ [])))

  gates_behave : (gates : List Gate) (values : Values) (tape : List ℕ) → Behaves i (own_gates i dealt gates values tape)
  gates_behave [] values tape = tt
  gates_behave (gate ∷ gates) values tape = go (can_run i dealt values tape gate) refl (λ all rest. gates_behave gates all rest)
    where
      on : Values → Strand GatesEnd
      on all = own_gates i dealt gates all (drop (own_draws i dealt values gate) tape)

      go : (b : Bool) → can_run i dealt values tape gate ≡ b → ((all : Values) (rest : List ℕ) → Behaves i (own_gates i dealt gates all rest))
          → Behaves i (if b then then_do (gates_strand i (own_gate i dealt values gate ∷ []) values tape) on else Ends Stuck)
      go true e more = then_behaves i (gates_strand i (own_gate i dealt values gate ∷ []) values tape) on (one_behaves gate values tape e) (λ all. more all _)
      go false e more = tt

  -- ---- CODE

  code_behaves : (w : World) (c : List Function) (fuel : ℕ) (p : Place) (values : Values) (tape : List ℕ)
      → Behaves i (own_code w c i dealt fuel p values tape)
  code_behaves w c zero p values tape = tt
  code_behaves w c (suc fuel) p values tape =
      then_behaves i (own_gates i dealt (gates_between p (place_of went)) values tape) (behind_gates w c (own_code w c i dealt fuel) p went)
      (gates_behave (gates_between p (place_of went)) values tape) (behind (λ q all rest. code_behaves w c fuel q all rest))
    where
      went : Went Place
      went = step_told w c p []

      on : (stand : Stand Place) (all : Values) (rest : List ℕ) → ((q : Place) (all : Values) (rest : List ℕ) → Behaves i (own_code w c i dealt fuel q all rest))
          → Behaves i (go_on (own_code w c i dealt fuel) stand all rest)
      on (Running q) all rest more = more q all rest
      on (Stopped q) all rest more = tt
      on (Short q) all rest more = tt

      behind : ((q : Place) (all : Values) (rest : List ℕ) → Behaves i (own_code w c i dealt fuel q all rest)) → (h : GatesEnd)
          → Behaves i (behind_gates w c (own_code w c i dealt fuel) p went h)
      behind more Stuck = tt
      behind more (Whole all rest) =
          telling_behaves i (notices_between p (place_of (led_by w c all p went)) all)
          (go_on (own_code w c i dealt fuel) (stand_of (led_by w c all p went)) all rest)
          (on (stand_of (led_by w c all p went)) all rest more)

-- ---- STORIES

ran_well : (i : Number) (s : Story) → RanWell i (node i s)
ran_well i s = run_behaves i (strand_in i s) (mail_in i s) (code_behaves i s.dealt s.world s.code (fuel s.code s.budget) (first_place s.code s.budget) [] s.tape)

pub waits_at_its_links : (i : Number) (s : Story) → WaitsAtItsLinks i s
waits_at_its_links i s =
    let at = stands_at_its_links i (node i s).left (node i s).unread (ran_well i s).left in
    record {
      awaited = λ l e. subst (IsAtItsLinks i) e at;
      refused = λ l cause e. subst (IsAtItsLinks i) e at;
    }

pub sends_frames : (i : Number) (s : Story) → SendsFrames i s
sends_frames i s =
    let acts = (ran_well i s).acts in
    record { frames = λ l. sent_framed i l (node i s).acts acts; own_links = λ l other. none_sent i l (node i s).acts other acts }
