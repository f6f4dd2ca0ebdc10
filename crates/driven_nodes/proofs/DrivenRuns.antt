-- A driven miner does, with all messages of the joint run, what one does that knows the gates from the start.
use Rattle.std.proofs.Common.{◌≡◌, ℕ, zero, suc, List, [], ◌++◌, drop, refl, sym, ◌∙◌, ap, subst}
use Rattle.std.specs.Option.{option_map_or}
use Rattle.std.specs.Prelude.{Option, Some, None}
use Rattle.proto_core.specs.declared.party.Number.{Number}
use Rattle.proto_core.specs.Strand.{Mail, Strand, Ends, then_do}
use Rattle.proto_core.specs.Net.{into, added, Finishes}
use Rattle.proto_core.proofs.Nets.{into-added}
use Rattle.protocol_model.specs.Gates.{Gate, AreSound, needed, gates_strand}
use Rattle.protocol_model.specs.Runs.{Shares, Tapes, Ready, run_messages, nodes_of}
use Rattle.protocol_model.proofs.GateRuns.{run-finishes}
use Rattle.driven_nodes.specs.Alike.{Alike}
use Rattle.driven_nodes.specs.Driven.{Turn, OfTurn, telling, shares_behind, tapes_behind, place_behind, LeadsTogether}
use Rattle.driven_nodes.specs.Driven.{driven, path, stop, Led, Goes}
use Rattle.driven_nodes.proofs.Strands.{alike_then, alike_telling}
use Rattle.driven_nodes.proofs.Gates.{gates_then, messages_then, sound_front, sound_back, ready_front, ready_back}

ends_same : {A : Type 0} (a b : A) → Ends a ≡ Ends b → a ≡ b
ends_same a b e = cc

abbrev pub with_values : {S : Type 0} → S → List (List ℕ) → S × List (List ℕ)
with_values s values = (s, values)

module _ {S : Type 0} (next : S → Option (Turn S)) where
  pub driven_alike :
      (fuel : ℕ) (i : Number) (s : S) (values : Shares) (tapes : Tapes) → Goes next fuel s values tapes →
      Alike (with_values (stop next fuel s values tapes)) (into i (run_messages (path next fuel s values tapes) values tapes))
      (driven next fuel i s (values i) (tapes i)) (nodes_of (path next fuel s values tapes) values tapes i)
  driven_alike zero i s values tapes h =
      λ x begins.
      record {
        sent = λ l. refl;
        opened = refl;
        unread = refl;
        waits = refl;
        stands = refl;
        ends = λ b e. ap (λ v. Ends (s, v)) (ends_same (values i) b e);
      }
  driven_alike (suc fuel) i s values tapes h = by_turn (next s) h (driven_alike fuel i)
    where
      May : Option (Turn S) → Type 0
      May o =
          OfTurn o
          (λ t.
          AreSound t.gates
          × Ready t.gates values tapes
          × LeadsTogether t values tapes
          × Goes next fuel (place_behind t values tapes) (shares_behind t values tapes) (tapes_behind t tapes))

      gates_by : Option (Turn S) → List Gate
      gates_by o =
          option_map_or (λ t. t.gates ++ path next fuel (place_behind t values tapes) (shares_behind t values tapes) (tapes_behind t tapes)) o []

      stop_by : Option (Turn S) → S
      stop_by o = option_map_or (λ t. stop next fuel (place_behind t values tapes) (shares_behind t values tapes) (tapes_behind t tapes)) o s

      mine_by : Option (Turn S) → Strand (S × List (List ℕ))
      mine_by o =
          option_map_or (λ t.
          then_do (gates_strand i t.gates (values i) (tapes i))
          (λ all. telling (t.tells all) (driven next fuel i (t.leads all) all (drop (needed t.gates i) (tapes i))))) o (Ends (s, values i))

      Later : Type 0
      Later =
          (s : S) (values : Shares) (tapes : Tapes) → Goes next fuel s values tapes →
          Alike (with_values (stop next fuel s values tapes)) (into i (run_messages (path next fuel s values tapes) values tapes))
          (driven next fuel i s (values i) (tapes i)) (nodes_of (path next fuel s values tapes) values tapes i)

      by_turn :
          (o : Option (Turn S)) → May o → Later →
          Alike (with_values (stop_by o)) (into i (run_messages (gates_by o) values tapes)) (mine_by o) (nodes_of (gates_by o) values tapes i)
      by_turn None h later =
          λ x begins.
          record {
            sent = λ l. refl;
            opened = refl;
            unread = refl;
            waits = refl;
            stands = refl;
            ends = λ b e. ap (λ v. Ends (s, v)) (ends_same (values i) b e);
          }
      by_turn (Some t) h later =
          subst (λ k. Alike there (into i (run_messages (t.gates ++ rest) values tapes)) mine k)
          (sym (gates_then i t.gates rest (values i) (tapes i)))
          (subst (λ mail. Alike there mail mine (then_do (gates_strand i t.gates (values i) (tapes i)) known)) (sym mails)
          (alike_then (gates_strand i t.gates (values i) (tapes i)) _ known (into i (run_messages t.gates values tapes)) ahead (now i)
          (done.ended i) (done.read i) (alike_telling (t.tells (now i)) (on (t.leads (now i))) (nodes_of rest now later_tapes i) ahead behind)))
        where
          now : Shares
          now = shares_behind t values tapes

          later_tapes : Tapes
          later_tapes = tapes_behind t tapes

          place : S
          place = place_behind t values tapes

          rest : List Gate
          rest = path next fuel place now later_tapes

          there : List (List ℕ) → S × List (List ℕ)
          there = with_values (stop next fuel place now later_tapes)

          mine : Strand (S × List (List ℕ))
          mine = mine_by (Some t)

          known : List (List ℕ) → Strand (List (List ℕ))
          known all = gates_strand i rest all (later_tapes i)

          done : Finishes (nodes_of t.gates values tapes) (run_messages t.gates values tapes) now
          done = run-finishes t.gates values tapes h.0 h.1

          -- what comes to this miner after the turn, and what it does then
          ahead : Mail
          ahead = into i (run_messages rest now later_tapes)

          on : S → Strand (S × List (List ℕ))
          on z = driven next fuel i z (now i) (later_tapes i)

          behind : Alike there ahead (on (t.leads (now i))) (nodes_of rest now later_tapes i)
          behind = subst (λ z. Alike there ahead (on z) (nodes_of rest now later_tapes i)) (sym (h.2 i)) (later place now later_tapes h.3)

          mails : into i (run_messages (t.gates ++ rest) values tapes) ≡ added (into i (run_messages t.gates values tapes)) ahead
          mails =
              ap (into i) (λ d. λ l. messages_then t.gates rest values tapes l d)
              ∙ into-added i (run_messages t.gates values tapes) (run_messages rest now later_tapes)

  -- where all gates can be run in one, they can be run turn by turn
  pub led_goes :
      (fuel : ℕ) (s : S) (values : Shares) (tapes : Tapes) → AreSound (path next fuel s values tapes) →
      Ready (path next fuel s values tapes) values tapes → Led next fuel s values tapes → Goes next fuel s values tapes
  led_goes zero s values tapes sound ready led = tt
  led_goes (suc fuel) s values tapes sound ready led = by_turn (next s) sound ready led (led_goes fuel)
    where
      rest : Turn S → List Gate
      rest t = path next fuel (place_behind t values tapes) (shares_behind t values tapes) (tapes_behind t tapes)

      gates_by : Option (Turn S) → List Gate
      gates_by o = option_map_or (λ t. t.gates ++ rest t) o []

      Later : Type 0
      Later =
          (s : S) (values : Shares) (tapes : Tapes) → AreSound (path next fuel s values tapes) →
          Ready (path next fuel s values tapes) values tapes → Led next fuel s values tapes → Goes next fuel s values tapes

      by_turn :
          (o : Option (Turn S)) → AreSound (gates_by o) → Ready (gates_by o) values tapes →
          OfTurn o (λ t. LeadsTogether t values tapes × Led next fuel (place_behind t values tapes) (shares_behind t values tapes) (tapes_behind t tapes)) →
          Later →
          OfTurn o
          (λ t.
          AreSound t.gates
          × Ready t.gates values tapes
          × LeadsTogether t values tapes
          × Goes next fuel (place_behind t values tapes) (shares_behind t values tapes) (tapes_behind t tapes))
      by_turn None sound ready led later = tt
      by_turn (Some t) sound ready led later =
          let front = sound_front t.gates (rest t) sound in (
            front,
            ready_front t.gates (rest t) values tapes ready,
            led.0,
            later _ _ _ (sound_back t.gates (rest t) sound) (ready_back t.gates (rest t) values tapes front ready) led.1,
          )
