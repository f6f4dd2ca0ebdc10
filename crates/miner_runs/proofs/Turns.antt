-- A miner that runs code by its own values alone does, turn by turn, what a driven miner does that is led by the same code.
use Rattle.std.proofs.Common.{◌≡◌, ℕ, zero, suc, List, [], ◌++◌, drop, refl, sym, ◌∙◌, ap, subst}
use Rattle.std.specs.Prelude.{Option}
use Rattle.proto_core.specs.declared.party.Number.{Number}
use Rattle.proto_core.specs.declared.party.Number.TheVariants.{One}
use Rattle.proto_core.specs.Strand.{Strand, Ends, then_do}
use Rattle.proto_core.specs.Net.{into, added, Finishes}
use Rattle.proto_core.proofs.Nets.{into-added}
use Rattle.protocol_model.specs.Gates.{sizes_of, AreSound, needed, gates_strand}
use Rattle.protocol_model.specs.Gates as model
use Rattle.protocol_model.specs.Runs.{Shares, Tapes, Ready, run_messages, run_values, nodes_of}
use Rattle.protocol_model.proofs.GateRuns.{run-finishes}
use Rattle.gates.specs.declared.gate.Gate.{Gate}
use Rattle.gates.specs.Clear.{Values}
use Rattle.shared_gates.specs.Model.{AllSizesSuit, sizes_after}
use Rattle.shared_gates.proofs.GatesBehind.{sizes-then}
use Rattle.language_model.specs.Effects.{World}
use Rattle.verified_code.specs.Steps.{Function}
use Rattle.code_places.specs.Dealt.{Dealt}
use Rattle.driven_nodes.specs.Driven.{Turn, telling, shares_behind, tapes_behind, place_behind, LeadsTogether, driven, path, Goes}
use Rattle.driven_nodes.specs.Steps.{Went, On, Over, Wants, Steps, Stand, Running, Stopped, place_of, stand_of, gained, last_of, turn_of, next_turn}
use Rattle.driven_nodes.specs.Twins.{Course, gates_by, gates_of, ReadsBy, Reads, Follows, untold, told, TwinBy, Twins}
use Rattle.driven_nodes.proofs.Gates.{messages_then}
use Rattle.code_places.specs.Places.{Place, code_steps, run_dealt}
use Rattle.miner_core.specs.OwnGates.{Whole, own_gates}
use Rattle.miner_core.proofs.Always.{then-assoc}
use Rattle.miner_core.specs.OwnCode.{Ended, Reached, go_on, behind_gates, gates_between, own_code}
use Rattle.miner_runs.proofs.Deeds.{DoAlike, ended_alike, telling_alike, then_alike}
use Rattle.miner_runs.proofs.Sizes.{suits_front, suits_back, run_sizes, own_part}

-- what a driven miner ends with, as its own end
abbrev pub end_of : Stand Place × List (List ℕ) → Ended
end_of x = Reached x.0 x.1

module _ (w : World) (c : List Function) (d : Dealt) (sized : (i : Number) → sizes_of (d.shares i) ≡ sizes_of d.inputs) where
  abbrev steps : Steps Place Gate
  steps = code_steps w c

  abbrev next : Stand Place → Option (Turn (Stand Place))
  next = next_turn steps (run_dealt d)

  -- from where it stands
  abbrev mine : (fuel : ℕ) → Number → Stand Place → Values → (tape : List ℕ) → Strand Ended
  mine fuel i = go_on (own_code w c i (d.shares i) fuel)

  abbrev SameFrom : (fuel : ℕ) → Number → Stand Place → Shares → Tapes → Type 0
  SameFrom fuel i s values tapes =
      DoAlike end_of (into i (run_messages (path next fuel s values tapes) values tapes)) (mine fuel i s (values i) (tapes i))
      (driven next fuel i s (values i) (tapes i))

  -- one that has stopped goes no further
  stopped_alike : (fuel : ℕ) (i : Number) (q : Place) (values : Shares) (tapes : Tapes) → SameFrom fuel i (Stopped q) values tapes
  stopped_alike zero i q values tapes = ended_alike end_of (Stopped q, values i) _
  stopped_alike (suc fuel) i q values tapes = ended_alike end_of (Stopped q, values i) _

  -- ---- ONE TURN

  abbrev turn : Place → Went Place → Turn (Stand Place)
  turn p z = turn_of steps (run_dealt d) p z

  turn_gates : (p : Place) (z : Went Place) → (turn p z).gates ≡ run_dealt d p.stage.gates (gates_between p (place_of z))
  turn_gates p (On q) = refl
  turn_gates p (Over q) = refl
  turn_gates p (Wants q) = refl

  -- after its gates it tells what the turn tells, and goes on where the turn leads
  behind_same :
      (fuel : ℕ) (i : Number) (p : Place) (z : Went Place) (all : Values) (tape : List ℕ) →
      behind_gates w c (own_code w c i (d.shares i) fuel) p z (Whole all tape) ≡ telling ((turn p z).tells all) (mine fuel i ((turn p z).leads all) all tape)
  behind_same fuel i p (On q) all tape = refl
  behind_same fuel i p (Over q) all tape = refl
  behind_same fuel i p (Wants q) all tape = refl

  abbrev own_turn : (fuel : ℕ) → Number → Place → Went Place → Values → (tape : List ℕ) → Strand Ended
  own_turn fuel i p z values tape =
      then_do (own_gates i (d.shares i) (gates_between p (place_of z)) values tape) (behind_gates w c (own_code w c i (d.shares i) fuel) p z)

  -- what each does after the turn's gates
  abbrev own_behind : (fuel : ℕ) → Number → Turn (Stand Place) → (tape : List ℕ) → Values → Strand Ended
  own_behind fuel i t tape all = telling (t.tells all) (mine fuel i (t.leads all) all (drop (needed t.gates i) tape))

  abbrev driven_behind : (fuel : ℕ) → Number → Turn (Stand Place) → (tape : List ℕ) → Values → Strand (Stand Place × List (List ℕ))
  driven_behind fuel i t tape all = telling (t.tells all) (driven next fuel i (t.leads all) all (drop (needed t.gates i) tape))

  abbrev suiting : Place → List ℕ
  suiting p = sizes_after (sizes_of d.inputs) [] p.stage.gates

  module _ (fuel : ℕ) (p : Place) (z : Went Place) (values : Shares) (tapes : Tapes) (same : (i : Number) → sizes_of (values i) ≡ suiting p)
      (suit : AllSizesSuit (sizes_of d.inputs) (suiting p) (gates_between p (place_of z))) where
    abbrev t : Turn (Stand Place)
    t = turn p z

    abbrev gates : List model.Gate
    gates = run_dealt d p.stage.gates (gates_between p (place_of z))

    -- the gates of the miner suit its values, and its tape reaches
    own_turn_is :
        (i : Number) → Ready (t).gates values tapes →
        own_turn fuel i p z (values i) (tapes i) ≡ then_do (gates_strand i (t).gates (values i) (tapes i)) (own_behind fuel i t (tapes i))
    own_turn_is i ready =
        let on = behind_gates w c (own_code w c i (d.shares i) fuel) p z in
        let reach = (subst (λ g. Ready g values tapes) (turn_gates p z) ready).tapes_reach i in
        let part =
        own_part d i (values i) (tapes i) (gates_between p (place_of z)) (sizes_of d.inputs) (suiting p) (sized i) (same i) suit reach in
        ap (λ s. then_do s on) part
        ∙ ap (λ g. then_do (then_do (gates_strand i g (values i) (tapes i)) (λ all. Ends (Whole all (drop (needed g i) (tapes i))))) on)
        (sym (turn_gates p z))
        ∙ then-assoc (gates_strand i (t).gates (values i) (tapes i)) (λ all. Ends (Whole all (drop (needed (t).gates i) (tapes i)))) on
        ∙ ap (then_do (gates_strand i (t).gates (values i) (tapes i)))
        (λ e. λ all. behind_same fuel i p z all (drop (needed (t).gates i) (tapes i)) e)

    abbrev now : Shares
    now = shares_behind t values tapes

    abbrev later : Tapes
    later = tapes_behind t tapes

    abbrev place : Stand Place
    place = place_behind t values tapes

    turn_alike :
        (i : Number) → AreSound (t).gates → Ready (t).gates values tapes → LeadsTogether t values tapes → SameFrom fuel i place now later →
        DoAlike end_of (into i (run_messages (t.gates ++ path next fuel place now later) values tapes)) (own_turn fuel i p z (values i) (tapes i))
        (then_do (gates_strand i (t).gates (values i) (tapes i)) (driven_behind fuel i t (tapes i)))
    turn_alike i sound ready leads ahead =
        let first = into i (run_messages (t).gates values tapes) in
        let more = into i (run_messages (path next fuel place now later) now later) in
        let strand = gates_strand i (t).gates (values i) (tapes i) in
        let done : Finishes (nodes_of (t).gates values tapes) (run_messages (t).gates values tapes) now = run-finishes (t).gates values tapes sound ready in
        let mails : into i (run_messages (t.gates ++ path next fuel place now later) values tapes) ≡ added first more =
        ap (into i) (λ e. λ l. messages_then (t).gates (path next fuel place now later) values tapes l e)
        ∙ into-added i (run_messages (t).gates values tapes) (run_messages (path next fuel place now later) now later) in
        let there =
        subst (λ s. DoAlike end_of more (mine fuel i s (now i) (later i)) (driven next fuel i s (now i) (later i))) (sym (leads i)) ahead in
        subst (λ m. DoAlike end_of m (own_turn fuel i p z (values i) (tapes i)) (then_do strand (driven_behind fuel i t (tapes i)))) (sym mails)
        (subst (λ s. DoAlike end_of (added first more) s (then_do strand (driven_behind fuel i t (tapes i)))) (sym (own_turn_is i ready))
        (then_alike end_of strand (own_behind fuel i t (tapes i)) (driven_behind fuel i t (tapes i)) first more (now i) (done.ended i) (done.read i)
        (telling_alike end_of (t.tells (now i)) (mine fuel i (t.leads (now i)) (now i) (later i)) (driven next fuel i (t.leads (now i)) (now i) (later i))
        more there)))

    -- the sizes of the values after it
    sizes_behind_turn :
        Ready (t).gates values tapes → (i : Number) →
        sizes_of (now i) ≡ sizes_after (sizes_of d.inputs) [] (p.stage.gates ++ gates_between p (place_of z))
    sizes_behind_turn ready i =
        ap (λ g. sizes_of (run_values g values tapes i)) (turn_gates p z)
        ∙ run_sizes d.shares (sizes_of d.inputs) (suiting p) (gates_between p (place_of z)) values tapes
        (subst (λ g. Ready g values tapes) (turn_gates p z) ready) same i
        ∙ sym (sizes-then (sizes_of d.inputs) [] p.stage.gates (gates_between p (place_of z)))

  -- ---- TURN BY TURN, BESIDE THE RUN IN THE CLEAR

  module _ (course : Course Place Gate) (Alike End : Place → Place → Type 0) (twins : Twins course steps Alike End) where
    pub own_alike :
        (fuel : ℕ) (a p : Place) (values : Shares) (tapes : Tapes) → Alike a p → Reads course (run_dealt d) fuel a values tapes →
        Goes next fuel (Running p) values tapes → AllSizesSuit (sizes_of d.inputs) (suiting p) (gates_of course fuel a) →
        ((i : Number) → sizes_of (values i) ≡ suiting p) → (i : Number) → SameFrom fuel i (Running p) values tapes
    unfolding gates_of Reads
    own_alike zero a p values tapes alike reads goes suit same i = ended_alike end_of (Running p, values i) _
    own_alike (suc fuel) a p values tapes alike reads goes suit same i =
        by_went (course.step a) (twins.law a p alike) reads suit (own_alike fuel)
      where
        Later : Type 0
        Later =
            (a p : Place) (values : Shares) (tapes : Tapes) → Alike a p → Reads course (run_dealt d) fuel a values tapes →
            Goes next fuel (Running p) values tapes → AllSizesSuit (sizes_of d.inputs) (suiting p) (gates_of course fuel a) →
            ((i : Number) → sizes_of (values i) ≡ suiting p) → (i : Number) → SameFrom fuel i (Running p) values tapes

        -- what the turn needs, and what it comes to, by the step that it is made of
        CanTurn : Went Place → Type 0
        CanTurn z =
            AreSound (turn p z).gates
            × Ready (turn p z).gates values tapes
            × LeadsTogether (turn p z) values tapes
            × Goes next fuel (place_behind (turn p z) values tapes) (shares_behind (turn p z) values tapes) (tapes_behind (turn p z) tapes)

        Turned : Went Place → Type 0
        Turned z =
            DoAlike end_of
            (into i
            (run_messages
            ((turn p z).gates
            ++ path next fuel (place_behind (turn p z) values tapes) (shares_behind (turn p z) values tapes) (tapes_behind (turn p z) tapes))
            values tapes))
            (own_turn fuel i p z (values i) (tapes i))
            (then_do (gates_strand i (turn p z).gates (values i) (tapes i)) (driven_behind fuel i (turn p z) (tapes i)))

        -- the gates between two places of the run and between those beside them
        between :
            (b q : Place) → course.gates b ≡ q.stage.gates →
            run_dealt d p.stage.gates (gates_between p q) ≡ run_dealt d (course.gates a) (gained (course.gates a) (course.gates b))
        between b q e =
            ap (λ x. run_dealt d x (gained x q.stage.gates)) (sym (twins.same_gates a p alike))
            ∙ ap (λ x. run_dealt d (course.gates a) (gained (course.gates a) x)) (sym e)

        gained_same : (b q : Place) → course.gates b ≡ q.stage.gates → gained (course.gates a) (course.gates b) ≡ gates_between p q
        gained_same b q e =
            ap (λ x. gained x (course.gates b)) (twins.same_gates a p alike) ∙ ap (λ x. gained p.stage.gates x) e

        by_went :
            (v : Went Place) → TwinBy course steps Alike End a p v → ReadsBy course (run_dealt d) (Reads course (run_dealt d) fuel) a values tapes v →
            AllSizesSuit (sizes_of d.inputs) (suiting p) (gates_by course (gates_of course fuel) a v) → Later → Turned (steps.step p [])
        by_went (Wants b) twin reads suit more = absurd twin
        by_went (Over b) twin reads suit more =
            let q = twin.0 in
            let can = subst CanTurn twin.2 goes in
            let suits = subst (AllSizesSuit (sizes_of d.inputs) (suiting p)) (gained_same b q (twins.same_at_end b q twin.1)) suit in
            subst Turned (sym twin.2)
            (turn_alike fuel p (Over q) values tapes same suits i can.0 can.1 can.2
            (stopped_alike fuel i q (shares_behind (turn p (Over q)) values tapes) (tapes_behind (turn p (Over q)) tapes)))
        by_went (On b) twin reads suit more = by_way twin.3
          where
            q : Place
            q = twin.0

            same_there : course.gates b ≡ q.stage.gates
            same_there = twins.same_gates b q twin.1

            front : AllSizesSuit (sizes_of d.inputs) (suiting p) (gates_between p q)
            front =
                subst (AllSizesSuit (sizes_of d.inputs) (suiting p)) (gained_same b q same_there)
                (suits_front (sizes_of d.inputs) (suiting p) (gained (course.gates a) (course.gates b)) (gates_of course fuel b) suit)

            -- all gates up to the place after the turn
            whole : p.stage.gates ++ gates_between p q ≡ q.stage.gates
            whole =
                ap (λ x. p.stage.gates ++ x) (sym (gained_same b q same_there))
                ∙ ap (λ x. x ++ gained (course.gates a) (course.gates b)) (sym (twins.same_gates a p alike))
                ∙ sym twin.2
                ∙ same_there

            back : AllSizesSuit (sizes_of d.inputs) (suiting q) (gates_of course fuel b)
            back =
                subst (λ x. AllSizesSuit (sizes_of d.inputs) (sizes_after (sizes_of d.inputs) [] x) (gates_of course fuel b)) whole
                (subst (λ x. AllSizesSuit (sizes_of d.inputs) x (gates_of course fuel b))
                (sym (sizes-then (sizes_of d.inputs) [] p.stage.gates (gates_between p q)))
                (subst (λ x. AllSizesSuit (sizes_of d.inputs) (sizes_after (sizes_of d.inputs) (suiting p) x) (gates_of course fuel b))
                (gained_same b q same_there)
                (suits_back (sizes_of d.inputs) (suiting p) (gained (course.gates a) (course.gates b)) (gates_of course fuel b) suit)))

            -- the step has made the gates, and leads there
            go :
                (z : Went Place) → steps.step p [] ≡ z → (place_of z).stage.gates ≡ q.stage.gates →
                place_behind (turn p z) values tapes ≡ Running q → Turned (steps.step p [])
            go z st gates leads =
                let can = subst CanTurn st goes in
                let now = shares_behind (turn p z) values tapes in
                let later = tapes_behind (turn p z) tapes in
                let made : (turn p z).gates ≡ run_dealt d (course.gates a) (gained (course.gates a) (course.gates b)) =
                turn_gates p z ∙ ap (λ x. run_dealt d p.stage.gates (gained p.stage.gates x)) gates ∙ between b q same_there in
                let suits = subst (λ x. AllSizesSuit (sizes_of d.inputs) (suiting p) (gained p.stage.gates x)) (sym gates) front in
                let there : (k : Number) → sizes_of (now k) ≡ suiting q =
                λ k.
                sizes_behind_turn fuel p z values tapes same suits can.1 k
                ∙ ap (λ x. sizes_after (sizes_of d.inputs) [] (p.stage.gates ++ gained p.stage.gates x)) gates
                ∙ ap (sizes_after (sizes_of d.inputs) []) whole in
                let read : Reads course (run_dealt d) fuel b now later =
                subst (λ g. Reads course (run_dealt d) fuel b (run_values g values tapes) (λ k. drop (needed g k) (tapes k))) (sym made) reads.1 in
                let ahead = more b q now later twin.1 read (subst (λ s. Goes next fuel s now later) leads can.3) back there i in
                subst Turned (sym st)
                (turn_alike fuel p z values tapes same suits i can.0 can.1 can.2
                (subst (λ s. SameFrom fuel i s now later) (sym leads) ahead))

            by_way : Follows course steps Alike End p a b q → Turned (steps.step p [])
            by_way (untold st) = go (On q) st refl refl
            by_way (told halfway some st made goes_on) =
                go (Wants halfway) st made
                (ap (λ v. stand_of (steps.step p v))
                (ap (λ g. last_of (run_values g values tapes One)) (between b halfway (same_there ∙ sym made)) ∙ reads.0 some One)
                ∙ ap stand_of goes_on)
