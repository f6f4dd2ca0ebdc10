-- What a delivery of a program's run comes to is counted, and is the same for inputs that are alike.
use Rattle.std.proofs.Common.{◌≡◌, ℕ, Bool, true, false, if◌then◌else◌, List, [], ◌∷◌, refl, sym, ap, ◌∙◌, subst, arith}
use Rattle.proto_core.specs.declared.party.Number.{Number}
use Rattle.proto_core.specs.declared.party.Number.TheVariants.{One, Two, Three}
use Rattle.proto_core.specs.declared.link.Link.{Link}
use Rattle.proto_core.specs.Parties.{receiver_of, is_same}
use Rattle.proto_core.specs.Strand.{Mail, Strand, next_after}
use Rattle.proto_core.specs.Net.{nothing, under_way, delivered}
use Rattle.protocol_model.specs.Gates as model
use Rattle.protocol_model.specs.Gates.{gates_script}
use Rattle.protocol_model.specs.Network.{Accepted, Delivery, net, order_of}
use Rattle.protocol_model.specs.Arrivals.{Arrival, oldest_then, arrived}
use Rattle.protocol_model.specs.Runs.{Shares, Tapes, Ready, nodes_of}
use Rattle.protocol_model.proofs.GateSchedules.{schedule-counted, made-order_accepted}
use Rattle.gates.specs.declared.gate.Gate.{Gate}
use Rattle.gates.specs.Clear.{Values}
use Rattle.shared_gates.specs.Model.{run_gates}
use Rattle.shared_gates.proofs.OwnShares.{own-same}
use Rattle.program_trees.specs.Programs.{ProgramTree}
use Rattle.program_trees.specs.TypedPrograms.{TypedProgramTree}
use Rattle.reached_instances.specs.Instances.{Instance}
use Rattle.value_file.specs.declared.inputs.Entry.{Entry}
use Rattle.value_file.specs.declared.public.PublicEntry.{PublicEntry}
use Rattle.value_file.specs.Public.{part_of}
use Rattle.tape_file.specs.Tapes.{FourTapes}
use Rattle.language_model.specs.Reports.{Report}
use Rattle.view_model.specs.Dealing.{dealt_to, private_sizes, hidden_sizes}
use Rattle.view_model.specs.TapeMaps.{miners_of, no_values, gates_dealt, is_dealt, AreTapes, CanRun}
use Rattle.view_model.specs.Seen.{seen_by}
use Rattle.view_model.proofs.DealtSizes.{sizes_hidden}
use Rattle.view_model.proofs.Corresponding.{sound, ready_with, le_from}
use Rattle.view_model.proofs.Coming.{come_is_seen}
use Rattle.program_views.specs.Views.{lengths_of, run_on, told_run, nothing_seen, seen_of, scripts_of}
use Rattle.program_views.specs.TapeMaps.{AreAlike}
use Rattle.program_views.specs.Laws.{IsGivenTo, NetIsCounted, NetsAreCounted, NetsAreAlike}
use Rattle.program_views.proofs.Undealt.{no_gates}
use Rattle.program_views.proofs.Blind.{same_course_exactly}
use Rattle.program_views.proofs.Simulated.{can_run}

-- ---- THE NET OF ONE RUN

module _ (entries : List Entry) (t : FourTapes) (are : AreTapes t) (gates : List Gate) where
  abbrev Run : Type 0
  Run = Ready (gates_dealt entries t.dealer gates) no_values (miners_of t)

  no_run : gates ≡ [] → Run
  no_run h =
      subst (λ gs. Ready (gates_dealt entries t.dealer gs) no_values (miners_of t)) (sym h)
      (record { sizes = []; sized = tt; shares = λ i. refl; tapes_reach = λ i. omega arith; tapes_are_words = are.miners })

  runs : CanRun entries gates t → (is_dealt entries t ≡ false → gates ≡ []) → Run
  runs can none = by_test (is_dealt entries t) refl
    where
      by_test : (b : Bool) → is_dealt entries t ≡ b → Run
      by_test true e = ready_with entries gates t.dealer t are.miners (le_from _ _ e) (can (le_from _ _ e))
      by_test false e = no_run (none e)

-- of no gates nothing comes
module _ (i : Number) (values : Shares) (tapes : Tapes) where
  abbrev idle : Number → Strand (List (List ℕ))
  idle = nodes_of [] values tapes

  none_after : (ms : List (List ℕ)) → next_after ms [] ≡ []
  none_after [] = refl
  none_after (m ∷ ms) = refl

  nothing_comes : (mail : Mail) (order : List Link) → arrived idle i mail order ≡ []
  nothing_comes mail [] = refl
  nothing_comes mail (l ∷ ls) = by_receiver (is_same (receiver_of l) i) (nothing_comes (delivered idle mail l) ls)
    where
      by_receiver :
          (b : Bool) → arrived idle i (delivered idle mail l) ls ≡ []
          → (if b then oldest_then l (under_way idle mail l) (arrived idle i (delivered idle mail l) ls) else arrived idle i (delivered idle mail l) ls)
          ≡ []
      by_receiver true rest = ap (λ ms. oldest_then l ms (arrived idle i (delivered idle mail l) ls)) (none_after (mail l)) ∙ rest
      by_receiver false rest = rest

-- what comes in the net is seen
module _ (i : Number) (entries : List Entry) (t : FourTapes) (delivery : Delivery) where
  abbrev Comes : List Gate → List Arrival → Type 0
  Comes gates got =
      net (λ k. gates_script k (gates_dealt entries t.dealer gates)) delivery ≡ Accepted
      → arrived (nodes_of (gates_dealt entries t.dealer gates) no_values (miners_of t)) i nothing
      (order_of (λ k. gates_script k (gates_dealt entries t.dealer gates)) delivery)
      ≡ got

  none_come : (gates : List Gate) → gates ≡ [] → Comes gates []
  none_come gates h =
      subst (λ gs. Comes gs []) (sym h)
      (λ accepted. nothing_comes i no_values (miners_of t) nothing (order_of (λ k. gates_script k (gates_dealt entries t.dealer [])) delivery))

  comes_is_seen :
      (r : Report) → AreTapes t → CanRun entries r.gates t → (is_dealt entries t ≡ false → r.gates ≡ [])
      → Comes r.gates (seen_of i entries t delivery r).got
  comes_is_seen r are can none = by_test (is_dealt entries t) refl
    where
      by_test : (b : Bool) → is_dealt entries t ≡ b → Comes r.gates (if b then seen_by i entries r.gates t delivery else nothing_seen).got
      by_test true e = come_is_seen i entries r.gates t are (le_from _ _ e) (can (le_from _ _ e)) delivery
      by_test false e = none_come r.gates (none e)

-- ---- OF A PROGRAM

module _
    (source : ProgramTree) (p : TypedProgramTree) (is : List Instance) (entries : List Entry) (given : IsGivenTo source p is entries) (t : FourTapes)
    (are : AreTapes t) (budget : ℕ)
  where
    abbrev r : Report
    r = run_on p entries (lengths_of t) budget

    abbrev gates : List model.Gate
    gates = gates_dealt entries t.dealer r.gates

    can : CanRun entries r.gates t
    can = can_run source p is entries given t are budget

    none : is_dealt entries t ≡ false → r.gates ≡ []
    none = no_gates p entries t budget

    ready : Ready gates no_values (miners_of t)
    ready = runs entries t are r.gates can none

    pub net_counted : NetIsCounted p entries t budget
    net_counted =
        let fine = sound entries t.dealer r.gates in
        record {
          counted = schedule-counted gates no_values (miners_of t) fine ready;
          in_order = made-order_accepted gates no_values (miners_of t) fine ready (λ k. 0);
          shuffled = made-order_accepted gates no_values (miners_of t) fine ready;
          comes = λ i delivery. comes_is_seen i entries t delivery r are can none;
        }

pub nets_counted :
    (source : ProgramTree) (p : TypedProgramTree) (entries : List Entry) (t : FourTapes) (budget : ℕ) → NetsAreCounted source p entries t budget
nets_counted source p entries t budget is given are = net_counted source p is entries given t are budget

-- ---- OF INPUTS THAT ARE ALIKE

-- scripts read no share: the first miner's, and then those of the others, may be taken from elsewhere
module _ (dealt others : Number → Values) (sizes : List ℕ) (gates : List Gate) where
  abbrev mixed : Number → Values
  mixed One = dealt One
  mixed Two = others Two
  mixed Three = others Three

  pub same_scripts : (k : Number) → gates_script k (run_gates dealt sizes [] gates) ≡ gates_script k (run_gates others sizes [] gates)
  same_scripts k =
      (own-same One dealt mixed refl sizes [] gates).scripts k ∙ (own-same Two mixed others refl sizes [] gates).scripts k

module _ (p : TypedProgramTree) (first second : List Entry) (lengths : List ℕ) (budget : ℕ) (alike : AreAlike p first second lengths budget) where
  -- both are those of the run that is told what is opened
  pub same_gates : (run_on p first lengths budget).gates ≡ (run_on p second lengths budget).gates
  same_gates =
      (same_course_exactly p first lengths budget).gates
      ∙ ap (λ (part : List PublicEntry). (told_run p part (run_on p first lengths budget).opened lengths budget).gates) alike.known
      ∙ ap (λ (opened : List ℕ). (told_run p (part_of second) opened lengths budget).gates) alike.opened
      ∙ sym (same_course_exactly p second lengths budget).gates

  same_sizes : private_sizes first ≡ private_sizes second
  same_sizes = sym (sizes_hidden first) ∙ ap hidden_sizes alike.known ∙ sizes_hidden second

  moves_alike : (t t2 : FourTapes) (k : Number)
      → scripts_of first t (run_on p first lengths budget) k ≡ scripts_of second t2 (run_on p second lengths budget) k
  moves_alike t t2 k =
      ap (λ gates. gates_script k (gates_dealt first t.dealer gates)) same_gates
      ∙ ap (λ sizes. gates_script k (run_gates (dealt_to first t.dealer) sizes [] (run_on p second lengths budget).gates)) same_sizes
      ∙ same_scripts (dealt_to first t.dealer) (dealt_to second t2.dealer) (private_sizes second) (run_on p second lengths budget).gates k

pub nets_alike :
    (p : TypedProgramTree) (first second : List Entry) (t t2 : FourTapes) (budget : ℕ) (delivery : Delivery)
    → NetsAreAlike p first second t t2 budget delivery
nets_alike p first second t t2 budget delivery long alike =
    ap (λ lengths. net (scripts_of second t2 (run_on p second lengths budget)) delivery) long
    ∙ ap (λ scripts. net scripts delivery) (λ j. λ k. sym (moves_alike p first second (lengths_of t) budget alike t t2 k) j)
