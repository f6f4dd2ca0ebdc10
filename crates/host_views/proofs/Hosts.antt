-- Each host sees no more than its miner's view.
use Rattle.std.proofs.Common.{◌≡◌, ℕ, List, length, Bool, Option, Some, None, refl, sym, ◌∙◌, ap, subst}
use Rattle.std.specs.Prelude.{take, if◌then◌else◌}
use Rattle.std.proofs.lemmas.Bool.{le-leb}
use Rattle.outside.specs.Files.{Contents}
use Rattle.command_words.specs.Ask.{MinerAsk}
use Rattle.proto_core.specs.declared.party.Number.{Number}
use Rattle.proto_core.specs.declared.link.Link.{Link}
use Rattle.proto_core.specs.Parties.{receiver_of}
use Rattle.proto_core.specs.Strand.{Begins}
use Rattle.proto_core.proofs.Beginnings.{begins-trans}
use Rattle.protocol_model.specs.Network.{Accepted, Delivery}
use Rattle.protocol_model.specs.Runs.{Tapes}
use Rattle.shared_gates.specs.Model.{miner_of}
use Rattle.gate_laws.specs.Dealt.{drawn_by}
use Rattle.bytecode.specs.Raw.{RawCode}
use Rattle.value_file.specs.declared.inputs.Entry.{Entry}
use Rattle.value_file.specs.Public.{part_of as public_part}
use Rattle.input_share.specs.Dealing.{dealt}
use Rattle.input_share.specs.ShareFile.{MinerFile}
use Rattle.input_share.proofs.ShapeLaws.{shapes_of-dealt}
use Rattle.tape_file.specs.Tapes.{FourTapes}
use Rattle.program_trees.specs.TypedPrograms.{TypedProgramTree}
use Rattle.language_model.specs.Effects.{RunStop, Ended, Short}
use Rattle.language_model.specs.Reports.{Report}
use Rattle.view_text.specs.View.{View}
use Rattle.view_model.specs.Seen.{Seen, seen_by}
use Rattle.view_model.specs.TapeMaps.{AreTapes, miners_of}
use Rattle.program_run.specs.Accepted.{IsAccepted}
use Rattle.program_run.specs.Dealt.{CanBeDealt}
use Rattle.program_views.specs.Laws.{IsGivenTo}
use Rattle.program_views.specs.Simulated.{ViewIsSimulated}
use Rattle.program_views.specs.TapeMaps.{MapsCorrespond}
use Rattle.program_views.specs.Views.{input_shares, lengths_of, nothing_seen, run_on, seen_of, simulated, view_at, view_of}
use Rattle.program_views.proofs.Corresponding.{tapes_corresponding}
use Rattle.program_views.proofs.Simulated.{same_lengths, views_simulated}
use Rattle.viewed_run.specs.Deliveries.{net_of}
use Rattle.honest_miners.specs.Nodes.{Own}
use Rattle.honest_miners.specs.Served.{AgreeWithTheRun, AreServed, part_of, run_bytes}
use Rattle.honest_miners.specs.Three.{AnswerTheRun, AreCalled}
use Rattle.honest_miners.proofs.ServedRuns.{served_agree}
use Rattle.honest_miners.proofs.Three.{three_miners_answer}
use Rattle.miner_command.specs.Files.{Given}
use Rattle.host_views.specs.Hosts.{SeesItsViewAlone, bytes_if_seen, bytes_told, simulated_bytes, tapes_simulated, words_opened}
use Rattle.gather_command.specs.Owners.{Owner, all_inputs}
use Rattle.host_views.specs.Laws.{GatheredHostsSeeTheirViews, HostsSeeTheirViews, NodesSeeTheirViews, came_on, gathered_tapes}
use Rattle.host_views.proofs.Bytes.{run_bytes_are_told}

some_is : (v view : View) → Some v ≡ Some view → v ≡ view
some_is v view e = cc

none_is : {X : Type 0} (view : View) → None ≡ Some view → X
none_is view e = cc

module _ (p : TypedProgramTree) (entries : List Entry) (t : FourTapes) (budget : ℕ) (digest : List ℕ) (code : RawCode) (came : Link → List ℕ)
    (a : IsAccepted p) (can : CanBeDealt entries t) (front : (l : Link) → Begins (came l) (run_bytes p entries t budget digest code l))
    (i : Number) (delivery : Delivery) (taken : net_of p entries t budget delivery ≡ Accepted) where
  abbrev r : Report
  r = run_on p entries (lengths_of t) budget

  abbrev share : MinerFile
  share = dealt i entries t.dealer (lengths_of t)

  given : IsGivenTo a.source p a.within.list entries
  given =
      record {
        program = record { typed = a.typed; written = a.written; resolved = a.of; reached = a.within.reached; within = a.within };
        inputs = can.sound;
      }

  tapes : AreTapes t
  tapes = record { dealer = can.suffice.words; miners = can.words }

  made : ViewIsSimulated i p entries t budget delivery
  made = views_simulated i a.source p entries t budget delivery a.within.list given tapes

  maps : MapsCorrespond i p entries t budget
  maps = tapes_corresponding i a.source p entries t budget a.within.list given tapes

  -- ---- the bytes

  here : (l : Link) → receiver_of l ≡ i → (view : View) → view_of i p entries t budget delivery ≡ Some view
      → run_bytes p entries t budget digest code l ≡ bytes_told digest (public_part entries) (lengths_of t) budget view l
  here l to view seen =
      run_bytes_are_told p entries t budget digest code l delivery a can taken view
      (subst (λ (k : Number). view_of k p entries t budget delivery ≡ Some view) (sym to) seen)

  bytes : (l : Link) → receiver_of l ≡ i → Begins (came l) (bytes_told digest (public_part entries) (lengths_of t) budget made.view l)
  bytes l to = subst (λ (all : List ℕ). Begins (came l) all) (here l to made.view made.seen) (front l)

  long : lengths_of (tapes_simulated i p entries t budget) ≡ lengths_of t
  long = same_lengths (tapes_simulated i p entries t budget) t maps.kept

  told_so : (l : Link)
      → simulated_bytes digest i p (public_part entries) (words_opened i p entries t budget) (tapes_simulated i p entries t budget) budget delivery l
      ≡ bytes_told digest (public_part entries) (lengths_of t) budget made.view l
  told_so l =
      ap (λ (lengths : List ℕ). bytes_if_seen digest (public_part entries) lengths budget
      (simulated i p (public_part entries) (words_opened i p entries t budget) (tapes_simulated i p entries t budget) budget delivery) l) long
      ∙ ap (λ (o : Option View). bytes_if_seen digest (public_part entries) (lengths_of t) budget o l) made.made

  -- ---- the share file

  abbrev seen : Seen
  seen = seen_by i entries r.gates t delivery

  is_seen_so : seen_of i entries t delivery r ≡ seen
  is_seen_so = ap (λ b. if b then seen else nothing_seen) (le-leb _ _ can.suffice.enough)

  shares : (view : View) → view_of i p entries t budget delivery ≡ Some view → input_shares share.entries ≡ view.inputs
  shares view = by_stop r.stop
    where
      by_stop : (stop : RunStop) → view_at i (seen_of i entries t delivery r) r stop ≡ Some view → input_shares share.entries ≡ view.inputs
      by_stop (Ended ending) e =
          sym (ap (λ (s : Seen). input_shares s.inputs) is_seen_so) ∙ ap (λ (v : View). v.inputs) (some_is _ view e)
      by_stop Short e = none_is view e

  pub sees : SeesItsViewAlone i p entries t budget digest share (miners_of t i) came delivery
  sees =
      record {
        view = made.view;
        seen = made.seen;
        made = made.made;
        bytes = bytes;
        bytes_simulated = λ l to. subst (λ (all : List ℕ). Begins (came l) all) (sym (told_so l)) (bytes l to);
        shape = shapes_of-dealt i entries t.dealer;
        lengths = refl;
        shares = shares made.view made.seen;
        own = sym maps.own;
        drew = made.drew;
      }

pub nodes_see : (p : TypedProgramTree) (entries : List Entry) (t : FourTapes) (budget : ℕ) (digest : List ℕ) (code : RawCode)
    (coming : Number → ℕ → List ℕ) → NodesSeeTheirViews p entries t budget digest code coming
nodes_see p entries t budget digest code coming h i delivery taken =
    let agree = served_agree p entries t budget digest code coming h in
    sees p entries t budget digest code (came_on coming) h.accepted h.can
    (λ l. begins-trans _ _ _ (h.came l) (agree.sent l)) i delivery taken

pub hosts_see : (p : TypedProgramTree) (entries : List Entry) (t : FourTapes) (budget : ℕ) (digest : List ℕ) (code : RawCode)
    (asks : Number → MinerAsk) (files : Number → Contents) (coming : Number → ℕ → List ℕ)
    → HostsSeeTheirViews p entries t budget digest code asks files coming
hosts_see p entries t budget digest code asks files coming h i delivery taken =
    let answers = three_miners_answer p entries t budget digest code asks files coming h in
    let part : Own = part_of p entries t budget digest code i in
    let whole : SeesItsViewAlone i p entries t budget digest part.share part.tape (came_on coming) delivery =
    sees p entries t budget digest code (came_on coming) h.accepted h.can (λ l. begins-trans _ _ _ (h.came l) (answers.sent l)) i delivery taken in
    subst (λ (own : Own). SeesItsViewAlone i p entries t budget digest own.share own.tape (came_on coming) delivery) (sym (h.holds i).part) whole

pub gathered_see : (p : TypedProgramTree) (owners : List Owner) (own : Tapes) (budget : ℕ) (digest : List ℕ) (code : RawCode)
    (asks : Number → MinerAsk) (files : Number → Contents) (coming : Number → ℕ → List ℕ)
    → GatheredHostsSeeTheirViews p owners own budget digest code asks files coming
gathered_see p owners own budget digest code asks files coming = record {
  shares = λ i. refl;
  see = hosts_see p (all_inputs owners) (gathered_tapes owners own) budget digest code asks files coming;
}
