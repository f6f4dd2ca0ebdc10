-- The gates of the run of one who is told what is opened suit what is known of the inputs, and the tapes reach for them.
use Rattle.std.proofs.Common.{◌≡◌, ℕ, ◌≤◌, Bool, true, false, List, [], length, refl, sym, ap, ◌∙◌, subst, arith}
use Rattle.std.specs.Prelude.{nat_le, if◌then◌else◌, slice_get}
use Rattle.proto_core.specs.declared.party.Number.{Number}
use Rattle.proto_core.specs.declared.party.Number.TheVariants.{One, Two, Three}
use Rattle.protocol_model.specs.Gates.{sizes_of}
use Rattle.gates.specs.declared.gate.Gate.{Gate}
use Rattle.gates.specs.Counts.{Miner, Miner1, Miner2, Miner3, words_of_all}
use Rattle.shared_gates.specs.Model.{AllSizesSuit, sizes_after, miner_of}
use Rattle.shared_gates.proofs.Drawn.{drawn-counted}
use Rattle.program_trees.specs.Programs.{ProgramTree}
use Rattle.program_trees.specs.TypedPrograms.{TypedProgramTree}
use Rattle.reached_instances.specs.Instances.{Instance}
use Rattle.value_file.specs.declared.inputs.Entry.{Entry}
use Rattle.value_file.specs.declared.public.PublicEntry.{PublicEntry}
use Rattle.input_share.specs.Dealing.{need_of}
use Rattle.tape_file.specs.Tapes.{FourTapes}
use Rattle.language_model.specs.Effects.{Words, GivenInput, World, Answers}
use Rattle.language_model.specs.Reports.{Report, Offered, world_of, dealing, beginning, report_of, not_dealt, evaluated}
use Rattle.language_model.specs.Tapes.{AtMost, HasWords}
use Rattle.language_model.proofs.Walk.{main_of}
use Rattle.language_model.proofs.Kept.{words_kept}
use Rattle.verified_code.specs.Settled.{settled}
use Rattle.well_typed.proofs.Reaching.{accepted_well_typed}
use Rattle.lowered_code.specs.RawCodes.{raw_code_of_program}
use Rattle.lowered_code.proofs.Limits.{within_small}
use Rattle.lowered_code.proofs.RegistersOfPrograms.{small_numbered}
use Rattle.lowered_code.proofs.Verified.{code_right, well_typed_verified, accepted_runs}
use Rattle.gate_laws.specs.Dealt.{Dealt, drawn_by}
use Rattle.gate_laws.specs.Laws.{MayRun, GatesSuit}
use Rattle.gate_laws.proofs.Walks.{make_suited_gates}
use Rattle.clear_eval.specs.Offers.{offered, offered_with}
use Rattle.view_model.specs.Dealing.{private_shares, hidden_sizes, made_entries}
use Rattle.view_model.specs.Held.{private_values}
use Rattle.view_model.specs.TapeMaps.{miners_of}
use Rattle.view_model.proofs.DealtSizes.{sizes_hidden, sizes_dealt}
use Rattle.view_model.proofs.Corresponding.{le_from}
use Rattle.code_inputs.specs.Inputs.{AreSound, dealt_of}
use Rattle.code_inputs.specs.Laws.{IsAccepted}
use Rattle.code_inputs.proofs.Literals.{accepted_suits}
use Rattle.code_inputs.proofs.Offering.{are_dealt, are_offered}
use Rattle.program_views.specs.Views.{lengths_of, told_run}
use Rattle.program_views.proofs.Given.{given_so, same_need}
use Rattle.view_simulator.specs.Making.{CanBeMade}
use Rattle.view_simulator.specs.Laws.{IsTold, ToldRunsCanBeMade}
use Rattle.view_simulator.proofs.Zeros.{zero_entries, part_again, inputs_again, zeros_sound}

at_most : (a b : Words) → AtMost a b → (m : Miner) → drawn_by a m ≤ drawn_by b m
at_most a b h Miner1 = h.0
at_most a b h Miner2 = h.1
at_most a b h Miner3 = h.2

no_gates_can : (part : List PublicEntry) (s : FourTapes) → CanBeMade part [] s
no_gates_can part s = record { suit = tt; reach = λ i k. omega arith }

module _
    (source : ProgramTree) (p : TypedProgramTree) (is : List Instance) (accepted : IsAccepted source p is) (part : List PublicEntry) (opened : List ℕ)
    (s : FourTapes) (budget : ℕ) (told : IsTold part opened s)
  where
    -- ---- with zeros for what is hidden

    abbrev es : List Entry
    es = zero_entries part

    abbrev o : Offered
    o = offered es (lengths_of s)

    abbrev w : World
    w = world_of Answers o

    abbrev d : Dealt
    d = dealt_of es s.dealer

    abbrev r : Report
    r = evaluated w p budget opened

    sound : AreSound es
    sound = zeros_sound part told.form told.known

    is_told : r ≡ told_run p part opened (lengths_of s) budget
    is_told =
        ap (λ (inputs : List GivenInput). evaluated (world_of Answers (offered_with inputs (lengths_of s))) p budget opened) (inputs_again part)

    long : (k : Number) → drawn_by w.lengths (miner_of k) ≡ length (miners_of s k)
    long One = refl
    long Two = refl
    long Three = refl

    -- ---- where the inputs are dealt

    may_run : MayRun w d (settled (raw_code_of_program p is))
    may_run =
        let suits = accepted_suits source p is accepted in
        let offer = are_offered es s.dealer o.inputs sound (given_so es) in
        record { fitting = suits.0; taking = suits.1; singles = offer.1; offered = offer.0 }

    module _ (enough : need_of es ≤ length s.dealer) where
      suited : GatesSuit w d r
      suited =
          let few = small_numbered source p accepted.resolved is (within_small p is accepted.within accepted.reached) in
          let typed = accepted_well_typed source accepted.typed accepted.written p accepted.resolved in
          let right = code_right p is typed accepted.reached few in
          let begins = ap (λ c. slice_get c 0) (well_typed_verified p is typed accepted.reached few).1 ∙ right.begins in
          subst (GatesSuit w d)
          ((accepted_runs source accepted.typed accepted.written p accepted.resolved is accepted.reached accepted.within).1 w budget opened)
          (make_suited_gates w d (settled (raw_code_of_program p is)) budget opened may_run
          (are_dealt es s.dealer sound (record { words = told.tapes.dealer; enough = enough })) right.main begins told.opened_words)

      sizes : sizes_of (private_values es) ≡ hidden_sizes part
      sizes =
          sym (suited.formed.dealt_sized One) ∙ sizes_dealt One es s.dealer enough ∙ sym (sizes_hidden es) ∙ ap hidden_sizes (part_again part)

      suit : AllSizesSuit (hidden_sizes part) [] r.gates
      suit = subst (λ ns. AllSizesSuit ns [] r.gates) sizes suited.formed.suits

      has : HasWords w r
      has = words_kept w p budget opened

      drawn_within : (k : Number) → words_of_all (sizes_after (hidden_sizes part) [] r.gates) (miner_of k) r.gates ≤ length (miners_of s k)
      drawn_within k =
          subst (λ ns. words_of_all (sizes_after ns [] r.gates) (miner_of k) r.gates ≤ length (miners_of s k)) sizes
          (subst (λ n. n ≤ length (miners_of s k)) (suited.drawn k)
          (subst (λ n. drawn_by r.drawn (miner_of k) ≤ n) (long k) (at_most r.drawn w.lengths has.drawn (miner_of k))))

      dealt_can : CanBeMade part r.gates s
      dealt_can =
          record {
            suit = suit;
            reach = λ i k.
                subst (λ n. n ≤ length (miners_of s k))
                (sym (drawn-counted (λ j. private_shares (made_entries i part s.dealer)) (hidden_sizes part) [] r.gates k suit)) (drawn_within k);
          }

    -- ---- where dealing ends the run

    undealt : nat_le (dealing w) w.dealer ≡ false → r ≡ not_dealt w
    undealt h = ap (λ (b : Bool). if b then report_of w budget (main_of w p (beginning budget opened)) else not_dealt w) h

    undealt_can : nat_le (need_of es) (length s.dealer) ≡ false → CanBeMade part r.gates s
    undealt_can h =
        subst (λ (gates : List Gate). CanBeMade part gates s)
        (sym (ap (λ (q : Report). q.gates) (undealt (ap (λ n. nat_le n (length s.dealer)) (same_need es) ∙ h)))) (no_gates_can part s)

    -- ---- in both cases

    by_test : (b : Bool) → nat_le (need_of es) (length s.dealer) ≡ b → CanBeMade part r.gates s
    by_test true h = dealt_can (le_from _ _ h)
    by_test false h = undealt_can h

    pub can_be_made : CanBeMade part (told_run p part opened (lengths_of s) budget).gates s
    can_be_made = subst (λ (q : Report). CanBeMade part q.gates s) is_told (by_test _ refl)

pub told_can_be_made :
    (source : ProgramTree) (p : TypedProgramTree) (part : List PublicEntry) (opened : List ℕ) (s : FourTapes) (budget : ℕ)
    → ToldRunsCanBeMade source p part opened s budget
told_can_be_made source p part opened s budget is accepted told = can_be_made source p is accepted part opened s budget told
