-- The code of an accepted program runs on shares of the inputs of a file, with these tapes, as its evaluation in the clear does.
use Rattle.std.proofs.Common.{◌≡◌, ◌≤◌, ℕ, List, []}
use Rattle.std.proofs.Common.{length, true, refl, sym, ◌∙◌, ap, subst, arith}
use Rattle.std.specs.Prelude.{slice_get, nat_le}
use Rattle.std.proofs.lemmas.Bool.Decides.{nat_tests}
use Rattle.program_trees.specs.Programs.{ProgramTree}
use Rattle.program_trees.specs.TypedPrograms.{TypedProgramTree}
use Rattle.reached_instances.specs.Instances.{Instance}
use Rattle.proto_core.specs.declared.party.Number.{Number}
use Rattle.proto_core.specs.declared.party.Number.TheVariants.{One, Two, Three}
use Rattle.proto_core.specs.Lists.{AreWords}
use Rattle.tape_file.specs.Tapes.{FourTapes}
use Rattle.value_file.specs.declared.inputs.Entry.{Entry}
use Rattle.language_model.specs.Effects.{Clear}
use Rattle.language_model.specs.Reports.{Offered, Report, world_of, dealing, eval}
use Rattle.clear_eval.specs.Offers.{offered}
use Rattle.code_runs.specs.Model.{miner_of}
use Rattle.verified_code.specs.Settled.{settled}
use Rattle.verified_code.specs.Steps.{Function}
use Rattle.lowering.specs.Meaning.{mean}
use Rattle.verified_code.proofs.Sound.{verified_is_sound}
use Rattle.lowering.proofs.Settled.{sound_forward}
use Rattle.written_code.proofs.Reaching.{accepted_well_typed}
use Rattle.written_code.specs.RawCodes.{raw_code_of_program}
use Rattle.written_code.proofs.Limits.{within_small}
use Rattle.written_code.proofs.RegistersOfPrograms.{small_numbered}
use Rattle.written_code.proofs.Verified.{code_right, well_typed_verified, accepted_runs}
use Rattle.code_runs.specs.Dealt.{Dealt, drawn_by}
use Rattle.code_inputs.specs.TapeMaps.{miners_of}
use Rattle.code_inputs.specs.Inputs.{AreSound, Suffice, dealt_of}
use Rattle.code_inputs.specs.Laws.{IsAccepted}
use Rattle.code_inputs.proofs.Offering.{are_dealt}
use Rattle.code_inputs.proofs.Running.{runs_on_inputs}
use Rattle.code_runs.specs.Runs.{RunAsReported}
use Rattle.code_runs.specs.Laws.{MayRunShared}
use Rattle.code_runs.proofs.Miners.{miners_run_the_code}
use Rattle.program_run.specs.Accepted.{IsAccepted as Accepted}
use Rattle.program_run.specs.Miners.{RunsWhereAccepted}
use Rattle.bytecode.specs.Raw.{RawCode}
use Rattle.program_run.specs.Codes.{IsCodeOf}
use Rattle.program_run.specs.Reports.{eval_with, lengths_of}
use Rattle.program_run.specs.Codes.{CanRunOn, code_report}
use Rattle.program_run.proofs.Offering.{are_given, need_same}

enough_so : (need have : ℕ) → need ≤ have → nat_le need have ≡ true
enough_so need have h = grind (arith, nat_tests)

module _ (source : ProgramTree) (p : TypedProgramTree) (is : List Instance) (a : IsAccepted source p is) (entries : List Entry) (t : FourTapes)
    (sound : AreSound entries) (suffice : Suffice entries t.dealer) (words : (i : Number) → AreWords (miners_of t i)) where
  abbrev offer : Offered
  offer = offered entries (lengths_of t)

  abbrev code : List Function
  code = settled (raw_code_of_program p is)

  abbrev dealt : Dealt
  dealt = dealt_of entries t.dealer

  long : (i : Number) → length (miners_of t i) ≡ drawn_by offer.lengths (miner_of i)
  long One = refl
  long Two = refl
  long Three = refl

  pub may_run_shared : MayRunShared offer dealt code (miners_of t)
  may_run_shared =
      let few = small_numbered source p a.resolved is (within_small p is a.within a.reached) in
      let typed = accepted_well_typed source a.typed a.written p a.resolved in
      let right = code_right p is typed a.reached few in
      let verified = (well_typed_verified p is typed a.reached few).0 in
      record {
        code = runs_on_inputs source entries t.dealer offer sound (are_given entries) p is a;
        main = right.main;
        first = ap (λ c. slice_get c 0) (well_typed_verified p is typed a.reached few).1 ∙ right.begins;
        forward = sound_forward (raw_code_of_program p is) (verified_is_sound (raw_code_of_program p is) verified);
        dealt = are_dealt entries t.dealer sound suffice;
        dealer = enough_so (dealing (world_of Clear offer)) (length t.dealer)
            (subst (λ n. n ≤ length t.dealer) (sym (need_same entries (lengths_of t))) suffice.enough);
        words = words;
        long = long;
      }

  -- the code's run in the clear is the program's evaluation
  pub means_so : (budget : ℕ) → mean code offer budget ≡ eval p offer budget
  means_so budget = (accepted_runs source a.typed a.written p a.resolved is a.reached a.within).1 (world_of Clear offer) budget []

-- ---- and what they come to

of_accepted : (p : TypedProgramTree) (a : Accepted p) → IsAccepted a.source p a.within.list
of_accepted p a = record { typed = a.typed; written = a.written; resolved = a.of; reached = a.within.reached; within = a.within }

pub runs_where_accepted : (p : TypedProgramTree) (entries : List Entry) (t : FourTapes) (budget : ℕ) → RunsWhereAccepted p entries t budget
runs_where_accepted p entries t budget a can =
    let accepted = of_accepted p a in
    let is = a.within.list in
    let o = offer a.source p is accepted entries t can.sound can.suffice can.words in
    let c = code a.source p is accepted entries t can.sound can.suffice can.words in
    record {
      reached = is;
      are = a.within.reached;
      run = subst (λ (r : Report). RunAsReported o (dealt_of entries t.dealer) c budget (miners_of t) r)
          (means_so a.source p is accepted entries t can.sound can.suffice can.words budget)
          (miners_run_the_code o (dealt_of entries t.dealer) c budget (miners_of t)
          (may_run_shared a.source p is accepted entries t can.sound can.suffice can.words));
    }

-- ---- the code of a program that was made

module _ (p : TypedProgramTree) (a : Accepted p) (made : RawCode) (of : IsCodeOf p made) (entries : List Entry) (t : FourTapes)
    (sound : AreSound entries) (suffice : Suffice entries t.dealer) (one : AreWords t.one) (two : AreWords t.two) (three : AreWords t.three) where
  each_words : (i : Number) → AreWords (miners_of t i)
  each_words One = one
  each_words Two = two
  each_words Three = three

  accepted_so : IsAccepted a.source p of.reached
  accepted_so = record { typed = a.typed; written = a.written; resolved = a.of; reached = of.are; within = a.within }

  pub can_run_so : CanRunOn made entries t
  can_run_so =
      subst (λ (c : RawCode). CanRunOn c entries t) (sym of.code)
      (may_run_shared a.source p of.reached accepted_so entries t sound suffice each_words)

  pub report_so : (budget : ℕ) → code_report made entries t budget ≡ eval_with p entries t budget
  report_so budget =
      ap (λ (c : RawCode). code_report c entries t budget) of.code
      ∙ means_so a.source p of.reached accepted_so entries t sound suffice each_words budget
