-- The code of an accepted program may run on the inputs of a file, and the gates of its evaluation suit what is dealt.
use Rattle.std.proofs.Common.{ℕ, List, [], ap, ◌∙◌, subst, arith}
use Rattle.std.specs.Prelude.{slice_get}
use Rattle.program_trees.specs.Programs.{ProgramTree}
use Rattle.proto_core.specs.Lists.{AreWords}
use Rattle.value_file.specs.declared.inputs.Entry.{Entry}
use Rattle.language_model.specs.Effects.{Clear}
use Rattle.language_model.specs.Reports.{Offered, world_of}
use Rattle.verified_code.specs.Settled.{settled}
use Rattle.written_code.proofs.Reaching.{accepted_well_typed}
use Rattle.lowered_code.specs.RawCodes.{raw_code_of_program}
use Rattle.lowered_code.proofs.Limits.{within_small}
use Rattle.lowered_code.proofs.RegistersOfPrograms.{small_numbered}
use Rattle.lowered_code.proofs.Verified.{code_right, well_typed_verified, accepted_runs}
use Rattle.gate_laws.specs.Laws.{GatesSuit}
use Rattle.gate_laws.proofs.Walks.{make_suited_gates}
use Rattle.code_inputs.specs.Inputs.{dealt_of}
use Rattle.code_inputs.specs.Laws.{RunsOnInputs, EvaluationSuits}
use Rattle.code_inputs.proofs.Literals.{accepted_suits}
use Rattle.code_inputs.proofs.Offering.{are_dealt, are_offered}

pub runs_on_inputs : (source : ProgramTree) (entries : List Entry) (dealer : List ℕ) (o : Offered) → RunsOnInputs source entries dealer o
runs_on_inputs source entries dealer o sound given p is a =
    let suits = accepted_suits source p is a in
    let offered = are_offered entries dealer o.inputs sound given in
    record { fitting = suits.0; taking = suits.1; singles = offered.1; offered = offered.0 }

pub evaluation_suits : (source : ProgramTree) (entries : List Entry) (dealer : List ℕ) (o : Offered) (budget : ℕ)
    → EvaluationSuits source entries dealer o budget
evaluation_suits source entries dealer o budget sound suffice given p is a =
    let w = world_of Clear o in
    let d = dealt_of entries dealer in
    let few = small_numbered source p a.resolved is (within_small p is a.within a.reached) in
    let typed = accepted_well_typed source a.typed a.written p a.resolved in
    let right = code_right p is typed a.reached few in
    let begins = ap (λ c. slice_get c 0) (well_typed_verified p is typed a.reached few).1 ∙ right.begins in
    let suited = make_suited_gates w d (settled (raw_code_of_program p is)) budget [] (runs_on_inputs source entries dealer o sound given p is a)
    (are_dealt entries dealer sound suffice) right.main begins no_words in
    subst (GatesSuit w d) ((accepted_runs source a.typed a.written p a.resolved is a.reached a.within).1 w budget []) suited
  where
    no_words : AreWords []
    no_words k = omega arith
