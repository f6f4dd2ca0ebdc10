use Rattle.std.proofs.Common.{subst, sym}
use Rattle.value_file.specs.Input.{AreInputs}
use Rattle.workload.specs.Load.{load_program, load_seed}
use Rattle.workload.proofs.Forms.{are_inputs, tapes_are}
use Rattle.workload.proofs.load.make.Goals as goal

pub returns-clause-program : goal.returns-clause-program
unfolding load_program
returns-clause-program c = c.in_ok-program.ensures.ok

pub returns-clause-form : goal.returns-clause-form
returns-clause-form c = subst AreInputs (sym c.in_ok-inputs.ensures) (are_inputs c.args.number)

pub returns-clause-tapes : goal.returns-clause-tapes
returns-clause-tapes c =
    tapes_are c.in_ok-tapes.tapes c.load_seed.result (load_seed c.args.number) 131072 c.in_ok-tapes.ensures c.load_seed.ensures
