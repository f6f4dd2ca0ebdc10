-- A blind run of a program's code takes the course of the run in the clear.
use Rattle.std.proofs.Common.{ℕ, List, [], ◌++◌, sym, subst}
use Rattle.program_trees.specs.TypedPrograms.{TypedProgramTree}
use Rattle.reached_instances.specs.Instances.{Instance}
use Rattle.blind_evaluation.specs.Effects.{Clear, Answers}
use Rattle.blind_evaluation.specs.Reports.{Offered, world_of, public_part, eval}
use Rattle.blind_evaluation.specs.Courses.{TakeSameCourse, IsEnded}
use Rattle.blind_evaluation.proofs.Course.{same_course, never_short}
use Rattle.code_model.specs.Meaning.{blind_mean}
use Rattle.code_model.specs.Programs.{code_of}
use Rattle.code_model.specs.Laws.{BlindTakesTheSameCourse, BlindNeverWants}
use Rattle.code_model.proofs.Means.{means}

pub blind_same : (p : TypedProgramTree) (is : List Instance) (o : Offered) (budget : ℕ) (more : List ℕ) → BlindTakesTheSameCourse p is o budget more
blind_same p is o budget more fit =
    let c = code_of p is in
    subst (λ z. TakeSameCourse z (blind_mean c o (z.opened ++ more) budget)) (sym (means p is fit (world_of Clear o) budget []))
    (subst (TakeSameCourse (eval p o budget)) (sym (means p is fit (world_of Answers (public_part o)) budget ((eval p o budget).opened ++ more)))
    (same_course p o budget more))

pub blind_ended : (p : TypedProgramTree) (is : List Instance) (o : Offered) (budget : ℕ) (more : List ℕ) → BlindNeverWants p is o budget more
blind_ended p is o budget more fit =
    let c = code_of p is in
    subst (λ z. IsEnded (blind_mean c o (z.opened ++ more) budget).stop) (sym (means p is fit (world_of Clear o) budget []))
    (subst (λ z. IsEnded z.stop) (sym (means p is fit (world_of Answers (public_part o)) budget ((eval p o budget).opened ++ more)))
    (never_short p o budget more))
