use Rattle.proto_core.specs.declared.party.Number.TheVariants.{Two, Three}
use Rattle.joint_run.specs.Three.{values_of}
use Rattle.joint_run.proofs.GateLists.{even-of}
use Rattle.joint_run.proofs.joint.are_even.Goals as goal

pub returns-then-second : goal.returns-then-second
returns-then-second c = (
  λ third. even-of (values_of c.args.dealt.now) (c.same_sizes-second.ensures.0 c.if-second.true) (c.same_sizes-third.ensures.0 third),
  λ even. c.same_sizes-third.ensures.1 (even Three),
)

pub returns-else-second : goal.returns-else-second
returns-else-second c = (
  λ second. let differ : ⊥ = cc (second, c.if-second.false) in absurd differ,
  λ even. c.same_sizes-second.ensures.1 (even Two),
)
