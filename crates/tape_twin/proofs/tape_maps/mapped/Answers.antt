use Rattle.std.proofs.Common.{refl, sym, ◌∙◌, ap, subst}
use Rattle.protocol_model.specs.Runs.{Tapes}
use Rattle.joint_run.specs.Parts.{ThreeLists}
use Rattle.joint_run.specs.Three.{each_of, values_of}
use Rattle.joint_run.specs.JointRuns as joint
use Rattle.tape_twin.specs.Maps.{run_map}
use Rattle.view_model.specs.TapeMaps.{miners_of, four_of}
use Rattle.tape_twin.proofs.Whole.{same_four, own-tapes}
use Rattle.tape_twin.proofs.tape_maps.mapped.Goals as goal

pub memory_wanting-requires : goal.memory_wanting-requires
memory_wanting-requires c =
    c.in-Err.ensures.memory
    (subst (λ (ts : Tapes). joint.CanRun (values_of c.args.dealt.now) c.args.gates.now ts)
    (own-tapes c.args.tapes.now _ _ _ c.miner1.ensures c.miner2.ensures c.miner3.ensures) c.requires.runs)

pub returns-in-Ok : goal.returns-in-Ok
returns-in-Ok c =
    let dealt = values_of c.args.dealt.now in
    let t = c.args.tapes.now in
    c.new.ensures
    ∙ ap (λ (x : ThreeLists). four_of c.args.dealer.items (each_of x)) c.made.view_is
    ∙ same_four c.args.dealer.items c.args.dealer.items (each_of c.in-Ok.made) (run_map c.args.map dealt c.args.gates.now (miners_of t)) refl
    (λ k.
    c.in-Ok.ensures.words k
    ∙ ap (λ (ts : Tapes). run_map c.args.map dealt c.args.gates.now ts k)
    (sym (own-tapes t _ _ _ c.miner1.ensures c.miner2.ensures c.miner3.ensures)))
