use Rattle.std.proofs.Common.{Ok, refl}
use Rattle.protocol_model.specs.Network.{Default}
use Rattle.program_trees.specs.TypedPrograms.{typed_program_tree}
use Rattle.viewed_run.specs.Deliveries.{HasRunOf, IsRunOf}
use Rattle.miner_commands.specs.Load.{load_budget}
use Rattle.tape_sources.specs.Held.{held_state}
use Rattle.miner_commands.proofs.SourceRuns.{never_faults, told_refused, told_so}
use Rattle.miner_commands.proofs.load.run_held.Goals as goal

pub returns-in-Ok : goal.returns-in-Ok
returns-in-Ok c =
    let p = typed_program_tree c.args.program.now in
    let entries = c.args.inputs.now in
    told_so entries (held_state c.new-held.result) _ refl c.args.tapes c.new-held.ensures (Ok c.in-Ok.ran) (λ t. IsRunOf p entries t load_budget Default (Ok c.in-Ok.ran))
    c.in-Ok.ensures c.requires.tapes

pub returns-in-Err-Delivery : goal.returns-in-Err-Delivery
returns-in-Err-Delivery c =
    let p = typed_program_tree c.args.program.now in
    let entries = c.args.inputs.now in
    told_refused entries (held_state c.new-held.result) _ refl c.args.tapes c.new-held.ensures p load_budget Default (λ t. HasRunOf p entries t load_budget Default)
    c.in-Err-Delivery.field-0 c.in-Err-Delivery.refusal c.in-Err-Delivery.ensures c.requires.tapes c.in-Err-Delivery.field-0-is

pub unreachable-requires : goal.unreachable-requires
unreachable-requires c =
    never_faults c.args.inputs.now (held_state c.new-held.result) _ refl c.in-Err-TapeFault.field-0 _ c.in-Err-TapeFault.ensures
    c.in-Err-TapeFault.field-0-is
