use Rattle.std.proofs.Common.{ap, ◌∙◌}
use Rattle.lowered_expressions.specs.Built.{break_jump, continue_jump, whole}
use Rattle.lowered_expressions.specs.Views.{built, piece_seen, step_seen}
use Rattle.lowered_expressions.proofs.Building.{body_of}
use Rattle.lowering.proofs.SettledParts.{part_at, part_whole, seen_at}
use Rattle.lowering.proofs.settling.settle_one.Goals as goal

pub returns-in-Whole : goal.returns-in-Whole
returns-in-Whole c =
    let b = built c.args.body.now in
    let i = step_seen c.in-Whole.field-0 in
    ap body_of
    (part_whole c.args.break_to c.args.continue_to c.args.place b.pieces i c.requires
    (seen_at piece_seen c.args.body.now.pieces.items c.args.place c.index.result.now (whole i) c.requires c.index.ensures (ap piece_seen c.in-Whole.is)))

pub returns-in-Break : goal.returns-in-Break
returns-in-Break c =
    let b = built c.args.body.now in
    c.set.ensures
    ∙ ap body_of
    (part_at c.args.break_to c.args.continue_to c.args.place b.pieces break_jump break_jump c.requires
    (seen_at piece_seen c.args.body.now.pieces.items c.args.place c.index.result.now break_jump c.requires c.index.ensures (ap piece_seen c.in-Break.is)))

pub returns-in-Continue : goal.returns-in-Continue
returns-in-Continue c =
    let b = built c.args.body.now in
    c.set-in-Continue.ensures
    ∙ ap body_of
    (part_at c.args.break_to c.args.continue_to c.args.place b.pieces continue_jump continue_jump c.requires
    (seen_at piece_seen c.args.body.now.pieces.items c.args.place c.index.result.now continue_jump c.requires c.index.ensures (ap piece_seen c.in-Continue.is)))
