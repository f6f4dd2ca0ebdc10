use Rattle.std.proofs.Common.{◌++◌, ◌∙◌, sym, ap}
use Rattle.gates.proofs.WordSteps.{tile_more}
use Rattle.gates.proofs.clear_words.tiled.Goals as goal

pub loop-time-preserved : goal.loop-time-preserved
loop-time-preserved c =
    c.in_ok-extend_from_slice.ensures.items
    ∙ ap (λ l. l ++ c.args.xs.now) c.loop-time.invariant
    ∙ sym (tile_more c.args.xs.now c.loop-time._time)
