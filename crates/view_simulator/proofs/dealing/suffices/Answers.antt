use Rattle.view_simulator.proofs.Pieces.{still_left, too_few, enough_words}
use Rattle.view_simulator.proofs.dealing.suffices.Goals as goal

pub loop-entry-preserved : goal.loop-entry-preserved
loop-entry-preserved c =
    still_left c.args.part.now c.loop-entry.entry-index c.entry-item.result c.args.words c.loop-entry.left c.in-Some.behind c.loop-entry-test.true
    c.entry-item.is c.loop-entry.invariant c.in-Some.ensures.some

pub returns-in_default : goal.returns-in_default
returns-in_default c =
    too_few c.args.part.now c.loop-entry.entry-index c.entry-item.result c.args.words c.loop-entry.left c.loop-entry-test.true c.entry-item.is
    c.loop-entry.invariant c.in_default.ensures.none

pub returns : goal.returns
returns c =
    enough_words c.args.part.now c.loop-entry.entry-index c.args.words c.loop-entry.left c.loop-entry-test.false c.loop-entry.invariant
