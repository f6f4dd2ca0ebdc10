use Rattle.std.proofs.Common.{arith}
use Rattle.view_simulator.proofs.RowPieces.{bits-none, bits-more, bits-length}
use Rattle.view_simulator.proofs.rows.append_bits.Goals as goal

pub loop-word-init : goal.loop-word-init
loop-word-init c = bits-none c.args.msg.now c.args.words.now

pub push-requires : goal.push-requires
push-requires c =
    let l = bits-length c.loop-word.word-index c.args.words.now c.args.msg.now c.loop-word.msg c.loop-word.invariant in
    omega (arith, l, c.requires, c.loop-word-test.true)

pub loop-word-preserved : goal.loop-word-preserved
loop-word-preserved c = bits-more c.loop-word.word-index c.args.words.now c.args.msg.now c.loop-word.msg c.push.new.self c.loop-word.invariant c.push.ensures

pub returns-clause-len : goal.returns-clause-len
returns-clause-len c =
    let l = bits-length c.loop-word.word-index c.args.words.now c.args.msg.now c.loop-word.msg c.loop-word.invariant in
    omega (arith, l, c.loop-word-test.false, c.loop-word.auto)
