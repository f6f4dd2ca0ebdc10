use Rattle.std.proofs.Common.{◌≤◌, ◌<◌, length, arith, sym}
use Rattle.bytecode.proofs.NameReads.{characters_here, characters_end}
use Rattle.bytecode.proofs.reader.Reader.characters.Goals as goal

pub returns-then-count-left : goal.returns-then-count-left
returns-then-count-left c =
    let enough : c.args.count ≤ length c.args.self.now = omega (arith, c.left.ensures, c.if-count-left.true) in
    characters_here c.self.inside.text.now c.self.inside.place c.args.count c.args.self.now (sym c.self.view_is) enough

pub returns-else-count-left : goal.returns-else-count-left
returns-else-count-left c =
    let short : length c.args.self.now < c.args.count = omega (arith, c.left.ensures, c.if-count-left.false) in
    characters_end c.args.count c.args.self.now short
