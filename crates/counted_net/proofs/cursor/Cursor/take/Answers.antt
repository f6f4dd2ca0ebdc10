use Rattle.std.proofs.Common.{refl, sym, ◌∙◌, arith}
use Rattle.counted_net.proofs.cursor.Cursor.take.Goals as goal

pub returns-then-on-eq0 : goal.returns-then-on-eq0
returns-then-on-eq0 c = (sym c.on.ensures ∙ c.if-on-eq0.true, refl)

pub returns : goal.returns
returns c =
    let is = c.on.ensures in
    let some = c.if-on-eq0.false in
    (omega arith, record { place = refl; sends = λ l. refl; leaves = c.remove.ensures })
