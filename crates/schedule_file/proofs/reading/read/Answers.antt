use Rattle.std.proofs.Common.{◌≡◌, ◌+◌, length, sym, ◌∙◌, ap, subst, arith}
use Rattle.std.specs.Prelude.{Err}
use Rattle.schedule_file.proofs.Lines.{ReadSoFar, read_none, read_next, cut_next, read_wrong, some_bytes}
use Rattle.schedule_file.proofs.reading.read.Goals as goal

pub loop-rest-init : goal.loop-rest-init
loop-rest-init c =
    let none = c.new-links.ensures.items in
    let n = ap length none in
    record { read = subst (λ ls. ReadSoFar c.args.bytes.now ls c.args.bytes.now) (sym none) (read_none c.args.bytes.now); cut = omega arith }

pub returns-in_default : goal.returns-in_default
returns-in_default c =
    let some = some_bytes c.loop-rest.rest.now c.loop-rest-test.ensures in
    let n : length c.loop-rest.links.items + 1 ≡ c.len.result + 1 = omega arith in
    read_wrong c.args.bytes.now c.loop-rest.links.items c.loop-rest.rest.now (some, c.in_default.ensures.none) c.loop-rest.invariant.read ∙ ap Err n

pub loop-rest-preserved : goal.loop-rest-preserved
loop-rest-preserved c =
    let links = c.loop-rest.links.items in
    let more = c.push.new.self.items in
    let is = c.in_ok-push.ensures.items in
    let e = c.in-Some.ensures.found in
    record {
      read = read_next c.args.bytes.now links more c.in-Some.link c.loop-rest.rest.now is e c.loop-rest.invariant.read;
      cut = cut_next _ links more c.in-Some.link c.loop-rest.rest.now is e c.loop-rest.invariant.cut;
    }
