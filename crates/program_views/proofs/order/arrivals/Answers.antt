use Rattle.std.proofs.Common.{◌≡◌, [], ◌++◌, drop, sym, ◌∙◌, ap}
use Rattle.std.proofs.lemmas.List.{drop_all}
use Rattle.proto_core.proofs.Beginnings.{append-none}
use Rattle.protocol_model.specs.Arrivals.{arrivals}
use Rattle.program_views.specs.Coming.{mail_in}
use Rattle.program_views.proofs.Entries.{comes-some, comes-none, entry-goes, all-come}
use Rattle.program_views.proofs.order.arrivals.Goals as goal
use Rattle.program_views.proofs.order.arrivals.Goals.{in-Some+in_ok-new+in_ok-push, in_default}

pub loop-link-preserved : goal.loop-link-preserved
loop-link-preserved c =
    entry-goes c.loop-link.coming c.enter.new.self c.loop-link.link-index _ c.args.order.now c.enter.result c.loop-link.got.items c.match-enter.got.items _
    c.loop-link-test.true c.enter.ensures.brought c.enter.ensures.miner c.enter.ensures.left
    (elim c.match-enter.branch [
      | in-Some+in_ok-new+in_ok-push w ↦
          comes-some _ c.enter.result w.in-Some.message w.in_ok-new.field-0 c.loop-link.got.items c.match-enter.got.items
          (ap (λ v. v.items) w.got-is ∙ w.in_ok-push.ensures.items) w.in_ok-new.ensures w.in-Some.is
      | in_default w ↦ comes-none _ c.enter.result c.loop-link.got.items c.match-enter.got.items (ap (λ v. v.items) w.got-is) w.in_default.is
    ])
    c.loop-link.invariant

pub returns : goal.returns
returns c =
    let i = c.args.miner in
    let none : drop c.loop-link.link-index c.args.order.now ≡ [] = drop_all c.loop-link.link-index c.args.order.now c.loop-link-test.false in
    all-come i c.args.previous.now c.args.next.now c.args.order.now c.loop-link.got.items
    (sym (append-none c.loop-link.got.items)
    ∙ ap (λ ls. c.loop-link.got.items ++ arrivals c.loop-link.coming.miner (mail_in c.loop-link.coming) ls) (sym none)
    ∙ c.loop-link.invariant)
