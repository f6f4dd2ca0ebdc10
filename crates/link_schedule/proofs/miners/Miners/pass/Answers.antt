use Rattle.std.proofs.Common.{refl, sym, subst}
use Rattle.std.proofs.lemmas.Result.{on_ok_weaker}
use Rattle.proto_core.specs.declared.party.Number.TheVariants.{One, Two, Three}
use Rattle.proto_core.specs.declared.link.Link.TheVariants.{Link12, Link13, Link21, Link23, Link31, Link32}
use Rattle.link_schedule.specs.declared.miners.Miners.{Miners}
use Rattle.link_schedule.specs.Miners.{CanPass, HasPassed}
use Rattle.link_schedule.proofs.Passing.{between, has_passed}
use Rattle.link_schedule.proofs.miners.Miners.pass.Goals as goal

pub pass_to_next-requires : goal.pass_to_next-requires
pass_to_next-requires g c =
    let w = c.requires.0 in
    let can = subst (λ l. CanPass l c.args.self.now w (g.T.TapeSource.state c.args.tapes.now)) c.in-Link12.is c.requires.1 in
    record { w = w.one; v = w.two; can = between can.are.one can.are.two (can.usable One) (can.usable Two) refl (can.left Two) can.has }

pub returns-in-Link12 : goal.returns-in-Link12
returns-in-Link12 g c = λ w pass.
    let m = c.args.self.now in
    let a = g.T.TapeSource.state c.args.tapes.now in
    let b = g.T.TapeSource.state c.pass_to_next.new.tapes in
    let r = c.pass_to_next.result in
    let can = subst (λ l. CanPass l m w a) c.in-Link12.is pass in
    let after : Miners = record { one = c.pass_to_next.new.sender; two = c.pass_to_next.new.receiver; three = m.three } in
    let h = c.pass_to_next.ensures w.one w.two (between can.are.one can.are.two (can.usable One) (can.usable Two) refl (can.left Two) can.has) in
    subst (λ l. HasPassed l w after a b r) (sym c.in-Link12.is)
    (has_passed Link12 m after w a b r can h.stream h.message h.oldest h.gives
    (on_ok_weaker r (λ x. record { one = x.0; two = x.1; three = can.are.three }) h.ok))

pub pass_to_previous-requires : goal.pass_to_previous-requires
pass_to_previous-requires g c =
    let w = c.requires.0 in
    let can = subst (λ l. CanPass l c.args.self.now w (g.T.TapeSource.state c.args.tapes.now)) c.in-Link13.is c.requires.1 in
    record { w = w.one; v = w.three; can = between can.are.one can.are.three (can.usable One) (can.usable Three) refl (can.left Three) can.has }

pub returns-in-Link13 : goal.returns-in-Link13
returns-in-Link13 g c = λ w pass.
    let m = c.args.self.now in
    let a = g.T.TapeSource.state c.args.tapes.now in
    let b = g.T.TapeSource.state c.pass_to_previous.new.tapes in
    let r = c.pass_to_previous.result in
    let can = subst (λ l. CanPass l m w a) c.in-Link13.is pass in
    let after : Miners = record { one = c.pass_to_previous.new.sender; two = m.two; three = c.pass_to_previous.new.receiver } in
    let h = c.pass_to_previous.ensures w.one w.three (between can.are.one can.are.three (can.usable One) (can.usable Three) refl (can.left Three) can.has) in
    subst (λ l. HasPassed l w after a b r) (sym c.in-Link13.is)
    (has_passed Link13 m after w a b r can h.stream h.message h.oldest h.gives
    (on_ok_weaker r (λ x. record { one = x.0; two = can.are.two; three = x.1 }) h.ok))

pub pass_to_previous-requires-in-Link21 : goal.pass_to_previous-requires-in-Link21
pass_to_previous-requires-in-Link21 g c =
    let w = c.requires.0 in
    let can = subst (λ l. CanPass l c.args.self.now w (g.T.TapeSource.state c.args.tapes.now)) c.in-Link21.is c.requires.1 in
    record { w = w.two; v = w.one; can = between can.are.two can.are.one (can.usable Two) (can.usable One) refl (can.left One) can.has }

pub returns-in-Link21 : goal.returns-in-Link21
returns-in-Link21 g c = λ w pass.
    let m = c.args.self.now in
    let a = g.T.TapeSource.state c.args.tapes.now in
    let b = g.T.TapeSource.state c.pass_to_previous-in-Link21.new.tapes in
    let r = c.pass_to_previous-in-Link21.result in
    let can = subst (λ l. CanPass l m w a) c.in-Link21.is pass in
    let after : Miners = record { one = c.pass_to_previous-in-Link21.new.receiver; two = c.pass_to_previous-in-Link21.new.sender; three = m.three } in
    let h = c.pass_to_previous-in-Link21.ensures w.two w.one (between can.are.two can.are.one (can.usable Two) (can.usable One) refl (can.left One) can.has) in
    subst (λ l. HasPassed l w after a b r) (sym c.in-Link21.is)
    (has_passed Link21 m after w a b r can h.stream h.message h.oldest h.gives
    (on_ok_weaker r (λ x. record { one = x.1; two = x.0; three = can.are.three }) h.ok))

pub pass_to_next-requires-in-Link23 : goal.pass_to_next-requires-in-Link23
pass_to_next-requires-in-Link23 g c =
    let w = c.requires.0 in
    let can = subst (λ l. CanPass l c.args.self.now w (g.T.TapeSource.state c.args.tapes.now)) c.in-Link23.is c.requires.1 in
    record { w = w.two; v = w.three; can = between can.are.two can.are.three (can.usable Two) (can.usable Three) refl (can.left Three) can.has }

pub returns-in-Link23 : goal.returns-in-Link23
returns-in-Link23 g c = λ w pass.
    let m = c.args.self.now in
    let a = g.T.TapeSource.state c.args.tapes.now in
    let b = g.T.TapeSource.state c.pass_to_next-in-Link23.new.tapes in
    let r = c.pass_to_next-in-Link23.result in
    let can = subst (λ l. CanPass l m w a) c.in-Link23.is pass in
    let after : Miners = record { one = m.one; two = c.pass_to_next-in-Link23.new.sender; three = c.pass_to_next-in-Link23.new.receiver } in
    let h = c.pass_to_next-in-Link23.ensures w.two w.three
    (between can.are.two can.are.three (can.usable Two) (can.usable Three) refl (can.left Three) can.has) in
    subst (λ l. HasPassed l w after a b r) (sym c.in-Link23.is)
    (has_passed Link23 m after w a b r can h.stream h.message h.oldest h.gives
    (on_ok_weaker r (λ x. record { one = can.are.one; two = x.0; three = x.1 }) h.ok))

pub pass_to_next-requires-in-Link31 : goal.pass_to_next-requires-in-Link31
pass_to_next-requires-in-Link31 g c =
    let w = c.requires.0 in
    let can = subst (λ l. CanPass l c.args.self.now w (g.T.TapeSource.state c.args.tapes.now)) c.in-Link31.is c.requires.1 in
    record { w = w.three; v = w.one; can = between can.are.three can.are.one (can.usable Three) (can.usable One) refl (can.left One) can.has }

pub returns-in-Link31 : goal.returns-in-Link31
returns-in-Link31 g c = λ w pass.
    let m = c.args.self.now in
    let a = g.T.TapeSource.state c.args.tapes.now in
    let b = g.T.TapeSource.state c.pass_to_next-in-Link31.new.tapes in
    let r = c.pass_to_next-in-Link31.result in
    let can = subst (λ l. CanPass l m w a) c.in-Link31.is pass in
    let after : Miners = record { one = c.pass_to_next-in-Link31.new.receiver; two = m.two; three = c.pass_to_next-in-Link31.new.sender } in
    let h = c.pass_to_next-in-Link31.ensures w.three w.one
    (between can.are.three can.are.one (can.usable Three) (can.usable One) refl (can.left One) can.has) in
    subst (λ l. HasPassed l w after a b r) (sym c.in-Link31.is)
    (has_passed Link31 m after w a b r can h.stream h.message h.oldest h.gives
    (on_ok_weaker r (λ x. record { one = x.1; two = can.are.two; three = x.0 }) h.ok))

pub pass_to_previous-requires-in-Link32 : goal.pass_to_previous-requires-in-Link32
pass_to_previous-requires-in-Link32 g c =
    let w = c.requires.0 in
    let can = subst (λ l. CanPass l c.args.self.now w (g.T.TapeSource.state c.args.tapes.now)) c.in-Link32.is c.requires.1 in
    record { w = w.three; v = w.two; can = between can.are.three can.are.two (can.usable Three) (can.usable Two) refl (can.left Two) can.has }

pub returns-in-Link32 : goal.returns-in-Link32
returns-in-Link32 g c = λ w pass.
    let m = c.args.self.now in
    let a = g.T.TapeSource.state c.args.tapes.now in
    let b = g.T.TapeSource.state c.pass_to_previous-in-Link32.new.tapes in
    let r = c.pass_to_previous-in-Link32.result in
    let can = subst (λ l. CanPass l m w a) c.in-Link32.is pass in
    let after : Miners = record { one = m.one; two = c.pass_to_previous-in-Link32.new.receiver; three = c.pass_to_previous-in-Link32.new.sender } in
    let h = c.pass_to_previous-in-Link32.ensures w.three w.two
    (between can.are.three can.are.two (can.usable Three) (can.usable Two) refl (can.left Two) can.has) in
    subst (λ l. HasPassed l w after a b r) (sym c.in-Link32.is)
    (has_passed Link32 m after w a b r can h.stream h.message h.oldest h.gives
    (on_ok_weaker r (λ x. record { one = can.are.one; two = x.1; three = x.0 }) h.ok))
