use Rattle.std.proofs.Common.{◌≤◌, length, sym, subst, arith}
use Rattle.code_machine.specs.Standing.{CanAllGoOn, kinds_at}
use Rattle.code_machine.proofs.Callers.{all-pop}
use Rattle.code_machine.proofs.machine.Machine.leave.Goals as goal

pub go_on-requires : goal.go_on-requires
go_on-requires c =
    let code = c.requires.stands.0 in
    let callers = subst (CanAllGoOn code) c.in-Some.ensures.items c.requires.stands.1.callers in
    (all-pop code c.pop.new.self.items c.in-Some.caller callers).1.result

pub returns-in-Some-clause-stands : goal.returns-in-Some-clause-stands
returns-in-Some-clause-stands c = λ code stands.
    let new = c.go_on.new.machine in
    let is = c.go_on.ensures in
    let p = all-pop code c.pop.new.self.items c.in-Some.caller (subst (CanAllGoOn code) c.in-Some.ensures.items stands.callers) in
    record {
      registers = subst (λ f. length (kinds_at code f) ≤ length new.registers.items) (sym is.function) (omega (arith, p.1.registers, is.count));
      callers = subst (CanAllGoOn code) (sym is.callers) p.0;
    }
