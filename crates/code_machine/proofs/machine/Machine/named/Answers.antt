use Rattle.std.proofs.Common.{rules, ◌≡◌, sym, subst}
use Rattle.std.specs.Prelude.{◌||◌, IsTrue}
use Rattle.std.specs.BTreeSet.{contains}
use Rattle.std.specs.Ordering.{nat_cmp}
use Rattle.code_machine.specs.Named.{is_in, is_in_any}
use Rattle.code_machine.proofs.Naming.{machine_names}
use Rattle.code_machine.proofs.machine.Machine.named.Goals as goal

pub returns-clause-named : goal.returns-clause-named
returns-clause-named c = λ code k names.
    let m = c.args.self.now in
    let exactly : contains nat_cmp c.add_callers.new.numbers k ≡ is_in m.registers.items k || is_in_any m.callers.items k = search rules in
    subst IsTrue (sym exactly) (machine_names k code m names)
