use Rattle.std.proofs.Common.{sym, ap, ◌∙◌}
use Rattle.std.specs.Prelude.{not}
use Rattle.code_machine.specs.Named.{is_in, is_in_any}
use Rattle.code_machine.proofs.Naming.{names_none}
use Rattle.code_machine.proofs.machine.Machine.is_free_of.Goals as goal

pub returns-then-not-is_in-clause-frees : goal.returns-then-not-is_in-clause-frees
returns-then-not-is_in-clause-frees c =
    λ others code.
    let k = c.args.number in
    names_none code c.args.self.now k
    (sym (ap (λ vs. is_in vs k) c.deref-then-count-most.ensures.value) ∙ sym c.is_in.ensures ∙ c.if-not-is_in.true)
    (sym (ap not (c.is_in_any.ensures ∙ ap (λ cs. is_in_any cs k) c.deref-then-not-is_in.ensures.value)) ∙ others)
