use Rattle.std.proofs.Common.{refl, sym, ap, ◌∙◌}
use Rattle.named_values.specs.Machine.{next}
use Rattle.value_steps.specs.declared.arrays.WrittenElement.{WrittenElement}
use Rattle.value_steps.specs.declared.value.Secrecy.TheVariants.{Plain}
use Rattle.code_machine.specs.Views.{kept, machine_seen}
use Rattle.code_machine.proofs.OneWord.{written-scalar, within-scalar}
use Rattle.code_machine.proofs.scalars.scalar_into.Goals as goal

pub returns-then-is_one_word : goal.returns-then-is_one_word
returns-then-is_one_word c =
    let m = c.args.machine.now in
    let v = c.register.result.now in
    let one = sym c.is_one_word.ensures ∙ c.if-is_one_word.true in
    let element : WrittenElement = record { index = 0; word = c.args.word; secrecy = Plain } in
    record {
      is =
          λ code.
          ap (λ x. next c.args.to.0 x (machine_seen code m))
          (written-scalar v (kept m c.args.to) c.args.shape c.register.ensures one element refl refl);
      safe = (c.requires, within-scalar v (kept m c.args.to) c.args.shape c.register.ensures one);
      enough = λ code. tt;
    }

pub returns : goal.returns
returns c =
    let m = c.args.machine.now in
    record {
      is = λ code. ap (λ x. next c.args.to.0 x (machine_seen code m)) c.in_ok-value.ensures;
      safe = c.requires;
      enough = λ code. tt;
    }
