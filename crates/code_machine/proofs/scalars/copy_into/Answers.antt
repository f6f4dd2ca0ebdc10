use Rattle.std.proofs.Common.{[], ◌∷◌, IfOk, sym, ap, subst, ◌∙◌}
use Rattle.language_model.specs.Values.{plain}
use Rattle.named_values.specs.Machine.{next}
use Rattle.code_machine.specs.Changes.{Puts}
use Rattle.code_machine.specs.Views.{machine_seen}
use Rattle.code_machine.proofs.OneWord.{scalar-is}
use Rattle.code_machine.proofs.scalars.copy_into.Goals as goal

pub returns-then-is_public_word : goal.returns-then-is_public_word
returns-then-is_public_word c =
    let v = c.register-value.result.now in
    let one = sym c.is_public_word.ensures ∙ c.if-is_public_word.true in
    subst (λ x. IfOk c.scalar_into.result (Puts c.args.machine.now c.args.to x))
    (ap (λ x. plain v.shape (x ∷ [])) c.seen_word.ensures ∙ scalar-is v one ∙ c.register-value.ensures)
    c.scalar_into.ensures

pub returns : goal.returns
returns c =
    let m = c.args.machine.now in
    record {
      is = λ code. ap (λ x. next c.args.to.0 x (machine_seen code m)) (c.in_ok-copy.ensures ∙ c.register-value.ensures);
      safe = c.requires.to_there;
      enough = λ code. tt;
    }
