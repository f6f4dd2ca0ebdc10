use Rattle.std.proofs.Common.{◌∙◌, ◌≡◌, sym, ap, false, drop}
use Rattle.std.specs.Prelude.{codes}
use Rattle.secrec_lexer.specs.Bytes.{begins}
use Rattle.secrec_lexer.proofs.Runs.{rest_from, size_to_close-drop}
use Rattle.secrec_lexer.proofs.bytes.size_to_close.Goals as goal

pub loop-at-preserved : goal.loop-at-preserved
loop-at-preserved c =
    let open_yet : begins (drop c.loop-at.at c.args.bytes.now) (codes "*/") ≡ false =
    ap (λ w. begins w (codes "*/")) (sym (rest_from c.args.bytes.now c.loop-at.at)) ∙ sym c.starts_with.ensures.value ∙ c.if-starts_with.false in
    c.loop-at.invariant ∙ size_to_close-drop c.args.bytes.now c.loop-at.at c.loop-at-test.true open_yet
