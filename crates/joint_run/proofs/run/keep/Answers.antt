use Rattle.std.proofs.Common.{◌≡◌, [], ◌∷◌, ◌++◌, sym, ◌∙◌, ap, subst, append_assoc}
use Rattle.proto_core.specs.Parties.{of_three}
use Rattle.joint_run.specs.Three.{share_of, values_of}
use Rattle.joint_run.specs.Adding.{words_of}
use Rattle.joint_run.proofs.run.keep.Goals as goal

pub returns-in_ok-push-2 : goal.returns-in_ok-push-2
returns-in_ok-push-2 c = λ i.
    let old = values_of c.args.shares.now i in
    let x = c.into_words-x1.result in
    let y = c.into_words-y1.result in
    subst (λ b. values_of c.push-then-two.new.self i ≡ old ++ words_of b c.args.outputs i) (sym c.if-two.true)
    (c.in_ok-push-2.ensures i
    ∙ ap (λ v. v ++ of_three y.0 y.1 y.2 i ∷ []) (c.in_ok-push.ensures i)
    ∙ append_assoc old (of_three x.0 x.1 x.2 i ∷ []) (of_three y.0 y.1 y.2 i ∷ [])
    ∙ ap (λ a. old ++ a ∷ of_three y.0 y.1 y.2 i ∷ []) (c.into_words-x1.ensures i)
    ∙ ap (λ b. old ++ share_of c.args.outputs.first i ∷ b ∷ []) (c.into_words-y1.ensures i))
