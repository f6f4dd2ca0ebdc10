use Rattle.std.proofs.Common.{[], ◌∷◌, List, ℕ, ◌++◌, take, length, ◌∙◌, ap, sym}
use Rattle.std.proofs.lemmas.List.{map-append, take_more}
use Rattle.protocol_model.specs.Gates.{sizes_of}
use Rattle.client_simulator.proofs.zeros.zeros.Goals as goal

pub loop-size-preserved : goal.loop-size-preserved
loop-size-preserved c =
    let sizes = c.args.sizes.now in
    let k = c.loop-size.size-index in
    let zeros : List ℕ = c.in_ok-zero_words.field-0 in
    ap sizes_of c.in_ok-push.ensures.ok
    ∙ map-append length c.loop-size.values (zeros ∷ [])
    ∙ ap (λ (ns : List ℕ). ns ++ length zeros ∷ []) c.loop-size.invariant
    ∙ ap (λ (n : ℕ). take k sizes ++ n ∷ []) c.in_ok-zero_words.ensures
    ∙ sym (take_more sizes k _ c.loop-size-test.true)
