use Rattle.std.proofs.Common.{◌≡◌, sym, ◌∙◌, ap}
use Rattle.tape_twin.proofs.Passing.{if-ok}
use Rattle.proto_core.specs.declared.party.Number.{Number}
use Rattle.view_model.specs.Dealing.{seen_dealer}
use Rattle.tape_twin.proofs.DealerWords.{kept-first, kept-second}
use Rattle.tape_twin.proofs.dealer.seen_dealer.Goals as goal

pub returns-in-One : goal.returns-in-One
returns-in-One c =
    let es = c.args.inputs.now in
    let words = c.args.dealer.now in
    if-ok (λ copy. copy.items ≡ words) (λ made. made.items ≡ seen_dealer c.args.miner es words)
    (λ copy same. same ∙ kept-first es words ∙ ap (λ (i : Number). seen_dealer i es words) (sym c.in-One.is))
    c.copied.result c.copied.ensures

pub returns-in-Two : goal.returns-in-Two
returns-in-Two c =
    let es = c.args.inputs.now in
    let words = c.args.dealer.now in
    if-ok (λ copy. copy.items ≡ words) (λ made. made.items ≡ seen_dealer c.args.miner es words)
    (λ copy same. same ∙ kept-second es words ∙ ap (λ (i : Number). seen_dealer i es words) (sym c.in-Two.is))
    c.copied-in-Two.result c.copied-in-Two.ensures
