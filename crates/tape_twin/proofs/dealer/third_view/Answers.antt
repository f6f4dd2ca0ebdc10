use Rattle.std.proofs.Common.{◌≡◌, ◌++◌, List, ℕ, drop, sym, ◌∙◌, ap}
use Rattle.proto_core.specs.declared.party.Number.TheVariants.{Two, Three}
use Rattle.protocol_model.specs.Gates.{sizes_of}
use Rattle.gates.specs.Clear.{Values}
use Rattle.shared_gates.proofs.Computing.{same-count}
use Rattle.input_share.specs.Dealing.{need_of}
use Rattle.view_model.specs.Dealing.{dealt_to}
use Rattle.view_model.proofs.DealtSizes.{sizes_dealt}
use Rattle.tape_twin.specs.Pairs.{pairs}
use Rattle.tape_twin.proofs.DealerWords.{pairs-seen, rest-of}
use Rattle.tape_twin.proofs.dealer.third_view.Goals as goal

pub pairs-requires : goal.pairs-requires
pairs-requires c =
    let es = c.args.inputs.now in
    let dealer = c.args.dealer.now in
    same-count c.args.dealt.now.second c.args.dealt.now.third
    (ap sizes_of (c.requires.dealt Two) ∙ sizes_dealt Two es dealer c.requires.enough
    ∙ sym (ap sizes_of (c.requires.dealt Three) ∙ sizes_dealt Three es dealer c.requires.enough))

pub returns : goal.returns
returns c =
    let es = c.args.inputs.now in
    let dealer = c.args.dealer.now in
    let words = c.in_ok-words.words.items in
    let behind : c.need-behind.result ≡ need_of es = c.need-behind.ensures ∙ ap need_of c.entries.ensures in
    let made : words ≡ pairs (dealt_to es dealer Three) (dealt_to es dealer Two) =
    c.in_ok-words.ensures
    ∙ ap (λ (x : Values). pairs x c.args.dealt.now.second) (c.requires.dealt Three)
    ∙ ap (λ (y : Values). pairs (dealt_to es dealer Three) y) (c.requires.dealt Two) in
    c.in_ok-extend_from_slice.ensures.items
    ∙ ap (λ (w : List ℕ). words ++ w) (rest-of dealer c.need-behind.result)
    ∙ ap (λ (n : ℕ). words ++ drop n dealer) behind
    ∙ ap (λ (w : List ℕ). w ++ drop (need_of es) dealer) made
    ∙ pairs-seen es dealer c.requires.enough
