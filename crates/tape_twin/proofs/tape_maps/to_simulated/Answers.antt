use Rattle.std.proofs.Common.{◌≡◌, ◌<◌, ◌≤◌, List, ℕ, length, ◌∙◌, ap, subst}
use Rattle.proto_core.specs.declared.party.Number.{Number}
use Rattle.joint_run.specs.Three.{values_of}
use Rattle.input_share.specs.Dealing.{need_of}
use Rattle.tape_twin.specs.declared.way.Way.TheVariants.{ToView}
use Rattle.tape_twin.specs.declared.way.Looker.TheVariants.{Miner}
use Rattle.tape_twin.specs.Maps.{run_map}
use Rattle.tape_twin.proofs.Passing.{if-ok}
use Rattle.view_model.specs.Dealing.{dealt_to, seen_dealer}
use Rattle.view_model.specs.TapeMaps.{miners_of, four_of, to_simulated}
use Rattle.tape_twin.proofs.Whole.{some-says, none-says, even, can-run, to-is, to-undealt}
use Rattle.tape_twin.proofs.tape_maps.to_simulated.Goals as goal

pub returns-in_default : goal.returns-in_default
returns-in_default c =
    let i = c.args.miner in
    let es = c.args.inputs.now in
    let gates = c.args.gates.now in
    let t = c.args.tapes.now in
    let short : length t.dealer < need_of es =
    subst (λ (w : List ℕ). length w < need_of es) c.dealer.ensures
    (none-says (length c.dealer.result.now < need_of es) c.in_ok-dealt.field-0 c.in_default.is c.in_ok-dealt.ensures.short) in
    if-ok (λ copy. copy ≡ t) (λ made. made ≡ to_simulated i es gates t) (λ copy same. same ∙ to-undealt i es gates t short)
    c.copied.result c.copied.ensures

pub mapped-requires-clause-even : goal.mapped-requires-clause-even
mapped-requires-clause-even c =
    let es = c.args.inputs.now in
    let w = c.dealer.result.now in
    let shares = values_of c.in-Some.dealt in
    let enough : need_of es ≤ length w =
    some-says (λ s. need_of es ≤ length w) c.in_ok-dealt.field-0 c.in-Some.dealt c.in-Some.is c.in_ok-dealt.ensures.enough in
    let are : (k : Number) → shares k ≡ dealt_to es w k =
    some-says (λ s. (k : Number) → values_of s k ≡ dealt_to es w k) c.in_ok-dealt.field-0 c.in-Some.dealt c.in-Some.is c.in_ok-dealt.ensures.shares in
    even es w enough shares are

pub mapped-requires-clause-runs : goal.mapped-requires-clause-runs
mapped-requires-clause-runs c =
    let es = c.args.inputs.now in
    let w = c.dealer.result.now in
    let t = c.args.tapes.now in
    let shares = values_of c.in-Some.dealt in
    let enough : need_of es ≤ length w =
    some-says (λ s. need_of es ≤ length w) c.in_ok-dealt.field-0 c.in-Some.dealt c.in-Some.is c.in_ok-dealt.ensures.enough in
    let are : (k : Number) → shares k ≡ dealt_to es w k =
    some-says (λ s. (k : Number) → values_of s k ≡ dealt_to es w k) c.in_ok-dealt.field-0 c.in-Some.dealt c.in-Some.is c.in_ok-dealt.ensures.shares in
    let all : need_of es ≤ length t.dealer = subst (λ (w : List ℕ). need_of es ≤ length w) c.dealer.ensures enough in
    can-run es w enough shares are c.args.gates.now t (c.requires all)

pub returns : goal.returns
returns c =
    let i = c.args.miner in
    let es = c.args.inputs.now in
    let gates = c.args.gates.now in
    let t = c.args.tapes.now in
    let w = c.dealer.result.now in
    let shares = values_of c.in-Some.dealt in
    let seen = c.in_ok-seen.seen.items in
    let enough : need_of es ≤ length w =
    some-says (λ s. need_of es ≤ length w) c.in_ok-dealt.field-0 c.in-Some.dealt c.in-Some.is c.in_ok-dealt.ensures.enough in
    let are : (k : Number) → shares k ≡ dealt_to es w k =
    some-says (λ s. (k : Number) → values_of s k ≡ dealt_to es w k) c.in_ok-dealt.field-0 c.in-Some.dealt c.in-Some.is c.in_ok-dealt.ensures.shares in
    let all : need_of es ≤ length t.dealer = subst (λ (w : List ℕ). need_of es ≤ length w) c.dealer.ensures enough in
    let dealt : (k : Number) → shares k ≡ dealt_to es t.dealer k = λ k. are k ∙ ap (λ (w : List ℕ). dealt_to es w k) c.dealer.ensures in
    let seen_is : seen ≡ seen_dealer i es t.dealer = c.in_ok-seen.ensures ∙ ap (λ (w : List ℕ). seen_dealer i es w) c.dealer-2.ensures in
    if-ok (λ made. made ≡ four_of seen (run_map (record { looker = Miner i; way = ToView }) shares gates (miners_of t))) (λ made. made ≡ to_simulated i es gates t)
    (λ made same. same ∙ to-is i es gates t shares seen all dealt seen_is) c.mapped.result c.mapped.ensures
