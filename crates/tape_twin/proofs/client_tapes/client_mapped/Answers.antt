use Rattle.std.proofs.Common.{◌≡◌, ◌<◌, ◌≤◌, List, ℕ, length, ◌∙◌, ap, subst}
use Rattle.proto_core.specs.declared.party.Number.{Number}
use Rattle.joint_run.specs.Three.{values_of}
use Rattle.input_share.specs.Dealing.{need_of}
use Rattle.tape_twin.specs.declared.way.Looker.TheVariants.{Client}
use Rattle.tape_twin.specs.Maps.{run_map, client_map}
use Rattle.tape_twin.proofs.Passing.{if-ok}
use Rattle.view_model.specs.Dealing.{dealt_to, private_sizes}
use Rattle.view_model.specs.TapeMaps.{miners_of, four_of}
use Rattle.tape_twin.proofs.Whole.{some-says, none-says, even, can-run, client-dealt, client-undealt}
use Rattle.tape_twin.proofs.client_tapes.client_mapped.Goals as goal

pub returns-in_default : goal.returns-in_default
returns-in_default c =
    let es = c.args.inputs.now in
    let gates = c.args.gates.now in
    let t = c.args.tapes.now in
    let short : length t.dealer < need_of es =
    subst (λ (w : List ℕ). length w < need_of es) c.dealer.ensures
    (none-says (length c.dealer.result.now < need_of es) c.in_ok-dealt.field-0 c.in_default.is c.in_ok-dealt.ensures.short) in
    if-ok (λ copy. copy ≡ t) (λ made. made ≡ four_of t.dealer (client_map c.args.way (dealt_to es t.dealer) (private_sizes es) gates (miners_of t)))
    (λ copy same. same ∙ client-undealt c.args.way es gates t (c.requires.none short))
    c.copied.result c.copied.ensures

pub mapped-requires-clause-even : goal.mapped-requires-clause-even
mapped-requires-clause-even c =
    let es = c.args.inputs.now in
    let w = c.dealer.result.now in
    let shares = values_of c.in-Some.dealt in
    let enough : need_of es ≤ length w =
    some-says (λ s. need_of es ≤ length w) c.in_ok-dealt.field-0 c.in-Some.dealt c.in-Some.is c.in_ok-dealt.ensures.enough in
    let are : (k : Number) → shares k ≡ dealt_to es w k =
    some-says (λ s. (k : Number) → values_of s k ≡ dealt_to es w k) c.in_ok-dealt.field-0 c.in-Some.dealt c.in-Some.is c.in_ok-dealt.ensures.shares in
    even es w enough shares are

pub mapped-requires-clause-runs : goal.mapped-requires-clause-runs
mapped-requires-clause-runs c =
    let es = c.args.inputs.now in
    let w = c.dealer.result.now in
    let t = c.args.tapes.now in
    let shares = values_of c.in-Some.dealt in
    let enough : need_of es ≤ length w =
    some-says (λ s. need_of es ≤ length w) c.in_ok-dealt.field-0 c.in-Some.dealt c.in-Some.is c.in_ok-dealt.ensures.enough in
    let are : (k : Number) → shares k ≡ dealt_to es w k =
    some-says (λ s. (k : Number) → values_of s k ≡ dealt_to es w k) c.in_ok-dealt.field-0 c.in-Some.dealt c.in-Some.is c.in_ok-dealt.ensures.shares in
    let all : need_of es ≤ length t.dealer = subst (λ (w : List ℕ). need_of es ≤ length w) c.dealer.ensures enough in
    can-run es w enough shares are c.args.gates.now t (c.requires.can all)

pub returns : goal.returns
returns c =
    let es = c.args.inputs.now in
    let gates = c.args.gates.now in
    let t = c.args.tapes.now in
    let w = c.dealer.result.now in
    let shares = values_of c.in-Some.dealt in
    let dealer = c.in_ok-dealer.dealer.items in
    let enough : need_of es ≤ length w =
    some-says (λ s. need_of es ≤ length w) c.in_ok-dealt.field-0 c.in-Some.dealt c.in-Some.is c.in_ok-dealt.ensures.enough in
    let are : (k : Number) → shares k ≡ dealt_to es w k =
    some-says (λ s. (k : Number) → values_of s k ≡ dealt_to es w k) c.in_ok-dealt.field-0 c.in-Some.dealt c.in-Some.is c.in_ok-dealt.ensures.shares in
    let all : need_of es ≤ length t.dealer = subst (λ (w : List ℕ). need_of es ≤ length w) c.dealer.ensures enough in
    let dealt : (k : Number) → shares k ≡ dealt_to es t.dealer k = λ k. are k ∙ ap (λ (w : List ℕ). dealt_to es w k) c.dealer.ensures in
    if-ok (λ made. made ≡ four_of dealer (run_map (record { looker = Client; way = c.args.way }) shares gates (miners_of t)))
    (λ made. made ≡ four_of t.dealer (client_map c.args.way (dealt_to es t.dealer) (private_sizes es) gates (miners_of t)))
    (λ made same. same ∙ client-dealt c.args.way es gates t shares dealer all dealt (c.in_ok-dealer.ensures.items_if_clones_equal (λ x y e. e) ∙ c.dealer-2.ensures))
    c.mapped.result c.mapped.ensures
