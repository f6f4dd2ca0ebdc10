use Rattle.std.proofs.Common.{rules, ◌≡◌, ◌∙◌, ◌<◌, true, false, map, length, get_or, arith, ap, sym}
use Rattle.std.proofs.lemmas.List.{get_or_default}
use Rattle.program_trees.specs.declared.expression.DataType.TheVariants.{Uint64}
use Rattle.bytecode.specs.declared.instruction.Register.{Register}
use Rattle.bytecode.specs.declared.kind.Kind.{Kind}
use Rattle.verified_code.specs.Fitting.{same_kind, arguments_fit}
use Rattle.verified_code.proofs.Faults.{arguments_more, arguments_wrong}
use Rattle.verified_code.proofs.place.arguments_fit.Goals as goal

abbrev first : Register
first = record { 0 = 0 }

abbrev none : Kind
none = record { secret = false; element = Uint64; array = false }

pub returns-then-not-same_kind : goal.returns-then-not-same_kind
returns-then-not-same_kind c =
    let rs = c.args.arguments.now in
    let ks = c.args.wanted.now in
    let i = c.loop-place.place in
    let x = get_or rs i first in
    let k = get_or ks i none in
    let l : i < length rs = c.loop-place-test.true in
    let m : i < length ks = omega (arith, l, c.requires) in
    let wrong : c.same_kind.result ≡ false = search rules in
    sym (arguments_wrong c.args.kinds.now (λ (r : Register). r.0) rs ks i x k (arguments_fit c.args.kinds.now (map (λ (r : Register). r.0) rs) ks)
    (get_or_default rs i first x l) (get_or_default ks i none k m) l m
    (sym (c.same_kind.ensures ∙ ap (λ z. same_kind z k) c.kind_at.ensures) ∙ wrong) c.loop-place.invariant)

pub loop-place-preserved : goal.loop-place-preserved
loop-place-preserved c =
    let rs = c.args.arguments.now in
    let ks = c.args.wanted.now in
    let i = c.loop-place.place in
    let x = get_or rs i first in
    let k = get_or ks i none in
    let l : i < length rs = c.loop-place-test.true in
    let m : i < length ks = omega (arith, l, c.requires) in
    let right : c.same_kind.result ≡ true = search rules in
    arguments_more c.args.kinds.now (λ (r : Register). r.0) rs ks i x k (arguments_fit c.args.kinds.now (map (λ (r : Register). r.0) rs) ks)
    (get_or_default rs i first x l) (get_or_default ks i none k m) l m
    (sym (c.same_kind.ensures ∙ ap (λ z. same_kind z k) c.kind_at.ensures) ∙ right) c.loop-place.invariant
