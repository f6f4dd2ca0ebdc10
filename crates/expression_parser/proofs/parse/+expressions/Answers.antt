use Rattle.std.proofs.Common.{◌≡◌, Ok, ◌-◌, ◌<◌, ◌≤◌, [], ◌∷◌, ◌++◌, length, ap, ◌∙◌, sym, arith}
use Rattle.program_trees.specs.Tree.{binary}
use Rattle.program_trees.specs.Heights.{height, place_of}
use Rattle.expression_parser.specs.declared.parsed.Parsed.{Parsed}
use Rattle.expression_parser.specs.declared.parsed.ParsedTrees.{ParsedTrees}
use Rattle.expression_parser.specs.Given.{tree_of, tree_height, list_of}
use Rattle.expression_parser.specs.Steps.{at_most, front, grow, more}
use Rattle.expression_parser.proofs.HandedOn.{holds, read}
use Rattle.expression_parser.proofs.Turns.{grow_goes, grow_high, more_stop, more_comma}
use Rattle.expression_parser.proofs.parse.+expressions.Goals as goal

pub more-returns-then-not-is-clause-step : goal.more-returns-then-not-is-clause-step
more-returns-then-not-is-clause-step t c =
    let i = c.loop-token.invariant.step in
    let f = c.in-Some.ensures.cases in
    i.2 ∙ more_stop (at_most (c.args.max_height - 1) 9) (list_of c.loop-token.found) i.0 c.loop-token.rest.now c.in-Some.token.now
    c.in-Some.behind.now f.0 (sym c.is.ensures ∙ c.if-not-is.true)

pub more-loop-token-preserved : goal.more-loop-token-preserved
more-loop-token-preserved t c =
    let i = c.loop-token.invariant in
    let f = c.in-Some.ensures.cases in
    let b = c.in_ok-before.ensures in
    let a = c.in_ok-found.ensures in
    let inner = at_most (c.args.max_height - 1) 9 in
    let m = c.in-Some.behind.now in
    let r = c.in_ok-before.behind.now in
    let next = c.in_ok-before.next in
    let e : inner m ≡ Ok (tree_of next, r) = read tree_of c.operators-next.result (inner m) (next, c.in_ok-before.behind) b.1 c.operators-next.ensures.step in
    let low : (next.height ≡ tree_height next) × (next.height ≤ c.args.max_height - 1) =
    holds c.operators-next.result (next, c.in_ok-before.behind) b.1
    (λ x. (x.0.height ≡ tree_height x.0) × (x.0.height ≤ c.args.max_height - 1)) c.operators-next.ensures.height in
    let less : length r < length m =
    holds c.operators-next.result (next, c.in_ok-before.behind) b.1 (λ x. length x.1.now < length m) c.operators-next.ensures.shorter in
    let same : c.in_ok-before.before.height ≡ c.loop-token.found.height = ap (λ (n : ParsedTrees). n.height) b.0 in
    let front_is = ap length f.0 in
    record {
      height = (a.1, omega (arith, low, same, a.2, i.height.1));
      shorter = omega (arith, less, front_is, i.shorter);
      step = (
        i.step.0 - 1,
        omega (arith, less, front_is, i.step.1),
        i.step.2
            ∙ more_comma inner (list_of c.loop-token.found) i.step.0 c.loop-token.rest.now c.in-Some.token.now m r (tree_of next) f.0
            (sym c.is.ensures ∙ c.if-not-is.false) e i.step.1
            ∙ sym (ap (λ l. front l (more inner (i.step.0 - 1) r)) (a.0 ∙ ap (λ (n : ParsedTrees). list_of n ++ tree_of next ∷ []) b.0)),
      );
    }

pub grow-loop-token-preserved : goal.grow-loop-token-preserved
grow-loop-token-preserved t c =
    let i = c.loop-token.invariant in
    let f = c.in-Some.ensures.cases in
    let b = c.in_ok-first.ensures in
    let j = c.in_ok-left.ensures in
    let inner = at_most (c.args.max_height - 1) (c.args.level - 1) in
    let op = c.in-Some-operator_at.operator in
    let m = c.in-Some.behind.now in
    let r = c.in_ok-first.behind.now in
    let left = c.loop-token.left in
    let first = c.in_ok-first.first in
    let second = c.in_ok-first.second in
    let e : inner m ≡ Ok (tree_of second, r) =
    read tree_of c.operators-right.result (inner m) (second, c.in_ok-first.behind) b.1 c.operators-right.ensures.step in
    let low : (second.height ≡ tree_height second) × (second.height ≤ c.args.max_height - 1) =
    holds c.operators-right.result (second, c.in_ok-first.behind) b.1
    (λ x. (x.0.height ≡ tree_height x.0) × (x.0.height ≤ c.args.max_height - 1)) c.operators-right.ensures.height in
    let less : length r < length m =
    holds c.operators-right.result (second, c.in_ok-first.behind) b.1 (λ x. length x.1.now < length m) c.operators-right.ensures.shorter in
    let same : tree_height first ≡ tree_height left = ap tree_height b.0 in
    let made = ap height j.0 in
    let front_is = ap length f.0 in
    let max_height : height (tree_of left) < c.args.max_height = omega (arith, i.height.0, c.if-max_height-left.false) in
    record {
      height = (j.1, omega (arith, low, same, made, j.1, max_height));
      shorter = omega (arith, less, front_is, i.shorter);
      step = (
        i.step.0 - 1,
        omega (arith, less, front_is, i.step.1),
        i.step.2
            ∙ grow_goes c.args.level c.args.max_height inner i.step.0 (tree_of left) c.loop-token.rest.now c.in-Some.token.now m op
            (tree_of second) r f.0 (sym c.in-Some-operator_at.ensures) max_height e i.step.1
            ∙ sym (ap (λ n. grow c.args.level c.args.max_height inner (i.step.0 - 1) n r)
            (j.0 ∙ ap (λ (n : Parsed). binary (place_of (tree_of n)) op (tree_of n) (tree_of second)) b.0)),
      );
    }

pub grow-returns-then-max_height-left-clause-step : goal.grow-returns-then-max_height-left-clause-step
grow-returns-then-max_height-left-clause-step t c =
    let i = c.loop-token.invariant in
    let f = c.in-Some.ensures.cases in
    let high : c.args.max_height ≤ height (tree_of c.loop-token.left) = omega (arith, i.height.0, c.if-max_height-left.true) in
    i.step.2
    ∙ grow_high c.args.level c.args.max_height (at_most (c.args.max_height - 1) (c.args.level - 1)) i.step.0 (tree_of c.loop-token.left)
    c.loop-token.rest.now c.in-Some.token.now c.in-Some.behind.now c.in-Some-operator_at.operator f.0 (sym c.in-Some-operator_at.ensures) high i.step.1
