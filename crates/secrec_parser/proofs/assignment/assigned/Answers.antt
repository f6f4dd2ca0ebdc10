-- What stands next decides, by one lemma for each case, so that no goal unfolds what every sign does.
use Rattle.std.proofs.Common.{◌∙◌, sym, ap, Ok, length, arith}
use Rattle.program_trees.specs.Statements.{target_tree}
use Rattle.expression_parser.specs.Steps.{◌>>=◌}
use Rattle.secrec_parser.proofs.Turns.{assigned_none, assigned_high, assigned_value}
use Rattle.secrec_parser.proofs.assignment.assigned.Goals as goal

pub returns-in_default-update_of : goal.returns-in_default-update_of
returns-in_default-update_of c =
    assigned_none c.args.max_height (target_tree c.args.target) c.args.tokens.now c.in-Some.token.now c.in-Some.rest.now c.in-Some.ensures.cases.0
    (sym c.in_default-update_of.ensures)

pub returns-then-from-least_height : goal.returns-then-from-least_height
returns-then-from-least_height c =
    assigned_high c.args.max_height (target_tree c.args.target) c.args.tokens.now c.in-Some.token.now c.in-Some.rest.now c.in-Some.ensures.cases.0
    c.in-Some-update_of.update (sym c.in-Some-update_of.ensures) c.args.height c.requires
    (omega (arith, c.if-from-least_height.true, c.from.ensures, c.least_height.ensures))

pub returns : goal.returns
returns c =
    let front = c.in-Some.ensures.cases.0 in
    let value = c.in_ok-value.ensures in
    let longer = ap length front in
    let left = value.1 in (
      assigned_value c.args.max_height (target_tree c.args.target) c.args.tokens.now c.in-Some.token.now c.in-Some.rest.now front c.in-Some-update_of.update
          (sym c.in-Some-update_of.ensures) c.args.height c.requires
          (omega (arith, c.if-from-least_height.false, c.from.ensures, c.least_height.ensures))
          ∙ ap (λ o. o >>= λ v. Ok (record { target = target_tree c.args.target; value = v.0 }, v.1)) value.0,
      omega (arith, longer, left),
    )
