use Rattle.std.proofs.Common.{[], ◌∷◌, ◌++◌, sym, ap, ◌∙◌, append-nil}
use Rattle.reached_instances.specs.Domains.{given_domain, call_domain}
use Rattle.reached_instances.specs.Instances.{instance_seen}
use Rattle.reached_instances.specs.Calls.{called}
use Rattle.reached_instances.specs.Views.{instances_seen}
use Rattle.reached_instances.proofs.Growing.{map_one}
use Rattle.reached_instances.proofs.Functions.{the_function, no_function}
use Rattle.reached_instances.proofs.expressions.call.Goals as goal

pub returns-in_default-clause-calls : goal.returns-in_default-clause-calls
returns-in_default-clause-calls c =
    let before = instances_seen c.args.found.now.items in
    let missing = no_function c.args.functions.now c.args.function c.in_default.ensures.lookup.3 in
    sym (ap (λ o. before ++ called c.args.function o c.args.arguments.now) missing ∙ append-nil before)

pub returns-clause-domain : goal.returns-clause-domain
returns-clause-domain c =
    let f = c.in-Some.callee.now in
    let there = the_function c.args.functions.now c.args.function f c.in-Some.ensures.lookup.3.0 c.in-Some.ensures.lookup.1 in
    c.given_domain-given.ensures
    ∙ ap (λ b. given_domain b f.given) (c.deref.ensures.value ∙ c.in_ok-binding.ensures)
    ∙ ap (λ o. call_domain o c.args.arguments.now) (sym there)

pub returns-clause-calls : goal.returns-clause-calls
returns-clause-calls c =
    let f = c.in-Some.callee.now in
    let k = c.args.function in
    let before = instances_seen c.args.found.now.items in
    let there = the_function c.args.functions.now k f c.in-Some.ensures.lookup.3.0 c.in-Some.ensures.lookup.1 in
    ap instances_seen c.in_ok-push.ensures.items
    ∙ map_one instance_seen c.args.found.now.items (record { function = k; binding = c.in_ok-binding.binding })
    ∙ ap (λ b. before ++ record { function = k; binding = b } ∷ []) c.in_ok-binding.ensures
    ∙ ap (λ o. before ++ called k o c.args.arguments.now) (sym there)
