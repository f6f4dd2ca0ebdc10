use Rattle.std.proofs.Common.{◌≡◌, length, sym, ap, ap₂, ◌∙◌}
use Rattle.std.specs.Prelude.{map}
use Rattle.std.specs.List.{slice_get}
use Rattle.std.proofs.lemmas.List.{length-map}
use Rattle.std.proofs.lemmas.Result.{IfOk-weaker}
use Rattle.program_trees.specs.TypedTree.{typed_tree, typed_trees_of}
use Rattle.program_trees.specs.TypedPrograms.{typed_function_tree}
use Rattle.reached_instances.specs.Domains.{domains, binding_of}
use Rattle.reached_instances.specs.Views.{setting}
use Rattle.reached_instances.proofs.Functions.{the_function}
use Rattle.language_model.specs.Evaluation.{bound_at}
use Rattle.lowered_expressions.specs.inner.Notes.{noted_domains}
use Rattle.lowered_expressions.proofs.Noted.{domains_noted}
use Rattle.lowered_expressions.proofs.calling.bound_at.Goals as goal

pub returns : goal.returns
returns c =
    let here = setting c.args.here.now in
    let ts = map typed_tree c.args.list.now.items in
    let many : c.len.result ≡ length ts = c.len.ensures ∙ c.args.list.now.ok.0 ∙ sym (length-map c.args.list.now.items typed_tree) in
    let found : c.in_ok-domains.domains.items ≡ domains here (typed_trees_of ts) =
    c.in_ok-domains.ensures ∙ ap₂ noted_domains many c.requires ∙ domains_noted here ts in
    let f = c.in-Some.callee.now in
    let there = the_function c.args.here.now.functions.now c.args.function f c.in-Some.ensures.lookup.3.0 c.in-Some.ensures.lookup.1 in
    IfOk-weaker c.binding_of.result (λ b. b.items ≡ binding_of (typed_function_tree f) c.deref.result.now)
    (λ b. b.items ≡ bound_at (slice_get here.functions c.args.function) (domains here (typed_trees_of ts)))
    (λ b e. e ∙ ap (binding_of (typed_function_tree f)) (c.deref.ensures.value ∙ found) ∙ ap (λ o. bound_at o (domains here (typed_trees_of ts))) (sym there))
    c.binding_of.ensures
