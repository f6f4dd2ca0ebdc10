use Rattle.std.proofs.Common.{◌≡◌, [], None, sym, ap, ◌∙◌, subst}
use Rattle.std.specs.Prelude.{map, not}
use Rattle.std.specs.BTreeSet.{contains}
use Rattle.std.specs.Ordering.{nat_cmp}
use Rattle.program_trees.specs.Programs.{item_tree, program_tree}
use Rattle.domain_types.specs.FunctionTypes.{protections_of}
use Rattle.declarations.specs.Declarations.{declared_in, declared_by}
use Rattle.domain_types.specs.ProgramTypes.{items_faults, has_main}
use Rattle.domain_types.specs.Answer.{AreTheChecked, IsTold}
use Rattle.declarations.specs.Views.{declared, tree_at}
use Rattle.domain_types.specs.inner.LeastFault.{least}
use Rattle.domain_types.proofs.Verdicts.{IsWorked, noted, last_kept, told, are_the_checked}
use Rattle.domain_types.proofs.checking.survey.Goals as goal

pub returns : goal.returns
returns c =
    let p = program_tree c.args.program.now in
    let its = map item_tree c.args.program.now.items.items in
    let d = declared c.in_ok-declarations.declarations in
    let ps = c.in_ok-protections.protections in
    let is = c.in_ok-visits.visits.list in
    let test = contains nat_cmp c.in_ok-visits.visits.called in
    let declared_is : d ≡ declared_by p = c.in_ok-declarations.ensures ∙ ap (λ l. declared_in (map item_tree l)) c.deref.ensures.value in
    let protections_are : ps ≡ protections_of its = c.in_ok-protections.ensures ∙ ap (λ l. protections_of (map item_tree l)) c.deref-2.ensures.value in
    let named : c.items.new.least_fault ≡ least None (items_faults d [] [] its) =
    c.in_ok-items.ensures ∙ ap (λ l. least None (items_faults d [] [] (map item_tree l))) c.deref-3.ensures.value in
    let main : not c.has_main-missing.result ≡ not (has_main d.functions) =
    ap not (c.has_main-missing.ensures ∙ ap (λ l. has_main (map tree_at l)) c.deref-4.ensures.value) in
    let kept : c.called_heads.new.least_fault ≡ least None (noted p (declared_by p) (protections_of its) is test) =
    last_kept p d ps is test (not c.has_main-missing.result) c.items.new.least_fault c.note_if.new.least_fault c.visit_all.new.least_fault
    c.called_heads.new.least_fault
    declared_is protections_are main named c.note_if.ensures c.in_ok-visits.ensures.least_fault c.called_heads.ensures in
    let worked : IsWorked (declared_by p) is test =
    subst (λ e. IsWorked e is test) declared_is (record { visited = c.in_ok-visits.ensures.list; called = c.in_ok-visits.ensures.called }) in
    record {
      checked = subst (AreTheChecked p) (sym c.into_instances.ensures) (are_the_checked p is test worked);
      told = subst (λ w. IsTold w p) (sym kept) (told p is test worked);
    }
