use Rattle.std.proofs.Common.{◌≡◌, ap, ◌∙◌, sym, add-one}
use Rattle.std.specs.Prelude.{option_map}
use Rattle.std.specs.List.{slice_get}
use Rattle.std.proofs.lemmas.Option.{slice_get-map}
use Rattle.declarations.specs.Views.{declared, tree_at}
use Rattle.name_resolution.specs.Order.{read_one, known_after}
use Rattle.name_resolution.specs.inner.Views.{found_seen}
use Rattle.name_resolution.proofs.Reading.{copied_is}
use Rattle.name_resolution.proofs.order.reached.Goals as goal

pub loop-number-preserved : goal.loop-number-preserved
loop-number-preserved c =
    let d = declared c.args.declarations.now in
    let n = c.loop-number.number in
    let fs = c.loop-number.found.functions.items in
    let next : c.copied-next.result ≡ slice_get fs n =
    c.copied-next.ensures ∙ copied_is c.get.result c.deref.result.now n _ c.get.ensures.lookup.1 c.get.ensures.lookup.3
    ∙ ap (λ l. slice_get l n) c.deref.ensures.value in
    c.in_ok-found-2.ensures
    ∙ ap (λ o. read_one d (found_seen c.loop-number.found) (option_map tree_at o)) next
    ∙ ap (read_one d (found_seen c.loop-number.found)) (sym (slice_get-map tree_at fs n))
    ∙ ap (λ l. read_one d l (slice_get l n)) c.loop-number.invariant
    ∙ ap (known_after d) (sym (add-one n))
