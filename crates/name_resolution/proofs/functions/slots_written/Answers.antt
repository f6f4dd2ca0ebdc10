use Rattle.std.proofs.Common.{◌+◌, [], ◌∷◌, ◌≡◌, ◌++◌, ap, ◌∙◌, sym, take, get_or, Some}
use Rattle.std.specs.Prelude.{map}
use Rattle.std.proofs.lemmas.List.{take_all, take_more, map-append}
use Rattle.declarations.specs.Views.{declared}
use Rattle.name_resolution.specs.Functions.{slots_written}
use Rattle.name_resolution.specs.inner.Views.{type_at}
use Rattle.name_resolution.proofs.Growing.{slots_written_more}
use Rattle.name_resolution.proofs.Missing.{slots_none}
use Rattle.name_resolution.proofs.functions.slots_written.Goals as goal

pub loop-each-preserved : goal.loop-each-preserved
loop-each-preserved c =
    let xs = c.deref-each-items.result.now in
    let i = c.loop-each.each-index in
    let x = c.each-item.result in
    let d = declared c.args.declarations.now in
    let vs = c.args.variables.now in
    let ts = map type_at (take i xs) in
    let more : map type_at (take (i + 1) xs) ≡ ts ++ type_at x ∷ [] =
    ap (map type_at) (take_more xs i x c.loop-each-test.true) ∙ map-append type_at (take i xs) (get_or xs i x ∷ [])
    ∙ ap (λ z. ts ++ type_at z ∷ []) (sym c.each-item.is) in
    ap (slots_written d vs) more
    ∙ slots_written_more d vs ts (type_at x) c.loop-each.slots.items c.in-Some.slot c.loop-each.invariant (sym c.slot_written.ensures ∙ c.in-Some.is)
    ∙ ap Some (sym c.in_ok-push-in-Some.ensures.items)

pub returns-in-None : goal.returns-in-None
returns-in-None c =
    let d = declared c.args.declarations.now in
    let vs = c.args.variables.now in
    ap (λ l. slots_written d vs (map type_at l)) (sym c.deref-each-items.ensures.value)
    ∙ slots_none d vs c.deref-each-items.result.now c.loop-each.each-index c.each-item.result c.loop-each-test.true c.each-item.is
    (sym c.slot_written.ensures ∙ c.in-None.is)

pub returns : goal.returns
returns c =
    let all = take_all c.loop-each.each-index c.deref-each-items.result.now c.loop-each-test.false ∙ c.deref-each-items.ensures.value in
    ap (λ l. slots_written (declared c.args.declarations.now) c.args.variables.now (map type_at l)) (sym all) ∙ c.loop-each.invariant
