use Rattle.std.proofs.Common.{◌≡◌, suc, ◌-◌, ◌<◌, [], ◌∷◌, length, arith, ap, ◌∙◌, sym, subst}
use Rattle.std.specs.Prelude.{reverse}
use Rattle.std.proofs.lemmas.List.{reverse-append}
use Rattle.name_resolution.specs.inner.Table.{latest_first, latest_in, HideEachOther, block_count, scope_at}
use Rattle.name_resolution.proofs.Tables.{one_less, is_there, block_there}
use Rattle.name_resolution.proofs.variables.Variables.forget.Goals as goal

pub put_back-requires : goal.put_back-requires
put_back-requires c =
    let es = reverse c.pop.new.self.items in
    let e = c.in-Some.entry in
    let items : latest_first c.self.inside ≡ e ∷ es = ap reverse c.in-Some.ensures.items ∙ reverse-append c.pop.new.self.items (e ∷ []) in
    is_there c.self.inside.latest e es (λ q. c.self.invariant.latest q ∙ ap (latest_in q) items)

pub invariant_of-self : goal.invariant_of-self
invariant_of-self c =
    let es = reverse c.pop.new.self.items in
    let e = c.in-Some.entry in
    let items : latest_first c.self.inside ≡ e ∷ es = ap reverse c.in-Some.ensures.items ∙ reverse-append c.pop.new.self.items (e ∷ []) in
    let longer = ap length items in
    let some = block_there (block_count c.self.inside) (latest_first c.self.inside) (subst (λ s. 0 < length s.block) (sym c.self.view_is) c.requires) in
    let hides : HideEachOther (e ∷ es) = subst HideEachOther items c.self.invariant.hidden in
    record {
      latest = one_less c.self.inside.latest c.put_back.new.latest e es hides.0 (λ q. c.self.invariant.latest q ∙ ap (latest_in q) items) c.put_back.ensures;
      hidden = hides.1;
      within = omega (arith, longer, some);
    }

pub returns-in-Some-clause-outer : goal.returns-in-Some-clause-outer
returns-in-Some-clause-outer c =
    let es = reverse c.pop.new.self.items in
    let e = c.in-Some.entry in
    let outer = c.self.inside.outer in
    let items : latest_first c.self.inside ≡ e ∷ es = ap reverse c.in-Some.ensures.items ∙ reverse-append c.pop.new.self.items (e ∷ []) in
    let longer = ap length items in
    let some = block_there (block_count c.self.inside) (latest_first c.self.inside) (subst (λ s. 0 < length s.block) (sym c.self.view_is) c.requires) in
    let more : suc (length es - outer) ≡ length (e ∷ es) - outer = omega (arith, longer, some) in
    ap (λ n. (scope_at n (e ∷ es)).outer) more
    ∙ ap (λ l. (scope_at (length l - outer) l).outer) (sym items)
    ∙ ap (λ s. s.outer) c.self.view_is
