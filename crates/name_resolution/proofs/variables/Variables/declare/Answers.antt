use Rattle.std.proofs.Common.{◌≡◌, suc, ◌-◌, [], ◌∷◌, length, arith, ap, ◌∙◌, sym, refl, subst}
use Rattle.std.specs.Prelude.{reverse}
use Rattle.std.proofs.lemmas.List.{length-reverse, reverse-append}
use Rattle.std.proofs.lemmas.Map.Text.{btree_map_updates_str}
use Rattle.name_resolution.specs.declared.variables.VariableEntry.{VariableEntry}
use Rattle.name_resolution.specs.Scopes.{with_variable}
use Rattle.name_resolution.specs.inner.Table.{latest_in, HideEachOther, latest_first, scope_at}
use Rattle.name_resolution.proofs.Tables.{one_more}
use Rattle.name_resolution.proofs.variables.Variables.declare.Goals as goal

pub invariant_of-self-in-Ok : goal.invariant_of-self-in-Ok
invariant_of-self-in-Ok c =
    let es = latest_first c.self.inside in
    let e : VariableEntry = record { name = c.args.name; known = c.args.known; hidden = c.copied-hidden.result } in
    let count = length-reverse c.self.inside.entries.items in
    let items : reverse c.push.new.self.items ≡ e ∷ es = ap reverse c.in_ok-push.ensures.items ∙ reverse-append c.self.inside.entries.items (e ∷ []) in
    let longer = ap length items in
    record {
      latest = λ q. one_more c.self.inside.latest c.insert.new.self e es (record { number = c.len-number.result; known = c.args.known })
          (omega arith) refl c.self.invariant.latest
          (btree_map_updates_str c.args.name.now c.self.inside.latest c.insert.new.self _ c.in-Ok.ensures.updates) q ∙ ap (latest_in q) (sym items);
      hidden = subst HideEachOther (sym items)
          (c.copied-hidden.ensures ∙ c.get.ensures.value ∙ c.self.invariant.latest c.args.name.now, c.self.invariant.hidden);
      within = omega (arith, longer, c.self.invariant.within);
    }

pub returns-in-Ok : goal.returns-in-Ok
returns-in-Ok c =
    let es = latest_first c.self.inside in
    let e : VariableEntry = record { name = c.args.name; known = c.args.known; hidden = c.copied-hidden.result } in
    let count = length-reverse c.self.inside.entries.items in
    let items : reverse c.push.new.self.items ≡ e ∷ es = ap reverse c.in_ok-push.ensures.items ∙ reverse-append c.self.inside.entries.items (e ∷ []) in
    let more : length (e ∷ es) - c.self.inside.outer ≡ suc (length es - c.self.inside.outer) = omega (arith, c.self.invariant.within) in
    ap (λ l. scope_at (length l - c.self.inside.outer) l) items
    ∙ ap (λ n. scope_at n (e ∷ es)) more
    ∙ ap (with_variable (record { name = c.args.name.now; known = c.args.known })) c.self.view_is
