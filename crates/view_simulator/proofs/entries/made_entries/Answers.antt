use Rattle.std.proofs.Common.{◌≡◌, ◌+◌, ◌∷◌, [], ◌++◌, drop, sym, ◌∙◌, ap, subst}
use Rattle.input_share.specs.declared.entry.ShareEntry.{ShareEntry}
use Rattle.input_share.proofs.Steps.{more, all}
use Rattle.view_model.specs.Dealing.{made_entries}
use Rattle.view_simulator.proofs.InputPieces.{entry_of, made_entries-drop, made_entries-end}
use Rattle.view_simulator.proofs.entries.made_entries.Goals as goal

pub loop-entry-preserved : goal.loop-entry-preserved
loop-entry-preserved c =
    let i = c.args.miner in
    let xs = c.entries-entry-items.result.now in
    let k = c.loop-entry.entry-index in
    let rest = c.loop-entry.rest.now in
    let added = c.in_ok-push.ensures.items ∙ ap (λ (e : ShareEntry). c.loop-entry.made.items ++ e ∷ []) c.in_ok-made_entry.ensures in
    subst (λ w. c.push.new.self.items ++ made_entries i (drop (k + 1) xs) w ≡ made_entries i c.args.part.now c.args.words.now) (sym c.behind-rest.ensures)
    (more c.loop-entry.made.items c.push.new.self.items _ _ _ (entry_of i c.entry-item.result rest) c.loop-entry.invariant
    (made_entries-drop i xs rest k c.entry-item.result c.loop-entry-test.true c.entry-item.is) added)

pub returns : goal.returns
returns c =
    all c.loop-entry.made.items _ _ c.loop-entry.invariant
    (made_entries-end c.args.miner c.entries-entry-items.result.now c.loop-entry.rest.now c.loop-entry.entry-index c.loop-entry-test.false)
