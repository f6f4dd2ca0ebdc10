use Rattle.std.proofs.Common.{refl, ◌∙◌, ap}
use Rattle.miner_core.specs.Engines.{all_shown}
use Rattle.miner_core.proofs.Forgetting.{links_kept}
use Rattle.miner_core.proofs.Further.{shown_same_with, shown_told_with, beside_same_with, beside_told_with}
use Rattle.miner_core.proofs.Turns.{holds_links}
use Rattle.miner_core.proofs.engine.Engine.ready.Goals as goal

pub returns-clause-same : goal.returns-clause-same
returns-clause-same g c =
    let i = g.P.Party.me in
    let e = c.let_go.new.self in
    let f = c.row.new.self in
    let h = c.store_in_place.new.self in
    shown_same_with i h c.want_needed.new.self c.in_ok-want_needed.ensures.left c.in_ok-want_needed.ensures.kept
    ∙ shown_same_with i f h c.in_ok-store_in_place.ensures.left c.in_ok-store_in_place.ensures.kept
    ∙ ap all_shown (beside_same_with i e e.at refl f c.in_ok-row.ensures.left c.in_ok-row.ensures.kept)
    ∙ shown_same_with i c.args.self.now e c.in_ok-let_go.ensures.left c.in_ok-let_go.ensures.kept

pub returns-clause-told : goal.returns-clause-told
returns-clause-told g c =
    let i = g.P.Party.me in
    let e = c.let_go.new.self in
    let f = c.row.new.self in
    let h = c.store_in_place.new.self in
    shown_told_with i h c.want_needed.new.self c.in_ok-want_needed.ensures.left c.in_ok-want_needed.ensures.kept
    ∙ shown_told_with i f h c.in_ok-store_in_place.ensures.left c.in_ok-store_in_place.ensures.kept
    ∙ beside_told_with i e e.at refl f c.in_ok-row.ensures.left c.in_ok-row.ensures.kept
    ∙ shown_told_with i c.args.self.now e c.in_ok-let_go.ensures.left c.in_ok-let_go.ensures.kept

pub returns-clause-kept : goal.returns-clause-kept
returns-clause-kept g c =
    let h = c.store_in_place.new.self in
    let last = c.want_needed.new.self in
    holds_links c.args.self.now last
    (links_kept c.args.self.now c.let_go.new.self last c.in_ok-let_go.ensures.kept
    (links_kept c.let_go.new.self c.row.new.self last c.in_ok-row.ensures.kept
    (links_kept c.row.new.self h last c.in_ok-store_in_place.ensures.kept c.in_ok-want_needed.ensures.kept)))
