use Rattle.std.proofs.Common.{◌≡◌, ap, subst, sym, ◌∙◌}
use Rattle.proto_core.specs.Strand.{Ends}
use Rattle.blocked_protocol.specs.Blocked.{joined}
use Rattle.block_steps.specs.Outcomes.{outcome_of, StandsAt, AwaitsOn}
use Rattle.block_steps.specs.Pendings.{pending_left, progress_left, StandsThen}
use Rattle.gate_node.specs.Shares.{shares_of}
use Rattle.gate_node.specs.declared.engine.AtWork.TheVariants.{Between, Within}
use Rattle.gate_node.specs.Plans.{then_wanted}
use Rattle.gate_node.specs.Nodes.{running_left, left_at, filled}
use Rattle.gate_node.proofs.Plans.{outcome-wanted, stands-wanted, awaits-wanted}
use Rattle.gate_node.proofs.Turns.{outcome-behind, stands-behind, awaits-behind, of-made, put-to-work}
use Rattle.gate_node.proofs.engine.Engine.go_on.Goals as goal

pub returns-in-Stands-clause-same : goal.returns-in-Stands-clause-same
returns-in-Stands-clause-same g c =
    let i = g.P.Party.me in
    let e = c.args.self.now in
    let r = c.args.running in
    let b = c.step.new.links in
    λ more.
    put-to-work i (filled (record e { links = b; work = c.put.new.place }) more) (Within r c.in-Stands.block) c.put.ensures
    ∙ outcome-wanted i e.dealt e.wanted b e.links _ _
    (outcome-behind i (λ here. running_left i (filled e more) r (joined r.made here)) b e.links (pending_left i c.in-Stands.block) (pending_left i c.args.block)
    (subst (λ v. outcome_of i b (progress_left (pending_left i) v) ≡ outcome_of i e.links (pending_left i c.args.block)) c.in-Stands.is
    c.in_ok-block.ensures.same))

pub returns-in-Goes-clause-same : goal.returns-in-Goes-clause-same
returns-in-Goes-clause-same g c =
    let i = g.P.Party.me in
    let e = c.args.self.now in
    let r = c.args.running in
    let b = c.step.new.links in
    λ more.
    put-to-work i (filled (record e { links = b; work = c.put-in-Goes.new.place }) more) (Within r c.in-Goes.block) c.put-in-Goes.ensures
    ∙ outcome-wanted i e.dealt e.wanted b e.links _ _
    (outcome-behind i (λ here. running_left i (filled e more) r (joined r.made here)) b e.links (pending_left i c.in-Goes.block) (pending_left i c.args.block)
    (subst (λ v. outcome_of i b (progress_left (pending_left i) v) ≡ outcome_of i e.links (pending_left i c.args.block)) c.in-Goes.is
    c.in_ok-block.ensures.same))

pub returns-in-Stands-clause-stands : goal.returns-in-Stands-clause-stands
returns-in-Stands-clause-stands g c =
    let i = g.P.Party.me in
    let e = c.args.self.now in
    let r = c.args.running in
    let b = c.step.new.links in
    let f = record e { links = b; work = c.put.new.place } in
    λ more.
    let s = pending_left i c.in-Stands.block in
    subst (λ w. StandsAt i b c.in-Stands.cause (left_at i (filled f more) w) × AwaitsOn c.awaits-link.result (left_at i (filled f more) w))
    (sym c.put.ensures) (
      stands-wanted i e.dealt e.wanted b c.in-Stands.cause _
          (stands-behind i b c.in-Stands.cause s (λ here. running_left i (filled e more) r (joined r.made here))
          (subst (StandsThen (pending_left i) i b) c.in-Stands.is c.in_ok-block.ensures.stands)),
      awaits-wanted i e.dealt e.wanted c.awaits-link.result _
          (awaits-behind c.awaits-link.result s (λ here. running_left i (filled e more) r (joined r.made here)) c.awaits-link.ensures),
    )

pub returns-in_ok-through-in-Made-clause-same : goal.returns-in_ok-through-in-Made-clause-same
returns-in_ok-through-in-Made-clause-same g c =
    let i = g.P.Party.me in
    let e = c.args.self.now in
    let r = c.args.running in
    let b = c.step.new.links in
    let shares = shares_of c.in-Made.first c.in-Made.second in
    λ more.
    put-to-work i (filled (record e { links = b; work = c.put-in-Made.new.place }) more) (Between c.in_ok-through-in-Made.field-0) c.put-in-Made.ensures
    ∙ ap (λ q. outcome_of i b (then_wanted i e.dealt e.wanted (running_left i (filled e more) q q.made))) c.in_ok-through-in-Made.ensures
    ∙ outcome-wanted i e.dealt e.wanted b e.links _ _
    (outcome-behind i (λ here. running_left i (filled e more) r (joined r.made here)) b e.links (Ends shares) (pending_left i c.args.block)
    (subst (λ w. outcome_of i b w ≡ outcome_of i e.links (pending_left i c.args.block))
    (of-made (pending_left i) c.in_ok-block.field-0 c.in-Made.first c.in-Made.second c.in-Made.is) c.in_ok-block.ensures.same))
