use Rattle.std.proofs.Common.{◌∙◌, ap, subst}
use Rattle.miner_core.specs.Miners.{MinerSeen, MinerState, IsOf}
use Rattle.miner_core.proofs.Miners.{first_to_next, seen_in}
use Rattle.miner_core.proofs.miner.Miner.let_go_first_to_next.Goals as goal

pub invariant_of-self : goal.invariant_of-self
invariant_of-self g c =
    let known = c.self.invariant in
    let needed = ap (λ (v : MinerSeen _). v.past) c.self.view_is ∙ c.requires in
    (known.0, first_to_next g.P.Party.me (seen_in c.self.inside) known.0 known.1 needed c.let_go_first_to_next.new.self c.in-Ok.ensures.ok)

pub returns-in-Ok : goal.returns-in-Ok
returns-in-Ok g c =
    let i = g.P.Party.me in
    let m = seen_in c.self.inside in
    let needed = ap (λ (v : MinerSeen _). v.past) c.self.view_is ∙ c.requires in
    let n = c.let_go_first_to_next.new.self in
    subst (λ (v : MinerSeen _). (w : MinerState) → IsOf i v w → IsOf i (record m { engine = record m.engine { node = n }; passed_to_next = 0 }) w)
    c.self.view_is (λ w is. first_to_next i m w is needed n c.in-Ok.ensures.ok)
