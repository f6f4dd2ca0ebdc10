use Rattle.std.proofs.Common.{◌≡◌, ◌≤◌, ◌<◌, ◌+◌, length, refl, ◌∙◌, ap, subst, arith}
use Rattle.block_steps.specs.declared.links.Links.{Links}
use Rattle.miner_core.specs.Miners.{MinerSeen, MinerState, IsOf, fetched_to_previous, HasToPrevious, HasNoneToPrevious}
use Rattle.miner_core.proofs.Miners.{kept_to_previous, last_to_previous, lost_only, no_previous, one_to_previous, seen_in, some_previous}
use Rattle.miner_core.proofs.miner.Miner.fetch_to_previous.Goals as goal

-- ---- none is there

pub returns-then-self-held-clause-some : goal.returns-then-self-held-clause-some
returns-then-self-held-clause-some g c =
    let i = g.P.Party.me in
    let m = seen_in c.self.inside in
    let n = m in
    let held = c.len-held.ensures ∙ ap length (c.to_previous.ensures ∙ ap (λ (l : Links). l.to_previous) c.links.ensures) in
    let past : length m.engine.node.links.to_previous ≤ m.passed_to_previous = grind (arith, held) in
    subst (λ (v : MinerSeen _). (w : MinerState) → IsOf i v w → HasToPrevious i w → IsOf i v (fetched_to_previous w)) c.self.view_is
    (λ w is some. lost_only i m w is m (fetched_to_previous w) refl refl refl refl (λ going. no_previous i m w is going past some))

-- ---- it keeps all

pub invariant_of-self : goal.invariant_of-self
invariant_of-self g c =
    let m = seen_in c.self.inside in
    let known = c.self.invariant in
    let held = c.len-held.ensures ∙ ap length (c.to_previous.ensures ∙ ap (λ (l : Links). l.to_previous) c.links.ensures) in
    let more : m.passed_to_previous < length m.engine.node.links.to_previous = grind (arith, held) in
    (fetched_to_previous known.0, kept_to_previous g.P.Party.me m known.0 known.1 c.in-All.is more)

pub returns-in-All-clause-some : goal.returns-in-All-clause-some
returns-in-All-clause-some g c =
    let i = g.P.Party.me in
    let m = seen_in c.self.inside in
    let n = record m { passed_to_previous = m.passed_to_previous + 1 } in
    let held = c.len-held.ensures ∙ ap length (c.to_previous.ensures ∙ ap (λ (l : Links). l.to_previous) c.links.ensures) in
    let more : m.passed_to_previous < length m.engine.node.links.to_previous = grind (arith, held) in
    subst (λ (v : MinerSeen _). (w : MinerState) → IsOf i v w → HasToPrevious i w → IsOf i n (fetched_to_previous w)) c.self.view_is
    (λ w is some. kept_to_previous i m w is c.in-All.is more)

pub returns-in-All-clause-none : goal.returns-in-All-clause-none
returns-in-All-clause-none g c =
    let i = g.P.Party.me in
    let m = seen_in c.self.inside in
    let n = record m { passed_to_previous = m.passed_to_previous + 1 } in
    let held = c.len-held.ensures ∙ ap length (c.to_previous.ensures ∙ ap (λ (l : Links). l.to_previous) c.links.ensures) in
    let more : m.passed_to_previous < length m.engine.node.links.to_previous = grind (arith, held) in
    subst (λ (v : MinerSeen _). (w : MinerState) → IsOf i v w → HasNoneToPrevious i w → IsOf i n w) c.self.view_is
    (λ w is none. lost_only i m w is n w refl refl refl refl (λ going. some_previous i m w is going more none))

-- ---- it is not the last one

pub invariant_of-self-then-self-held-2 : goal.invariant_of-self-then-self-held-2
invariant_of-self-then-self-held-2 g c =
    let m = seen_in c.self.inside in
    let known = c.self.invariant in
    let held = c.len-held.ensures ∙ ap length (c.to_previous.ensures ∙ ap (λ (l : Links). l.to_previous) c.links.ensures) in
    let more : m.passed_to_previous + 1 < length m.engine.node.links.to_previous = grind (arith, held) in
    (fetched_to_previous known.0, one_to_previous g.P.Party.me m known.0 known.1 more)

pub returns-then-self-held-2-clause-some : goal.returns-then-self-held-2-clause-some
returns-then-self-held-2-clause-some g c =
    let i = g.P.Party.me in
    let m = seen_in c.self.inside in
    let n = c.let_go_first_to_previous.new.self in
    let held = c.len-held.ensures ∙ ap length (c.to_previous.ensures ∙ ap (λ (l : Links). l.to_previous) c.links.ensures) in
    let more : m.passed_to_previous + 1 < length m.engine.node.links.to_previous = grind (arith, held) in
    subst (λ (v : MinerSeen _). (w : MinerState) → IsOf i v w → HasToPrevious i w → IsOf i n (fetched_to_previous w)) c.self.view_is
    (λ w is some. c.let_go_first_to_previous.ensures (fetched_to_previous w) (one_to_previous i m w is more))

pub returns-then-self-held-2-clause-none : goal.returns-then-self-held-2-clause-none
returns-then-self-held-2-clause-none g c =
    let i = g.P.Party.me in
    let m = seen_in c.self.inside in
    let n = c.let_go_first_to_previous.new.self in
    let held = c.len-held.ensures ∙ ap length (c.to_previous.ensures ∙ ap (λ (l : Links). l.to_previous) c.links.ensures) in
    let more : m.passed_to_previous < length m.engine.node.links.to_previous = grind (arith, held) in
    subst (λ (v : MinerSeen _). (w : MinerState) → IsOf i v w → HasNoneToPrevious i w → IsOf i n w) c.self.view_is
    (λ w is none.
    c.let_go_first_to_previous.ensures w
    (lost_only i m w is (record m { passed_to_previous = m.passed_to_previous + 1 }) w refl refl refl refl (λ going. some_previous i m w is going more none)))

-- ---- it is the last one

pub invariant_of-self-2 : goal.invariant_of-self-2
invariant_of-self-2 g c =
    let m = seen_in c.self.inside in
    let known = c.self.invariant in
    let held = c.len-held.ensures ∙ ap length (c.to_previous.ensures ∙ ap (λ (l : Links). l.to_previous) c.links.ensures) in
    let last : m.passed_to_previous + 1 ≡ length m.engine.node.links.to_previous = grind (arith, held) in (
      fetched_to_previous known.0,
      last_to_previous g.P.Party.me m known.0 known.1 c.in_default.is c.let_go_sent_to_previous.new.self c.let_go_sent_to_previous.ensures last,
    )

pub returns-clause-some : goal.returns-clause-some
returns-clause-some g c =
    let i = g.P.Party.me in
    let m = seen_in c.self.inside in
    let n = record m { engine = record m.engine { node = c.let_go_sent_to_previous.new.self }; passed_to_previous = 0 } in
    let held = c.len-held.ensures ∙ ap length (c.to_previous.ensures ∙ ap (λ (l : Links). l.to_previous) c.links.ensures) in
    let last : m.passed_to_previous + 1 ≡ length m.engine.node.links.to_previous = grind (arith, held) in
    subst (λ (v : MinerSeen _). (w : MinerState) → IsOf i v w → HasToPrevious i w → IsOf i n (fetched_to_previous w)) c.self.view_is
    (λ w is some. last_to_previous i m w is c.in_default.is c.let_go_sent_to_previous.new.self c.let_go_sent_to_previous.ensures last)

pub returns-clause-none : goal.returns-clause-none
returns-clause-none g c =
    let i = g.P.Party.me in
    let m = seen_in c.self.inside in
    let n = record m { engine = record m.engine { node = c.let_go_sent_to_previous.new.self }; passed_to_previous = 0 } in
    let held = c.len-held.ensures ∙ ap length (c.to_previous.ensures ∙ ap (λ (l : Links). l.to_previous) c.links.ensures) in
    let more : m.passed_to_previous < length m.engine.node.links.to_previous = grind (arith, held) in
    subst (λ (v : MinerSeen _). (w : MinerState) → IsOf i v w → HasNoneToPrevious i w → IsOf i n w) c.self.view_is
    (λ w is none. lost_only i m w is n w refl refl refl refl (λ going. some_previous i m w is going more none))
