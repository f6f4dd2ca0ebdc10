use Rattle.std.proofs.Common.{◌∙◌, ap, refl}
use Rattle.proto_core.specs.declared.link.Link.TheVariants.{Link21, Link31}
use Rattle.proto_core.specs.declared.party.Number.TheVariants.{One, Two, Three}
use Rattle.proto_core.specs.Strand.{on_link}
use Rattle.miner_core.specs.Miners.{MinerSeen, held}
use Rattle.delivered_run.proofs.Netting.{own_tape}
use Rattle.link_schedule.proofs.Nets.{kept_miner}
use Rattle.viewed_run.proofs.seat.first.Goals as goal

pub sent_to_next-requires : goal.sent_to_next-requires
sent_to_next-requires c = ap (λ (m : MinerSeen _). m.past) c.miner3.ensures.own ∙ c.requires.three

pub sent_to_previous-requires : goal.sent_to_previous-requires
sent_to_previous-requires c = ap (λ (m : MinerSeen _). m.past) c.miner2.ensures.own ∙ c.requires.two

pub returns-clause-sits : goal.returns-clause-sits
returns-clause-sits c = λ s is.
    record {
      miner = λ going.
          kept_miner s One c.miner1.result.now (ap (λ (m : MinerSeen _). m.past) c.miner1.ensures.own ∙ c.requires.one)
          (c.miner1.ensures.miner s is going);
      dealt = refl;
      previous = λ going tapes may.
          let keeps = ap (λ (m : MinerSeen _). m.past) c.miner3.ensures.own ∙ c.requires.three in
          let m = kept_miner s Three c.miner3.result.now keeps (c.miner3.ensures.miner s is going) in
          c.sent_to_next.ensures m.going (tapes Three) (own_tape s Three (held c.miner3.result.now) m tapes may)
          ∙ ap (on_link Link31) (m.at tapes may).acts;
      next = λ going tapes may.
          let keeps = ap (λ (m : MinerSeen _). m.past) c.miner2.ensures.own ∙ c.requires.two in
          let m = kept_miner s Two c.miner2.result.now keeps (c.miner2.ensures.miner s is going) in
          c.sent_to_previous.ensures m.going (tapes Two) (own_tape s Two (held c.miner2.result.now) m tapes may)
          ∙ ap (on_link Link21) (m.at tapes may).acts;
      order = c.recorded.ensures s is;
    }

pub returns-clause-keeps : goal.returns-clause-keeps
returns-clause-keeps c = ap (λ (m : MinerSeen _). m.past) c.miner1.ensures.own ∙ c.requires.one
