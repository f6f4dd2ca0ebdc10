use Rattle.std.proofs.Common.{refl, sym, ◌∙◌, ap, subst}
use Rattle.std.specs.Prelude.{None}
use Rattle.link_schedule.specs.Coming.{AreNet}
use Rattle.link_schedule.specs.Miners.{MinerStates, fetched, streams, unfetched}
use Rattle.link_schedule.specs.Streams.{net_of}
use Rattle.link_schedule.proofs.Giving.{fresh_net}
use Rattle.link_schedule.proofs.Passing.{none_fetched}
use Rattle.link_schedule.proofs.net.Net3.new.Goals as goal

pub returns-clause-net : goal.returns-clause-net
returns-clause-net c = λ one two three made.
    let w : MinerStates = record { one = unfetched one; two = unfetched two; three = unfetched three } in
    record {
      lost = refl;
      recorded = c.new-2.ensures.items;
      works = λ going. record {
        states = w;
        are = record { one = made.first; two = made.second; three = made.third };
        joined =
            subst (λ ls. AreNet (streams w) ls (fetched w)) (sym c.new-2.ensures.items)
            (fresh_net (streams w) made.alike_second made.alike_third made.fresh_first made.fresh_second made.fresh_third (fetched w)
            (none_fetched one two three));
        same = ap (λ ls. net_of (streams w) ls None) c.new-2.ensures.items;
        counted = λ l. c.new.ensures l ∙ sym (none_fetched one two three l);
      };
    }
