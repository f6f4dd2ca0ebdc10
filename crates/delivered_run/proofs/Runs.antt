-- Three miners in a net, whose messages are all delivered, have run as the report says.
use Rattle.std.proofs.Common.{◌≡◌, ℕ, ◌-◌, false, List, Ok, Err, refl, sym, ◌∙◌, ap, subst}
use Rattle.miner_runs.proofs.OwnRuns.{delivery_is_counted}
use Rattle.std.proofs.lemmas.Option.{same_Some}
use Rattle.proto_core.specs.declared.party.Number.{Number}
use Rattle.proto_core.specs.declared.party.Number.TheVariants.{One, Two, Three}
use Rattle.proto_core.specs.declared.link.Link.{Link}
use Rattle.proto_core.specs.Strand.{Mail, Strand, told_in}
use Rattle.proto_core.specs.Net.{nothing, run_of, all_delivered}
use Rattle.protocol_model.specs.Network.{Accepted, Answer, Default, Delivery, EmptyLink, Listed, Shuffled, Stalled, order_of, walked, net}
use Rattle.protocol_model.specs.Complete.{IsComplete}
use Rattle.protocol_model.specs.Runs.{Tapes}
use Rattle.language_model.specs.Effects.{Ended}
use Rattle.language_model.specs.Reports.{Offered, Report}
use Rattle.verified_code.specs.Steps.{Function}
use Rattle.code_runs.specs.Dealt.{Dealt}
use Rattle.code_runs.specs.Runs.{messages, scripts, shares}
use Rattle.code_runs.specs.ClientTold.{told_together}
use Rattle.code_runs.proofs.Together.{told_together_are_the_events}
use Rattle.miner_core.specs.OwnCode.{Ended as AtEnd}
use Rattle.miner_runs.specs.OwnRuns.{OwnRunAsReported, own_end, own_nodes, public_world}
use Rattle.link_schedule.specs.Answers.{net_walked}
use Rattle.link_schedule.specs.Net.{NetState, Own, after, net_mail, net_node, nodes_in}
use Rattle.link_schedule.specs.Orders.{IsMade, Makes}
use Rattle.program_run.specs.Reports.{TellsAs}
use Rattle.program_run.specs.declared.running.RunReport.{RunReport}
use Rattle.link_schedule.specs.Streams.{MayHave, with_tapes}
use Rattle.counted_net.specs.declared.delivery.DeliveryErr.TheVariants as err
use Rattle.delivered_run.specs.declared.errors.CourseErr.{CourseErr}
use Rattle.delivered_run.specs.declared.errors.CourseErr.TheVariants as course
use Rattle.delivered_run.specs.States.{RunState}
use Rattle.delivered_run.specs.Courses.{HasNetRun, IsAtItsEnd}
use Rattle.delivered_run.specs.Deliveries.{IsOr}
use Rattle.delivered_run.specs.Nets.{Delivers, HasTold, StopsAt, net_with}
use Rattle.delivered_run.proofs.Made.{order_made}

module _ (o : Offered) (d : Dealt) (c : List Function) (budget : ℕ) (tapes : Tapes) (r : Report) (run : OwnRunAsReported o d c budget tapes r) where
  -- what a miner is made with
  abbrev pub own_of : Number → Own
  own_of i = record { dealt = d.shares i; tape = tapes i }

  abbrev pub at_first : NetState
  at_first = net_with (public_world o) c budget (own_of One) (own_of Two) (own_of Three)

  abbrev own : Number → Strand AtEnd
  own = own_nodes o d c budget tapes

  same_nodes : nodes_in at_first ≡ own
  same_nodes e i = each i e
    where
      each : (i : Number) → nodes_in at_first i ≡ own i
      each One = refl
      each Two = refl
      each Three = refl

  abbrev behind : List Link → Mail
  behind links = all_delivered own nothing links

  -- these were delivered, and nothing is to come
  pub record Came (links : List Link) (then : NetState) : Type 0 where
    pub comes : then ≡ after at_first links
    pub taken : walked own 0 nothing links ≡ Accepted

  -- ---- DELIVERIES

  walked_so : (links : List Link) (answer : Answer) → net_walked at_first links ≡ answer → walked own 0 nothing links ≡ answer
  unfolding net_mail
  walked_so links answer is = sym (ap (λ (n : Number → Strand AtEnd). walked n 0 nothing links) same_nodes) ∙ is

  made_so : (words : ℕ → ℕ) (then : NetState) (m : Makes words at_first then) → order_of (scripts d r) (Shuffled words) ≡ m.order
  unfolding net_mail
  made_so words then m =
      order_made own (scripts d r) (messages d r tapes) (own_end d tapes r run.turns.last) run.finishes run.posted_count words m.order
      (subst (λ (n : Number → Strand AtEnd). IsMade n words 0 nothing m.order) same_nodes m.made)

  made_came : (words : ℕ → ℕ) (then : NetState) → Makes words at_first then → Came (order_of (scripts d r) (Shuffled words)) then
  made_came words then m = record { comes = m.comes ∙ ap (after at_first) (sym (made_so words then m)); taken = run.shuffled words }

  came : (given : Delivery) (then : NetState) → Delivers given at_first then (Ok tt) → Came (order_of (scripts d r) given) then
  came Default then m = record { comes = m.comes ∙ ap (after at_first) (sym (made_so (λ k. 0) then m)); taken = run.in_order }
  came (Listed links) then h = record { comes = h.1; taken = walked_so links Accepted h.0 }
  came (Shuffled words) then m = made_came words then m

  accepted : (given : Delivery) (then : NetState) → Delivers given at_first then (Ok tt) → net (scripts d r) given ≡ Accepted
  accepted given then h = sym (delivery_is_counted run given) ∙ (came given then h).taken

  -- ---- WHERE NOTHING IS TO COME

  module _ (links : List Link) (then : NetState) (all : Came links then) where
    complete : IsComplete own (messages d r tapes) (own_end d tapes r run.turns.last) (behind links)
    complete = run.complete links all.taken

    node_so : (i : Number) → net_node then i ≡ run_of own (behind links) i
    unfolding net_mail
    node_so i =
        ap (λ (n : NetState). net_node n i) all.comes
        ∙ ap (λ (n : Number → Strand AtEnd). run_of n (all_delivered n nothing links) i) same_nodes

    pub going : then.lost ≡ false
    going = ap (λ (n : NetState). n.lost) all.comes

    budget_so : then.budget ≡ budget
    budget_so = ap (λ (n : NetState). n.budget) all.comes

    pub delivered_so : then.delivered ≡ links
    delivered_so = ap (λ (n : NetState). n.delivered) all.comes

    stops_there : StopsAt then run.turns.last
    stops_there = record {
      values = shares d r tapes One;
      left = ap (λ (q : _). q.left) (node_so One) ∙ complete.ended One;
      ending = run.turns.stops.ending;
      ended = run.turns.stops.ended;
    }

    -- with all messages they do what they do with the run's
    mail_so : behind links ≡ messages d r tapes
    mail_so e l = complete.came l e

    told_so : told_together (λ i. told_in (net_node then i).acts) ≡ r.events
    told_so =
        ap told_together (λ e. λ i. told_in (node_so i e).acts)
        ∙ ap (λ (m : Mail). told_together (λ i. told_in (run_of own m i).acts)) mail_so
        ∙ told_together_are_the_events r.events (λ i. told_in (run_of own (messages d r tapes) i).acts) run.told

    node_at_end : (i : Number) → net_node then i ≡ run_of own (messages d r tapes) i
    node_at_end i = node_so i ∙ ap (λ (m : Mail). run_of own m i) mail_so

    pub tells : (told : RunReport) → HasTold then told → TellsAs r told
    tells told h =
        let stops = run.turns.stops in
        record {
          events = h.events ∙ told_so;
          stop = stops.stop ∙ ap Ended (same_Some _ _ (sym stops.ended ∙ h.how run.turns.last stops_there));
          cost = h.cost run.turns.last stops_there ∙ ap (λ n. n - run.turns.last.stage.left) budget_so ∙ stops.cost;
        }

  -- ---- ANSWERS

  at_its_end : (given : Delivery) (then : NetState) → Delivers given at_first then (Ok tt) → IsAtItsEnd o d c budget tapes r given then
  at_its_end given then h =
      let links = order_of (scripts d r) given in
      let all = came given then h in
      record {
        own = run;
        going = going links then all;
        steps = budget_so links then all;
        delivered = delivered_so links then all;
        node = node_at_end links then all;
      }

  pub has_net_run : (given : Delivery) (then : NetState) (ran : RunState) → Delivers given at_first then (Ok tt) → with_tapes ran.net tapes ≡ then
      → MayHave ran.net tapes → HasTold then ran.run.report → ran.run.delivered.items ≡ then.delivered → HasNetRun o d c budget tapes r given ran
  has_net_run given then ran h stands may told delivered = record {
    run = record {
      accepted = accepted given then h;
      told = tells (order_of (scripts d r) given) then (came given then h) ran.run.report told;
      delivered = delivered ∙ delivered_so (order_of (scripts d r) given) then (came given then h);
    };
    may = may;
    net = subst (IsAtItsEnd o d c budget tapes r given) (sym stands) (at_its_end given then h);
  }

  refused_listed : (links : List Link) (answer : Answer) → net_walked at_first links ≡ answer → net (scripts d r) (Listed links) ≡ answer
  refused_listed links answer is = sym (delivery_is_counted run (Listed links)) ∙ walked_so links answer is

  pub is_refused : {A : Type 0} (Q : A → Type 0) (given : Delivery) (then : NetState) (e : CourseErr) → Delivers given at_first then (Err e)
      → IsOr d r given Q (Err e)
  is_refused Q given then course.TapeFault h = tt
  is_refused Q given then (course.Delivery err.Memory) h = tt
  is_refused Q (Listed links) then (course.Delivery (err.EmptyLink entry link sent)) h = refused_listed links (EmptyLink entry link sent) h
  is_refused Q (Listed links) then (course.Delivery (err.Stalled miner link)) h = refused_listed links (Stalled miner link) h
  is_refused Q Default then (course.Delivery (err.EmptyLink entry link sent)) h = absurd h
  is_refused Q Default then (course.Delivery (err.Stalled miner link)) h = absurd h
  is_refused Q (Shuffled words) then (course.Delivery (err.EmptyLink entry link sent)) h = absurd h
  is_refused Q (Shuffled words) then (course.Delivery (err.Stalled miner link)) h = absurd h
