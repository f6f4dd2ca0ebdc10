-- What a view has received on a link is what three miners send there.
use Rattle.std.proofs.Common.{◌≡◌, ℕ, Bool, List, [], ◌∷◌, map, if◌then◌else◌, Some, None, refl, sym, ◌∙◌, ap, subst}
use Rattle.std.proofs.lemmas.Bool.{le-leb}
use Rattle.proto_core.specs.declared.party.Number.{Number}
use Rattle.proto_core.specs.declared.link.Link.{Link}
use Rattle.proto_core.specs.Parties.{receiver_of}
use Rattle.proto_core.specs.Net.{all_delivered, nothing}
use Rattle.proto_core.specs.Strand.{Mail, Strand, same_link}
use Rattle.protocol_model.specs.Arrivals.{Arrival, arrivals, arrived}
use Rattle.protocol_model.specs.Gates as model
use Rattle.protocol_model.specs.Gates.{gates_script}
use Rattle.protocol_model.specs.Network.{Accepted, Delivery, order_of, walked}
use Rattle.protocol_model.specs.Runs.{run_messages}
use Rattle.value_file.specs.declared.inputs.Entry.{Entry}
use Rattle.tape_file.specs.Tapes.{FourTapes}
use Rattle.program_trees.specs.TypedPrograms.{TypedProgramTree}
use Rattle.language_model.specs.Effects as effects
use Rattle.language_model.specs.Effects.{RunStop}
use Rattle.language_model.specs.Reports.{Report}
use Rattle.verified_code.specs.Settled.{settled}
use Rattle.view_text.specs.View.{View}
use Rattle.view_model.specs.Seen.{Seen, seen_by}
use Rattle.view_model.specs.TapeMaps.{miners_of, no_values, gates_dealt}
use Rattle.code_places.specs.Dealt.{Dealt}
use Rattle.code_runs.specs.Runs.{gates_to_run, messages, scripts}
use Rattle.program_run.specs.Accepted.{IsAccepted}
use Rattle.program_run.specs.Dealt.{CanBeDealt}
use Rattle.program_run.specs.Inputs.{dealt_of}
use Rattle.program_run.specs.Offers.{offered}
use Rattle.program_run.specs.RawCodes.{raw_code_of_program}
use Rattle.program_run.specs.Reports.{eval_with}
use Rattle.program_views.specs.Views.{lengths_of, nothing_seen, received, run_on, seen_of, view_at, view_of}
use Rattle.viewed_run.specs.Deliveries.{net_of}
use Rattle.viewed_run.specs.Programs.{OwnRunsOnShares}
use Rattle.viewed_run.proofs.Agreeing.{gates_same}
use Rattle.viewed_run.proofs.Programs.{own_runs_where_accepted}
use Rattle.miner_core.specs.OwnCode.{Ended}
use Rattle.miner_runs.specs.OwnRuns.{OwnRunAsReported, own_nodes}
use Rattle.net_laws.specs.LinkMessages.{HasItsMessages, received_on}
use Rattle.net_laws.proofs.Arriving.{arrived_on, comes_whole}

on_received : (l : Link) (arrivals : List Arrival) → received_on l (map received arrivals) ≡ arrived_on l arrivals
on_received l [] = refl
on_received l (a ∷ more) =
    ap (λ rest. if same_link a.link l then a.message ∷ rest else rest) (on_received l more)

some_is : (v view : View) → Some v ≡ Some view → v ≡ view
some_is v view e = cc

none_is : {X : Type 0} (view : View) → None ≡ Some view → X
none_is view e = cc

module _ (l : Link) (p : TypedProgramTree) (entries : List Entry) (t : FourTapes) (budget : ℕ) (delivery : Delivery) (a : IsAccepted p)
    (can : CanBeDealt entries t) (taken : net_of p entries t budget delivery ≡ Accepted) where
  abbrev r : Report
  r = eval_with p entries t budget

  abbrev d : Dealt
  d = dealt_of entries t.dealer

  abbrev full : Mail
  full = messages d r (miners_of t)

  abbrev order : List Link
  order = order_of (scripts d r) delivery

  abbrev gates : List model.Gate
  gates = gates_dealt entries t.dealer r.gates

  abbrev seen : Seen
  seen = seen_by (receiver_of l) entries r.gates t delivery

  -- ---- what comes on the link is all that is sent there

  runs : OwnRunsOnShares p entries t budget
  runs = own_runs_where_accepted p entries t budget a can

  module _ (nodes : Number → Strand Ended)
      (run : OwnRunAsReported (offered entries (lengths_of t)) d (settled (raw_code_of_program p runs.reached)) budget (miners_of t) r)
      (are : own_nodes (offered entries (lengths_of t)) d (settled (raw_code_of_program p runs.reached)) budget (miners_of t) ≡ nodes) where
    accepts : walked nodes 0 nothing order ≡ Accepted
    accepts = subst (λ (n : Number → Strand Ended). walked n 0 nothing order ≡ Accepted) are (run.counted_from order 0 nothing (λ k. tt) ∙ taken)

    comes : arrived nodes (receiver_of l) nothing order ≡ arrivals (receiver_of l) full order
    comes = subst (λ (n : Number → Strand Ended). walked n 0 nothing order ≡ Accepted → arrived n (receiver_of l) nothing order ≡ arrivals (receiver_of l) full order)
        are (run.arrive (receiver_of l) order) accepts

    came : all_delivered nodes nothing order l ≡ full l
    came = subst (λ (n : Number → Strand Ended). walked n 0 nothing order ≡ Accepted → all_delivered n nothing order l ≡ full l)
        are (λ accepted. (run.complete order accepted).came l) accepts

    all_on_it : arrived_on l (arrivals (receiver_of l) full order) ≡ full l
    all_on_it = ap (arrived_on l) (sym comes) ∙ comes_whole nodes (receiver_of l) l refl nothing order ∙ came

  sent : arrived_on l (arrivals (receiver_of l) full order) ≡ full l
  sent = all_on_it _ runs.run refl

  -- ---- and the view has it

  is_seen_so : seen_of (receiver_of l) entries t delivery r ≡ seen
  is_seen_so = ap (λ b. if b then seen else nothing_seen) (le-leb _ _ can.suffice.enough)

  seen_got : seen.got ≡ arrivals (receiver_of l) full order
  seen_got =
      ap (λ (gs : List model.Gate). arrivals (receiver_of l) (run_messages gs no_values (miners_of t)) (order_of (λ k. gates_script k gs) delivery))
      (sym (gates_same entries t r))

  seen_on_it : received_on l (map received (seen_of (receiver_of l) entries t delivery r).got) ≡ full l
  seen_on_it =
      ap (λ (s : Seen). received_on l (map received s.got)) is_seen_so ∙ on_received l seen.got ∙ ap (arrived_on l) seen_got ∙ sent

  pub has_them : (view : View) → view_of (receiver_of l) p entries t budget delivery ≡ Some view → received_on l view.got ≡ full l
  has_them view = by_stop r.stop
    where
      by_stop : (stop : RunStop) → view_at (receiver_of l) (seen_of (receiver_of l) entries t delivery r) r stop ≡ Some view
          → received_on l view.got ≡ full l
      by_stop (effects.Ended ending) e = ap (λ (v : View). received_on l v.got) (sym (some_is _ view e)) ∙ seen_on_it
      by_stop effects.Short e = none_is view e

pub has_its_messages : (l : Link) (p : TypedProgramTree) (entries : List Entry) (t : FourTapes) (budget : ℕ) (delivery : Delivery)
    → HasItsMessages l p entries t budget delivery
has_its_messages l p entries t budget delivery a can taken view e = has_them l p entries t budget delivery a can taken view e
