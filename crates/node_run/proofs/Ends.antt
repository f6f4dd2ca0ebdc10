-- The text of a node that has served its links.
use Rattle.std.proofs.Common.{◌≡◌, ◌-◌, ℕ, List, Option, Some, None, true, sym, ap, ◌∙◌, subst, arith}
use Rattle.outside.specs.Links.{LinksState}
use Rattle.sc_text.specs.declared.end.End.{End}
use Rattle.sc_text.specs.declared.end.Ending.{Ending}
use Rattle.proto_core.specs.declared.party.Number.{Number}
use Rattle.proto_core.specs.Strand.{Act, Strand, Ends}
use Rattle.driven_nodes.specs.Steps.{Running, Stopped, Short}
use Rattle.own_code.specs.OwnCode.{Ended, Reached, Unfit}
use Rattle.miner_core.specs.declared.answer.End.TheVariants as over
use Rattle.miner_core.specs.Places.{Place}
use Rattle.miner_core.specs.Story.{Story, at_stop_or, cost_in, IsEnd, HasEnded, node}
use Rattle.miner_node.specs.Peers.{Sends}
use Rattle.miner_node.specs.Serving.{bytes_to_next, bytes_to_previous}
use Rattle.miner_node.specs.Serves.{HasServed}
use Rattle.node_run.specs.declared.running.NodeText.{NodeText}
use Rattle.node_run.specs.Nodes.{Own, own_hello, ended_at, end_in, node_text, HasTextOf, HasTold}
use Rattle.node_run.proofs.Idles.{made, ends_by, wanted_of, are_alike}

none_left : (n : ℕ) → n - n ≡ 0
none_left n = omega arith

-- the run ends where the miner's does
ends_there : (i : Number) (s : Story) (ending : Ending) (end : End) (e : Ended) → (node i s).left ≡ Ends e → IsEnd e (over.Over ending)
    → end.how ≡ ending → end.cost ≡ cost_in i s → end_in s.budget e ≡ Some end
ends_there i s ending end (Reached (Stopped p) values) left is how cost =
    ap (λ (h : Option Ending). ended_at h (s.budget - p.stage.left)) is
    ∙ ap (λ (h : Ending). Some (record { how = h; cost = s.budget - p.stage.left })) (sym how)
    ∙ ap (λ (c : ℕ). Some (record { how = end.how; cost = c })) (sym (cost ∙ ap (at_stop_or 0 (λ (q : Place). s.budget - q.stage.left)) left))
ends_there i s ending end (Reached (Running p) values) left is how cost = absurd is
ends_there i s ending end (Reached (Short p) values) left is how cost = absurd is
ends_there i s ending end Unfit left is how cost = absurd is

module _ (i : Number) (own : Own) (a c : LinksState) (s : Story) (ending : Ending) (told : NodeText) where
  ends_so : (u : Option Ending) (e : Ended) → (node i s).left ≡ Ends e → HasEnded (node i s).left (over.Over ending) → s.budget ≡ own.budget
      → HasTold i u s ending told → end_in own.budget (ends_by i own u e) ≡ Some told.end
  ends_so None e left ended steps h =
      subst (λ (n : ℕ). end_in n e ≡ Some told.end) steps
      (ends_there i s ending told.end e left (subst (λ (v : Strand Ended). HasEnded v (over.Over ending)) left ended) h.ended h.cost)
  ends_so (Some how) e left ended steps h =
      ap (λ (n : ℕ). Some (record { how = how; cost = n })) (none_left own.budget) ∙ ap (λ (end : End). Some end) (sym h.undealt_so)

  pub has_text : (u : Option Ending) → HasServed i (own_hello i own) a c (made i own u) s ending → HasTold i u s ending told
      → a.told ≡ true → HasTextOf i own a c (wanted_of i own a.coming u) told
  has_text u h is t =
      let alike = are_alike i own a.coming u in
      let done = h.served t in
      record {
        last = ends_by i own u done.outcome.0;
        outcome = alike.finished done.outcome.0 done.outcome.2;
        end = ends_so u done.outcome.0 done.outcome.1 h.ended (ap (λ (v : Story). v.budget) h.task) is;
        text = is.text ∙ ap (λ (acts : List Act). node_text acts told.end) (sym done.acts ∙ alike.acts);
        sent =
            subst
            (λ (acts : List Act). Sends i a.sent c.sent (bytes_to_next i (own_hello i own) acts) (bytes_to_previous i (own_hello i own) acts))
            alike.acts
            (h.sent t);
      }
