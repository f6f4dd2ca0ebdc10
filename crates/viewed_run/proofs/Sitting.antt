-- What a miner saw by what its view is made of, it saw in its net.
use Rattle.std.proofs.Common.{◌≡◌, ◌≤◌, ℕ, List, length, map, take, drop, sym, ◌∙◌, ap, subst}
use Rattle.std.specs.Prelude.{None}
use Rattle.std.proofs.lemmas.List.{take-append-le}
use Rattle.sc_text.specs.declared.elements.Element.{Element}
use Rattle.sc_text.specs.declared.end.End.{End}
use Rattle.proto_core.specs.declared.party.Number.{Number}
use Rattle.proto_core.specs.Parties.{from_previous, from_next}
use Rattle.proto_core.specs.Strand.{Act, Mail, Strand, told_in}
use Rattle.protocol_model.specs.Arrivals.{arrivals}
use Rattle.protocol_model.specs.Runs.{Tapes}
use Rattle.shared_gates.specs.Model.{miner_of}
use Rattle.input_share.specs.ShareFile.{MinerFile}
use Rattle.gate_laws.specs.Dealt.{drawn_by}
use Rattle.gate_node.specs.Nodes.{IsTapeOf}
use Rattle.miner_core.specs.OwnCode.{Ended}
use Rattle.miner_core.specs.Places.{Place}
use Rattle.miner_core.specs.Story.{at_stop_or, drawn_in, has_told, node}
use Rattle.miner_core.specs.Miners.{held}
use Rattle.miner_core.specs.Streams.{StreamState, ForEachTape, with_tape}
use Rattle.view_text.specs.View.{InputShare, Received, View}
use Rattle.program_views.specs.Views.{input_shares, received}
use Rattle.viewed_run.specs.CodeViews.{shown_in}
use Rattle.link_schedule.specs.Net.{net_node, net_posted}
use Rattle.link_schedule.specs.Streams.{StreamNet, MayHave, with_tapes}
use Rattle.delivered_run.proofs.Netting.{own_tape}
use Rattle.viewed_run.specs.declared.seat.Seat.{Seat}
use Rattle.viewed_run.specs.Seats.{Drew, EndsSo, Sees, SeesFrom, SeesIn, Sits}

module _ {P : Type 0} (i : Number) (net : StreamNet) (file : MinerFile) (seat : Seat P) (sits : Sits i net file seat) where
  -- with all three tapes that the net may have
  pub sees_in : (v : View) → SeesFrom i seat v → (going : net.lost ≡ None) (tapes : Tapes) (may : MayHave net tapes)
      → SeesIn (with_tapes net tapes) i file (tapes i) v
  sees_in v sees going tapes may =
      let n = with_tapes net tapes in
      let m = sits.miner going in
      let at = m.at tapes may in
      let s = with_tape (held seat.miner.now) (tapes i) in
      let told = told_in (node i s).acts in
      let left = (node i s).left in
      subst (λ links. Sees i n.budget file (tapes i) (told_in (net_node n i).acts) (net_node n i).left (net_posted n) links v) sits.order
      (subst (λ (l : Strand Ended). Sees i n.budget file (tapes i) (told_in (net_node n i).acts) l (net_posted n) seat.order.now v) at.left
      (subst (λ (a : List Act). Sees i n.budget file (tapes i) (told_in a) left (net_posted n) seat.order.now v) at.acts
      (subst (λ f. Sees i n.budget f (tapes i) told left (net_posted n) seat.order.now v) sits.dealt
      (subst (λ b. Sees i b seat.file.now (tapes i) told left (net_posted n) seat.order.now v) at.budget
      (sees m.going (tapes i) (own_tape net i (held seat.miner.now) m tapes may) (net_posted n) (sym (sits.previous going tapes may))
      (sym (sits.next going tapes may)))))))

-- ---- the words that were drawn

-- those of the front of a tape are the front of the words that it begins with
front_so : (drawn : List ℕ) (ahead : ℕ) (tape : List ℕ) (count : ℕ) → IsTapeOf drawn ahead tape → count ≤ length drawn → take count drawn ≡ take count tape
front_so drawn ahead tape count of few = sym (ap (take count) of.begins ∙ take-append-le count drawn (drop (length drawn) tape) few)

pub drew_so :
    (i : Number) (m : StreamState) (words : List ℕ) (count : ℕ) (front : List ℕ) → words ≡ m.story.tape
    → ForEachTape m (λ s. count ≡ drawn_in i s)
    → count ≤ length words → front ≡ take count words → ForEachTape m (λ s. Drew i s front)
drew_so i m words count front are counted few is going tape of p s =
    is ∙ ap (take count) are ∙ front_so m.story.tape m.ahead tape count of (subst (λ (w : List ℕ). count ≤ length w) are few)
    ∙ ap (λ n. take n tape) (counted going tape of ∙ ap (at_stop_or 0 (λ (q : Place). drawn_by q.stage.drawn (miner_of i))) s.at_end)

-- ---- a view of what was found

module _ {P : Type 0} (i : Number) (seat : Seat P) where
  abbrev CameTo : Number → List Received → Type 0
  CameTo k got =
      (mail : Mail) → mail (from_previous k) ≡ seat.previous.now → mail (from_next k) ≡ seat.next.now
      → got ≡ map received (arrivals k mail seat.order.now)

  pub sees_from :
      (m : Number) (inputs : List InputShare) (drew : List ℕ) (got : List Received) (opened : List (List Element)) (end : End) (v : View)
      → v ≡ record { miner = m; inputs = inputs; drew = drew; got = got; opened = opened; end = end } → m ≡ i
      → inputs ≡ input_shares seat.file.now.entries → ForEachTape (held seat.miner.now) (λ s. Drew i s drew)
      → CameTo m got → ForEachTape (held seat.miner.now) (λ s. opened ≡ shown_in (has_told i s)) → ForEachTape (held seat.miner.now) (λ s. EndsSo i s end)
      → SeesFrom i seat v
  sees_from m inputs drew got opened end v is same as_dealt as_drawn as_came as_told ends going tape of mail previous next =
      let s = with_tape (held seat.miner.now) tape in
      subst
      (λ (x : View). Sees i s.budget seat.file.now tape (has_told i s) (node i s).left mail seat.order.now x) (sym is)
      (record {
        miner = same;
        inputs = as_dealt;
        drew = as_drawn going tape of;
        got = subst (λ k. CameTo k got) same as_came mail previous next;
        opened = as_told going tape of;
        how = (ends going tape of).how;
        cost = (ends going tape of).cost;
      })
