-- A node whose miner has nothing to do, beside that of a run which has ended before it began.
use Rattle.std.proofs.Common.{◌≡◌, ℕ, List, Option, Some, None, refl, sym, ap, ◌∙◌, subst}
use Rattle.sc_text.specs.declared.end.Ending.{Ending}
use Rattle.proto_core.specs.declared.party.Number.{Number}
use Rattle.proto_core.specs.Parties.{count_of}
use Rattle.proto_core.specs.Strand.{Act, Strand, Ends}
use Rattle.outside.specs.Links.{LinksState}
use Rattle.served_bytes.specs.Front.{Front, Whole, Malformed, Truncated}
use Rattle.verified_code.specs.Settled.{settled}
use Rattle.view_model.specs.Dealing.{private_shares}
use Rattle.own_code.specs.OwnCode.{Ended}
use Rattle.node_run.proofs.Idling.{idles_at_once}
use Rattle.miner_core.specs.Story.{Story, strand_in}
use Rattle.wire.specs.declared.fields.Hello.{Hello}
use Rattle.wire.specs.declared.fields.Field.{Field}
use Rattle.wire.specs.Hellos.{greeted, first_difference}
use Rattle.miner_node.specs.declared.node_err.NodeErr.{NodeErr}
use Rattle.miner_node.specs.declared.node_err.NodeErr.TheVariants as stop
use Rattle.miner_node.specs.Order.{IsDue}
use Rattle.miner_node.specs.Peers.{lower_peer, higher_peer, with_peer}
use Rattle.miner_node.specs.Serving.{Outcome, Finished, Mismatch, NoFrame, Refused, CutOff, Greeting, Agreed, Stops, Serving}
use Rattle.miner_node.specs.Serving.{hello_from, compared, at_hello, heard, then_hear, greeting, after_greeting, serving, bytes_to_next, bytes_to_previous}
use Rattle.miner_node.specs.Answers.{IsStop}
use Rattle.miner_node.specs.Serves.{HasStopped}
use Rattle.miner_node.proofs.Faulting.{fault_so}
use Rattle.node_run.specs.Made.{ended_first, first_story, run_code, share_world, unless_undealt}
use Rattle.node_run.specs.Nodes.{Own, own_hello, HasStoppedOf}

-- ---- NO RUN ENDS BY A HELLO

abbrev pub IsOther : Outcome → Type 0
IsOther (Finished e) = ⊥
IsOther (Mismatch field mine theirs) = Unit {0}
IsOther (NoFrame place) = Unit {0}
IsOther (Refused link cause) = Unit {0}
IsOther CutOff = Unit {0}

abbrev Goes : Greeting → Type 0
Goes (Agreed coming) = Unit {0}
Goes (Stops outcome) = IsOther outcome

compared_goes : (mine theirs : Hello) (field : Option Field) (rest : ℕ → List ℕ) → Goes (compared mine theirs field rest)
compared_goes mine theirs None rest = tt
compared_goes mine theirs (Some field) rest = tt

hello_goes : (mine : Hello) (peer : ℕ) (coming : ℕ → List ℕ) (f : Front Hello) → Goes (at_hello mine peer coming f)
hello_goes mine peer coming (Whole theirs rest) = compared_goes mine theirs (first_difference mine theirs) (with_peer peer rest coming)
hello_goes mine peer coming (Malformed place) = tt
hello_goes mine peer coming Truncated = tt

heard_goes : (hello : Hello) (peer : Number) (coming : ℕ → List ℕ) → Goes (heard hello peer coming)
heard_goes hello peer coming = hello_goes (hello_from hello peer) (count_of peer) coming (greeted (coming (count_of peer)))

then_goes : (hello : Hello) (peer : Number) (g : Greeting) → Goes g → Goes (then_hear hello peer g)
then_goes hello peer (Agreed coming) h = heard_goes hello peer coming
then_goes hello peer (Stops outcome) h = h

greeting_goes : (i : Number) (hello : Hello) (coming : ℕ → List ℕ) → Goes (greeting i hello coming)
greeting_goes i hello coming = then_goes hello (higher_peer i) (heard hello (lower_peer i) coming) (heard_goes hello (lower_peer i) coming)

-- ---- TWO NODES WITH NOTHING TO DO

-- they do the same, and come to the same, but for where their runs end
pub record AreAlike (r q : Serving) (ends : Ended → Ended) : Type 0 where
  pub acts : r.acts ≡ q.acts
  pub finished : (e : Ended) → r.outcome ≡ Finished e → q.outcome ≡ Finished (ends e)
  pub other : (o : Outcome) → IsOther o → r.outcome ≡ o → q.outcome ≡ o

over_alike : (i : Number) (g : Greeting) (one two : Ended) → Goes g
    → AreAlike (after_greeting i (Ends one) g) (after_greeting i (Ends two) g) (λ e. two)
over_alike i (Agreed coming) one two h =
    record { acts = refl; finished = λ e is. refl; other = λ o ok is. absurd (subst IsOther (sym is) ok) }
over_alike i (Stops outcome) one two h = record { acts = refl; finished = λ e is. absurd (subst IsOther is h); other = λ o ok is. is }

-- ---- THE MINER THAT IS MADE, AND THE ONE THAT IS TOLD OF

module _ (i : Number) (own : Own) where
  abbrev pub made : Option Ending → Story
  made u = first_story (run_code u own.code) own.share own.tape own.budget

  abbrev pub told_of : Option Ending → Strand Ended
  told_of u = unless_undealt u i (first_story own.code own.share own.tape own.budget)

  abbrev pub ends_by : Option Ending → Ended → Ended
  ends_by None e = e
  ends_by (Some how) e = ended_first how (settled own.code) own.budget

  module _ (coming : ℕ → List ℕ) where
    abbrev pub served_by : Option Ending → Serving
    served_by u = serving i (own_hello i own) (strand_in i (made u)) coming

    abbrev pub wanted_of : Option Ending → Serving
    wanted_of u = serving i (own_hello i own) (told_of u) coming

    pub are_alike : (u : Option Ending) → AreAlike (served_by u) (wanted_of u) (ends_by u)
    are_alike None = record { acts = refl; finished = λ e is. is; other = λ o ok is. is }
    are_alike (Some how) =
        let idle = idles_at_once (share_world own.share) i (private_shares own.share.entries) own.tape own.budget in
        let two = ended_first how (settled own.code) own.budget in
        subst (λ (s : Strand Ended). AreAlike (serving i (own_hello i own) s coming) (wanted_of (Some how)) (λ e. two)) (sym idle.1)
        (over_alike i (greeting i (own_hello i own) coming) idle.0 two (greeting_goes i (own_hello i own) coming))

  -- a byte that is due of the one is due of the other
  pub due_alike : (u : Option Ending) (given came : ℕ → List ℕ) (p : ℕ) → IsDue i (own_hello i own) (strand_in i (made u)) given came p
      → IsDue i (own_hello i own) (told_of u) given came p
  due_alike None given came p h = h
  due_alike (Some how) given came p h =
      let idle = idles_at_once (share_world own.share) i (private_shares own.share.entries) own.tape own.budget in
      let two = ended_first how (settled own.code) own.budget in
      let k = subst (λ (s : Strand Ended). IsDue i (own_hello i own) s given came p) idle.1 h in
      let acts = (over_alike i (greeting i (own_hello i own) came) idle.0 two (greeting_goes i (own_hello i own) came)).acts in
      record {
        is_awaited = k.is_awaited;
        to_next = k.to_next ∙ ap (bytes_to_next i (own_hello i own)) acts;
        to_previous = k.to_previous ∙ ap (bytes_to_previous i (own_hello i own)) acts;
      }

  -- why the made one stopped is why the other does
  module _ (a c : LinksState) where
    by_cause : (u : Option Ending) (next previous : List ℕ) (e : NodeErr)
        → IsStop i a c (served_by a.coming u).outcome next previous e → IsStop i a c (wanted_of a.coming u).outcome next previous e
    by_cause u next previous stop.LinkFault h = (fault_so h.0 (λ why t. (are_alike a.coming u).other CutOff tt (why t)), h.1)
    by_cause u next previous (stop.PeerMismatch field mine theirs) h =
        λ t. ((are_alike a.coming u).other (Mismatch field mine theirs) tt (h t).0, (h t).1)
    by_cause u next previous (stop.BadFrame place) h = λ t. ((are_alike a.coming u).other (NoFrame place) tt (h t).0, (h t).1)
    by_cause u next previous (stop.BadMessage link cause) h = λ t. ((are_alike a.coming u).other (Refused link cause) tt (h t).0, (h t).1)
    by_cause u next previous stop.Memory h = h

    pub stops_alike : (u : Option Ending) (e : NodeErr) → HasStopped i (own_hello i own) a c (made u) e
        → HasStoppedOf i own a c (wanted_of a.coming u) e
    stops_alike u e h =
        subst
        (λ (acts : List Act).
        IsStop i a c (wanted_of a.coming u).outcome (bytes_to_next i (own_hello i own) acts) (bytes_to_previous i (own_hello i own) acts) e)
        (are_alike a.coming u).acts
        (by_cause u (bytes_to_next i (own_hello i own) (served_by a.coming u).acts) (bytes_to_previous i (own_hello i own) (served_by a.coming u).acts) e h)
