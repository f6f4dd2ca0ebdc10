-- What a run of a node answers.
use Rattle.std.proofs.Common.{◌≡◌, ℕ, List, ◌++◌, Option, Ok, Err, true, refl, sym, ap, ◌∙◌, subst, inl, Result}
use Rattle.outside.specs.Links.{LinksState, JoinedOrNot}
use Rattle.outside.proofs.Moves.{joined_as}
use Rattle.outside.specs.Tapes.{TapesState, faults_of}
use Rattle.sc_text.specs.declared.end.Ending.{Ending}
use Rattle.proto_core.specs.declared.party.Number.{Number}
use Rattle.proto_core.specs.Parties.{count_of}
use Rattle.proto_core.specs.Strand.{Act, Strand}
use Rattle.miner_core.specs.OwnCode.{Ended}
use Rattle.gate_node.specs.Nodes.{IsTapeOf}
use Rattle.miner_core.specs.declared.answer.Lost.{Lost}
use Rattle.miner_core.specs.declared.answer.Lost.TheVariants as lost
use Rattle.miner_core.specs.Drawing.{left_for, Draws}
use Rattle.miner_core.specs.Story.{Story, strand_in}
use Rattle.miner_core.specs.declared.kept.Kept.TheVariants.{All}
use Rattle.miner_core.specs.Streams.{StreamState, ForEachTape, with_tape, has_lost}
use Rattle.miner_core.proofs.Sources.{drew_more, rose_on}
use Rattle.wire.specs.declared.fields.Hello.{Hello}
use Rattle.node_run.specs.Made.{IsMadeOf, hello_of, made_story, undealt}
use Rattle.miner_node.specs.declared.node_err.NodeErr.{NodeErr}
use Rattle.miner_node.specs.declared.node_err.NodeErr.TheVariants as stop
use Rattle.miner_node.specs.declared.node_err.ServeErr.{ServeErr}
use Rattle.miner_node.specs.declared.node_err.ServeErr.TheVariants.{Node, TapeFault}
use Rattle.miner_node.specs.Order.{IsDue}
use Rattle.miner_node.specs.Peers.{SendsFronts}
use Rattle.miner_node.specs.Serving.{bytes_to_next, bytes_to_previous}
use Rattle.miner_node.specs.Serves.{HasServed, HasStopped}
use Rattle.miner_node.specs.Tapes.{IsReady, Serves}
use Rattle.node_run.specs.declared.running.NodeText.{NodeText}
use Rattle.node_run.specs.declared.running.OwnPart.{OwnPart}
use Rattle.node_run.specs.Nodes.{Own, own_hello, own_strand, HasTold, JoinsInOrder, JoinsAndServes, Runs, RunsFrom, unbegun as unbegun_by}
use Rattle.node_run.specs.Views.{own_seen}
use Rattle.node_run.proofs.Joins.{none_sent, all_sent}
use Rattle.node_run.proofs.Idles.{made, are_alike, due_alike, stops_alike}
use Rattle.node_run.proofs.Ends.{has_text}

module _ (i : Number) (own : Own) (a : LinksState) where
  -- memory ran out before the peers were joined
  pub unbegun : Runs i own a a (Err stop.Memory)
  unbegun = record { ok = tt; err = λ t. none_sent i a.sent a.sent _ _ refl }

  module _ (c : LinksState) where
    pub stops_so : (e : NodeErr) → HasStopped i (own_hello i own) a c (made i own (undealt own.share)) e → Runs i own a c (Err e)
    stops_so e h = record { ok = tt; err = stops_alike i own a c (undealt own.share) e h }

    module _ (s : Story) (ending : Ending) (h : HasServed i (own_hello i own) a c (made i own (undealt own.share)) s ending) where
      pub ends_so : (told : NodeText) → HasTold i (undealt own.share) s ending told → Runs i own a c (Ok told)
      ends_so told is = record { ok = has_text i own a c s ending told (undealt own.share) h is; err = tt }

      -- memory ran out for its text
      pub untold : Runs i own a c (Err stop.Memory)
      untold =
          record {
            ok = tt;
            err = λ t.
                subst
                (λ (acts : List Act).
                SendsFronts i a.sent c.sent (bytes_to_next i (own_hello i own) acts) (bytes_to_previous i (own_hello i own) acts))
                (are_alike i own a.coming (undealt own.share)).acts
                (all_sent i a.sent c.sent _ _ (h.sent t));
          }

-- ---- WITH THE HELLO AND THE MINER THAT WERE MADE

module _ (i : Number) (own : Own) (a c : LinksState) (hello : Hello) (miner : Story) (says : hello ≡ own_hello i own)
    (is : miner ≡ made i own (undealt own.share)) where
  pub run_stops : (e : NodeErr) → HasStopped i hello a c miner e → Runs i own a c (Err e)
  run_stops e h =
      stops_so i own a c e
      (subst (λ (m : Story). HasStopped i (own_hello i own) a c m e) is (subst (λ (v : Hello). HasStopped i v a c miner e) says h))

  module _ (s : Story) (ending : Ending) (h : HasServed i hello a c miner s ending) where
    served_so : HasServed i (own_hello i own) a c (made i own (undealt own.share)) s ending
    served_so =
        subst (λ (m : Story). HasServed i (own_hello i own) a c m s ending) is (subst (λ (v : Hello). HasServed i v a c miner s ending) says h)

    pub run_untold : Runs i own a c (Err stop.Memory)
    run_untold = untold i own a c s ending served_so

    pub run_ends : (u : Option Ending) → u ≡ undealt own.share → (told : NodeText) → HasTold i u s ending told → Runs i own a c (Ok told)
    run_ends u same told h = ends_so i own a c s ending served_so told (subst (λ (v : Option Ending). HasTold i v s ending told) same h)

-- ---- WHOSE TAPE IS DRAWN FROM A SOURCE

-- the miner could not be made
pub unbegun_from :
    {A : Type 0} (i : Number) (own : OwnPart) (port : ℕ) (s t : TapesState) (a : LinksState) (l : Lost) → Draws {A = A} i s t (Err l)
    → RunsFrom i (own_seen own) a a s t port (Err (unbegun_by l))
unbegun_from i own port s t a lost.Memory h =
    record {
      taken = h.drawn.taken;
      drew = h.drawn.drew;
      runs = λ tape of. unbegun i (own_seen own tape) a;
      joins = λ tape of told. inl (record { told = refl; moves = refl; sent = refl; coming = refl });
      fault = λ is. absurd cc;
      still = h.still;
    }
unbegun_from i own port s t a lost.TapeFault h =
    record {
      taken = h.drawn.taken;
      drew = h.drawn.drew;
      runs = λ tape of. unbegun i (own_seen own tape) a;
      joins = λ tape of told. inl (record { told = refl; moves = refl; sent = refl; coming = refl });
      fault = λ is. h.lost;
      still = h.still;
    }

module _ (i : Number) (own : OwnPart) (port : ℕ) (hello : Hello) (m : StreamState) (s t : TapesState)
    (says : hello ≡ hello_of i own.digest own.share own.budget) (h : IsMadeOf i own.code own.share own.budget s t m) where
  at_tape : (tape : List ℕ) → with_tape m tape ≡ made i (own_seen own tape) (undealt own.share)
  at_tape tape =
      ap (λ (v : Story). record v { tape = tape; lost = has_lost m.lost }) h.story
      ∙ ap (λ l. record (made_story own.code own.share tape own.budget) { lost = has_lost l }) h.going

  pub ready_so : m.past ≡ All → IsReady i m t
  ready_so kept =
      record {
        kept = kept;
        going = h.going;
        previous = ap (λ (v : Story). v.from_previous) h.story;
        next = ap (λ (v : Story). v.from_next) h.story;
        left = h.left;
      }

  module _ {A : Type 0} (a c : LinksState) (u : TapesState) (miner : A → StreamState) (ending : A → Ending)
      (still : s.steady ≡ true → t.steady ≡ true) where
    abbrev with_made : List ℕ → Strand Ended
    with_made tape = strand_in i (with_tape m tape)

    of_miner : (taken tape : List ℕ) → IsTapeOf (h.taken ++ taken) (left_for i u) tape → IsTapeOf (m.story.tape ++ taken) (left_for i u) tape
    of_miner taken tape of = subst (λ w. IsTapeOf (w ++ taken) (left_for i u) tape) (sym (ap (λ (v : Story). v.tape) h.story)) of

    joins_so : {r : Result A ServeErr} (k : JoinsAndServes i port hello a c t u m r miner ending) (tape : List ℕ)
        → IsTapeOf (h.taken ++ k.serves.taken) (left_for i u) tape → JoinsInOrder i (own_seen own tape) port a c
    joins_so k tape of told =
        let o = own_seen own tape in
        let by_made : JoinedOrNot (IsDue i hello (with_made tape)) (count_of i) port a c = k.joins tape (of_miner k.serves.taken tape of) told in
        joined_as (IsDue i hello (with_made tape)) (IsDue i (own_hello i o) (own_strand i o)) (count_of i) port a c
        (λ g' c' p due.
        due_alike i o (undealt own.share) g' c' p
        (subst (λ (st : Story). IsDue i (own_hello i o) (strand_in i st) g' c' p) (at_tape tape)
        (subst (λ (v : Hello). IsDue i v (with_made tape) g' c' p) says due)))
        by_made

    pub stops_from : (x : ServeErr) → JoinsAndServes i port hello a c t u m {A = A} (Err x) miner ending
        → RunsFrom i (own_seen own) a c s u port (Err x)
    stops_from (Node e) both =
        let k = both.serves in
        record {
          joins = joins_so both;
          taken = h.taken ++ k.taken;
          drew = drew_more s t u (count_of i) h.taken k.taken h.drew k.drew;
          runs = λ tape of.
              run_stops i (own_seen own tape) a c hello (with_tape m tape) says (at_tape tape) e (k.err tape (of_miner k.taken tape of));
          fault = λ is. absurd cc;
          still = λ st. k.still (still st);
        }
    stops_from TapeFault both =
        let k = both.serves in
        record {
          joins = joins_so both;
          taken = h.taken ++ k.taken;
          drew = drew_more s t u (count_of i) h.taken k.taken h.drew k.drew;
          runs = λ tape of.
              run_stops i (own_seen own tape) a c hello (with_tape m tape) says (at_tape tape) stop.Memory
              (k.err.0 tape (of_miner k.taken tape of));
          fault = λ is. record {
            rose = rose_on (faults_of s) (faults_of t) (faults_of u) h.drew.stands.read.later k.err.1.rose;
            unsteady = λ st. k.err.1.unsteady (still st);
          };
          still = λ st. k.still (still st);
        }

    module _ (x : A) (both : JoinsAndServes i port hello a c t u m (Ok x) miner ending) where
      abbrev k : Serves i hello a c t u m (Ok x) miner ending
      k = both.serves

      -- memory ran out for its text
      pub untold_from : RunsFrom i (own_seen own) a c s u port (Err (Node stop.Memory))
      untold_from =
          record {
            joins = joins_so both;
            taken = h.taken ++ k.taken;
            drew = drew_more s t u (count_of i) h.taken k.taken h.drew k.drew;
            runs = λ tape of.
                run_untold i (own_seen own tape) a c hello (with_tape m tape) says (at_tape tape) (with_tape (miner x) tape) (ending x)
                (k.ok.served tape (of_miner k.taken tape of));
            fault = λ is. absurd cc;
            still = λ st. k.still (still st);
          }

      of_last : (tape : List ℕ) → IsTapeOf (h.taken ++ k.taken) (left_for i u) tape → IsTapeOf (miner x).story.tape (miner x).ahead tape
      of_last tape of =
          subst (λ n. IsTapeOf (miner x).story.tape n tape) k.ok.gone.left
          (subst (λ w. IsTapeOf w (left_for i u) tape) (sym k.ok.gone.tape) (of_miner k.taken tape of))

      pub ends_from : (v : Option Ending) → v ≡ undealt own.share → (told : NodeText)
          → ForEachTape (miner x) (λ last. HasTold i v last (ending x) told) → RunsFrom i (own_seen own) a c s u port (Ok told)
      ends_from v same told is =
          record {
            joins = joins_so both;
            taken = h.taken ++ k.taken;
            drew = drew_more s t u (count_of i) h.taken k.taken h.drew k.drew;
            runs = λ tape of.
                run_ends i (own_seen own tape) a c hello (with_tape m tape) says (at_tape tape) (with_tape (miner x) tape) (ending x)
                (k.ok.served tape (of_miner k.taken tape of)) v same told (is k.ok.gone.going tape (of_last tape of));
            fault = λ wrong. absurd cc;
            still = λ st. k.still (still st);
          }
