-- A node that joins its peers before it serves its links.
use Rattle.std.proofs.Common.{◌≡◌, ℕ, List, [], ◌++◌, true, Option, Some, None, Result, Ok, Err, IfOk, IfErr, IfNone, refl, sym, ap, ◌∙◌, subst, inl}
use Rattle.outside.specs.declared.error.FileErr.{FileErr}
use Rattle.outside.specs.declared.error.FileErr.TheVariants as file_err
use Rattle.outside.specs.Causes.{HasCause, IsSteady, Rose}
use Rattle.outside.specs.Links.{LinksState, SameBytes, SameLinks, OneMore, joined}
use Rattle.outside.proofs.Moves.{did_join}
use Rattle.outside.specs.Tapes.{TapesState}
use Rattle.proto_core.specs.declared.party.Number.{Number}
use Rattle.proto_core.specs.Parties.{count_of, next_of, previous_of}
use Rattle.proto_core.proofs.Beginnings.{append-none, begins-self}
use Rattle.sc_text.specs.declared.end.Ending.{Ending}
use Rattle.wire.specs.declared.fields.Hello.{Hello}
use Rattle.miner_core.specs.Story.{Story, strand_in}
use Rattle.miner_core.specs.Streams.{StreamState, with_tape}
use Rattle.miner_core.proofs.Sources.{drew_none}
use Rattle.miner_node.specs.declared.node_err.NodeErr.{NodeErr}
use Rattle.miner_node.specs.declared.node_err.NodeErr.TheVariants as stop
use Rattle.miner_node.specs.declared.node_err.ServeErr.{ServeErr}
use Rattle.miner_node.specs.declared.node_err.ServeErr.TheVariants.{Node, TapeFault}
use Rattle.miner_node.specs.Faults.{IsLater, unsent}
use Rattle.miner_node.specs.Peers.{Sends, SendsFronts}
use Rattle.miner_node.specs.Serving.{Outcome, serving, bytes_to_next, bytes_to_previous}
use Rattle.miner_node.specs.Answers.{IsStop}
use Rattle.miner_node.specs.Serves.{HasServed, HasStopped}
use Rattle.miner_node.specs.Tapes.{ServesInOrder, StopsSo}
use Rattle.node_run.specs.Nodes.{JoinsAndServes}
use Rattle.miner_node.specs.Turns.{HasFinished}
use Rattle.miner_node.proofs.Faulting.{fault_on}

-- ---- NOTHING, AND ALL, AS FRONTS

pub none_sent : (i : Number) (before now : ℕ → List ℕ) (next previous : List ℕ) → now ≡ before → SendsFronts i before now next previous
none_sent i before now next previous same =
    record {
      to_next = ([], tt, at (count_of (next_of i)));
      to_previous = ([], tt, at (count_of (previous_of i)));
      others = λ p a b. ap (λ (f : ℕ → List ℕ). f p) same;
    }
  where
    at : (p : ℕ) → now p ≡ before p ++ []
    at p = ap (λ (f : ℕ → List ℕ). f p) same ∙ sym (append-none (before p))

pub all_sent : (i : Number) (before now : ℕ → List ℕ) (next previous : List ℕ) → Sends i before now next previous
    → SendsFronts i before now next previous
all_sent i before now next previous h =
    record { to_next = (next, begins-self next, h.to_next); to_previous = (previous, begins-self previous, h.to_previous); others = h.others }

-- ---- JOINING

module _ (i : Number) (a b : LinksState) (same : SameBytes a b) (later : IsLater a b) where
  module _ (hello : Hello) (first : Story) where
    -- the peers could not be joined
    pub unjoined : Rose a.faults b.faults → (a.steady ≡ true → ⊥) → HasStopped i hello a b first stop.LinkFault
    unjoined rose unsteady =
        (record { rose = rose; steady = λ st. absurd (unsteady st) }, λ t. none_sent i a.sent b.sent _ _ same.sent)

    module _ (c : LinksState) where
      pub joined_so : (s : Story) (ending : Ending) → HasServed i hello b c first s ending → HasServed i hello a c first s ending
      joined_so s ending h =
          record {
            going = h.going;
            task = h.task;
            ended = h.ended;
            served = λ t.
                subst (λ (coming : ℕ → List ℕ). HasFinished i s (serving i hello (strand_in i first) coming)) same.coming
                (h.served (same.told ∙ t));
            sent = λ t. sent_so t;
          }
        where
          SentBy : (before coming : ℕ → List ℕ) → Type 0
          SentBy before coming =
              let r = serving i hello (strand_in i first) coming in
              Sends i before c.sent (bytes_to_next i hello r.acts) (bytes_to_previous i hello r.acts)

          sent_so : a.told ≡ true → SentBy a.sent a.coming
          sent_so t =
              subst (λ (before : ℕ → List ℕ). SentBy before a.coming) same.sent
              (subst (λ (coming : ℕ → List ℕ). SentBy b.sent coming) same.coming (h.sent (same.told ∙ t)))

      sent_by : (next previous : List ℕ) (is : Type 0) → is × Sends i b.sent c.sent next previous → is × Sends i a.sent c.sent next previous
      sent_by next previous is h = (h.0, subst (λ (before : ℕ → List ℕ). Sends i before c.sent next previous) same.sent h.1)

      -- one that stops after it has joined, and comes to this
      stop_by : (o : Outcome) (next previous : List ℕ) (e : NodeErr) → IsStop i b c o next previous e → IsStop i a c o next previous e
      stop_by o next previous stop.LinkFault h = (
        fault_on later h.0 (λ why t. why (same.told ∙ t)),
        λ t. subst (λ (before : ℕ → List ℕ). SendsFronts i before c.sent next previous) same.sent (h.1 (same.told ∙ t)),
      )
      stop_by o next previous (stop.PeerMismatch field mine theirs) h = λ t. sent_by next previous _ (h (same.told ∙ t))
      stop_by o next previous (stop.BadFrame place) h = λ t. sent_by next previous _ (h (same.told ∙ t))
      stop_by o next previous (stop.BadMessage link cause) h = λ t. sent_by next previous _ (h (same.told ∙ t))
      stop_by o next previous stop.Memory h =
          λ t. subst (λ (before : ℕ → List ℕ). SendsFronts i before c.sent next previous) same.sent (h (same.told ∙ t))

      pub stopped_so : (e : NodeErr) → HasStopped i hello b c first e → HasStopped i hello a c first e
      stopped_so e h =
          let r = λ (coming : ℕ → List ℕ). serving i hello (strand_in i first) coming in
          subst
          (λ (coming : ℕ → List ℕ).
          IsStop i a c (r coming).outcome (bytes_to_next i hello (r coming).acts) (bytes_to_previous i hello (r coming).acts) e)
          same.coming
          (stop_by (r b.coming).outcome (bytes_to_next i hello (r b.coming).acts) (bytes_to_previous i hello (r b.coming).acts) e h)

-- ---- EITHER WAY

pub if_ok_so : {T E : Type 0} (r : Result T E) (P Q : T → Type 0) → ((x : T) → P x → Q x) → IfOk r P → IfOk r Q
if_ok_so (Ok x) P Q so h = so x h
if_ok_so (Err e) P Q so h = tt

pub if_err_so : {T E : Type 0} (r : Result T E) (P Q : E → Type 0) → ((e : E) → P e → Q e) → IfErr r P → IfErr r Q
if_err_so (Ok x) P Q so h = tt
if_err_so (Err e) P Q so h = so e h

pub if_none_so : {X : Type 0} (o : Option X) (P Q : Type 0) → (P → Q) → IfNone o P → IfNone o Q
if_none_so None P Q so h = so h
if_none_so (Some x) P Q so h = tt

-- ---- WITH A MINER THAT DRAWS

module _ (i : Number) (port : ℕ) (a b : LinksState) (same : SameBytes a b) (later : IsLater a b) (hello : Hello) (m : StreamState) (t : TapesState) where
  -- the peers could not be joined
  pub unjoined_from :
      {A : Type 0} (miner : A → StreamState) (ending : A → Ending) → Rose a.faults b.faults → (a.steady ≡ true → ⊥)
      → SameLinks a b → JoinsAndServes i port hello a b t t m {A = A} (Err (Node stop.LinkFault)) miner ending
  unjoined_from miner ending rose unsteady none =
      record {
        serves =
            record {
              taken = [];
              drew = drew_none t (count_of i);
              ok = tt;
              err = λ tape of. unjoined i a b same later hello (with_tape m tape) rose unsteady;
              still = λ h. h;
            };
        joins = λ tape of told. inl none;
      }

  -- or there was no memory to join them
  pub unjoined_without_memory :
      {A : Type 0} (miner : A → StreamState) (ending : A → Ending) → SameLinks a b
      → JoinsAndServes i port hello a b t t m {A = A} (Err (Node stop.Memory)) miner ending
  unjoined_without_memory miner ending none =
      record {
        serves =
            record {
              taken = [];
              drew = drew_none t (count_of i);
              ok = tt;
              err = λ tape of told. none_sent i a.sent b.sent _ _ same.sent;
              still = λ h. h;
            };
        joins = λ tape of told. inl none;
      }

  -- either
  pub unjoined_by :
      {A : Type 0} (miner : A → StreamState) (ending : A → Ending) (e : FileErr) → HasCause {T = Unit {0}} a.faults b.faults (Err e)
      → (a.steady ≡ true → IsSteady {T = Unit {0}} a.faults b.faults (Err e) ⊥) → SameLinks a b
      → JoinsAndServes i port hello a b t t m {A = A} (Err (Node (unsent e))) miner ending
  unjoined_by miner ending file_err.Failed cause steady none =
      unjoined_from miner ending (cause.failed refl) (λ st. (steady st).failed refl) none
  unjoined_by miner ending file_err.Memory cause steady none = unjoined_without_memory miner ending none

  module _ (c : LinksState) (u : TapesState) where
    stops_on : (taken : List ℕ) (e : ServeErr) → StopsSo i hello b c t u m taken e → StopsSo i hello a c t u m taken e
    stops_on taken (Node e) h = λ tape of. stopped_so i a b same later hello (with_tape m tape) c e (h tape of)
    stops_on taken TapeFault h = (λ tape of. stopped_so i a b same later hello (with_tape m tape) c stop.Memory (h.0 tape of), h.1)

    pub joined_from :
        {A : Type 0} (r : Result A ServeErr) (miner : A → StreamState) (ending : A → Ending) → OneMore a b (joined (count_of i) port)
        → ServesInOrder i hello b c t u m r miner ending → JoinsAndServes i port hello a c t u m r miner ending
    joined_from r miner ending called both =
        let h = both.serves in
        record {
          serves = record {
            taken = h.taken;
            drew = h.drew;
            ok =
                if_ok_so r _ _
                (λ x k. record {
                  gone = k.gone;
                  served = λ tape of.
                      joined_so i a b same later hello (with_tape m tape) c (with_tape (miner x) tape) (ending x) (k.served tape of);
                })
                h.ok;
            err = if_err_so r _ _ (stops_on h.taken) h.err;
            still = h.still;
          };
          joins = λ tape of told. did_join _ (count_of i) port a b c told same (called) (both.order tape of);
        }
