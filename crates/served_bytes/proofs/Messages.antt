-- What a miner does with bytes is what it does with the messages that are read of them.
use Rattle.std.proofs.Common.{◌≡◌, ℕ, Bool, true, false, if◌then◌else◌, List, [], ◌∷◌, refl, sym, ◌∙◌, ap, subst, is_none}
use Rattle.std.specs.Option.{option_map_or}
use Rattle.std.specs.Prelude.{Option, Some, None}
use Rattle.proto_core.specs.declared.link.Link.{Link}
use Rattle.proto_core.specs.declared.refused.BadMessage.{BadMessage}
use Rattle.proto_core.specs.Net.{nothing}
use Rattle.proto_core.specs.Strand.{Shape, Act, accepts, same_link, rest_of, Mail, Strand, Ends, Acts, Waits, taken, run}
use Rattle.proto_core.specs.Standing.{before_mail, fault_of, standing_of, Refuses, Awaits}
use Rattle.proto_core.proofs.Strands.{same-link_is, same-link_self, run-none, run-took, run-refused, standing}
use Rattle.proto_core.proofs.Refusing.{faultless_is_accepted}
use Rattle.served_bytes.specs.Front.{Framed, Whole, Malformed, Truncated}
use Rattle.served_bytes.specs.Served.{Coming, Stop, AtEnd, AtRefusal, AtMalformed, OutOfBytes, Served, acted_first}
use Rattle.served_bytes.specs.Served.{with_first, received_first, with_rest, refused_or, at_frame, served, Spells}
use Rattle.served_bytes.specs.Laws.{StopIs, IsNodeOf, ServesItsMessages, EndsOnHonestBytes, GoesToItsWait}

-- ---- A MESSAGE IN FRONT

pub first_here : (l : Link) (m : List ℕ) (mail : Mail) → with_first l m mail l ≡ m ∷ mail l
first_here l m mail = ap (λ b. if b then m ∷ mail l else mail l) (same-link_self l)

pub taken_first : (l : Link) (m : List ℕ) (mail : Mail) → taken l (with_first l m mail) ≡ mail
taken_first l m mail = λ d. λ k. at_link k d
  where
    at_link : (k : Link) → taken l (with_first l m mail) k ≡ mail k
    at_link k =
        elim (same_link l k) as (λ b. (if b then rest_of (if b then m ∷ mail k else mail k) else (if b then m ∷ mail k else mail k)) ≡ mail k)
        [ true ↦ refl | false ↦ refl ]

-- ---- FAULTS

pub accepted_by : (n : Shape) (m : List ℕ) → fault_of n m ≡ None → accepts n m ≡ true
accepted_by n m e = sym (faultless_is_accepted n m) ∙ ap is_none e

pub refused_by : (n : Shape) (m : List ℕ) (cause : BadMessage) → fault_of n m ≡ Some cause → accepts n m ≡ false
refused_by n m cause e = sym (faultless_is_accepted n m) ∙ ap is_none e

no_cause : {X : Type 0} (cause : BadMessage) → is_none (Some cause) ≡ true → X
no_cause cause e = cc

faultless : (n : Shape) (m : List ℕ) → accepts n m ≡ true → fault_of n m ≡ None
faultless n m e = by_fault (fault_of n m) refl
  where
    by_fault : (f : Option BadMessage) → fault_of n m ≡ f → fault_of n m ≡ None
    by_fault None h = h
    by_fault (Some cause) h = no_cause cause (sym (ap is_none h) ∙ (faultless_is_accepted n m ∙ e))

-- ---- BYTES AFTER A MESSAGE

module _ (framed : List ℕ → Framed) where
  spells_on : (l : Link) (m rest : List ℕ) (ms : List (List ℕ)) (mail : Mail) (bytes : Coming) → mail l ≡ m ∷ ms → Spells framed rest ms
      → ((k : Link) → Spells framed (bytes k) (mail k)) → (k : Link) → Spells framed (with_rest l rest bytes k) (taken l mail k)
  spells_on l m rest ms mail bytes is here all k = by_link (same_link l k) refl
    where
      by_link : (b : Bool) → same_link l k ≡ b → Spells framed (if b then rest else bytes k) (if b then rest_of (mail k) else mail k)
      by_link true e =
          let same : mail k ≡ m ∷ ms = ap mail (sym (same-link_is l k e)) ∙ is in
          subst (λ v. Spells framed rest (rest_of v)) (sym same) here
      by_link false e = all k

  module _ (l k : Link) (m rest : List ℕ) (bytes : Coming) (e : framed (bytes l) ≡ Whole m rest) where
    read_first : (b : Bool) → same_link l k ≡ b → (ms : List (List ℕ)) → Spells framed (if b then rest else bytes k) ms
        → Spells framed (bytes k) (if b then m ∷ ms else ms)
    read_first true is ms h = (rest, ap (λ j. framed (bytes j)) (sym (same-link_is l k is)) ∙ e, h)
    read_first false is ms h = h

    -- also where it is refused
    read_last : (b : Bool) → same_link l k ≡ b → Spells framed (bytes k) (if b then m ∷ [] else [])
    read_last true is = (rest, ap (λ j. framed (bytes j)) (sym (same-link_is l k is)) ∙ e, tt)
    read_last false is = tt

-- ---- THE SAME OF MESSAGES

module _ (framed : List ℕ → Framed) {A : Type 0} where
  stop_acted : (a : Act) (s : Strand A) (r : Served A) (stop : Stop A) → StopIs s r stop → StopIs (Acts a s) (acted_first (a ∷ []) r) stop
  stop_acted a s r (AtEnd b) is = is
  stop_acted a s r (AtRefusal j cause) is = is
  stop_acted a s r (AtMalformed j place) is = is
  stop_acted a s r (OutOfBytes j) is = is

  acts_more : (a : Act) (s : Strand A) (r : Served A) → IsNodeOf s r → IsNodeOf (Acts a s) (acted_first (a ∷ []) r)
  acts_more a s r h = record { acts = ap (λ v. a ∷ v) h.acts; stop = stop_acted a s r r.stop h.stop }

  module _ (l : Link) (n : Shape) (k : List ℕ → Strand A) where
    went : (m : List ℕ) (r : Served A) → accepts n m ≡ true → run (Waits l n k) (received_first l m r).received ≡ run (k m) r.received
    went m r h =
        run-took l n k (with_first l m r.received) m (r.received l) (first_here l m r.received) h ∙ ap (run (k m)) (taken_first l m r.received)

    stop_went : (m : List ℕ) (r : Served A) (stop : Stop A) → accepts n m ≡ true → StopIs (k m) r stop → StopIs (Waits l n k) (received_first l m r) stop
    stop_went m r (AtEnd a) h is = ap (λ x. x.left) (went m r h) ∙ is
    stop_went m r (AtRefusal j cause) h is = ap standing_of (went m r h) ∙ is
    stop_went m r (AtMalformed j place) h is = ap standing_of (went m r h) ∙ is
    stop_went m r (OutOfBytes j) h is = ap standing_of (went m r h) ∙ is

    by_cause : (m : List ℕ) (r : Served A) → IsNodeOf (k m) r → (f : Option BadMessage) → fault_of n m ≡ f → IsNodeOf (Waits l n k) (received_first l m (refused_or l f r))
    by_cause m r h None e =
        let o = accepted_by n m e in
        record { acts = ap (λ x. x.acts) (went m r o) ∙ h.acts; stop = stop_went m r r.stop o h.stop }
    by_cause m r h (Some cause) e =
        let no = refused_by n m cause e in
        let here : with_first l m nothing l ≡ m ∷ [] = first_here l m nothing in
        let stands : run (Waits l n k) (with_first l m nothing) ≡ standing l n k (with_first l m nothing) =
        run-refused l n k (with_first l m nothing) m [] here no in
        record {
          acts = ap (λ x. x.acts) stands;
          stop = ap standing_of stands ∙ ap (before_mail l n) here ∙ ap (λ o. option_map_or (Refuses l) o (Awaits l)) e;
        }

    by_frame : (bytes : Coming) → ((m rest : List ℕ) → IsNodeOf (k m) (served framed (k m) (with_rest l rest bytes))) → (f : Framed)
        → IsNodeOf (Waits l n k) (at_frame l n f (λ m rest. served framed (k m) (with_rest l rest bytes)))
    by_frame bytes more (Whole m rest) = by_cause m (served framed (k m) (with_rest l rest bytes)) (more m rest) (fault_of n m) refl
    by_frame bytes more (Malformed place) = record { acts = refl; stop = refl }
    by_frame bytes more Truncated = record { acts = refl; stop = refl }

  is_node_of : (s : Strand A) (bytes : Coming) → IsNodeOf s (served framed s bytes)
  is_node_of (Ends a) bytes = record { acts = refl; stop = refl }
  is_node_of (Acts a s) bytes = acts_more a s (served framed s bytes) (is_node_of s bytes)
  is_node_of (Waits l n k) bytes = by_frame l n k bytes (λ m rest. is_node_of (k m) (with_rest l rest bytes)) (framed (bytes l))

  -- ---- WHAT WAS READ

  module _ (l k : Link) (n : Shape) (f : List ℕ → Strand A) (bytes : Coming) where
    abbrev goes : List ℕ → List ℕ → Served A
    goes m rest = served framed (f m) (with_rest l rest bytes)

    by_fault : (m rest : List ℕ) → framed (bytes l) ≡ Whole m rest → Spells framed (with_rest l rest bytes k) ((goes m rest).received k)
        → (c : Option BadMessage) → Spells framed (bytes k) ((received_first l m (refused_or l c (goes m rest))).received k)
    by_fault m rest e more None = read_first framed l k m rest bytes e (same_link l k) refl ((goes m rest).received k) more
    by_fault m rest e more (Some cause) = read_last framed l k m rest bytes e (same_link l k) refl

    by_front : (v : Framed) → framed (bytes l) ≡ v
        → ((m rest : List ℕ) → Spells framed (with_rest l rest bytes k) ((goes m rest).received k))
        → Spells framed (bytes k) ((at_frame l n v goes).received k)
    by_front (Whole m rest) e more = by_fault m rest e (more m rest) (fault_of n m)
    by_front (Malformed place) e more = tt
    by_front Truncated e more = tt

  spelled_by : (s : Strand A) (bytes : Coming) (k : Link) → Spells framed (bytes k) ((served framed s bytes).received k)
  spelled_by (Ends a) bytes k = tt
  spelled_by (Acts a s) bytes k = spelled_by s bytes k
  spelled_by (Waits l n f) bytes k = by_front l k n f bytes (framed (bytes l)) refl (λ m rest. spelled_by (f m) (with_rest l rest bytes) k)

  pub serves_its_messages : (s : Strand A) (bytes : Coming) → ServesItsMessages framed s bytes
  serves_its_messages s bytes = record { node = is_node_of s bytes; spelled = spelled_by s bytes }

  -- ---- TO ITS WAIT

  pub goes_to_its_wait : (s : Strand A) (bytes : Coming) → GoesToItsWait framed s bytes
  goes_to_its_wait (Ends a) bytes = refl
  goes_to_its_wait (Acts a s) bytes = ap (acted_first (a ∷ [])) (goes_to_its_wait s bytes)
  goes_to_its_wait (Waits l n k) bytes = refl

  -- ---- HONEST BYTES

  waits_no_end : {X : Type 0} (l : Link) (n : Shape) (k : List ℕ → Strand A) (a : A) → Waits l n k ≡ Ends a → X
  waits_no_end l n k a e = cc

  same_end : (a b : A) → Ends a ≡ Ends b → a ≡ b
  same_end a b e = cc

  -- the same acts, and this end
  abbrev EndsSo : (t : Strand A) (x : Mail) (bytes : Coming) (a : A) → Type 0
  EndsSo t x bytes a = ((served framed t bytes).acts ≡ (run t x).acts) × ((served framed t bytes).stop ≡ AtEnd a)

  module _ (l : Link) (n : Shape) (k : List ℕ → Strand A) (mail : Mail) (bytes : Coming) (a : A) (e : (run (Waits l n k) mail).left ≡ Ends a) where
    abbrev More : Type 0
    More = (m : List ℕ) (ms : List (List ℕ)) (rest : List ℕ) → mail l ≡ m ∷ ms → Spells framed rest ms → accepts n m ≡ true
        → EndsSo (k m) (taken l mail) (with_rest l rest bytes) a

    by_shape : (m : List ℕ) (ms : List (List ℕ)) (rest : List ℕ) → mail l ≡ m ∷ ms → framed (bytes l) ≡ Whole m rest → Spells framed rest ms → More
        → (b : Bool) → accepts n m ≡ b → EndsSo (Waits l n k) mail bytes a
    by_shape m ms rest is comes spells more false o =
        waits_no_end l n k a (sym (ap (λ r. r.left) (run-refused l n k mail m ms is o)) ∙ e)
    by_shape m ms rest is comes spells more true o =
        let h = more m ms rest is spells o in
        let goes : served framed (Waits l n k) bytes ≡ received_first l m (served framed (k m) (with_rest l rest bytes)) =
        ap (λ f. at_frame l n f (λ m rest. served framed (k m) (with_rest l rest bytes))) comes
        ∙ ap (λ f. received_first l m (refused_or l f (served framed (k m) (with_rest l rest bytes)))) (faultless n m o) in (
          ap (λ r. r.acts) goes ∙ h.0 ∙ sym (ap (λ r. r.acts) (run-took l n k mail m ms is o)),
          ap (λ r. r.stop) goes ∙ h.1,
        )

    by_mail : (xs : List (List ℕ)) → mail l ≡ xs → Spells framed (bytes l) xs → More → EndsSo (Waits l n k) mail bytes a
    by_mail [] is spells more = waits_no_end l n k a (sym (ap (λ r. r.left) (run-none l n k mail is)) ∙ e)
    by_mail (m ∷ ms) is (rest, comes, spells) more = by_shape m ms rest is comes spells more (accepts n m) refl

  pub ends_on_honest_bytes : (s : Strand A) (mail : Mail) (bytes : Coming) → EndsOnHonestBytes framed s mail bytes
  ends_on_honest_bytes (Ends b) mail bytes a e all = (refl, ap AtEnd (same_end b a e))
  ends_on_honest_bytes (Acts x s) mail bytes a e all =
      let h = ends_on_honest_bytes s mail bytes a e all in
      (ap (λ v. x ∷ v) h.0, h.1)
  ends_on_honest_bytes (Waits l n k) mail bytes a e all =
      by_mail l n k mail bytes a e (mail l) refl (all l)
      (λ m ms rest is spells o.
      ends_on_honest_bytes (k m) (taken l mail) (with_rest l rest bytes) a
      (sym (ap (λ r. r.left) (run-took l n k mail m ms is o)) ∙ e) (spells_on framed l m rest ms mail bytes is spells all))
