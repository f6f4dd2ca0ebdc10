-- A miner that reads its bytes frame by frame comes to what the bytes lead to.
use Rattle.std.proofs.Common.{◌≡◌, ℕ, List, [], ◌∷◌, ◌++◌, refl, sym, ◌∙◌, ap, subst}
use Rattle.std.specs.Option.{option_map_or}
use Rattle.std.specs.Prelude.{Option, Some, None}
use Rattle.std.proofs.lemmas.List.{append_assoc}
use Rattle.proto_core.specs.declared.link.Link.{Link}
use Rattle.proto_core.specs.declared.refused.BadMessage.{BadMessage}
use Rattle.proto_core.specs.Net.{nothing, added}
use Rattle.proto_core.specs.Strand.{Shape, Act, Mail, Strand, Ends, Acts, Waits, run}
use Rattle.proto_core.specs.Standing.{Standing, AtItsEnd, Awaits, Refuses, before_mail, fault_of, standing_with, standing_of}
use Rattle.proto_core.proofs.Beginnings.{append-none}
use Rattle.proto_core.proofs.Strands.{run-took, run-refused, run-added, followed}
use Rattle.proto_core.proofs.Refusing.{IsStood, run_is_stood}
use Rattle.served_bytes.specs.Front.{Framed, Whole, Malformed, Truncated}
use Rattle.served_bytes.specs.Served.{Coming, Stop, AtEnd, AtRefusal, AtMalformed, OutOfBytes, Served, stopped, acted_first}
use Rattle.served_bytes.specs.Served.{received_first, with_rest, refused_or, at_frame, served}
use Rattle.served_bytes.specs.Reading.{only, HasRead, StopsWith, OnMessage, OnFrame, ReadsFrameByFrame}
use Rattle.served_bytes.proofs.Messages.{first_here, taken_first, accepted_by, refused_by, goes_to_its_wait}

-- ---- WHERE IT STANDS WITH NO MESSAGE LEFT

end_awaits_none : {X : Type 0} (l : Link) → AtItsEnd ≡ Awaits l → X
end_awaits_none l e = cc

end_refuses_none : {X : Type 0} (l : Link) (cause : BadMessage) → AtItsEnd ≡ Refuses l cause → X
end_refuses_none l cause e = cc

wait_refuses_none : {X : Type 0} (k l : Link) (cause : BadMessage) → Awaits k ≡ Refuses l cause → X
wait_refuses_none k l cause e = cc

one_wait : (k l : Link) → Awaits k ≡ Awaits l → k ≡ l
one_wait k l e = cc

waits_for :
    {A : Type 0} (t : Strand A) (unread : Mail) (l : Link) → IsStood t unread → unread ≡ nothing → standing_with t unread ≡ Awaits l →
    (n : Shape) × (k : List ℕ → Strand A) × (t ≡ Waits l n k)
waits_for (Ends a) unread l stood none e = end_awaits_none l e
waits_for (Acts a t) unread l stood none e = absurd stood
waits_for (Waits j n k) unread l stood none e =
    (n, k, ap (λ i. Waits i n k) (one_wait j l (sym (ap (λ (u : Mail). before_mail j n (u j)) none) ∙ e)))

refuses_none :
    {X : Type 0} {A : Type 0} (t : Strand A) (unread : Mail) (l : Link) (cause : BadMessage) → IsStood t unread → unread ≡ nothing →
    standing_with t unread ≡ Refuses l cause → X
refuses_none (Ends a) unread l cause stood none e = end_refuses_none l cause e
refuses_none (Acts a t) unread l cause stood none e = absurd stood
refuses_none (Waits j n k) unread l cause stood none e =
    wait_refuses_none j l cause (sym (ap (λ (u : Mail). before_mail j n (u j)) none) ∙ e)

-- ---- ACTS IN FRONT

acts_before : {A : Type 0} (acts : List Act) (r : Served A) → (acted_first acts r).acts ≡ acts ++ r.acts
acts_before [] r = refl
acts_before (a ∷ acts) r = ap (λ v. a ∷ v) (acts_before acts r)

stop_kept : {A : Type 0} (acts : List Act) (r : Served A) → (acted_first acts r).stop ≡ r.stop
stop_kept [] r = refl
stop_kept (a ∷ acts) r = stop_kept acts r

none_is_left : {A : Type 0} (s : Strand A) → (run s nothing).unread ≡ nothing
none_is_left (Ends a) = refl
none_is_left (Acts a s) = none_is_left s
none_is_left (Waits l n k) = refl

module _ (framed : List ℕ → Framed) {A : Type 0} (s : Strand A) (bytes : Coming) where
  -- ---- ITS STOPS

  stops : (mail : Mail) (rest : Coming) (stop : Stop A) → HasRead framed s bytes mail rest
      → (r : Served A) → served framed (run s mail).left rest ≡ r → r.acts ≡ [] → r.stop ≡ stop → StopsWith framed s bytes mail stop
  stops mail rest stop h r e none is =
      record {
        acts = h.acts ∙ ap (λ v. (run s mail).acts ++ v) (ap (λ x. x.acts) e ∙ none) ∙ append-none (run s mail).acts;
        stop = h.stop ∙ ap (λ x. x.stop) e ∙ is;
      }

  ended : (mail : Mail) (rest : Coming) (a : A) → HasRead framed s bytes mail rest → (run s mail).left ≡ Ends a → StopsWith framed s bytes mail (AtEnd a)
  ended mail rest a h e = stops mail rest (AtEnd a) h (stopped (AtEnd a)) (ap (λ t. served framed t rest) e) refl refl

  begins : HasRead framed s bytes nothing bytes
  begins =
      let r = run s nothing in
      let goes = goes_to_its_wait framed s bytes in
      record {
        unread = none_is_left s;
        acts = ap (λ x. x.acts) goes ∙ acts_before r.acts (served framed r.left bytes);
        stop = ap (λ x. x.stop) goes ∙ stop_kept r.acts (served framed r.left bytes);
      }

  -- ---- A FRAME

  module _ (mail : Mail) (rest : Coming) (l : Link) (h : HasRead framed s bytes mail rest) (n : Shape) (k : List ℕ → Strand A)
      (waits : (run s mail).left ≡ Waits l n k) where
    goes_at : (f : Framed) → framed (rest l) ≡ f
        → served framed (run s mail).left rest ≡ at_frame l n f (λ m more. served framed (k m) (with_rest l more rest))
    goes_at f e = ap (λ t. served framed t rest) waits ∙ ap (λ v. at_frame l n v (λ m more. served framed (k m) (with_rest l more rest))) e

    module _ (m more : List ℕ) (e : framed (rest l) ≡ Whole m more) where
      abbrev with_it : Mail
      with_it = added mail (only l m)

      on : run s with_it ≡ followed (run s mail) (run (Waits l n k) (only l m))
      on = run-added s mail (only l m)
          ∙ ap (λ (u : Mail). followed (run s mail) (run (run s mail).left (added u (only l m)))) h.unread
          ∙ ap (λ t. followed (run s mail) (run t (only l m))) waits

      here : only l m l ≡ m ∷ []
      here = first_here l m nothing

      refuses : (cause : BadMessage) → fault_of n m ≡ Some cause → OnMessage framed s bytes mail with_it (with_rest l more rest) (standing_of (run s with_it))
      refuses cause is =
          let stands = on ∙ ap (followed (run s mail)) (run-refused l n k (only l m) m [] here (refused_by n m cause is)) in
          let at : standing_of (run s with_it) ≡ Refuses l cause =
          ap standing_of stands ∙ ap (before_mail l n) here ∙ ap (λ o. option_map_or (Refuses l) o (Awaits l)) is in
          let goes = goes_at (Whole m more) e ∙ ap (λ f. received_first l m (refused_or l f (served framed (k m) (with_rest l more rest)))) is in
          subst (λ v. OnMessage framed s bytes mail with_it (with_rest l more rest) v) (sym at)
          (stops mail rest (AtRefusal l cause) h (received_first l m (stopped (AtRefusal l cause))) goes refl refl)

      goes_on : fault_of n m ≡ None → HasRead framed s bytes with_it (with_rest l more rest)
      goes_on is =
          let r = run (k m) nothing in
          let now : run s with_it ≡ followed (run s mail) r =
          on ∙ ap (followed (run s mail)) (run-took l n k (only l m) m [] here (accepted_by n m is) ∙ ap (run (k m)) (taken_first l m nothing)) in
          let rest2 = with_rest l more rest in
          let goes = goes_at (Whole m more) e ∙ ap (λ f. received_first l m (refused_or l f (served framed (k m) rest2))) is
          ∙ ap (received_first l m) (goes_to_its_wait framed (k m) rest2) in
          record {
            unread = ap (λ x. x.unread) now ∙ none_is_left (k m);
            acts = h.acts ∙ ap (λ v. (run s mail).acts ++ v) (ap (λ x. x.acts) goes ∙ acts_before r.acts (served framed r.left rest2))
                ∙ sym (append_assoc (run s mail).acts r.acts (served framed r.left rest2).acts)
                ∙ sym (ap (λ x. x.acts ++ (served framed x.left rest2).acts) now);
            stop = h.stop ∙ ap (λ x. x.stop) goes ∙ stop_kept r.acts (served framed r.left rest2) ∙ sym (ap (λ x. (served framed x.left rest2).stop) now);
          }

      by_standing : (at : Standing) → standing_of (run s with_it) ≡ at → HasRead framed s bytes with_it (with_rest l more rest)
          → OnMessage framed s bytes mail with_it (with_rest l more rest) at
      by_standing AtItsEnd is read = read
      by_standing (Awaits j) is read = read
      by_standing (Refuses j cause) is read = refuses_none (run s with_it).left (run s with_it).unread j cause (run_is_stood s with_it) read.unread is

      by_cause : (f : Option BadMessage) → fault_of n m ≡ f → OnMessage framed s bytes mail with_it (with_rest l more rest) (standing_of (run s with_it))
      by_cause None is = by_standing (standing_of (run s with_it)) refl (goes_on is)
      by_cause (Some cause) is = refuses cause is

    by_frame : (f : Framed) → framed (rest l) ≡ f → OnFrame framed s bytes mail rest l f
    by_frame (Whole m more) e = by_cause m more e (fault_of n m) refl
    by_frame (Malformed place) e = stops mail rest (AtMalformed l place) h (stopped (AtMalformed l place)) (goes_at (Malformed place) e) refl refl
    by_frame Truncated e = stops mail rest (OutOfBytes l) h (stopped (OutOfBytes l)) (goes_at Truncated e) refl refl

  frame :
      (mail : Mail) (rest : Coming) (l : Link) → HasRead framed s bytes mail rest → standing_of (run s mail) ≡ Awaits l →
      OnFrame framed s bytes mail rest l (framed (rest l))
  frame mail rest l h e =
      let w = waits_for (run s mail).left (run s mail).unread l (run_is_stood s mail) h.unread e in
      by_frame mail rest l h w.0 w.1 w.2 (framed (rest l)) refl

  pub reads_frame_by_frame : ReadsFrameByFrame framed s bytes
  reads_frame_by_frame = record { begins = begins; frame = frame; ended = ended }
