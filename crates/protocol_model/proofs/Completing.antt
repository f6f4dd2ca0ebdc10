-- A schedule is accepted where all three miners have ended, and then nothing is left to come.
use Rattle.std.proofs.Common.{◌≡◌, ℕ, ◌+◌, Bool, true, false, if◌then◌else◌, List, [], ◌∷◌, ◌++◌, refl, sym, ◌∙◌, ap, subst}
use Rattle.std.specs.Option.{option_map_or}
use Rattle.std.specs.Prelude.{Option, Some, None}
use Rattle.proto_core.specs.declared.party.Number.{Number}
use Rattle.proto_core.specs.declared.party.Number.TheVariants.{One, Two, Three}
use Rattle.proto_core.specs.declared.link.Link.{Link}
use Rattle.proto_core.specs.Parties.{sender_of, receiver_of, is_same}
use Rattle.proto_core.specs.Strand.{Mail, Strand, Ends, Acts, Waits, accepts, taken, run, opened_in, on_link, IsEnded}
use Rattle.proto_core.specs.Net.{added, into, run_of, posted, delivered, all_delivered, MailBegins, Finishes}
use Rattle.proto_core.proofs.Beginnings.{begins-rest, append-none}
use Rattle.proto_core.proofs.Strands.{run-none, run-took, run-refused, run-added, run-ended, followed}
use Rattle.proto_core.proofs.Nets.{into-more, covers, orders-begin}
use Rattle.proto_core.proofs.Numbers.{same_itself}
use Rattle.protocol_model.specs.Network.{Accepted, Stalled, at_the_end, waits_for, walked}
use Rattle.protocol_model.specs.Arrivals.{to_come}
use Rattle.protocol_model.specs.Complete.{IsComplete, IsThrough}
use Rattle.protocol_model.proofs.Coming.{goes-on}

none_waits : {P : Type 0} (l : Link) → Some l ≡ None → P
none_waits l e = cc

-- a miner that doesn't wait has ended
pub not_waiting : {A : Type 0} (s : Strand A) (mail : Mail) → waits_for (run s mail).left ≡ None → IsEnded (run s mail).left
not_waiting (Ends a) mail e = tt
not_waiting (Acts a s) mail e = not_waiting s mail e
not_waiting (Waits l n k) mail e = by_mail (mail l) refl (λ m g. not_waiting (k m) (taken l mail) g)
  where
    by_mail : (xs : List (List ℕ)) → mail l ≡ xs
        → ((m : List ℕ) → waits_for (run (k m) (taken l mail)).left ≡ None → IsEnded (run (k m) (taken l mail)).left) → IsEnded (run (Waits l n k) mail).left
    by_mail [] x more = none_waits l (sym (ap (λ r. waits_for r.left) (run-none l n k mail x)) ∙ e)
    by_mail (m ∷ ms) x more = by_shape (accepts n m) refl
      where
        by_shape : (b : Bool) → accepts n m ≡ b → IsEnded (run (Waits l n k) mail).left
        by_shape true g =
            let same = run-took l n k mail m ms x g in
            subst (λ r. IsEnded r.left) (sym same) (more m (sym (ap (λ r. waits_for r.left) same) ∙ e))
        by_shape false g = none_waits l (sym (ap (λ r. waits_for r.left) (run-refused l n k mail m ms x g)) ∙ e)

no_stall : {P : Type 0} (i : Number) (l : Link) → Stalled i l ≡ Accepted → P
no_stall i l e = cc

nobody_first : (i : Number) (w : Option Link) (later : _) → option_map_or (Stalled i) w later ≡ Accepted → (w ≡ None) × (later ≡ Accepted)
nobody_first i None later e = (refl, e)
nobody_first i (Some l) later e = no_stall i l e

nobody : (waiting : Number → Option Link) → at_the_end waiting ≡ Accepted → (i : Number) → waiting i ≡ None
nobody waiting e i =
    let a = nobody_first One (waiting One) _ e in
    let b = nobody_first Two (waiting Two) _ a.1 in
    let c = nobody_first Three (waiting Three) _ b.1 in
    by_number a.0 b.0 c.0 i
  where
    by_number : waiting One ≡ None → waiting Two ≡ None → waiting Three ≡ None → (i : Number) → waiting i ≡ None
    by_number x y z One = x
    by_number x y z Two = y
    by_number x y z Three = z

rest_none : (xs ys : List (List ℕ)) → xs ++ ys ≡ [] → ys ≡ []
rest_none [] ys e = e
rest_none (x ∷ xs) ys e = cc

ended-is : {A : Type 0} (s : Strand A) (a : A) (m : Mail) → s ≡ Ends a → (run s m).unread ≡ m
ended-is s a m e = ap (λ v. (run v m).unread) e

module _ {A : Type 0} (nodes : Number → Strand A) (full : Mail) (outputs : Number → A) (f : Finishes nodes full outputs) where
  at-end : (order : List Link) (entry : ℕ) (mail : Mail) → walked nodes entry mail order ≡ Accepted →
      at_the_end (λ i. waits_for (run_of nodes (all_delivered nodes mail order) i).left) ≡ Accepted
  at-end [] entry mail e = e
  at-end (l ∷ ls) entry mail e = at-end ls (entry + 1) (delivered nodes mail l) (goes-on nodes full outputs f entry mail l ls e)

  module _ (mail : Mail) (begins : MailBegins mail full) where
    abbrev rest : Mail
    rest = to_come full mail

    parts-into : (i : Number) → into i full ≡ added (into i mail) (into i rest)
    parts-into i = λ d. λ l. at_link l d
      where
        at_link : (l : Link) → into i full l ≡ added (into i mail) (into i rest) l
        at_link l =
            elim (is_same (receiver_of l) i) as (λ b. (if b then full l else []) ≡ (if b then mail l else []) ++ (if b then rest l else []))
            [ true ↦ sym (begins-rest (mail l) (full l) (begins l)) | false ↦ refl ]

    whole : (i : Number) → run_of nodes full i
        ≡ followed (run_of nodes mail i) (run (run_of nodes mail i).left (added (run_of nodes mail i).unread (into i rest)))
    whole i = ap (run (nodes i)) (parts-into i) ∙ run-added (nodes i) (into i mail) (into i rest)

    -- from its end on a miner only leaves mail unread
    end-of : (s : Strand A) → IsEnded s → (m : Mail) → ((run s m).unread ≡ m) × ((run s m).left ≡ s)
    end-of (Ends a) h m = (refl, refl)
    end-of (Acts a s) h m = absurd h
    end-of (Waits l n k) h m = absurd h

    into-receiver : (l : Link) → into (receiver_of l) rest l ≡ rest l
    into-receiver l = ap (λ b. if b then rest l else []) (same_itself (receiver_of l))

    module _ (i : Number) (ended : IsEnded (run_of nodes mail i).left) where
      same-acts : (run_of nodes full i).acts ≡ (run_of nodes mail i).acts
      same-acts = run-ended (nodes i) (into i mail) (into i full) (into-more nodes i mail full begins) ended

      none-left : (l : Link) → into i rest l ≡ []
      none-left l =
          let r = run_of nodes mail i in
          let e : (run_of nodes full i).unread ≡ added r.unread (into i rest) =
          ap (λ v. v.unread) (whole i) ∙ (end-of r.left ended (added r.unread (into i rest))).0 in
          rest_none (r.unread l) (into i rest l) (sym (ap (λ m. m l) e) ∙ ap (λ m. m l) (f.read i))

      at-its-end : (run_of nodes mail i).left ≡ Ends (outputs i)
      at-its-end =
          sym ((end-of (run_of nodes mail i).left ended (added (run_of nodes mail i).unread (into i rest))).1)
          ∙ sym (ap (λ v. v.left) (whole i))
          ∙ f.ended i

    all-came : (l : Link) → IsEnded (run_of nodes mail (receiver_of l)).left → mail l ≡ full l
    all-came l ended =
        sym (append-none (mail l))
        ∙ ap (λ v. mail l ++ v) (sym (sym (into-receiver l) ∙ none-left (receiver_of l) ended l))
        ∙ begins-rest (mail l) (full l) (begins l)

    all-sent : (l : Link) → IsEnded (run_of nodes mail (sender_of l)).left → posted nodes mail l ≡ full l
    all-sent l ended = ap (on_link l) (sym (same-acts (sender_of l) ended)) ∙ f.sent l

    pub is-through : (i : Number) → IsEnded (run_of nodes mail i).left → IsThrough nodes full outputs mail i
    is-through i ended =
        record {
          came = λ l e. all-came l (subst (λ k. IsEnded (run_of nodes mail k).left) (sym e) ended);
          sent = λ l e. all-sent l (subst (λ k. IsEnded (run_of nodes mail k).left) (sym e) ended);
          ended = at-its-end i ended;
          opened = ap opened_in (sym (same-acts i ended));
        }

    all-is : ((i : Number) → IsEnded (run_of nodes mail i).left) → IsComplete nodes full outputs mail
    all-is ended =
        record {
          came = λ l. all-came l (ended (receiver_of l));
          sent = λ l. all-sent l (ended (sender_of l));
          ended = λ i. at-its-end i (ended i);
          opened = λ i. ap opened_in (sym (same-acts i (ended i)));
        }

  pub accepted-complete :
      (order : List Link) (entry : ℕ) (mail : Mail) → MailBegins mail full → walked nodes entry mail order ≡ Accepted →
      IsComplete nodes full outputs (all_delivered nodes mail order)
  accepted-complete order entry mail b e =
      let end = all_delivered nodes mail order in
      all-is end (orders-begin nodes full (covers nodes full outputs f) order mail b)
      (λ i. not_waiting (nodes i) (into i end) (nobody (λ k. waits_for (run_of nodes end k).left) (at-end order entry mail e) i))
