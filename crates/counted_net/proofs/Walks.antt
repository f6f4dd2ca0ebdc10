-- Deliveries one after another, by counts, and the links with a message under way.
use Rattle.std.proofs.Common.{◌≡◌, ℕ, ◌+◌, ◌<◌, true, false, if◌then◌else◌, List, [], ◌∷◌, ◌++◌, length, take, drop, get_or}
use Rattle.std.proofs.Common.{refl, sym, ◌∙◌, ap, subst, arith}
use Rattle.std.proofs.lemmas.Grind.{common_steps}
use Rattle.std.proofs.lemmas.List.{append_assoc, drop_more, take_more, take-append-drop}
use Rattle.std.specs.Prelude.{Result, Ok, Err, Vec}
use Rattle.std.specs.declared.alloc.Global.{Global}
use Rattle.std.specs.Result.{IsErrAnd}
use Rattle.proto_core.specs.declared.party.Number.{Number}
use Rattle.proto_core.specs.declared.link.Link.{Link}
use Rattle.proto_core.specs.Script as script
use Rattle.proto_core.proofs.Beginnings.{append-none}
use Rattle.protocol_model.specs.Network.{Counts, Delivery, EmptyLink, Listed, counted, is_full, net, none_delivered, one_more}
use Rattle.protocol_model.specs.Network.{order_of, posted_count}
use Rattle.protocol_model.proofs.Choosing.{one_longer}
use Rattle.counted_net.specs.declared.moves.Scripts.{Scripts}
use Rattle.counted_net.specs.declared.delivery.DeliveryErr.{DeliveryErr}
use Rattle.counted_net.specs.declared.delivery.DeliveryErr.TheVariants as err
use Rattle.counted_net.specs.Scripts.{plain_of}
use Rattle.counted_net.specs.Answers.{IsNetAnswer}
use Rattle.counted_net.specs.Nets.{after, got_of, is_under_way, net_end, scripts_in, state_of, DeliverAnswers, EndAnswers, HasEnded, NetState}
use Rattle.counted_net.proofs.Counts.{got_more}

-- ---- entries

module _ (moves : Number → List script.Move) (entry : ℕ) (got : Counts) (l : Link) (ls : List Link) where
  entry_goes : is_full moves got l ≡ true → counted moves entry got (l ∷ ls) ≡ counted moves (entry + 1) (one_more l got) ls
  entry_goes e = ap (λ b. if b then counted moves (entry + 1) (one_more l got) ls else EmptyLink entry l (posted_count moves got l)) e

  entry_stops : is_full moves got l ≡ false → counted moves entry got (l ∷ ls) ≡ EmptyLink entry l (posted_count moves got l)
  entry_stops e = ap (λ b. if b then counted moves (entry + 1) (one_more l got) ls else EmptyLink entry l (posted_count moves got l)) e

-- a net of these scripts after deliveries that all had a message
pub record Walked (s : Scripts) (now : NetState) : Type 0 where
  pub here : now ≡ state_of s now.delivered
  pub walks : (rest : List Link) →
      counted (plain_of s) 0 none_delivered (now.delivered ++ rest) ≡ counted (plain_of s) (length now.delivered) (got_of now.delivered) rest

module _ (s : Scripts) where
  pub walked_none : (now : NetState) → now ≡ state_of s [] → Walked s now
  walked_none now is = subst (Walked s) (sym is) (record { here = refl; walks = λ rest. refl })

  module _ (now : NetState) (w : Walked s now) where
    abbrev links : List Link
    links = now.delivered

    pub full_so : (l : Link) → is_full (plain_of s) (got_of links) l ≡ is_under_way now l
    full_so l = ap (λ (n : NetState). is_full (scripts_in n) (got_of links) l) (sym w.here)

    pub posted_so : (l : Link) → posted_count (plain_of s) (got_of links) l ≡ posted_count (scripts_in now) (got_of links) l
    posted_so l = ap (λ (n : NetState). posted_count (scripts_in n) (got_of links) l) (sym w.here)

    pub walked_more : (l : Link) (later : NetState) → is_under_way now l ≡ true → later ≡ after now l → Walked s later
    walked_more l later full is =
        subst (Walked s) (sym is)
        (record {
          here = ap (λ (n : NetState). record n { delivered = links ++ l ∷ [] }) w.here;
          walks = λ rest.
              ap (counted (plain_of s) 0 none_delivered) (append_assoc links (l ∷ []) rest)
              ∙ w.walks (l ∷ rest)
              ∙ entry_goes (plain_of s) (length links) (got_of links) l rest (full_so l ∙ full)
              ∙ ap (λ n. counted (plain_of s) n (one_more l (got_of links)) rest) (sym (one_longer links l))
              ∙ ap (λ c. counted (plain_of s) (length (links ++ l ∷ [])) c rest) (sym (got_more links l));
        })

    -- after the last one
    pub walked_end : counted (plain_of s) 0 none_delivered links ≡ net_end now
    walked_end =
        ap (counted (plain_of s) 0 none_delivered) (sym (append-none links))
        ∙ w.walks []
        ∙ ap (λ (n : NetState). net_end (record n { delivered = links })) (sym w.here)

    -- they are all that the delivery delivers
    pub all_walked : (given : Delivery) (r : Result (Vec Link Global) DeliveryErr) → links ≡ order_of (plain_of s) given → HasEnded now r
        → IsNetAnswer (plain_of s) given r
    all_walked given r all h = by_answer r h
      where
        net_is : net (plain_of s) given ≡ net_end now
        net_is = ap (counted (plain_of s) 0 none_delivered) (sym all) ∙ walked_end

        by_answer : (r : Result (Vec Link Global) DeliveryErr) → HasEnded now r → IsNetAnswer (plain_of s) given r
        by_answer (Ok order) h = (net_is ∙ h.0, h.1 ∙ all)
        by_answer (Err (err.EmptyLink entry link sent)) h = absurd h
        by_answer (Err (err.Stalled miner link)) h = net_is ∙ h
        by_answer (Err err.Memory) h = absurd h

-- what holds of an error holds where it is passed on
pub passed_on : (P : Result (Vec Link Global) DeliveryErr → Type 0) (e : DeliveryErr) → P (Err e)
    → (r : Result (Vec Link Global) DeliveryErr) → IsErrAnd r (λ x. x ≡ e) → P r
passed_on P e h (Ok order) is = absurd is
passed_on P e h (Err x) is = subst (λ y. P (Err y)) (sym is) h

-- an end that is refused
pub end_refused : (net : NetState) (e : DeliveryErr) → EndAnswers net (Err e) → HasEnded net (Err e)
end_refused net (err.EmptyLink entry link sent) h = h
end_refused net (err.Stalled miner link) h = h
end_refused net err.Memory h = h

-- ---- a schedule

-- this many of its entries were delivered
pub record AtEntry (s : Scripts) (schedule : List Link) (k : ℕ) (now : NetState) : Type 0 where
  pub walked : Walked s now
  pub delivered : now.delivered ≡ take k schedule

pub at_first : (s : Scripts) (schedule : List Link) (now : NetState) → now ≡ state_of s [] → AtEntry s schedule 0 now
at_first s schedule now is = record { walked = walked_none s now is; delivered = ap (λ (n : NetState). n.delivered) is }

module _ (s : Scripts) (schedule : List Link) (k : ℕ) (now : NetState) (h : AtEntry s schedule k now) where
  pub at_next : (d : Link) (later : NetState) → k < length schedule → is_under_way now (get_or schedule k d) ≡ true
      → later ≡ after now (get_or schedule k d) → AtEntry s schedule (k + 1) later
  at_next d later below full is = record {
    walked = walked_more s now h.walked (get_or schedule k d) later full is;
    delivered =
        ap (λ (n : NetState). n.delivered) is
        ∙ ap (λ ls. ls ++ get_or schedule k d ∷ []) h.delivered
        ∙ sym (take_more schedule k d below);
  }

  at_empty : (d : Link) (entry : ℕ) (link : Link) (sent : ℕ) → k < length schedule → is_under_way now (get_or schedule k d) ≡ false
      → entry ≡ length now.delivered → link ≡ get_or schedule k d
      → sent ≡ posted_count (scripts_in now) (got_of now.delivered) (get_or schedule k d)
      → IsNetAnswer (plain_of s) (Listed schedule) (Err (err.EmptyLink entry link sent))
  at_empty d entry link sent below empty e1 e2 e3 =
      let l = get_or schedule k d in
      let rest = drop (k + 1) schedule in
      ap (counted (plain_of s) 0 none_delivered) (sym whole)
      ∙ h.walked.walks (l ∷ rest)
      ∙ entry_stops (plain_of s) (length now.delivered) (got_of now.delivered) l rest (full_so s now h.walked l ∙ empty)
      ∙ ap (EmptyLink (length now.delivered) l) (posted_so s now h.walked l)
      ∙ ap (λ n. EmptyLink n l (posted_count (scripts_in now) (got_of now.delivered) l)) (sym e1)
      ∙ ap (λ v. EmptyLink entry v (posted_count (scripts_in now) (got_of now.delivered) l)) (sym e2)
      ∙ ap (EmptyLink entry link) (sym e3)
    where
      whole : now.delivered ++ get_or schedule k d ∷ drop (k + 1) schedule ≡ schedule
      whole =
          ap (λ ls. ls ++ get_or schedule k d ∷ drop (k + 1) schedule) h.delivered
          ∙ ap (λ ls. take k schedule ++ ls) (sym (drop_more schedule k d below))
          ∙ take-append-drop k schedule

  pub at_refused : (d : Link) (later : NetState) (e : DeliveryErr) → k < length schedule → DeliverAnswers now later (get_or schedule k d) (Err e)
      → IsNetAnswer (plain_of s) (Listed schedule) (Err e)
  at_refused d later (err.EmptyLink entry link sent) below a = at_empty d entry link sent below a.0 a.1 a.2 a.3
  at_refused d later (err.Stalled miner link) below a = absurd a
  at_refused d later err.Memory below a = tt

  pub at_end : (r : Result (Vec Link Global) DeliveryErr) → k ≡ length schedule → HasEnded now r → IsNetAnswer (plain_of s) (Listed schedule) r
  at_end r e g = all_walked s now h.walked (Listed schedule) r (h.delivered ∙ all_taken) g
    where
      all_taken : take k schedule ≡ schedule
      all_taken = grind (arith, common_steps)
