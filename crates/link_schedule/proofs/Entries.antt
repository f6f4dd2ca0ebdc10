-- A net at an entry of a schedule.
use Rattle.std.proofs.Common.{◌≡◌, ℕ, ◌+◌, ◌-◌, ◌<◌, true, false, List, [], ◌∷◌, ◌++◌, length, take, drop, get_or}
use Rattle.std.proofs.Common.{length-append, refl, sym, ◌∙◌, ap, arith}
use Rattle.std.proofs.lemmas.Grind.{common_steps}
use Rattle.std.proofs.lemmas.List.{append_assoc, take_more, drop_more}
use Rattle.std.specs.Prelude.{Result, Ok, Err}
use Rattle.proto_core.specs.declared.link.Link.{Link}
use Rattle.proto_core.specs.Net.{delivered}
use Rattle.proto_core.proofs.Beginnings.{append-none}
use Rattle.protocol_model.specs.Network.{EmptyLink, walked}
use Rattle.link_schedule.specs.declared.errors.RunErr.{RunErr}
use Rattle.link_schedule.specs.declared.errors.RunErr.TheVariants as running
use Rattle.link_schedule.specs.Net.{NetState, nodes_in, net_mail, net_posted, is_under_way, after}
use Rattle.link_schedule.specs.Answers.{net_walked, RunAnswers, EndAnswers}
use Rattle.link_schedule.proofs.Joining.{after_mail}
use Rattle.protocol_model.proofs.Choosing.{one_longer}
use Rattle.link_schedule.proofs.Walks.{entry_goes, entry_stops}

pub after_none : (net : NetState) → after net [] ≡ net
after_none net = ap (λ ls. record net { delivered = ls }) (append-none net.delivered)

pub after_twice : (net : NetState) (xs ys : List Link) → after (after net xs) ys ≡ after net (xs ++ ys)
after_twice net xs ys = ap (λ ls. record net { delivered = ls }) (append_assoc net.delivered xs ys)

-- this many entries were delivered
pub record AtEntry (old now : NetState) (schedule : List Link) (k : ℕ) : Type 0 where
  pub going : now.lost ≡ false
  pub here : now ≡ after old (take k schedule)
  pub walks : net_walked old schedule ≡ net_walked now (drop k schedule)

pub at_first : (old : NetState) (schedule : List Link) → old.lost ≡ false → AtEntry old old schedule 0
at_first old schedule h = record { going = h; here = sym (after_none old); walks = refl }

module _ (old now : NetState) (schedule : List Link) (k : ℕ) (h : AtEntry old now schedule k) where
  entry_done : (l : Link) (ls : List Link) → is_under_way now l ≡ true → net_walked now (l ∷ ls) ≡ net_walked (after now (l ∷ [])) ls
  entry_done l ls full =
      entry_goes (nodes_in now) (length now.delivered) (net_mail now) l ls full
      ∙ ap (λ n. walked (nodes_in now) n (delivered (nodes_in now) (net_mail now) l) ls) (sym (one_longer now.delivered l))
      ∙ ap (λ x. walked (nodes_in now) (length (now.delivered ++ l ∷ [])) x ls) (sym (after_mail now (l ∷ [])))

  pub at_next : (d : Link) (then : NetState) → k < length schedule → is_under_way now (get_or schedule k d) ≡ true →
      then ≡ after now (get_or schedule k d ∷ []) → AtEntry old then schedule (k + 1)
  at_next d then below full is =
      let l = get_or schedule k d in
      record {
        going = ap (λ (n : NetState). n.lost) is ∙ h.going;
        here =
            is ∙ ap (λ n. after n (l ∷ [])) h.here
            ∙ after_twice old (take k schedule) (l ∷ [])
            ∙ ap (after old) (sym (take_more schedule k d below));
        walks =
            h.walks
            ∙ ap (net_walked now) (drop_more schedule k d below)
            ∙ entry_done l (drop (k + 1) schedule) full
            ∙ ap (λ n. net_walked n (drop (k + 1) schedule)) (sym is);
      }

  pub at_empty : (d : Link) (then : NetState) (entry : ℕ) (link : Link) (sent : ℕ) → k < length schedule → is_under_way now (get_or schedule k d) ≡ false →
      entry ≡ length now.delivered → link ≡ get_or schedule k d → sent ≡ length (net_posted now (get_or schedule k d)) → then ≡ now →
      RunAnswers old then schedule (Err (running.EmptyLink entry link sent))
  at_empty d then entry link sent below empty e1 e2 e3 is =
      let l = get_or schedule k d in (
        h.walks
            ∙ ap (net_walked now) (drop_more schedule k d below)
            ∙ entry_stops (nodes_in now) (length now.delivered) (net_mail now) l (drop (k + 1) schedule) empty
            ∙ ap (λ n. EmptyLink n l (length (net_posted now l))) (sym e1)
            ∙ ap (λ v. EmptyLink entry v (length (net_posted now l))) (sym e2)
            ∙ ap (EmptyLink entry link) (sym e3),
        is ∙ h.here ∙ ap (λ n. after old (take n schedule)) (sym entry_is),
      )
    where
      taken_length : length (take k schedule) ≡ k
      taken_length = grind (arith, common_steps)

      entry_is : entry - length old.delivered ≡ k
      entry_is =
          let a = ap (λ (n : NetState). length n.delivered) h.here in
          let b = length-append old.delivered (take k schedule) in
          let c = taken_length in
          omega arith

  pub at_end : (r : Result (Unit {0}) RunErr) → k ≡ length schedule → EndAnswers now r → RunAnswers old now schedule r
  at_end r e g = by_answer r g
    where
      none_left : drop k schedule ≡ []
      none_left = grind (arith, common_steps)

      all_taken : take k schedule ≡ schedule
      all_taken = grind (arith, common_steps)

      walks_is : net_walked old schedule ≡ net_walked now []
      walks_is = h.walks ∙ ap (net_walked now) none_left

      by_answer : (r : Result (Unit {0}) RunErr) → EndAnswers now r → RunAnswers old now schedule r
      by_answer (Ok done) g = (walks_is ∙ g, h.here ∙ ap (after old) all_taken)
      by_answer (Err (running.Stalled miner link)) g = (walks_is ∙ g, h.here ∙ ap (after old) all_taken)
      by_answer (Err (running.EmptyLink entry link sent)) g = absurd g
      by_answer (Err (running.Lost why)) g = absurd g
