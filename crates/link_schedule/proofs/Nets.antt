-- A net, by the states that it may be in; and a message that comes.
use Rattle.std.proofs.Common.{◌≡◌, ◌<◌, ◌≤◌, ℕ, false, List, [], ◌∷◌, ◌++◌, length, refl, sym, ◌∙◌, ap, ap₂, subst, arith}
use Rattle.std.specs.Prelude.{nat_lt, slice_get, is_some, option_map, Option, Some, None, Result, Ok, Err}
use Rattle.outside.specs.Tapes.{TapesState}
use Rattle.proto_core.specs.declared.party.Number.{Number}
use Rattle.proto_core.specs.declared.party.Number.TheVariants.{One, Two, Three}
use Rattle.proto_core.specs.declared.link.Link.{Link}
use Rattle.proto_core.specs.Net.{under_way}
use Rattle.proto_core.specs.Parties.{sender_of}
use Rattle.protocol_model.specs.Network.{Counts, chosen, one_more}
use Rattle.counted_net.specs.Cursors.{tally_on}
use Rattle.protocol_model.specs.Runs.{Tapes}
use Rattle.protocol_model.proofs.NetCounts.{lt_from}
use Rattle.miner_core.specs.declared.answer.Lost.{Lost}
use Rattle.miner_core.specs.declared.answer.Lost.TheVariants as lost
use Rattle.miner_core.specs.declared.kept.Kept.{Kept}
use Rattle.miner_core.specs.declared.kept.Kept.TheVariants.{All}
use Rattle.miner_core.specs.Miners.{MinerSeen, IsOf, held}
use Rattle.miner_core.proofs.Miners.{whole_is}
use Rattle.miner_core.specs.Streams.{StreamState}
use Rattle.link_schedule.specs.declared.net.Net3.{Net3}
use Rattle.link_schedule.specs.Coming.{drawn_by, left_to}
use Rattle.link_schedule.specs.Miners.{MinerStates, state_in, streams, sent_on, fetched, way_of}
use Rattle.link_schedule.specs.Miners.{passed, CanPass, HasPassed, IsNetAtWork, IsNetOf, IsMinerAt, IsOnItsWay, GoesAlong, KeepSo}
use Rattle.link_schedule.specs.Net.{NetState, net_mail, net_posted, nodes_in, is_under_way}
use Rattle.link_schedule.specs.Parts.{sent_in}
use Rattle.link_schedule.specs.Streams.{StreamNet, past_in, miner_in, stories_with, with_tapes, net_of, AreTapesOf, MayHave, ForEachTapes, HasLeft, IsMinerOf}
use Rattle.link_schedule.proofs.Giving.{Held, InNet, net_at, left_at, miner_at, may_with, given_not, given_late, given_net, given_along}
use Rattle.link_schedule.proofs.Joining.{came_was_sent, sent_is, some_under_way, none_under_way}
use Rattle.link_schedule.proofs.Along.{along_here}
use Rattle.link_schedule.proofs.Made.{begins_length}
use Rattle.link_schedule.proofs.Making.{chosen_full, net_full}
use Rattle.link_schedule.proofs.Ordering.{Delivered}
use Rattle.link_schedule.proofs.Passing.{all_tapes, each_tape, one_fetched, sent_so}

not_lost : (why : Lost) → Some why ≡ None → ⊥
not_lost why e = cc

stream_at : (w : MinerStates) (i : Number) → miner_in (streams w) i ≡ (state_in w i).stream
stream_at w One = refl
stream_at w Two = refl
stream_at w Three = refl

-- a link that was chosen has a message under way
pub chosen_on_way : (t : StreamNet) (word : ℕ) (chose : Option Link) (l : Link) → ForEachTapes t (λ net. chose ≡ chosen word (net_full net)) → chose ≡ Some l →
    IsOnItsWay l t
chosen_on_way t word chose l choice is = λ going tapes may. chosen_full (with_tapes t tapes) word l (sym (choice going tapes may) ∙ is)

module _ (s : StreamNet) (n : Net3) (is : IsNetAtWork n s) where
  abbrev pub work_held : Held
  work_held = record { miners = streams is.states; links = n.recorded.items; given = fetched is.states; lost = None }

  pub work_going : s.lost ≡ None
  work_going = sym (ap (λ (x : StreamNet). x.lost) is.same)

  pub work_links : length s.delivered ≡ length n.recorded.items
  work_links = ap (λ (x : StreamNet). length x.delivered) (sym is.same)

  pub work_at : (tapes : Tapes) → MayHave s tapes → InNet s work_held tapes
  work_at tapes may = net_at s work_held is.same (λ h. is.joined) work_going tapes may

  -- the tapes that its miners may have
  pub work_may : (tapes : Tapes) → MayHave s tapes → AreTapesOf (drawn_by (streams is.states)) (left_to (streams is.states)) tapes
  work_may tapes may = (work_at tapes may).may

  -- a miner of it, which stands for that of the state
  pub miner_of_net : {P : Type 0} (i : Number) (m : MinerSeen P) → IsOf i m (state_in is.states i) → IsMinerAt s i m
  miner_of_net i m of =
      record {
        state = state_in is.states i;
        of = of;
        is = subst (IsMinerOf s i) (stream_at is.states i) (miner_at s work_held is.same (λ h. is.joined) work_going i);
      }

  -- whether a message is under way, by the oldest that was not fetched
  pub found_under_way :
      {A : Type 0} (o : Option A) (f : A → List ℕ) (l : Link) (tapes : Tapes) → MayHave s tapes →
      option_map f o ≡ slice_get (sent_in (stories_with (streams is.states) tapes) l) (fetched is.states l) → is_some o ≡ is_under_way (with_tapes s tapes) l
  found_under_way None f l tapes may e =
      sym (none_under_way (with_tapes s tapes) (stories_with (streams is.states) tapes) (fetched is.states) (work_at tapes may).net l None e)
  found_under_way (Some x) f l tapes may e =
      sym (some_under_way (with_tapes s tapes) (stories_with (streams is.states) tapes) (fetched is.states) (work_at tapes may).net l (Some (f x)) e).0

  -- ---- a message comes

  module _ (l : Link) (a : TapesState) (left : HasLeft s a) (full : IsOnItsWay l s) where
    more_sent : (tapes : Tapes) → MayHave s tapes → fetched is.states l < length (sent_in (stories_with (streams is.states) tapes) l)
    more_sent tapes may =
        let here = work_at tapes may in
        let m = stories_with (streams is.states) tapes in
        lt_from _ _
        (ap₂ nat_lt (here.net.counted l) (ap length (sent_is (with_tapes s tapes) m here.net.parts l)) ∙ full work_going tapes may)

    pub can_pass : CanPass l n.miners is.states a
    can_pass =
        record {
          are = is.are;
          usable = is.joined.going;
          left = left_at s work_held is.same (λ h. is.joined) work_going a left;
          has =
              each_tape (streams is.states) (sender_of l) (λ st. fetched is.states l < length (sent_on (way_of l) (sender_of l) st)) is.joined.going
              (λ usable tapes of.
              subst (λ xs. fetched is.states l < length xs) (sent_so l (stories_with (streams is.states) tapes))
              (more_sent tapes (subst (λ x. MayHave x tapes) is.same (may_with (streams is.states) n.recorded.items None tapes of))));
        }

    module _ (n2 : Net3) (b : TapesState) where
      message_is : {r : Result (Unit {0}) Lost} (h : HasPassed l is.states n2.miners a b r) →
          ForEachTapes s (λ net. under_way (nodes_in net) (net_mail net) l ≡ h.message ∷ [])
      message_is h = λ going tapes may.
          let here = work_at tapes may in
          let m = stories_with (streams is.states) tapes in
          let oldest =
          all_tapes (streams is.states) (sender_of l) (λ st. slice_get (sent_on (way_of l) (sender_of l) st) (fetched is.states l) ≡ Some h.message) h.oldest
          here.usable tapes here.may in
          (some_under_way (with_tapes s tapes) m (fetched is.states) here.net l (Some h.message)
          (sym (ap (λ xs. slice_get xs (fetched is.states l)) (sent_so l m) ∙ oldest))).1

      pub goes_delivered : HasPassed l is.states n2.miners a b (Ok tt) → n2.recorded.items ≡ n.recorded.items ++ l ∷ [] →
          ((k : Link) → tally_on n2.given k ≡ one_more l (tally_on n.given) k) → n2.lost ≡ None → GoesAlong s n2 a b None (Delivered l (Ok tt))
      goes_delivered h more one going_on =
          let w = passed l h.stream is.states in
          record {
            then = net_of (streams w) n2.recorded.items None;
            along =
                given_along s work_held is.same (λ k. is.joined) work_going (streams w) a b l h.message left full (message_is h) n2.recorded.items more
                (fetched w) (λ k. one_fetched l k h.stream is.states) h.comes;
            is = record {
              lost = going_on;
              recorded = refl;
              works = λ going.
                  record {
                    states = w;
                    are = h.are;
                    joined =
                        given_net s work_held is.same (λ k. is.joined) work_going (streams w) a b l h.message left full (message_is h)
                        n2.recorded.items more (fetched w) (λ k. one_fetched l k h.stream is.states) h.comes;
                    same = refl;
                    counted = λ k.
                        one k
                        ∙ ap (λ (given : Counts). one_more l given k) (λ d. λ j. is.counted j d)
                        ∙ sym (one_fetched l k h.stream is.states);
                  };
            };
          }

      -- or it is lost
      lost_now : (why : Lost) (stream : StreamState) → n2.lost ≡ Some why →
          IsNetOf n2 (net_of (streams (passed l stream is.states)) n2.recorded.items (Some why))
      lost_now why stream gone = record { lost = gone; recorded = refl; works = λ going. absurd (not_lost why going) }

      pub goes_lost : (why : Lost) → HasPassed l is.states n2.miners a b (Err why) → n2.lost ≡ Some why → GoesAlong s n2 a b (Some why) (Delivered l (Err why))
      goes_lost why h gone =
          record {
            then = net_of (streams (passed l h.stream is.states)) n2.recorded.items (Some why);
            along =
                given_not s work_held is.same (λ k. is.joined) work_going (streams (passed l h.stream is.states)) a b l h.message why
                n2.recorded.items h.comes;
            is = lost_now why h.stream gone;
          }

      pub goes_late : HasPassed l is.states n2.miners a b (Ok tt) → n2.lost ≡ Some lost.Memory →
          GoesAlong s n2 a b (Some lost.Memory) (Delivered l (Err lost.Memory))
      goes_late h gone =
          record {
            then = net_of (streams (passed l h.stream is.states)) n2.recorded.items (Some lost.Memory);
            along =
                given_late s work_held is.same (λ k. is.joined) work_going (streams (passed l h.stream is.states)) a b l h.message
                n2.recorded.items h.comes;
            is = lost_now lost.Memory h.stream gone;
          }

-- ---- a net that was lost, and one that was not

pub use_of : (n : Net3) (s : StreamNet) → IsNetOf n s → n.lost ≡ None → s.lost ≡ None
use_of n s is going = sym is.lost ∙ going

pub used_so : (n : Net3) (s : StreamNet) → IsNetOf n s → s.lost ≡ None → n.lost ≡ None
used_so n s is going = is.lost ∙ going

-- it has come this far with no delivery
pub goes_nowhere : (s : StreamNet) (n : Net3) (a : TapesState) (Q : (before after : NetState) → Type 0) → IsNetOf n s → s.lost ≡ None → HasLeft s a →
    ((tapes : Tapes) → MayHave s tapes → Q (with_tapes s tapes) (with_tapes s tapes)) → GoesAlong s n a a None Q
goes_nowhere s n a Q is going left each = record { then = s; along = along_here s a Q going left each; is = is }

-- how many messages were sent on a link of which all are delivered
pub all_sent : (net : NetState) (l : Link) (k : ℕ) → k ≡ length (net_mail net l) → is_under_way net l ≡ false → k ≡ length (net_posted net l)
all_sent net l k counted none =
    let fewer = begins_length (net_mail net l) (net_posted net l) (came_was_sent net l) in
    let past = not_below (length (net_mail net l)) (length (net_posted net l)) none in
    omega (arith, counted, fewer, past)
  where
    not_below : (x y : ℕ) → nat_lt x y ≡ false → y ≤ x
    not_below x y e = grind (arith, e)

-- its miners keep what they kept before
pub keep_on : (past : Kept) (n n2 : Net3) (s t : StreamNet) → IsNetOf n s → s.lost ≡ None → IsNetOf n2 t → t.lost ≡ None →
    ((i : Number) → past_in t i ≡ past_in s i) → KeepSo past n → KeepSo past n2
keep_on past n n2 s t is going is2 going2 same keeps =
    let h = is.works going in
    let k = is2.works going2 in
    record {
      one =
          k.are.one.past ∙ ap (λ (x : StreamNet). past_in x One) k.same ∙ same One ∙ sym (ap (λ (x : StreamNet). past_in x One) h.same)
          ∙ sym h.are.one.past ∙ keeps.one;
      two =
          k.are.two.past ∙ ap (λ (x : StreamNet). past_in x Two) k.same ∙ same Two ∙ sym (ap (λ (x : StreamNet). past_in x Two) h.same)
          ∙ sym h.are.two.past ∙ keeps.two;
      three =
          k.are.three.past ∙ ap (λ (x : StreamNet). past_in x Three) k.same ∙ same Three ∙ sym (ap (λ (x : StreamNet). past_in x Three) h.same)
          ∙ sym h.are.three.past ∙ keeps.three;
    }

-- a miner that keeps all stands for itself
pub kept_miner : {P : Type 0} (s : StreamNet) (i : Number) (m : MinerSeen P) → m.past ≡ All → IsMinerAt s i m → IsMinerOf s i (held m)
kept_miner s i m keeps at = subst (IsMinerOf s i) (sym (whole_is i m at.state at.of keeps (at.of.lost ∙ at.is.going))) at.is
