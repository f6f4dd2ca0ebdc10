-- What a delivery comes to, the shapes of messages have no part in it.
use Rattle.std.proofs.Common.{◌≡◌, ℕ, zero, suc, ◌+◌, Bool, true, false, if◌then◌else◌, List, [], ◌∷◌, length, refl, sym, ◌∙◌, ap, subst}
use Rattle.std.specs.Option.{option_map_or}
use Rattle.std.specs.Prelude.{nat_lt, Option, Some, Result, Ok, Err, Vec, filter}
use Rattle.std.specs.declared.alloc.Global.{Global}
use Rattle.proto_core.specs.declared.party.Number.{Number}
use Rattle.proto_core.specs.declared.link.Link.{Link}
use Rattle.proto_core.specs.Parties.{sender_of}
use Rattle.proto_core.specs.Script.{Move, Sends, Takes, sends_on}
use Rattle.proto_core.specs.Strand.{same_link}
use Rattle.protocol_model.specs.Network.{Answer, Counts, Default, Delivery, EmptyLink, Listed, Shuffled, all_links, at_the_end, chosen, counted}
use Rattle.protocol_model.specs.Network.{into_counts, is_full, made_order, net, none_delivered, one_less, one_more, order_of, posted_count, sends_in_all}
use Rattle.protocol_model.specs.Network.{sent_by, stands_at, total}
use Rattle.counted_net.specs.declared.moves.Scripts.{Scripts}
use Rattle.counted_net.specs.declared.delivery.DeliveryErr.{DeliveryErr}
use Rattle.counted_net.specs.declared.delivery.DeliveryErr.TheVariants as err
use Rattle.counted_net.specs.Scripts.{links_in, no_shape, plain, plain_of, AreScripts}
use Rattle.counted_net.specs.Answers.{IsNetAnswer}

-- ---- one script

abbrev forgotten : List Move → List Move
forgotten moves = plain (links_in moves)

sent_same : (moves : List Move) (got : Counts) (l : Link) → sent_by (forgotten moves) got l ≡ sent_by moves got l
sent_same [] got l = refl
sent_same (Sends k shape ∷ moves) got l = ap (λ n. (if same_link l k then 1 else 0) + n) (sent_same moves got l)
sent_same (Takes k shape ∷ moves) got l =
    ap (λ m. elim (got k) as (λ _. ℕ) [ zero ↦ 0 | suc _ ↦ m ]) (sent_same moves (one_less k got) l)

stands_same : (moves : List Move) (got : Counts) → stands_at (forgotten moves) got ≡ stands_at moves got
stands_same [] got = refl
stands_same (Sends k shape ∷ moves) got = stands_same moves got
stands_same (Takes k shape ∷ moves) got =
    ap (λ o. elim (got k) as (λ _. Option Link) [ zero ↦ Some k | suc _ ↦ o ]) (stands_same moves (one_less k got))

sends_same : (l : Link) (moves : List Move) → length (sends_on l (forgotten moves)) ≡ length (sends_on l moves)
sends_same l [] = refl
sends_same l (Sends k shape ∷ moves) =
    elim (same_link l k) as
    (λ b. length (if b then no_shape ∷ sends_on l (forgotten moves) else sends_on l (forgotten moves))
    ≡ length (if b then shape ∷ sends_on l moves else sends_on l moves)) [
      | true ↦ ap suc (sends_same l moves)
      | false ↦ sends_same l moves
    ]
sends_same l (Takes k shape ∷ moves) = sends_same l moves

-- ---- three scripts

module _ (moves : Number → List Move) where
  abbrev all_forgotten : Number → List Move
  all_forgotten i = forgotten (moves i)

  posted_same : (got : Counts) (l : Link) → posted_count all_forgotten got l ≡ posted_count moves got l
  posted_same got l = sent_same (moves (sender_of l)) (into_counts (sender_of l) got) l

  counted_same : (order : List Link) (entry : ℕ) (got : Counts) → counted all_forgotten entry got order ≡ counted moves entry got order
  counted_same [] entry got = ap at_the_end (λ d. λ i. stands_same (moves i) (into_counts i got) d)
  counted_same (l ∷ ls) entry got =
      ap (λ n. if nat_lt (got l) n then counted all_forgotten (entry + 1) (one_more l got) ls else EmptyLink entry l n) (posted_same got l)
      ∙ ap (λ (a : Answer). if nat_lt (got l) (posted_count moves got l) then a else EmptyLink entry l (posted_count moves got l))
      (counted_same ls (entry + 1) (one_more l got))

  full_same : (got : Counts) → filter (is_full all_forgotten got) all_links ≡ filter (is_full moves got) all_links
  full_same got = ap (λ (p : Link → Bool). filter p all_links) (λ d. λ l. ap (nat_lt (got l)) (posted_same got l) d)

  made_same : (words : ℕ → ℕ) (fuel entry : ℕ) (got : Counts) → made_order all_forgotten words fuel entry got ≡ made_order moves words fuel entry got
  made_same words zero entry got = refl
  made_same words (suc fuel) entry got =
      ap (λ ls. option_map_or (λ l. l ∷ made_order all_forgotten words fuel (entry + 1) (one_more l got)) (chosen (words entry) ls) []) (full_same got)
      ∙ ap (λ (more : Link → List Link). option_map_or (λ l. l ∷ more l) (chosen (words entry) (filter (is_full moves got) all_links)) [])
      (λ d. λ l. made_same words fuel (entry + 1) (one_more l got) d)

  all_same : sends_in_all all_forgotten ≡ sends_in_all moves
  all_same = ap total (λ d. λ l. sends_same l (moves (sender_of l)) d)

  made_all_same : (words : ℕ → ℕ)
      → made_order all_forgotten words (sends_in_all all_forgotten) 0 none_delivered ≡ made_order moves words (sends_in_all moves) 0 none_delivered
  made_all_same words =
      ap (λ n. made_order all_forgotten words n 0 none_delivered) all_same ∙ made_same words (sends_in_all moves) 0 none_delivered

  order_same : (given : Delivery) → order_of all_forgotten given ≡ order_of moves given
  order_same Default = made_all_same (λ k. 0)
  order_same (Listed links) = refl
  order_same (Shuffled words) = made_all_same words

  net_same : (given : Delivery) → net all_forgotten given ≡ net moves given
  net_same given = ap (counted all_forgotten 0 none_delivered) (order_same given) ∙ counted_same (order_of moves given) 0 none_delivered

  answer_same : (given : Delivery) (r : Result (Vec Link Global) DeliveryErr) → IsNetAnswer all_forgotten given r → IsNetAnswer moves given r
  answer_same given (Ok order) h = (sym (net_same given) ∙ h.0, h.1 ∙ order_same given)
  answer_same given (Err (err.EmptyLink entry link sent)) h = sym (net_same given) ∙ h
  answer_same given (Err (err.Stalled miner link)) h = sym (net_same given) ∙ h
  answer_same given (Err err.Memory) h = tt

-- a message is under way by the moves' links where it is by the scripts
pub full_of : (s : Scripts) (moves : Number → List Move) → AreScripts moves s → (got : Counts) (l : Link) → is_full (plain_of s) got l ≡ is_full moves got l
full_of s moves are got l =
    ap (λ (m : Number → List Move). is_full m got l) (λ d. λ i. plain (are i d)) ∙ ap (nat_lt (got l)) (posted_same moves got l)

-- what is answered of the moves' links is answered of the scripts
pub answer_of : (s : Scripts) (moves : Number → List Move) → AreScripts moves s → (given : Delivery) (r : Result (Vec Link Global) DeliveryErr)
    → IsNetAnswer (plain_of s) given r → IsNetAnswer moves given r
answer_of s moves are given r h =
    answer_same moves given r (subst (λ (m : Number → List Move). IsNetAnswer m given r) (λ d. λ i. plain (are i d)) h)
