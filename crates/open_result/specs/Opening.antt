-- The protocol that opens a value: the three miners share it anew, each sends its new share to both others, and each
-- adds up all three.
use Rattle.std.specs.Prelude.{◌≡◌, ℕ, if◌then◌else◌, List, [], ◌∷◌}
use Rattle.proto_core.specs.Ring.{Ring}
use Rattle.proto_core.specs.declared.party.Number.{Number}
use Rattle.proto_core.specs.declared.party.Number.TheVariants.{One, Two, Three}
use Rattle.proto_core.specs.Parties.{next_of, previous_of, to_next, to_previous, from_previous, from_next, sender_of, is_forward, is_same}
use Rattle.proto_core.specs.Lists.{at, each}
use Rattle.proto_core.specs.Strand.{Mail, Sent, Opened, Strand, Ends, Acts, Waits, Ran, one_field}
use Rattle.proto_core.specs.Script.{Move, Sends, Takes}
use Rattle.proto_core.specs.Net.{mail_of, nothing}
use Rattle.proto_core.specs.Protocol.{Joint, Protocol}
use Rattle.proto_core.specs.Resharing.{reshared, reshared_of, sum_of_three}

-- ---- one miner

-- it learns these words, and ends with them
abbrev pub open_ends : List ℕ → Strand (List (List ℕ))
open_ends opened = Acts (Opened opened) (Ends (opened ∷ []))

-- it has its new share and the previous miner's; the next miner's comes
abbrev pub open_from_next : Ring → ℕ → Number → (share other : List ℕ) → Strand (List (List ℕ))
open_from_next r n i share other = Waits (from_next i) (one_field n) (λ m. open_ends (sum_of_three r n share other m))

-- it has its new share; the previous miner's comes
abbrev pub open_from_previous : Ring → ℕ → Number → (share : List ℕ) → Strand (List (List ℕ))
open_from_previous r n i share = Waits (from_previous i) (one_field n) (λ m. open_from_next r n i share m)

-- its new share goes to the next miner, then to the previous one
abbrev pub open_sends : Ring → ℕ → Number → (share : List ℕ) → Strand (List (List ℕ))
open_sends r n i share = Acts (Sent (to_next i) share) (Acts (Sent (to_previous i) share) (open_from_previous r n i share))

-- it has its share and its mask; the previous miner's mask comes
abbrev pub open_masked : Ring → ℕ → Number → (share mask : List ℕ) → Strand (List (List ℕ))
open_masked r n i share mask = Waits (from_previous i) (one_field n) (λ m. open_sends r n i (reshared r n share mask m))

-- its mask goes to the next miner
abbrev pub open_strand : Ring → ℕ → Number → (u words : List ℕ) → Strand (List (List ℕ))
open_strand r n i u words = Acts (Sent (to_next i) words) (open_masked r n i u words)

-- all that it does: its mask and its new share to the next miner, its new share to the previous one, and the opened
-- words, with which it ends; no message is left
abbrev pub finished : Number → (mask forward backward opened : List ℕ) → Ran (List (List ℕ))
finished i mask forward backward opened =
    record {
      acts = Sent (to_next i) mask ∷ Sent (to_next i) forward ∷ Sent (to_previous i) backward ∷ Opened opened ∷ [];
      left = Ends (opened ∷ []);
      unread = nothing;
    }

abbrev pub open_script : ℕ → Number → List Move
open_script n i =
    Sends (to_next i) (one_field n) ∷ Takes (from_previous i) (one_field n) ∷ Sends (to_next i) (one_field n)
    ∷ Sends (to_previous i) (one_field n) ∷ Takes (from_previous i) (one_field n) ∷ Takes (from_next i) (one_field n) ∷ []

-- ---- all three

-- to the next miner first the mask and then the new share, to the previous one the new share
abbrev pub open_messages : Ring → ℕ → Joint → Mail
open_messages r n j l =
    if is_forward l
    then j.words (sender_of l) ∷ reshared_of r n j (sender_of l) ∷ []
    else reshared_of r n j (sender_of l) ∷ []

abbrev pub opened_words : Ring → ℕ → Joint → List ℕ
opened_words r n j = sum_of_three r n (reshared_of r n j One) (reshared_of r n j Two) (reshared_of r n j Three)

-- the next miner's mask becomes the previous one's new share; the same map leads back
abbrev pub open_tape : Ring → ℕ → Number → Joint → Number → List ℕ
open_tape r n i j m =
    if is_same m (next_of i)
    then reshared r n (j.u (previous_of i)) (j.words (previous_of i)) (j.words m)
    else j.words m

-- what is left of the opened words without a miner's own new share and the previous one's
abbrev pub left_of_opened : Ring → ℕ → (opened share other : List ℕ) → List ℕ
left_of_opened r n opened share other = each n (λ k. r.sub (r.sub (at opened k) (at share k)) (at other k))

-- from the previous miner its mask, then the slot of the next one's mask; from the next one what the opened words leave
abbrev pub open_received : Ring → ℕ → Number → (u : List ℕ) → (words : Number → List ℕ) → (opened : List ℕ) → Mail
open_received r n i u words opened =
    mail_of i (words (previous_of i) ∷ words (next_of i) ∷ [])
    (left_of_opened r n opened (reshared r n u (words i) (words (previous_of i))) (words (next_of i)) ∷ [])

abbrev pub open_protocol : Ring → Protocol
open_protocol r =
    record {
      second = λ n. 0;
      draws = λ n i. n;
      opens = λ n. n;
      made = λ n. n ∷ [];
      strand = λ n i u v words. open_strand r n i u words;
      script = open_script;
      messages = open_messages r;
      output = λ n j i. opened_words r n j ∷ [];
      opened = opened_words r;
      tape = open_tape r;
      back = open_tape r;
      received = λ n i u v words opened. open_received r n i u words opened;
    }

-- each miner has the value: the ring's sum of the three shares
abbrev pub Opens : Ring → ℕ → Joint → Type 0
Opens r n j = opened_words r n j ≡ sum_of_three r n (j.u One) (j.u Two) (j.u Three)
