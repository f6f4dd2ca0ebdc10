-- The protocol that shares a value anew: each miner passes its mask to the next one, adds it to its share, and takes
-- the previous miner's mask away. The masks add up to nothing, so the value stays, and no share is as before.
use Rattle.std.specs.Prelude.{◌≡◌, ℕ, if◌then◌else◌, List, [], ◌∷◌}
use Rattle.proto_core.specs.Ring.{Ring}
use Rattle.proto_core.specs.declared.party.Number.{Number}
use Rattle.proto_core.specs.declared.party.Number.TheVariants.{One, Two, Three}
use Rattle.proto_core.specs.Parties.{previous_of, to_next, from_previous, sender_of, is_forward}
use Rattle.proto_core.specs.Strand.{Mail, Sent, Strand, Ends, Acts, Waits, one_field}
use Rattle.proto_core.specs.Script.{Move, Sends, Takes}
use Rattle.proto_core.specs.Net.{mail_of}
use Rattle.proto_core.specs.Protocol.{Joint, Protocol}
use Rattle.proto_core.specs.Resharing.{reshared, reshared_of, sum_of_three}

-- ---- one miner

-- it has its share and its mask; the previous miner's mask comes
abbrev pub reshare_sent : Ring → ℕ → Number → (share mask : List ℕ) → Strand (List (List ℕ))
reshare_sent r n i share mask = Waits (from_previous i) (one_field n) (λ m. Ends (reshared r n share mask m ∷ []))

-- its mask goes to the next miner
abbrev pub reshare_strand : Ring → ℕ → Number → (u words : List ℕ) → Strand (List (List ℕ))
reshare_strand r n i u words = Acts (Sent (to_next i) words) (reshare_sent r n i u words)

abbrev pub reshare_script : ℕ → Number → List Move
reshare_script n i = Sends (to_next i) (one_field n) ∷ Takes (from_previous i) (one_field n) ∷ []

-- ---- all three

abbrev pub reshare_messages : Joint → Mail
reshare_messages j l = if is_forward l then j.words (sender_of l) ∷ [] else []

abbrev pub reshare_output : Ring → ℕ → Joint → Number → List (List ℕ)
reshare_output r n j i = reshared_of r n j i ∷ []

-- a miner receives one message, the mask of the previous one: its view is made of the words as they were drawn
abbrev pub reshare_received : Number → (words : Number → List ℕ) → Mail
reshare_received i words = mail_of i (words (previous_of i) ∷ []) []

abbrev pub reshare_protocol : Ring → Protocol
reshare_protocol r =
    record {
      second = λ n. 0;
      draws = λ n i. n;
      opens = λ n. 0;
      made = λ n. n ∷ [];
      strand = λ n i u v words. reshare_strand r n i u words;
      script = reshare_script;
      messages = λ n j. reshare_messages j;
      output = reshare_output r;
      opened = λ n j. [];
      tape = λ n i j. j.words;
      back = λ n i j. j.words;
      received = λ n i u v words opened. reshare_received i words;
    }

-- the new shares add up to what the old ones did
abbrev pub Reshares : Ring → ℕ → Joint → Type 0
Reshares r n j =
    sum_of_three r n (reshared_of r n j One) (reshared_of r n j Two) (reshared_of r n j Three)
    ≡ sum_of_three r n (j.u One) (j.u Two) (j.u Three)
