-- Worked values of the definitions, in both rings.
use Rattle.std.specs.Prelude.{◌≡◌, ℕ, List, [], ◌∷◌, refl}
use Rattle.proto_core.specs.Rings.{add_ring, xor_ring}
use Rattle.proto_core.specs.declared.party.Number.TheVariants.{One, Two, Three}
use Rattle.proto_core.specs.declared.link.Link.TheVariants.{Link12, Link13, Link21, Link23, Link31, Link32}
use Rattle.proto_core.specs.Lists.{each}
use Rattle.proto_core.specs.Protocol.{Joint, strands_of}
use Rattle.proto_core.specs.Resharing.{reshared}
use Rattle.proto_core.specs.Strand.{Sent, Strand, Ends, run}
use Rattle.proto_core.specs.Net.{into, mail_of, nothing, posted}
use Rattle.proto_core.specs.Joints.{joint_of}
use Rattle.reshare.specs.Resharing.{reshare_messages, reshare_output, reshare_protocol, reshare_received, reshare_sent, reshare_strand}

-- ---- the shares 0, 0, 42 of a product, with words that are 0: nothing changes
abbrev plain : Joint
plain = joint_of (0 ∷ []) (0 ∷ []) (42 ∷ []) (0 ∷ []) (0 ∷ []) (0 ∷ [])

plain_first : reshare_output add_ring 1 plain One ≡ (0 ∷ []) ∷ []
unfolding reshared each
plain_first = refl

plain_third : reshare_output add_ring 1 plain Three ≡ (42 ∷ []) ∷ []
unfolding reshared each
plain_third = refl

-- ---- two elements, with words that wrap
abbrev wrapping : Joint
wrapping =
    joint_of (5 ∷ 1 ∷ []) (6 ∷ 2 ∷ []) (18446744073709551615 ∷ 3 ∷ []) (7 ∷ 0 ∷ []) (9 ∷ 0 ∷ [])
    (2 ∷ 18446744073709551615 ∷ [])

-- masks go round, each to the next miner, and nothing goes back
mask_12 : reshare_messages wrapping Link12 ≡ (7 ∷ 0 ∷ []) ∷ []
mask_12 = refl

mask_23 : reshare_messages wrapping Link23 ≡ (9 ∷ 0 ∷ []) ∷ []
mask_23 = refl

mask_31 : reshare_messages wrapping Link31 ≡ (2 ∷ 18446744073709551615 ∷ []) ∷ []
mask_31 = refl

none_13 : reshare_messages wrapping Link13 ≡ []
none_13 = refl

none_21 : reshare_messages wrapping Link21 ≡ []
none_21 = refl

none_32 : reshare_messages wrapping Link32 ≡ []
none_32 = refl

share_of_first : reshare_output add_ring 2 wrapping One ≡ (10 ∷ 2 ∷ []) ∷ []
unfolding reshared each
share_of_first = refl

share_of_second : reshare_output add_ring 2 wrapping Two ≡ (8 ∷ 2 ∷ []) ∷ []
unfolding reshared each
share_of_second = refl

share_of_third : reshare_output add_ring 2 wrapping Three ≡ (18446744073709551608 ∷ 2 ∷ []) ∷ []
unfolding reshared each
share_of_third = refl

share_of_first_by_xor : reshare_output xor_ring 2 wrapping One ≡ (0 ∷ 18446744073709551614 ∷ []) ∷ []
unfolding reshared each
share_of_first_by_xor = refl

-- the second miner's view: the first one's mask
got_by_second : reshare_received Two wrapping.words Link12 ≡ (7 ∷ 0 ∷ []) ∷ []
got_by_second = refl

-- ---- the three parts run: all masks are sent at once
first_round : posted (strands_of (reshare_protocol add_ring) 2 wrapping) nothing Link31 ≡ (2 ∷ 18446744073709551615 ∷ []) ∷ []
first_round = refl

-- one miner's part, run with the message that comes
abbrev part_of_second : Strand (List (List ℕ))
part_of_second = reshare_strand add_ring 2 Two (wrapping.u Two) (wrapping.words Two)

acts_of_second : (run part_of_second (into Two (reshare_messages wrapping))).acts ≡ Sent Link23 (9 ∷ 0 ∷ []) ∷ []
acts_of_second = refl

end_of_second : (run part_of_second (into Two (reshare_messages wrapping))).left ≡ Ends ((8 ∷ 2 ∷ []) ∷ [])
unfolding reshared each
end_of_second = refl

-- a message of another length is not taken
refused_by_second : (run part_of_second (mail_of Two ((7 ∷ []) ∷ []) [])).left ≡ reshare_sent add_ring 2 Two (6 ∷ 2 ∷ []) (9 ∷ 0 ∷ [])
refused_by_second = refl
