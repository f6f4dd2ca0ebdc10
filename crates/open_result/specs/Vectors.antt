-- Worked values of the definitions, in both rings.
use Rattle.std.specs.Prelude.{◌≡◌, ℕ, List, [], ◌∷◌, refl}
use Rattle.proto_core.specs.Rings.{add_ring, xor_ring}
use Rattle.proto_core.specs.declared.party.Number.TheVariants.{One, Two}
use Rattle.proto_core.specs.declared.link.Link.TheVariants.{Link12, Link13, Link21, Link23, Link31, Link32}
use Rattle.proto_core.specs.Lists.{each}
use Rattle.proto_core.specs.Protocol.{Joint}
use Rattle.proto_core.specs.Resharing.{reshared, sum_of_three}
use Rattle.proto_core.specs.Strand.{Sent, Opened, Strand, Ends, run}
use Rattle.proto_core.specs.Net.{into, mail_of}
use Rattle.proto_core.specs.Joints.{joint_of}
use Rattle.open_result.specs.Opening.{open_strand, open_masked, open_messages, open_tape, open_received, opened_words}

-- ---- 13, dealt by words that are 0, with masks that are 0
abbrev plain : Joint
plain = joint_of (0 ∷ []) (0 ∷ []) (13 ∷ []) (0 ∷ []) (0 ∷ []) (0 ∷ [])

plain_12 : open_messages add_ring 1 plain Link12 ≡ (0 ∷ []) ∷ (0 ∷ []) ∷ []
unfolding reshared each
plain_12 = refl

plain_13 : open_messages add_ring 1 plain Link13 ≡ (0 ∷ []) ∷ []
unfolding reshared each
plain_13 = refl

plain_21 : open_messages add_ring 1 plain Link21 ≡ (0 ∷ []) ∷ []
unfolding reshared each
plain_21 = refl

plain_23 : open_messages add_ring 1 plain Link23 ≡ (0 ∷ []) ∷ (0 ∷ []) ∷ []
unfolding reshared each
plain_23 = refl

plain_31 : open_messages add_ring 1 plain Link31 ≡ (0 ∷ []) ∷ (13 ∷ []) ∷ []
unfolding reshared each
plain_31 = refl

plain_32 : open_messages add_ring 1 plain Link32 ≡ (13 ∷ []) ∷ []
unfolding reshared each
plain_32 = refl

plain_opened : opened_words add_ring 1 plain ≡ 13 ∷ []
unfolding reshared sum_of_three each
plain_opened = refl

-- ---- two elements, with masks and words that wrap
abbrev wrapping : Joint
wrapping =
    joint_of (5 ∷ 1 ∷ []) (6 ∷ 2 ∷ []) (18446744073709551615 ∷ 3 ∷ []) (7 ∷ 0 ∷ []) (9 ∷ 0 ∷ [])
    (2 ∷ 18446744073709551615 ∷ [])

from_first : open_messages add_ring 2 wrapping Link12 ≡ (7 ∷ 0 ∷ []) ∷ (10 ∷ 2 ∷ []) ∷ []
unfolding reshared each
from_first = refl

from_first_back : open_messages add_ring 2 wrapping Link13 ≡ (10 ∷ 2 ∷ []) ∷ []
unfolding reshared each
from_first_back = refl

from_third_back : open_messages add_ring 2 wrapping Link32 ≡ (18446744073709551608 ∷ 2 ∷ []) ∷ []
unfolding reshared each
from_third_back = refl

opened : opened_words add_ring 2 wrapping ≡ 10 ∷ 6 ∷ []
unfolding reshared sum_of_three each
opened = refl

-- the second miner's mask, as the first miner's view is made of it
slot_of_first : open_tape add_ring 2 One wrapping Two ≡ 18446744073709551608 ∷ 2 ∷ []
unfolding reshared each
slot_of_first = refl

-- what the first miner makes of its tape and the opened words: the third one's mask and new share, the second one's
made_by_first :
    open_received add_ring 2 One (wrapping.u One) (open_tape add_ring 2 One wrapping) (10 ∷ 6 ∷ []) Link31
    ≡ (2 ∷ 18446744073709551615 ∷ []) ∷ (18446744073709551608 ∷ 2 ∷ []) ∷ []
unfolding reshared each
made_by_first = refl

made_by_first_back :
    open_received add_ring 2 One (wrapping.u One) (open_tape add_ring 2 One wrapping) (10 ∷ 6 ∷ []) Link21
    ≡ (8 ∷ 2 ∷ []) ∷ []
unfolding reshared each
made_by_first_back = refl

from_first_by_xor : open_messages xor_ring 2 wrapping Link12 ≡ (7 ∷ 0 ∷ []) ∷ (0 ∷ 18446744073709551614 ∷ []) ∷ []
unfolding reshared each
from_first_by_xor = refl

from_third_by_xor : open_messages xor_ring 2 wrapping Link32 ≡ (18446744073709551604 ∷ 18446744073709551612 ∷ []) ∷ []
unfolding reshared each
from_third_by_xor = refl

opened_by_xor : opened_words xor_ring 2 wrapping ≡ 18446744073709551612 ∷ 0 ∷ []
unfolding reshared sum_of_three each
opened_by_xor = refl

-- ---- one miner's part, run with the messages that come
abbrev part_of_second : Strand (List (List ℕ))
part_of_second = open_strand add_ring 2 Two (wrapping.u Two) (wrapping.words Two)

acts_of_second :
    (run part_of_second (into Two (open_messages add_ring 2 wrapping))).acts
    ≡ Sent Link23 (9 ∷ 0 ∷ []) ∷ Sent Link23 (8 ∷ 2 ∷ []) ∷ Sent Link21 (8 ∷ 2 ∷ []) ∷ Opened (10 ∷ 6 ∷ []) ∷ []
unfolding reshared sum_of_three each
acts_of_second = refl

end_of_second : (run part_of_second (into Two (open_messages add_ring 2 wrapping))).left ≡ Ends ((10 ∷ 6 ∷ []) ∷ [])
unfolding reshared sum_of_three each
end_of_second = refl

-- a message of another length is not taken
refused_by_second : (run part_of_second (mail_of Two ((7 ∷ []) ∷ []) [])).left ≡ open_masked add_ring 2 Two (6 ∷ 2 ∷ []) (9 ∷ 0 ∷ [])
refused_by_second = refl
