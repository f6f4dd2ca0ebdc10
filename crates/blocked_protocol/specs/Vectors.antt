-- Worked values: two elements in two blocks of one. The first is 6 times 7 with masks 0, the second (1 + 2 + 3) times
-- (4 + 5 + 6) with masks that are not 0. Each block's words stand together: a, b, c of the first, then of the second.
use Rattle.std.specs.Prelude.{◌≡◌, false, [], ◌∷◌, refl}
use Rattle.proto_core.specs.Rings.{add_ring}
use Rattle.proto_core.specs.declared.party.Number.TheVariants.{One, Two, Three}
use Rattle.proto_core.specs.declared.link.Link.TheVariants.{Link13, Link31}
use Rattle.proto_core.specs.Lists.{each, part}
use Rattle.proto_core.specs.Protocol.{Joint, Protocol}
use Rattle.proto_core.specs.Resharing.{reshared}
use Rattle.multiply.specs.Products.{cross}
use Rattle.multiply.specs.Multiplying.{mul_protocol}
use Rattle.proto_core.specs.Joints.{joint_of_two}
use Rattle.split_share.specs.Splitting.{split_protocol}
use Rattle.gates.specs.Blocks.{block_sizes}
use Rattle.blocked_protocol.specs.Blocked.{in_blocks, blocked}

in_ones : Protocol
in_ones = in_blocks (mul_protocol add_ring) (λ n. 1 ∷ 1 ∷ [])

two : Joint
two =
    joint_of_two (0 ∷ 1 ∷ []) (0 ∷ 2 ∷ []) (6 ∷ 3 ∷ []) (0 ∷ 4 ∷ []) (0 ∷ 5 ∷ []) (7 ∷ 6 ∷ [])
    (0 ∷ 0 ∷ 0 ∷ 10 ∷ 20 ∷ 30 ∷ []) (0 ∷ 0 ∷ 0 ∷ 1 ∷ 2 ∷ 3 ∷ []) (0 ∷ 0 ∷ 0 ∷ 7 ∷ 8 ∷ 9 ∷ [])

-- the masks and the factors of the first block, and then those of the second: 3 + 7 - 1 and 6 + 8 - 2
to_first : in_ones.messages 2 two Link31 ≡ (0 ∷ 0 ∷ 0 ∷ []) ∷ (6 ∷ 7 ∷ []) ∷ (7 ∷ 8 ∷ 9 ∷ []) ∷ (9 ∷ 12 ∷ []) ∷ []
unfolding in_ones two reshared each part
to_first = refl

-- 0, and 4 16 + 4 12 + 9 16 + 30 - 9
first_share : in_ones.output 2 two One ≡ (0 ∷ 277 ∷ []) ∷ []
unfolding in_ones two reshared each part cross
first_share = refl

-- for the second miner the first miner's factors, 1 + 10 - 7 and 4 + 20 - 8, stand in the place of the third's a and b
seen_by_second : in_ones.tape 2 Two two Three ≡ 0 ∷ 0 ∷ 0 ∷ 4 ∷ 16 ∷ 9 ∷ []
unfolding in_ones two reshared each part
seen_by_second = refl

-- no elements make no block, and as many empty blocks as the protocol makes
nothing_sent : (blocked (split_protocol false)).messages 0 two Link13 ≡ []
nothing_sent = refl

two_empty : (blocked (split_protocol false)).output 0 two One ≡ [] ∷ [] ∷ []
two_empty = refl

blocks_of_1025 : block_sizes 1025 ≡ 512 ∷ 512 ∷ 1 ∷ []
blocks_of_1025 = refl
