-- The shares and drawn words of three miners, each given as a list of its own.
use Rattle.std.specs.Prelude.{ℕ, List, []}
use Rattle.proto_core.specs.Parties.{of_three}
use Rattle.proto_core.specs.Protocol.{Joint}

-- for a protocol of one operand
abbrev pub joint_of : (u1 u2 u3 words1 words2 words3 : List ℕ) → Joint
joint_of u1 u2 u3 words1 words2 words3 =
    record { u = of_three u1 u2 u3; v = λ i. []; words = of_three words1 words2 words3 }

-- for a protocol of two
abbrev pub joint_of_two : (u1 u2 u3 v1 v2 v3 words1 words2 words3 : List ℕ) → Joint
joint_of_two u1 u2 u3 v1 v2 v3 words1 words2 words3 =
    record { u = of_three u1 u2 u3; v = of_three v1 v2 v3; words = of_three words1 words2 words3 }
