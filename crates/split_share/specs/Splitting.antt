-- The protocol that splits a number shared modulo 2^64 into two words, shared by xor, whose sum or difference it is.
use Rattle.std.specs.Prelude.{◌≡◌, ℕ, Bool, true, false, List, [], ◌∷◌}
use Rattle.proto_core.specs.Parties.{of_three}
use Rattle.proto_core.specs.Rings.{add_ring, xor_ring}
use Rattle.proto_core.specs.declared.link.Link.TheVariants.{Link12, Link13}
use Rattle.proto_core.specs.declared.party.Number.{Number}
use Rattle.proto_core.specs.declared.party.Number.TheVariants.{One, Two, Three}
use Rattle.proto_core.specs.Elementwise.{plus, minus, zeros}
use Rattle.proto_core.specs.Strand.{Mail, one_field}
use Rattle.proto_core.specs.Script.{Move, Sends, Takes}
use Rattle.proto_core.specs.Protocol.{Joint, Protocol}
use Rattle.proto_core.specs.Resharing.{sum_of_three}
use Rattle.split_share.specs.SplitStrand.{signed_sum, split_strand}

abbrev pub split_draws : ℕ → Number → ℕ
split_draws n = of_three n 0 0

abbrev pub split_script : ℕ → Number → List Move
split_script n One = Sends Link12 (one_field n) ∷ Sends Link13 (one_field n) ∷ []
split_script n Two = Takes Link12 (one_field n) ∷ []
split_script n Three = Takes Link13 (one_field n) ∷ []

-- ---- of all three, by miner 1's word k

-- u_1 - k
abbrev pub rest_of_one : ℕ → Joint → List ℕ
rest_of_one n j = minus add_ring n (j.u One) (j.words One)

abbrev pub split_messages : ℕ → Joint → Mail
split_messages n j Link12 = j.words One ∷ []
split_messages n j Link13 = rest_of_one n j ∷ []
split_messages n j _ = []

-- the shares of the first word: u_2 + k at miner 2
abbrev pub first_word : ℕ → Joint → Number → List ℕ
first_word n j One = zeros xor_ring n
first_word n j Two = signed_sum false n (j.u Two) (j.words One)
first_word n j Three = zeros xor_ring n

-- the shares of the second: u_3 + u_1 - k at miner 3, or its negative
abbrev pub second_word : Bool → ℕ → Joint → Number → List ℕ
second_word negated n j One = zeros xor_ring n
second_word negated n j Two = zeros xor_ring n
second_word negated n j Three = signed_sum negated n (j.u Three) (rest_of_one n j)

-- k becomes u_1 - k for miner 3
abbrev pub split_tape : ℕ → Number → Joint → Number → List ℕ
split_tape n Three j One = rest_of_one n j
split_tape n _ j m = j.words m

abbrev pub split_received : (words : Number → List ℕ) → Mail
split_received words Link12 = words One ∷ []
split_received words Link13 = words One ∷ []
split_received words _ = []

abbrev pub split_protocol : Bool → Protocol
split_protocol negated =
    record {
      second = λ n. 0;
      draws = split_draws;
      opens = λ n. 0;
      made = λ n. n ∷ n ∷ [];
      strand = λ n i u v words. split_strand negated n i u words;
      script = split_script;
      messages = split_messages;
      output = λ n j i. first_word n j i ∷ second_word negated n j i ∷ [];
      opened = λ n j. [];
      tape = split_tape;
      back = split_tape;
      received = λ n i u v words opened. split_received words;
    }

-- the value that three miners share by xor
abbrev pub value_of : ℕ → (Number → List ℕ) → List ℕ
value_of n s = sum_of_three xor_ring n (s One) (s Two) (s Three)

-- x + y, or x - y
abbrev pub sum_or_difference : Bool → ℕ → (x y : List ℕ) → List ℕ
sum_or_difference false n x y = plus add_ring n x y
sum_or_difference true n x y = minus add_ring n x y

-- the two words' sum, or their difference, is the number
abbrev pub Splits : Bool → ℕ → Joint → Type 0
Splits negated n j =
    sum_or_difference negated n (value_of n (first_word n j)) (value_of n (second_word negated n j))
    ≡ sum_of_three add_ring n (j.u One) (j.u Two) (j.u Three)
