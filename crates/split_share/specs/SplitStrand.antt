-- Splitting, as each miner does it.
use Rattle.std.specs.Prelude.{ℕ, Bool, true, false, List, [], ◌∷◌}
use Rattle.proto_core.specs.Rings.{add_ring, xor_ring}
use Rattle.proto_core.specs.declared.party.Number.{Number}
use Rattle.proto_core.specs.declared.party.Number.TheVariants.{One, Two, Three}
use Rattle.proto_core.specs.declared.link.Link.TheVariants.{Link12, Link13}
use Rattle.proto_core.specs.Lists.{at, each}
use Rattle.proto_core.specs.Elementwise.{minus, zeros}
use Rattle.proto_core.specs.Strand.{Strand, Ends, Acts, Waits, Sent, one_field}

-- a word, or its negative where the splitting is negated
abbrev pub signed : Bool → ℕ → ℕ
signed false x = x
signed true x = add_ring.neg x

-- u + got or its negative, modulo 2^64
unfoldable pub signed_sum : Bool → ℕ → (u got : List ℕ) → List ℕ
signed_sum negated n u got = each n (λ k. signed negated (add_ring.add (at u k) (at got k)))

-- what miners 2 and 3 hold
pub record Held : Type 0 where
  pub share : List ℕ
  pub negated : Bool

abbrev pub held_of : List ℕ → Bool → Held
held_of u negated = record { share = u; negated = negated }

-- miner 1 ends with shares 0 of both words
abbrev pub one_ends : ℕ → Strand (List (List ℕ))
one_ends n = Ends (zeros xor_ring n ∷ zeros xor_ring n ∷ [])

-- miner 2 has the whole first word, and miner 3 the whole second
abbrev pub two_ends : ℕ → Held → List ℕ → Strand (List (List ℕ))
two_ends n held got = Ends (signed_sum false n held.share got ∷ zeros xor_ring n ∷ [])

abbrev pub three_ends : ℕ → Held → List ℕ → Strand (List (List ℕ))
three_ends n held got = Ends (zeros xor_ring n ∷ signed_sum held.negated n held.share got ∷ [])

abbrev pub awaits12 : ℕ → Held → Strand (List (List ℕ))
awaits12 n held = Waits Link12 (one_field n) (two_ends n held)

abbrev pub awaits13 : ℕ → Held → Strand (List (List ℕ))
awaits13 n held = Waits Link13 (one_field n) (three_ends n held)

-- miner 1 splits its share u into its word k, for miner 2, and u - k, for miner 3
abbrev pub split_strand : Bool → ℕ → Number → (u words : List ℕ) → Strand (List (List ℕ))
split_strand negated n One u words = Acts (Sent Link12 words) (Acts (Sent Link13 (minus add_ring n u words)) (one_ends n))
split_strand negated n Two u words = awaits12 n (held_of u negated)
split_strand negated n Three u words = awaits13 n (held_of u negated)
