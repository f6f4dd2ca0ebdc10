-- A share masked with words that add up to nothing over the three miners.
use Rattle.std.specs.Prelude.{ℕ, List}
use Rattle.proto_core.specs.Ring.{Ring}
use Rattle.proto_core.specs.declared.party.Number.{Number}
use Rattle.proto_core.specs.Parties.{previous_of}
use Rattle.proto_core.specs.Lists.{at, each}
use Rattle.proto_core.specs.Protocol.{Joint}

-- u + a - a_p, of a miner's share u, its mask a and the previous miner's mask a_p
unfoldable pub reshared : Ring → ℕ → List ℕ → List ℕ → List ℕ → List ℕ
reshared r n u mask got = each n (λ k. r.sub (r.add (at u k) (at mask k)) (at got k))

-- the ring's sum of three lists
unfoldable pub sum_of_three : Ring → ℕ → List ℕ → List ℕ → List ℕ → List ℕ
sum_of_three r n x y z = each n (λ k. r.add (r.add (at x k) (at y k)) (at z k))

-- what a miner's share is after the masks went round
abbrev pub reshared_of : Ring → ℕ → Joint → Number → List ℕ
reshared_of r n j i = reshared r n (j.u i) (j.words i) (j.words (previous_of i))
