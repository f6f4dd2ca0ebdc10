-- Along deliveries of which each has a message, what comes to a miner comes in the order of its links.
use Rattle.std.proofs.Common.{◌≡◌, ◌<◌, ◌+◌, ℕ, List, [], ◌∷◌, length, map, Bool, true, false, if◌then◌else◌, refl, ◌∙◌, ap, arith}
use Rattle.std.specs.Prelude.{nat_lt}
use Rattle.proto_core.specs.declared.party.Number.{Number}
use Rattle.proto_core.specs.declared.link.Link.{Link}
use Rattle.proto_core.specs.Parties.{receiver_of, is_same}
use Rattle.proto_core.specs.Strand.{Mail, Strand, next_after}
use Rattle.proto_core.specs.Net.{posted, under_way, delivered}
use Rattle.protocol_model.specs.Arrivals.{Arrival, oldest_then, arrived}
use Rattle.protocol_model.specs.Network.{Accepted, EmptyLink, walked}
use Rattle.net_laws.specs.OneNet.{links_to}

abbrev links_of : List Arrival → List Link
links_of arrivals = map (λ arrival. arrival.link) arrivals

less_so : (a b : ℕ) → nat_lt a b ≡ true → a < b
less_so a b h = grind arith

empty_clash : {X : Type 0} (entry : ℕ) (l : Link) (sent : ℕ) → EmptyLink entry l sent ≡ Accepted → X
empty_clash entry l sent e = cc

-- a link with a message under way brings it
brings_one : (l : Link) (xs ys : List (List ℕ)) (more : List Arrival) → length xs < length ys
    → links_of (oldest_then l (next_after xs ys) more) ≡ l ∷ links_of more
brings_one l [] [] more h = absurd (omega (arith, h))
brings_one l [] (y ∷ ys) more h = refl
brings_one l (x ∷ xs) [] more h = absurd (omega (arith, h))
brings_one l (x ∷ xs) (y ∷ ys) more h = brings_one l xs ys more (omega (arith, h))

module _ {A : Type 0} (nodes : Number → Strand A) (i : Number) where
  pub come_in_order : (entry : ℕ) (mail : Mail) (links : List Link) → walked nodes entry mail links ≡ Accepted
      → links_of (arrived nodes i mail links) ≡ links_to i links
  come_in_order entry mail [] h = refl
  come_in_order entry mail (l ∷ ls) h =
      by_test (nat_lt (length (mail l)) (length (posted nodes mail l))) refl h (come_in_order (entry + 1) (delivered nodes mail l) ls)
    where
      more : List Arrival
      more = arrived nodes i (delivered nodes mail l) ls

      by_test : (b : Bool) → nat_lt (length (mail l)) (length (posted nodes mail l)) ≡ b
          → (if b then walked nodes (entry + 1) (delivered nodes mail l) ls else EmptyLink entry l (length (posted nodes mail l))) ≡ Accepted
          → (walked nodes (entry + 1) (delivered nodes mail l) ls ≡ Accepted → links_of more ≡ links_to i ls)
          → links_of (arrived nodes i mail (l ∷ ls)) ≡ links_to i (l ∷ ls)
      by_test false e g rest = empty_clash entry l (length (posted nodes mail l)) g
      by_test true e g rest = by_end (is_same (receiver_of l) i) (rest g)
        where
          by_end : (b : Bool) → links_of more ≡ links_to i ls
              → links_of (if b then oldest_then l (under_way nodes mail l) more else more) ≡ (if b then l ∷ links_to i ls else links_to i ls)
          by_end true same =
              brings_one l (mail l) (posted nodes mail l) more (less_so (length (mail l)) (length (posted nodes mail l)) e) ∙ ap (λ x. l ∷ x) same
          by_end false same = same
