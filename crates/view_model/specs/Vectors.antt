-- Worked values: 6 times 7 is opened, with tapes of zeros, of which 2 times 21 is a twin; and 6 plus 7, of which 5 plus 8 is a twin.
use Rattle.std.specs.Prelude.{◌≡◌, ℕ, codes, List, [], ◌∷◌, refl}
use Rattle.proto_core.specs.declared.party.Number.TheVariants.{One, Two, Three}
use Rattle.proto_core.specs.declared.link.Link.TheVariants.{Link12, Link13, Link21, Link23, Link31, Link32}
use Rattle.proto_core.specs.Lists.{each, part}
use Rattle.proto_core.specs.Resharing.{reshared, sum_of_three}
use Rattle.protocol_model.specs.Gates.{gates_script}
use Rattle.protocol_model.specs.Network.{Default, Listed, Delivery, EmptyLink, order_of, net}
use Rattle.shared_gates.specs.Products.{cross}
use Rattle.gates.specs.declared.ring_kind.RingKind.TheVariants.{Arithmetic}
use Rattle.gates.specs.declared.gate.Gate.{Gate}
use Rattle.gates.specs.declared.gate.Gate.TheVariants.{Input, Add, Mul, Open}
use Rattle.value_file.specs.declared.value.Domain.TheVariants.{Private}
use Rattle.value_file.specs.declared.value.Value.TheVariants.{Number}
use Rattle.value_file.specs.declared.inputs.Entry.{Entry}
use Rattle.tape_file.specs.Tapes.{FourTapes}
use Rattle.view_model.specs.TapeMaps.{to_simulated, from_simulated, twin, gates_dealt}
use Rattle.view_model.specs.Seen.{seen_by}

unfoldable pub pair : ℕ → ℕ → List Entry
pair a b =
    record { name = codes "a"; domain = Private; value = Number a }
    ∷ record { name = codes "b"; domain = Private; value = Number b }
    ∷ []

unfoldable pub product : List Gate
product = Input 0 ∷ Input 1 ∷ Mul 0 1 ∷ Open Arithmetic 2 ∷ []

sum : List Gate
sum = Input 0 ∷ Input 1 ∷ Add 0 1 ∷ Open Arithmetic 2 ∷ []

four_zeros : List ℕ
four_zeros = 0 ∷ 0 ∷ 0 ∷ 0 ∷ []

zeros : FourTapes
zeros = record { dealer = four_zeros; one = four_zeros; two = four_zeros; three = four_zeros }

short_zeros : FourTapes
short_zeros = record { dealer = four_zeros; one = 0 ∷ []; two = 0 ∷ []; three = 0 ∷ [] }

-- always the first link with a message
recorded : order_of (λ k. gates_script k (gates_dealt (pair 6 7) four_zeros product)) Default
    ≡ Link12 ∷ Link23 ∷ Link23 ∷ Link31 ∷ Link12 ∷ Link23 ∷ Link31 ∷ Link12 ∷ Link21 ∷ Link23 ∷ Link31 ∷ Link12 ∷ Link13 ∷ Link31 ∷ Link32 ∷ []
unfolding pair product four_zeros
recorded = refl

-- the second miner's tape of the first one's view: its factors, and what it sends of the product
mapped : (to_simulated One (pair 6 7) product zeros).two ≡ 6 ∷ 7 ∷ 0 ∷ 42 ∷ []
unfolding to_simulated pair product zeros four_zeros reshared each part cross sum_of_three
mapped = refl

dealer_mapped : (to_simulated Three (pair 6 7) sum short_zeros).dealer ≡ 6 ∷ 0 ∷ 7 ∷ 0 ∷ []
unfolding to_simulated pair sum short_zeros four_zeros reshared each part cross sum_of_three
dealer_mapped = refl

came : (seen_by One (pair 6 7) product zeros Default).got
    ≡ record { link = Link31; message = 0 ∷ 0 ∷ 0 ∷ [] }
    ∷ record { link = Link31; message = 6 ∷ 7 ∷ [] }
    ∷ record { link = Link21; message = 0 ∷ [] }
    ∷ record { link = Link31; message = 0 ∷ [] }
    ∷ record { link = Link31; message = 42 ∷ [] }
    ∷ []
unfolding pair product zeros four_zeros reshared each part cross sum_of_three
came = refl

-- another order: what isn't yet awaited comes before what is
other_order : Delivery
other_order =
    Listed (Link31 ∷ Link23 ∷ Link31 ∷ Link12 ∷ Link12 ∷ Link23 ∷ Link23 ∷ Link32 ∷ Link12 ∷ Link23 ∷ Link31 ∷ Link31 ∷ Link21 ∷ Link13 ∷ Link12 ∷ [])

came_otherwise : (seen_by Two (pair 6 7) product zeros other_order).got
    ≡ record { link = Link12; message = 0 ∷ 0 ∷ 0 ∷ [] }
    ∷ record { link = Link12; message = 0 ∷ 0 ∷ [] }
    ∷ record { link = Link32; message = 42 ∷ [] }
    ∷ record { link = Link12; message = 0 ∷ [] }
    ∷ record { link = Link12; message = 0 ∷ [] }
    ∷ []
unfolding pair product zeros four_zeros other_order reshared each part cross sum_of_three
came_otherwise = refl

too_early : net (λ k. gates_script k (gates_dealt (pair 6 7) four_zeros product)) (Listed (Link13 ∷ [])) ≡ EmptyLink 0 Link13 0
unfolding pair product four_zeros
too_early = refl

twin_dealer : (twin Three (pair 6 7) (pair 5 8) sum short_zeros).dealer ≡ 18446744073709551615 ∷ 0 ∷ 1 ∷ 0 ∷ []
unfolding to_simulated from_simulated pair sum short_zeros four_zeros reshared each part cross sum_of_three
twin_dealer = refl

twin_factors : (twin One (pair 6 7) (pair 2 21) product zeros).two ≡ 18446744073709551612 ∷ 14 ∷ 0 ∷ 56 ∷ []
unfolding to_simulated from_simulated pair product zeros four_zeros reshared each part cross sum_of_three
twin_factors = refl

seen_again : (seen_by One (pair 2 21) product (twin One (pair 6 7) (pair 2 21) product zeros) Default).got ≡ (seen_by One (pair 6 7) product zeros Default).got
unfolding to_simulated from_simulated pair product zeros four_zeros reshared each part cross sum_of_three
seen_again = refl
