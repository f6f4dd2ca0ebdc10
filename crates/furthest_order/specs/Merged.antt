-- The deliveries along three orders that serve the lowest miner first.
use Rattle.std.specs.Prelude.{ℕ, zero, suc, ◌+◌, Bool, false, if◌then◌else◌, List, [], ◌∷◌, length}
use Rattle.proto_core.specs.declared.party.Number.{Number}
use Rattle.proto_core.specs.declared.party.Number.TheVariants.{One, Two, Three}
use Rattle.proto_core.specs.declared.link.Link.{Link}
use Rattle.proto_core.specs.Script.{Move}
use Rattle.protocol_model.specs.Network.{Counts, is_full, none_delivered, one_more}

-- of the entries that are left the first has a message under way
abbrev pub can_go_on : (Number → List Move) → Counts → List Link → Bool
can_go_on scripts got [] = false
can_go_on scripts got (l ∷ ls) = is_full scripts got l

-- the first entry, and then others
abbrev pub first_then : List Link → (Link → List Link → List Link) → List Link
first_then [] later = []
first_then (l ∷ ls) later = l ∷ later l ls

-- each time the next entry of the lowest miner that can go on, as long as one can: at most so many
abbrev pub merged_from : (Number → List Move) → (most : ℕ) → Counts → (one two three : List Link) → List Link
merged_from scripts zero got one two three = []
merged_from scripts (suc n) got one two three =
    if can_go_on scripts got one then first_then one (λ l ls. merged_from scripts n (one_more l got) ls two three)
    else if can_go_on scripts got two then first_then two (λ l ls. merged_from scripts n (one_more l got) one ls three)
    else if can_go_on scripts got three then first_then three (λ l ls. merged_from scripts n (one_more l got) one two ls)
    else []

-- from the beginning; there are no more deliveries than entries
unfoldable pub merged : (Number → List Move) → (orders : Number → List Link) → List Link
merged scripts orders =
    merged_from scripts (length (orders One) + length (orders Two) + length (orders Three)) none_delivered (orders One) (orders Two) (orders Three)
