-- Dealing keeps what everybody may know.
use Rattle.std.proofs.Common.{◌≡◌, ℕ, List, [], ◌∷◌, drop, ap, ◌∙◌, refl}
use Rattle.proto_core.specs.declared.party.Number.{Number}
use Rattle.value_file.specs.declared.value.Domain.{Domain}
use Rattle.value_file.specs.declared.value.Domain.TheVariants as domain
use Rattle.value_file.specs.declared.value.Value.{Value}
use Rattle.value_file.specs.declared.inputs.Entry.{Entry}
use Rattle.value_file.specs.declared.public.PublicEntry.{PublicEntry}
use Rattle.value_file.specs.declared.public.PublicValue.{PublicValue}
use Rattle.value_file.specs.Public.{shown, part_of as public_part_of}
use Rattle.input_share.specs.Dealing.{part_of, draws_of, dealt_entries}
use Rattle.input_share.specs.Shapes.{known_of, shapes_of}

known_of-part_of : (miner : Number) (d : Domain) (v : Value) (words : List ℕ) → known_of (part_of miner d v words) ≡ shown d v
known_of-part_of miner domain.Public v words = refl
known_of-part_of miner domain.Private v words = refl

pub shapes_of-dealt : (miner : Number) (inputs : List Entry) (words : List ℕ) → shapes_of (dealt_entries miner inputs words) ≡ public_part_of inputs
shapes_of-dealt miner [] words = refl
shapes_of-dealt miner (e ∷ es) words =
    let first : PublicValue → PublicEntry = λ v. record { name = e.name; value = v } in
    ap (λ (v : PublicValue). first v ∷ shapes_of (dealt_entries miner es (drop (draws_of e) words))) (known_of-part_of miner e.domain e.value words)
    ∙ ap (λ (l : List PublicEntry). first (shown e.domain e.value) ∷ l) (shapes_of-dealt miner es (drop (draws_of e) words))
