-- The dealing of inputs into the three miners' files.
use Rattle.std.specs.Prelude.{ℕ, ◌*◌, List, [], ◌∷◌, length, take, drop, sum_by}
use Rattle.proto_core.specs.Ring.{Ring}
use Rattle.proto_core.specs.declared.party.Number.{Number}
use Rattle.proto_core.specs.declared.party.Number.TheVariants.{One, Two, Three}
use Rattle.value_file.specs.declared.value.Domain.{Domain}
use Rattle.value_file.specs.declared.value.Domain.TheVariants as domain
use Rattle.value_file.specs.declared.value.Value.{Value}
use Rattle.value_file.specs.declared.inputs.Entry.{Entry}
use Rattle.value_file.specs.Values.{type_of, count_of, shape_of}
use Rattle.input_share.specs.declared.entry.Part.{Part}
use Rattle.input_share.specs.declared.entry.Part.TheVariants as part
use Rattle.input_share.specs.declared.entry.ShareEntry.{ShareEntry}
use Rattle.input_share.specs.Values.{shared_words, shared_size, ring_of}
use Rattle.input_share.specs.ShareFile.{MinerFile}

-- what two masks leave of each element, in a ring
abbrev pub left_of : Ring → List ℕ → List ℕ → List ℕ → List ℕ
left_of r (x ∷ xs) (d1 ∷ d1s) (d2 ∷ d2s) = r.sub (r.sub x d1) d2 ∷ left_of r xs d1s d2s
left_of r _ _ _ = []

-- the dealer's words that mask so many elements: as many words, and as many that come next
abbrev pub first_masks : ℕ → List ℕ → List ℕ
first_masks count words = take count words

abbrev pub second_masks : ℕ → List ℕ → List ℕ
second_masks count words = take count (drop count words)

-- a miner's share of elements: miner 1 has the first masks, miner 2 the second, miner 3 what both leave of the elements
abbrev pub share_of : Number → Ring → List ℕ → List ℕ → List ℕ
share_of One r elements words = first_masks (length elements) words
share_of Two r elements words = second_masks (length elements) words
share_of Three r elements words = left_of r elements (first_masks (length elements) words) (second_masks (length elements) words)

-- a private value takes two words of the dealer for each word that it is shared in, a public one none
abbrev pub draws_for : Domain → ℕ → ℕ
draws_for domain.Public count = 0
draws_for domain.Private count = 2 * count

abbrev pub draws_of : Entry → ℕ
draws_of entry = draws_for entry.domain (shared_size (type_of entry.value) (count_of entry.value))

-- the words that the dealer needs for all inputs
abbrev pub need_of : List Entry → ℕ
need_of entries = sum_by draws_of entries

-- what a miner has of a value
abbrev pub part_of : Number → Domain → Value → List ℕ → Part
part_of miner domain.Public value words = part.Public value
part_of miner domain.Private value words =
    part.Private (record {
      data_type = type_of value;
      shape = shape_of value;
      words = share_of miner (ring_of (type_of value)) (shared_words value) words;
    })

-- what a miner has of an input
abbrev pub dealt_entry : Number → Entry → List ℕ → ShareEntry
dealt_entry miner entry words = record { name = entry.name; part = part_of miner entry.domain entry.value words }

-- what a miner has of inputs, for which the dealer's words are taken one input after the other
abbrev pub dealt_entries : Number → List Entry → List ℕ → List ShareEntry
dealt_entries miner [] words = []
dealt_entries miner (entry ∷ entries) words = dealt_entry miner entry words ∷ dealt_entries miner entries (drop (draws_of entry) words)

-- the file that a miner is dealt
abbrev pub dealt : Number → List Entry → List ℕ → List ℕ → MinerFile
dealt miner entries words lens = record { entries = dealt_entries miner entries words; lens = lens; miner = miner }
