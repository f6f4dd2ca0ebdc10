-- The tapes that a run draws from are of words.
use Rattle.std.proofs.Common.{◌≡◌, ℕ, ◌+◌, ◌*◌, List, length, All, Option, Some, None, inl, inr, arith}
use Rattle.std.proofs.lemmas.Bool.{cases_lt}
use Rattle.std.proofs.lemmas.List.{get_or_past}
use Rattle.std.proofs.lemmas.List.Elements.{All-nil}
use Rattle.proto_core.specs.declared.party.Number.{Number}
use Rattle.proto_core.specs.declared.party.Number.TheVariants.{One, Two, Three}
use Rattle.proto_core.specs.Lists.{AreWords}
use Rattle.tape_file.specs.Format.{tapes_at}
use Rattle.tape_file.specs.Seeds.{seed_tapes}
use Rattle.tape_file.specs.Tapes.{AreOfWords, FourTapes, IsWord}
use Rattle.tape_file.proofs.OfWords.{seeded_of_words, words_below}
use Rattle.tape_sources.specs.declared.lengths.TapeLengths.{TapeLengths}
use Rattle.view_model.specs.TapeMaps.{miners_of, AreTapes}
use Rattle.miner_commands.specs.Opened.{tapes_in}

-- the same by index, and 0 past the end
pub by_index : (xs : List ℕ) → All IsWord xs → AreWords xs
by_index xs all k = elim (cases_lt k (length xs)) [
  | inl within ↦ all k 0 within
  | inr past ↦ rw (get_or_past xs k 0 past) (omega arith)
]

pub miners_words : (tapes : FourTapes) → AreOfWords tapes → (i : Number) → AreWords (miners_of tapes i)
miners_words tapes words One = by_index tapes.one words.one
miners_words tapes words Two = by_index tapes.two words.two
miners_words tapes words Three = by_index tapes.three words.three

are_tapes : (tapes : FourTapes) → AreOfWords tapes → AreTapes tapes
are_tapes tapes words = record { dealer = by_index tapes.dealer words.dealer; miners = miners_words tapes words }

in_file : (o : Option (List ℕ)) (l : TapeLengths) → AreOfWords (tapes_in o l)
unfolding tapes_at
in_file None l = record { dealer = All-nil IsWord; one = All-nil IsWord; two = All-nil IsWord; three = All-nil IsWord }
in_file (Some bytes) l = record {
  dealer = words_below 32 l.dealer bytes;
  one = words_below (32 + 8 * l.dealer) l.miner1 bytes;
  two = words_below (32 + 8 * (l.dealer + l.miner1)) l.miner2 bytes;
  three = words_below (32 + 8 * (l.dealer + l.miner1 + l.miner2)) l.miner3 bytes;
}

pub file_has_words : (o : Option (List ℕ)) (l : TapeLengths) → AreTapes (tapes_in o l)
file_has_words o l = are_tapes (tapes_in o l) (in_file o l)

pub seed_has_words : (seed : List ℕ) (words : ℕ) → AreTapes (seed_tapes seed words)
seed_has_words seed words = are_tapes (seed_tapes seed words) (seeded_of_words seed words)
