-- All that the laws on twins ask of inputs and tapes is there: two pairs of numbers of one sum, which the program publishes.
use Rattle.std.proofs.Common.{ℕ, zero, suc, ◌<◌, ◌^◌, List, [], ◌∷◌, All, refl, arith}
use Rattle.sc_text.specs.Name.{is_name}
use Rattle.proto_core.specs.Lists.{AreWords}
use Rattle.proto_core.specs.declared.party.Number.{Number}
use Rattle.proto_core.specs.declared.party.Number.TheVariants.{One, Two, Three}
use Rattle.value_file.specs.Input.{new_name}
use Rattle.input_share.specs.AddUp.{HasWords}
use Rattle.gate_laws.proofs.Ranges.{below_cons, below_none}
use Rattle.language_model.specs.Evaluation.{value, arguments, turns, repeats, execute, execute_all, call_at}
use Rattle.view_model.specs.Vectors.{pair}
use Rattle.view_model.specs.TapeMaps.{miners_of, AreTapes}
use Rattle.code_inputs.specs.Inputs.{AreSound}
use Rattle.program_views.specs.Views.{lengths_of}
use Rattle.program_views.specs.TapeMaps.{AreAlike}
use Rattle.program_views.specs.Vectors.{sum, tapes}

sums_are_alike : AreAlike sum (pair 6 7) (pair 5 8) (lengths_of tapes) 100
unfolding sum tapes pair value arguments turns repeats execute execute_all call_at
sums_are_alike = record { known = refl; opened = refl }

abbrev Low : ℕ → Type 0
Low n = n < 2 ^ 64

one_word : (n : ℕ) → Low n → All Low (n ∷ [])
one_word n fits zero x h = fits
one_word n fits (suc k) x h = absurd (omega arith)

sound : (a b : ℕ) → Low a → Low b → AreSound (pair a b)
unfolding pair new_name is_name
sound a b fits other =
    record { form = (record { fresh = refl; short = omega arith }, (record { fresh = refl; short = omega arith }, tt)); words = have_words }
  where
    have_words : All HasWords (pair a b)
    have_words zero e h = one_word a fits
    have_words (suc zero) e h = one_word b other
    have_words (suc (suc k)) e h = absurd (omega arith)

sample_inputs : AreSound (pair 6 7)
sample_inputs = sound 6 7 (omega arith) (omega arith)

other_inputs : AreSound (pair 5 8)
other_inputs = sound 5 8 (omega arith) (omega arith)

and_zero : (ws : List ℕ) → AreWords ws → AreWords (0 ∷ ws)
and_zero ws h = below_cons (2 ^ 64) 0 ws (omega arith) h

no_word : AreWords []
no_word = below_none (2 ^ 64) (omega arith)

sample_tapes : AreTapes tapes
unfolding tapes
sample_tapes = record { dealer = and_zero (0 ∷ 0 ∷ 0 ∷ []) (and_zero (0 ∷ 0 ∷ []) (and_zero (0 ∷ []) (and_zero [] no_word))); miners = each_miner }
  where
    each_miner : (i : Number) → AreWords (miners_of tapes i)
    each_miner One = and_zero [] no_word
    each_miner Two = and_zero [] no_word
    each_miner Three = and_zero [] no_word
