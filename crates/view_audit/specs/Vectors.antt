-- Worked lines: the third miner's view of the sum of 6 and 7. Its lines are: `view`, two `in`, `drew` (4), three `got` (5 to 7), `open` (8), `end` (9).
use Rattle.std.specs.Prelude.{◌≡◌, ℕ, List, [], ◌∷◌, Some, None, codes, refl}
use Rattle.sc_text.specs.declared.elements.Element.TheVariants.{Word}
use Rattle.sc_text.specs.declared.end.Ending.TheVariants.{Done}
use Rattle.sc_text.specs.declared.event.Event.TheVariants.{Open}
use Rattle.proto_core.specs.declared.party.Number.TheVariants.{Two, Three}
use Rattle.proto_core.specs.declared.link.Link.TheVariants.{Link13, Link23, Link12, Link21, Link31, Link32}
use Rattle.proto_core.specs.Strand.{Mail}
use Rattle.value_file.specs.declared.value.DataType.TheVariants.{Uint64}
use Rattle.value_file.specs.declared.value.Shape.TheVariants.{Scalar}
use Rattle.value_file.specs.declared.public.PublicValue.TheVariants.{Hidden}
use Rattle.value_file.specs.declared.public.PublicEntry.{PublicEntry}
use Rattle.language_model.specs.Effects.{Ended, words_each}
use Rattle.language_model.specs.Reports.{Report}
use Rattle.view_text.specs.Vectors.{third}
use Rattle.view_audit.specs.Steps.{draws_line, ends_line, inputs_line, messages_line}

abbrev hidden : List PublicEntry
hidden = record { name = codes "a"; value = Hidden Uint64 Scalar } ∷ record { name = codes "b"; value = Hidden Uint64 Scalar } ∷ []

whole : inputs_line hidden Three third ≡ None
whole = refl

another_miner : inputs_line hidden Two third ≡ Some 1
another_miner = refl

-- where dealing ended the run no line is wanted: the first one is named
undealt : inputs_line [] Three third ≡ Some 2
undealt = refl

drew_one : draws_line 1 third ≡ None
drew_one = refl

drew_none : draws_line 0 third ≡ Some 4
drew_none = refl

abbrev mail : (n : ℕ) → Mail
mail n Link23 = (0 ∷ []) ∷ (n ∷ []) ∷ []
mail n Link13 = (0 ∷ []) ∷ []
mail n Link12 = []
mail n Link21 = []
mail n Link31 = []
mail n Link32 = []

all_came : messages_line (mail 0) Three third ≡ None
all_came = refl

other_word : messages_line (mail 1) Three third ≡ Some 6
other_word = refl

abbrev ended : (n cost : ℕ) → Report
ended n cost =
    record {
      stop = Ended Done;
      cost = cost;
      dealt = 4;
      drawn = words_each 1;
      events = Open (Word n ∷ []) ∷ [];
      opened = n ∷ [];
      gates = [];
    }

same_end : ends_line (ended 13 7) third ≡ None
same_end = refl

other_opening : ends_line (ended 14 7) third ≡ Some 8
other_opening = refl

other_cost : ends_line (ended 13 8) third ≡ Some 9
other_cost = refl
