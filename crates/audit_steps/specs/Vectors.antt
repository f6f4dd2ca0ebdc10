-- Worked lines. Miner 2 takes two messages of miner 1 and one of miner 3; two inputs are hidden, of a word and of 70 truth values; two values are opened.
use Rattle.std.specs.Prelude.{◌≡◌, ℕ, List, [], ◌∷◌, true, false, Some, None, codes, refl}
use Rattle.proto_core.specs.declared.link.Link.{Link}
use Rattle.proto_core.specs.declared.link.Link.TheVariants.{Link12, Link32, Link31}
use Rattle.proto_core.specs.declared.party.Number.TheVariants.{Two}
use Rattle.sc_text.specs.declared.elements.Element.{Element}
use Rattle.sc_text.specs.declared.elements.Element.TheVariants as elements
use Rattle.sc_text.specs.declared.event.Event.{Event}
use Rattle.sc_text.specs.declared.event.Event.TheVariants.{Open, Publish}
use Rattle.sc_text.specs.declared.end.Ending.TheVariants.{Done, Trap}
use Rattle.sc_text.specs.declared.end.End.{End}
use Rattle.sc_text.specs.declared.end.TrapKind.TheVariants.{Div, Index}
use Rattle.sc_text.specs.End.{trap_word}
use Rattle.value_file.specs.declared.value.DataType.TheVariants.{Uint64, Bool}
use Rattle.value_file.specs.declared.value.Shape.TheVariants.{Scalar, Array}
use Rattle.value_file.specs.declared.value.Value.TheVariants as value
use Rattle.value_file.specs.declared.public.PublicValue.TheVariants.{Known, Hidden}
use Rattle.value_file.specs.declared.public.PublicEntry.{PublicEntry}
use Rattle.view_text.specs.View.{InputShare, Received}
use Rattle.audit_steps.specs.Shares.{wrong_share_at}
use Rattle.audit_steps.specs.Messages.{wrong_at}
use Rattle.audit_steps.specs.Ends.{same_ending, wrong_end_at}

-- ---- `in` lines

abbrev part : List PublicEntry
part =
    record { name = codes "a"; value = Hidden Uint64 Scalar }
    ∷ record { name = codes "n"; value = Known (value.Number 3) }
    ∷ record { name = codes "b"; value = Hidden Bool (Array 70) } ∷ []

abbrev share_a : InputShare
share_a = record { name = codes "a"; words = 6 ∷ [] }

abbrev share_b : List ℕ → InputShare
share_b words = record { name = codes "b"; words = words }

both_there : wrong_share_at part (share_a ∷ share_b (7 ∷ 8 ∷ []) ∷ []) ≡ None
both_there = refl

exchanged : wrong_share_at part (share_b (7 ∷ 8 ∷ []) ∷ share_a ∷ []) ≡ Some 0
exchanged = refl

a_word_too_few : wrong_share_at part (share_a ∷ share_b (7 ∷ []) ∷ []) ≡ Some 1
a_word_too_few = refl

-- the line after the last one
one_missing : wrong_share_at part (share_a ∷ []) ≡ Some 1
one_missing = refl

one_surplus : wrong_share_at part (share_a ∷ share_b (7 ∷ 8 ∷ []) ∷ share_a ∷ []) ≡ Some 2
one_surplus = refl

-- ---- `got` lines

abbrev came : Link → ℕ → Received
came l n = record { link = l; message = n ∷ [] }

abbrev first : List (List ℕ)
first = (1 ∷ []) ∷ (2 ∷ []) ∷ []

abbrev second : List (List ℕ)
second = (7 ∷ []) ∷ []

all_came : wrong_at Two first second (came Link12 1 ∷ came Link32 7 ∷ came Link12 2 ∷ []) ≡ None
all_came = refl

-- arrivals of two links in another order are no failure
turned : wrong_at Two first second (came Link32 7 ∷ came Link12 1 ∷ came Link12 2 ∷ []) ≡ None
turned = refl

other_word : wrong_at Two first second (came Link12 1 ∷ came Link32 8 ∷ came Link12 2 ∷ []) ≡ Some 1
other_word = refl

second_first : wrong_at Two first second (came Link12 2 ∷ came Link12 1 ∷ came Link32 7 ∷ []) ≡ Some 0
second_first = refl

one_short : wrong_at Two first second (came Link12 1 ∷ came Link32 7 ∷ []) ≡ Some 2
one_short = refl

one_more : wrong_at Two first second (came Link12 1 ∷ came Link12 2 ∷ came Link32 7 ∷ came Link32 7 ∷ []) ≡ Some 3
one_more = refl

-- a link that isn't the miner's
other_link : wrong_at Two first second (came Link31 1 ∷ []) ≡ Some 0
other_link = refl

-- ---- `open` lines, and the `end` line

abbrev opened : ℕ → List Element
opened n = elements.Word n ∷ []

abbrev events : List Event
events = Open (opened 5) ∷ Publish (codes "p") (opened 9) ∷ Open (elements.Truth true ∷ []) ∷ []

abbrev cost : ℕ → End
cost n = record { how = Done; cost = n }

same_lines : wrong_end_at events (cost 7) (cost 7) (opened 5 ∷ (elements.Truth true ∷ []) ∷ []) ≡ None
same_lines = refl

other_opening : wrong_end_at events (cost 7) (cost 7) (opened 5 ∷ (elements.Truth false ∷ []) ∷ []) ≡ Some 1
other_opening = refl

other_cost : wrong_end_at events (cost 7) (cost 8) (opened 5 ∷ (elements.Truth true ∷ []) ∷ []) ≡ Some 2
other_cost = refl

-- the `end` line stands where an `open` line is missing
opening_missing : wrong_end_at events (cost 7) (cost 7) (opened 5 ∷ []) ≡ Some 1
opening_missing = refl

opening_surplus : wrong_end_at events (cost 7) (cost 7) (opened 5 ∷ (elements.Truth true ∷ []) ∷ opened 5 ∷ []) ≡ Some 2
opening_surplus = refl

other_trap : same_ending (Trap Div 3) (Trap Index 3) ≡ false
unfolding trap_word
other_trap = refl
