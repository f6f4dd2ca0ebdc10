-- Worked schedules of one multiplication of single elements and the opening of the product, by the scripts alone.
use Rattle.std.specs.Prelude.{◌≡◌, List, [], ◌∷◌, ◌++◌, refl}
use Rattle.proto_core.specs.declared.party.Number.{Number}
use Rattle.proto_core.specs.declared.party.Number.TheVariants.{One, Two, Three}
use Rattle.proto_core.specs.declared.link.Link.{Link}
use Rattle.proto_core.specs.declared.link.Link.TheVariants.{Link12, Link13, Link21, Link23, Link31, Link32}
use Rattle.proto_core.specs.Strand.{Words, shaped}
use Rattle.proto_core.specs.Script.{Move, Sends, Takes}
use Rattle.protocol_model.specs.Network.{Accepted, EmptyLink, Stalled, Default, Listed, Shuffled, order_of, net}

-- one word is sent, or taken
sends : Link → Move
sends l = Sends l (shaped 1 (Words ∷ []))

takes : Link → Move
takes l = Takes l (shaped 1 (Words ∷ []))

-- masks go round
masks : (previous next : Link) → List Move
masks p n = sends n ∷ takes p ∷ []

-- masks and then masked factors go round; then a mask, and the masked share goes to both others
whole : (from_previous to_next from_next to_previous : Link) → List Move
whole p n q b = masks p n ++ masks p n ++ masks p n ++ (sends n ∷ sends b ∷ takes p ∷ takes q ∷ [])

masking : Number → List Move
masking One = masks Link31 Link12
masking Two = masks Link12 Link23
masking Three = masks Link23 Link31

scripts : Number → List Move
scripts One = whole Link31 Link12 Link21 Link13
scripts Two = whole Link12 Link23 Link32 Link21
scripts Three = whole Link23 Link31 Link13 Link32

-- all but the last delivery
almost : List Link
almost =
    Link12 ∷ Link23 ∷ Link23 ∷ Link31 ∷ Link12 ∷ Link23 ∷ Link31 ∷ Link12 ∷ Link21 ∷ Link23 ∷ Link31 ∷ Link12 ∷ Link13 ∷ Link31 ∷ []

by_default : order_of scripts Default ≡ almost ++ Link32 ∷ []
unfolding scripts whole masks sends takes almost
by_default = refl

default_accepted : net scripts Default ≡ Accepted
unfolding scripts whole masks sends takes
default_accepted = refl

-- the link from 3 to 2 has a message that is not awaited yet
listed_accepted :
    net scripts
    (Listed (Link31 ∷ Link23 ∷ Link31 ∷ Link12 ∷ Link12 ∷ Link23 ∷ Link23 ∷ Link32 ∷ Link12 ∷ Link23 ∷ Link31 ∷ Link31 ∷ Link21 ∷ Link13 ∷ Link12 ∷ []))
    ≡ Accepted
unfolding scripts whole masks sends takes
listed_accepted = refl

first_is_empty : net scripts (Listed (Link13 ∷ [])) ≡ EmptyLink 0 Link13 0
unfolding scripts whole masks sends takes
first_is_empty = refl

all_were_delivered : net scripts (Listed (almost ++ Link32 ∷ Link12 ∷ [])) ≡ EmptyLink 15 Link12 4
unfolding scripts whole masks sends takes almost
all_were_delivered = refl

one_waits : net scripts (Listed almost) ≡ Stalled Two Link32
unfolding scripts whole masks sends takes almost
one_waits = refl

-- the lowest is named
all_wait : net scripts (Listed []) ≡ Stalled One Link31
unfolding scripts whole masks sends takes
all_wait = refl

-- of three links the second, then of two the second, then the one that is left
by_ones : order_of masking (Shuffled (λ k. 1)) ≡ Link23 ∷ Link31 ∷ Link12 ∷ []
unfolding masking masks sends takes
by_ones = refl

by_zeros : order_of scripts (Shuffled (λ k. 0)) ≡ order_of scripts Default
unfolding scripts whole masks sends takes
by_zeros = refl

-- each delivery has its own word
by_places : order_of masking (Shuffled (λ k. k)) ≡ Link12 ∷ Link31 ∷ Link23 ∷ []
unfolding masking masks sends takes
by_places = refl
