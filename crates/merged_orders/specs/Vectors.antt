-- Worked orders: the first miner sends on 12 and waits for 21, the second waits for 12 and answers.
use Rattle.std.specs.Prelude.{◌≡◌, List, [], ◌∷◌, ◌++◌, refl}
use Rattle.proto_core.specs.declared.party.Number.{Number}
use Rattle.proto_core.specs.declared.party.Number.TheVariants.{One, Two, Three}
use Rattle.proto_core.specs.declared.link.Link.{Link}
use Rattle.proto_core.specs.declared.link.Link.TheVariants.{Link12, Link21, Link31}
use Rattle.proto_core.specs.Script.{Move, Sends, Takes}
use Rattle.proto_core.specs.Strand.{Shape, shaped}
use Rattle.protocol_model.specs.Network.{EmptyLink, counted, none_delivered}
use Rattle.merged_orders.specs.Merging.{with_all, links_to, Merges, Orders, IsBlocked, Stuck}

abbrev none : Shape
none = shaped 0 []

abbrev scripts : Number → List Move
scripts One = Sends Link12 none ∷ Takes Link21 none ∷ []
scripts Two = Takes Link12 none ∷ Sends Link21 none ∷ []
scripts Three = []

-- ---- what came

abbrev came : Orders
came One = Link21 ∷ []
came Two = Link12 ∷ []
came Three = []

abbrev whole : List Link
whole = Link12 ∷ Link21 ∷ []

abbrev nothing : Orders
nothing i = []

came_parts : (i : Number) → links_to i whole ++ nothing i ≡ came i
came_parts One = refl
came_parts Two = refl
came_parts Three = refl

goes_to_the_end : Stuck scripts came whole nothing
goes_to_the_end = record { passes = (refl, (refl, tt)); parts = came_parts; blocked = λ i. tt }

merges_parts : (i : Number) → links_to i whole ≡ came i
merges_parts One = refl
merges_parts Two = refl
merges_parts Three = refl

merged : Merges scripts came whole
merged = record { accepted = refl; parts = merges_parts }

-- the answer before the question
answer_first : counted scripts 0 none_delivered (Link21 ∷ Link12 ∷ []) ≡ EmptyLink 0 Link21 0
answer_first = refl

-- ---- what can't have come: a message on 31 before that on 21

abbrev wrong : Orders
wrong One = Link31 ∷ Link21 ∷ []
wrong Two = Link12 ∷ []
wrong Three = []

abbrev left : Orders
left One = Link31 ∷ Link21 ∷ []
left Two = []
left Three = []

wrong_parts : (i : Number) → links_to i (Link12 ∷ []) ++ left i ≡ wrong i
wrong_parts One = refl
wrong_parts Two = refl
wrong_parts Three = refl

wrong_stands : (i : Number) → IsBlocked scripts (with_all none_delivered (Link12 ∷ [])) (left i)
wrong_stands One = refl
wrong_stands Two = tt
wrong_stands Three = tt

stuck : Stuck scripts wrong (Link12 ∷ []) left
stuck = record { passes = (refl, tt); parts = wrong_parts; blocked = wrong_stands }
