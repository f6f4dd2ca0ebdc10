-- What the client is told, by what the three miners tell.
use Rattle.std.specs.Prelude.{ℕ, List, [], ◌∷◌}
use Rattle.sc_text.specs.declared.event.Event.{Event}
use Rattle.sc_text.specs.declared.event.Event.TheVariants.{Open, Publish, Hand}
use Rattle.proto_core.specs.Ring.{Ring}
use Rattle.proto_core.specs.Rings.{add_ring, xor_ring}
use Rattle.proto_core.specs.declared.party.Number.{Number}
use Rattle.proto_core.specs.declared.party.Number.TheVariants.{One, Two, Three}
use Rattle.proto_core.specs.Strand.{ElementType, Unsigned, Signed, TruthValue, Notice, Shown, Published, Handed}
use Rattle.gates.specs.Gathered.{unpacked}
use Rattle.shared_gates.specs.Shares.{sum_of}
use Rattle.code_runs.specs.Telling.{elements_told, kind_told}

-- the words that three shares come to, word by word
abbrev pub words_added_up : Ring → (xs ys zs : List ℕ) → List ℕ
words_added_up r (x ∷ xs) (y ∷ ys) (z ∷ zs) = sum_of r x y z ∷ words_added_up r xs ys zs
words_added_up r xs ys zs = []

-- the elements of three shares of so many: the numbers that they come to, or the bits of the words that they come to
abbrev pub all_added_up : ElementType → (count : ℕ) → (xs ys zs : List ℕ) → List ℕ
all_added_up Unsigned count xs ys zs = words_added_up add_ring xs ys zs
all_added_up Signed count xs ys zs = words_added_up add_ring xs ys zs
all_added_up TruthValue count xs ys zs = unpacked (words_added_up xor_ring xs ys zs) count

-- one event, by what the first miner tells and the words that the others tell beside it
abbrev pub told_by_three : Notice → (second third : List ℕ) → Event
told_by_three (Shown form words) ys zs = Open (elements_told form words)
told_by_three (Published text form words) ys zs = Publish text (elements_told form words)
told_by_three (Handed text form count words) ys zs = Hand text (kind_told form) (elements_told form (all_added_up form.element count words ys zs))

abbrev pub words_of : Notice → List ℕ
words_of (Shown form words) = words
words_of (Published text form words) = words
words_of (Handed text form count words) = words

-- the words of the notice that comes first, and the notices after it
abbrev pub first_words : List Notice → List ℕ
first_words [] = []
first_words (n ∷ ns) = words_of n

abbrev pub behind_first : List Notice → List Notice
behind_first [] = []
behind_first (n ∷ ns) = ns

abbrev pub told_beside : (first second third : List Notice) → List Event
told_beside [] ms ks = []
told_beside (n ∷ ns) ms ks = told_by_three n (first_words ms) (first_words ks) ∷ told_beside ns (behind_first ms) (behind_first ks)

-- notice by notice
abbrev pub told_together : (Number → List Notice) → List Event
told_together tell = told_beside (tell One) (tell Two) (tell Three)
