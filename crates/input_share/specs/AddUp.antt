-- What the three miners' files tell together.
use Rattle.std.specs.Prelude.{ℕ, ◌<◌, ◌^◌, List, [], ◌∷◌, All}
use Rattle.proto_core.specs.Ring.{Ring}
use Rattle.value_file.specs.declared.inputs.Entry.{Entry}
use Rattle.input_share.specs.declared.entry.Part.{Part}
use Rattle.input_share.specs.declared.entry.Part.TheVariants.{Public, Private}
use Rattle.input_share.specs.declared.entry.ShareEntry.{ShareEntry}
use Rattle.input_share.specs.Values.{elements_of, shared_words, ring_of}

-- three lists of words added up element by element, in a ring
abbrev pub sums_of : Ring → List ℕ → List ℕ → List ℕ → List ℕ
sums_of r (x ∷ xs) (y ∷ ys) (z ∷ zs) = r.add (r.add x y) z ∷ sums_of r xs ys zs
sums_of r _ _ _ = []

-- the words that three parts of an input tell: those in which a public value would be shared, the sums of the words of a private one
abbrev pub together : Part → Part → Part → List ℕ
together (Public value) _ _ = shared_words value
together (Private x) (Private y) (Private z) = sums_of (ring_of x.data_type) x.words y.words z.words
together (Private x) _ _ = []

-- the same, input by input
abbrev pub all_together : List ShareEntry → List ShareEntry → List ShareEntry → List (List ℕ)
all_together (x ∷ xs) (y ∷ ys) (z ∷ zs) = together x.part y.part z.part ∷ all_together xs ys zs
all_together _ _ _ = []

-- each element of an input's value is a word of 64 bits
abbrev pub HasWords : Entry → Type 0
HasWords entry = All (λ n. n < 2 ^ 64) (elements_of entry.value)
