-- What is answered when a file of tapes is opened.
use Rattle.std.specs.Prelude.{◌≡◌, ◌≢◌, ◌≤◌, ℕ, List, length, true, Option, Some, Result, Ok, Err, IsSomeAnd, ⊤}
use Rattle.outside.specs.Causes.{Rose}
use Rattle.outside.specs.Files.{FilesState, IsMissing}
use Rattle.outside.specs.Tapes.{TapesState, left_of}
use Rattle.tape_file.specs.Format.{read_of, read_own_of, tapes_at, words_at}
use Rattle.tape_sources.specs.FileTapes.{file_in}
use Rattle.tape_sources.specs.Parties.{four_of}
use Rattle.tape_sources.specs.declared.open_err.OpenErr.{OpenErr}
use Rattle.tape_sources.specs.declared.open_err.OpenErr.TheVariants.{BadTape, Failed}
use Rattle.tape_sources.specs.declared.lengths.TapeLengths.{TapeLengths}

-- the file is there: the size and the lengths of its four tapes, or the place of its first fault, as a reader of all of it answers
abbrev pub ReadsLengths : Option (List ℕ) → Result TapeLengths OpenErr → Type 0
ReadsLengths file (Ok l) =
    IsSomeAnd file (λ bytes. (length bytes ≡ l.size) × (read_of bytes ≡ Ok (tapes_at l.dealer l.miner1 l.miner2 l.miner3 bytes)))
ReadsLengths file (Err (BadTape place)) = IsSomeAnd file (λ bytes. read_of bytes ≡ Err place)
ReadsLengths file (Err Failed) = ⊤

-- the same of an own tape's file, which is to have `wanted` words
abbrev pub ReadsLength : ℕ → Option (List ℕ) → Result ℕ OpenErr → Type 0
ReadsLength wanted file (Ok size) = IsSomeAnd file (λ bytes. (length bytes ≡ size) × (read_own_of wanted bytes ≡ Ok (words_at 8 wanted bytes)))
ReadsLength wanted file (Err (BadTape place)) = IsSomeAnd file (λ bytes. read_own_of wanted bytes ≡ Err place)
ReadsLength wanted file (Err Failed) = ⊤

-- the count of faults never falls, and the store failed only where it rose
abbrev pub HasOpenCause : {X : Type 0} → ℕ → ℕ → Result X OpenErr → Type 0
HasOpenCause before now (Ok x) = before ≤ now
HasOpenCause before now (Err (BadTape place)) = before ≤ now
HasOpenCause before now (Err Failed) = (before ≤ now) × Rose before now

-- of a steady store: it failed only where the file is missing, and else counted nothing
abbrev pub IsSteadyOpen : {X : Type 0} → FilesState → FilesState → List ℕ → Result X OpenErr → Type 0
IsSteadyOpen old new path (Ok x) = new.faults ≡ old.faults
IsSteadyOpen old new path (Err (BadTape place)) = new.faults ≡ old.faults
IsSteadyOpen old new path (Err Failed) = IsMissing old path

-- a source of the four tapes of a file with these lengths, none of whose words was drawn
pub record OpensFour (lengths : TapeLengths) (files : FilesState) (path : List ℕ) (state : TapesState) : Type 0 where
  pub dealer : left_of state 0 ≡ lengths.dealer
  pub one : left_of state 1 ≡ lengths.miner1
  pub two : left_of state 2 ≡ lengths.miner2
  pub three : left_of state 3 ≡ lengths.miner3
  pub told : files.told ≡ true → (bytes : List ℕ) → file_in files path ≡ Some bytes → length bytes ≡ lengths.size
      → (state.told ≡ true) × (four_of state ≡ tapes_at lengths.dealer lengths.miner1 lengths.miner2 lengths.miner3 bytes)
  pub steady : files.steady ≡ true → state.told ≡ true → state.steady ≡ true

-- a source of one party's tape of so many words in a file of this size, none of which was drawn
pub record OpensOne (party words size : ℕ) (files : FilesState) (path : List ℕ) (state : TapesState) : Type 0 where
  pub all : left_of state party ≡ words
  pub none : (p : ℕ) → p ≢ party → left_of state p ≡ 0
  pub told : files.told ≡ true → (bytes : List ℕ) → file_in files path ≡ Some bytes → length bytes ≡ size
      → (state.told ≡ true) × (state.words party ≡ words_at 8 words bytes)
  pub steady : files.steady ≡ true → state.told ≡ true → state.steady ≡ true
