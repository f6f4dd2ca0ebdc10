-- What holds of inputs that are read: each element is a word of 64 bits.
use Rattle.std.specs.Prelude.{◌<◌, ◌^◌, List, All}
use Rattle.value_file.specs.declared.value.Value.{Value}
use Rattle.value_file.specs.declared.inputs.Entry.{Entry}
use Rattle.value_file.specs.declared.public.PublicValue.{PublicValue}
use Rattle.value_file.specs.declared.public.PublicValue.TheVariants.{Known, Hidden}
use Rattle.value_file.specs.declared.public.PublicEntry.{PublicEntry}
use Rattle.value_file.specs.Input.{AreInputs}
use Rattle.value_file.specs.PublicFile.{IsWritable}
use Rattle.input_share.specs.declared.entry.Part.{Part}
use Rattle.input_share.specs.declared.entry.Part.TheVariants.{Public, Private}
use Rattle.input_share.specs.declared.entry.ShareEntry.{ShareEntry}
use Rattle.input_share.specs.AddUp.{HasWords}
use Rattle.input_share.specs.Reading.{AreWritable}
use Rattle.input_share.specs.Values.{elements_of}

abbrev pub IsOfWords : Value → Type 0
IsOfWords value = All (λ n. n < 2 ^ 64) (elements_of value)

-- of a value that everybody knows
abbrev pub IsShownOfWords : PublicValue → Type 0
IsShownOfWords (Known value) = IsOfWords value
IsShownOfWords (Hidden kind shape) = Unit {0}

-- inputs that may stand in a file, of words
pub record AreRead (entries : List Entry) : Type 0 where
  pub form : AreInputs entries
  pub words : All HasWords entries

-- a public part that may stand in a file, of words
pub record ArePublicRead (part : List PublicEntry) : Type 0 where
  pub form : IsWritable part
  pub words : All (λ e. IsShownOfWords e.value) part

-- of what a miner has of an input: the elements of a public value, the share words of a private one
abbrev pub IsPartOfWords : Part → Type 0
IsPartOfWords (Public value) = IsOfWords value
IsPartOfWords (Private shared) = All (λ n. n < 2 ^ 64) shared.words

-- entries that may stand in a share file, of words
pub record AreSharesRead (entries : List ShareEntry) : Type 0 where
  pub form : AreWritable entries
  pub words : All (λ e. IsPartOfWords e.part) entries
