-- The run that three views show, if they show one: inputs and tapes that are found, and its report.
use Rattle.std.specs.Prelude.{ℕ, zero, suc, Bool, nat_le, if◌then◌else◌, List, [], ◌∷◌, ◌++◌, take, get_or}
use Rattle.proto_core.specs.declared.party.Number.{Number}
use Rattle.proto_core.specs.declared.party.Number.TheVariants.{One, Two, Three}
use Rattle.proto_core.specs.Script.{Move}
use Rattle.proto_core.specs.Strand.{Mail}
use Rattle.value_file.specs.declared.public.PublicValue.{PublicValue}
use Rattle.value_file.specs.declared.public.PublicValue.TheVariants.{Known, Hidden}
use Rattle.value_file.specs.declared.public.PublicEntry.{PublicEntry}
use Rattle.value_file.specs.declared.inputs.Entry.{Entry}
use Rattle.value_file.specs.Values.{size_of}
use Rattle.input_share.specs.Values.{shared_size}
use Rattle.tape_file.specs.Tapes.{FourTapes}
use Rattle.program_trees.specs.TypedPrograms.{TypedProgramTree}
use Rattle.language_model.specs.Reports.{Report}
use Rattle.view_text.specs.View.{InputShare, View}
use Rattle.program_views.specs.Views.{hidden_need, run_on}
use Rattle.gate_audit.specs.Shown.{Views, dealt_with, found}
use Rattle.gate_audit.specs.Passing.{mail_dealt, scripts_dealt}

-- as many zeros; the tapes may be as long as 64 bits count, so this is never computed
unfoldable pub zeros : ℕ → List ℕ
zeros zero = []
zeros (suc n) = 0 ∷ zeros n

-- a line for each hidden input, of zeros
abbrev pub zeros_then : (name : List ℕ) → PublicValue → List InputShare → List InputShare
zeros_then name (Known value) more = more
zeros_then name (Hidden kind shape) more = record { name = name; words = zeros (shared_size kind (size_of shape)) } ∷ more

abbrev pub zero_lines : List PublicEntry → List InputShare
zero_lines [] = []
zero_lines (e ∷ es) = zeros_then e.name e.value (zero_lines es)

-- a dealer's tape of this length suffices; the lengths are those of the dealer's tape and of the miners'
abbrev pub suffices : List PublicEntry → (lengths : List ℕ) → Bool
suffices part lengths = nat_le (hidden_need part) (get_or lengths 0 0)

-- the words, and zeros after them, cut at a length
unfoldable pub padded : List ℕ → (size : ℕ) → List ℕ
padded words size = take size (words ++ zeros size)

module _ (part : List PublicEntry) (lengths : List ℕ) (views : Number → View) where
  -- where dealing ended the run no line tells the inputs
  abbrev pub lines : Number → List InputShare
  lines i = if suffices part lengths then (views i).inputs else zero_lines part

  abbrev pub shows : Views
  shows i = record { inputs = lines i; drew = (views i).drew; got = (views i).got }

  abbrev pub entries_found : List Entry
  entries_found = found part shows

  abbrev pub tapes_found : FourTapes
  tapes_found =
      record {
        dealer = padded (dealt_with part shows) (get_or lengths 0 0);
        one = padded (views One).drew (get_or lengths 1 0);
        two = padded (views Two).drew (get_or lengths 2 0);
        three = padded (views Three).drew (get_or lengths 3 0);
      }

  module _ (p : TypedProgramTree) (budget : ℕ) where
    abbrev pub report : Report
    report = run_on p entries_found lengths budget

    -- the messages of each link
    abbrev pub messages : Mail
    messages = mail_dealt entries_found report.gates tapes_found

    -- what each miner sends and takes
    abbrev pub scripts : Number → List Move
    scripts = scripts_dealt entries_found report.gates tapes_found
