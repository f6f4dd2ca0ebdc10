-- Share files that can be gathered, what `gather` then does, and files that are refused.
use Rattle.std.specs.Prelude.{◌≡◌, ◌<◌, ◌^◌, ℕ, List, ◌∷◌, ◌++◌, length, All, Some, Ok, Err}
use Rattle.outside.specs.Files.{Contents, file_at}
use Rattle.command_frame.specs.declared.status.Status.{Status}
use Rattle.command_frame.specs.declared.status.Status.TheVariants.{Input}
use Rattle.command_frame.specs.Answer.{Effect}
use Rattle.command_words.specs.Ask.{GatherAsk}
use Rattle.input_share.specs.Reading.{read_share_of}
use Rattle.input_share.specs.ShareFile.{MinerFile}
use Rattle.proto_core.specs.Parties.{count_of as number_of}
use Rattle.value_file.specs.declared.read_err.ReadErr.{ReadErr}
use Rattle.value_file.specs.Input.{AreInputs}
use Rattle.gather_command.specs.Gathering.{gathered}
use Rattle.gather_command.specs.Owners.{all_inputs, dealt_by, dealt_by_all, dealt_by_one, one_tape, CanDeal, Lengths, Owner}
use Rattle.gather_command.specs.declared.gathering.GatherErr.{GatherErr}
use Rattle.program_commands.specs.Reading.{share_at}
use Rattle.gather_command.specs.Gather.{gather_effect, shares_at}

-- the share files that `gather` reads are there, each of the miner
pub record HoldsShares (ask : GatherAsk) (files : Contents) (one : MinerFile) (others : List MinerFile) : Type 0 where
  pub first : share_at files ask.miner ask.first ≡ Ok one
  pub more : shares_at files ask.miner ask.more ≡ Ok others

-- over such files that go together: the file of all of them
abbrev pub GatherEffect : GatherAsk → Contents → Effect → Type 0
GatherEffect ask files effect = (first : MinerFile) × (more : List MinerFile) × (file : MinerFile)
    × HoldsShares ask files first more × (gathered first more ≡ Ok file) × (effect ≡ gather_effect ask.to file)

-- a file is there that is no share file of the miner, and those before it are
pub record HoldsBadShare (ask : GatherAsk) (files : Contents) : Type 0 where
  pub before : List (List ℕ)
  pub path : List ℕ
  pub behind : List (List ℕ)
  pub order : ask.first ∷ ask.more ≡ before ++ path ∷ behind
  pub earlier : List MinerFile
  pub read : shares_at files ask.miner before ≡ Ok earlier
  pub bytes : List ℕ
  pub there : file_at files path ≡ Some bytes
  pub err : ReadErr
  pub bad : read_share_of (number_of ask.miner) bytes ≡ Err err

-- why `gather` is refused with this status: the first file that is there and not as it must be, or files that don't go together
pub data GatherRefused (ask : GatherAsk) (files : Contents) (status : Status) : Type 0 where
  unreadable_share : status ≡ Input → HoldsBadShare ask files → GatherRefused ask files status
  unlike_shares : status ≡ Input → (first : MinerFile) (more : List MinerFile) → HoldsShares ask files first more
      → (err : GatherErr) → gathered first more ≡ Err err → GatherRefused ask files status

-- the files hold what these owners dealt the miner, each with words enough; the inputs of all may stand in one file, and the lengths of
-- their tapes add up to less than 2^64
pub record HoldsDealt (ask : GatherAsk) (files : Contents) (miners : Lengths) (owner : Owner) (owners : List Owner) : Type 0 where
  pub shares : HoldsShares ask files (dealt_by ask.miner miners owner) (dealt_by_all ask.miner miners owners)
  pub enough : All CanDeal (owner ∷ owners)
  pub inputs : AreInputs (all_inputs (owner ∷ owners))
  pub long : length (one_tape (owner ∷ owners)) < 2 ^ 64

-- the effect is to write what one dealer deals the miner of all inputs
abbrev pub WritesOneDealing : GatherAsk → Contents → Lengths → Owner → List Owner → Type 0
WritesOneDealing ask files miners owner owners = GatherEffect ask files (gather_effect ask.to (dealt_by_one ask.miner miners (owner ∷ owners)))
