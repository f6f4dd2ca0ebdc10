-- What a miner is given that is made of its share file, and how it ends, whatever messages come.
use Rattle.std.specs.Prelude.{◌≡◌, ℕ, List, get_or, length, Ok}
use Rattle.proto_core.specs.Parties.{count_of}
use Rattle.proto_core.specs.Strand.{Ends}
use Rattle.bytecode.specs.Raw.{RawCode}
use Rattle.verified_code.specs.Settled.{settled}
use Rattle.verified_code.specs.Verified.{IsVerified}
use Rattle.language_model.specs.Effects.{Answers}
use Rattle.language_model.specs.Reports.{world_of}
use Rattle.gate_laws.specs.Laws.{LiteralsAreWords}
use Rattle.input_share.specs.Reading.{read_share_of}
use Rattle.input_share.specs.ShareFile.{MinerFile}
use Rattle.input_share.specs.Shapes.{shapes_of}
use Rattle.clear_eval.specs.Offers.{offered_part}
use Rattle.view_model.specs.Dealing.{private_shares}
use Rattle.own_code.specs.OwnCode.{Ended}
use Rattle.miner_core.specs.declared.answer.End.{End}
use Rattle.miner_core.specs.declared.answer.Step.TheVariants as step
use Rattle.miner_core.specs.Story.{Story, node, IsAnswer}
use Rattle.miner_ends.specs.Ends.{EndsAsItCan}
use Rattle.miner_ends.specs.Given.{IsOfEvaluation}

-- verified code; the public part, the lengths and the shares of a share file that is read as its miner's; and a tape of the length that the file says of
-- this miner
pub record IsOfShareFile (share : MinerFile) (s : Story) : Type 0 where
  pub code : RawCode
  pub settles : s.code ≡ settled code
  pub verified : IsVerified code
  pub literals : LiteralsAreWords code
  pub bytes : List ℕ
  pub read : read_share_of (count_of share.miner) bytes ≡ Ok share
  pub world : s.world ≡ world_of Answers (offered_part (shapes_of share.entries) share.lens)
  pub dealt : s.dealt ≡ private_shares share.entries
  pub tape : length s.tape ≡ get_or share.lens (count_of share.miner) 0

-- where the file's miner ends, it ends as evaluation can
abbrev pub SharesEndWhereTheyCan : MinerFile → Story → Type 0
SharesEndWhereTheyCan share s = IsOfShareFile share s → (e : Ended) → (node share.miner s).left ≡ Ends e → EndsAsItCan s.world s.code s.budget e

-- where it answers that it has ended, it answers one of evaluation's ends
abbrev pub SharesAnswerNoOtherEnd : MinerFile → Story → Type 0
SharesAnswerNoOtherEnd share s = IsOfShareFile share s → (how : End) → IsAnswer share.miner s (Ok (step.Ended how)) → IsOfEvaluation how
