-- What a miner at work is given: verified code, what everybody may know of the inputs, its shares of the private ones, and its tape.
use Rattle.std.specs.Prelude.{◌≡◌, length, Ok}
use Rattle.proto_core.specs.declared.party.Number.{Number}
use Rattle.proto_core.specs.Strand.{Ends}
use Rattle.protocol_model.specs.Gates.{sizes_of}
use Rattle.shared_gates.specs.Model.{miner_of}
use Rattle.bytecode.specs.Raw.{RawCode}
use Rattle.verified_code.specs.Settled.{settled}
use Rattle.verified_code.specs.Verified.{IsVerified}
use Rattle.language_model.specs.Effects.{Answers}
use Rattle.gate_laws.specs.Dealt.{drawn_by}
use Rattle.gate_laws.specs.Laws.{LiteralsAreWords}
use Rattle.own_code.specs.OwnCode.{Ended}
use Rattle.miner_core.specs.declared.answer.End.{End}
use Rattle.miner_core.specs.declared.answer.End.TheVariants as end
use Rattle.miner_core.specs.declared.answer.Step.TheVariants as step
use Rattle.miner_core.specs.Story.{Story, node, IsAnswer}
use Rattle.miner_ends.specs.Ends.{EndsAsItCan}
use Rattle.miner_ends.specs.Known.{AreKnown, private_sizes}

-- a miner was made with these, whatever came to it
pub record IsGivenItsPart (i : Number) (s : Story) : Type 0 where
  pub code : RawCode
  pub settles : s.code ≡ settled code
  pub verified : IsVerified code
  pub literals : LiteralsAreWords code
  pub told : s.world.source ≡ Answers
  pub known : AreKnown s.world.inputs
  pub shares : sizes_of s.dealt ≡ private_sizes s.world.inputs
  pub tape : length s.tape ≡ drawn_by s.world.lengths (miner_of i)

-- where it ends, it ends as evaluation can
abbrev pub EndsWhereItCan : Number → Story → Type 0
EndsWhereItCan i s = IsGivenItsPart i s → (e : Ended) → (node i s).left ≡ Ends e → EndsAsItCan s.world s.code s.budget e

-- one of evaluation's ends
abbrev pub IsOfEvaluation : End → Type 0
IsOfEvaluation (end.Over ending) = Unit {0}
IsOfEvaluation end.Short = ⊥
IsOfEvaluation end.Endless = ⊥
IsOfEvaluation end.Unfit = ⊥

-- where it answers that it has ended, it answers one of these
abbrev pub AnswersNoOtherEnd : Number → Story → Type 0
AnswersNoOtherEnd i s = IsGivenItsPart i s → (how : End) → IsAnswer i s (Ok (step.Ended how)) → IsOfEvaluation how
