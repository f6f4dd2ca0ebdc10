-- What is promised of the gates that steps and runs of code make.
use Rattle.std.specs.Prelude.{◌≡◌, ◌<◌, ◌^◌, ℕ, List, Some}
use Rattle.std.specs.List.{slice_get}
use Rattle.proto_core.specs.declared.party.Number.{Number}
use Rattle.proto_core.specs.Lists.{AreWords}
use Rattle.protocol_model.specs.Gates.{sizes_of}
use Rattle.gates.specs.Clear.{Values, FitFrom}
use Rattle.shared_plans.specs.Shares.{Kind, AllHeld}
use Rattle.shared_plans.specs.Model.{miner_of}
use Rattle.shared_plans.specs.Computed.{opened_values}
use Rattle.shared_plans.specs.GateRuns.{GateRun, IsWellFormed, words_drawn}
use Rattle.language_model.specs.Effects.{World, Clear, Stage}
use Rattle.language_model.specs.Learned.{learned_of}
use Rattle.language_model.specs.Reports.{Report}
use Rattle.bytecode.specs.Raw.{Raw, Literal, RawFunction, RawCode}
use Rattle.verified_code.specs.Steps.{Function}
use Rattle.verified_code.specs.Settled.{settled}
use Rattle.verified_code.specs.Verified.{IsVerified}
use Rattle.code_model.specs.Machine.{Machine, step}
use Rattle.code_model.specs.Meaning.{mean_in}
use Rattle.code_model.specs.Kinded.{AreSingle, IsWithin}
use Rattle.code_model.specs.Laws.{AreFitting}
use Rattle.gate_laws.specs.Facts.{handed_values, Handed, none_of, run_at, IsAt}
use Rattle.gate_laws.specs.Dealt.{drawn_by, Dealt}
use Rattle.gate_laws.specs.Offers.{AreOffered}
use Rattle.gate_laws.specs.Machines.{MachineStands, ArrivesAt, AreTaking}

-- code whose steps fit and take values that have gates, and inputs that are dealt
pub record MayRun (w : World) (d : Dealt) (c : List Function) : Type 0 where
  pub fitting : AreFitting c
  pub taking : AreTaking c
  pub singles : AreSingle w.inputs
  pub offered : AreOffered d 0 w.inputs

-- the miners have shares of what is dealt
pub record IsDealing (d : Dealt) : Type 0 where
  pub held : AllHeld d.kinds d.inputs d.shares
  pub sized : (i : Number) → sizes_of (d.shares i) ≡ sizes_of d.inputs

-- a step from where a machine stands leads to where it stands
abbrev pub StepsKeepStanding : World → Dealt → List Function → Type 0
StepsKeepStanding w d c =
    MayRun w d c → (m : Machine) → IsWithin c m → (kinds : List Kind) (s : Stage) → IsAt w d kinds none_of s → MachineStands (run_at w d kinds s) m
    → ArrivesAt w d s kinds (step w c (slice_get m.steps m.pc) m s)

abbrev pub run_of : Dealt → Report → List Kind → GateRun
run_of d r kinds = record { inputs = d.inputs; dealt_kinds = d.kinds; dealt = d.shares; gates = r.gates; kinds = kinds }

-- the gates of a report are a run on shares that is well formed: each gate suits the values before it in kinds and sizes. It draws the
-- words that the report counts. Whatever values fit the gates, those that are handed over are told as such, and in the clear the words
-- that the events open are those of the values that are opened
pub record GatesSuit (w : World) (d : Dealt) (r : Report) : Type 0 where
  pub kinds : List Kind
  pub formed : IsWellFormed (run_of d r kinds)
  pub drawn : (i : Number) → drawn_by r.drawn (miner_of i) ≡ words_drawn (run_of d r kinds) i
  pub handed : (values : Values) → FitFrom d.inputs values 0 r.gates → Handed r.events (handed_values values r.gates)
  pub opened : w.source ≡ Clear → (values : Values) → FitFrom d.inputs values 0 r.gates → learned_of r.events ≡ opened_values values r.gates

abbrev pub RunsMakeSuitedGates : World → Dealt → List Function → (budget : ℕ) → (answers : List ℕ) → Type 0
RunsMakeSuitedGates w d c budget answers =
    MayRun w d c → IsDealing d → (main : Function) → slice_get c 0 ≡ Some main → AreWords answers → GatesSuit w d (mean_in w c budget answers)

-- ---- VERIFIED CODE

abbrev pub LiteralIsWord : Raw → Type 0
LiteralIsWord (Literal d x) = x < 2 ^ 64
LiteralIsWord i = Unit {0}

-- of numbers, and so of truth values
abbrev pub LiteralsAreWords : RawCode → Type 0
LiteralsAreWords code =
    (n : ℕ) (f : RawFunction) → slice_get code.functions n ≡ Some f → (k : ℕ) (i : Raw) → slice_get f.body k ≡ Some i → LiteralIsWord i

-- the steps of verified code fit, and take values that have gates
abbrev pub VerifiedSuits : RawCode → Type 0
VerifiedSuits code = IsVerified code → LiteralsAreWords code → AreFitting (settled code) × AreTaking (settled code)
