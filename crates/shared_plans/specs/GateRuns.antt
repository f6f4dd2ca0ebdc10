-- Three miners that run gates on shares that they were dealt.
use Rattle.std.specs.Prelude.{◌≡◌, ℕ, ◌+◌, ◌≤◌, List, [], ◌++◌, length}
use Rattle.proto_core.specs.declared.party.Number.{Number}
use Rattle.proto_core.specs.Lists.{AreWords}
use Rattle.protocol_model.specs.Gates.{sizes_of}
use Rattle.protocol_model.specs.Gates as model
use Rattle.protocol_model.specs.Runs.{Shares, Tapes, run_values, run_opened}
use Rattle.gates.specs.declared.ring_kind.RingKind.TheVariants.{Arithmetic}
use Rattle.gates.specs.declared.gate.Gate.{Gate}
use Rattle.gates.specs.Clear.{Values}
use Rattle.gates.specs.Counts.{Miner, size_of, made_by_all, words_of_all}
use Rattle.shared_gates.specs.Shares.{Kind, Shared, kind_at, share_at, AllHeld}
use Rattle.shared_gates.specs.Kinds.{AllKinded}
use Rattle.shared_gates.specs.Model.{AllSizesSuit, run_gates, sizes_after, miner_of}

pub record GateRun : Type 0 where
  -- the private inputs, in which ring each is shared, and each miner's shares of them
  pub inputs : Values
  pub dealt_kinds : List Kind
  pub dealt : Number → Values
  -- the gates, and in which ring each value is shared that they make
  pub gates : List Gate
  pub kinds : List Kind

abbrev pub dealt_sizes : GateRun → List ℕ
dealt_sizes r = sizes_of r.inputs

-- how many values the gates make, and how many elements each has
abbrev pub value_count : GateRun → ℕ
value_count r = made_by_all r.gates

abbrev pub value_sizes : GateRun → List ℕ
value_sizes r = sizes_after (dealt_sizes r) [] r.gates

-- the miners have shares of the inputs, and each gate suits the values before it, in their sizes and in how they are shared
pub record IsWellFormed (r : GateRun) : Type 0 where
  pub dealt_held : AllHeld r.dealt_kinds r.inputs r.dealt
  pub dealt_sized : (i : Number) → sizes_of (r.dealt i) ≡ dealt_sizes r
  pub kinded : AllKinded r.dealt_kinds r.kinds 0 r.gates
  pub suits : AllSizesSuit (dealt_sizes r) [] r.gates
  pub counted : length r.kinds ≡ value_count r

-- the same, and then these gates, whose values are shared like this
abbrev pub then_gates : GateRun → List Gate → List Kind → GateRun
then_gates r gates kinds =
    record {
      inputs = r.inputs;
      dealt_kinds = r.dealt_kinds;
      dealt = r.dealt;
      gates = r.gates ++ gates;
      kinds = r.kinds ++ kinds;
    }

-- ---- the run

abbrev pub model_gates : GateRun → List model.Gate
model_gates r = run_gates r.dealt (dealt_sizes r) [] r.gates

-- each miner's shares of all values at the end, those of one value, and the words that all three learn
abbrev pub end_shares : GateRun → Tapes → Shares
end_shares r tapes = run_values (model_gates r) (λ i. []) tapes

abbrev pub shares_of : GateRun → Tapes → ℕ → Number → List ℕ
shares_of r tapes u = share_at (end_shares r tapes) u

abbrev pub opened_words : GateRun → Tapes → List ℕ
opened_words r tapes = run_opened (model_gates r) (λ i. []) tapes

-- how many words a miner draws
abbrev pub words_drawn : GateRun → Number → ℕ
words_drawn r i = words_of_all (value_sizes r) (miner_of i) r.gates

-- a value of n numbers, shared by sums
pub record IsNumber (r : GateRun) (n u : ℕ) : Type 0 where
  pub kind : kind_at r.kinds u ≡ Shared Arithmetic
  pub size : size_of (value_sizes r) u ≡ n

-- tapes of words that are long enough for the gates and for so many words after them
pub record Reach (r : GateRun) (more : Miner → ℕ) (tapes : Tapes) : Type 0 where
  pub words : (i : Number) → AreWords (tapes i)
  pub long : (i : Number) → words_drawn r i + more (miner_of i) ≤ length (tapes i)
