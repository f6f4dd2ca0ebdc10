-- A step of code beside one that other gates were made before.
use Rattle.std.specs.Prelude.{◌≡◌, List, ◌++◌, length, drop, Ok, Err}
use Rattle.std.specs.List.{slice_get}
use Rattle.gates.specs.declared.gate.Gate.{Gate}
use Rattle.language_model.specs.Effects.{World, Stage, Run}
use Rattle.verified_code.specs.Steps.{Function}
use Rattle.code_model.specs.Machine.{Machine, step}

-- a stage with these gates in place of its own
abbrev pub with_gates : List Gate → Stage → Stage
with_gates gates s = record s { gates = gates }

-- what a run from s has come to, as it stands where these gates were made before
abbrev pub behind_others : (before : List Gate) → (s u : Stage) → Stage
behind_others before s u = with_gates (before ++ drop (length s.gates) u.gates) u

abbrev pub ran_behind_others : {A : Type 0} → (before : List Gate) → Stage → Run A → Run A
ran_behind_others before s (Ok x) = Ok (x.0, behind_others before s x.1)
ran_behind_others before s (Err e) = Err (e.0, behind_others before s e.1)

-- a step does the same, whatever gates were made before
abbrev pub EarlierGatesChangeNothing : World → List Function → Machine → Stage → (before : List Gate) → Type 0
EarlierGatesChangeNothing w c m s before =
    step w c (slice_get m.steps m.pc) m (with_gates before s) ≡ ran_behind_others before s (step w c (slice_get m.steps m.pc) m s)
