-- Miners that learn their gates as they go: what comes next is told by where a miner stands and, where it opened a value,
-- by that value.
use Rattle.std.specs.Prelude.{◌≡◌, ℕ, zero, suc, List, [], ◌∷◌, ◌++◌, drop, Option, Some, None}
use Rattle.std.specs.Option.{option_map_or}
use Rattle.proto_core.specs.declared.party.Number.{Number}
use Rattle.proto_core.specs.declared.party.Number.TheVariants.{One}
use Rattle.proto_core.specs.Strand.{Notice, Told, Strand, Ends, Acts, then_do}
use Rattle.protocol_model.specs.Gates.{Gate, AreSound, needed, gates_strand}
use Rattle.protocol_model.specs.Runs.{Shares, Tapes, Ready, run_values}

-- one turn: its gates; and by the miner's own values after them what it tells, and where it leads
pub record Turn (S : Type 0) : Type 0 where
  pub gates : List Gate
  pub tells : List (List ℕ) → List Notice
  pub leads : List (List ℕ) → S

-- what holds of a turn, if there is one
abbrev pub OfTurn : {S : Type 0} → Option (Turn S) → (Turn S → Type 0) → Type 0
OfTurn None P = Unit {0}
OfTurn (Some t) P = P t

abbrev pub telling : {A : Type 0} → List Notice → Strand A → Strand A
telling [] s = s
telling (t ∷ ts) s = Acts (Told t) (telling ts s)

-- ---- after a turn of the joint run: the shares, the tapes, and where the first miner is led

module _ {S : Type 0} (t : Turn S) where
  abbrev pub shares_behind : Shares → Tapes → Shares
  shares_behind values tapes = run_values t.gates values tapes

  abbrev pub tapes_behind : Tapes → Tapes
  tapes_behind tapes i = drop (needed t.gates i) (tapes i)

  abbrev pub place_behind : Shares → Tapes → S
  place_behind values tapes = t.leads (run_values t.gates values tapes One)

  -- the three miners are led to one place
  abbrev pub LeadsTogether : Shares → Tapes → Type 0
  LeadsTogether values tapes = (i : Number) → t.leads (run_values t.gates values tapes i) ≡ t.leads (run_values t.gates values tapes One)

-- ---- turn by turn, as many as `fuel` lasts for

module _ {S : Type 0} (next : S → Option (Turn S)) where
  -- one miner: it ends where it stands, with its values
  abbrev pub driven : (fuel : ℕ) → Number → S → (values : List (List ℕ)) → (tape : List ℕ) → Strand (S × List (List ℕ))
  driven zero i s values tape = Ends (s, values)
  driven (suc fuel) i s values tape =
      option_map_or
      (λ t. then_do (gates_strand i t.gates values tape) (λ all. telling (t.tells all) (driven fuel i (t.leads all) all (drop (needed t.gates i) tape))))
      (next s) (Ends (s, values))

  -- the gates of the whole run, each turn's by the joint run of those before
  abbrev pub path : (fuel : ℕ) → S → Shares → Tapes → List Gate
  path zero s values tapes = []
  path (suc fuel) s values tapes =
      option_map_or (λ t. t.gates ++ path fuel (place_behind t values tapes) (shares_behind t values tapes) (tapes_behind t tapes)) (next s) []

  -- where it comes to
  abbrev pub stop : (fuel : ℕ) → S → Shares → Tapes → S
  stop zero s values tapes = s
  stop (suc fuel) s values tapes =
      option_map_or (λ t. stop fuel (place_behind t values tapes) (shares_behind t values tapes) (tapes_behind t tapes)) (next s) s

  -- what a miner tells, in order
  abbrev pub notices : (fuel : ℕ) → Number → S → Shares → Tapes → List Notice
  notices zero i s values tapes = []
  notices (suc fuel) i s values tapes =
      option_map_or
      (λ t. t.tells (shares_behind t values tapes i)
      ++ notices fuel i (place_behind t values tapes) (shares_behind t values tapes) (tapes_behind t tapes))
      (next s) []

  -- at each turn all three miners are led to the same place
  abbrev pub Led : (fuel : ℕ) → S → Shares → Tapes → Type 0
  Led zero s values tapes = Unit {0}
  Led (suc fuel) s values tapes =
      OfTurn (next s)
      (λ t.
      LeadsTogether t values tapes
      × Led fuel (place_behind t values tapes) (shares_behind t values tapes) (tapes_behind t tapes))

  -- and the gates can be run
  abbrev pub Goes : (fuel : ℕ) → S → Shares → Tapes → Type 0
  Goes zero s values tapes = Unit {0}
  Goes (suc fuel) s values tapes =
      OfTurn (next s)
      (λ t.
      AreSound t.gates
      × Ready t.gates values tapes
      × LeadsTogether t values tapes
      × Goes fuel (place_behind t values tapes) (shares_behind t values tapes) (tapes_behind t tapes))

  -- the three miners, each with its shares and its tape
  abbrev pub driven_nodes : (fuel : ℕ) → S → Shares → Tapes → Number → Strand (S × List (List ℕ))
  driven_nodes fuel s values tapes i = driven fuel i s (values i) (tapes i)
