-- What is promised of the client that looks at a run of gates.
use Rattle.std.specs.Prelude.{◌≡◌, ℕ, Bool, List, [], ◌++◌, length}
use Rattle.proto_core.specs.declared.party.Number.{Number}
use Rattle.proto_core.specs.declared.party.Number.TheVariants.{One, Two, Three}
use Rattle.proto_core.specs.Lists.{AreWords}
use Rattle.protocol_model.specs.Runs.{Tapes, Ready, run_values, run_opened}
use Rattle.gates.specs.declared.gate.Gate.{Gate}
use Rattle.gates.specs.Clear.{Values}
use Rattle.shared_gates.specs.Shares.{Kind}
use Rattle.shared_gates.specs.Computed.{Computed}
use Rattle.shared_gates.specs.Model.{run_gates}
use Rattle.client_model.specs.ClientMaps.{to_client, from_client}
use Rattle.handed_shares.specs.Handed.{handed_values, kept_from}
use Rattle.client_model.specs.Given.{Given, given_from, beside, made_from}

module _ (dealt : Number → Values) (ds : List ℕ) (gates : List Gate) where
  -- the shares that the miners have of all values at the end
  abbrev pub shares_at_end : Tapes → Number → Values
  shares_at_end tapes = run_values (run_gates dealt ds [] gates) (λ i. []) tapes

  -- the gates run on these tapes
  abbrev pub Runs : Tapes → Type 0
  Runs tapes = Ready (run_gates dealt ds [] gates) (λ i. []) tapes

module _ (mine : ℕ → Bool) (dealt : Number → Values) (ds : List ℕ) (gates : List Gate) where
  -- what the client is given in the run
  abbrev pub given : Tapes → List Given
  given tapes = given_from mine 0 (shares_at_end dealt ds gates tapes) gates

  -- the maps are each other's inverse; each tape keeps its length, the third miner's its words, and words stay words
  pub record ClientTapesCorrespond (tapes : Tapes) : Type 0 where
    pub there_and_back : from_client mine dealt ds gates (to_client mine dealt ds gates tapes) ≡ tapes
    pub back_and_there : to_client mine dealt ds gates (from_client mine dealt ds gates tapes) ≡ tapes
    pub kept : (m : Number) → length (to_client mine dealt ds gates tapes m) ≡ length (tapes m)
    pub back_kept : (m : Number) → length (from_client mine dealt ds gates tapes m) ≡ length (tapes m)
    pub third : to_client mine dealt ds gates tapes Three ≡ tapes Three
    pub words : (m : Number) → AreWords (to_client mine dealt ds gates tapes m)
    pub back_words : (m : Number) → AreWords (from_client mine dealt ds gates tapes m)

  -- the simulator makes what the client is given, of the words that are handed over, also with more after them, and of the mapped tapes
  abbrev pub GivenIsMade : List Kind → List Kind → (inputs : Values) → Tapes → Type 0
  GivenIsMade dealt_kinds kinds inputs tapes =
      (run : Computed kinds inputs [] gates (shares_at_end dealt ds gates tapes) (run_opened (run_gates dealt ds [] gates) (λ i. []) tapes)) → (more : Values)
      → made_from mine 0 ds [] gates (handed_values mine 0 run.more gates ++ more) (to_client mine dealt ds gates tapes) ≡ given tapes

  -- what a miner keeps of these values
  abbrev pub kept : Tapes → Number → Values
  kept tapes i = kept_from mine 0 (shares_at_end dealt ds gates tapes i) gates

  abbrev pub GivenIsKept : Tapes → Type 0
  GivenIsKept tapes = beside (kept tapes One) (kept tapes Two) (kept tapes Three) ≡ given tapes
