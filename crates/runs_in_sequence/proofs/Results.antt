-- Runs in sequence compute what their gates do of the values that they begin with.
use Rattle.std.proofs.Common.{ℕ, ◌<◌, List, [], ◌∷◌, ◌++◌, refl, ◌∙◌, arith}
use Rattle.proto_core.specs.declared.party.Number.{Number}
use Rattle.protocol_model.specs.Runs.{Tapes, Ready}
use Rattle.gates.specs.Clear.{Values}
use Rattle.shared_gates.specs.Shares.{Kind}
use Rattle.shared_gates.proofs.Computing.{computes}
use Rattle.handed_shares.specs.Handed.{handed_values, handed_kinds, AreKept}
use Rattle.handed_shares.proofs.Kept.{are-kept}
use Rattle.runs_in_sequence.specs.Sequences.{chosen, Leg, no_values, Kept, gates_on, kept_then, RunOn}
use Rattle.runs_in_sequence.specs.Results.{Held, chosen_kinds, Meaning, Suits, inputs_of, input_kinds, ComputedOf, AreComputed}
use Rattle.runs_in_sequence.proofs.Holding.{held-both, held-chosen, held-sizes}

none_under : (k : ℕ) → k < 0 → ⊥
none_under k lt = omega (arith, lt)

-- ---- one run

module _ (kinds : List Kind) (values : Values) (kept : Kept) (held : Held kinds values kept) (leg : Leg) (m : Meaning) (suits : Suits kinds values leg m)
    (t : Tapes) (ready : Ready (gates_on leg kept) no_values t) where
  abbrev begins : Number → Values
  begins i = chosen leg.takes (kept i) ++ leg.fresh i

  begins-held : Held (input_kinds leg m kinds) (inputs_of leg m values) begins
  begins-held =
      held-both (chosen leg.takes values) m.values (λ i. chosen leg.takes (kept i)) leg.fresh (chosen_kinds leg.takes kinds) m.dealt
      (held-chosen kinds values kept held leg.takes suits.places) suits.dealt

  pub run-computes : ComputedOf values kept leg m t
  run-computes =
      computes (input_kinds leg m kinds) m.kinds (inputs_of leg m values) begins leg.sizes begins-held.held suits.sizes
      (λ i. held-sizes _ _ begins begins-held i ∙ suits.sizes)
      leg.gates [] [] no_values t refl (λ i. refl) (λ k lt. absurd (none_under k lt)) suits.kinded suits.suited ready

  -- what is kept after it
  pub kept-held :
      (run : ComputedOf values kept leg m t)
      → Held (kinds ++ handed_kinds leg.keeps 0 leg.gates) (values ++ handed_values leg.keeps 0 run.more leg.gates) (kept_then leg kept t)
  kept-held run =
      let new : AreKept leg.keeps leg.gates run.more _ =
      are-kept leg.keeps (input_kinds leg m kinds) m.kinds (inputs_of leg m values) leg.gates _ _ suits.kinded run in
      held-both values (handed_values leg.keeps 0 run.more leg.gates) kept _ kinds (handed_kinds leg.keeps 0 leg.gates) held
      (record { held = new.held; kinds_count = new.kinds; count = new.count })

-- ---- all of them

pub are-computed :
    (kinds : List Kind) (values : Values) (kept : Kept) (legs : List Leg) (ms : List Meaning) (ts : List Tapes)
    → Held kinds values kept → RunOn kept legs ts → AreComputed kinds values kept legs ms ts
are-computed kinds values kept [] ms ts held runs = held
are-computed kinds values kept (leg ∷ legs) [] ts held runs = tt
are-computed kinds values kept (leg ∷ legs) (m ∷ ms) [] held runs = tt
are-computed kinds values kept (leg ∷ legs) (m ∷ ms) (t ∷ ts) held runs = λ suits.
    let run = run-computes kinds values kept held leg m suits t runs.0 in (
      run,
      are-computed (kinds ++ handed_kinds leg.keeps 0 leg.gates) (values ++ handed_values leg.keeps 0 run.more leg.gates) (kept_then leg kept t)
          legs ms ts (kept-held kinds values kept held leg m suits t runs.0 run) runs.1,
    )
