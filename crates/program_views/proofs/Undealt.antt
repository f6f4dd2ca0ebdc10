-- Where dealing ended the run there is nothing but its end.
use Rattle.std.proofs.Common.{◌≡◌, ℕ, Bool, false, if◌then◌else◌, List, [], length, ap, ◌∙◌}
use Rattle.std.specs.Prelude.{nat_le}
use Rattle.program_trees.specs.TypedPrograms.{TypedProgramTree}
use Rattle.value_file.specs.declared.inputs.Entry.{Entry}
use Rattle.tape_file.specs.Tapes.{FourTapes}
use Rattle.language_model.specs.Effects.{World, Clear, words_each}
use Rattle.language_model.specs.Reports.{Report, world_of, dealing, beginning, report_of, not_dealt, evaluated}
use Rattle.language_model.proofs.Walk.{main_of}
use Rattle.clear_eval.specs.Offers.{offered}
use Rattle.view_model.specs.TapeMaps.{is_dealt}
use Rattle.program_views.specs.Views.{lengths_of, run_on}
use Rattle.program_views.proofs.Given.{same_need}

undealt_in : (w : World) (p : TypedProgramTree) (budget : ℕ) → nat_le (dealing w) w.dealer ≡ false → evaluated w p budget [] ≡ not_dealt w
undealt_in w p budget h = ap (λ (b : Bool). if b then report_of w budget (main_of w p (beginning budget [])) else not_dealt w) h

module _ (p : TypedProgramTree) (entries : List Entry) (t : FourTapes) (budget : ℕ) (short : is_dealt entries t ≡ false) where
  undealt : run_on p entries (lengths_of t) budget ≡ not_dealt (world_of Clear (offered entries (lengths_of t)))
  undealt =
      undealt_in (world_of Clear (offered entries (lengths_of t))) p budget (ap (λ n. nat_le n (length t.dealer)) (same_need entries) ∙ short)

  pub no_gates : (run_on p entries (lengths_of t) budget).gates ≡ []
  no_gates = ap (λ (r : Report). r.gates) undealt

  pub no_events : (run_on p entries (lengths_of t) budget).events ≡ []
  no_events = ap (λ (r : Report). r.events) undealt

  pub none_drawn : (run_on p entries (lengths_of t) budget).drawn ≡ words_each 0
  none_drawn = ap (λ (r : Report). r.drawn) undealt
