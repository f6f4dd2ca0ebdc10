-- Deliveries that are made leave nothing to come.
use Rattle.std.proofs.Common.{◌≡◌, ◌≤◌, ◌<◌, ℕ, List, length, refl, sym, ◌∙◌, ap, inl, inr}
use Rattle.miner_runs.proofs.OwnRuns.{delivery_is_counted}
use Rattle.std.proofs.lemmas.Bool.{cases_lt}
use Rattle.proto_core.specs.declared.party.Number.{Number}
use Rattle.proto_core.specs.Script.{Move}
use Rattle.protocol_model.specs.Network.{Accepted, Default, Delivery, Listed, Shuffled, net}
use Rattle.tape_file.specs.Tapes.{FourTapes}
use Rattle.value_file.specs.declared.inputs.Entry.{Entry}
use Rattle.input_share.specs.Dealing.{need_of}
use Rattle.program_trees.specs.TypedPrograms.{TypedProgramTree}
use Rattle.language_model.specs.Reports.{Report}
use Rattle.program_run.specs.Inputs.{dealt_of}
use Rattle.code_runs.specs.Runs.{scripts}
use Rattle.program_run.specs.Accepted.{IsAccepted}
use Rattle.program_run.specs.Dealt.{CanBeDealt}
use Rattle.program_run.proofs.Told.{ended_so}
use Rattle.miner_runs.proofs.Programs.{own_runs_where_accepted}
use Rattle.program_run.specs.Reports.{eval_with}
use Rattle.delivered_run.specs.Deliveries.{net_of}
use Rattle.delivered_run.specs.Undealt.{no_scripts}
use Rattle.delivered_run.specs.Laws.{MadeIsTaken}
use Rattle.delivered_run.specs.Premises.{HaveWords, IsMade}

-- ---- where the inputs can't be dealt there is no run

module _ (p : TypedProgramTree) (entries : List Entry) (t : FourTapes) (budget : ℕ) where
  abbrev scripts_here : Number → List Move
  scripts_here = scripts (dealt_of entries t.dealer) (eval_with p entries t budget)

  pub without_scripts : length t.dealer < need_of entries → scripts_here ≡ no_scripts
  without_scripts few = ap (λ (r : Report). scripts (dealt_of entries t.dealer) r) (ended_so p entries t budget few)

module _ (p : TypedProgramTree) (entries : List Entry) (t : FourTapes) (budget : ℕ) (accepted : IsAccepted p) (have : HaveWords entries t) where
  -- ---- the inputs are dealt

  pub can_be_dealt : need_of entries ≤ length t.dealer → CanBeDealt entries t
  can_be_dealt enough =
      record { sound = have.sound; suffice = record { words = have.dealer; enough = enough }; words = have.words }

  where_dealt : need_of entries ≤ length t.dealer → (delivery : Delivery) → IsMade delivery → net_of p entries t budget delivery ≡ Accepted
  where_dealt enough Default made =
      let run = (own_runs_where_accepted p entries t budget accepted (can_be_dealt enough)).run in
      sym (delivery_is_counted run Default) ∙ run.in_order
  where_dealt enough (Listed links) made = absurd made
  where_dealt enough (Shuffled words) made =
      let run = (own_runs_where_accepted p entries t budget accepted (can_be_dealt enough)).run in
      sym (delivery_is_counted run (Shuffled words)) ∙ run.shuffled words

  -- ---- or there is no run

  none_taken : (delivery : Delivery) → IsMade delivery → net no_scripts delivery ≡ Accepted
  none_taken Default made = refl
  none_taken (Listed links) made = absurd made
  none_taken (Shuffled words) made = refl

  taken : (delivery : Delivery) → IsMade delivery → net_of p entries t budget delivery ≡ Accepted
  taken delivery made =
      elim (cases_lt (length t.dealer) (need_of entries)) [
        | inl few ↦ ap (λ (s : Number → List Move). net s delivery) (without_scripts p entries t budget few) ∙ none_taken delivery made
        | inr enough ↦ where_dealt enough delivery made
      ]

pub made_deliveries_are_taken : (p : TypedProgramTree) (entries : List Entry) (t : FourTapes) (budget : ℕ) (delivery : Delivery)
    → MadeIsTaken p entries t budget delivery
made_deliveries_are_taken p entries t budget delivery accepted have made = taken p entries t budget accepted have delivery made
