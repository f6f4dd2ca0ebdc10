-- A run whose inputs can't be dealt is as its evaluation reports.
use Rattle.std.proofs.Common.{◌≡◌, ◌<◌, ℕ, List, length, Result, Ok, Err, sym, ◌∙◌, ap, ap₂, subst}
use Rattle.sc_text.specs.declared.end.Ending.TheVariants.{Tape}
use Rattle.sc_text.specs.declared.end.TapeOwner.TheVariants.{Dealer}
use Rattle.proto_core.specs.declared.party.Number.{Number}
use Rattle.proto_core.specs.Script.{Move}
use Rattle.protocol_model.specs.Network.{Delivery, net, order_of}
use Rattle.tape_file.specs.Tapes.{FourTapes}
use Rattle.value_file.specs.declared.inputs.Entry.{Entry}
use Rattle.input_share.specs.Dealing.{need_of}
use Rattle.input_share.specs.Refusal.{Refuses}
use Rattle.input_share.specs.declared.dealing.DealErr.{DealErr}
use Rattle.input_share.specs.declared.dealing.DealErr.TheVariants as refusal
use Rattle.program_trees.specs.TypedPrograms.{TypedProgramTree}
use Rattle.program_run.proofs.Told.{undealt_so}
use Rattle.counted_net.specs.declared.delivery.DeliveryErr.{DeliveryErr}
use Rattle.counted_net.specs.declared.delivery.DeliveryErr.TheVariants as err
use Rattle.delivered_run.specs.declared.running.DeliveredRun.{DeliveredRun}
use Rattle.delivered_run.specs.Courses.{IsUndealtRun}
use Rattle.delivered_run.specs.Deliveries.{HasRunOf, IsRefusedOf}
use Rattle.delivered_run.specs.Undealt.{IsUndealt, IsUndealtBy}
use Rattle.delivered_run.proofs.Taken.{without_scripts}

-- it has run, or is refused
abbrev HasEnded : TypedProgramTree → List Entry → FourTapes → (budget : ℕ) → Delivery → Result DeliveredRun DeliveryErr → Type 0
HasEnded p entries t budget given (Ok ran) = HasRunOf p entries t budget given ran
HasEnded p entries t budget given (Err e) = IsRefusedOf p entries t budget given e

module _ (p : TypedProgramTree) (entries : List Entry) (t : FourTapes) (budget : ℕ) (few : length t.dealer < need_of entries) (given : Delivery) where
  undealt_run :
      (need have : ℕ) → need ≡ need_of entries → have ≡ length t.dealer → (result : Result DeliveredRun DeliveryErr) → IsUndealt need have given result
      → HasEnded p entries t budget given result
  undealt_run need have as_need as_have (Ok ran) h =
      let same = without_scripts p entries t budget few in
      record {
        accepted = ap (λ (s : Number → List Move). net s given) same ∙ h.accepted;
        told =
            undealt_so p entries t budget ran.report few h.events
            (h.end ∙ ap₂ (λ (n m : ℕ). record { how = Tape Dealer n m; cost = 0 }) as_need as_have);
        delivered = h.delivered ∙ sym (ap (λ (s : Number → List Move). order_of s given) same);
      }
  undealt_run need have as_need as_have (Err (err.EmptyLink entry link sent)) h =
      ap (λ (s : Number → List Move). net s given) (without_scripts p entries t budget few) ∙ h
  undealt_run need have as_need as_have (Err (err.Stalled miner link)) h = absurd h
  undealt_run need have as_need as_have (Err err.Memory) h = tt

module _ (p : TypedProgramTree) (entries : List Entry) (t : FourTapes) (budget : ℕ) (given : Delivery) where
  pub undealt_ran :
      (why : DealErr) → Refuses (need_of entries) (length t.dealer) why → (run : DeliveredRun) → IsUndealtBy why given (Ok run)
      → IsUndealtRun p entries t budget given run
  undealt_ran (refusal.TapeShort need have) short run h =
      record { few = short.0; ran = undealt_run p entries t budget short.0 given need have short.1 short.2 (Ok run) h }
  undealt_ran refusal.Memory short run h = absurd cc

  pub undealt_refused :
      (why : DealErr) → Refuses (need_of entries) (length t.dealer) why → (e : DeliveryErr) → IsUndealtBy why given (Err e)
      → IsRefusedOf p entries t budget given e
  undealt_refused (refusal.TapeShort need have) short e h = undealt_run p entries t budget short.0 given need have short.1 short.2 (Err e) h
  undealt_refused refusal.Memory short e h = let same : e ≡ err.Memory = cc in subst (IsRefusedOf p entries t budget given) (sym same) tt
