-- A run whose inputs can't be dealt, since the dealer's tape has too few words: no message is sent.
use Rattle.std.specs.Prelude.{◌≡◌, ℕ, List, [], ◌∷◌, Option, Some, None, Result, Ok, Err}
use Rattle.sc_text.specs.declared.end.Ending.TheVariants.{Tape}
use Rattle.sc_text.specs.declared.end.TapeOwner.TheVariants.{Dealer}
use Rattle.proto_core.specs.declared.party.Number.{Number}
use Rattle.proto_core.specs.declared.link.Link.{Link}
use Rattle.proto_core.specs.Script.{Move}
use Rattle.protocol_model.specs.Network.{Accepted, Default, Delivery, EmptyLink, Listed, Shuffled, net, order_of}
use Rattle.input_share.specs.declared.dealing.DealErr.{DealErr}
use Rattle.input_share.specs.declared.dealing.DealErr.TheVariants as refusal
use Rattle.counted_net.specs.declared.delivery.DeliveryErr.{DeliveryErr}
use Rattle.counted_net.specs.declared.delivery.DeliveryErr.TheVariants as err
use Rattle.delivered_run.specs.declared.running.DeliveredRun.{DeliveredRun}

abbrev pub no_scripts : Number → List Move
no_scripts i = []

-- its first link, where links are listed
abbrev pub IsFirstEntry : Delivery → Option Link → Type 0
IsFirstEntry (Listed (l ∷ ls)) found = found ≡ Some l
IsFirstEntry (Listed []) found = found ≡ None
IsFirstEntry Default found = found ≡ None
IsFirstEntry (Shuffled words) found = found ≡ None

pub record HasEndedUndealt (need have : ℕ) (given : Delivery) (ran : DeliveredRun) : Type 0 where
  pub accepted : net no_scripts given ≡ Accepted
  pub delivered : ran.delivered.items ≡ order_of no_scripts given
  pub events : ran.report.events.items ≡ []
  pub end : ran.report.end ≡ record { how = Tape Dealer need have; cost = 0 }

-- it ends before it begins, or the first entry of the schedule has no message
abbrev pub IsUndealt : (need have : ℕ) → Delivery → Result DeliveredRun DeliveryErr → Type 0
IsUndealt need have given (Ok ran) = HasEndedUndealt need have given ran
IsUndealt need have given (Err (err.EmptyLink entry link sent)) = net no_scripts given ≡ EmptyLink entry link sent
IsUndealt need have given (Err (err.Stalled miner link)) = ⊥
IsUndealt need have given (Err err.Memory) = Unit {0}

-- the same, by why they can't be dealt
abbrev pub IsUndealtBy : DealErr → Delivery → Result DeliveredRun DeliveryErr → Type 0
IsUndealtBy (refusal.TapeShort need have) given result = IsUndealt need have given result
IsUndealtBy refusal.Memory given result = result ≡ Err err.Memory
