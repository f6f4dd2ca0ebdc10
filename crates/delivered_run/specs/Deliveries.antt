-- The run of a program by three miners apart, whose messages are delivered in an order.
use Rattle.std.specs.Prelude.{◌≡◌, ℕ, List, Result, Ok, Err}
use Rattle.proto_core.specs.declared.link.Link.{Link}
use Rattle.protocol_model.specs.Network as network
use Rattle.protocol_model.specs.Network.{net, order_of}
use Rattle.tape_file.specs.Tapes.{FourTapes}
use Rattle.program_trees.specs.TypedPrograms.{TypedProgramTree}
use Rattle.value_file.specs.declared.inputs.Entry.{Entry}
use Rattle.language_model.specs.Reports.{Report}
use Rattle.code_runs.specs.Dealt.{Dealt}
use Rattle.program_run.specs.Inputs.{dealt_of}
use Rattle.code_runs.specs.Runs.{scripts}
use Rattle.program_run.specs.Reports.{TellsAs, eval_with}
pub use Rattle.counted_net.specs.Answers.{delivery_seen}
use Rattle.counted_net.specs.declared.delivery.DeliveryErr.{DeliveryErr}
use Rattle.counted_net.specs.declared.delivery.DeliveryErr.TheVariants as err
use Rattle.delivered_run.specs.declared.errors.CourseErr.{CourseErr}
use Rattle.delivered_run.specs.declared.errors.CourseErr.TheVariants as course
use Rattle.delivered_run.specs.declared.running.DeliveredRun.{DeliveredRun}

-- ---- by what was dealt, and the report of the run in the clear

module _ (d : Dealt) (r : Report) where
  -- a run of which all came that was to come, by the miners' moves, which hold counts and no words: it tells what the report tells, and which
  -- links were delivered
  pub record HasRun (given : network.Delivery) (ran : DeliveredRun) : Type 0 where
    pub accepted : net (scripts d r) given ≡ network.Accepted
    pub told : TellsAs r ran.report
    pub delivered : ran.delivered.items ≡ order_of (scripts d r) given

  -- the schedule is refused as the net says
  abbrev pub IsRefused : network.Delivery → DeliveryErr → Type 0
  IsRefused given (err.EmptyLink entry link sent) = net (scripts d r) given ≡ network.EmptyLink entry link sent
  IsRefused given (err.Stalled miner link) = net (scripts d r) given ≡ network.Stalled miner link
  IsRefused given err.Memory = Unit {0}

  -- so it is, or the schedule is refused, or no more is said since a tape couldn't be read
  abbrev pub IsOr : {A : Type 0} → network.Delivery → (A → Type 0) → Result A CourseErr → Type 0
  IsOr given Q (Ok x) = Q x
  IsOr given Q (Err (course.Delivery e)) = IsRefused given e
  IsOr given Q (Err course.TapeFault) = Unit {0}

-- ---- of a program, with tapes of these lengths

module _ (p : TypedProgramTree) (entries : List Entry) (t : FourTapes) (budget : ℕ) where
  abbrev pub net_of : network.Delivery → network.Answer
  net_of given = net (scripts (dealt_of entries t.dealer) (eval_with p entries t budget)) given

  abbrev pub delivered_of : network.Delivery → List Link
  delivered_of given = order_of (scripts (dealt_of entries t.dealer) (eval_with p entries t budget)) given

  abbrev pub HasRunOf : network.Delivery → DeliveredRun → Type 0
  HasRunOf given ran = HasRun (dealt_of entries t.dealer) (eval_with p entries t budget) given ran

  abbrev pub IsRefusedOf : network.Delivery → DeliveryErr → Type 0
  IsRefusedOf given e = IsRefused (dealt_of entries t.dealer) (eval_with p entries t budget) given e

  abbrev pub IsOrRefused : {A : Type 0} → network.Delivery → (A → Type 0) → Result A CourseErr → Type 0
  IsOrRefused given Q result = IsOr (dealt_of entries t.dealer) (eval_with p entries t budget) given Q result

  -- it has run so, or the schedule is refused
  abbrev pub IsRunOf : network.Delivery → Result DeliveredRun CourseErr → Type 0
  IsRunOf given result = IsOrRefused given (HasRunOf given) result
