-- What `run` answers is what is decided of the files.
use Rattle.std.proofs.Common.{◌≡◌, ℕ, List, true, Ok, Err, Result, IsErrOf, refl, sym, ◌∙◌, ap, subst}
use Rattle.outside.specs.Files.{FilesState}
use Rattle.command_frame.specs.declared.object.Object.TheVariants as objects
use Rattle.command_frame.specs.declared.plan.Plan.{Plan}
use Rattle.command_frame.specs.declared.stop.Stop.{Stop}
use Rattle.command_frame.specs.declared.stop.Stop.TheVariants as stops
use Rattle.command_frame.specs.Answer.{Answer, effect_of}
use Rattle.command_frame.specs.Reads.{Gives, KeepsTo, OnlyRead, StopNames, Stops}
use Rattle.command_frame.specs.Stops.{IsFileStop}
use Rattle.command_frame.proofs.Naming.{names_later}
use Rattle.command_frame.proofs.ReadStops.{later_gives, read_on}
use Rattle.command_words.specs.Ask.{RunAsk}
use Rattle.program_trees.specs.TypedPrograms.{TypedProgramTree}
use Rattle.value_file.specs.declared.inputs.Entry.{Entry}
use Rattle.tape_file.specs.Tapes.{FourTapes}
use Rattle.counted_net.specs.declared.delivery.DeliveryErr.{DeliveryErr}
use Rattle.counted_net.specs.declared.delivery.DeliveryErr.TheVariants as refusal
use Rattle.viewed_run.specs.CourseErr.{CourseErr}
use Rattle.viewed_run.specs.CourseErr.TheVariants as course
use Rattle.viewed_run.specs.Deliveries.{net_of}
use Rattle.proto_core.specs.declared.link.Link.{Link}
use Rattle.proto_core.specs.declared.party.Number.{Number}
use Rattle.protocol_model.specs.Network.{Delivery, EmptyLink, Stalled}
use Rattle.program_commands.specs.Judging.{Finding}
use Rattle.program_commands.specs.Programs.{program_at}
use Rattle.program_commands.specs.Reading.{delivery_at, inputs_at, source_paths, tapes_at}
use Rattle.program_commands.specs.Schedules.{IsDeliveryStop, by_net, empty_line, refused_with, stalled_line}
use Rattle.program_commands.proofs.Exits.{tapes_named}
use Rattle.program_commands.proofs.Judged.{refused_so}
use Rattle.program_commands.proofs.Planned.{done_with}
use Rattle.tape_sources.specs.FileTapes.{TapeFaulted}
use Rattle.miner_commands.specs.Opened.{tapes_seen, IsCourseStop}
use Rattle.miner_commands.specs.Run.{course_answer, run_of, run_paths, HasRan, IsRan, IsRanOrNot}
use Rattle.miner_commands.specs.declared.tapes.OpenTapes.{OpenTapes}

-- ---- what comes of the run

module _ (ask : RunAsk) (p : TypedProgramTree) (entries : List Entry) (tapes : FourTapes) (delivery : Delivery) where
  abbrev decided : Answer
  decided = course_answer ask p entries tapes delivery

  pub planned_gives : (plan : Plan) → HasRan ask p entries tapes delivery plan → decided ≡ Ok (effect_of plan)
  unfolding by_net
  planned_gives plan h = rw h.accepted (ap done_with (sym h.planned))

  emptied : (entry : ℕ) (link : Link) (sent : ℕ) → net_of p entries tapes ask.budget delivery ≡ EmptyLink entry link sent
      → decided ≡ Err (refused_with (empty_line entry link sent))
  unfolding by_net
  emptied entry link sent is = rw is refl

  stalled : (miner : Number) (link : Link) → net_of p entries tapes ask.budget delivery ≡ Stalled miner link
      → decided ≡ Err (refused_with (stalled_line miner link))
  unfolding by_net
  stalled miner link is = rw is refl

  module _ (f f' : FilesState) where
    -- a schedule that is refused stops the command
    pub delivery_stops : (e : DeliveryErr) (stop : Stop) → (f.told ≡ true → IsRan ask p entries tapes delivery (Err e)) → IsDeliveryStop e stop
        → Stops f f' stop decided
    delivery_stops (refusal.EmptyLink entry link sent) stop is of = refused_so f f' stop decided of (λ told. emptied entry link sent (is told))
    delivery_stops (refusal.Stalled miner link) stop is of = refused_so f f' stop decided of (λ told. stalled miner link (is told))
    delivery_stops refusal.Memory stop is of = subst (λ (s : Stop). Stops f f' s decided) (sym of) tt

    -- words that couldn't be read, too
    file_stops : (path : List ℕ) (stop : Stop) → IsFileStop path stop → TapeFaulted f f' → Stops f f' stop decided
    file_stops path stops.Memory of fault = tt
    file_stops path stops.Usage of fault = absurd of
    file_stops path (stops.Refused r) of fault = absurd of
    file_stops path (stops.Breached b) of fault = absurd of
    file_stops path (stops.Failed (objects.File line)) of fault =
        record { rose = fault.rose; missing = λ steady told. absurd (fault.unsteady told steady) }
    file_stops path (stops.Failed objects.Output) of fault = absurd of
    file_stops path (stops.Failed objects.Links) of fault = absurd of
    file_stops path (stops.Failed objects.Children) of fault = absurd of

    pub course_stops : (path : List ℕ) (e : CourseErr) (stop : Stop) → (f.told ≡ true → IsRanOrNot ask p entries tapes delivery (Err e))
        → (IsErrOf {T = Plan} (Err e) course.TapeFault → TapeFaulted f f') → IsCourseStop path e stop → Stops f f' stop decided
    course_stops path (course.Delivery e) stop is fault of = delivery_stops e stop is of
    course_stops path course.TapeFault stop is fault of = file_stops path stop of (fault refl)

-- ---- the run after the files were read

module _ (f f1 f2 f3 f4 : FilesState) (first : OnlyRead f f1) (second : OnlyRead f1 f2) (third : OnlyRead f2 f3) (fourth : OnlyRead f3 f4)
    (found : Finding) (ask : RunAsk) (p : TypedProgramTree) (entries : List Entry) (opened : OpenTapes) (delivery : Delivery)
    (program : f.told ≡ true → program_at found f.contents ask.program ≡ Ok p)
    (input : List ℕ) (same : input ≡ ask.input) (inputs : f1.told ≡ true → inputs_at f1.contents input ≡ Ok entries)
    (taped : f2.told ≡ true → tapes_at f2.contents ask.source ≡ Ok (tapes_seen f2.contents opened))
    (order : f3.told ≡ true → delivery_at f3.contents ask.order ≡ Ok delivery) where
  to_second : OnlyRead f f2
  to_second = read_on f f1 f2 first second

  to_third : OnlyRead f f3
  to_third = read_on f f2 f3 to_second third

  to_fourth : OnlyRead f f4
  to_fourth = read_on f f3 f4 to_third fourth

  there : f.told ≡ true → inputs_at f.contents ask.input ≡ Ok entries
  there t = ap (inputs_at f.contents) (sym same) ∙ ap (λ c. inputs_at c input) (sym first.same.contents) ∙ inputs (first.same.told ∙ t)

  given : f.told ≡ true → tapes_at f.contents ask.source ≡ Ok (tapes_seen f4.contents opened)
  given t =
      ap (λ c. tapes_at c ask.source) (sym to_second.same.contents) ∙ taped (to_second.same.told ∙ t)
      ∙ ap (λ c. Ok (tapes_seen c opened)) (sym (fourth.same.contents ∙ third.same.contents))

  ordered : f.told ≡ true → delivery_at f.contents ask.order ≡ Ok delivery
  ordered t = ap (λ c. delivery_at c ask.order) (sym to_third.same.contents) ∙ order (to_third.same.told ∙ t)

  run_so : f.told ≡ true → run_of found ask f.contents ≡ course_answer ask p entries (tapes_seen f4.contents opened) delivery
  unfolding run_of
  run_so t = rw (program t, there t, given t, ordered t) refl

  module _ (f5 : FilesState) (result : Result Plan Stop)
      (gives : Gives effect_of f4 f5 result (course_answer ask p entries (tapes_seen f4.contents opened) delivery)) where
    pub run_gives : Gives effect_of f f5 result (run_of found ask f.contents)
    run_gives =
        later_gives effect_of f f4 f5 (run_of found ask f.contents) (course_answer ask p entries (tapes_seen f4.contents opened) delivery) to_fourth run_so
        result gives

-- a path that is read for the tapes is one of those that `run` reads
pub run_names : (ask : RunAsk) (paths written : List (List ℕ)) (r : Result Plan Stop) → paths ≡ source_paths ask.source → KeepsTo paths written r
    → KeepsTo (run_paths ask) written r
unfolding run_paths
run_names ask paths written (Ok plan) is h = h
run_names ask paths written (Err stop) is h =
    names_later _ _ _ (names_later _ _ _ (tapes_named ask.source _ stop (subst (λ (ps : List (List ℕ)). StopNames ps stop) is h)))
