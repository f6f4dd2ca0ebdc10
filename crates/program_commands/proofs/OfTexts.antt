-- What is found of a text: its judgement, and whether it is small enough.
use Rattle.std.proofs.Common.{◌≡◌, ℕ, List, true, Some, None, Ok, Err, Result, refl, ap, subst, sym, ◌∙◌}
use Rattle.std.specs.Prelude.{IfErr}
use Rattle.std.specs.Result.{IsErrAnd}
use Rattle.outside.specs.Files.{Contents, FilesState, file_at}
use Rattle.program_trees.specs.Programs.{ProgramTree}
use Rattle.program_trees.specs.TypedPrograms.{TypedProgramTree}
use Rattle.name_resolution.specs.Functions.{typed_of}
use Rattle.reached_instances.specs.declared.limit_err.LimitErr.{LimitErr}
use Rattle.reached_instances.specs.declared.limit_err.LimitErr.TheVariants.{TooManyInstances, ProgramTooLarge, FunctionTooLarge, Memory}
use Rattle.reached_instances.specs.LimitAnswer.{IsAnswer}
use Rattle.front_end.specs.Judgement.{Judged, IsJudged}
use Rattle.command_frame.specs.declared.object.Object.TheVariants as objects
use Rattle.command_frame.specs.declared.stop.Stop.{Stop}
use Rattle.command_frame.specs.declared.stop.Stop.TheVariants as stops
use Rattle.command_frame.specs.Answer.{Cause, ◌>>=◌, bytes_at}
use Rattle.command_frame.specs.Reads.{Gives, StopNames, Stops, StopsReading}
use Rattle.command_frame.specs.Stops.{IsRefusalFor}
use Rattle.program_commands.specs.Judging.{Sized, IsSized, IsSizedAs, IsReachedAs, Finding, FoundAt, HasFinding, StopTells, Tells, its_program}
use Rattle.program_commands.specs.OfText.{Decides, HasDecided, IsFoundOf, IsFoundSo, IsJudgedSo, IsOwnStop, NotForMemory, StopsSo, program_in}
use Rattle.program_commands.specs.Programs.{accepted, program_at, too_large, tree_at}
use Rattle.program_commands.proofs.Judged.{found_there, no_text, some}
use Rattle.program_commands.proofs.Sizes.{JustVerdict, OnlyVerdict, accepted_judged, is_refused, large_known, reaching, refused_text, small_known}

-- ---- stops of what reads no file

pub refuses_so : {Y : Type 0} (stop : Stop) (decided : Result Y Cause) {cause : Cause} → IsRefusalFor cause stop → decided ≡ Err cause → StopsSo stop decided
refuses_so stops.Memory decided for is = tt
refuses_so stops.Usage decided for is = absurd for
refuses_so (stops.Refused r) decided for is = is ∙ ap (λ (c : Cause). Err c) (sym for)
refuses_so (stops.Breached b) decided for is = absurd for
refuses_so (stops.Failed object) decided for is = absurd for

pub own_refusal : (cause : Cause) (stop : Stop) → IsRefusalFor cause stop → IsOwnStop stop
own_refusal cause stops.Memory for = tt
own_refusal cause stops.Usage for = absurd for
own_refusal cause (stops.Refused r) for = tt
own_refusal cause (stops.Breached b) for = absurd for
own_refusal cause (stops.Failed object) for = absurd for

-- a step after a refused one isn't made
pub stops_behind : {X Y : Type 0} (stop : Stop) (decided : Result X Cause) (more : X → Result Y Cause) → StopsSo stop decided → StopsSo stop (decided >>= more)
stops_behind stops.Memory decided more s = tt
stops_behind stops.Usage decided more s = absurd s
stops_behind (stops.Refused r) decided more s = rw s refl
stops_behind (stops.Breached b) decided more s = absurd s
stops_behind (stops.Failed object) decided more s = absurd s

-- a stop that is handed on
pub handed_on : {X Y : Type 0} (view : X → Y) (r : Result X Stop) (stop : Stop) (decided : Result Y Cause) → IsErrAnd r (λ given. given ≡ stop)
    → StopsSo stop decided
    → Decides view r decided
handed_on view (Ok x) stop decided is s = absurd is
handed_on view (Err given) stop decided is s = subst (λ (e : Stop). StopsSo e decided) (sym is) s

-- where an answer is decided nothing stops but want of memory
pub only_memory : {Y : Type 0} (stop : Stop) (decided : Result Y Cause) (y : Y) → decided ≡ Ok y → StopsSo stop decided → stop ≡ stops.Memory
only_memory stops.Memory decided y is s = refl
only_memory stops.Usage decided y is s = absurd s
only_memory (stops.Refused r) decided y is s = absurd (let wrong : Ok y ≡ Err _ = sym is ∙ s in cc)
only_memory (stops.Breached b) decided y is s = absurd s
only_memory (stops.Failed object) decided y is s = absurd s

-- ---- a text that is refused

no_stop : (stop : Stop) (tree : ProgramTree) → NotForMemory stop → StopsSo stop (accepted (Ok tree)) → ⊥
no_stop stops.Memory tree told s = told
no_stop stops.Usage tree told s = s
no_stop (stops.Refused r) tree told s = absurd cc
no_stop (stops.Breached b) tree told s = s
no_stop (stops.Failed object) tree told s = s

abbrev AllStop : List ℕ → Stop → Type 0
AllStop bytes stop = (judged : Judged) → IsJudged bytes judged → StopsSo stop (accepted judged)

refused_found : (bytes : List ℕ) (stop : Stop) → AllStop bytes stop → NotForMemory stop → IsJudgedSo bytes → IsFoundSo bytes
refused_found bytes stop all told (Ok tree, h) = absurd (no_stop stop tree told (all (Ok tree) h))
refused_found bytes stop all told (Err fault, h) = (refused_text (Err fault), record { judged = h; sized = tt; reached = tt })

pub refused_found_on : {X : Type 0} (bytes : List ℕ) (stop : Stop) (r : Result X Stop) → IsErrAnd r (λ given. given ≡ stop) → AllStop bytes stop
    → (NotForMemory stop → IsJudgedSo bytes) → HasDecided r → IsFoundSo bytes
refused_found_on bytes stop (Ok x) is all has told = absurd is
refused_found_on bytes stop (Err given) is all has told =
    let told_so : NotForMemory stop = subst NotForMemory is told in
    refused_found bytes stop all told_so (has told_so)

-- ---- a text that is accepted

module _ (bytes : List ℕ) (tree : ProgramTree) (p : TypedProgramTree) (typed : typed_of tree ≡ Some p) where
  sized_so : (found : Finding) → IsFoundOf bytes found → accepted found.judged ≡ Ok tree → IsSized tree found.sized
  sized_so found h is = subst (λ (j : Judged). IsSizedAs j found.sized) (accepted_judged found.judged tree is) h.sized

  pub small_in : (found : Finding) → IsFoundOf bytes found → accepted found.judged ≡ Ok tree → OnlyVerdict p None → program_in found ≡ Ok p
  unfolding program_in
  small_in found h is only = rw (is, small_known tree p typed only found.sized (sized_so found h is)) refl

  large_in : (found : Finding) (error : LimitErr) → IsFoundOf bytes found → accepted found.judged ≡ Ok tree → OnlyVerdict p (Some error)
      → program_in found ≡ Err (too_large error)
  unfolding program_in
  large_in found error h is only = rw (is, large_known tree p error typed only found.sized (sized_so found h is)) refl

  pub large_stops : (found : Finding) (error : LimitErr) (stop : Stop) → IsRefusalFor (too_large error) stop → (error ≡ Memory → stop ≡ stops.Memory)
      → IsFoundOf bytes found → accepted found.judged ≡ Ok tree → JustVerdict p error → StopsSo stop (program_in found)
  large_stops found (TooManyInstances count) stop for memory h is only =
      refuses_so stop (program_in found) for (large_in found (TooManyInstances count) h is only)
  large_stops found (ProgramTooLarge size) stop for memory h is only = refuses_so stop (program_in found) for (large_in found (ProgramTooLarge size) h is only)
  large_stops found (FunctionTooLarge size) stop for memory h is only =
      refuses_so stop (program_in found) for (large_in found (FunctionTooLarge size) h is only)
  large_stops found Memory stop for memory h is only = subst (λ (s : Stop). StopsSo s (program_in found)) (sym (memory refl)) tt

abbrev AllAccept : List ℕ → ProgramTree → Type 0
AllAccept bytes tree = (judged : Judged) → IsJudged bytes judged → accepted judged ≡ Ok tree

pub sized_found : (bytes : List ℕ) (tree : ProgramTree) (sized : Sized) → AllAccept bytes tree → IsSized tree sized → IsJudgedSo bytes → IsFoundSo bytes
sized_found bytes tree sized all is (judged, h) =
    let (reached, are) = reaching tree sized is in
    let same : Ok tree ≡ judged = sym (accepted_judged judged tree (all judged h)) in (
      record { judged = judged; sized = sized; reached = reached },
      record {
        judged = h;
        sized = subst (λ (j : Judged). IsSizedAs j sized) same is;
        reached = subst (λ (j : Judged). IsReachedAs j sized reached) same are;
      },
    )

pub large_found : (bytes : List ℕ) (tree : ProgramTree) (p : TypedProgramTree) (error : LimitErr) (stop : Stop) → (error ≡ Memory → stop ≡ stops.Memory)
    → AllAccept bytes tree → typed_of tree ≡ Some p → IsAnswer p (Err error) → IsJudgedSo bytes → NotForMemory stop → IsFoundSo bytes
large_found bytes tree p (TooManyInstances count) stop memory all typed verdict has told =
    sized_found bytes tree (Err (TooManyInstances count)) all (p, typed, verdict) has
large_found bytes tree p (ProgramTooLarge size) stop memory all typed verdict has told =
    sized_found bytes tree (Err (ProgramTooLarge size)) all (p, typed, verdict) has
large_found bytes tree p (FunctionTooLarge size) stop memory all typed verdict has told =
    sized_found bytes tree (Err (FunctionTooLarge size)) all (p, typed, verdict) has
large_found bytes tree p Memory stop memory all typed verdict has told = absurd (subst NotForMemory (memory refl) told)

-- ---- the text of a file

module _ (files : Contents) (path bytes : List ℕ) (there : bytes_at files path ≡ Ok bytes) where
  same_bytes : (b : List ℕ) → file_at files path ≡ Some b → bytes ≡ b
  same_bytes b at = let both : Some bytes ≡ Some b = sym (found_there files path bytes there) ∙ at in cc

  of_file : (found : Finding) → FoundAt (its_program path) files found → IsFoundOf bytes found
  of_file found h = record { judged = h.judged bytes (found_there files path bytes there); sized = h.sized; reached = h.reached }

  in_file : IsFoundSo bytes → HasFinding (its_program path) files
  in_file (found, h) = (
    found,
    record { judged = λ b at. subst (λ (x : List ℕ). IsJudged x found.judged) (same_bytes b at) h.judged; sized = h.sized; reached = h.reached },
  )

  at_file : (found : Finding) → program_at found files path ≡ program_in found
  unfolding program_at tree_at program_in
  at_file found = rw there refl

module _ (old new : FilesState) (path bytes : List ℕ) (there : old.told ≡ true → bytes_at old.contents path ≡ Ok bytes) where
  stops_at_file : (stop : Stop) (found : Finding) → (old.told ≡ true → StopsSo stop (program_in found)) → IsOwnStop stop
      → Stops old new stop (program_at found old.contents path)
  stops_at_file stops.Memory found s own = tt
  stops_at_file stops.Usage found s own = own
  stops_at_file (stops.Refused r) found s own = λ t. at_file old.contents path bytes (there t) found ∙ s t
  stops_at_file (stops.Breached b) found s own = absurd own
  stops_at_file (stops.Failed object) found s own = absurd own

  -- what is decided of the text is decided of the file
  pub gives_of_file : {X : Type 0} (view : X → TypedProgramTree) (r : Result X Stop)
      → ((found : Finding) → IsFoundOf bytes found → Decides view r (program_in found))
      → IfErr r IsOwnStop → (found : Finding) → FoundAt (its_program path) old.contents found → Gives view old new r (program_at found old.contents path)
  gives_of_file view (Ok x) all own found h =
      λ t. at_file old.contents path bytes (there t) found ∙ all found (of_file old.contents path bytes (there t) found h)
  gives_of_file view (Err stop) all own found h =
      stops_at_file stop found (λ t. all found (of_file old.contents path bytes (there t) found h)) own

  told_so : (stop : Stop) → IsOwnStop stop → StopTells old stop → NotForMemory stop
  told_so stops.Memory own tells = tells
  told_so stops.Usage own tells = absurd own
  told_so (stops.Refused r) own tells = tt
  told_so (stops.Breached b) own tells = absurd own
  told_so (stops.Failed object) own tells = absurd own

  pub found_of_file : {X : Type 0} (r : Result X Stop) → IfErr r IsOwnStop → (HasDecided r → IsFoundSo bytes) → old.told ≡ true → Tells old r
      → HasFinding (its_program path) old.contents
  found_of_file (Ok x) own has t tells = in_file old.contents path bytes (there t) (has tt)
  found_of_file (Err stop) own has t tells = in_file old.contents path bytes (there t) (has (told_so stop own tells))

pub own_reading : {X : Type 0} (old new : FilesState) (r : Result X Stop) → IfErr r IsOwnStop → IfErr r (StopsReading old new)
own_reading old new (Ok x) own = tt
own_reading old new (Err stops.Memory) own = tt
own_reading old new (Err stops.Usage) own = absurd own
own_reading old new (Err (stops.Refused r)) own = tt
own_reading old new (Err (stops.Breached b)) own = absurd own
own_reading old new (Err (stops.Failed object)) own = absurd own

pub own_names : {X : Type 0} (paths : List (List ℕ)) (r : Result X Stop) → IfErr r IsOwnStop → IfErr r (StopNames paths)
own_names paths (Ok x) own = tt
own_names paths (Err stop) own = record { named = λ line is. absurd (subst IsOwnStop is own) }

-- ---- a file that was not read

pub unread_stops : (old new : FilesState) (path : List ℕ) (stop : Stop) (found : Finding) → Stops old new stop (bytes_at old.contents path)
    → Stops old new stop (program_at found old.contents path)
unfolding program_at tree_at
unread_stops old new path stops.Memory found s = tt
unread_stops old new path stops.Usage found s = s
unread_stops old new path (stops.Refused r) found s = λ t. rw (s t) refl
unread_stops old new path (stops.Breached b) found s = s
unread_stops old new path (stops.Failed (objects.File line)) found s = record { rose = s.rose; missing = λ steady t. rw (s.missing steady t) refl }
unread_stops old new path (stops.Failed objects.Output) found s = s
unread_stops old new path (stops.Failed objects.Links) found s = s
unread_stops old new path (stops.Failed objects.Children) found s = s

pub unread_gives : {X : Type 0} (view : X → TypedProgramTree) (old new : FilesState) (path : List ℕ) (stop : Stop) (r : Result X Stop) (found : Finding)
    → IsErrAnd r (λ given. given ≡ stop) → Stops old new stop (bytes_at old.contents path) → Gives view old new r (program_at found old.contents path)
unread_gives view old new path stop (Ok x) found is s = absurd is
unread_gives view old new path stop (Err given) found is s =
    subst (λ (e : Stop). Stops old new e (program_at found old.contents path)) (sym is) (unread_stops old new path stop found s)

found_none : (files : Contents) (path : List ℕ) (c : Cause) → bytes_at files path ≡ Err c → HasFinding (its_program path) files
found_none files path c is = (refused_text some, is_refused files path _ (no_text files path c is))

-- of a store that tells
unread : (files new : FilesState) (path : List ℕ) (stop : Stop) → Stops files new stop (bytes_at files.contents path) → files.told ≡ true
    → StopTells files stop → HasFinding (its_program path) files.contents
unread files new path stops.Memory s t tells = absurd tells
unread files new path stops.Usage s t tells = absurd s
unread files new path (stops.Refused r) s t tells = found_none files.contents path _ (s t)
unread files new path (stops.Breached b) s t tells = absurd s
unread files new path (stops.Failed (objects.File line)) s t tells = found_none files.contents path _ (s.missing tells t)
unread files new path (stops.Failed objects.Output) s t tells = absurd s
unread files new path (stops.Failed objects.Links) s t tells = absurd s
unread files new path (stops.Failed objects.Children) s t tells = absurd s

pub unread_on : {X : Type 0} (files new : FilesState) (path : List ℕ) (stop : Stop) (r : Result X Stop) → IsErrAnd r (λ given. given ≡ stop)
    → Stops files new stop (bytes_at files.contents path) → files.told ≡ true → Tells files r → HasFinding (its_program path) files.contents
unread_on files new path stop (Ok x) is s t tells = absurd is
unread_on files new path stop (Err given) is s t tells = unread files new path stop s t (subst (StopTells files) is tells)
