-- The text that is read of a file, and the judgement of none.
use Rattle.std.proofs.Common.{◌≡◌, ℕ, List, [], true, Option, Some, None, Ok, Err, Result, refl, ap, subst, sym, ◌∙◌}
use Rattle.std.specs.Option.{ok_or}
use Rattle.outside.specs.Files.{Contents, FilesState, file_at}
use Rattle.sc_text.specs.declared.code.PlacedFault.TheVariants.{BadByte}
use Rattle.front_end.specs.declared.program_fault.ProgramFault.{ProgramFault}
use Rattle.front_end.specs.declared.program_err.ProgramErr.{ProgramErr}
use Rattle.front_end.specs.declared.program_err.ProgramErr.TheVariants.{Refused}
use Rattle.front_end.specs.Answer.{IsAnswer, IsJust}
use Rattle.front_end.specs.Judgement.{Judged, IsJudged}
use Rattle.command_frame.specs.declared.stop.Stop.{Stop}
use Rattle.command_frame.specs.declared.stop.Stop.TheVariants as stops
use Rattle.command_frame.specs.Answer.{Cause, bytes_at, missing}
use Rattle.command_frame.specs.Reads.{Stops}
use Rattle.command_frame.specs.Stops.{IsRefusalFor}
use Rattle.reached_instances.specs.declared.limit_err.LimitErr.TheVariants.{Memory}
use Rattle.program_commands.specs.Judging.{JudgedAt, Sized, HasFinding, nothing}

-- the bytes that were read are those of the file
pub found_there : (files : Contents) (path bytes : List ℕ) → bytes_at files path ≡ Ok bytes → file_at files path ≡ Some bytes
unfolding bytes_at
found_there files path bytes is = go (file_at files path) is
  where
    go : (t : Option (List ℕ)) → ok_or t (missing path) ≡ Ok bytes → t ≡ Some bytes
    go (Some b) is = cc
    go None is = absurd cc

not_there : (files : Contents) (path : List ℕ) (c : Cause) → bytes_at files path ≡ Err c → file_at files path ≡ None
unfolding bytes_at
not_there files path c is = go (file_at files path) is
  where
    go : (t : Option (List ℕ)) → ok_or t (missing path) ≡ Err c → t ≡ None
    go (Some b) is = absurd cc
    go None is = refl

-- any judgement, of no text
abbrev pub some : Judged
some = Err (record { fault = BadByte; place = record { line = 1; column = 1 } })

pub no_text : (files : Contents) (path : List ℕ) (c : Cause) → bytes_at files path ≡ Err c → JudgedAt path files some
no_text files path c is = λ b there. absurd (wrong b there)
  where
    wrong : (b : List ℕ) → file_at files path ≡ Some b → ⊥
    wrong b there = let both : None ≡ Some b = sym (not_there files path c is) ∙ there in cc

-- a refusal that is decided
pub refused_so : {Y : Type 0} (old new : FilesState) (stop : Stop) (decided : Result Y Cause) {cause : Cause} → IsRefusalFor cause stop
    → (old.told ≡ true → decided ≡ Err cause) → Stops old new stop decided
refused_so old new stops.Memory decided for is = tt
refused_so old new stops.Usage decided for is = absurd for
refused_so old new (stops.Refused r) decided for is = λ t. is t ∙ ap (λ (c : Cause). Err c) (sym for)
refused_so old new (stops.Breached b) decided for is = absurd for
refused_so old new (stops.Failed object) decided for is = absurd for

-- the bytes as they are lent
pub as_lent : (files : Contents) (path bytes lent : List ℕ) → bytes_at files path ≡ Ok bytes → lent ≡ bytes → bytes_at files path ≡ Ok lent
as_lent files path bytes lent is same = rw same is

-- what the front end says of a text that it refuses
pub refusal_known : (bytes : List ℕ) (e : ProgramErr) (fault : ProgramFault) → e ≡ Refused fault → IsAnswer bytes (Err e) → IsJudged bytes (Err fault)
refusal_known bytes e fault is a = subst (λ (x : ProgramErr). IsAnswer bytes (Err x)) is a

pub refusal_only : (bytes : List ℕ) (e : ProgramErr) (fault : ProgramFault) → e ≡ Refused fault → ((j : Judged) → IsJudged bytes j → IsJust (Err e) j)
    → (j : Judged) → IsJudged bytes j → j ≡ Err fault
refusal_only bytes e fault is only j judged = subst (λ (x : ProgramErr). IsJust (Err x) j) is (only j judged)

-- any size, of no program
abbrev pub any_size : Sized
any_size = Err Memory

pub found_nothing : (files : Contents) → HasFinding nothing files
found_nothing files = (record { judged = some; sized = any_size; reached = [] }, tt)
