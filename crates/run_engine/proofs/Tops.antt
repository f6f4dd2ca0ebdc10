-- Small facts of statuses and of words.
use Rattle.std.proofs.Common.{◌≡◌, ◌≢◌, ◌⊎◌, inl, inr, List, ℕ, true, Some, None, Ok, Err, Result, refl, subst}
use Rattle.std.proofs.lemmas.Bool.{false≢true}
use Rattle.std.specs.Prelude.{IsSome}
use Rattle.outside.specs.Files.{FilesState}
use Rattle.command_words.specs.declared.command.WordsErr.{WordsErr}
use Rattle.command_words.specs.declared.command.WordsErr.TheVariants.{Usage}
use Rattle.command_words.specs.Ask.{Ask, words_of}
use Rattle.command_words.specs.Views.{Reads, ask_of}
use Rattle.command_frame.specs.declared.object.Object.TheVariants as objects
use Rattle.command_frame.specs.declared.status.Status.{Status}
use Rattle.command_frame.specs.declared.status.Status.TheVariants as statuses
use Rattle.command_frame.specs.declared.stop.Stop.{Stop}
use Rattle.command_frame.specs.declared.stop.Stop.TheVariants as stops
use Rattle.command_frame.specs.Moments.{Moment}
use Rattle.command_frame.specs.Whole.{PutsNothing, status_in}
use Rattle.program_commands.specs.Judging.{HasFinding, Tells}
use Rattle.run_engine.specs.Promises.{is_refusal}
use Rattle.run_engine.specs.Told.{contents_in, outside_of}
use Rattle.run_engine.specs.Words.{question_in, question_of, HasAnswer}
use Rattle.run_engine.proofs.Runs.{found_by, has_answer}

-- a status that neither want of memory has nor, of a store that isn't steady, a file
pub telling : (files : FilesState) (r : Result Status Stop) → status_in r ≢ statuses.Memory → (status_in r ≡ statuses.File → files.steady ≡ true)
    → Tells files r
telling files (Ok s) sound steady = tt
telling files (Err stops.Memory) sound steady = absurd (sound refl)
telling files (Err stops.Usage) sound steady = tt
telling files (Err (stops.Refused r)) sound steady = tt
telling files (Err (stops.Breached b)) sound steady = tt
telling files (Err (stops.Failed (objects.File line))) sound steady = steady refl
telling files (Err (stops.Failed objects.Output)) sound steady = tt
telling files (Err (stops.Failed objects.Links)) sound steady = tt
telling files (Err (stops.Failed objects.Children)) sound steady = tt

pub no_memory : (s : Status) → is_refusal s ≡ true → s ≢ statuses.Memory
no_memory s refuses is = let wrong : is_refusal statuses.Memory ≡ true = subst (λ (x : Status). is_refusal x ≡ true) is refuses in false≢true wrong

pub no_file : {X : Type 0} (s : Status) → is_refusal s ≡ true → s ≡ statuses.File → X
no_file s refuses is =
    let wrong : is_refusal statuses.File ≡ true = subst (λ (x : Status). is_refusal x ≡ true) is refuses in absurd (false≢true wrong)

pub is_named : (words : List (List ℕ)) (ask : Ask) → words_of words ≡ Some ask → IsSome (words_of words)
is_named words ask e = rw e refl

pub found_so : (words : List (List ℕ)) (ask : Ask) (m m' : Moment) → words_of words ≡ Some ask
    → PutsNothing m m' ⊎ (m.sources.files.told ≡ true → HasFinding (question_of ask) (contents_in m))
    → PutsNothing m m' ⊎ (m.sources.files.told ≡ true → HasFinding (question_in words) (contents_in m))
found_so words ask m m' e (inl same) = inl same
found_so words ask m m' e (inr known) = inr (λ t. found_by words ask (contents_in m) e (known t))

pub printed_so : (words : List (List ℕ)) (m m' : Moment)
    → PutsNothing m m' ⊎ (m.sources.files.told ≡ true → HasFinding (question_in words) (contents_in m))
    → PutsNothing m m' ⊎ (m.sources.files.told ≡ true → HasAnswer words (outside_of m.sources m'.sources))
printed_so words m m' (inl kept) = inl kept
printed_so words m m' (inr known) = inr (λ t. has_answer words (outside_of m.sources m'.sources) (known t))

pub no_words : (words : List (List ℕ)) (e : WordsErr) → e ≡ Usage → Reads ask_of (words_of words) (Err e) → words_of words ≡ None
no_words words e is reads = subst (λ (x : WordsErr). Reads ask_of (words_of words) (Err x)) is reads
