-- Inputs that files hold are of words, and so are tapes that files hold or that are drawn from a seed.
use Rattle.std.proofs.Common.{◌≡◌, ℕ, List, Result, Ok, Err, IfOk, refl}
use Rattle.outside.specs.Files.{Contents}
use Rattle.command_frame.specs.Answer.{Cause, ◌>>=◌, bytes_at}
use Rattle.command_words.specs.Ask.{Source, file, seeded}
use Rattle.tape_file.specs.Format.{read_of as tapes_read_of}
use Rattle.tape_file.specs.Tapes.{AreOfWords}
use Rattle.tape_file.proofs.OfWords.{read_of_words as tapes_have_words, seeded_of_words}
use Rattle.value_file.specs.Input.{read_of as inputs_read_of}
use Rattle.input_share.proofs.OfWords.{read_of_words as inputs_are_read}
use Rattle.program_run.specs.Inputs.{AreSound}
use Rattle.program_commands.specs.Reading.{bad_input, bad_tape, inputs_at, read_or, tape_file_at, tapes_at}

-- what a step gives, from what the next one makes of any answer
ok_behind : {A B : Type 0} (P : B → Type 0) (r : Result A Cause) (f : A → Result B Cause) → ((x : A) → IfOk (f x) P) → IfOk (r >>= f) P
ok_behind P (Ok x) f h = h x
ok_behind P (Err e) f h = tt

ok_read : {A E : Type 0} (P : A → Type 0) (cause : E → Cause) (r : Result A E) → ((x : A) → r ≡ Ok x → P x) → IfOk (read_or cause r) P
ok_read P cause (Ok x) h = h x refl
ok_read P cause (Err e) h = tt

pub inputs_sound : (files : Contents) (path : List ℕ) → IfOk (inputs_at files path) AreSound
unfolding inputs_at
inputs_sound files path =
    ok_behind AreSound (bytes_at files path) (λ bytes. read_or bad_input (inputs_read_of bytes))
    (λ bytes. ok_read AreSound bad_input (inputs_read_of bytes)
    (λ entries is. let are = inputs_are_read bytes entries is in record { form = are.form; words = are.words }))

file_words : (files : Contents) (path : List ℕ) → IfOk (tape_file_at files path) AreOfWords
unfolding tape_file_at
file_words files path =
    ok_behind AreOfWords (bytes_at files path) (λ bytes. read_or bad_tape (tapes_read_of bytes))
    (λ bytes. ok_read AreOfWords bad_tape (tapes_read_of bytes) (tapes_have_words bytes))

pub source_words : (files : Contents) (source : Source) → IfOk (tapes_at files source) AreOfWords
unfolding tapes_at
source_words files (file path) = file_words files path
source_words files (seeded seed words) = seeded_of_words seed words
