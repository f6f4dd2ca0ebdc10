-- What comes of three miners that are run as programs of their own.
use Rattle.std.specs.Prelude.{◌≡◌, ℕ, List, Result, Ok, Err}
use Rattle.outside.specs.Files.{FilesState}
use Rattle.outside.specs.Spawner.{SpawnerState}
use Rattle.proto_core.specs.declared.party.Number.{Number}
use Rattle.trio.specs.Joining.{Joined}
use Rattle.trio.specs.Answers.{TextsRead}
use Rattle.trio.specs.Launches.{Launched}
use Rattle.trio.specs.declared.child_err.ChildErr.{ChildErr}
use Rattle.trio.specs.declared.join_err.JoinErr.{JoinErr}
use Rattle.trio.specs.declared.trio_err.TrioErr.{TrioErr}
use Rattle.trio.specs.declared.trio_err.TrioErr.TheVariants as trio_err

-- what of the answer is the children's
abbrev pub children_part : Result Joined TrioErr → Result (Unit {0}) ChildErr
children_part (Err (trio_err.Child err)) = Err err
children_part _ = Ok tt

-- and what is that of the texts, once the children have ended as runs do
abbrev pub IfTexts : (Result Joined JoinErr → Type 0) → Type 0 → Result Joined TrioErr → Type 0
IfTexts texts otherwise (Err (trio_err.Child err)) = otherwise
IfTexts texts otherwise (Err (trio_err.Texts err)) = texts (Err err)
IfTexts texts otherwise (Ok joined) = texts (Ok joined)

-- no text is read unless all three have ended so
abbrev pub RanTexts : (old new : FilesState) → (path : Number → List ℕ) → Result Joined TrioErr → Type 0
RanTexts old new path result = IfTexts (TextsRead old new path) (new ≡ old) result

abbrev pub RanChildren : (old new : SpawnerState) → (words : Number → List (List ℕ)) → Result Joined TrioErr → Type 0
RanChildren old new words result = Launched old new words (children_part result)
