-- The command `upgrade`: code of the first version, written again for today's.
use Rattle.std.specs.Prelude.{ℕ, List, [], ◌∷◌, Result, Ok}
use Rattle.outside.specs.Files.{Contents}
use Rattle.command_frame.specs.Answer.{Answer, Cause, ◌>>=◌, bytes_at}
use Rattle.command_words.specs.Ask.{UpgradeAsk}
use Rattle.bytecode.specs.Raw.{RawCode}
use Rattle.bytecode.specs.Decoded.{decoded_v1}
use Rattle.first_version.specs.Laws.{KeepsMeaning}
use Rattle.verified_code.specs.Settled.{settled}
use Rattle.verified_code.specs.Verified.{IsVerified}
use Rattle.program_commands.specs.Codes.{judged}
use Rattle.program_commands.specs.Compile.{written_effect}

-- the code in a file, read by the rules of the first version
unfoldable pub old_code_at : Contents → (path : List ℕ) → Result RawCode Cause
old_code_at files path = bytes_at files path >>= λ bytes. judged (decoded_v1 bytes)

-- the code that is written is verified, and does today what the old code did by the first version, wherever neither wants random words
abbrev pub IsUpgradeOf : (old new : RawCode) → Type 0
IsUpgradeOf old new = IsVerified new × KeepsMeaning (settled old) (settled new)

unfoldable pub upgrade_of : UpgradeAsk → Contents → Answer
upgrade_of ask files = do
  code ← old_code_at files ask.old
  Ok (written_effect ask.code code)

-- the paths that `upgrade` reads, and those that it writes
unfoldable pub upgrade_paths : UpgradeAsk → List (List ℕ)
upgrade_paths ask = ask.old ∷ []

unfoldable pub upgraded_paths : UpgradeAsk → List (List ℕ)
upgraded_paths ask = ask.code ∷ []
