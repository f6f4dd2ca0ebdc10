-- Cited by private functions alone: no contract of another crate rests on it.
-- What the miners run with, without where it lies in memory.
use Rattle.std.specs.Prelude.{ℕ, List, Contains}
use Rattle.command_frame.specs.Answer.{Written, paths_in, writes_of}
use Rattle.trio_command.specs.declared.preparing.Prepared.{Prepared}
use Rattle.trio_command.specs.declared.preparing.Prepared.TheVariants as variants
use Rattle.trio_command.specs.Trio.{Prepared as Wanted, dealt, undealt}

abbrev pub prepared_seen : Prepared → Wanted
prepared_seen (variants.Dealt writes) = dealt (writes_of writes.items)
prepared_seen (variants.Undealt need have) = undealt need have

-- only these paths are written
abbrev pub WritesAmong : (paths : List (List ℕ)) → List Written → Type 0
WritesAmong paths writes = (path : List ℕ) → Contains (paths_in writes) path → Contains paths path

abbrev pub PreparesAmong : (paths : List (List ℕ)) → Prepared → Type 0
PreparesAmong paths (variants.Dealt writes) = WritesAmong paths (writes_of writes.items)
PreparesAmong paths (variants.Undealt need have) = Unit {0}
