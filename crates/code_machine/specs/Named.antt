-- The numbers of the values that are held in memory.
use Rattle.std.specs.Prelude.{ℕ, ◌+◌, ◌||◌, Bool, false, List, [], ◌∷◌, length, Some, None, nat_eq}
use Rattle.value_steps.specs.declared.value.Secrecy as kept
use Rattle.value_steps.specs.declared.value.Secrecy.TheVariants as secrecy
use Rattle.value_steps.specs.declared.value.Value as held
use Rattle.code_machine.specs.declared.machine.Caller as waiting

-- whether it is the number of a value of this secrecy, of this value, of one in these registers, and of one in those of any of these callers
abbrev pub is_kept : kept.Secrecy → ℕ → Bool
is_kept secrecy.Plain k = false
is_kept (secrecy.Private None) k = false
is_kept (secrecy.Private (Some n)) k = nat_eq n k

abbrev pub is_of : held.Value → ℕ → Bool
is_of v k = is_kept v.secrecy k

abbrev pub is_in : List held.Value → ℕ → Bool
is_in [] k = false
is_in (v ∷ vs) k = is_of v k || is_in vs k

abbrev pub is_in_any : List waiting.Caller → ℕ → Bool
is_in_any [] k = false
is_in_any (c ∷ cs) k = is_in c.registers.items k || is_in_any cs k

-- how many registers these callers have
abbrev pub count_kept : List waiting.Caller → ℕ
count_kept [] = 0
count_kept (c ∷ cs) = length c.registers.items + count_kept cs
