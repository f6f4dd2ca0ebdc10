-- The parts in which a text of code is read, and what is answered of the whole.
use Rattle.std.specs.Prelude.{◌≡◌, ℕ, ◌-◌, ◌==◌, List, Result, Ok, Err, nat_eq, if◌then◌else◌}
use Rattle.bytecode.specs.declared.code.Code.{Code}
use Rattle.bytecode.specs.declared.version.CodeVersion.{CodeVersion}
use Rattle.bytecode.specs.Versions.{version_byte, Counting}
use Rattle.bytecode.specs.declared.fault.DecodeFault.{DecodeFault}
use Rattle.bytecode.specs.declared.fault.DecodeErr.{DecodeErr}
use Rattle.bytecode.specs.declared.fault.DecodeErr.TheVariants as decoding
use Rattle.bytecode.specs.declared.fault.Stopped.{Stopped}
use Rattle.bytecode.specs.declared.fault.Stopped.TheVariants as stopped
use Rattle.bytecode.specs.InMemory.{raw_code}
use Rattle.bytecode.specs.Layouts.{BadTag, BadVersion, Trailing, Layout, Makes, Field, behind}
use Rattle.bytecode.specs.Raw.{RawFunction, RawCode}
use Rattle.bytecode.specs.Decoded.{Head, body_layout, function_of, functions_layout, is_some_count}

-- `SC3P` and the version
abbrev pub opening_layout : CodeVersion → Layout ℕ
opening_layout version =
    Field BadTag 1 (λ b. b == 83) (λ s. Field BadTag 1 (λ b. b == 67) (λ c. Field BadTag 1 (λ b. b == 51) (λ t. Field BadTag 1 (λ b. b == 80) (λ p.
    Field BadVersion 1 (λ b. b == version_byte version) Makes))))

abbrev pub function_layout : Counting → Head → Layout RawFunction
function_layout rule h = behind (body_layout rule h.instructions) (λ is. Makes (function_of h is))

abbrev pub some_functions_layout : CodeVersion → Layout (List RawFunction)
some_functions_layout version = Field BadTag 2 is_some_count (functions_layout version)

-- the code, or the first fault, unless memory ran short
abbrev pub IsDecoded : Result RawCode DecodeFault → Result Code DecodeErr → Type 0
IsDecoded d (Ok code) = d ≡ Ok (raw_code code)
IsDecoded d (Err (decoding.Refused fault)) = d ≡ Err fault
IsDecoded d (Err decoding.Memory) = Unit {0}

-- what is answered where this was read of a text of so many bytes, and so many are left
abbrev pub settled : ℕ → Result Code Stopped → ℕ → Result Code DecodeErr
settled size (Ok code) left = if nat_eq left 0 then Ok code else Err (decoding.Refused (record { kind = Trailing; place = size - left }))
settled size (Err (stopped.Refused kind behind)) left = Err (decoding.Refused (record { kind = kind; place = size - behind }))
settled size (Err stopped.Memory) left = Err decoding.Memory
