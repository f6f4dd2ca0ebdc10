-- How many functions code has.
use Rattle.std.proofs.Common.{◌≡◌, length}
use Rattle.std.proofs.lemmas.List.{length-map}
use Rattle.bytecode.specs.declared.code.Code.{Code}
use Rattle.bytecode.specs.InMemory.{raw_code, raw_function}

pub functions_counted : (code : Code) → length (raw_code code).functions ≡ length code.functions.items
functions_counted code = length-map code.functions.items raw_function
