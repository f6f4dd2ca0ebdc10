-- Cited by private functions alone: no contract of another crate rests on it.
-- Places of instructions in memory, as those of the definitions.
use Rattle.bytecode.specs.InMemory.{raw_code, raw_function}
use Rattle.verified_code.specs.declared.place.Here as places
use Rattle.verified_code.specs.Fitting.{Here}

abbrev pub here_in : places.Here → Here
here_in h = record { code = raw_code h.code.now; own = raw_function h.own.now; place = h.place }
