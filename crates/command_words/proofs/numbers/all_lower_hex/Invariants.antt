use Rattle.std.proofs.Common.{◌≡◌, drop}
use Rattle.std.specs.List.{list_all}
use Rattle.command_words.specs.Numbers.{is_lower_hex}
use Rattle.command_words.proofs.numbers.all_lower_hex.Given as goal

abbrev pub invariant-loop-b : goal.invariant-loop-b
invariant-loop-b l = list_all is_lower_hex (drop l.b-index l.bytes) ≡ list_all is_lower_hex l.bytes
