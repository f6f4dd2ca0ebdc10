use Rattle.std.proofs.Common.{◌≡◌, [], map, drop}
use Rattle.input_share.specs.Reading.{share_name_of}
use Rattle.gather_command.specs.Gathering.{name_again}
use Rattle.gather_command.proofs.gathering.repeated.Given as goal

abbrev pub invariant-loop-entry : goal.invariant-loop-entry
invariant-loop-entry l =
    name_again (map (λ n. n.now) l.names.keys) (map share_name_of (drop l.entry-index l.entries)) ≡ name_again [] (map share_name_of l.entries)
