use Rattle.std.proofs.Common.{ℕ, ◌++◌, refl}
use Rattle.std.specs.Fmt.{decimal}
use Rattle.std.specs.Prelude.{codes}
use Rattle.proto_core.specs.declared.link.Link.{Link}
use Rattle.proto_core.specs.declared.party.Number.{Number}
use Rattle.proto_core.specs.Parties.{link_text, number_text}
use Rattle.command_frame.specs.Said.{IsErrorLine}
use Rattle.command_frame.proofs.Said.{front_is_error, says_error}
use Rattle.program_commands.specs.Schedules.{empty_line, stalled_line}
use Rattle.program_commands.proofs.deliveries.delivery_stop.Goals as goal

empty_is_error : (entry : ℕ) (link : Link) (sent : ℕ) → IsErrorLine (empty_line entry link sent)
unfolding empty_line
empty_is_error entry link sent =
    front_is_error (codes "error: S2 entry " ++ decimal entry ++ codes " link " ++ link_text link ++ codes " sent " ++ decimal sent) refl

stalled_is_error : (miner : Number) (link : Link) → IsErrorLine (stalled_line miner link)
unfolding stalled_line
stalled_is_error miner link = front_is_error (codes "error: S3 miner " ++ number_text miner ++ codes " link " ++ link_text link) refl

pub refused-requires-clause-says : goal.refused-requires-clause-says
refused-requires-clause-says c = says_error c.empty_text.result _ (empty_is_error _ _ _) c.empty_text.ensures

pub refused-requires-in-Stalled-clause-says : goal.refused-requires-in-Stalled-clause-says
refused-requires-in-Stalled-clause-says c = says_error c.stalled_text.result _ (stalled_is_error _ _) c.stalled_text.ensures
