use Rattle.gather_command.proofs.SharesRead.{ReadSoFar}
use Rattle.gather_command.proofs.shares.read_shares.Given as goal

abbrev pub invariant-loop-path : goal.invariant-loop-path
invariant-loop-path g l = ReadSoFar (g.F.Files.state l.fn.files) l.fn.miner l.paths (g.F.Files.state l.files) l.path-index l.shares.items
