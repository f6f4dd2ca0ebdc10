use Rattle.std.proofs.Common.{refl}
use Rattle.secrec_lexer.proofs.Ended.{ended_behind}
use Rattle.secrec_lexer.proofs.lexing.with_end.Goals as goal

pub new-requires : goal.new-requires
new-requires c = rw c.in_ok-push.ensures.items (ended_behind c.args.tokens.items _ c.requires refl)
