use Rattle.std.proofs.Common.{◌≤◌, sym, ◌∙◌, ap, subst}
use Rattle.proto_core.specs.Parties.{count_of}
use Rattle.miner_core.proofs.Sources.{party-small}
use Rattle.miner_core.proofs.drawing.own_party.Goals as goal

pub returns-clause-small : goal.returns-clause-small
returns-clause-small g c = subst (λ n. n ≤ 3) (sym (c.as_u8.ensures ∙ ap count_of c.number.ensures)) (party-small g.P.Party.me)
