use Rattle.node_run.proofs.Joins.{if_none_so}
use Rattle.node_run.proofs.running.text_served.Goals as goal

pub returns : goal.returns
returns g c = λ going tape of. record {
  undealt_so = c.end_of-end.ensures.undealt;
  ended = c.end_of-end.ensures.ended;
  cost = if_none_so c.args.undealt _ _ (λ h. h.kept c.requires going tape of) c.end_of-end.ensures.cost;
  text = c.in_ok-text.ensures.kept c.requires going tape of;
}
