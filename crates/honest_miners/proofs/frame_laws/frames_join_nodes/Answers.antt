use Rattle.honest_miners.proofs.Joining.{ends_where_all_came, frames_join}
use Rattle.honest_miners.proofs.frame_laws.frames_join_nodes.Goals as goal

pub returns : goal.returns
returns c = record { read = λ nodes. frames_join nodes; all = λ nodes. ends_where_all_came nodes }
