use Rattle.proto_core.proofs.Nets.{nodes-sent, nodes-opened}
use Rattle.proto_core.proofs.Beginnings.{begins-trans}
use Rattle.protocol_model.proofs.Completing.{is-through}
use Rattle.protocol_model.proofs.laws.three_nodes_agree.Goals as goal

pub returns : goal.returns
returns c =
    λ nodes full mail outputs f h.
    record {
      sent = nodes-sent nodes full mail outputs f h;
      received = λ l. begins-trans _ _ _ (h l) (nodes-sent nodes full mail outputs f h l);
      opened = nodes-opened nodes full mail outputs f h;
      ended = is-through nodes full outputs f mail
          (λ l. begins-trans _ _ _ (h l) (nodes-sent nodes full mail outputs f h l));
    }
