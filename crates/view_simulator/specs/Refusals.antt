-- Which refusal of the simulator another refusal becomes.
use Rattle.clear_eval.specs.declared.blind_run.BlindErr.{BlindErr}
use Rattle.clear_eval.specs.declared.blind_run.BlindErr.TheVariants as told
use Rattle.counted_net.specs.declared.delivery.DeliveryErr.{DeliveryErr}
use Rattle.counted_net.specs.declared.delivery.DeliveryErr.TheVariants as net
use Rattle.view_simulator.specs.declared.errors.SimulateErr.{SimulateErr}
use Rattle.view_simulator.specs.declared.errors.SimulateErr.TheVariants.{OpenedShort, EmptyLink, Stalled, Memory}

abbrev pub told_refusal : BlindErr → SimulateErr
told_refusal (told.OpenedShort have) = OpenedShort have
told_refusal told.Memory = Memory

abbrev pub net_refusal : DeliveryErr → SimulateErr
net_refusal (net.EmptyLink entry link sent) = EmptyLink entry link sent
net_refusal (net.Stalled miner link) = Stalled miner link
net_refusal net.Memory = Memory
