-- Why a miner is of no further use where no words were supplied to its gates.
use Rattle.gate_node.specs.declared.supply_err.SupplyErr.{SupplyErr}
use Rattle.gate_node.specs.declared.supply_err.SupplyErr.TheVariants as refused
use Rattle.miner_core.specs.declared.answer.Lost.{Lost}
use Rattle.miner_core.specs.declared.answer.Lost.TheVariants as lost

abbrev pub lost_by : SupplyErr → Lost
lost_by refused.Memory = lost.Memory
lost_by refused.Failed = lost.TapeFault
