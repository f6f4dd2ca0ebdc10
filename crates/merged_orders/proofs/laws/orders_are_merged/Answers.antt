use Rattle.merged_orders.proofs.Complete.{all_come}
use Rattle.merged_orders.proofs.Merged.{is_merged, leaves_none}
use Rattle.merged_orders.proofs.laws.orders_are_merged.Goals as goal

pub returns-clause-whole : goal.returns-clause-whole
returns-clause-whole c =
    λ nodes scripts full outputs orders left ls f moves all s none. is_merged nodes scripts full outputs f moves orders left ls all s none

pub returns-clause-none_left : goal.returns-clause-none_left
returns-clause-none_left c = λ scripts orders left ls other i s m. leaves_none scripts orders left ls other i s m

pub returns-clause-complete : goal.returns-clause-complete
returns-clause-complete c = λ nodes scripts full outputs orders ls f moves m. all_come nodes scripts full outputs f moves orders ls m
