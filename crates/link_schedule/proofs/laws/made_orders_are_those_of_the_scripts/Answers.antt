use Rattle.link_schedule.proofs.Made.{made_counted}
use Rattle.link_schedule.proofs.laws.made_orders_are_those_of_the_scripts.Goals as goal

pub returns : goal.returns
returns c = λ nodes scripts full outputs words fuel entry mail order f moves. made_counted nodes scripts full outputs f moves words fuel entry mail order
