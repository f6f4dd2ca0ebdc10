use Rattle.reached_instances.proofs.ReachedLists.{begins_with_main, has_each_once, has_each_reached, is_the_only_list}
use Rattle.reached_instances.proofs.laws.one_list.Goals as goal

pub returns : goal.returns
returns c = record {
  main_first = begins_with_main;
  each_once = has_each_once;
  complete = has_each_reached;
  one = is_the_only_list;
}
