use Rattle.std.proofs.Common.{◌∙◌}
use Rattle.counted_net.specs.Nets.{is_under_way}
use Rattle.counted_net.proofs.Marks.{chosen_of_marked}
use Rattle.counted_net.proofs.net.Net.chosen.Goals as goal

pub returns : goal.returns
returns c =
    c.chosen_link.ensures
    ∙ chosen_of_marked (is_under_way c.args.self.now) _ _ _ _ _ _ c.is_under_way.ensures c.is_under_way-2.ensures c.is_under_way-3.ensures
    c.is_under_way-4.ensures c.is_under_way-5.ensures c.is_under_way-6.ensures c.args.word
