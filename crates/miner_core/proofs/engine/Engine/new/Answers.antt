use Rattle.std.proofs.Common.{◌++◌, [], ◌∙◌, ap, refl}
use Rattle.proto_core.specs.Strand.{Ends}
use Rattle.gate_node.specs.OwnGates.{Whole}
use Rattle.miner_core.specs.declared.engine.At.TheVariants.{Ready}
use Rattle.miner_core.specs.Engines.{with_words}
use Rattle.miner_core.proofs.Stories.{starts}
use Rattle.miner_core.proofs.engine.Engine.new.Goals as goal

pub returns-clause-leads : goal.returns-clause-leads
returns-clause-leads g c =
    let n = c.new.ensures in
    λ more.
    starts g.P.Party.me
    (with_words (record {
      alloc = c.args.alloc;
      task = c.args.task;
      machine = c.in_ok-machine.machine;
      stage = c.new-stage.result;
      fuel = c.most_steps-fuel.result;
      at = Ready;
      node = c.new.result;
      notices = c.new-2.result;
      letting = record { done = 0; next = 0 };
    }) more)
    c.args.dealt (c.args.tape.items ++ more) c.args.budget refl c.most_steps-fuel.ensures c.in_ok-machine.ensures.begins c.new-stage.ensures n.dealt
    (n.left more ∙ ap (λ t. Ends (Whole [] (t.1 ++ more))) n.tape)
    n.from_previous n.from_next n.to_next n.to_previous n.opened c.new-2.ensures.items c.in_ok-machine.ensures.stands
