use Rattle.std.proofs.Common.{sym, ◌∙◌, subst}
use Rattle.proto_core.specs.declared.party.Number.TheVariants.{One, Two, Three}
use Rattle.counted_net.specs.Cursors.{InPlace}
use Rattle.counted_net.proofs.Together.{first_receives, second_receives, third_receives}
use Rattle.counted_net.proofs.miners.Miners.receive.Goals as goal

pub receive-requires-clause-placed : goal.receive-requires-clause-placed
receive-requires-clause-placed c = subst (λ ms. InPlace ms c.args.self.now.one) (sym c.deref.ensures.value) (c.requires.placed One)

pub receive-requires-in-Two-clause-placed : goal.receive-requires-in-Two-clause-placed
receive-requires-in-Two-clause-placed c = subst (λ ms. InPlace ms c.args.self.now.two) (sym c.deref-in-Two.ensures.value) (c.requires.placed Two)

pub receive-requires-in-Three-clause-placed : goal.receive-requires-in-Three-clause-placed
receive-requires-in-Three-clause-placed c = subst (λ ms. InPlace ms c.args.self.now.three) (sym c.deref-in-Three.ensures.value) (c.requires.placed Three)

pub returns-in-One : goal.returns-in-One
returns-in-One c =
    first_receives c.args.scripts.now c.args.self.now c.receive.new.self c.args.link c.deref.result.now (sym c.receiver.ensures ∙ c.in-One.is)
    c.deref.ensures.value c.receive.ensures

pub returns-in-Two : goal.returns-in-Two
returns-in-Two c =
    second_receives c.args.scripts.now c.args.self.now c.receive-in-Two.new.self c.args.link c.deref-in-Two.result.now (sym c.receiver.ensures ∙ c.in-Two.is)
    c.deref-in-Two.ensures.value c.receive-in-Two.ensures

pub returns-in-Three : goal.returns-in-Three
returns-in-Three c =
    third_receives c.args.scripts.now c.args.self.now c.receive-in-Three.new.self c.args.link c.deref-in-Three.result.now
    (sym c.receiver.ensures ∙ c.in-Three.is) c.deref-in-Three.ensures.value c.receive-in-Three.ensures
