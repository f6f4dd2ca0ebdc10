use Rattle.std.proofs.Common.{◌≡◌, map}
use Rattle.bytecode.specs.Decoded.{bodies_layout}
use Rattle.bytecode.specs.InMemory.{raw_function, raw_head}
use Rattle.bytecode.specs.Layouts.{read}
use Rattle.bytecode.specs.Versions.{counting}
use Rattle.bytecode.proofs.Reading.{after}
use Rattle.bytecode.proofs.decoding.bodies.Given as goal

abbrev pub invariant-loop-head : goal.invariant-loop-head
invariant-loop-head l =
    read (bodies_layout (counting l.fn.version l.parameters) (map raw_head l.fn.heads.items)) l.initial.reader ≡
    after (map raw_function l.functions.items) (read (bodies_layout (counting l.fn.version l.parameters) (map raw_head l.head-iterator.rest.items)) l.reader)
