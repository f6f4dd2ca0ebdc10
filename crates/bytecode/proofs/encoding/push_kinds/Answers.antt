use Rattle.std.proofs.Common.{◌≡◌, ◌++◌, ◌∷◌, [], false, subst}
use Rattle.program_trees.specs.declared.expression.DataType.TheVariants.{Uint64}
use Rattle.bytecode.specs.Kinds.{kind_byte}
use Rattle.bytecode.specs.declared.kind.Kind.{Kind}
use Rattle.bytecode.specs.Written.{byte, bytes_of}
use Rattle.bytecode.proofs.Little.{more_numbers}
use Rattle.bytecode.proofs.encoding.push_kinds.Goals as goal

pub loop-kind-preserved : goal.loop-kind-preserved
loop-kind-preserved c =
    more_numbers (λ (kind : Kind). byte (kind_byte kind)) c.args.kinds.now c.loop-kind.kind-index (record { secret = false; element = Uint64; array = false })
    _ _ _ c.loop-kind-test.true c.loop-kind.invariant
    (subst (λ z. c.push_numbers.new.text.items ≡ c.loop-kind.text.items ++ bytes_of (byte z ∷ [])) c.byte.ensures c.in_ok-push_numbers.ensures)
