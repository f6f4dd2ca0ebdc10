-- Code that names a text twice: its names, and the instructions that name them.
use Rattle.std.proofs.Common.{◌≡◌, List, [], ◌∷◌, None, true, false, refl}
use Rattle.std.specs.Prelude.{codes}
use Rattle.program_trees.specs.declared.expression.DataType.TheVariants.{Uint64}
use Rattle.program_trees.specs.declared.operators.OperatorSign.TheVariants as word
use Rattle.program_trees.specs.declared.operators.BinaryOperator.TheVariants.{Words}
use Rattle.program_trees.specs.declared.operators.Operands.TheVariants.{Scalars}
use Rattle.bytecode.specs.declared.kind.Kind.{Kind}
use Rattle.bytecode.specs.Raw.{RawCode}
use Rattle.bytecode.specs.Raw as raw
use Rattle.verified_code.specs.Settled.{settled}
use Rattle.verified_code.specs.Steps.{Function, Argument, Binary, Publish, ReturnNone}
use Rattle.verified_code.specs.Verified.{first_fault}
use Rattle.code_model.specs.Instructions.{raw_code_of}

abbrev private_word : Kind
private_word = record { secret = true; element = Uint64; array = false }

sample : List Function
sample =
    record {
      parameters = 0;
      gives = None;
      kinds = private_word ∷ private_word ∷ [];
      steps = Argument 1 private_word (codes "b") 0 ∷ Argument 1 private_word (codes "a") 1 ∷ Binary 2 (Words word.Add) Scalars 0 0 1 ∷ Publish (codes "b") 0
          ∷ ReturnNone ∷ [];
    } ∷ []

sample_code : RawCode
sample_code =
    record {
      names = codes "b" ∷ codes "a" ∷ [];
      functions = record {
        parameters = 0;
        gives = None;
        registers = private_word ∷ private_word ∷ [];
        body = raw.Argument 0 0 1 ∷ raw.Argument 1 1 1 ∷ raw.Binary 0 0 0 1 2 ∷ raw.Publish 0 0 ∷ raw.ReturnNone ∷ [];
      } ∷ [];
    }

sample_written : raw_code_of sample ≡ sample_code
unfolding sample sample_code
sample_written = refl

sample_settled : settled sample_code ≡ sample
unfolding sample sample_code
sample_settled = refl

sample_verified : first_fault sample_code ≡ None
unfolding sample_code
sample_verified = refl
