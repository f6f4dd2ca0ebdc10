use Rattle.std.proofs.Common.{◌≡◌, sym, subst, arith}
use Rattle.std.proofs.lemmas.Grind.{common_steps}
use Rattle.value_file.specs.Public.{part_of}
use Rattle.value_file.specs.PublicFile.{IsWritable}
use Rattle.value_file.proofs.Forms.{IsWritable-part_of}
use Rattle.value_file.proofs.public.public_part.Goals as goal

pub returns-clause-form : goal.returns-clause-form
returns-clause-form c =
    let value : c.new.result ≡ part_of c.args.inputs.now = grind (arith, common_steps) in
    λ good. subst IsWritable (sym value) (IsWritable-part_of c.args.inputs.now good)
