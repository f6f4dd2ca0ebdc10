use Rattle.std.proofs.Common.{arith, length-append}
use Rattle.proto_core.proofs.Parts.{length-part}
use Rattle.tape_twin.proofs.rows.masked_factors.Goals as goal

pub returns-clause-len : goal.returns-clause-len
returns-clause-len g c =
    simp (
      c.append_block-2.ensures,
      c.append_block.ensures,
      c.from_block-row.ensures,
      c.field-5.ensures,
      length-append,
      length-part,
      c.masked_share-u.ensures.len,
      c.masked_share-v.ensures.len,
    )
    (omega arith)
