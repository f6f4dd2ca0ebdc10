use Rattle.written_code.proofs.Fields.{writable_where_right}
use Rattle.written_code.proofs.writing_laws.right_code_is_writable.Goals as goal

pub returns : goal.returns
returns c = writable_where_right
