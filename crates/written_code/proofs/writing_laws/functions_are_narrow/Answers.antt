use Rattle.written_code.proofs.Narrow.{narrow_functions}
use Rattle.written_code.proofs.writing_laws.functions_are_narrow.Goals as goal

pub returns : goal.returns
returns c p is = narrow_functions p is
