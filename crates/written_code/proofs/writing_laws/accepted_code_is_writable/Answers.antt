use Rattle.written_code.proofs.Programs.{accepted_writable}
use Rattle.written_code.proofs.writing_laws.accepted_code_is_writable.Goals as goal

pub returns : goal.returns
returns c = accepted_writable
