use Rattle.input_share.proofs.FormLaws.{dealt-writable}
use Rattle.input_share.proofs.forms.dealt_files_are_writable.Goals as goal

pub returns : goal.returns
returns c = dealt-writable
