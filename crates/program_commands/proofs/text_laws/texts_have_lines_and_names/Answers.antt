use Rattle.program_commands.proofs.Spelled.{placed_where_spelled}
use Rattle.program_commands.proofs.text_laws.texts_have_lines_and_names.Goals as goal

pub returns : goal.returns
returns c = placed_where_spelled
