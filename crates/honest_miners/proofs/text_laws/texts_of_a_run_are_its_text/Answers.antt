use Rattle.honest_miners.proofs.JoinedTexts.{texts_of_a_run_are_its_text}
use Rattle.honest_miners.proofs.text_laws.texts_of_a_run_are_its_text.Goals as goal

pub returns : goal.returns
returns c = texts_of_a_run_are_its_text
