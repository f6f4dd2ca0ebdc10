use Rattle.wire.proofs.HelloLaws.{greeted-hello_bytes, greeted-spelled}
use Rattle.wire.proofs.laws.hellos_have_one_spelling.Goals as goal

pub returns-clause-read_again : goal.returns-clause-read_again
returns-clause-read_again c = greeted-hello_bytes

pub returns-clause-spelled_so : goal.returns-clause-spelled_so
returns-clause-spelled_so c = greeted-spelled
