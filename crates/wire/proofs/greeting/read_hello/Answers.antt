use Rattle.std.proofs.Common.{sym}
use Rattle.wire.proofs.HelloLaws.{hello_bytes-read, hello_of-fields}
use Rattle.wire.proofs.greeting.read_hello.Goals as goal

pub returns-clause-reads : goal.returns-clause-reads
returns-clause-reads c = hello_of-fields c.args.bytes.now _ _ c.if-bytes-ne-HELLO.false c.copy_from_slice.ensures.after c.copy_from_slice-2.ensures.after

pub returns-clause-spelled_so : goal.returns-clause-spelled_so
returns-clause-spelled_so c = hello_bytes-read c.args.bytes.now _ c.told-bytes (sym (returns-clause-reads c))
