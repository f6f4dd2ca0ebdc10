use Rattle.std.proofs.Common.{refl}
use Rattle.trio.proofs.Calls.{tried}
use Rattle.trio.proofs.Stores.{started_none, started_try}
use Rattle.trio.proofs.launching.start.Goals as goal

pub returns-clause-tried : goal.returns-clause-tried
returns-clause-tried g c =
    tried (g.C.Spawner.state c.args.children.now) (g.C.Spawner.state c.start.new.self) _ c.start.result
    (rw c.in_ok-words.ensures at (rw c.deref.ensures.value at c.start.ensures.ok)) c.start.ensures.err c.start.ensures.cause c.start.ensures.steady
    c.start.ensures.still

pub returns-clause-held : goal.returns-clause-held
returns-clause-held g c =
    started_try (g.F.Files.state c.args.files.now) (g.C.Spawner.state c.args.children.now) (g.C.Spawner.state c.start.new.self) _ c.start.result
    c.start.ensures.ok c.start.ensures.err c.start.ensures.held c.start.ensures.held_still

pub returns-in_err-words-clause-held : goal.returns-in_err-words-clause-held
returns-in_err-words-clause-held g c =
    started_none (g.F.Files.state c.args.files.now) (g.C.Spawner.state c.args.children.now) (g.C.Spawner.state c.args.children.now) refl refl
