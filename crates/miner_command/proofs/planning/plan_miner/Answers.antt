use Rattle.std.proofs.lemmas.Result.{err_from_is_err_and}
use Rattle.command_words.specs.Views.{miner_ask}
use Rattle.miner_command.proofs.Planned.{file_leaves, file_stops, moves_none, played_anyhow, played_gives, played_leaves, played_moves, played_sends}
use Rattle.miner_command.proofs.planning.plan_miner.Goals as goal

pub returns-in_err-given-clause-answer : goal.returns-in_err-given-clause-answer
returns-in_err-given-clause-answer g c =
    let p = err_from_is_err_and c.from_residual.result c.from_residual.ensures.1 in
    rw (p.1, p.2)
    (file_stops (miner_ask c.args.words.now) (g.F.Files.state c.args.files.now) (g.F.Files.state c.read_files.new.files)
    (g.L.Links.state c.args.links.now) c.in_err-given.field-0.0 c.in_err-given.ensures.answer)

pub returns-in_err-given-clause-unjoined : goal.returns-in_err-given-clause-unjoined
returns-in_err-given-clause-unjoined g c =
    let p = err_from_is_err_and c.from_residual.result c.from_residual.ensures.1 in
    rw (p.1, p.2)
    (file_leaves (miner_ask c.args.words.now) (g.F.Files.state c.args.files.now) (g.F.Files.state c.read_files.new.files)
    (g.L.Links.state c.args.links.now) c.in_err-given.field-0.0 c.in_err-given.ensures.answer)

pub returns-in-One-clause-answer : goal.returns-in-One-clause-answer
returns-in-One-clause-answer g c =
    played_gives (miner_ask c.args.words.now) (g.F.Files.state c.args.files.now) (g.F.Files.state c.read_files.new.files)
    (g.F.Files.state c.play.new.files) (g.L.Links.state c.args.links.now) (g.L.Links.state c.play.new.links) c.in_ok-given.given
    c.in_ok-given.ensures.files c.in_ok-given.ensures.answer c.play.result c.play.ensures.plays

pub returns-in-One-clause-sent : goal.returns-in-One-clause-sent
returns-in-One-clause-sent g c =
    played_sends (miner_ask c.args.words.now) (g.F.Files.state c.args.files.now) (g.F.Files.state c.read_files.new.files)
    (g.F.Files.state c.play.new.files) (g.L.Links.state c.args.links.now) (g.L.Links.state c.play.new.links) c.in_ok-given.given
    c.in_ok-given.ensures.files c.in_ok-given.ensures.answer c.play.result c.play.ensures.plays

pub returns-in-One-clause-anyhow : goal.returns-in-One-clause-anyhow
returns-in-One-clause-anyhow g c =
    played_anyhow (miner_ask c.args.words.now) (g.F.Files.state c.args.files.now) (g.F.Files.state c.read_files.new.files)
    (g.F.Files.state c.play.new.files) (g.L.Links.state c.args.links.now) (g.L.Links.state c.play.new.links) c.in_ok-given.given
    c.in_ok-given.ensures.files c.play.result c.play.ensures.plays

pub returns-in-Two-clause-answer : goal.returns-in-Two-clause-answer
returns-in-Two-clause-answer g c =
    played_gives (miner_ask c.args.words.now) (g.F.Files.state c.args.files.now) (g.F.Files.state c.read_files.new.files)
    (g.F.Files.state c.play-in-Two.new.files) (g.L.Links.state c.args.links.now) (g.L.Links.state c.play-in-Two.new.links) c.in_ok-given.given
    c.in_ok-given.ensures.files c.in_ok-given.ensures.answer c.play-in-Two.result c.play-in-Two.ensures.plays

pub returns-in-Two-clause-sent : goal.returns-in-Two-clause-sent
returns-in-Two-clause-sent g c =
    played_sends (miner_ask c.args.words.now) (g.F.Files.state c.args.files.now) (g.F.Files.state c.read_files.new.files)
    (g.F.Files.state c.play-in-Two.new.files) (g.L.Links.state c.args.links.now) (g.L.Links.state c.play-in-Two.new.links) c.in_ok-given.given
    c.in_ok-given.ensures.files c.in_ok-given.ensures.answer c.play-in-Two.result c.play-in-Two.ensures.plays

pub returns-in-Two-clause-anyhow : goal.returns-in-Two-clause-anyhow
returns-in-Two-clause-anyhow g c =
    played_anyhow (miner_ask c.args.words.now) (g.F.Files.state c.args.files.now) (g.F.Files.state c.read_files.new.files)
    (g.F.Files.state c.play-in-Two.new.files) (g.L.Links.state c.args.links.now) (g.L.Links.state c.play-in-Two.new.links) c.in_ok-given.given
    c.in_ok-given.ensures.files c.play-in-Two.result c.play-in-Two.ensures.plays

pub returns-in-Three-clause-answer : goal.returns-in-Three-clause-answer
returns-in-Three-clause-answer g c =
    played_gives (miner_ask c.args.words.now) (g.F.Files.state c.args.files.now) (g.F.Files.state c.read_files.new.files)
    (g.F.Files.state c.play-in-Three.new.files) (g.L.Links.state c.args.links.now) (g.L.Links.state c.play-in-Three.new.links) c.in_ok-given.given
    c.in_ok-given.ensures.files c.in_ok-given.ensures.answer c.play-in-Three.result c.play-in-Three.ensures.plays

pub returns-in-Three-clause-sent : goal.returns-in-Three-clause-sent
returns-in-Three-clause-sent g c =
    played_sends (miner_ask c.args.words.now) (g.F.Files.state c.args.files.now) (g.F.Files.state c.read_files.new.files)
    (g.F.Files.state c.play-in-Three.new.files) (g.L.Links.state c.args.links.now) (g.L.Links.state c.play-in-Three.new.links) c.in_ok-given.given
    c.in_ok-given.ensures.files c.in_ok-given.ensures.answer c.play-in-Three.result c.play-in-Three.ensures.plays

pub returns-in-Three-clause-anyhow : goal.returns-in-Three-clause-anyhow
returns-in-Three-clause-anyhow g c =
    played_anyhow (miner_ask c.args.words.now) (g.F.Files.state c.args.files.now) (g.F.Files.state c.read_files.new.files)
    (g.F.Files.state c.play-in-Three.new.files) (g.L.Links.state c.args.links.now) (g.L.Links.state c.play-in-Three.new.links) c.in_ok-given.given
    c.in_ok-given.ensures.files c.play-in-Three.result c.play-in-Three.ensures.plays

pub returns-in-One-clause-unjoined : goal.returns-in-One-clause-unjoined
returns-in-One-clause-unjoined g c =
    played_leaves (miner_ask c.args.words.now) (g.F.Files.state c.args.files.now) (g.F.Files.state c.read_files.new.files)
    (g.F.Files.state c.play.new.files) (g.L.Links.state c.args.links.now) (g.L.Links.state c.play.new.links) c.in_ok-given.given
    c.in_ok-given.ensures.files c.play.result c.play.ensures.plays

pub returns-in-Two-clause-unjoined : goal.returns-in-Two-clause-unjoined
returns-in-Two-clause-unjoined g c =
    played_leaves (miner_ask c.args.words.now) (g.F.Files.state c.args.files.now) (g.F.Files.state c.read_files.new.files)
    (g.F.Files.state c.play-in-Two.new.files) (g.L.Links.state c.args.links.now) (g.L.Links.state c.play-in-Two.new.links) c.in_ok-given.given
    c.in_ok-given.ensures.files c.play-in-Two.result c.play-in-Two.ensures.plays

pub returns-in-Three-clause-unjoined : goal.returns-in-Three-clause-unjoined
returns-in-Three-clause-unjoined g c =
    played_leaves (miner_ask c.args.words.now) (g.F.Files.state c.args.files.now) (g.F.Files.state c.read_files.new.files)
    (g.F.Files.state c.play-in-Three.new.files) (g.L.Links.state c.args.links.now) (g.L.Links.state c.play-in-Three.new.links) c.in_ok-given.given
    c.in_ok-given.ensures.files c.play-in-Three.result c.play-in-Three.ensures.plays

pub returns-in-One-clause-moves : goal.returns-in-One-clause-moves
returns-in-One-clause-moves g c =
    played_moves (miner_ask c.args.words.now) (g.F.Files.state c.args.files.now) (g.F.Files.state c.read_files.new.files)
    (g.F.Files.state c.play.new.files) (g.L.Links.state c.args.links.now) (g.L.Links.state c.play.new.links) c.in_ok-given.given
    c.in_ok-given.ensures.files c.in_ok-given.ensures.answer c.play.result c.play.ensures.plays

pub returns-in-Two-clause-moves : goal.returns-in-Two-clause-moves
returns-in-Two-clause-moves g c =
    played_moves (miner_ask c.args.words.now) (g.F.Files.state c.args.files.now) (g.F.Files.state c.read_files.new.files)
    (g.F.Files.state c.play-in-Two.new.files) (g.L.Links.state c.args.links.now) (g.L.Links.state c.play-in-Two.new.links) c.in_ok-given.given
    c.in_ok-given.ensures.files c.in_ok-given.ensures.answer c.play-in-Two.result c.play-in-Two.ensures.plays

pub returns-in-Three-clause-moves : goal.returns-in-Three-clause-moves
returns-in-Three-clause-moves g c =
    played_moves (miner_ask c.args.words.now) (g.F.Files.state c.args.files.now) (g.F.Files.state c.read_files.new.files)
    (g.F.Files.state c.play-in-Three.new.files) (g.L.Links.state c.args.links.now) (g.L.Links.state c.play-in-Three.new.links) c.in_ok-given.given
    c.in_ok-given.ensures.files c.in_ok-given.ensures.answer c.play-in-Three.result c.play-in-Three.ensures.plays

pub returns-in_err-given-clause-moves : goal.returns-in_err-given-clause-moves
returns-in_err-given-clause-moves g c = λ both. moves_none (miner_ask c.args.words.now) _ (g.L.Links.state c.args.links.now)
