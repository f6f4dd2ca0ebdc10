use Rattle.std.proofs.Common.{ap, map, refl, string_bytes, subst, Err, List}
use Rattle.command_words.specs.Views.{gather_ask}
use Rattle.input_share.specs.ShareFile.{MinerFile}
use Rattle.gather_command.specs.Gathering.{gathered, Gathers}
use Rattle.program_commands.specs.Reading.{share_at}
use Rattle.program_commands.proofs.Still.{read_still}
use Rattle.gather_command.proofs.Planned.{gather_stops, shares_still}
use Rattle.gather_command.proofs.planning.plan_gather.Goals as goal

pub returns-clause-answer : goal.returns-clause-answer
returns-clause-answer g c =
    let ask = gather_ask c.args.words.now in
    let f = g.F.Files.state c.args.files.now in
    let f1 = g.F.Files.state c.read_share_file.new.files in
    let first = c.in_ok-first.first in
    let more = c.in_ok-more.more.items in
    gather_stops ask f first more
    (read_still (λ files path. share_at files ask.miner path) f f (record { told = refl; contents = refl }) c.deref.result.now ask.first c.deref.ensures first
    c.in_ok-first.ensures.answer)
    (shares_still f f1 c.in_ok-first.ensures.files ask.miner (map string_bytes c.deref-2.result.now) ask.more (ap (map string_bytes) c.deref-2.ensures.value)
    more c.in_ok-more.ensures.answer)
    (g.F.Files.state c.read_shares.new.files) c.in-Err.refusal c.gather_stop.result
    (subst (λ (shares : List MinerFile). Gathers {X = MinerFile} (λ file. file) (gathered first shares) (Err c.in-Err.refusal)) c.deref-3.ensures.value
    c.in-Err.ensures.gathers)
    c.gather_stop.ensures
