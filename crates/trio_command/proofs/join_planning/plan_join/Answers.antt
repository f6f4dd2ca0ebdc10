use Rattle.proto_core.specs.Parties.{of_three}
use Rattle.command_words.specs.Views.{join_ask}
use Rattle.trio_command.specs.Join.{join_paths}
use Rattle.trio_command.proofs.Joins.{join_anyhow, join_names, three_named}
use Rattle.trio_command.proofs.join_planning.plan_join.Goals as goal

pub returns-in-Err-clause-anyhow : goal.returns-in-Err-clause-anyhow
returns-in-Err-clause-anyhow g c =
    join_anyhow (g.F.Files.state c.args.files.now) (g.F.Files.state c.join_files.new.files)
    (of_three c.deref.result.now c.deref-2.result.now c.deref-3.result.now)
    (of_three c.deref-in-Err.result.now c.deref-in-Err-2.result.now c.deref-in-Err-3.result.now) c.in-Err.error c.join_stop.result c.in-Err.ensures
    c.join_stop.ensures

pub returns-in-Err-clause-names : goal.returns-in-Err-clause-names
returns-in-Err-clause-names g c =
    let ask = join_ask c.args.words.now in
    join_names (of_three c.deref-in-Err.result.now c.deref-in-Err-2.result.now c.deref-in-Err-3.result.now) (join_paths ask)
    (three_named ask c.deref-in-Err.result.now c.deref-in-Err-2.result.now c.deref-in-Err-3.result.now c.deref-in-Err.ensures c.deref-in-Err-2.ensures
    c.deref-in-Err-3.ensures)
    c.in-Err.error c.join_stop.result c.join_stop.ensures
