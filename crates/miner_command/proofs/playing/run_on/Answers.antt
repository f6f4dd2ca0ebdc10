use Rattle.std.proofs.Common.{◌∙◌, ap, rules}
use Rattle.proto_core.specs.Parties.{count_of}
use Rattle.node_run.specs.Views.{own_seen}
use Rattle.miner_command.proofs.Drawn.{files_so, runs_on}
use Rattle.miner_command.proofs.playing.run_on.Goals as goal

pub returns-clause-files : goal.returns-clause-files
returns-clause-files g c =
    let files = g.F.Files.state in
    let run = c.run_node-result.ensures.runs in
    let held = c.into_files-back.ensures.same ∙ run.drew.stands.held ∙ c.new-tape.ensures.same in
    files_so g.P.Party.me c.as_u8.result (c.as_u8.ensures ∙ ap count_of c.number.ensures) c.args.file c.args.path.now (files c.args.files.now) _
    c.new-tape.ensures.opened c.requires.open.whole (own_seen c.args.own) _ _ _ _ _ _ (ap files c.new-tape.ensures.now) (search rules) run

pub returns-clause-runs : goal.returns-clause-runs
returns-clause-runs g c =
    let files = g.F.Files.state in
    let run = c.run_node-result.ensures.runs in
    let held = c.into_files-back.ensures.same ∙ run.drew.stands.held ∙ c.new-tape.ensures.same in
    runs_on g.P.Party.me c.as_u8.result (c.as_u8.ensures ∙ ap count_of c.number.ensures) c.args.file c.args.path.now (files c.args.files.now) _
    c.new-tape.ensures.opened c.requires.open.whole (own_seen c.args.own) _ _ _ _ _ _ (ap files c.new-tape.ensures.now) (search rules) run
