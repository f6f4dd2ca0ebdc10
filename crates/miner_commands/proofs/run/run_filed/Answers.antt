use Rattle.std.proofs.Common.{◌∙◌, ap, rules}
use Rattle.miner_commands.proofs.Drawn.{fault_so, files_so, runs_so}
use Rattle.miner_commands.proofs.run.run_filed.Goals as goal

pub returns-clause-files : goal.returns-clause-files
returns-clause-files g c =
    let files = g.F.Files.state in
    let run = c.run_job-result.ensures.ran in
    let held = c.into_files-back.ensures.same ∙ run.drew.stands.held ∙ c.new-tapes.ensures.same in
    files_so (files c.args.files.now) c.args.path.now c.args.lengths c.requires.open _ c.new-tapes.ensures.opened c.args.job.now.inputs.now _ _ _ run _
    (ap files c.new-tapes.ensures.now) (search rules)

pub returns-clause-ran : goal.returns-clause-ran
returns-clause-ran g c =
    let files = g.F.Files.state in
    runs_so (files c.args.files.now) c.args.path.now c.args.lengths c.requires.open _ c.new-tapes.ensures.opened c.args.job.now.inputs.now _ _ _
    c.run_job-result.ensures.ran

pub returns-clause-fault : goal.returns-clause-fault
returns-clause-fault g c =
    let files = g.F.Files.state in
    let run = c.run_job-result.ensures.ran in
    let held = c.into_files-back.ensures.same ∙ run.drew.stands.held ∙ c.new-tapes.ensures.same in
    fault_so (files c.args.files.now) c.args.path.now c.args.lengths c.requires.open _ c.new-tapes.ensures.opened c.args.job.now.inputs.now _ _ _ run _
    (ap files c.new-tapes.ensures.now) (search rules)
