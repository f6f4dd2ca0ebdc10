use Rattle.kept_disk.proofs.MapFiles.{found_there, made_empty}
use Rattle.kept_disk.proofs.logged_files.make_file.Goals as goal

pub returns-in-None-clause-same : goal.returns-in-None-clause-same
returns-in-None-clause-same c =
    made_empty c.put_file.result c.args.files.now c.put_file.new.files c.args.path.now c.in-None.ensures.value c.put_file.ensures.ok c.put_file.ensures.others
    c.put_file.ensures.err

pub returns-in-Some-clause-there : goal.returns-in-Some-clause-there
returns-in-Some-clause-there c = found_there c.args.files.now c.args.path.now _ c.in-Some.ensures.value
