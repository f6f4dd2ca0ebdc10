use Rattle.std.proofs.Common.{subst, sym}
use Rattle.input_share.specs.Reading.{AreWritable}
use Rattle.input_share.specs.ShareFile.{MinerFile}
use Rattle.gather_command.proofs.Distinct.{writable}
use Rattle.gather_command.proofs.gathering.gather.Goals as goal

pub returns-clause-form : goal.returns-clause-form
returns-clause-form c = λ f fs.
    subst (λ (m : MinerFile). AreWritable m.entries) (sym c.new.ensures)
    (writable c.args.first.now c.args.more.now c.in_ok-entries.entries.items f fs c.in_ok-entries.ensures)
