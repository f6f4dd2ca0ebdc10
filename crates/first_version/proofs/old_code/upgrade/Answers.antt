use Rattle.first_version.proofs.Meanings.{copies_keep_meaning}
use Rattle.first_version.proofs.old_code.upgrade.Goals as goal

pub returns-clause-law : goal.returns-clause-law
returns-clause-law c = copies_keep_meaning _ _ c.old.view_is _ c.copy.ensures
