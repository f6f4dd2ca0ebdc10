use Rattle.std.proofs.Common.{codes}
use Rattle.clap.specs.Words.{new_app}
use Rattle.command_words.specs.Shapes.{command_app, gather_app, with_options}
use Rattle.command_words.specs.inner.Parts.{gather_required}
use Rattle.command_words.proofs.builders.gather_command.Goals as goal

pub returns : goal.returns
unfolding gather_app command_app with_options gather_required
returns c =
    let needed = rw c.gather_required.ensures at
    (c.with_options-command.ensures (new_app (codes "gather")) (record { shape = c.new.ensures.app; local = c.new.ensures.local })) in
    c.with_words.ensures _ needed
