use Rattle.clap.specs.Words.{new_app}
use Rattle.command_words.specs.Shapes.{command_app, view_app}
use Rattle.command_words.proofs.builders.view_command.Goals as goal

pub returns : goal.returns
unfolding view_app command_app
returns c =
    let worded = c.with_word-command.ensures (new_app c.args.name.now) (record { shape = c.new.ensures.app; local = c.new.ensures.local }) in
    let both = c.with_word-command-2.ensures _ worded in
    c.with_options.ensures _ (c.with_options-command.ensures _ both)
