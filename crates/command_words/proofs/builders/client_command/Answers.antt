use Rattle.clap.specs.Words.{new_app}
use Rattle.command_words.specs.Shapes.{command_app, client_app}
use Rattle.command_words.proofs.builders.client_command.Goals as goal

pub returns : goal.returns
unfolding client_app command_app
returns c =
    let worded = c.with_word-command.ensures (new_app c.args.name.now) (record { shape = c.new.ensures.app; local = c.new.ensures.local }) in
    let needed = c.with_options-command.ensures _ worded in
    rw c.eval_options.ensures at (c.with_options.ensures _ needed)
