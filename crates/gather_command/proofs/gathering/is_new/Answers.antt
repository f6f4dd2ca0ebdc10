use Rattle.std.proofs.Common.{not, sym, ap, ◌∙◌}
use Rattle.std.specs.Str.{bytes_eq}
use Rattle.value_file.proofs.Names.{list_any-map}
use Rattle.gather_command.proofs.gathering.is_new.Goals as goal

pub returns-in-Ok-clause-new : goal.returns-in-Ok-clause-new
returns-in-Ok-clause-new c = c.in-Ok.ensures.added ∙ ap not (sym (list_any-map (bytes_eq c.args.name.now) (λ n. n.now) c.args.names.now.keys))
