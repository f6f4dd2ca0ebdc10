use Rattle.std.proofs.Common.{map, take, IfOk}
use Rattle.clap.specs.Words.{App}
use Rattle.command_words.specs.Builds.{Builds}
use Rattle.command_words.specs.Shapes.{with_options}
use Rattle.command_words.proofs.builders.with_options.Given as goal

abbrev pub invariant-loop-id : goal.invariant-loop-id
invariant-loop-id l = (a : App) → IfOk l.fn.command (Builds a) → Builds (with_options l.fn.required a (map (λ s. s.now) (take l.id-index l.ids))) l.built
