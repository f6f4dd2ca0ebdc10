-- What the checker's own structs stand for.
use Rattle.std.specs.Prelude.{List, map, option_map, vec_items}
use Rattle.declarations.specs.Views.{declared}
use Rattle.domain_types.specs.declared.setting.Setting.{Setting}
use Rattle.domain_types.specs.Settings as settings
use Rattle.domain_types.specs.Settings.{bind}
use Rattle.domain_types.specs.declared.calls.Call.{Call}
use Rattle.domain_types.specs.Reached as reached

abbrev pub setting : Setting → settings.Setting
setting w = record { declared = declared w.declarations.now; bound = bind w.function.now.variables.items w.binding.now }

abbrev pub call_seen : Call → reached.Call
call_seen c = record { function = c.function; binding = option_map vec_items c.binding }

abbrev pub calls_seen : List Call → List reached.Call
calls_seen cs = map call_seen cs
