use Rattle.std.proofs.Common.{ap, ◌∙◌, sym, cond}
use Rattle.std.specs.Prelude.{bytes_eq}
use Rattle.std.proofs.lemmas.Map.Text.{btree_map_updates_str}
use Rattle.declarations.specs.Index.{found}
use Rattle.name_resolution.proofs.variables.put_back.Goals as goal

pub returns-in-None : goal.returns-in-None
returns-in-None c x = btree_map_updates_str c.args.name.now c.args.latest.now c.remove.new.self _ c.remove.ensures.updates x
    ∙ ap (λ h. cond (bytes_eq c.args.name.now x) h (found c.args.latest.now x)) (sym c.in-None.is)

pub returns-in-Ok : goal.returns-in-Ok
returns-in-Ok c x = btree_map_updates_str c.args.name.now c.args.latest.now c.insert.new.self _ c.in-Ok.ensures.updates x
    ∙ ap (λ h. cond (bytes_eq c.args.name.now x) h (found c.args.latest.now x)) (sym c.in-Some.is)
