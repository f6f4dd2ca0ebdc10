use Rattle.std.proofs.Common.{◌≡◌, List, [], ◌∷◌, ◌++◌, sym, ap, ◌∙◌, append_assoc}
use Rattle.std.specs.Prelude.{String}
use Rattle.std.specs.declared.alloc.Global.{Global}
use Rattle.outside.specs.declared.mem_file.MemFile.{MemFile}
use Rattle.outside.proofs.Held.{held_more}
use Rattle.outside.proofs.mem_file.copy_files.Goals as goal

pub loop-path-preserved : goal.loop-path-preserved
loop-path-preserved c =
    let l = c.loop-path in
    let done = l.invariant.0 in
    let e : String Global × MemFile = (c.in-Some.path.now, c.in-Some.file.now) in
    let left = c.next.new.self in
    let all : c.args.files.now.entries ≡ done ++ e ∷ left = l.invariant.1 ∙ ap (λ es. done ++ es) c.in-Some.ensures.steps in (
      done ++ e ∷ [],
      all ∙ sym (append_assoc done (e ∷ []) left),
      held_more l.copies.items c.push.new.self.items c.in_ok-held.held done e c.in_ok-push.ensures.items l.invariant.2 c.in_ok-held.ensures,
    )
