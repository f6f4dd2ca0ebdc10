use Rattle.std.proofs.Common.{◌≤◌, length, get_or, subst, sym, ap, ◌∙◌, arith}
use Rattle.value_file.specs.PublicFile.{public_count}
use Rattle.value_file.specs.declared.public.PublicEntry.{PublicEntry}
use Rattle.clear_eval.proofs.PublicParts.{each_public_short}
use Rattle.clear_eval.proofs.public_offering.parts_given.Goals as goal

pub part_given-requires : goal.part_given-requires
part_given-requires c =
    let same = c.entries-entry-items.ensures in
    let i = c.loop-entry.entry-index in
    let x = c.entry-item.result in
    subst (λ (y : PublicEntry). public_count y.value ≤ 65536) (sym (c.entry-item.is ∙ ap (λ l. get_or l i x) same))
    (each_public_short c.args.part.now i x c.requires (omega (arith, ap length same)))
