use Rattle.std.proofs.Common.{◌≡◌, ◌∙◌, sym, ap, rules, string_bytes}
use Rattle.outside.specs.Files.{with_file}
use Rattle.outside.specs.MemFile.{contents_of, size_in}
use Rattle.outside.proofs.MapFiles.{contents_after, sizes_kept}
use Rattle.outside.proofs.mem_file.put_file.Goals as goal

pub returns-clause-ok : goal.returns-clause-ok
returns-clause-ok c =
    let named : string_bytes c.in_ok-name.name ≡ c.args.path.now = search rules in
    let copied : c.in_ok-bytes.bytes.items ≡ c.args.bytes.now = search rules in
    contents_after c.args.files.now c.insert.new.self (string_bytes c.in_ok-name.name) _ c.in_ok-insert.ensures.updates
    ∙ ap (λ p. with_file (contents_of c.args.files.now) p c.in_ok-bytes.bytes.items) named ∙ ap (with_file (contents_of c.args.files.now) c.args.path.now) copied

pub returns-clause-sizes : goal.returns-clause-sizes
returns-clause-sizes c =
    let named : string_bytes c.in_ok-name.name ≡ c.args.path.now = search rules in
    sizes_kept c.args.files.now c.insert.new.self (string_bytes c.in_ok-name.name) _ c.in_ok-insert.ensures.updates
    (c.size_at-sized.ensures ∙ ap (size_in c.args.files.now) (sym named))
