use Rattle.std.proofs.Common.{◌≡◌, ◌∙◌, subst, rules, string_bytes}
use Rattle.kept_disk.specs.Images.{file_with}
use Rattle.kept_disk.specs.LoggedFiles.{IsThere, OthersStay, file_in}
use Rattle.kept_disk.proofs.MapFiles.{file_there, is_there, others_stay}
use Rattle.kept_disk.proofs.logged_files.put_file.Goals as goal

pub returns-clause-ok : goal.returns-clause-ok
returns-clause-ok c =
    let name = string_bytes c.in_ok-name.name in
    let named : string_bytes c.in_ok-name.name ≡ c.args.path.now = search rules in
    subst (λ p. file_in c.insert.new.self p ≡ file_with c.args.bytes.now) named
    (file_there c.args.files.now c.insert.new.self name c.in_ok-file.file c.in_ok-insert.ensures.updates ∙ c.in_ok-file.ensures)

pub returns-clause-there : goal.returns-clause-there
returns-clause-there c =
    let name = string_bytes c.in_ok-name.name in
    let named : string_bytes c.in_ok-name.name ≡ c.args.path.now = search rules in
    subst (λ p. IsThere c.insert.new.self p) named
    (is_there c.args.files.now c.insert.new.self name c.in_ok-file.file c.in_ok-insert.ensures.updates)

pub returns-clause-others : goal.returns-clause-others
returns-clause-others c =
    let name = string_bytes c.in_ok-name.name in
    let named : string_bytes c.in_ok-name.name ≡ c.args.path.now = search rules in
    subst (λ p. OthersStay c.args.files.now c.insert.new.self p) named
    (others_stay c.args.files.now c.insert.new.self name c.in_ok-file.file c.in_ok-insert.ensures.updates)
