use Rattle.std.proofs.Common.{◌≡◌, ◌∙◌, ◌++◌, IsSomeAnd, refl, sym, ap, subst, rules}
use Rattle.outside.specs.Files.{with_file}
use Rattle.outside.specs.MemFile.{contents_of}
use Rattle.outside.proofs.MapFiles.{contents_after, contents_kept, found_none, found_some, size_found, sizes_kept}
use Rattle.outside.specs.declared.mem_file.MemFile.{MemFile}
use Rattle.outside.proofs.mem_file.extend_file.Goals as goal

pub returns-in_err-extend_from_slice-in-Some-clause-err : goal.returns-in_err-extend_from_slice-in-Some-clause-err
returns-in_err-extend_from_slice-in-Some-clause-err c =
    let w : MemFile = record { bytes = c.extend_from_slice.new.self; sized = c.in-Some.file.now.sized } in
    let same : c.extend_from_slice.new.self.items ≡ c.in-Some.file.now.bytes.items = search rules in
    let kept =
    contents_kept c.args.files.now (c.get_mut.follows.lender w) c.args.path.now w ((c.get_mut.follows.holds w).3 (search rules))
    (sym (found_some c.args.files.now c.args.path.now c.in-Some.file.now c.in-Some.ensures.value c.extend_from_slice.new.self.items same)) in
    search (rules, kept)

pub returns-in_err-extend_from_slice-in-Some-clause-sizes : goal.returns-in_err-extend_from_slice-in-Some-clause-sizes
returns-in_err-extend_from_slice-in-Some-clause-sizes c =
    let w : MemFile = record { bytes = c.extend_from_slice.new.self; sized = c.in-Some.file.now.sized } in
    sizes_kept c.args.files.now (c.get_mut.follows.lender w) c.args.path.now w ((c.get_mut.follows.holds w).3 (search rules))
    (size_found c.args.files.now c.args.path.now c.in-Some.file.now c.in-Some.ensures.value)

pub returns-in_ok-extend_from_slice-in-Some-clause-sizes : goal.returns-in_ok-extend_from_slice-in-Some-clause-sizes
returns-in_ok-extend_from_slice-in-Some-clause-sizes c =
    let w : MemFile = record { bytes = c.extend_from_slice.new.self; sized = c.in-Some.file.now.sized } in
    sizes_kept c.args.files.now (c.get_mut.follows.lender w) c.args.path.now w ((c.get_mut.follows.holds w).3 (search rules))
    (size_found c.args.files.now c.args.path.now c.in-Some.file.now c.in-Some.ensures.value)

pub returns-in_ok-extend_from_slice-in-Some-clause-ok : goal.returns-in_ok-extend_from_slice-in-Some-clause-ok
returns-in_ok-extend_from_slice-in-Some-clause-ok c =
    let m = contents_of c.args.files.now in
    let old = c.in-Some.file.now.bytes.items in
    let w : MemFile = record { bytes = c.extend_from_slice.new.self; sized = c.in-Some.file.now.sized } in
    let longer : c.extend_from_slice.new.self.items ≡ old ++ c.args.bytes.now = search rules in
    let put =
    contents_after c.args.files.now (c.get_mut.follows.lender w) c.args.path.now w ((c.get_mut.follows.holds w).3 (search rules))
    ∙ ap (with_file m c.args.path.now) longer in
    λ _. subst (λ found. IsSomeAnd found (λ all. contents_of (c.get_mut.follows.lender w) ≡ with_file m c.args.path.now (all ++ c.args.bytes.now)))
    (found_some c.args.files.now c.args.path.now c.in-Some.file.now c.in-Some.ensures.value old refl) put

pub returns-in-None-clause-missing : goal.returns-in-None-clause-missing
returns-in-None-clause-missing c = λ _. sym (found_none c.args.files.now c.args.path.now c.in-None.ensures.value)
