use Rattle.std.proofs.Common.{◌≡◌, ◌∙◌, Some, length, option_map, refl, sym, ap, rules}
use Rattle.outside.proofs.MapFiles.{contents_kept, found_none, found_some, size_elsewhere}
use Rattle.outside.specs.declared.mem_file.MemFile.{MemFile}
use Rattle.outside.proofs.mem_file.measure.Goals as goal

pub returns-in-Some-clause-size : goal.returns-in-Some-clause-size
returns-in-Some-clause-size c =
    let long : c.len-size.result ≡ length c.in-Some.file.now.bytes.items = search rules in
    ap Some long
    ∙ ap (option_map length) (found_some c.args.files.now c.args.path.now c.in-Some.file.now c.in-Some.ensures.value c.in-Some.file.now.bytes.items refl)

pub returns-in-Some-clause-contents : goal.returns-in-Some-clause-contents
returns-in-Some-clause-contents c =
    let w : MemFile = record { bytes = c.in-Some.file.now.bytes; sized = Some c.len-size.result } in
    contents_kept c.args.files.now (c.get_mut.follows.lender w) c.args.path.now w ((c.get_mut.follows.holds w).3 (search rules))
    (sym (found_some c.args.files.now c.args.path.now c.in-Some.file.now c.in-Some.ensures.value c.in-Some.file.now.bytes.items refl))

pub returns-in-Some-clause-others : goal.returns-in-Some-clause-others
returns-in-Some-clause-others c =
    let w : MemFile = record { bytes = c.in-Some.file.now.bytes; sized = Some c.len-size.result } in
    size_elsewhere c.args.files.now (c.get_mut.follows.lender w) c.args.path.now w ((c.get_mut.follows.holds w).3 (search rules))

pub returns-in-None-clause-size : goal.returns-in-None-clause-size
returns-in-None-clause-size c = ap (option_map length) (found_none c.args.files.now c.args.path.now c.in-None.ensures.value)
