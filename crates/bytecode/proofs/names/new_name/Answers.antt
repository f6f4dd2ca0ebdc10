use Rattle.std.proofs.Common.{map, reverse, sym, ap, Some, None, if◌then◌else◌}
use Rattle.bytecode.proofs.NameReads.{no_text_no_name}
use Rattle.bytecode.proofs.names.new_name.Goals as goal

pub returns-in_default-clause-name : goal.returns-in_default-clause-name
returns-in_default-clause-name c =
    let earlier = reverse (map (λ n. n.now) c.args.earlier.now.keys) in
    ap (λ b. if b then Some c.args.bytes.now else None) (sym (no_text_no_name earlier c.args.bytes.now c.in_default.ensures.cases.0))
