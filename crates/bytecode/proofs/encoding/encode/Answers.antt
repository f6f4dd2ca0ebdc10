use Rattle.std.proofs.Common.{◌≡◌, length, arith}
use Rattle.bytecode.proofs.Encoded.{code_written}
use Rattle.bytecode.proofs.encoding.encode.Goals as goal

pub returns : goal.returns
returns c =
    let code = c.args.code.now in
    let names : c.len.result ≡ length code.names.items = omega (arith, c.len.ensures, code.names.ok) in
    let functions : c.len-2.result ≡ length code.functions.items = omega (arith, c.len-2.ensures, code.functions.ok) in
    code_written code _ _ _ _ _ _ c.len.result c.len-2.result _ _ _ c.new-text.ensures.items names c.deref.ensures.value functions
    c.deref-2.ensures.value c.deref-3.ensures.value
    c.in_ok-push_numbers.ensures c.in_ok-push_names.ensures c.in_ok-push_numbers-2.ensures c.in_ok-push_heads.ensures c.in_ok-push_bodies.ensures
