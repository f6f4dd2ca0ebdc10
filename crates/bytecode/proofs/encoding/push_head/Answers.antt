use Rattle.std.proofs.Common.{◌≡◌, length, arith}
use Rattle.bytecode.proofs.Encoded.{head_written}
use Rattle.bytecode.proofs.encoding.push_head.Goals as goal

pub returns : goal.returns
returns c =
    let f = c.args.function.now in
    let registers : c.len.result ≡ length f.registers.items = omega (arith, c.len.ensures, f.registers.ok) in
    let body : c.len-2.result ≡ length f.body.items = omega (arith, c.len-2.ensures, f.body.ok) in
    head_written f c.args.text.now.items _ _ _ _ _ _ _ c.return_byte-gives.ensures registers c.deref.ensures.value body
    c.in_ok-push_numbers.ensures c.in_ok-push_kinds.ensures c.in_ok-push_numbers-2.ensures
