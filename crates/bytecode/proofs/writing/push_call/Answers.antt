use Rattle.std.proofs.Common.{◌∙◌, ◌++◌, ◌∷◌, [], length, map, ap, sym}
use Rattle.bytecode.specs.Written.{byte, short, source_line, bytes_of}
use Rattle.bytecode.proofs.Little.{behind_bytes, map_twice}
use Rattle.bytecode.specs.declared.instruction.Register.{Register}
use Rattle.bytecode.proofs.writing.push_call.Goals as goal

pub returns : goal.returns
returns c =
    let start = c.args.text.now.items in
    let registers = map (λ (r : Register). short r.0) c.args.arguments.now in
    let head = byte 0x16 ∷ short c.args.function ∷ short c.args.to ∷ [] in
    let count = short (length c.args.arguments.now) ∷ [] in
    let line = source_line c.args.line ∷ [] in
    let one = behind_bytes start _ _ head count c.in_ok-push_pair.ensures c.in_ok-push_numbers.ensures in
    let two = behind_bytes start _ _ (head ++ count) registers one c.in_ok-push_registers.ensures in
    let three = behind_bytes start _ _ ((head ++ count) ++ registers) line two c.in_ok-push_numbers-2.ensures in
    three ∙ ap (λ z. start ++ bytes_of ((head ++ count) ++ (z ++ line))) (sym (map_twice short (λ (r : Register). r.0) c.args.arguments.now))
