use Rattle.std.proofs.Common.{◌∙◌, sym, ap, subst}
use Rattle.std.proofs.lemmas.Result.{err_from_is_err_and}
use Rattle.bytecode.specs.Decoded.{operands}
use Rattle.bytecode.specs.InMemory.{raw_instruction}
use Rattle.bytecode.specs.Layouts.{read}
use Rattle.bytecode.specs.inner.Reading.{Reads}
use Rattle.bytecode.specs.inner.Tags.{tag_byte}
use Rattle.bytecode.specs.Versions.{counting}
use Rattle.bytecode.proofs.Reading.{reads_err}
use Rattle.bytecode.proofs.SameOperands.{same_operands, plain_unless_call, reads_operands, stops_at_tag}
use Rattle.bytecode.proofs.operands.instruction.Goals as goal

pub returns-in_err-tested : goal.returns-in_err-tested
returns-in_err-tested c =
    let stop = stops_at_tag c.args.version c.args.parameters.now c.args.reader.now c.in_err-tested.field-0.0 c.in_err-tested.ensures.reads in
    let from = c.from_residual.ensures in
    reads_err raw_instruction _ _ _ _ (err_from_is_err_and c.from_residual.result from.1) stop

pub returns-in-Call : goal.returns-in-Call
returns-in-Call c =
    let rule = counting c.args.version c.args.parameters.now in
    let there = subst (λ b. Reads raw_instruction (read (operands rule b) c.tested.new.self) c.call.result c.call.new.reader)
    (ap tag_byte (sym c.in-Call.is) ∙ c.tag_of-tag.ensures) c.call.ensures in
    reads_operands raw_instruction c.args.version c.args.parameters.now c.args.reader.now c.in_ok-tested.field-0 _ _ _ c.in_ok-tested.ensures.reads there

pub returns-in_default : goal.returns-in_default
returns-in_default c =
    let rule = counting c.args.version c.args.parameters.now in
    let same = same_operands rule c.tag_of-tag.result (plain_unless_call c.tag_of-tag.result c.in_default.not-Call) ∙ ap (operands rule) c.tag_of-tag.ensures in
    let there = subst (λ l. Reads raw_instruction (read l c.tested.new.self) c.plain.result c.plain.new.reader) same c.plain.ensures in
    reads_operands raw_instruction c.args.version c.args.parameters.now c.args.reader.now c.in_ok-tested.field-0 _ _ _ c.in_ok-tested.ensures.reads there
