use Rattle.std.proofs.Common.{Ok, sym, ap, ◌∙◌}
use Rattle.tape_file.specs.Format.{tape_bytes}
use Rattle.tape_file.proofs.Memory.{Reads-memory}
use Rattle.tape_file.proofs.Laws.{read_of-fault, read_of-sound, same_tapes, tape_bytes-tapes_at}
use Rattle.tape_file.proofs.format.read.Goals as goal

pub returns-in-Some-clause-reads : goal.returns-in-Some-clause-reads
returns-in-Some-clause-reads c =
    read_of-fault c.args.bytes.now c.in-Some.place (sym c.fault.ensures.fault ∙ c.in-Some.is)

pub returns-in_err-tapes-clause-reads : goal.returns-in_err-tapes-clause-reads
returns-in_err-tapes-clause-reads c =
    Reads-memory (λ tapes. tapes) _ _ c.from_residual.result (read_of-sound c.args.bytes.now c.in_default.ensures.sound) c.from_residual.ensures.1

pub returns-clause-reads : goal.returns-clause-reads
returns-clause-reads c =
    read_of-sound c.args.bytes.now c.in_default.ensures.sound
    ∙ ap Ok (sym (same_tapes c.args.bytes.now c.in_ok-tapes.field-0 _ _ _ _ c.in_ok-tapes.ensures c.word-dealer.ensures c.word-miner1.ensures
    c.word-miner2.ensures c.word-miner3.ensures))

pub returns-clause-written_again : goal.returns-clause-written_again
returns-clause-written_again c =
    ap tape_bytes (same_tapes c.args.bytes.now c.in_ok-tapes.field-0 _ _ _ _ c.in_ok-tapes.ensures c.word-dealer.ensures c.word-miner1.ensures
    c.word-miner2.ensures c.word-miner3.ensures)
    ∙ tape_bytes-tapes_at c.args.bytes.now (λ i. (c.type_inv.bytes i).fits) c.in_default.ensures.sound
