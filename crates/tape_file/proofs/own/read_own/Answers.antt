use Rattle.std.proofs.Common.{ℕ, Ok, sym, ap, ◌∙◌}
use Rattle.tape_file.specs.Format.{own_bytes, words_at}
use Rattle.tape_file.proofs.Memory.{Reads-memory}
use Rattle.tape_file.proofs.OwnLaws.{own_bytes-words_at, read_own_of-fault, read_own_of-sound}
use Rattle.tape_file.proofs.own.read_own.Goals as goal

pub returns-in-Some-clause-reads : goal.returns-in-Some-clause-reads
returns-in-Some-clause-reads c =
    read_own_of-fault c.args.len c.args.bytes.now c.in-Some.place (sym c.fault.ensures.fault ∙ c.in-Some.is)

pub returns-in_err-words-clause-reads : goal.returns-in_err-words-clause-reads
returns-in_err-words-clause-reads c =
    Reads-memory (λ tape. tape.items) _ _ c.from_residual.result (read_own_of-sound c.args.len c.args.bytes.now c.in_default.ensures.sound)
    c.from_residual.ensures.1

pub returns-clause-reads : goal.returns-clause-reads
returns-clause-reads c =
    read_own_of-sound c.args.len c.args.bytes.now c.in_default.ensures.sound
    ∙ ap Ok (sym (c.in_ok-words.ensures ∙ ap (λ (n : ℕ). words_at 8 n c.args.bytes.now) c.word.ensures))

pub returns-clause-written_again : goal.returns-clause-written_again
returns-clause-written_again c =
    ap own_bytes (c.in_ok-words.ensures ∙ ap (λ (n : ℕ). words_at 8 n c.args.bytes.now) c.word.ensures)
    ∙ own_bytes-words_at c.args.len c.args.bytes.now (λ i. (c.type_inv.bytes i).fits) c.in_default.ensures.sound
