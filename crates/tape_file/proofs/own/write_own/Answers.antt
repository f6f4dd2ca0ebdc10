use Rattle.std.proofs.Common.{length, ap, ◌∙◌}
use Rattle.tape_file.specs.Format.{read_own_of}
use Rattle.tape_file.proofs.OwnLaws.{pushed, read_own_of-own_bytes}
use Rattle.tape_file.proofs.own.write_own.Goals as goal

pub returns-clause-bytes : goal.returns-clause-bytes
returns-clause-bytes c =
    pushed c.args.words.now _ _ _ c.new-file.ensures.items c.in_ok-push_words.ensures.bytes c.in_ok-push_words-2.ensures.bytes

pub returns-clause-read_again : goal.returns-clause-read_again
returns-clause-read_again c = λ short.
    ap (read_own_of (length c.args.words.now)) (returns-clause-bytes c)
    ∙ read_own_of-own_bytes c.args.words.now short c.in_ok-push_words-2.ensures.words
