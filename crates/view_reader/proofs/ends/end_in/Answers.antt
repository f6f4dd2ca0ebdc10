use Rattle.std.proofs.Common.{sym, ◌∙◌, ◌≡◌, subst}
use Rattle.std.specs.Prelude.{IfOk}
use Rattle.view_reader.proofs.EndWords.{tape_words, no_tape_words, no_trap_words}
use Rattle.view_reader.proofs.ends.end_in.Goals as goal

pub returns-in-len8 : goal.returns-in-len8
returns-in-len8 c =
    subst (λ end. IfOk c.tape_end_in.result (λ found. found ≡ end))
    (tape_words c.args.words.now _ c.in-len8.len_at_least c.in-len8.len_below (sym c.is_word-then-words-lt9.ensures ∙ c.if-is_word-2.true))
    c.tape_end_in.ensures

pub returns-in_default-3 : goal.returns-in_default-3
returns-in_default-3 c =
    no_trap_words c.args.words.now _ c.in-len6.len_at_least c.in-len6.len_below (sym c.is_word.ensures ∙ c.if-is_word.false)

pub returns-in_default-5 : goal.returns-in_default-5
returns-in_default-5 c =
    no_tape_words c.args.words.now _ c.in-len8.len_at_least c.in-len8.len_below (sym c.is_word-then-words-lt9.ensures ∙ c.if-is_word-2.false)
