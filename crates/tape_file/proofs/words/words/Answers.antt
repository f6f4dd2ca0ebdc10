use Rattle.std.proofs.Common.{◌∙◌, rules}
use Rattle.tape_file.specs.Format.{words_at}
use Rattle.tape_file.proofs.WordLists.{words_at-more}
use Rattle.tape_file.proofs.words.words.Goals as goal

pub loop-k-init : goal.loop-k-init
unfolding words_at
loop-k-init c = search rules

pub loop-k-preserved : goal.loop-k-preserved
loop-k-preserved c =
    c.in_ok-push.ensures.items ∙ words_at-more c.args.place c.loop-k.k c.args.bytes.now c.loop-k.words.items c.word.result c.loop-k.invariant c.word.ensures
