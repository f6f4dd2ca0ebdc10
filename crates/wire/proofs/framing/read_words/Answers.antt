use Rattle.std.proofs.Common.{◌≡◌, ◌+◌, ◌*◌, ℕ, ap, ◌∙◌, length, arith, rules}
use Rattle.tape_file.specs.Format.{word_at, words_at}
use Rattle.tape_file.proofs.WordLists.{length-words_at, words_at-more}
use Rattle.wire.proofs.framing.read_words.Goals as goal

pub loop-k-init : goal.loop-k-init
unfolding words_at
loop-k-init c = search rules

pub push-requires : goal.push-requires
push-requires c =
    let size : length c.loop-k.msg ≡ c.loop-k.k = ap length c.loop-k.invariant ∙ length-words_at 0 c.loop-k.k c.args.bytes.now in
    omega arith

pub loop-k-preserved : goal.loop-k-preserved
loop-k-preserved c =
    let place : 8 * c.loop-k.k ≡ 0 + 8 * c.loop-k.k = omega arith in
    c.push.ensures ∙ words_at-more 0 c.loop-k.k c.args.bytes.now c.loop-k.msg c.word.result c.loop-k.invariant
    (c.word.ensures ∙ ap (λ (p : ℕ). word_at p c.args.bytes.now) place)
