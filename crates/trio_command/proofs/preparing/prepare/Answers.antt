use Rattle.std.proofs.Common.{◌≡◌, ◌<◌, ◌≤◌, ℕ, List, Ok, ap₂, length, subst, sym, ◌∙◌}
use Rattle.command_frame.specs.Answer.{writes_of}
use Rattle.command_words.specs.Views.{trio_ask}
use Rattle.input_share.specs.Dealing.{need_of}
use Rattle.program_commands.specs.Deal.{deal_writes}
use Rattle.program_commands.specs.Reading.{inputs_at, tape_file_at}
use Rattle.program_commands.proofs.Still.{read_still, still, still_later}
use Rattle.trio_command.specs.Trio.{undealt}
use Rattle.trio_command.proofs.Prepares.{all_among, dealing_is, dealt_so, short_refused, undealt_so, writes_are}
use Rattle.trio_command.proofs.preparing.prepare.Goals as goal

pub returns-in-Ok-clause-answer : goal.returns-in-Ok-clause-answer
returns-in-Ok-clause-answer g c = λ found h t.
    let ask = trio_ask c.args.words.now in
    let f = g.F.Files.state c.args.files.now in
    let f1 = g.F.Files.state c.read_code.new.files in
    let f2 = g.F.Files.state c.read_inputs.new.files in
    let s1 = still f f1 c.in_ok-writes.ensures.files in
    let s2 = still_later f f1 f2 s1 c.in_ok-inputs.ensures.files in
    let entries = c.in_ok-inputs.inputs in
    let tapes = c.in_ok-tapes.tapes in
    let more : writes_of c.in_ok-more-in-Ok.more.items ≡ deal_writes ask.to entries tapes = c.in_ok-more-in-Ok.ensures
    ∙ dealing_is ask.to entries tapes c.dealer.result.now c.lengths.result c.in-Ok.dealt.first c.in-Ok.dealt.second c.in-Ok.dealt.third c.dealer.ensures
    c.lengths.ensures c.in-Ok.ensures.first c.in-Ok.ensures.second c.in-Ok.ensures.third in
    dealt_so ask found f.contents (writes_of c.in_ok-writes.writes.items) entries tapes (c.in_ok-writes.ensures.answer found h t)
    (read_still inputs_at f f1 s1 c.deref.result.now ask.input c.deref.ensures entries c.in_ok-inputs.ensures.answer t)
    (read_still tape_file_at f f2 s2 c.deref-2.result.now ask.tape c.deref-2.ensures tapes c.in_ok-tapes.ensures.answer t)
    (writes_of c.append.new.self.items)
    (subst (λ (ws : List ℕ). need_of entries ≤ length ws) c.dealer.ensures c.in-Ok.ensures.enough)
    (writes_are c.in_ok-writes.writes.items c.in_ok-more-in-Ok.more.items c.append.new.self.items (deal_writes ask.to entries tapes)
    c.in_ok-append-in-Ok.ensures.items more)

pub returns-in-Ok-clause-paths : goal.returns-in-Ok-clause-paths
returns-in-Ok-clause-paths g c =
    let ask = trio_ask c.args.words.now in
    let entries = c.in_ok-inputs.inputs in
    let tapes = c.in_ok-tapes.tapes in
    let more : writes_of c.in_ok-more-in-Ok.more.items ≡ deal_writes ask.to entries tapes = c.in_ok-more-in-Ok.ensures
    ∙ dealing_is ask.to entries tapes c.dealer.result.now c.lengths.result c.in-Ok.dealt.first c.in-Ok.dealt.second c.in-Ok.dealt.third c.dealer.ensures
    c.lengths.ensures c.in-Ok.ensures.first c.in-Ok.ensures.second c.in-Ok.ensures.third in
    all_among ask (writes_of c.in_ok-writes.writes.items) (writes_of c.append.new.self.items) entries tapes c.in_ok-writes.ensures.paths
    (writes_are c.in_ok-writes.writes.items c.in_ok-more-in-Ok.more.items c.append.new.self.items (deal_writes ask.to entries tapes)
    c.in_ok-append-in-Ok.ensures.items more)

pub returns-in-Err-TapeShort-clause-answer : goal.returns-in-Err-TapeShort-clause-answer
returns-in-Err-TapeShort-clause-answer g c = λ found h t.
    let ask = trio_ask c.args.words.now in
    let f = g.F.Files.state c.args.files.now in
    let f1 = g.F.Files.state c.read_code.new.files in
    let f2 = g.F.Files.state c.read_inputs.new.files in
    let s1 = still f f1 c.in_ok-writes.ensures.files in
    let s2 = still_later f f1 f2 s1 c.in_ok-inputs.ensures.files in
    let entries = c.in_ok-inputs.inputs in
    let tapes = c.in_ok-tapes.tapes in
    let refusal = c.in-Err-TapeShort in
    let short = short_refused (need_of entries) (length c.dealer.result.now) refusal.need refusal.have refusal.field-0 refusal.field-0-is
    refusal.ensures.short in
    undealt_so ask found f.contents (writes_of c.in_ok-writes.writes.items) entries tapes (c.in_ok-writes.ensures.answer found h t)
    (read_still inputs_at f f1 s1 c.deref.result.now ask.input c.deref.ensures entries c.in_ok-inputs.ensures.answer t)
    (read_still tape_file_at f f2 s2 c.deref-2.result.now ask.tape c.deref-2.ensures tapes c.in_ok-tapes.ensures.answer t)
    c.in-Err-TapeShort.need c.in-Err-TapeShort.have (subst (λ (ws : List ℕ). length ws < need_of entries) c.dealer.ensures short.0) short.1
    (subst (λ (ws : List ℕ). c.in-Err-TapeShort.have ≡ length ws) c.dealer.ensures short.2)
    ∙ ap₂ (λ (need have : ℕ). Ok (undealt need have)) (sym refusal.need-is) (sym refusal.have-is)
