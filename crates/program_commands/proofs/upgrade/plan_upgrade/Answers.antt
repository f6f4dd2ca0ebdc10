use Rattle.std.proofs.Common.{sym, ◌∙◌, ap}
use Rattle.command_words.specs.Views.{upgrade_ask}
use Rattle.bytecode.specs.InMemory.{raw_code}
use Rattle.program_commands.specs.Compile.{written_effect}
use Rattle.program_commands.proofs.Planned.{done_with}
use Rattle.program_commands.proofs.Upgrades.{read_at, upgrade_answer}
use Rattle.program_commands.proofs.upgrade.plan_upgrade.Goals as goal

pub returns-clause-answer : goal.returns-clause-answer
returns-clause-answer g c = λ t.
    let ask = upgrade_ask c.args.words.now in
    upgrade_answer ask (g.F.Files.state c.args.files.now).contents c.in_ok-old.old
    (read_at c.deref.result.now ask.old c.deref.ensures (g.F.Files.state c.args.files.now).contents c.in_ok-old.old (c.in_ok-old.ensures.answer t))
    ∙ ap (λ code. done_with (written_effect ask.code code)) (sym (c.code.ensures.code ∙ c.in_ok-code.ensures.same))
    ∙ ap (λ path. done_with (written_effect path (raw_code c.code.result.now))) (sym c.deref-2.ensures)
    ∙ ap done_with (sym c.in_ok-code_plan.ensures.effect)
