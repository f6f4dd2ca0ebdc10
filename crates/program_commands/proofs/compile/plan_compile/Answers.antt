use Rattle.std.proofs.Common.{sym, ◌∙◌, ap}
use Rattle.command_words.specs.Views.{compile_ask}
use Rattle.bytecode.specs.InMemory.{raw_code}
use Rattle.program_trees.specs.TypedPrograms.{typed_program_tree}
use Rattle.program_commands.specs.Compile.{written_effect}
use Rattle.program_commands.proofs.Planned.{at_path, compiled, done_with}
use Rattle.program_commands.proofs.compile.plan_compile.Goals as goal

pub returns-clause-answer : goal.returns-clause-answer
returns-clause-answer g c = λ found h t.
    let ask = compile_ask c.args.words.now in
    compiled found ask (g.F.Files.state c.args.files.now).contents (typed_program_tree c.in_ok-program.program) c.in_ok-code.code h
    (at_path c.deref.result.now ask.program c.deref.ensures (g.F.Files.state c.args.files.now) (typed_program_tree c.in_ok-program.program)
    c.in_ok-program.ensures.answer found h t)
    c.in_ok-code.ensures
    ∙ ap (λ code. done_with (written_effect ask.code code)) (sym c.code.ensures.code)
    ∙ ap (λ path. done_with (written_effect path (raw_code c.code.result.now))) (sym c.deref-2.ensures)
    ∙ ap done_with (sym c.in_ok-code_plan.ensures.effect)
