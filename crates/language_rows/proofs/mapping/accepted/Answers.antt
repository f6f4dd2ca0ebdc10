use Rattle.program_trees.specs.Programs.{program_tree}
use Rattle.well_written.proofs.Grammar.{well_written}
use Rattle.language_rows.proofs.mapping.accepted.Goals as goal

pub returns-in-Ok-check_limits-clause-accepted : goal.returns-in-Ok-check_limits-clause-accepted
returns-in-Ok-check_limits-clause-accepted c =
    let text = c.in-Ok.ensures.answer in
    let source = program_tree c.in-Ok.program in
    let within = c.in-Ok-check_limits.ensures.answer in
    record {
      source = source;
      instances = within.list;
      accepted = record {
        typed = text.typed;
        written = well_written c.as_bytes.result.now source text.spells.tokens text.spells.lexed text.spells.spelled;
        resolved = c.in-Ok-checked_tree.ensures.tree;
        reached = within.reached;
        within = within;
      };
    }
