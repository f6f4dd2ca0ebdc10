use Rattle.std.proofs.Common.{ap, sym, ◌∙◌}
use Rattle.command_frame.specs.Moments.{Reach}
use Rattle.command_words.specs.Views.{ask_of, texts}
use Rattle.run_engine.proofs.Obeying.{acted_memory, acted_obeyed, acted_usage}
use Rattle.run_engine.proofs.Runs.{reach_by}
use Rattle.run_engine.proofs.Tops.{no_words}
use Rattle.run_engine.proofs.top.act.Goals as goal

pub returns-in-Ok-clause-acted : goal.returns-in-Ok-clause-acted
returns-in-Ok-clause-acted g c = λ err err'.
    acted_obeyed (texts c.args.words.now) (ask_of c.in-Ok.command) _ _ c.in-Ok.ensures _ (c.obey.ensures.obeyed err err')

pub returns-in-Ok-clause-links : goal.returns-in-Ok-clause-links
returns-in-Ok-clause-links g c = λ is.
    c.obey.ensures.links
    (ap (λ (r : Reach). r.links) (sym (reach_by (texts c.args.words.now) (ask_of c.in-Ok.command) c.in-Ok.ensures)) ∙ is)

pub returns-in-Ok-clause-children : goal.returns-in-Ok-clause-children
returns-in-Ok-clause-children g c = λ is.
    c.obey.ensures.children
    (ap (λ (r : Reach). r.children) (sym (reach_by (texts c.args.words.now) (ask_of c.in-Ok.command) c.in-Ok.ensures)) ∙ is)

pub returns-in-Err-Usage-clause-acted : goal.returns-in-Err-Usage-clause-acted
returns-in-Err-Usage-clause-acted g c = λ err err'.
    acted_usage (texts c.args.words.now) _ _ err err'
    (no_words (texts c.args.words.now) c.in-Err-Usage.field-0 c.in-Err-Usage.field-0-is c.in-Err-Usage.ensures)

pub returns-in-Err-Memory-clause-acted : goal.returns-in-Err-Memory-clause-acted
returns-in-Err-Memory-clause-acted g c = λ err err'. acted_memory (texts c.args.words.now) _ _ err err'
