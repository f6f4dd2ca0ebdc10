use Rattle.std.proofs.Common.{[], sym, subst}
use Rattle.std.proofs.lemmas.Result.{err_from_is_err_and}
use Rattle.input_share.specs.Reading.{AreWritable}
use Rattle.command_words.specs.Views.{miner_ask}
use Rattle.node_run.specs.Nodes.{Own}
use Rattle.node_run.specs.Views.{own_seen}
use Rattle.miner_command.proofs.Played.{plays_with, serve_named, stops_with, unplanned_with}
use Rattle.miner_command.proofs.playing.play.Goals as goal

pub run_on-requires-clause-form : goal.run_on-requires-clause-form
run_on-requires-clause-form g c = subst (λ (own : Own). AreWritable own.share.entries) (sym (c.own_part-own.ensures [])) c.requires.form

pub returns-in_err-text_plan-in-Ok-clause-plays : goal.returns-in_err-text_plan-in-Ok-clause-plays
returns-in_err-text_plan-in-Ok-clause-plays g c =
    let files = g.F.Files.state in
    let links = g.L.Links.state in
    let runs = rw c.deref.ensures at c.in-Ok.ensures.runs in
    let p = err_from_is_err_and c.from_residual.result c.from_residual.ensures.1 in
    rw (p.1, p.2)
    (unplanned_with (miner_ask c.args.words.now) c.args.given (files c.args.files.now) (files c.run_on.new.files) (links c.args.links.now)
    (links c.run_on.new.links) g.P.Party.me c.requires.me (own_seen c.own_part-own.result) c.own_part-own.ensures c.in-Ok.told runs)

pub returns-in_ok-text_plan-in-Ok-clause-plays : goal.returns-in_ok-text_plan-in-Ok-clause-plays
returns-in_ok-text_plan-in-Ok-clause-plays g c =
    let files = g.F.Files.state in
    let links = g.L.Links.state in
    let runs = rw c.deref.ensures at c.in-Ok.ensures.runs in
    plays_with (miner_ask c.args.words.now) c.args.given (files c.args.files.now) (files c.run_on.new.files) (links c.args.links.now)
    (links c.run_on.new.links) g.P.Party.me c.requires.me (own_seen c.own_part-own.result) c.own_part-own.ensures c.in-Ok.told
    c.in_ok-text_plan-in-Ok.field-0 runs c.in_ok-text_plan-in-Ok.ensures.effect

pub returns-in-Err-clause-plays : goal.returns-in-Err-clause-plays
returns-in-Err-clause-plays g c =
    let files = g.F.Files.state in
    let links = g.L.Links.state in
    let runs = rw c.deref.ensures at c.in-Err.ensures.runs in
    let stop = rw c.deref-in-Err.ensures at c.serve_stop.ensures in
    stops_with (miner_ask c.args.words.now) c.args.given (files c.args.files.now) (files c.run_on.new.files) (links c.args.links.now)
    (links c.run_on.new.links) g.P.Party.me c.requires.me (own_seen c.own_part-own.result) c.own_part-own.ensures c.in-Err.refusal
    c.serve_stop.result runs stop

pub returns-in-Err-clause-names : goal.returns-in-Err-clause-names
returns-in-Err-clause-names g c =
    let stop = rw c.deref-in-Err.ensures at c.serve_stop.ensures in
    serve_named (miner_ask c.args.words.now) c.in-Err.refusal c.serve_stop.result stop
