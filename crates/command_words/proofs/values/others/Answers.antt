use Rattle.std.proofs.Common.{◌≡◌, ◌∙◌, ap, map, string_bytes, Bor}
use Rattle.clap.specs.Words.{Text, found_of, rows_of}
use Rattle.command_words.specs.Ask.{others_of}
use Rattle.command_words.proofs.Others.{others_none, others_some}
use Rattle.command_words.proofs.values.others.Goals as goal

pub returns-in-None : goal.returns-in-None
returns-in-None c = ap (map string_bytes) c.new.ensures.items ∙ others_none (found_of c.args.matches.now) c.args.id.now c.in-None.ensures

pub returns-in-Some : goal.returns-in-Some
returns-in-Some c =
    let found = found_of c.args.matches.now in
    let behind : map (λ (s : Bor Text). s.now) c.after_first.result.now ≡ others_of c.args.id.now (rows_of found) =
    ap (map (λ (s : Bor Text). s.now)) c.after_first.ensures ∙ others_some found c.args.id.now c.in-Some.all.now c.in-Some.ensures in
    rw behind at c.own_texts.ensures
