use Rattle.secrec_lexer.proofs.Runs.{IsUtf8-names, read_text}
use Rattle.secrec_lexer.proofs.bytes.as_text.Goals as goal

pub unwrap-requires : goal.unwrap-requires
unwrap-requires c = read_text _ _ c.args.bytes.now c.from_utf8.result c.from_utf8.ensures.cases (IsUtf8-names c.args.bytes.now c.requires)
