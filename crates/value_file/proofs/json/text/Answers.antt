use Rattle.std.proofs.Common.{length, refl, eq-eqb}
use Rattle.std.specs.Str.Lossy.{utf8_valid_len}
use Rattle.std.proofs.lemmas.Str.{utf8_valid_len-IsUtf8}
use Rattle.value_file.specs.Json.{text_of}
use Rattle.value_file.proofs.json.text.Goals as goal

pub returns-in-Ok : goal.returns-in-Ok
unfolding text_of
returns-in-Ok c =
    let all = eq-eqb (utf8_valid_len c.args.bytes.now) (length c.args.bytes.now) (utf8_valid_len-IsUtf8 c.args.bytes.now c.in-Ok.ensures.cases.1) in
    rw (all, c.in-Ok.ensures.cases.0) refl
