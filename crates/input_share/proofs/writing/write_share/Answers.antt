use Rattle.std.proofs.Common.{Some, All, ap, sym, subst, ◌≤◌, ◌∙◌, arith}
use Rattle.serde_json.specs.Data.{Data, depth}
use Rattle.serde_json.specs.Written.{has_float, compact_text}
use Rattle.input_share.specs.OfWords.{IsPartOfWords}
use Rattle.input_share.specs.Written.{file_bytes}
use Rattle.input_share.proofs.WrittenLaws.{file_no_float, file_flat}
use Rattle.input_share.proofs.RoundTrip.{read_share_of-written}
use Rattle.input_share.proofs.writing.write_share.Goals as goal

pub returns : goal.returns
unfolding file_bytes
returns c =
    let same = c.in_ok-file_json.ensures.json in
    let none = ap has_float same ∙ file_no_float c.args.file.now in
    let low = file_flat c.args.file.now in
    let shallow = subst (λ (d : Data). depth d ≤ 127) (sym same) (omega arith) in
    let words = subst (All (λ e. IsPartOfWords e.part)) c.entries.ensures c.see_shares.ensures in
    record {
      bytes = c.in_ok-bytes.ensures.text none ∙ ap compact_text same;
      read_again = λ good. read_share_of-written c.in_ok-bytes.bytes.items c.args.file.now c.in_ok-bytes.ensures.utf8
          (c.in_ok-bytes.ensures.reads_back shallow ∙ ap Some same) c.in_ok-file_json.ensures.four good words;
    }
