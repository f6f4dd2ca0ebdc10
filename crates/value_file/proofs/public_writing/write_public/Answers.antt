use Rattle.std.proofs.Common.{Some, All, ap, sym, subst, string_bytes, ◌≤◌, ◌∙◌}
use Rattle.std.proofs.lemmas.Str.{IsUtf8-string_bytes}
use Rattle.serde_json.specs.Data.{Data, depth}
use Rattle.serde_json.specs.Written.{has_float, compact_text}
use Rattle.value_file.specs.Public.{ShowsWords, part_bytes}
use Rattle.value_file.specs.PublicFile.{read_public_of}
use Rattle.value_file.proofs.Floats.{has_float-part}
use Rattle.value_file.proofs.RoundTrip.{depth-part, read_public_of-written}
use Rattle.value_file.proofs.public_writing.write_public.Goals as goal

pub returns : goal.returns
unfolding part_bytes
returns c =
    let same = c.in_ok-json.ensures in
    let none = ap has_float same ∙ has_float-part c.args.part.now in
    let bytes = ap (λ v. v.items) c.into_bytes.ensures.value in
    let shallow = subst (λ (d : Data). depth d ≤ 127) (sym same) (depth-part c.args.part.now) in
    let words = subst (All (λ e. ShowsWords e.value)) c.entries.ensures c.see_entries.ensures in
    record {
      bytes = bytes ∙ c.in_ok-to_string.ensures.text none ∙ ap compact_text same;
      read_again = λ good. ap read_public_of bytes
          ∙ read_public_of-written (string_bytes c.in_ok-to_string.field-0) c.args.part.now (IsUtf8-string_bytes c.in_ok-to_string.field-0)
          (c.in_ok-to_string.ensures.reads_back shallow ∙ ap Some same) good words;
    }
