use Rattle.std.proofs.Common.{◌≡◌, ℕ, List, ap}
use Rattle.value_file.specs.declared.inputs.Entry.{Entry}
use Rattle.value_file.specs.Public.{part_of}
use Rattle.language_model.specs.Effects.{Answers, GivenInput}
use Rattle.language_model.specs.Reports.{Offered, public_part, world_of, evaluated}
use Rattle.clear_eval.specs.Offers.{offered, offered_with, offered_part}
use Rattle.clear_eval.proofs.PublicParts.{entries_are_public}
use Rattle.clear_eval.proofs.laws.public_parts_are_public.Goals as goal

part_is_public : (entries : List Entry) (lengths : List ℕ) → offered_part (part_of entries) lengths ≡ public_part (offered entries lengths)
part_is_public entries lengths = ap (λ (inputs : List GivenInput). offered_with inputs lengths) (entries_are_public entries)

pub returns-clause-part : goal.returns-clause-part
returns-clause-part c entries lengths = part_is_public entries lengths

pub returns-clause-report : goal.returns-clause-report
returns-clause-report c entries lengths answers p budget =
    ap (λ (o : Offered). evaluated (world_of Answers o) p budget answers) (part_is_public entries lengths)
