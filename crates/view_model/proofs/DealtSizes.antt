-- In how many words each private input is shared, dealt or hidden.
use Rattle.std.proofs.Common.{◌≡◌, ℕ, ◌+◌, ◌-◌, ◌*◌, ◌≤◌, List, [], ◌∷◌, length, drop, refl, ◌∙◌, ap, arith}
use Rattle.std.proofs.lemmas.List.{length-take-le, length-drop}
use Rattle.std.proofs.lemmas.List.Sums.{sum_by-cons}
use Rattle.proto_core.specs.Ring.{Ring}
use Rattle.proto_core.specs.declared.party.Number.{Number}
use Rattle.proto_core.specs.declared.party.Number.TheVariants.{One, Two, Three}
use Rattle.protocol_model.specs.Gates.{sizes_of}
use Rattle.value_file.specs.declared.value.Domain.{Domain}
use Rattle.value_file.specs.declared.value.Domain.TheVariants as domain
use Rattle.value_file.specs.declared.inputs.Entry.{Entry}
use Rattle.value_file.specs.Values.{type_of, count_of}
use Rattle.value_file.specs.Public.{shown}
use Rattle.value_file.specs.Public as public
use Rattle.input_share.specs.Values.{shared_words, shared_size, ring_of}
use Rattle.input_share.specs.Dealing.{first_masks, second_masks, share_of, draws_for, draws_of, need_of, part_of}
use Rattle.input_share.proofs.Elements.{length-shared_words}
use Rattle.input_share.proofs.FormLaws.{size_of-shape_of}
use Rattle.view_model.specs.Dealing.{private_then, size_then, hidden_then, dealt_to, private_sizes, hidden_sizes}
use Rattle.view_model.proofs.Masks.{length_left_of}
use Rattle.view_model.proofs.Dealings.{need_rest}

pub sizes_hidden : (es : List Entry) → hidden_sizes (public.part_of es) ≡ private_sizes es
sizes_hidden [] = refl
sizes_hidden (e ∷ es) = by_domain e.domain (sizes_hidden es)
  where
    by_domain :
        (d : Domain) → hidden_sizes (public.part_of es) ≡ private_sizes es →
        hidden_then (shown d e.value) (hidden_sizes (public.part_of es)) ≡ size_then d (shared_size (type_of e.value) (count_of e.value)) (private_sizes es)
    by_domain domain.Public rest = rest
    by_domain domain.Private rest =
        ap (λ n. n ∷ hidden_sizes (public.part_of es)) (ap (λ n. shared_size (type_of e.value) n) (size_of-shape_of e.value))
        ∙ ap (λ ns. shared_size (type_of e.value) (count_of e.value) ∷ ns) rest

pub length_share : (i : Number) (r : Ring) (xs words : List ℕ) → 2 * length xs ≤ length words → length (share_of i r xs words) ≡ length xs
length_share One r xs words h = length-take-le (length xs) words (omega arith)
length_share Two r xs words h =
    let behind : length (drop (length xs) words) ≡ length words - length xs = length-drop (length xs) words in
    length-take-le (length xs) (drop (length xs) words) (omega arith)
length_share Three r xs words h =
    let behind : length (drop (length xs) words) ≡ length words - length xs = length-drop (length xs) words in
    length_left_of r xs (first_masks (length xs) words) (second_masks (length xs) words)
    (length-take-le (length xs) words (omega arith)) (length-take-le (length xs) (drop (length xs) words) (omega arith))

pub sizes_dealt : (i : Number) (es : List Entry) (words : List ℕ) → need_of es ≤ length words → sizes_of (dealt_to es words i) ≡ private_sizes es
sizes_dealt i [] words h = refl
sizes_dealt i (e ∷ es) words h =
    let need : need_of (e ∷ es) ≡ draws_of e + need_of es = sum_by-cons draws_of e es in
    by_domain e.domain (sizes_dealt i es (drop (draws_of e) words) (need_rest e es words h)) (omega arith)
  where
    by_domain :
        (d : Domain) → sizes_of (dealt_to es (drop (draws_of e) words) i) ≡ private_sizes es →
        draws_for d (shared_size (type_of e.value) (count_of e.value)) ≤ length words →
        sizes_of (private_then (part_of i d e.value words) (dealt_to es (drop (draws_of e) words) i))
        ≡ size_then d (shared_size (type_of e.value) (count_of e.value)) (private_sizes es)
    by_domain domain.Public rest enough = rest
    by_domain domain.Private rest enough =
        let count = length-shared_words e.value in
        ap (λ n. n ∷ sizes_of (dealt_to es (drop (draws_of e) words) i))
        (length_share i (ring_of (type_of e.value)) (shared_words e.value) words (omega arith) ∙ count)
        ∙ ap (λ ns. shared_size (type_of e.value) (count_of e.value) ∷ ns) rest
