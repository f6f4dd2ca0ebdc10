-- The words of inputs, one after another.
use Rattle.std.proofs.Common.{◌≡◌, ℕ, ◌+◌, ◌*◌, ◌≤◌, ◌<◌, List, [], ◌∷◌, length, take, drop, refl, sym, ◌∙◌, ap, arith, get_or, length-drop}
use Rattle.std.proofs.lemmas.List.{drop_all, take_all, length-take-le}
use Rattle.std.proofs.lemmas.List.Sums.{sum_by-cons}
use Rattle.proto_core.specs.declared.party.Number.{Number}
use Rattle.proto_core.specs.declared.party.Number.TheVariants.{One, Two, Three}
use Rattle.protocol_model.specs.Gates.{sizes_of}
use Rattle.value_file.specs.Values.{size_of}
use Rattle.value_file.specs.declared.public.PublicValue.{PublicValue}
use Rattle.value_file.specs.declared.public.PublicValue.TheVariants.{Known, Hidden}
use Rattle.value_file.specs.declared.public.PublicEntry.{PublicEntry}
use Rattle.input_share.specs.declared.entry.ShareEntry.{ShareEntry}
use Rattle.input_share.specs.Values.{shared_size}
use Rattle.input_share.proofs.Steps.{drop-item}
use Rattle.view_model.specs.Dealing.{private_shares, hidden_sizes, made_share, made_part, made_entries, hidden_draws}
use Rattle.view_simulator.specs.Need.{hidden_need}

pub all-taken : (k : ℕ) (xs : List ℕ) → length xs < k → xs ≡ take k xs
all-taken k xs h = sym (take_all k xs (omega arith))

pub none-behind : (k : ℕ) (xs : List ℕ) → length xs < k → [] ≡ drop k xs
none-behind k xs h = sym (drop_all k xs (omega arith))

pub ruleset cut_steps = (all-taken, none-behind)

-- ---- entry after entry

abbrev pub entry_of : Number → PublicEntry → List ℕ → ShareEntry
entry_of i entry words = record { name = entry.name; part = made_part i entry.value words }

pub made_entries-drop :
    (i : Number) (xs : List PublicEntry) (words : List ℕ) (k : ℕ) (x : PublicEntry) → k < length xs → x ≡ get_or xs k x →
    made_entries i (drop k xs) words ≡ entry_of i x words ∷ made_entries i (drop (k + 1) xs) (drop (hidden_draws x.value) words)
made_entries-drop i xs words k x h e = ap (λ l. made_entries i l words) (drop-item xs k x h e)

pub made_entries-end : (i : Number) (xs : List PublicEntry) (words : List ℕ) (k : ℕ) → length xs ≤ k → made_entries i (drop k xs) words ≡ []
made_entries-end i xs words k h = ap (λ l. made_entries i l words) (drop_all k xs h)

-- ---- sizes

share-size : (i : Number) (n : ℕ) (words : List ℕ) → 2 * n ≤ length words → length (made_share i n words) ≡ n
share-size One n words h = length-take-le n words (omega arith)
share-size Two n words h = let l = length-drop n words in length-take-le n (drop n words) (omega arith)
share-size Three n words h = length-take-le n words (omega arith)

pub sizes-made :
    (i : Number) (part : List PublicEntry) (words : List ℕ) → hidden_need part ≤ length words →
    sizes_of (private_shares (made_entries i part words)) ≡ hidden_sizes part
sizes-made i [] words h = refl
sizes-made i (entry ∷ part) words h =
    let need : hidden_need (entry ∷ part) ≡ hidden_draws entry.value + hidden_need part = sum_by-cons (λ e. hidden_draws e.value) entry part in
    let l = length-drop (hidden_draws entry.value) words in
    by_value entry.value (omega arith) (sizes-made i part (drop (hidden_draws entry.value) words) (omega arith))
  where
    by_value :
        (value : PublicValue) → hidden_draws value ≤ length words →
        sizes_of (private_shares (made_entries i part (drop (hidden_draws value) words))) ≡ hidden_sizes part →
        sizes_of (private_shares (record { name = entry.name; part = made_part i value words } ∷ made_entries i part (drop (hidden_draws value) words)))
        ≡ hidden_sizes (record { name = entry.name; value = value } ∷ part)
    by_value (Known value) h more = more
    by_value (Hidden kind shape) h more =
        let m : ℕ = shared_size kind (size_of shape) in
        ap (λ n. n ∷ sizes_of (private_shares (made_entries i part (drop (2 * m) words)))) (share-size i m words h) ∙ ap (λ ns. m ∷ ns) more
