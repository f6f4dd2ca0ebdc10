-- What a miner makes of the share files that several owners of inputs dealt it: one file.
use Rattle.std.specs.Prelude.{ℕ, ◌≡◌, ◌+◌, ◌^◌, ◌==◌, ◌&&◌, List, [], ◌∷◌, ◌++◌, map, nat_lt, slice_index, if◌then◌else◌}
use Rattle.std.specs.Prelude.{Option, Some, None, Result, Ok, Err}
use Rattle.std.specs.List.{flat_map, list_any}
use Rattle.std.specs.Option.{ok_or}
use Rattle.std.specs.Str.{bytes_eq}
use Rattle.value_file.specs.Input.{◌>>=◌}
use Rattle.input_share.specs.declared.entry.ShareEntry.{ShareEntry}
use Rattle.input_share.specs.ShareFile.{MinerFile}
use Rattle.input_share.specs.Reading.{share_name_of}
use Rattle.gather_command.specs.declared.gathering.GatherErr.{GatherErr}
use Rattle.gather_command.specs.declared.gathering.GatherErr.TheVariants.{NameTwice, OtherLengths, Memory}

-- the entries of the files, end to end
abbrev pub entries_in : List MinerFile → List ShareEntry
entries_in files = flat_map (λ file. file.entries) files

-- the first of the names that is one of those before it, where these stand before them all
unfoldable pub name_again : (before names : List (List ℕ)) → Option (List ℕ)
name_again before [] = None
name_again before (name ∷ names) = if list_any (bytes_eq name) before then Some name else name_again (before ++ name ∷ []) names

abbrev pub none_again : Option (List ℕ) → List ShareEntry → Result (List ShareEntry) GatherErr
none_again (Some name) entries = Err (NameTwice name)
none_again None entries = Ok entries

-- entries of which no two have one name
abbrev pub distinct : List ShareEntry → Result (List ShareEntry) GatherErr
distinct entries = none_again (name_again [] (map share_name_of entries)) entries

-- four lengths and four lengths as those of one dealing: the miners' are the same, the dealers' are added, below 2^64
unfoldable pub joined_lens : (lens more : List ℕ) → Option (List ℕ)
joined_lens lens more =
    if slice_index lens 1 == slice_index more 1 && slice_index lens 2 == slice_index more 2 && slice_index lens 3 == slice_index more 3
    && nat_lt (slice_index lens 0 + slice_index more 0) (2 ^ 64)
    then Some ((slice_index lens 0 + slice_index more 0) ∷ slice_index lens 1 ∷ slice_index lens 2 ∷ slice_index lens 3 ∷ []) else None

-- the lengths so far, and those of the files from this place on
abbrev pub lens_from : (place : ℕ) → List ℕ → List MinerFile → Result (List ℕ) GatherErr
lens_from place lens [] = Ok lens
lens_from place lens (file ∷ files) = ok_or (joined_lens lens file.lens) (OtherLengths place) >>= λ both. lens_from (place + 1) both files

-- the entries end to end, no name twice, and the lengths of all; the files count from 0, and a name comes before a length
unfoldable pub gathered : MinerFile → List MinerFile → Result MinerFile GatherErr
gathered first more = do
  entries ← distinct (first.entries ++ entries_in more)
  lens ← lens_from 1 first.lens more
  Ok (record { entries = entries; lens = lens; miner = first.miner })

-- the answer, seen by `view`, is what was wanted, unless memory ran short
abbrev pub Gathers : {X Y : Type 0} → (X → Y) → Result Y GatherErr → Result X GatherErr → Type 0
Gathers view wanted (Ok value) = wanted ≡ Ok (view value)
Gathers view wanted (Err (NameTwice name)) = wanted ≡ Err (NameTwice name)
Gathers view wanted (Err (OtherLengths place)) = wanted ≡ Err (OtherLengths place)
Gathers view wanted (Err Memory) = Unit {0}
