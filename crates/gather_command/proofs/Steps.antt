-- What a loop over entries or files adds at each place.
use Rattle.std.proofs.Common.{◌≡◌, ℕ, suc, ◌+◌, ◌<◌, ◌≤◌, Bool, true, false, not, List, [], ◌∷◌, ◌++◌, length, map, get_or, take, drop, Option, Some, None, Ok}
use Rattle.std.proofs.Common.{Err, Result}
use Rattle.std.proofs.Common.{refl, ap, sym, ◌∙◌, append_assoc, add-one}
use Rattle.std.proofs.lemmas.List.{append-nil, drop_all, drop_more, take_all, take_more}
use Rattle.std.specs.List.{list_any}
use Rattle.std.specs.Option.{ok_or}
use Rattle.std.specs.Str.{bytes_eq}
use Rattle.value_file.specs.Input.{◌>>=◌}
use Rattle.input_share.specs.declared.entry.ShareEntry.{ShareEntry}
use Rattle.input_share.specs.ShareFile.{MinerFile}
use Rattle.input_share.specs.Reading.{share_name_of}
use Rattle.gather_command.specs.Gathering.{entries_in, joined_lens, lens_from, name_again}
use Rattle.gather_command.specs.declared.gathering.GatherErr.{GatherErr}
use Rattle.gather_command.specs.declared.gathering.GatherErr.TheVariants.{OtherLengths}

pub entries_in-append : (fs gs : List MinerFile) → entries_in (fs ++ gs) ≡ entries_in fs ++ entries_in gs
entries_in-append [] gs = refl
entries_in-append (f ∷ fs) gs = ap (λ es. f.entries ++ es) (entries_in-append fs gs) ∙ sym (append_assoc f.entries (entries_in fs) (entries_in gs))

-- one more file
pub entries_in-more : (before : List ShareEntry) (files : List MinerFile) (i : ℕ) (f : MinerFile) (all after : List ShareEntry) → i < length files
    → f ≡ get_or files i f → all ≡ before ++ entries_in (take i files) → after ≡ all ++ f.entries → after ≡ before ++ entries_in (take (i + 1) files)
entries_in-more before files i f all after here at same grown =
    let next : take (i + 1) files ≡ take i files ++ f ∷ [] = take_more files i f here ∙ ap (λ x. take i files ++ x ∷ []) (sym at) in
    grown ∙ ap (λ es. es ++ f.entries) same ∙ append_assoc before (entries_in (take i files)) f.entries
    ∙ ap (λ es. before ++ es)
    (ap (λ es. entries_in (take i files) ++ es) (sym (append-nil f.entries)) ∙ sym (entries_in-append (take i files) (f ∷ [])) ∙ ap entries_in (sym next))

-- one more entry
pub entries-more : (before entries all after : List ShareEntry) (i : ℕ) (e copy : ShareEntry) → i < length entries → e ≡ get_or entries i e
    → all ≡ before ++ take i entries → after ≡ all ++ copy ∷ [] → copy ≡ e → after ≡ before ++ take (i + 1) entries
entries-more before entries all after i e copy here at same grown is =
    let next : take (i + 1) entries ≡ take i entries ++ e ∷ [] = take_more entries i e here ∙ ap (λ x. take i entries ++ x ∷ []) (sym at) in
    grown ∙ ap (λ x. all ++ x ∷ []) is ∙ ap (λ es. es ++ e ∷ []) same ∙ append_assoc before (take i entries) (e ∷ [])
    ∙ ap (λ es. before ++ es) (sym next)

-- the names from a place on
names_from : (entries : List ShareEntry) (i : ℕ) (e : ShareEntry) → i < length entries → e ≡ get_or entries i e
    → map share_name_of (drop i entries) ≡ e.name ∷ map share_name_of (drop (i + 1) entries)
names_from entries i e here at = rw (drop_more entries i e here, ← at) refl

module _ (entries : List ShareEntry) (i : ℕ) (e : ShareEntry) (before : List (List ℕ)) (wanted : Option (List ℕ)) (here : i < length entries)
    (at : e ≡ get_or entries i e) (so_far : name_again before (map share_name_of (drop i entries)) ≡ wanted) where
  abbrev rest : List (List ℕ)
  rest = map share_name_of (drop (i + 1) entries)

  from_here : name_again before (e.name ∷ rest) ≡ wanted
  from_here = ap (name_again before) (sym (names_from entries i e here at)) ∙ so_far

  -- a name that is new
  pub name-new : (after : List (List ℕ)) (new : Bool) → new ≡ true → new ≡ not (list_any (bytes_eq e.name) before) → after ≡ before ++ e.name ∷ []
      → name_again after (map share_name_of (drop (i + 1) entries)) ≡ wanted
  unfolding name_again
  name-new after new is test grown =
      let no : list_any (bytes_eq e.name) before ≡ false = none (list_any (bytes_eq e.name) before) (sym test ∙ is) in
      let next : name_again (before ++ e.name ∷ []) rest ≡ name_again before (e.name ∷ rest) = rw no refl in
      ap (λ (b : List (List ℕ)). name_again b rest) grown ∙ next ∙ from_here
    where
      none : (b : Bool) → not b ≡ true → b ≡ false
      none true h = absurd cc
      none false h = refl

  -- a name that isn't
  pub name-old : (new : Bool) → new ≡ false → new ≡ not (list_any (bytes_eq e.name) before) → Some e.name ≡ wanted
  unfolding name_again
  name-old new is test =
      let yes : list_any (bytes_eq e.name) before ≡ true = some (list_any (bytes_eq e.name) before) (sym test ∙ is) in
      let found : Some e.name ≡ name_again before (e.name ∷ rest) = rw yes refl in
      found ∙ from_here
    where
      some : (b : Bool) → not b ≡ false → b ≡ true
      some true h = refl
      some false h = absurd cc

-- after the last name
pub name-end : (entries : List ShareEntry) (i : ℕ) (before : List (List ℕ)) (wanted : Option (List ℕ)) → length entries ≤ i
    → name_again before (map share_name_of (drop i entries)) ≡ wanted → None ≡ wanted
unfolding name_again
name-end entries i before wanted past so_far =
    let none : None ≡ name_again before (map share_name_of (drop i entries)) = rw (drop_all i entries past) refl in
    none ∙ so_far

module _ (files : List MinerFile) (i : ℕ) (f : MinerFile) (lens : List ℕ) (wanted : Result (List ℕ) GatherErr) (here : i < length files)
    (at : f ≡ get_or files i f) (so_far : lens_from (i + 1) lens (drop i files) ≡ wanted) where
  step : lens_from (i + 1) lens (drop i files)
      ≡ (ok_or (joined_lens lens f.lens) (OtherLengths (i + 1)) >>= λ both. lens_from (i + 1 + 1) both (drop (i + 1) files))
  step = rw (drop_more files i f here, ← at) refl

  -- lengths that go with those before them
  pub lens-more : (both : List ℕ) → Some both ≡ joined_lens lens f.lens → lens_from (i + 1 + 1) both (drop (i + 1) files) ≡ wanted
  lens-more both joined =
      let next : (ok_or (joined_lens lens f.lens) (OtherLengths (i + 1)) >>= λ b. lens_from (i + 1 + 1) b (drop (i + 1) files))
      ≡ lens_from (i + 1 + 1) both (drop (i + 1) files) = rw (← joined) refl in
      sym next ∙ sym step ∙ so_far

  -- lengths that don't
  pub lens-other : None ≡ joined_lens lens f.lens → wanted ≡ Err (OtherLengths (i + 1))
  lens-other joined =
      let next : (ok_or (joined_lens lens f.lens) (OtherLengths (i + 1)) >>= λ b. lens_from (i + 1 + 1) b (drop (i + 1) files)) ≡ Err (OtherLengths (i + 1)) =
      rw (← joined) refl in
      sym so_far ∙ step ∙ next

pub lens-end : (files : List MinerFile) (i : ℕ) (lens : List ℕ) (wanted : Result (List ℕ) GatherErr) → length files ≤ i
    → lens_from (i + 1) lens (drop i files) ≡ wanted → wanted ≡ Ok lens
lens-end files i lens wanted past so_far =
    let none : lens_from (i + 1) lens (drop i files) ≡ Ok lens = rw (drop_all i files past) refl in
    sym so_far ∙ none
