-- A file of which several texts speak is looked at once.
use Rattle.std.proofs.Common.{◌≡◌, ℕ, List, [], ◌∷◌, ◌+◌, ◌<◌, length, get_or, take, Bool, true, false, ◌&&◌, ◌||◌, refl, ap, ap₂, sym, ◌∙◌, inl, inr, rules}
use Rattle.std.proofs.Common.{string_bytes}
use Rattle.std.specs.Prelude.{not}
use Rattle.std.specs.List.{list_all, list_any}
use Rattle.std.specs.Str.{bytes_eq}
use Rattle.std.proofs.lemmas.Bool.{and_parts, or_cases}
use Rattle.std.proofs.lemmas.List.Folds.{list_all_more}
use Rattle.std.proofs.lemmas.Slice.Eq.{bytes_eq-Decides}
use Rattle.outside.specs.Files.{Contents}
use Rattle.row_files.specs.Texts.{fits_at, fits_each, is_of_file, speaks_of}
use Rattle.row_files.specs.declared.row.Text.{Text}

same_path : (name path : List ℕ) → bytes_eq name path ≡ true → name ≡ path
same_path name path e = search (rules, bytes_eq-Decides)

fits_here : (of_file fits : Bool) → of_file ≡ true → (not of_file || fits) ≡ true → fits ≡ true
fits_here true fits e h = h
fits_here false fits e h = absurd (cc)

-- where a text before speaks of a path and fits, the path has what the texts say
told_fits : (all : List Text) (files : Contents) (path : List ℕ) (texts : List Text) → list_any (speaks_of path) texts ≡ true
    → list_all (fits_each all files) texts ≡ true → fits_at all files path ≡ true
told_fits all files path [] told fit = absurd (cc)
told_fits all files path (text ∷ texts) told fit =
    let parts = and_parts (fits_each all files text) _ fit in
    elim (or_cases (speaks_of path text) _ told) as (λ _. fits_at all files path ≡ true) [
      | inl here ↦
          let speaks = and_parts (is_of_file text.kind) _ here in
          ap (fits_at all files) (sym (same_path (string_bytes text.name) path speaks.1))
          ∙ fits_here (is_of_file text.kind) (fits_at all files (string_bytes text.name)) speaks.0 parts.0
      | inr later ↦ told_fits all files path texts later parts.1
    ]

passed : (before of_file told fits : Bool) → (told ≡ true → before ≡ true → fits ≡ true)
    → (before && (not of_file || told || fits)) ≡ (before && (not of_file || fits))
passed false of_file told fits h = refl
passed true false told fits h = refl
passed true true false fits h = refl
passed true true true fits h = sym (h refl refl)

-- what is said of a text after those before it
abbrev said_of : List Text → Contents → List Text → Text → Bool
said_of all files before text =
    not (is_of_file text.kind) || list_any (speaks_of (string_bytes text.name)) before || fits_at all files (string_bytes text.name)

said_once : (all : List Text) (files : Contents) (before : List Text) (text : Text)
    → (list_all (fits_each all files) before && said_of all files before text) ≡ (list_all (fits_each all files) before && fits_each all files text)
said_once all files before text =
    passed (list_all (fits_each all files) before) (is_of_file text.kind) (list_any (speaks_of (string_bytes text.name)) before)
    (fits_at all files (string_bytes text.name)) (told_fits all files (string_bytes text.name) before)

pub one_more : (all : List Text) (files : Contents) (i : ℕ) (text : Text) (before said : Bool) → i < length all → text ≡ get_or all i text
    → before ≡ list_all (fits_each all files) (take i all) → said ≡ said_of all files (take i all) text
    → (before && said) ≡ list_all (fits_each all files) (take (i + 1) all)
one_more all files i text before said lt is b s =
    ap₂ (λ (x y : Bool). x && y) b s
    ∙ said_once all files (take i all) text
    ∙ ap (λ (x : Text). list_all (fits_each all files) (take i all) && fits_each all files x) is
    ∙ sym (list_all_more (fits_each all files) all i text lt)
