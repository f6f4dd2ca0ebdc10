-- What the miners run with, read by read.
use Rattle.std.proofs.Common.{◌≡◌, ◌⊎◌, ◌++◌, ◌≤◌, ◌<◌, ℕ, List, [], ◌∷◌, true, false, Result, Ok, Err, length, refl, ap, sym, ◌∙◌, subst, inl, inr}
use Rattle.std.proofs.Common.{arith, Contains, codes}
use Rattle.std.proofs.lemmas.Bool.Decides.{nat_tests}
use Rattle.std.proofs.lemmas.List.{map-append}
use Rattle.std.proofs.lemmas.List.Elements.{Contains-append_cases, Contains-append_left, Contains-append_right}
use Rattle.std.specs.Prelude.{IfErr, nat_lt}
use Rattle.std.specs.Result.{IsErrAnd}
use Rattle.outside.specs.Files.{Contents}
use Rattle.command_frame.specs.declared.plan.PlannedWrite.{PlannedWrite}
use Rattle.command_frame.specs.declared.stop.Stop.{Stop}
use Rattle.command_frame.specs.Answer.{Written, paths_in, writes_of}
use Rattle.command_frame.specs.Reads.{StopNames}
use Rattle.command_frame.proofs.Naming.{names_among}
use Rattle.command_words.specs.Ask.{TrioAsk}
use Rattle.input_share.specs.Dealing.{need_of}
use Rattle.input_share.specs.Dealing.{dealt as dealt_file}
use Rattle.input_share.specs.Refusal.{Refuses}
use Rattle.input_share.specs.declared.dealing.DealErr.{DealErr}
use Rattle.input_share.specs.declared.dealing.DealErr.TheVariants as refusals
use Rattle.input_share.specs.ShareFile.{MinerFile}
use Rattle.input_share.specs.Written.{file_bytes}
use Rattle.proto_core.specs.declared.party.Number.TheVariants.{One, Two, Three}
use Rattle.program_commands.specs.Deal.{deal_writes, written_paths}
use Rattle.program_commands.specs.Judging.{Finding}
use Rattle.program_commands.specs.Paths.{file_of, path_to}
use Rattle.program_commands.specs.Reading.{inputs_at, tape_file_at}
use Rattle.tape_file.specs.Format.{own_bytes}
use Rattle.tape_file.specs.Tapes.{FourTapes, lengths_of}
use Rattle.value_file.specs.declared.inputs.Entry.{Entry}
use Rattle.trio_command.specs.Trio.{code_writes, dealt, prepared_of, prepared_paths, undealt}
use Rattle.trio_command.specs.declared.preparing.Prepared.{Prepared as Files}
use Rattle.trio_command.specs.declared.preparing.Prepared.TheVariants as variants
use Rattle.trio_command.specs.inner.Views.{PreparesAmong, WritesAmong, prepared_seen}

-- a stop that is handed on
pub err_is : {X : Type 0} (P : Result X Stop → Type 0) (r : Result X Stop) (stop : Stop) → IsErrAnd r (λ given. given ≡ stop) → P (Err stop) → P r
err_is P (Ok x) stop is p = absurd is
err_is P (Err given) stop is p = subst (λ (s : Stop). P (Err s)) (sym is) p

pub named_at : {X : Type 0} (paths : List (List ℕ)) (path other : List ℕ) (stop : Stop) (r : Result X Stop) → IsErrAnd r (λ given. given ≡ stop)
    → StopNames (path ∷ []) stop → path ≡ other → Contains paths other → IfErr r (StopNames paths)
named_at paths path other stop r is names same among =
    err_is (λ r. IfErr r (StopNames paths)) r stop is
    (names_among other paths stop among (subst (λ (p : List ℕ). StopNames (p ∷ []) stop) same names))

-- ---- the dealing

few : (have need : ℕ) → have < need → nat_lt have need ≡ true
few have need h = grind (arith, nat_tests)

enough : (have need : ℕ) → need ≤ have → nat_lt have need ≡ false
enough have need h = grind (arith, nat_tests)

module _ (ask : TrioAsk) (found : Finding) (files : Contents) (code : List Written) (entries : List Entry) (tapes : FourTapes)
    (one : code_writes found ask files ≡ Ok code) (two : inputs_at files ask.input ≡ Ok entries) (three : tape_file_at files ask.tape ≡ Ok tapes) where
  pub dealt_so : (ws : List Written) → need_of entries ≤ length tapes.dealer → ws ≡ code ++ deal_writes ask.to entries tapes
      → prepared_of found ask files ≡ Ok (dealt ws)
  unfolding prepared_of
  dealt_so ws most is = rw (one, two, three, enough (length tapes.dealer) (need_of entries) most) (ap (λ (xs : List Written). Ok (dealt xs)) (sym is))

  pub undealt_so : (need have : ℕ) → length tapes.dealer < need_of entries → need ≡ need_of entries → have ≡ length tapes.dealer
      → prepared_of found ask files ≡ Ok (undealt need have)
  unfolding prepared_of
  undealt_so need have lt n h = rw (one, two, three, few (length tapes.dealer) (need_of entries) lt, n, h) refl

-- what is told of a dealer's tape that is too short
pub short_refused : (needed had need have : ℕ) (err : DealErr) → err ≡ refusals.TapeShort need have → Refuses needed had err
    → (had < needed) × (need ≡ needed) × (have ≡ had)
short_refused needed had need have err is refuses = subst (Refuses needed had) is refuses

-- the files of a dealing from these words are those that `deal` writes
pub dealing_is : (prefix : List ℕ) (entries : List Entry) (tapes : FourTapes) (words lens : List ℕ) (first second third : MinerFile) → words ≡ tapes.dealer
    → lens ≡ lengths_of tapes → first ≡ dealt_file One entries words lens → second ≡ dealt_file Two entries words lens
    → third ≡ dealt_file Three entries words lens
    → file_of prefix (codes ".1") (file_bytes first)
    ∷ file_of prefix (codes ".2") (file_bytes second)
    ∷ file_of prefix (codes ".3") (file_bytes third)
    ∷ file_of prefix (codes ".t1") (own_bytes tapes.one)
    ∷ file_of prefix (codes ".t2") (own_bytes tapes.two)
    ∷ file_of prefix (codes ".t3") (own_bytes tapes.three) ∷ []
    ≡ deal_writes prefix entries tapes
dealing_is prefix entries tapes words lens first second third w l x y z = rw (x, y, z, w, l) refl

-- ---- the paths

both_writes : (xs ys : List PlannedWrite) → writes_of (xs ++ ys) ≡ writes_of xs ++ writes_of ys
both_writes xs ys = map-append _ xs ys

pub writes_are : (code : List PlannedWrite) (more all : List PlannedWrite) (wanted : List Written) → all ≡ code ++ more → writes_of more ≡ wanted
    → writes_of all ≡ writes_of code ++ wanted
writes_are code more all wanted is same = ap writes_of is ∙ both_writes code more ∙ ap (λ (ws : List Written). writes_of code ++ ws) same

pub all_among : (ask : TrioAsk) (code all : List Written) (entries : List Entry) (tapes : FourTapes)
    → WritesAmong (path_to ask.to (codes ".code") ∷ []) code → all ≡ code ++ deal_writes ask.to entries tapes → WritesAmong (prepared_paths ask) all
unfolding prepared_paths
all_among ask code all entries tapes first is path contains =
    go (Contains-append_cases (paths_in code) (written_paths ask.to) path
    (subst (λ (ps : List (List ℕ)). Contains ps path) (ap paths_in is ∙ map-append (λ (w : Written). w.path) code (deal_writes ask.to entries tapes)) contains))
  where
    go : (Contains (paths_in code) path) ⊎ (Contains (written_paths ask.to) path) → Contains (path_to ask.to (codes ".code") ∷ written_paths ask.to) path
    go (inl c) = Contains-append_left (path_to ask.to (codes ".code") ∷ []) (written_paths ask.to) path (first path c)
    go (inr c) = Contains-append_right (path_to ask.to (codes ".code") ∷ []) (written_paths ask.to) path c

-- what is seen of what was prepared, and its paths
pub dealt_among : (paths : List (List ℕ)) (p : Files) (ws : List Written) → prepared_seen p ≡ dealt ws → PreparesAmong paths p → WritesAmong paths ws
dealt_among paths (variants.Dealt writes) ws is among =
    let same : writes_of writes.items ≡ ws = cc in
    subst (WritesAmong paths) same among
dealt_among paths (variants.Undealt need have) ws is among = absurd cc
