-- A run whose tapes are drawn from a file that was opened.
use Rattle.std.proofs.Common.{◌≡◌, ℕ, List, length, true, Option, Some, None, Result, Ok, Err, IsSomeAnd, IsErrOf, refl, sym, ◌∙◌, subst}
use Rattle.std.specs.Prelude.{IfErr}
use Rattle.outside.specs.Causes.{Rose}
use Rattle.outside.specs.Files.{FilesState, OnlyRead, SameSizes, file_at}
use Rattle.outside.specs.Tapes.{TapesState}
use Rattle.viewed_run.specs.CourseErr.{CourseErr}
use Rattle.viewed_run.specs.CourseErr.TheVariants.{TapeFault}
use Rattle.viewed_run.specs.Sources.{IsCause, RunsFrom}
use Rattle.tape_file.specs.Tapes.{FourTapes}
use Rattle.tape_sources.specs.FileTapes.{TapeFaulted}
use Rattle.tape_sources.specs.Opening.{OpensFour}
use Rattle.tape_sources.specs.Parties.{four_of}
use Rattle.tape_sources.specs.declared.lengths.TapeLengths.{TapeLengths}
use Rattle.value_file.specs.declared.inputs.Entry.{Entry}
use Rattle.miner_commands.specs.Opened.{tapes_in, AreOpen, IsOpen}
use Rattle.miner_commands.specs.declared.tapes.OpenTapes.{OpenTapes}
use Rattle.miner_commands.specs.declared.tapes.OpenTapes.TheVariants.{File, Seed}
use Rattle.miner_commands.proofs.SourceRuns.{told_so}
use Rattle.miner_commands.proofs.TapeWords.{file_has_words}

-- ---- a file that was opened

whole_on : (f f' : FilesState) (path : List ℕ) (l : TapeLengths) → OnlyRead f f'
    → (f.told ≡ true → IsSomeAnd (file_at f.contents path) (λ bytes. length bytes ≡ l.size))
    → f'.told ≡ true → IsSomeAnd (file_at f'.contents path) (λ bytes. length bytes ≡ l.size)
whole_on f f' path l only whole told =
    subst (λ files. IsSomeAnd (file_at files path) (λ bytes. length bytes ≡ l.size)) (sym only.same.contents) (whole (sym only.same.told ∙ told))

-- it stays open where other files are read
pub stays_open : (f f' : FilesState) (tapes : OpenTapes) → OnlyRead f f' → SameSizes f f' → AreOpen f tapes → AreOpen f' tapes
stays_open f f' (File path lengths) only sizes was = record {
  sized = sizes path.now ∙ was.sized;
  whole = whole_on f f' path.now lengths only was.whole;
}
stays_open f f' (Seed seed) only sizes was = tt

-- ---- what is drawn from it

-- why it gives nothing
fault_at : {A : Type 0} (s t : TapesState) (r : Result A CourseErr) → IfErr r (IsCause s t) → IsErrOf r TapeFault → IsCause s t TapeFault
fault_at s t (Ok x) cause is = absurd cc
fault_at s t (Err e) cause is = let same : e ≡ TapeFault = cc in subst (IsCause s t) same cause

module _ (f : FilesState) (path : List ℕ) (lengths : TapeLengths) (is_open : IsOpen f path lengths) (s : TapesState)
    (opened : OpensFour lengths f path s) where
  -- where the store tells, the source does, and its words are those in the file
  told_in : f.told ≡ true → (o : Option (List ℕ)) → file_at f.contents path ≡ o → IsSomeAnd o (λ bytes. length bytes ≡ lengths.size)
      → (s.told ≡ true) × (four_of s ≡ tapes_in o lengths)
  told_in told None at h = absurd h
  told_in told (Some bytes) at h = opened.told told bytes at h

  source_tells : f.told ≡ true → (s.told ≡ true) × (four_of s ≡ tapes_in (file_at f.contents path) lengths)
  source_tells told = told_in told (file_at f.contents path) refl (is_open.whole told)

  module _ {A : Type 0} (entries : List Entry) (t : TapesState) (result : Result A CourseErr) (Q : FourTapes → Type 0) (h : RunsFrom s t entries result Q)
    where
      pub runs_so : f.told ≡ true → Q (tapes_in (file_at f.contents path) lengths)
      runs_so told =
          let there = source_tells told in
          told_so entries s t there.0 (tapes_in (file_at f.contents path) lengths) there.1 result Q h
          (file_has_words (file_at f.contents path) lengths)

      module _ (f' : FilesState) (under : s.under ≡ f) (under' : t.under ≡ f') where
        pub fault_so : IsErrOf result TapeFault → TapeFaulted f f'
        fault_so is =
            let fault = fault_at s t result h.cause is in
            record {
              rose = subst (λ x. Rose x.faults f'.faults) under (subst (λ x. Rose s.under.faults x.faults) under' fault.rose);
              unsteady = λ told st. fault.unsteady (opened.steady st (source_tells told).0);
            }

        pub files_so : OnlyRead f f'
        files_so = subst (λ x. OnlyRead x f') under (subst (λ x. OnlyRead s.under x) under' h.drew.stands.read)
