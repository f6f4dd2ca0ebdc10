-- A run of a node whose tape is drawn from a file.
use Rattle.std.proofs.Common.{◌≡◌, ℕ, List, length, Bool, true, false, Option, Some, None, Result, IsSomeAnd, IsErrOf, refl, sym, ap, ◌∙◌, subst}
use Rattle.outside.specs.Causes.{Rose}
use Rattle.outside.specs.Files.{FilesState, OnlyRead}
use Rattle.outside.specs.Links.{LinksState}
use Rattle.outside.specs.Tapes.{TapesState}
use Rattle.proto_core.specs.declared.party.Number.{Number}
use Rattle.proto_core.specs.Parties.{count_of}
use Rattle.gate_node.specs.Nodes.{IsTapeOf}
use Rattle.miner_core.specs.Drawing.{left_for}
use Rattle.miner_core.proofs.Told.{told_tape}
use Rattle.miner_node.specs.declared.node_err.ServeErr.{ServeErr}
use Rattle.miner_node.specs.declared.node_err.ServeErr.TheVariants.{TapeFault}
use Rattle.miner_node.proofs.Along.{some_tape}
use Rattle.node_run.specs.declared.running.NodeText.{NodeText}
use Rattle.node_run.specs.Nodes.{Own, RunsFrom}
use Rattle.tape_sources.specs.FileTapes.{file_in, words_in, TapeFaulted}
use Rattle.tape_sources.specs.Opening.{OpensOne}
use Rattle.miner_command.specs.declared.opened_file.TapeFile.{TapeFile}
use Rattle.miner_command.specs.Playing.{RunsOn}

-- a store tells or doesn't
tells_or_not : {X : Type 0} (b : Bool) → (b ≡ true → X) → (b ≡ false → X) → X
tells_or_not true told silent = told refl
tells_or_not false told silent = silent refl

untold : {X : Type 0} (b : Bool) → b ≡ false → b ≡ true → X
untold b silent told = absurd cc

module _ (i : Number) (party : ℕ) (is_own : party ≡ count_of i) (file : TapeFile) (path : List ℕ) (f : FilesState) (s : TapesState)
    (opened : OpensOne party file.words file.size f path s)
    (whole : f.told ≡ true → IsSomeAnd (file_in f path) (λ bytes. length bytes ≡ file.size)) where
  opens : OpensOne (count_of i) file.words file.size f path s
  opens = subst (λ n. OpensOne n file.words file.size f path s) is_own opened

  -- where the store tells, the source does, and its words are those in the file
  told_in : f.told ≡ true → (o : Option (List ℕ)) → file_in f path ≡ o → IsSomeAnd o (λ bytes. length bytes ≡ file.size)
      → (s.told ≡ true) × (s.words (count_of i) ≡ words_in o 8 file.words)
  told_in told None at h = absurd h
  told_in told (Some bytes) at h = opens.told told bytes at h

  source_tells : f.told ≡ true → (s.told ≡ true) × (s.words (count_of i) ≡ words_in (file_in f path) 8 file.words)
  source_tells told = told_in told (file_in f path) refl (whole told)

  module _ (own : (tape : List ℕ) → Own) (port : ℕ) (f' : FilesState) (a c : LinksState) (t : TapesState) (result : Result NodeText ServeErr)
      (under : s.under ≡ f) (under' : t.under ≡ f') (h : RunsFrom i own a c s t port result) where
    fault_so : IsErrOf result TapeFault → TapeFaulted f f'
    fault_so is =
        let fault = h.fault is in
        record {
          rose = subst (λ x. Rose x.faults f'.faults) under (subst (λ x. Rose s.under.faults x.faults) under' fault.rose);
          unsteady = λ told st. fault.unsteady (opens.steady st (source_tells told).0);
        }

    pub runs_on : RunsOn i own file path f f' a c port result
    runs_on = tells_or_not f.told by_words by_any
      where
        by_words : f.told ≡ true → RunsOn i own file path f f' a c port result
        by_words told =
            let there = source_tells told in
            record {
              tape = s.words (count_of i);
              there = λ t. there.1;
              runs = h.runs (s.words (count_of i)) (told_tape s t (count_of i) h.taken there.0 h.drew);
              joins = h.joins (s.words (count_of i)) (told_tape s t (count_of i) h.taken there.0 h.drew);
              fault = fault_so;
            }

        by_any : f.told ≡ false → RunsOn i own file path f f' a c port result
        by_any silent =
            let one = some_tape h.taken (left_for i t) in
            record { tape = one.0; there = λ told. untold f.told silent told; runs = h.runs one.0 one.1; joins = h.joins one.0 one.1; fault = fault_so }

    pub files_so : OnlyRead f f'
    files_so = subst (λ x. OnlyRead x f') under (subst (λ x. OnlyRead s.under x) under' h.drew.stands.read)
