-- Files that are read one after another.
use Rattle.std.proofs.Common.{◌≡◌, ℕ, List, true, refl, sym, ◌∙◌, ap, subst, arith}
use Rattle.std.specs.Prelude.{Option, Some, Result, Ok, Err, Vec}
use Rattle.std.specs.declared.alloc.Global.{Global}
use Rattle.outside.specs.declared.error.FileErr.{FileErr}
use Rattle.outside.specs.declared.error.FileErr.TheVariants as file_err
use Rattle.outside.specs.Causes.{HasCause, IsSteady}
use Rattle.outside.specs.Files.{FilesState, Contents, SameFiles, IsMissing, file_at}
use Rattle.proto_core.specs.declared.party.Number.{Number}
use Rattle.proto_core.specs.declared.party.Number.TheVariants.{One, Two, Three}
use Rattle.proto_core.specs.Parties.{of_three}
use Rattle.miner_text.specs.Reading.{read_of}
use Rattle.miner_text.specs.declared.line.MinerLine.{MinerLine}
use Rattle.trio.specs.Joining.{Joined, joined_of}
use Rattle.trio.specs.Answers.{IsJoin, named, text_in, and_then, or_difference, join_third, join_second, join_of, without}
use Rattle.trio.specs.Answers.{Passed, FileFailed, TextRead, found_in, TextsRead}
use Rattle.trio.specs.declared.join_err.JoinErr.{JoinErr}
use Rattle.trio.specs.declared.join_err.JoinErr.TheVariants as join_err

-- ---- one call

module _ {A : Type 0} (old new : FilesState) (path : List ℕ) where
  -- what a store promises of a file that is read
  pub record Kept (r : Result A FileErr) : Type 0 where
    pub same : SameFiles old new
    pub cause : HasCause old.faults new.faults r
    pub steady : old.steady ≡ true → IsSteady old.faults new.faults r (IsMissing old path)
    pub still : old.steady ≡ true → new.steady ≡ true

  pub passed_ok : (r : Result A FileErr) (x : A) → r ≡ Ok x → Kept r → Passed old new
  passed_ok (Ok y) x e k = record { kept = k.same; later = k.cause.later; quiet = λ s. (k.steady s).ok; still = k.still }
  passed_ok (Err err) x e k = absurd (let is : Err err ≡ Ok x = e in cc)

  pub passed_memory : (r : Result A FileErr) → r ≡ Err file_err.Memory → Kept r → Passed old new
  passed_memory r e k = record { kept = k.same; later = k.cause.later; quiet = λ s. (k.steady s).memory e; still = k.still }

  pub failed : (r : Result A FileErr) → r ≡ Err file_err.Failed → Kept r → FileFailed old new path
  failed r e k =
      record { kept = k.same; later = k.cause.later; rose = k.cause.failed e; missing = λ s. (k.steady s).failed e; still = k.still }

pub passed_none : (s : FilesState) → Passed s s
passed_none s = record { kept = record { told = refl; contents = refl }; later = omega arith; quiet = λ h. refl; still = λ h. h }

pub text_good : (i : Number) (found : Option (List ℕ)) (bytes : List ℕ) (ls : List MinerLine) → found ≡ Some bytes → read_of bytes ≡ Ok ls →
    text_in i found ≡ Ok ls
text_good i found bytes ls e h = ap (text_in i) e ∙ ap (named i) h

pub text_bad : (i : Number) (found : Option (List ℕ)) (bytes : List ℕ) (line : ℕ) → found ≡ Some bytes → read_of bytes ≡ Err line →
    text_in i found ≡ Err (join_err.BadText i line)
text_bad i found bytes line e h = ap (text_in i) e ∙ ap (named i) h

-- ---- one after another

passed_more : {a b c : FilesState} → Passed a b → Passed b c → Passed a c
passed_more {a} {b} {c} p q =
    record {
      kept = record { told = q.kept.told ∙ p.kept.told; contents = q.kept.contents ∙ p.kept.contents };
      later = let l = p.later in let m = q.later in omega arith;
      quiet = λ s. q.quiet (p.still s) ∙ p.quiet s;
      still = λ s. q.still (p.still s);
    }

same_file : {a b : FilesState} → Passed a b → (path : List ℕ) → file_at b.contents path ≡ file_at a.contents path
same_file p path = ap (λ (c : Contents). file_at c path) p.kept.contents

failed_more : {a b c : FilesState} {path : List ℕ} → Passed a b → FileFailed b c path → FileFailed a c path
failed_more {a} {b} {c} {path} p q =
    record {
      kept = record { told = q.kept.told ∙ p.kept.told; contents = q.kept.contents ∙ p.kept.contents };
      later = let l = p.later in let m = q.later in omega arith;
      rose = let l = p.later in let r = q.rose in omega arith;
      missing = λ s t. sym (same_file p path) ∙ q.missing (p.still s) (p.kept.told ∙ t);
      still = λ s. q.still (p.still s);
    }

-- what one text is, said of the files as they were at first
seen_first : {a b : FilesState} (path : List ℕ) (i : Number) (r : Result (List MinerLine) JoinErr) → Passed a b →
    (b.told ≡ true → text_in i (file_at b.contents path) ≡ r) → a.told ≡ true → text_in i (file_at a.contents path) ≡ r
seen_first path i r p h t = ap (text_in i) (sym (same_file p path)) ∙ h (p.kept.told ∙ t)

module _ (path : Number → List ℕ) where
  pub first_wrong : (a b : FilesState) (e : JoinErr) → TextRead a b (path One) One (Err e) → TextsRead a b path (Err e)
  first_wrong a b (join_err.File j) h = subst (λ k. TextsRead a b path (Err (join_err.File k))) (sym h.1) (h.0, λ t. refl)
  first_wrong a b (join_err.BadText j line) h = (h.0, λ t. ap (λ r. and_then r (join_second (found_in a path))) (h.1 t))
  first_wrong a b (join_err.Disagree d) h = absurd h
  first_wrong a b join_err.Memory h = h

  module _ (a b : FilesState) (one : Vec MinerLine Global) (p : TextRead a b (path One) One (Ok one)) where
    from_second : (found : Number → Option (List ℕ)) → text_in One (found One) ≡ Ok one.items → join_of found ≡ join_second found one.items
    from_second found h = ap (λ r. and_then r (join_second found)) h

    pub second_wrong : (c : FilesState) (e : JoinErr) → TextRead b c (path Two) Two (Err e) → TextsRead a c path (Err e)
    second_wrong c (join_err.File j) h =
        subst (λ k. TextsRead a c path (Err (join_err.File k))) (sym h.1)
        (failed_more p.0 h.0, λ t. from_second (without Two (found_in a path)) (p.1 t))
    second_wrong c (join_err.BadText j line) h = (
      passed_more p.0 h.0,
      λ t. from_second (found_in a path) (p.1 t)
          ∙ ap (λ r. and_then r (join_third (found_in a path) one.items)) (seen_first (path Two) Two (Err (join_err.BadText j line)) p.0 h.1 t),
    )
    second_wrong c (join_err.Disagree d) h = absurd h
    second_wrong c join_err.Memory h = passed_more p.0 h

    module _ (c : FilesState) (two : Vec MinerLine Global) (q : TextRead b c (path Two) Two (Ok two)) where
      from_third : (found : Number → Option (List ℕ)) → text_in One (found One) ≡ Ok one.items → text_in Two (found Two) ≡ Ok two.items →
          join_of found ≡ join_third found one.items two.items
      from_third found h g = from_second found h ∙ ap (λ r. and_then r (join_third found one.items)) g

      pub third_wrong : (d : FilesState) (e : JoinErr) → TextRead c d (path Three) Three (Err e) → TextsRead a d path (Err e)
      third_wrong d (join_err.File j) h =
          subst (λ k. TextsRead a d path (Err (join_err.File k))) (sym h.1) (
            failed_more (passed_more p.0 q.0) h.0,
            λ t. from_third (without Three (found_in a path)) (p.1 t) (seen_first (path Two) Two (Ok two.items) p.0 q.1 t),
          )
      third_wrong d (join_err.BadText j line) h = (
        passed_more p.0 (passed_more q.0 h.0),
        λ t. from_third (found_in a path) (p.1 t) (seen_first (path Two) Two (Ok two.items) p.0 q.1 t)
            ∙ ap (λ r. and_then r (λ three. or_difference (joined_of one.items two.items three)))
            (seen_first (path Three) Three (Err (join_err.BadText j line)) (passed_more p.0 q.0) h.1 t),
      )
      third_wrong d (join_err.Disagree difference) h = absurd h
      third_wrong d join_err.Memory h = passed_more p.0 (passed_more q.0 h)

      module _ (d : FilesState) (three : Vec MinerLine Global) (s : TextRead c d (path Three) Three (Ok three)) where
        all_passed : Passed a d
        all_passed = passed_more p.0 (passed_more q.0 s.0)

        joined_here : a.told ≡ true → join_of (found_in a path) ≡ or_difference (joined_of one.items two.items three.items)
        joined_here t =
            from_third (found_in a path) (p.1 t) (seen_first (path Two) Two (Ok two.items) p.0 q.1 t)
            ∙ ap (λ r. and_then r (λ ls. or_difference (joined_of one.items two.items ls)))
            (seen_first (path Three) Three (Ok three.items) (passed_more p.0 q.0) s.1 t)

        pub all_read : (r : Result Joined JoinErr) → IsJoin (joined_of one.items two.items three.items) r → TextsRead a d path r
        all_read (Ok joined) h = (all_passed, λ t. joined_here t ∙ ap or_difference h)
        all_read (Err (join_err.Disagree difference)) h = (all_passed, λ t. joined_here t ∙ ap or_difference h)
        all_read (Err join_err.Memory) h = all_passed
        all_read (Err (join_err.File i)) h = absurd h
        all_read (Err (join_err.BadText i line)) h = absurd h

-- ---- the paths of three miners

pub by_three : (old new : FilesState) (path : Number → List ℕ) (r : Result Joined JoinErr) → TextsRead old new (of_three (path One) (path Two) (path Three)) r →
    TextsRead old new path r
by_three old new path (Ok joined) h = h
by_three old new path (Err (join_err.File One)) h = h
by_three old new path (Err (join_err.File Two)) h = h
by_three old new path (Err (join_err.File Three)) h = h
by_three old new path (Err (join_err.BadText i line)) h = h
by_three old new path (Err (join_err.Disagree d)) h = h
by_three old new path (Err join_err.Memory) h = h
