-- What the store held as children were started.
use Rattle.std.proofs.Common.{◌≡◌, ℕ, List, [], ◌∷◌, ◌++◌, true, refl, sym, ◌∙◌, ap, append_assoc, append-nil}
use Rattle.std.specs.Prelude.{Option, Result, Ok, Err, IfOk, OnOk, OnErr}
use Rattle.outside.specs.declared.error.SpawnErr.{SpawnErr}
use Rattle.outside.specs.Files.{Contents, FilesState}
use Rattle.outside.specs.Spawner.{SpawnerState, SameSpawner, HeldThen, Called, started}
use Rattle.trio.specs.Launches.{AreAll, StartedWith}

all_more : (store : Option Contents) (xs ys : List (Option Contents)) → AreAll store xs → AreAll store ys → AreAll store (xs ++ ys)
all_more store [] ys h k = k
all_more store (x ∷ xs) ys h k = (h.0, all_more store xs ys h.1 k)

module _ (f : FilesState) where
  pub started_none : (a b : SpawnerState) → b.told ≡ a.told → b.held ≡ a.held → StartedWith f a b
  started_none a b told same = record { told = told; held = λ t. ([], same ∙ sym (append-nil a.held), tt) }

  pub started_try :
      (a b : SpawnerState) (words : List (List ℕ)) (r : Result ℕ SpawnErr) → IfOk r (λ child. Called a b (started words child)) →
      OnErr r (SameSpawner a b) → OnOk r (HeldThen a b f) → OnErr r (b.held ≡ a.held) → StartedWith f a b
  started_try a b words (Ok child) called same held still = record { told = called.told; held = λ t. (_, held t, (refl, tt)) }
  started_try a b words (Err e) called same held still = started_none a b same.told still

  pub started_more : (a b c : SpawnerState) → StartedWith f a b → StartedWith f b c → StartedWith f a c
  started_more a b c one two =
      record {
        told = two.told ∙ one.told;
        held = λ t.
            let x = one.held t in
            let y = two.held (one.told ∙ t) in (
              x.0 ++ y.0,
              y.1 ∙ ap (λ v. v ++ y.0) x.1 ∙ append_assoc a.held x.0 y.0,
              all_more _ x.0 y.0 x.2 y.2,
            );
      }

  pub started_kept : (a b c : SpawnerState) → StartedWith f a b → c.told ≡ b.told → c.held ≡ b.held → StartedWith f a c
  started_kept a b c one told same = started_more a b c one (started_none b c told same)
