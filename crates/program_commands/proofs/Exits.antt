-- The path that a command names where it stops at a file that it reads, after it read those before it.
use Rattle.std.proofs.Common.{◌≡◌, ℕ, List, [], ◌∷◌, ◌++◌, zero, Ok, Err, Result, refl, subst, sym, ◌∙◌, Contains, arith}
use Rattle.std.specs.Result.{IsErrAnd}
use Rattle.command_frame.specs.declared.object.Object.TheVariants as objects
use Rattle.command_frame.specs.declared.plan.Plan.{Plan}
use Rattle.command_frame.specs.declared.stop.Stop.{Stop}
use Rattle.command_frame.specs.declared.stop.Stop.TheVariants as stops
use Rattle.command_frame.specs.Answer.{Cause}
use Rattle.command_frame.specs.Reads.{KeepsTo, StopNames}
use Rattle.command_frame.specs.Stops.{IsRefusalFor}
use Rattle.command_frame.proofs.Naming.{names_among, names_first, names_later}
use Rattle.command_words.specs.Ask.{Source, file, seeded}
use Rattle.program_commands.specs.Reading.{source_paths}

-- ---- where a path stands among those that are read

pub first_in : (p : List ℕ) (ps : List (List ℕ)) → Contains (p ∷ ps) p
first_in p ps = (zero, omega arith, refl)

pub second_in : (p q : List ℕ) (ps : List (List ℕ)) → Contains (p ∷ q ∷ ps) q
second_in p q ps = (1, omega arith, refl)

pub third_in : (p q r : List ℕ) (ps : List (List ℕ)) → Contains (p ∷ q ∷ r ∷ ps) r
third_in p q r ps = (2, omega arith, refl)

pub fourth_in : (p q r s : List ℕ) (ps : List (List ℕ)) → Contains (p ∷ q ∷ r ∷ s ∷ ps) s
fourth_in p q r s ps = (3, omega arith, refl)

pub fifth_in : (p q r s t : List ℕ) (ps : List (List ℕ)) → Contains (p ∷ q ∷ r ∷ s ∷ t ∷ ps) t
fifth_in p q r s t ps = (4, omega arith, refl)

-- ---- a stop that is handed on

pub stopped : (reads written : List (List ℕ)) (stop : Stop) (r : Result Plan Stop) → IsErrAnd r (λ given. given ≡ stop) → StopNames reads stop
    → KeepsTo reads written r
stopped reads written stop (Ok plan) is names = absurd is
stopped reads written stop (Err given) is names = subst (λ (s : Stop). StopNames reads s) (sym is) names

pub stopped_at : (reads written : List (List ℕ)) (path other : List ℕ) (stop : Stop) (r : Result Plan Stop) → IsErrAnd r (λ given. given ≡ stop)
    → StopNames (path ∷ []) stop → path ≡ other → Contains reads other → KeepsTo reads written r
stopped_at reads written path other stop r is names same among =
    stopped reads written stop r is (names_among other reads stop among (subst (λ (p : List ℕ). StopNames (p ∷ []) stop) same names))

-- want of memory, and a refusal, name no file
pub unnamed_memory : (paths : List (List ℕ)) (stop : Stop) → stop ≡ stops.Memory → StopNames paths stop
unnamed_memory paths stop memory = record {
  named = λ line is. let wrong : stops.Memory ≡ stops.Failed (objects.File line) = sym memory ∙ is in absurd cc;
}

pub unnamed_refusal : (paths : List (List ℕ)) (cause : Cause) (stop : Stop) → IsRefusalFor cause stop → StopNames paths stop
unnamed_refusal paths cause stops.Memory for = unnamed_memory paths stops.Memory refl
unnamed_refusal paths cause stops.Usage for = absurd for
unnamed_refusal paths cause (stops.Refused r) for = record { named = λ line is. absurd cc }
unnamed_refusal paths cause (stops.Breached b) for = absurd for
unnamed_refusal paths cause (stops.Failed object) for = absurd for

-- ---- tapes, whose paths hang on their source, and what is read after them

pub tapes_named : (source : Source) (ps : List (List ℕ)) (stop : Stop) → StopNames (source_paths source) stop → StopNames (source_paths source ++ ps) stop
tapes_named (file path) ps stop names = names_first path ps stop names
tapes_named (seeded seed words) ps stop names = record {
  named = λ line is. let (q, (k, lt, same), named) = names.named line is in absurd (omega (arith, lt));
}

pub named_behind : (source : Source) (ps : List (List ℕ)) (stop : Stop) → StopNames ps stop → StopNames (source_paths source ++ ps) stop
named_behind (file path) ps stop names = names_later path ps stop names
named_behind (seeded seed words) ps stop names = names
