-- The children that a spawner knows after its calls.
use Rattle.std.proofs.Common.{◌≡◌, ℕ, List, [], ◌∷◌, ◌++◌, true, refl, ap}
use Rattle.std.proofs.lemmas.List.Elements.{Contains-append_left, Contains-push}
use Rattle.outside.specs.Spawner.{ChildCall, SpawnerState, started, awaited, given_in, words_in, Called, IsKnown}
use Rattle.outside.proofs.Given.{given_in-append}

pub words_in-append : (xs ys : List ChildCall) → words_in (xs ++ ys) ≡ words_in xs ++ words_in ys
words_in-append [] ys = refl
words_in-append (started words child ∷ xs) ys = ap (λ (ws : List (List (List ℕ))). words ∷ ws) (words_in-append xs ys)
words_in-append (awaited child ∷ xs) ys = words_in-append xs ys

-- a child that was started is known
pub known_started : {old new : SpawnerState} {words : List (List ℕ)} {child : ℕ} → Called old new (started words child) → old.told ≡ true → IsKnown new child
known_started {old} {new} {words} {child} called t =
    rw (called.calls t, given_in-append) (Contains-push (given_in old.calls) child)

-- a child that is known stays so
pub known_stays : {old new : SpawnerState} {call : ChildCall} → Called old new call → old.told ≡ true → (child : ℕ) → IsKnown old child → IsKnown new child
known_stays {old} {new} {call} called t child known =
    rw (called.calls t, given_in-append) (Contains-append_left (given_in old.calls) (given_in (call ∷ [])) child known)
