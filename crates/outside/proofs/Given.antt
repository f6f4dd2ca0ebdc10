-- The numbers of the children that were started.
use Rattle.std.proofs.Common.{◌≡◌, ◌<◌, ◌+◌, ◌-◌, ◌^◌, ◌==◌, ◌||◌, ℕ, min, List, [], ◌∷◌, ◌++◌, length, Bool}
use Rattle.std.proofs.Common.{true, false, Contains, inl, inr, refl, sym, ap, subst, if◌then◌else◌, ◌∙◌, zero, suc, length-append, arith}
use Rattle.std.specs.List.{list_any}
use Rattle.std.proofs.lemmas.Grind.{flat_map-append}
use Rattle.std.proofs.lemmas.List.{append-nil, map-append}
use Rattle.std.proofs.lemmas.List.Elements.{Contains-append_right, Contains-push_cases}
use Rattle.std.proofs.lemmas.Bool.Decides.{nat_tests}
use Rattle.outside.specs.Spawner.{ChildCall, started, awaited, given_in}
use Rattle.outside.specs.SpawnCall.{call_of, calls_of, held_by, held_of, starts_child}
use Rattle.outside.specs.declared.held_files.HeldFiles.{HeldFiles}
use Rattle.outside.specs.declared.spawn_call.SpawnCall.{SpawnCall}
use Rattle.outside.specs.declared.spawn_call.SpawnCall.TheVariants.{Started, Awaited}

pub given_in-append : (xs ys : List ChildCall) → given_in (xs ++ ys) ≡ given_in xs ++ given_in ys
given_in-append [] ys = refl
given_in-append (started words child ∷ xs) ys = ap (λ (ns : List ℕ). child ∷ ns) (given_in-append xs ys)
given_in-append (awaited child ∷ xs) ys = given_in-append xs ys

-- what the store held as more children were started
pub held_of_append : (xs ys : List SpawnCall) → held_of (xs ++ ys) ≡ held_of xs ++ held_of ys
held_of_append xs ys = flat_map-append held_by xs ys

-- one more call before the others
known_more : (b : Bool) (number child : ℕ) (rest : Bool) (ns : List ℕ) → (number == child) ≡ b → (b || rest) ≡ true
    → (rest ≡ true → Contains ns child) → Contains (number ∷ ns) child
known_more true number child rest ns is e later = (0, omega arith, grind (arith, nat_tests))
known_more false number child rest ns is e later = Contains-append_right (number ∷ []) ns child (later e)

unknown_more : (b : Bool) (number child : ℕ) (rest : Bool) (ns : List ℕ) → (number == child) ≡ b → (b || rest) ≡ false
    → (rest ≡ false → ¬ Contains ns child) → ¬ Contains (number ∷ ns) child
unknown_more true number child rest ns is e later h = absurd (cc)
unknown_more false number child rest ns is e later (zero, lt, same) = absurd (grind (arith, nat_tests))
unknown_more false number child rest ns is e later (suc k, lt, same) = later e (k, omega arith, same)

pub known_from_any : (calls : List SpawnCall) (child : ℕ) → list_any (λ call. starts_child (call_of call) child) calls ≡ true
    → Contains (given_in (calls_of calls)) child
known_from_any [] child e = absurd (cc)
known_from_any (Started words number held ∷ calls) child e =
    known_more (number == child) number child _ (given_in (calls_of calls)) refl e (known_from_any calls child)
known_from_any (Awaited number ∷ calls) child e = known_from_any calls child e

pub unknown_from_any : (calls : List SpawnCall) (child : ℕ) → list_any (λ call. starts_child (call_of call) child) calls ≡ false
    → ¬ Contains (given_in (calls_of calls)) child
unknown_from_any [] child e (k, lt, same) = absurd (omega arith)
unknown_from_any (Started words number held ∷ calls) child e h =
    unknown_more (number == child) number child _ (given_in (calls_of calls)) refl e (unknown_from_any calls child) h
unknown_from_any (Awaited number ∷ calls) child e h = unknown_from_any calls child e h

-- after one more child was started
pub given_more : (calls after : List SpawnCall) (words : _) (child : ℕ) (held : HeldFiles) → after ≡ calls ++ Started words child held ∷ []
    → given_in (calls_of after) ≡ given_in (calls_of calls) ++ child ∷ []
given_more calls after words child held e = rw (e, map-append) (given_in-append (calls_of calls) _)

-- after one more child was waited for, or there was no memory for it
pub given_kept : (b : Bool) (calls after : List SpawnCall) (child : ℕ) → after ≡ (if b then calls ++ Awaited child ∷ [] else calls)
    → given_in (calls_of after) ≡ given_in (calls_of calls)
given_kept true calls after child e = rw (e, map-append) (given_in-append (calls_of calls) _ ∙ append-nil _)
given_kept false calls after child e = rw e refl

pub counted_kept : (ns more : List ℕ) (next : ℕ) → more ≡ ns → next ≡ min (length ns) (2 ^ 32 - 1) → next ≡ min (length more) (2 ^ 32 - 1)
counted_kept ns more next e counted = rw e counted

pub below_kept : (ns more : List ℕ) → more ≡ ns → ((n : ℕ) → Contains ns n → n < length ns) → (n : ℕ) → Contains more n → n < length more
below_kept ns more e below = subst (λ (ms : List ℕ). (n : ℕ) → Contains ms n → n < length ms) (sym e) below

pub counted_more : (ns more : List ℕ) (next : ℕ) → more ≡ ns ++ next ∷ [] → next ≡ min (length ns) (2 ^ 32 - 1)
    → min (next + 1) (2 ^ 32 - 1) ≡ min (length more) (2 ^ 32 - 1)
counted_more ns more next e counted = rw (e, length-append) (omega arith)

pub below_more : (ns more : List ℕ) (next : ℕ) → more ≡ ns ++ next ∷ [] → next ≡ min (length ns) (2 ^ 32 - 1)
    → ((n : ℕ) → Contains ns n → n < length ns) → (n : ℕ) → Contains more n → n < length more
below_more ns more next e counted below n h =
    let size : length more ≡ length ns + 1 = rw (e, length-append) (omega arith) in
    elim (Contains-push_cases ns next n (subst (λ (m : List ℕ). Contains m n) e h)) as (λ _. n < length more) [
      | inl old ↦ let lt : n < length ns = below n old in omega arith
      | inr same ↦ omega arith
    ]

pub fresh_next : (ns : List ℕ) (next : ℕ) → next ≡ min (length ns) (2 ^ 32 - 1) → ((n : ℕ) → Contains ns n → n < length ns) → length ns < 2 ^ 32
    → ¬ Contains ns next
fresh_next ns next counted below room h =
    let lt : next < length ns = below next h in
    absurd (omega arith)
