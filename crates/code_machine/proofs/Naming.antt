-- What a machine names is among the numbers that were found in it.
use Rattle.std.proofs.Common.{◌≡◌, ℕ, zero, suc, ◌⊎◌, inl, inr, Bool, true, false, List, [], ◌∷◌, ◌++◌, refl, subst}
use Rattle.std.specs.Prelude.{◌||◌, not, map, get_or, nat_eq, IsTrue, Some, None}
use Rattle.std.proofs.lemmas.Bool.{eq-eqb}
use mathlib.Core.List.{reverse-cons}
use Rattle.bytecode.specs.Raw.{RawCode}
use Rattle.language_model.specs.Values.{Private}
use Rattle.language_model.specs.Evaluation.{nothing}
use Rattle.named_values.specs.Machine.{Caller}
use Rattle.named_values.specs.Named.{FrameNames, CallersName, MachineNames}
use Rattle.value_steps.specs.declared.value.Secrecy as kept
use Rattle.value_steps.specs.declared.value.Secrecy.TheVariants as secrecy
use Rattle.value_steps.specs.declared.value.Value as held
use Rattle.value_steps.specs.Views.{secrecy_seen, value_seen}
use Rattle.code_machine.specs.declared.machine.Caller as waiting
use Rattle.code_machine.specs.declared.machine.Machine as running
use Rattle.code_machine.specs.Named.{is_kept, is_of, is_in, is_in_any}
use Rattle.code_machine.specs.Views.{registers_seen, caller_seen, callers_seen, machine_seen}

first_or : (a b : Bool) → IsTrue a → IsTrue (a || b)
first_or true b h = h
first_or false b h = absurd cc

second_or : (a b : Bool) → IsTrue b → IsTrue (a || b)
second_or true b h = refl
second_or false b h = h

module _ (k : ℕ) where
  kept_is : (s : kept.Secrecy) → secrecy_seen s ≡ Private (Some k) → IsTrue (is_kept s k)
  kept_is secrecy.Plain e = absurd cc
  kept_is (secrecy.Private None) e = absurd cc
  kept_is (secrecy.Private (Some n)) e = let same : n ≡ k = cc in subst (λ m. IsTrue (nat_eq n m)) same (eq-eqb n n refl)

  at_register : (vs : List held.Value) (r : ℕ) → (get_or (map value_seen vs) r nothing).secrecy ≡ Private (Some k) → IsTrue (is_in vs k)
  at_register [] r e = absurd cc
  at_register (v ∷ vs) zero e = first_or (is_of v k) (is_in vs k) (kept_is v.secrecy e)
  at_register (v ∷ vs) (suc r) e = second_or (is_of v k) (is_in vs k) (at_register vs r e)

  registers_name : (vs : List held.Value) → FrameNames (registers_seen vs) k → IsTrue (is_in vs k)
  unfolding registers_seen
  registers_name vs h = at_register vs h.0 h.1

  -- ---- callers

  one_of_two : (cs ds : List Caller) → CallersName (cs ++ ds) k → CallersName ds k ⊎ CallersName cs k
  one_of_two [] ds h = inl h
  one_of_two (c ∷ cs) ds (inl h) = inr (inl h)
  one_of_two (c ∷ cs) ds (inr h) = behind (one_of_two cs ds h)
    where
      behind : CallersName ds k ⊎ CallersName cs k → CallersName ds k ⊎ CallersName (c ∷ cs) k
      behind (inl b) = inl b
      behind (inr b) = inr (inr b)

  callers_name : (code : RawCode) (cs : List waiting.Caller) → CallersName (callers_seen code cs) k → IsTrue (is_in_any cs k)
  callers_name code [] h = absurd h
  callers_name code (c ∷ cs) h =
      by_place (callers_name code cs) (one_of_two (callers_seen code cs) (caller_seen code c ∷ [])
      (subst (λ l. CallersName l k) (reverse-cons (caller_seen code c) (map (caller_seen code) cs)) h))
    where
      by_place : (CallersName (callers_seen code cs) k → IsTrue (is_in_any cs k)) →
          CallersName (caller_seen code c ∷ []) k ⊎ CallersName (callers_seen code cs) k → IsTrue (is_in_any (c ∷ cs) k)
      by_place before (inl (inl b)) = first_or (is_in c.registers.items k) (is_in_any cs k) (registers_name c.registers.items b)
      by_place before (inl (inr b)) = absurd b
      by_place before (inr b) = second_or (is_in c.registers.items k) (is_in_any cs k) (before b)

  pub machine_names : (code : RawCode) (m : running.Machine) → MachineNames (machine_seen code m) k
      → IsTrue (is_in m.registers.items k || is_in_any m.callers.items k)
  machine_names code m (inl h) = first_or (is_in m.registers.items k) (is_in_any m.callers.items k) (registers_name m.registers.items h)
  machine_names code m (inr h) = second_or (is_in m.registers.items k) (is_in_any m.callers.items k) (callers_name code m.callers.items h)

-- where neither has a number, the machine doesn't name it
no_name : (own others : Bool) → own ≡ false → not others ≡ true → IsTrue (own || others) → ⊥
no_name true others e f h = absurd cc
no_name false true e f h = absurd cc
no_name false false e f h = absurd cc

pub names_none :
    (code : RawCode) (m : running.Machine) (k : ℕ) → is_in m.registers.items k ≡ false → not (is_in_any m.callers.items k) ≡ true →
    MachineNames (machine_seen code m) k → ⊥
names_none code m k own others names = no_name (is_in m.registers.items k) (is_in_any m.callers.items k) own others (machine_names k code m names)
