-- Code for which all that the law asks is there: a private input is opened; and it is published, once as a private value and once as
-- the opened one.
use Rattle.std.proofs.Common.{◌≡◌, ℕ, zero, suc, ◌+◌, ◌<◌, ◌^◌, List, [], ◌∷◌, length, Some, None, true, false, refl, sym, ap, subst, arith, inl, inr}
use Rattle.std.specs.Prelude.{slice_get}
use Rattle.std.proofs.lemmas.Option.{none-some, same_Some}
use Rattle.program_trees.specs.declared.expression.DataType.TheVariants.{Uint64}
use Rattle.proto_core.specs.declared.party.Number.{Number}
use Rattle.proto_core.specs.declared.party.Number.TheVariants.{One, Two, Three}
use Rattle.proto_core.specs.Lists.{AreWords}
use Rattle.protocol_model.specs.Runs.{Tapes}
use Rattle.protocol_model.proofs.Sizes.{past_end}
use Rattle.shared_gates.specs.Model.{miner_of}
use Rattle.language_model.specs.Effects.{Clear, words_each}
use Rattle.language_model.specs.Reports.{Offered, world_of}
use Rattle.verified_code.specs.Steps.{Step, Argument, Declassify, Publish, Jump, ReturnNone, Function}
use Rattle.code_model.specs.Meaning.{mean, IsForward}
use Rattle.code_model.specs.Kinded.{StepFits, IsFitting, IsSingle, AreSingle, is_return, public_scalar}
use Rattle.gate_laws.specs.Dealt.{drawn_by}
use Rattle.gate_laws.specs.Machines.{StepTakes}
use Rattle.gate_laws.specs.Laws.{MayRun}
use Rattle.gate_laws.proofs.Ranges.{one_below}
use Rattle.gate_laws.proofs.Samples.{hidden_number, of_place, input, dealt, is_dealing}
use Rattle.code_runs.specs.Runs.{RunAsReported}
use Rattle.code_runs.specs.Laws.{MayRunShared}
use Rattle.code_runs.proofs.Miners.{miners_run_the_code}

main_steps : List Step
main_steps = Argument 1 hidden_number (120 ∷ []) 0 ∷ Declassify 1 0 ∷ Publish (121 ∷ []) 0 ∷ Publish (122 ∷ []) 1 ∷ ReturnNone ∷ []

main_function : Function
main_function = record { parameters = 0; gives = None; kinds = hidden_number ∷ public_scalar Uint64 ∷ []; steps = main_steps }

code : List Function
code = main_function ∷ []

-- ---- the code

at_main : (P : Function → Type 0) → P main_function → (g : ℕ) (f : Function) → slice_get code g ≡ Some f → P f
unfolding code
at_main P h zero f e = subst P (same_Some _ _ e) h
at_main P h (suc g) f e = absurd (none-some _ e)

main_fits : IsFitting code main_function
unfolding main_function main_steps hidden_number
main_fits =
    record {
      some = omega arith;
      fits = of_place (StepFits code main_function) main_steps (refl, ((hidden_number, refl, refl), (tt, (tt, (refl, tt)))));
      goes_on = goes;
    }
  where
    goes : (place : ℕ) (i : Step) → slice_get main_steps place ≡ Some i → is_return i ≡ false → place + 1 < length main_steps
    goes zero i e h = omega arith
    goes (suc zero) i e h = omega arith
    goes (suc (suc zero)) i e h = omega arith
    goes (suc (suc (suc zero))) i e h = omega arith
    goes (suc (suc (suc (suc zero)))) i e h = absurd (ends (ap is_return (same_Some _ _ e)) h)
      where
        ends : true ≡ is_return i → is_return i ≡ false → ⊥
        ends a b = cc
    goes (suc (suc (suc (suc (suc place))))) i e h = absurd (none-some _ e)

main_takes : (place : ℕ) (i : Step) → slice_get main_function.steps place ≡ Some i → StepTakes main_function.kinds i
unfolding main_function main_steps hidden_number
main_takes = of_place (StepTakes main_function.kinds) main_steps (tt, (tt, (tt, (tt, (tt, tt)))))

-- there is no jump
abbrev NoJump : Step → Type 0
NoJump i = (target : ℕ) → i ≡ Jump target → ⊥

main_forward : IsForward main_function.steps
unfolding main_function main_steps hidden_number
main_forward pc target e =
    absurd (of_place NoJump main_steps (λ t e. cc, (λ t e. cc, (λ t e. cc, (λ t e. cc, (λ t e. cc, tt))))) pc (Jump target) e target refl)

-- ---- what is dealt: 5, of which the first miner has all

offer : Offered
offer = record { dealer = 2; lengths = words_each 2; inputs = input ∷ [] }

code_may_run : MayRun (world_of Clear offer) dealt code
unfolding offer input dealt
code_may_run =
    record {
      fitting = λ f x. at_main (IsFitting code) main_fits x.0 f x.1;
      taking = λ f x. at_main (λ f. (place : ℕ) (i : Step) → slice_get f.steps place ≡ Some i → StepTakes f.kinds i) main_takes x.0 f x.1;
      singles = single;
      offered = (
        record {
          range = one_below (2 ^ 64) 5 (omega arith);
          small = omega arith;
          dealt = λ e. record { there = omega arith; words = refl; kind = refl };
        },
        tt,
      );
    }
  where
    single : AreSingle (input ∷ [])
    single x (inl e) = subst IsSingle (sym e) (λ a. refl)
    single x (inr e) = absurd e

-- ---- tapes of two words

tapes : Tapes
tapes i = 7 ∷ 9 ∷ []

may_run : MayRunShared offer dealt code tapes
unfolding offer input tapes code
may_run =
    record {
      code = code_may_run;
      main = main_function;
      first = refl;
      forward = λ g f e. at_main (λ f. IsForward f.steps) main_forward g f e;
      dealt = is_dealing;
      dealer = refl;
      words = λ i. words;
      long = long;
    }
  where
    words : AreWords (7 ∷ 9 ∷ [])
    words zero = omega arith
    words (suc zero) = omega arith
    words (suc (suc k)) = past_end k

    long : (i : Number) → 2 ≡ drawn_by (words_each 2) (miner_of i)
    long One = refl
    long Two = refl
    long Three = refl

-- so three miners run it, with each budget
sample : (budget : ℕ) → RunAsReported offer dealt code budget tapes (mean code offer budget)
sample budget = miners_run_the_code offer dealt code budget tapes may_run
