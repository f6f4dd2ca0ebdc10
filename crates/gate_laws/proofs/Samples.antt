-- Code for which all that the law asks is there: a private input is doubled, opened and published.
use Rattle.std.proofs.Common.{◌≡◌, ℕ, zero, suc, ◌+◌, ◌<◌, ◌^◌, List, [], ◌∷◌, length, Some, None, true, false, refl, sym, ap, subst, arith, inl, inr}
use Rattle.std.specs.Prelude.{slice_get}
use Rattle.std.proofs.lemmas.Option.{none-some, same_Some}
use Rattle.program_trees.specs.declared.expression.DataType.TheVariants.{Uint64}
use Rattle.proto_core.specs.Rings.{add_ring}
use Rattle.proto_core.specs.declared.party.Number.{Number}
use Rattle.proto_core.specs.declared.party.Number.TheVariants.{One, Two, Three}
use Rattle.proto_core.specs.Lists.{at, AreWords}
use Rattle.protocol_model.specs.Gates.{sizes_of}
use Rattle.gates.specs.declared.ring_kind.RingKind.TheVariants.{Arithmetic}
use Rattle.gates.specs.Clear.{Values}
use Rattle.shared_plans.specs.Shares.{AreShares, Shared, sum_of, share_at, AllHeld}
use Rattle.program_trees.specs.declared.operators.BinaryOperator.TheVariants.{Words}
use Rattle.program_trees.specs.declared.operators.OperatorSign.TheVariants as word
use Rattle.program_trees.specs.declared.operators.Operands.TheVariants.{Scalars}
use Rattle.program_trees.specs.Shapes.{shape_of}
use Rattle.language_model.specs.Effects.{World, GivenInput, Source, words_each}
use Rattle.bytecode.specs.declared.kind.Kind.{Kind}
use Rattle.verified_code.specs.Steps.{Step, Argument, Binary, Declassify, Publish, ReturnNone, Function}
use Rattle.code_model.specs.Meaning.{mean_in}
use Rattle.code_model.specs.Kinded.{StepFits, IsFitting, IsIn, IsSingle, AreSingle, is_return, public_scalar}
use Rattle.gate_laws.specs.Dealt.{Dealt}
use Rattle.gate_laws.specs.Machines.{StepTakes}
use Rattle.gate_laws.specs.Laws.{MayRun, IsDealing, GatesSuit}
use Rattle.gate_laws.proofs.Ranges.{one_below}
use Rattle.gate_laws.proofs.Walks.{make_suited_gates}

unfoldable pub hidden_number : Kind
hidden_number = record { secret = true; element = Uint64; array = false }

main_steps : List Step
main_steps = Argument 1 hidden_number (120 ∷ []) 0 ∷ Binary 2 (Words word.Add) Scalars 0 0 0 ∷ Declassify 1 0 ∷ Publish (121 ∷ []) 0 ∷ ReturnNone ∷ []

main_function : Function
main_function = record { parameters = 0; gives = None; kinds = hidden_number ∷ public_scalar Uint64 ∷ []; steps = main_steps }

code : List Function
code = main_function ∷ []

-- ---- the code

-- what holds of each step of a list holds of one at a place
abbrev pub AllOf : (Step → Type 0) → List Step → Type 0
AllOf P [] = Unit {0}
AllOf P (i ∷ is) = P i × AllOf P is

pub of_place : (P : Step → Type 0) (is : List Step) → AllOf P is → (place : ℕ) (i : Step) → slice_get is place ≡ Some i → P i
of_place P [] h place i e = absurd (none-some _ e)
of_place P (j ∷ is) h zero i e = subst P (same_Some _ _ e) h.0
of_place P (j ∷ is) h (suc place) i e = of_place P is h.1 place i e

is_main : (P : Function → Type 0) → P main_function → (f : Function) → IsIn code f → P f
unfolding code
is_main P h f x = go x.0 x.1
  where
    go : (g : ℕ) → slice_get (main_function ∷ []) g ≡ Some f → P f
    go zero e = subst P (same_Some _ _ e) h
    go (suc g) e = absurd (none-some _ e)

main_fits : IsFitting code main_function
unfolding main_function main_steps hidden_number
main_fits =
    record {
      some = omega arith;
      fits = of_place (StepFits code main_function) main_steps (
        refl,
        ((hidden_number, hidden_number, refl, refl, refl, refl, refl), ((hidden_number, refl, refl), (tt, (refl, tt)))),
      );
      goes_on = goes;
    }
  where
    goes : (place : ℕ) (i : Step) → slice_get main_steps place ≡ Some i → is_return i ≡ false → place + 1 < length main_steps
    goes zero i e h = omega arith
    goes (suc zero) i e h = omega arith
    goes (suc (suc zero)) i e h = omega arith
    goes (suc (suc (suc zero))) i e h = omega arith
    goes (suc (suc (suc (suc zero)))) i e h = absurd (ends (ap is_return (same_Some _ _ e)) h)
      where
        ends : true ≡ is_return i → is_return i ≡ false → ⊥
        ends a b = cc
    goes (suc (suc (suc (suc (suc place))))) i e h = absurd (none-some _ e)

main_takes : (place : ℕ) (i : Step) → slice_get main_function.steps place ≡ Some i → StepTakes main_function.kinds i
unfolding main_function main_steps hidden_number
main_takes =
    of_place (StepTakes main_function.kinds) main_steps (
      tt,
      ((hidden_number, hidden_number, refl, refl, refl, refl, refl, refl, refl), (tt, (tt, (tt, tt)))),
    )

-- ---- what is dealt: 5, of which the first miner has all

unfoldable pub input : GivenInput
input = record { text = 120 ∷ []; secret = true; shape = shape_of Uint64 false; words = 5 ∷ [] }

world : Source → World
world source = record { dealer = 2; lengths = words_each 2; source = source; inputs = input ∷ [] }

unfoldable pub shares : Number → Values
shares One = (5 ∷ []) ∷ []
shares Two = (0 ∷ []) ∷ []
shares Three = (0 ∷ []) ∷ []

unfoldable pub dealt : Dealt
dealt = record { inputs = (5 ∷ []) ∷ []; kinds = Shared Arithmetic ∷ []; shares = shares }

may_run : (source : Source) → MayRun (world source) dealt code
unfolding world input dealt
may_run source =
    record {
      fitting = is_main (IsFitting code) main_fits;
      taking = is_main (λ f. (place : ℕ) (i : Step) → slice_get f.steps place ≡ Some i → StepTakes f.kinds i) main_takes;
      singles = single;
      offered = (
        record {
          range = one_below (2 ^ 64) 5 (omega arith);
          small = omega arith;
          dealt = λ e. record { there = omega arith; words = refl; kind = refl };
        },
        tt,
      );
    }
  where
    single : AreSingle (input ∷ [])
    single x (inl e) = subst IsSingle (sym e) (λ a. refl)
    single x (inr e) = absurd e

first_shared : AreShares add_ring (5 ∷ []) (share_at shares 0)
unfolding shares
first_shared = record { sizes = sizes; words = words; sum = sums }
  where
    sizes : (i : Number) → length (share_at shares 0 i) ≡ 1
    sizes One = refl
    sizes Two = refl
    sizes Three = refl

    words : (i : Number) → AreWords (share_at shares 0 i)
    words One = one_below (2 ^ 64) 5 (omega arith)
    words Two = one_below (2 ^ 64) 0 (omega arith)
    words Three = one_below (2 ^ 64) 0 (omega arith)

    sums : (k : ℕ) → k < 1 → sum_of add_ring (at (share_at shares 0 One) k) (at (share_at shares 0 Two) k) (at (share_at shares 0 Three) k) ≡ at (5 ∷ []) k
    sums zero lt = refl
    sums (suc k) lt = absurd (omega (arith, lt))

pub is_dealing : IsDealing dealt
unfolding dealt shares
is_dealing = record { held = held; sized = sized }
  where
    held : AllHeld (Shared Arithmetic ∷ []) ((5 ∷ []) ∷ []) shares
    held zero lt = first_shared
    held (suc k) lt = absurd (omega (arith, lt))

    sized : (i : Number) → sizes_of (shares i) ≡ sizes_of ((5 ∷ []) ∷ [])
    sized One = refl
    sized Two = refl
    sized Three = refl

-- so its gates suit, in the clear and by answers
sample : (source : Source) (budget : ℕ) → GatesSuit (world source) dealt (mean_in (world source) code budget (10 ∷ []))
unfolding code
sample source budget = make_suited_gates (world source) dealt code budget (10 ∷ []) (may_run source) is_dealing main_function refl
    (one_below (2 ^ 64) 10 (omega arith))
