-- The text of the workloads is that of an accepted program within the limits.
use Rattle.std.proofs.Common.{◌≡◌, ℕ, zero, suc, [], ◌∷◌, Some, refl, sym, ap, subst, lit≤}
use Rattle.std.specs.List.{slice_get}
use Rattle.std.proofs.lemmas.Option.{same_Some}
use Rattle.sc_text.specs.Lists.{Among}
use Rattle.program_trees.specs.Programs.{FunctionTree}
use Rattle.front_end.specs.Judgement.{IsProgramText}
use Rattle.domain_types.specs.declared.fault.TypeFault.{TypeFault}
use Rattle.domain_types.specs.Declarations.{declared_by, functions_of}
use Rattle.domain_types.specs.ExpressionTypes.{within, built_in_faults, built_in_result, call_faults, call_type, defined_faults, operator_faults, operator_type}
use Rattle.domain_types.specs.FunctionTypes.{function_faults}
use Rattle.domain_types.specs.ProgramTypes.{IsFault, declaring, inside, of_head}
use Rattle.domain_types.specs.Reached.{Call, Instance, Calls, IsChecked, plain, reached, function_calls}
use Rattle.reached_instances.specs.Reached.{begins}
use Rattle.reached_instances.specs.Limits.{IsWithinLimits}
use Rattle.workload.specs.Load.{load_program}
use Rattle.workload.specs.LoadTree.{load_tree, load_typed, main_tree}
use Rattle.workload.specs.Runnable.{IsRunnable}
use Rattle.workload.proofs.Tokens.{load_tokens, load_lexed}
use Rattle.workload.proofs.Spelled.{load_spelled}

-- ---- it has no fault

-- `main` is the only function
main_alone : (k : ℕ) (f : FunctionTree) → slice_get (functions_of load_tree.items) k ≡ Some f → (k ≡ 0) × (f ≡ main_tree)
main_alone zero f is = (refl, sym (same_Some main_tree f is))
main_alone (suc k) f is = absurd cc

abbrev main_instance : Instance
main_instance = record { function = 0; binding = [] }

no_call : (c : Call) → Calls load_tree main_instance c → ⊥
unfolding built_in_faults built_in_result call_faults call_type defined_faults operator_faults operator_type
no_call c calls =
    let alone = main_alone 0 calls.called_in calls.there in
    subst (λ f. Among c (function_calls (within (declared_by load_tree) f []) f)) alone.1 calls.calls

main_checked : (i : Instance) → IsChecked load_tree i → i ≡ main_instance
main_checked i (plain k f there without) = let alone = main_alone k f there in ap (λ n. record { function = n; binding = [] }) alone.0
main_checked i (reached j k ds checked calls) =
    absurd (no_call (record { function = k; binding = Some ds })
    (subst (λ x. Calls load_tree x (record { function = k; binding = Some ds })) (main_checked j checked) calls))

no_fault_inside : (f : FunctionTree) (g : TypeFault) → f ≡ main_tree → Among g (function_faults (within (declared_by load_tree) f []) f) → ⊥
unfolding built_in_faults built_in_result call_faults call_type defined_faults operator_faults operator_type
no_fault_inside f g is among = subst (λ x. Among g (function_faults (within (declared_by load_tree) x []) x)) is among

no_fault : (g : TypeFault) → IsFault load_tree g → ⊥
no_fault g (declaring h among) = among
no_fault g (inside i f h checked there among) =
    let is = main_checked i checked in
    let at : slice_get (functions_of load_tree.items) 0 ≡ Some f = subst (λ x. slice_get (functions_of load_tree.items) x.function ≡ Some f) is there in
    no_fault_inside f h (main_alone 0 f at).1 (subst (λ x. Among h (function_faults (within (declared_by load_tree) f x.binding) f)) is among)
no_fault g (of_head i c f h checked calls there among) = no_call c (subst (λ x. Calls load_tree x c) (main_checked i checked) calls)

load_accepted : IsProgramText load_program load_tree
load_accepted = record {
  spells = record { tokens = load_tokens; lexed = load_lexed; spelled = load_spelled; low = lit≤ tt };
  typed = record { faultless = no_fault };
}

-- ---- it is small

load_within : IsWithinLimits load_typed
unfolding load_typed
load_within = record {
  list = record { function = 0; binding = [] } ∷ [];
  reached = record { in_order = refl; reached = λ i among. begins i among };
  is = refl;
}

pub load_is_runnable : IsRunnable load_program load_typed
unfolding load_typed
load_is_runnable = record { tree = load_tree; accepted = load_accepted; typed = refl; within = load_within }
