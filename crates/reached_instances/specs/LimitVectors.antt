-- Sizes and what they come to, worked out by hand.
use Rattle.std.specs.Prelude.{◌≡◌, [], ◌∷◌, ◌++◌, replicate, Some, None, refl}
use Rattle.reached_instances.specs.declared.limit_err.LimitErr.TheVariants.{TooManyInstances, ProgramTooLarge, FunctionTooLarge}
use Rattle.reached_instances.specs.Limits.{refusal_for}

-- each at its limit
all_at_their_limits : refusal_for 1024 (replicate 16 4095 ++ 15 ∷ []) ≡ None
all_at_their_limits = refl

one_instance_more : refusal_for 1025 (2 ∷ []) ≡ Some (TooManyInstances 1025)
one_instance_more = refl

one_node_more : refusal_for 0 (replicate 16 4095 ++ 16 ∷ []) ≡ Some (ProgramTooLarge 65536)
one_node_more = refl

one_node_more_in_a_function : refusal_for 0 (2 ∷ 4096 ∷ []) ≡ Some (FunctionTooLarge 4096)
one_node_more_in_a_function = refl

-- the first in the order, not the largest
first_of_two_functions : refusal_for 1024 (2 ∷ 4096 ∷ 9000 ∷ []) ≡ Some (FunctionTooLarge 4096)
first_of_two_functions = refl

-- the instances go before the program's size, and this before a function's
all_three : refusal_for 1025 (70000 ∷ []) ≡ Some (TooManyInstances 1025)
all_three = refl

program_before_function : refusal_for 1024 (70000 ∷ []) ≡ Some (ProgramTooLarge 70000)
program_before_function = refl

no_instance : refusal_for 0 [] ≡ None
no_instance = refl

-- more than 64 bits
largest_number : refusal_for 0 (18446744073709551615 ∷ 1 ∷ []) ≡ Some (ProgramTooLarge 18446744073709551615)
largest_number = refl
