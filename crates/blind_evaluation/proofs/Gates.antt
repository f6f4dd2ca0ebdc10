-- Gates are made alike.
use Rattle.std.proofs.Common.{ℕ, Bool, true, false, refl}
use Rattle.std.specs.Prelude.{replicate}
use Rattle.language_model.specs.Equality.{eq_plan}
use Rattle.language_model.specs.Compare.{less_plan}
use Rattle.language_model.specs.Signed.{signed_less_plan}
use Rattle.language_model.specs.Effects.{Effect}
use Rattle.program_trees.specs.declared.expression.DataType.{DataType}
use Rattle.program_trees.specs.declared.expression.DataType.TheVariants.{Uint64, Int64}
use Rattle.program_trees.specs.declared.expression.DataType.TheVariants as datatype
use Rattle.gates.specs.declared.gate.Gate.TheVariants.{Const, Add, Sub, Mul, Xor, And, Conv, Pack, Unpack}
use Rattle.program_trees.specs.declared.operators.OperatorSign.{OperatorSign}
use Rattle.program_trees.specs.declared.operators.OperatorSign.TheVariants as word
use Rattle.program_trees.specs.declared.operators.BoolOperator.{BoolOperator}
use Rattle.program_trees.specs.declared.operators.BoolOperator.TheVariants as truth
use Rattle.program_trees.specs.declared.operators.BinaryOperator.{BinaryOperator}
use Rattle.program_trees.specs.declared.operators.BinaryOperator.TheVariants.{Words, Ints, Bools}
use Rattle.program_trees.specs.declared.operators.Cast.{Cast}
use Rattle.language_model.specs.Values.{Value, gate_words}
use Rattle.language_model.specs.Operations.{number_of, repeated_gate, stretched, flip, zero_gates, equal_gates, less_gates, signed_less_gates, number_gates}
use Rattle.language_model.specs.Operations.{or_gates, operator_gates, truth_gates, conversion_gates, gates_between, cast_gates}
use Rattle.blind_evaluation.proofs.Alike.{Alike, Same, same_bind, alike_done, gate_alike, number_alike, planned_alike}
use Rattle.blind_evaluation.proofs.AlikeValues.{LikeValues, plains, unmade, made}

pub value_number_alike : {v v' : Value} → LikeValues v v' → Alike (Same {A = ℕ}) (number_of v) (number_of v')
value_number_alike (plains shape words) = gate_alike (Const (gate_words shape.element words))
value_number_alike (unmade shape words) = gate_alike (Const (gate_words shape.element words))
value_number_alike (made shape k words words' e) = alike_done refl

pub stretched_alike : (e : DataType) (scalar : Bool) (n u : ℕ) → Alike (Same {A = ℕ}) (stretched e scalar n u) (stretched e scalar n u)
stretched_alike e true n u = gate_alike (repeated_gate e u n)
stretched_alike e false n u = alike_done refl

pub flip_alike : (n u : ℕ) → Alike (Same {A = ℕ}) (flip n u) (flip n u)
flip_alike n u = same_bind (gate_alike (Const (gate_words datatype.Bool (replicate n 1)))) (λ ones. gate_alike (Xor u ones))

zero_alike : (d : ℕ) → Alike (Same {A = ℕ}) (zero_gates d) (zero_gates d)
zero_alike d = same_bind (planned_alike (λ first. eq_plan first d)) (λ z. gate_alike (Pack z))

equal_alike : (u v : ℕ) → Alike (Same {A = ℕ}) (equal_gates u v) (equal_gates u v)
equal_alike u v = same_bind (gate_alike (Sub u v)) zero_alike

less_alike : (n u v : ℕ) → Alike (Same {A = ℕ}) (less_gates n u v) (less_gates n u v)
less_alike n u v = same_bind (planned_alike (λ first. less_plan first u v n)) (λ z. gate_alike (Pack z))

signed_less_alike : (n u v : ℕ) → Alike (Same {A = ℕ}) (signed_less_gates n u v) (signed_less_gates n u v)
signed_less_alike n u v = same_bind (planned_alike (λ first. signed_less_plan first u v n)) (λ z. gate_alike (Pack z))

number_gates_alike : (less : ℕ → ℕ → ℕ → Effect ℕ) → ((n u v : ℕ) → Alike (Same {A = ℕ}) (less n u v) (less n u v)) → (op : OperatorSign) (n u v : ℕ)
    → Alike (Same {A = ℕ}) (number_gates less op n u v) (number_gates less op n u v)
number_gates_alike less h word.Add n u v = gate_alike (Add u v)
number_gates_alike less h word.Subtract n u v = gate_alike (Sub u v)
number_gates_alike less h word.Multiply n u v = gate_alike (Mul u v)
number_gates_alike less h word.Divide n u v = number_alike
number_gates_alike less h word.Remainder n u v = number_alike
number_gates_alike less h word.Equal n u v = equal_alike u v
number_gates_alike less h word.NotEqual n u v = same_bind (equal_alike u v) (flip_alike n)
number_gates_alike less h word.Less n u v = h n u v
number_gates_alike less h word.LessOrEqual n u v = same_bind (h n v u) (flip_alike n)
number_gates_alike less h word.Greater n u v = h n v u
number_gates_alike less h word.GreaterOrEqual n u v = same_bind (h n u v) (flip_alike n)
number_gates_alike less h word.And n u v = number_alike
number_gates_alike less h word.Or n u v = number_alike
number_gates_alike less h word.Xor n u v = number_alike

or_alike : (u v : ℕ) → Alike (Same {A = ℕ}) (or_gates u v) (or_gates u v)
or_alike u v = same_bind (gate_alike (And u v)) (λ both. same_bind (gate_alike (Xor u v)) (λ one. gate_alike (Xor one both)))

bool_alike : (op : BoolOperator) (n u v : ℕ) → Alike (Same {A = ℕ}) (operator_gates (Bools op) n u v) (operator_gates (Bools op) n u v)
bool_alike truth.Equal n u v = same_bind (gate_alike (Xor u v)) (flip_alike n)
bool_alike truth.NotEqual n u v = gate_alike (Xor u v)
bool_alike truth.And n u v = gate_alike (And u v)
bool_alike truth.Or n u v = or_alike u v
bool_alike truth.Xor n u v = gate_alike (Xor u v)

pub operator_alike : (op : BinaryOperator) (n u v : ℕ) → Alike (Same {A = ℕ}) (operator_gates op n u v) (operator_gates op n u v)
operator_alike (Words op) n u v = number_gates_alike less_gates less_alike op n u v
operator_alike (Ints op) n u v = number_gates_alike signed_less_gates signed_less_alike op n u v
operator_alike (Bools op) n u v = bool_alike op n u v

truth_alike : (n u : ℕ) → Alike (Same {A = ℕ}) (truth_gates n u) (truth_gates n u)
truth_alike n u = same_bind (zero_alike u) (flip_alike n)

conversion_alike : (n u : ℕ) → Alike (Same {A = ℕ}) (conversion_gates n u) (conversion_gates n u)
conversion_alike n u = same_bind (gate_alike (Unpack u n)) (λ z. gate_alike (Conv z))

between_alike : (given wanted : DataType) (n u : ℕ) → Alike (Same {A = ℕ}) (gates_between given wanted n u) (gates_between given wanted n u)
between_alike Uint64 Uint64 n u = alike_done refl
between_alike Uint64 Int64 n u = alike_done refl
between_alike Uint64 datatype.Bool n u = truth_alike n u
between_alike Int64 Uint64 n u = alike_done refl
between_alike Int64 Int64 n u = alike_done refl
between_alike Int64 datatype.Bool n u = truth_alike n u
between_alike datatype.Bool Uint64 n u = conversion_alike n u
between_alike datatype.Bool Int64 n u = conversion_alike n u
between_alike datatype.Bool datatype.Bool n u = alike_done refl

pub cast_alike : (c : Cast) (n u : ℕ) → Alike (Same {A = ℕ}) (cast_gates c n u) (cast_gates c n u)
cast_alike c n u = between_alike c.given c.wanted n u
