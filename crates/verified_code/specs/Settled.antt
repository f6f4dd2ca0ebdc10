-- The steps of verified code.
use Rattle.std.specs.Prelude.{ℕ, ◌==◌, List, [], map, Option, Some, None, slice_get, unwrap_or, if◌then◌else◌}
use Rattle.program_trees.specs.Operators.{operands_of, cast_between}
use Rattle.bytecode.specs.declared.kind.Kind.{Kind}
use Rattle.bytecode.specs.Raw.{Raw, RawFunction, RawCode}
use Rattle.bytecode.specs.Raw as raw
use Rattle.verified_code.specs.Steps.{Step, Function, Literal, Move, Store, Binary, Not, Cast, Classify, Fill, At, Put, Size, Cat, Sum, Bits, Lookup}
use Rattle.verified_code.specs.Steps.{Declassify, Argument, Publish, Assert, Branch, Jump, Call, Return, ReturnNone}
use Rattle.verified_code.specs.Fitting.{kind_at, is_none, operator_at}

abbrev pub name_at : List (List ℕ) → ℕ → List ℕ
name_at names k = unwrap_or (slice_get names k) []

abbrev pub result_at : ℕ → Option ℕ
result_at d = if is_none d then None else Some d

abbrev pub binary_step : (left right : Kind) → (o d a b line : ℕ) → Step
binary_step k l o d a b line = Binary line (operator_at k.element o) (operands_of k.array l.array) d a b

-- the step that an instruction is, where the names of the code and the kinds of the registers are these
abbrev pub settle : List (List ℕ) → List Kind → Raw → Step
settle names kinds (raw.Literal d x) = Literal d (kind_at kinds d).element x
settle names kinds (raw.Move d r) = Move d r
settle names kinds (raw.Store d r) = Store d r
settle names kinds (raw.Binary o d a b line) = binary_step (kind_at kinds a) (kind_at kinds b) o d a b line
settle names kinds (raw.Not d r) = Not d r
settle names kinds (raw.Cast d r) = Cast (cast_between (kind_at kinds r).element (kind_at kinds d).element) d r
settle names kinds (raw.Classify d r) = Classify d r
settle names kinds (raw.Fill d n x line) = Fill line d n x
settle names kinds (raw.At d a i line) = At line d a i
settle names kinds (raw.Put a i x line) = Put line a i x
settle names kinds (raw.Size d r) = Size d r
settle names kinds (raw.Cat d a b line) = Cat line d a b
settle names kinds (raw.Sum d r) = Sum d r
settle names kinds (raw.Bits d r line) = Bits line d r
settle names kinds (raw.Lookup d a i line) = Lookup line d a i
settle names kinds (raw.Declassify d r) = Declassify d r
settle names kinds (raw.Argument d name line) = Argument line (kind_at kinds d) (name_at names name) d
settle names kinds (raw.Publish name r) = Publish (name_at names name) r
settle names kinds (raw.Assert r line) = Assert line r
settle names kinds (raw.Branch r v target) = Branch r (v == 1) target
settle names kinds (raw.Jump target) = Jump target
settle names kinds (raw.Call f d arguments line) = Call line f (result_at d) arguments
settle names kinds (raw.Return r) = Return r
settle names kinds raw.ReturnNone = ReturnNone

abbrev pub settled_function : List (List ℕ) → RawFunction → Function
settled_function names f =
    record { parameters = f.parameters; gives = f.gives; kinds = f.registers; steps = map (settle names f.registers) f.body }

abbrev pub settled : RawCode → List Function
settled code = map (settled_function code.names) code.functions
