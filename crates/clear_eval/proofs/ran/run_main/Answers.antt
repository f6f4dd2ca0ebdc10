use Rattle.std.proofs.Common.{arith, ◌<◌, List, [], ◌∷◌, length, refl}
use Rattle.program_trees.specs.declared.typed_function.TypedFunction.{TypedFunction}
use Rattle.clear_eval.specs.inner.Standing.{HasRoomFor}
use Rattle.clear_eval.proofs.ran.run_main.Goals as goal

first_has_room : (fs : List TypedFunction) → 0 < length fs → HasRoomFor fs 0 0
first_has_room [] h = absurd (omega arith)
first_has_room (f ∷ fs) h = record { function = f; there = refl; slots = omega arith }

pub body-requires-clause-fitting : goal.body-requires-clause-fitting
body-requires-clause-fitting c =
    let some : 0 < length c.args.functions.now = grind arith in
    rw c.new-arguments.ensures.items (first_has_room c.args.functions.now some)
