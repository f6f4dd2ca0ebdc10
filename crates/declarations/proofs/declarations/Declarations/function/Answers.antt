use Rattle.std.proofs.Common.{◌≡◌, sym, ap, ◌∙◌, Some, arith, length, ◌+◌, ◌≤◌}
use Rattle.std.specs.Prelude.{map}
use Rattle.std.specs.List.{slice_get}
use Rattle.std.proofs.lemmas.Option.{slice_get_past}
use Rattle.declarations.specs.Declarations.{number_in, defined}
use Rattle.declarations.specs.Views.{tree_at}
use Rattle.declarations.specs.Named.{name_of}
use Rattle.declarations.proofs.Naming.{named_at, nowhere, there_at}
use Rattle.declarations.proofs.declarations.Declarations.function.Goals as goal

pub returns-in-None-get : goal.returns-in-None-get
returns-in-None-get c =
    let number : number_in c.args.name.now (map name_of c.args.self.now.functions.items) ≡ Some c.in-Some.number =
    sym (ap (number_in c.args.name.now) c.args.self.now.named) ∙ sym c.in-Some.ensures in
    let past : length c.args.self.now.functions.items ≤ c.in-Some.number = rw (← c.deref.ensures.value) c.in-None-get.ensures.lookup.3 in
    absurd (nowhere c.args.name.now c.args.self.now.functions.items c.in-Some.number number
    (slice_get_past c.args.self.now.functions.items c.in-Some.number past))

pub returns-in-Some-get : goal.returns-in-Some-get
returns-in-Some-get c =
    let number : number_in c.args.name.now (map name_of c.args.self.now.functions.items) ≡ Some c.in-Some.number =
    sym (ap (number_in c.args.name.now) c.args.self.now.named) ∙ sym c.in-Some.ensures in
    let there : slice_get c.args.self.now.functions.items c.in-Some.number ≡ Some c.in-Some-get.function.now =
    rw (← c.deref.ensures.value)
    (there_at c.deref.result.now c.in-Some.number c.in-Some-get.function.now c.in-Some-get.ensures.lookup.3.0 c.in-Some-get.ensures.lookup.1) in
    let from_first : 0 + c.in-Some.number ≡ c.in-Some.number = omega arith in
    sym (named_at c.args.name.now 0 c.args.self.now.functions.items c.in-Some.number c.in-Some-get.function.now number there
    ∙ ap (λ k. Some (defined k (tree_at c.in-Some-get.function.now))) from_first)
