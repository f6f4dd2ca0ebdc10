use Rattle.std.proofs.Common.{◌≡◌, ◌≤◌, length, sym, ap, ◌∙◌, Some, None}
use Rattle.std.specs.Prelude.{map, option_map}
use Rattle.std.specs.List.{slice_get}
use Rattle.std.proofs.lemmas.Option.{slice_get_past}
use Rattle.declarations.specs.Declarations.{number_in}
use Rattle.domain_types.specs.inner.Lent.{identifier_at, text_at}
use Rattle.declarations.proofs.Naming.{there_at}
use Rattle.domain_types.proofs.HeadNames.{first_found}
use Rattle.domain_types.proofs.protections.Protections.first.Goals as goal

pub returns-in-None : goal.returns-in-None
returns-in-None c =
    let ids = c.self.inside.identifiers.items in
    let number : number_in c.args.name.now (map text_at ids) ≡ None = sym (ap (number_in c.args.name.now) c.self.invariant) ∙ sym c.in-None.ensures in
    first_found c.args.name.now ids None c.args.self.now number c.self.view_is

pub returns-in-None-get : goal.returns-in-None-get
returns-in-None-get c =
    let ids = c.self.inside.identifiers.items in
    let number : number_in c.args.name.now (map text_at ids) ≡ Some c.in-Some.number =
    sym (ap (number_in c.args.name.now) c.self.invariant) ∙ sym c.in-Some.ensures in
    let past : length ids ≤ c.in-Some.number = rw (← c.deref.ensures.value) c.in-None-get.ensures.lookup.3 in
    ap (option_map identifier_at) (sym (slice_get_past ids c.in-Some.number past))
    ∙ first_found c.args.name.now ids (Some c.in-Some.number) c.args.self.now number c.self.view_is

pub returns-in-Some-get : goal.returns-in-Some-get
returns-in-Some-get c =
    let ids = c.self.inside.identifiers.items in
    let y = c.in-Some-get.identifier.now in
    let number : number_in c.args.name.now (map text_at ids) ≡ Some c.in-Some.number =
    sym (ap (number_in c.args.name.now) c.self.invariant) ∙ sym c.in-Some.ensures in
    let there : slice_get ids c.in-Some.number ≡ Some y =
    rw (← c.deref.ensures.value) (there_at c.deref.result.now c.in-Some.number y c.in-Some-get.ensures.lookup.3.0 c.in-Some-get.ensures.lookup.1) in
    ap (option_map identifier_at) (sym there) ∙ first_found c.args.name.now ids (Some c.in-Some.number) c.args.self.now number c.self.view_is
