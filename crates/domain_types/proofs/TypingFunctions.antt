-- A function, and the head of a template, are typed by the relation where they have no fault.
use Rattle.std.proofs.Common.{◌∙◌, ◌≡◌, List, [], ◌∷◌, ◌++◌, refl, ap, Option, Some, None, false, ◌↔◌, Bool, true, map, ℕ, sym, is_some, ◌+◌}
use Rattle.std.specs.Prelude.{not, ◌&&◌, ◌||◌, bytes_eq, codes, option_map, if◌then◌else◌}
use Rattle.std.specs.List.{find}
use Rattle.std.proofs.lemmas.Bool.{not-false, or_parts}
use Rattle.std.proofs.lemmas.Option.{none-some}
use Rattle.program_trees.specs.declared.statement.Identifier.{Identifier}
use Rattle.program_trees.specs.declared.function.DomainVariable.{DomainVariable}
use Rattle.program_trees.specs.declared.function.Parameter.{Parameter}
use Rattle.program_trees.specs.declared.function.ResultType.{ResultType}
use Rattle.program_trees.specs.declared.function.ResultType.TheVariants as returned
use Rattle.program_trees.specs.Programs.{FunctionTree, ItemTree}
use Rattle.domain_types.specs.declared.fault.TypeProblem.TheVariants.{UnknownName, Twice, TypeMismatch, MissingReturn}
use Rattle.domain_types.specs.declared.value_type.ExpressionType.TheVariants.{Value}
use Rattle.domain_types.specs.declared.fault.TypeFault.{TypeFault}
use Rattle.domain_types.specs.Types.{fault_at, fault_if, of_typed}
use Rattle.declarations.specs.Declarations.{Declared, is_known_kind, number_in}
use Rattle.domain_types.specs.Settings.{Setting, type_written}
use Rattle.domain_types.specs.Scopes.{Scope, nothing_known, is_among, twice_faults}
use Rattle.domain_types.specs.ExpressionTypes.{result_type}
use Rattle.domain_types.specs.StatementTypes.{domain_faults, block_faults, one_returns}
use Rattle.domain_types.specs.FunctionTypes.{with_parameter, with_parameters, parameter_faults, result_faults, way_faults}
use Rattle.domain_types.specs.FunctionTypes.{function_faults, protections_of, later_of, hiding_faults, imported_faults, is_variable}
use Rattle.domain_types.specs.FunctionTypes.{kind_faults, is_in_parameter, domain_variable_faults, domain_variables_faults}
use Rattle.domain_types.specs.ProgramTypes.{is_one_of}
use Rattle.domain_types.specs.Reached.{function_calls}
use Rattle.domain_types.specs.Typing.{AreParameters, GivesResult, IsTypedFunction, IsKnownKind, IsDomainVariable, AreDomainVariables, text_in}
use Rattle.domain_types.proofs.TypingSteps.{there, parts, joined, not_so, nothing_if}
use Rattle.domain_types.proofs.TypingExpressions.{Known, GiveTypes}
use Rattle.domain_types.proofs.TypingStatements.{KnownResult, type_known, no_type_fault, known_with, some_known, are_typed, no_block_faults}

-- PARAMETERS

are_parameters : (w : Setting) (s : Scope) (ps : List Parameter) → parameter_faults w s ps ≡ [] → AreParameters w s ps
are_parameters w s [] h = tt
are_parameters w s (p ∷ ps) h =
    let hs = parts (domain_faults w p.declared.domain ++ twice_faults s p.variable) (parameter_faults w (with_parameter w p s) ps) h in
    let two = parts (domain_faults w p.declared.domain) (twice_faults s p.variable) hs.0 in
    let v = type_known w p.declared two.0 in (
      some_known (type_written w p.declared) v.0 v.1,
      not_so (is_among p.variable.text s.block) p.variable.place Twice two.1,
      are_parameters w (with_parameter w p s) ps hs.1,
    )

no_parameter_faults : (w : Setting) (s : Scope) (ps : List Parameter) → AreParameters w s ps → parameter_faults w s ps ≡ []
no_parameter_faults w s [] h = refl
no_parameter_faults w s (p ∷ ps) h =
    let v = there (type_written w p.declared) h.0 in
    joined (domain_faults w p.declared.domain ++ twice_faults s p.variable) (parameter_faults w (with_parameter w p s) ps)
    (joined (domain_faults w p.declared.domain) (twice_faults s p.variable)
    (no_type_fault w p.declared v.0 v.1)
    (nothing_if (is_among p.variable.text s.block) p.variable.place Twice h.1))
    (no_parameter_faults w (with_parameter w p s) ps h.2)

known_parameters : (w : Setting) (s : Scope) (ps : List Parameter) → AreParameters w s ps → Known s → Known (with_parameters w ps s)
known_parameters w s [] h k = k
known_parameters w s (p ∷ ps) h k =
    known_parameters w (with_parameter w p s) ps h.2 (known_with (record { name = p.variable.text; held = type_written w p.declared }) s h.0 k)

nothing_unknown : Known nothing_known
nothing_unknown x v e = absurd (none-some v e)

-- RESULTS

pub known_result : (w : Setting) (r : ResultType) → result_faults w r ≡ [] → KnownResult w r
known_result w returned.Void h = refl
known_result w (returned.Value t) h =
    let v = type_known w t h in some_known (result_type w (returned.Value t)) (Value v.0) (ap (option_map Value) v.1)

gives_result : (w : Setting) (f : FunctionTree) (r : ResultType) → result_faults w r ≡ [] → way_faults f r ≡ [] → GivesResult w f r
gives_result w f returned.Void h n = tt
gives_result w f (returned.Value t) h n =
    let v = type_known w t h in (
      some_known (type_written w t) v.0 v.1,
      not-false (one_returns f.body.statements) (not_so (not (one_returns f.body.statements)) f.function.place MissingReturn n),
    )

no_result_faults : (w : Setting) (f : FunctionTree) (r : ResultType) → GivesResult w f r → (result_faults w r ≡ []) × (way_faults f r ≡ [])
no_result_faults w f returned.Void h = (refl, refl)
no_result_faults w f (returned.Value t) h =
    let v = there (type_written w t) h.0 in
    (no_type_fault w t v.0 v.1, ap (λ b. fault_if (not b) f.function.place MissingReturn) h.1)

-- FUNCTIONS

abbrev body_faults : Setting → FunctionTree → List TypeFault
body_faults w f = block_faults w f.returned (with_parameters w f.parameters nothing_known) f.body.statements

-- the parts of a function's faults
record Faultless (w : Setting) (f : FunctionTree) : Type 0 where
  result : result_faults w f.returned ≡ []
  parameters : parameter_faults w nothing_known f.parameters ≡ []
  body : body_faults w f ≡ []
  ways : way_faults f f.returned ≡ []

faultless : (w : Setting) (f : FunctionTree) → function_faults w f ≡ [] → Faultless w f
faultless w f h =
    let first = result_faults w f.returned in
    let second = parameter_faults w nothing_known f.parameters in
    let four = parts (first ++ second ++ body_faults w f) (way_faults f f.returned) h in
    let three = parts (first ++ second) (body_faults w f) four.0 in
    let two = parts first second three.0 in record { result = two.0; parameters = two.1; body = three.1; ways = four.1 }

pub result_is_known : (w : Setting) (f : FunctionTree) → function_faults w f ≡ [] → KnownResult w f.returned
result_is_known w f h = known_result w f.returned (faultless w f h).result

pub is_typed_function : (w : Setting) (f : FunctionTree) → GiveTypes w.declared (function_calls w f) → function_faults w f ≡ [] → IsTypedFunction w f
is_typed_function w f g h =
    let c = faultless w f h in
    let ps = are_parameters w nothing_known f.parameters c.parameters in
    record {
      parameters = ps;
      body =
          are_typed w f.returned (with_parameters w f.parameters nothing_known) f.body.statements
          (known_parameters w nothing_known f.parameters ps nothing_unknown)
          (known_result w f.returned c.result) g c.body;
      result = gives_result w f f.returned c.result c.ways;
    }

pub no_function_faults : (w : Setting) (f : FunctionTree) → IsTypedFunction w f → function_faults w f ≡ []
no_function_faults w f h =
    let first = result_faults w f.returned in
    let second = parameter_faults w nothing_known f.parameters in
    let r = no_result_faults w f f.returned h.result in
    joined (first ++ second ++ body_faults w f) (way_faults f f.returned)
    (joined (first ++ second) (body_faults w f)
    (joined first second r.0 (no_parameter_faults w nothing_known f.parameters h.parameters))
    (no_block_faults w f.returned (with_parameters w f.parameters nothing_known) f.body.statements h.body))
    r.1

-- where the functions that it calls give types; its own variables and result need no premise
pub typed_function_exactly : (w : Setting) (f : FunctionTree) → GiveTypes w.declared (function_calls w f) → IsTypedFunction w f ↔ (function_faults w f ≡ [])
typed_function_exactly w f g = (no_function_faults w f, is_typed_function w f g)

-- THE HEAD OF A TEMPLATE

kind_known : (d : Declared) (k : Option Identifier) → kind_faults d k ≡ [] → IsKnownKind d k
kind_known d None h = tt
kind_known d (Some k) h = not-false (is_known_kind d k.text) (not_so (not (is_known_kind d k.text)) k.place UnknownName h)

no_kind_fault : (d : Declared) (k : Option Identifier) → IsKnownKind d k → kind_faults d k ≡ []
no_kind_fault d None h = refl
no_kind_fault d (Some k) h = ap (λ b. fault_if (not b) k.place UnknownName) h

-- whether a name is the first of these or another of them
one_of : (b : Bool) (o : Option ℕ) → is_some (if b then Some 0 else option_map (λ k. k + 1) o) ≡ b || is_some o
one_of true o = refl
one_of false None = refl
one_of false (Some k) = refl

-- the fault where this is the first of its name
abbrev hidden_by : Identifier → Option Identifier → List TypeFault
hidden_by x o = of_typed o (λ y. fault_at (later_of x.place y.place) Twice)

hides_none : (x : Identifier) (ys : List Identifier) → hiding_faults x ys ≡ [] → is_one_of x.text (map text_in ys) ≡ false
hides_none x [] h = refl
hides_none x (y ∷ ys) h =
    one_of (bytes_eq x.text y.text) (number_in x.text (map text_in ys)) ∙ go (bytes_eq x.text y.text) h (hides_none x ys)
  where
    go : (b : Bool) → hidden_by x (if b then Some y else find (λ (z : Identifier). bytes_eq x.text z.text) ys) ≡ []
        → (hiding_faults x ys ≡ [] → is_one_of x.text (map text_in ys) ≡ false) → b || is_some (number_in x.text (map text_in ys)) ≡ false
    go true e rest = cc
    go false e rest = rest e

no_hiding_faults : (x : Identifier) (ys : List Identifier) → is_one_of x.text (map text_in ys) ≡ false → hiding_faults x ys ≡ []
no_hiding_faults x [] h = refl
no_hiding_faults x (y ∷ ys) h =
    let named = number_in x.text (map text_in ys) in
    let hs = or_parts (bytes_eq x.text y.text) (is_some named) (sym (one_of (bytes_eq x.text y.text) named) ∙ h) in
    ap (λ b. hidden_by x (if b then Some y else find (λ (z : Identifier). bytes_eq x.text z.text) ys)) hs.0 ∙ no_hiding_faults x ys hs.1

is_domain_variable : (d : Declared) (items : List ItemTree) (ps : List Parameter) (before : List DomainVariable) (v : DomainVariable)
    → domain_variable_faults d (protections_of items) ps before v ≡ [] → IsDomainVariable d items ps before v
is_domain_variable d items ps before v h =
    let first = kind_faults d v.kind in
    let second = fault_if (is_variable v.variable.text before) v.variable.place Twice in
    let third = imported_faults d v.variable in
    let fourth = hiding_faults v.variable (protections_of items) in
    let fifth = fault_if (not (is_in_parameter v.variable.text ps)) v.variable.place TypeMismatch in
    let five = parts (first ++ second ++ third ++ fourth) fifth h in
    let four = parts (first ++ second ++ third) fourth five.0 in
    let three = parts (first ++ second) third four.0 in
    let two = parts first second three.0 in
    record {
      kind = kind_known d v.kind two.0;
      new = not_so (is_variable v.variable.text before) v.variable.place Twice two.1;
      no_domain = hides_none v.variable (protections_of items) four.1;
      not_imported = not_so (d.shared3p && bytes_eq v.variable.text (codes "shared3p")) v.variable.place Twice three.1;
      used = not-false (is_in_parameter v.variable.text ps) (not_so (not (is_in_parameter v.variable.text ps)) v.variable.place TypeMismatch five.1);
    }

no_domain_variable_faults : (d : Declared) (items : List ItemTree) (ps : List Parameter) (before : List DomainVariable) (v : DomainVariable)
    → IsDomainVariable d items ps before v → domain_variable_faults d (protections_of items) ps before v ≡ []
no_domain_variable_faults d items ps before v h =
    let first = kind_faults d v.kind in
    let second = fault_if (is_variable v.variable.text before) v.variable.place Twice in
    let third = imported_faults d v.variable in
    let fourth = hiding_faults v.variable (protections_of items) in
    let fifth = fault_if (not (is_in_parameter v.variable.text ps)) v.variable.place TypeMismatch in
    joined (first ++ second ++ third ++ fourth) fifth
    (joined (first ++ second ++ third) fourth
    (joined (first ++ second) third
    (joined first second (no_kind_fault d v.kind h.kind) (nothing_if (is_variable v.variable.text before) v.variable.place Twice h.new))
    (nothing_if (d.shared3p && bytes_eq v.variable.text (codes "shared3p")) v.variable.place Twice h.not_imported))
    (no_hiding_faults v.variable (protections_of items) h.no_domain))
    (ap (λ b. fault_if (not b) v.variable.place TypeMismatch) h.used)

pub are_domain_variables : (d : Declared) (items : List ItemTree) (ps : List Parameter) (before vs : List DomainVariable)
    → domain_variables_faults d (protections_of items) ps before vs ≡ [] → AreDomainVariables d items ps before vs
are_domain_variables d items ps before [] h = tt
are_domain_variables d items ps before (v ∷ vs) h =
    let hs = parts (domain_variable_faults d (protections_of items) ps before v) (domain_variables_faults d (protections_of items) ps (v ∷ before) vs) h in
    (is_domain_variable d items ps before v hs.0, are_domain_variables d items ps (v ∷ before) vs hs.1)

pub no_domain_variables_faults : (d : Declared) (items : List ItemTree) (ps : List Parameter) (before vs : List DomainVariable)
    → AreDomainVariables d items ps before vs → domain_variables_faults d (protections_of items) ps before vs ≡ []
no_domain_variables_faults d items ps before [] h = refl
no_domain_variables_faults d items ps before (v ∷ vs) h =
    joined (domain_variable_faults d (protections_of items) ps before v) (domain_variables_faults d (protections_of items) ps (v ∷ before) vs)
    (no_domain_variable_faults d items ps before v h.0)
    (no_domain_variables_faults d items ps (v ∷ before) vs h.1)
