-- A program is typed by the relation exactly where it is accepted.
use Rattle.std.proofs.Common.{ℕ, ◌≡◌, List, [], ◌∷◌, inl, refl, ap, ap₂, subst, Option, Some, None, false, is_some, ◌↔◌}
use Rattle.std.specs.Prelude.{not, ◌&&◌, ◌||◌, bytes_eq, codes}
use Rattle.std.specs.List.{slice_get}
use Rattle.std.proofs.lemmas.Bool.{not-false, or_parts}
use Rattle.program_trees.specs.declared.statement.Identifier.{Identifier}
use Rattle.program_trees.specs.Programs.{FunctionTree, ItemTree, imports, kind, domain, defines, ProgramTree}
use Rattle.domain_types.specs.declared.fault.TypeProblem.TheVariants.{UnknownName, Twice, NoMain, BadImport}
use Rattle.domain_types.specs.declared.fault.TypeFault.{TypeFault}
use Rattle.declarations.specs.declared.built_in.BuiltIn.{BuiltIn}
use Rattle.domain_types.specs.Types.{fault_if}
use Rattle.declarations.specs.Declarations.{Declared, declared_by, functions_of, is_known_kind, built_in_named}
use Rattle.domain_types.specs.ExpressionTypes.{within}
use Rattle.domain_types.specs.FunctionTypes.{function_faults, head_faults}
use Rattle.sc_text.specs.Lists.{Among}
use Rattle.domain_types.specs.inner.LeastFault.{least}
use Rattle.domain_types.specs.Reached.{function_calls, Instance, Calls, IsChecked, reached}
use Rattle.domain_types.specs.ProgramTypes.{is_module, is_one_of, more_kinds, more_functions, space_faults, item_faults, items_faults, has_main}
use Rattle.domain_types.specs.ProgramTypes.{declaring_faults, IsFault, declaring, inside, of_head, IsAccepted, IsRefused}
use Rattle.domain_types.specs.Typing.{IsNew, IsItem, AreItems, IsTypedProgram}
use Rattle.domain_types.proofs.Laws.{is_least, none_from_least}
use Rattle.domain_types.proofs.TypingSteps.{parts, joined, not_so}
use Rattle.domain_types.proofs.TypingExpressions.{GiveTypes}
use Rattle.domain_types.proofs.TypingFunctions.{result_is_known, is_typed_function, no_function_faults, are_domain_variables, no_domain_variables_faults}

-- DECLARATIONS

is_new : (d : Declared) (ks : List (List ℕ)) (x : Identifier) → space_faults d ks x ≡ [] → IsNew d ks x
is_new d ks x h =
    let shared = d.shared3p && bytes_eq x.text (codes "shared3p") in
    or_parts (is_one_of x.text ks) shared (not_so (is_one_of x.text ks || shared) x.place Twice h)

no_space_fault : (d : Declared) (ks : List (List ℕ)) (x : Identifier) → IsNew d ks x → space_faults d ks x ≡ []
no_space_fault d ks x h = ap₂ (λ a b. fault_if (a || b) x.place Twice) h.0 h.1

not_there : (o : Option BuiltIn) → is_some o ≡ false → o ≡ None
not_there None h = refl
not_there (Some b) h = cc

is_item : (d : Declared) (ks fs : List (List ℕ)) (i : ItemTree) → item_faults d ks fs i ≡ [] → IsItem d ks fs i
is_item d ks fs (imports x) h = not-false (is_module x.text) (not_so (not (is_module x.text)) x.place BadImport h)
is_item d ks fs (kind x) h =
    let named = bytes_eq x.text (codes "shared3p") in
    let hs = parts (fault_if (not named) x.place UnknownName) (space_faults d ks x) h in
    (not-false named (not_so (not named) x.place UnknownName hs.0), is_new d ks x hs.1)
is_item d ks fs (domain x k) h =
    let hs = parts (space_faults d ks x) (fault_if (not (is_known_kind d k.text)) k.place UnknownName) h in
    (is_new d ks x hs.0, not-false (is_known_kind d k.text) (not_so (not (is_known_kind d k.text)) k.place UnknownName hs.1))
is_item d ks fs (defines f) h =
    let builtin = is_some (built_in_named d f.function.text) in
    let earlier = is_one_of f.function.text fs in
    let both = or_parts builtin earlier (not_so (builtin || earlier) f.function.place Twice h) in
    (not_there (built_in_named d f.function.text) both.0, both.1)

no_item_faults : (d : Declared) (ks fs : List (List ℕ)) (i : ItemTree) → IsItem d ks fs i → item_faults d ks fs i ≡ []
no_item_faults d ks fs (imports x) h = ap (λ b. fault_if (not b) x.place BadImport) h
no_item_faults d ks fs (kind x) h =
    joined (fault_if (not (bytes_eq x.text (codes "shared3p"))) x.place UnknownName) (space_faults d ks x)
    (ap (λ b. fault_if (not b) x.place UnknownName) h.0)
    (no_space_fault d ks x h.1)
no_item_faults d ks fs (domain x k) h =
    joined (space_faults d ks x) (fault_if (not (is_known_kind d k.text)) k.place UnknownName)
    (no_space_fault d ks x h.0)
    (ap (λ b. fault_if (not b) k.place UnknownName) h.1)
no_item_faults d ks fs (defines f) h = ap₂ (λ o b. fault_if (is_some o || b) f.function.place Twice) h.0 h.1

are_items : (d : Declared) (ks fs : List (List ℕ)) (is : List ItemTree) → items_faults d ks fs is ≡ [] → AreItems d ks fs is
are_items d ks fs [] h = tt
are_items d ks fs (i ∷ is) h =
    let hs = parts (item_faults d ks fs i) (items_faults d (more_kinds ks i) (more_functions fs i) is) h in
    (is_item d ks fs i hs.0, are_items d (more_kinds ks i) (more_functions fs i) is hs.1)

no_items_faults : (d : Declared) (ks fs : List (List ℕ)) (is : List ItemTree) → AreItems d ks fs is → items_faults d ks fs is ≡ []
no_items_faults d ks fs [] h = refl
no_items_faults d ks fs (i ∷ is) h =
    joined (item_faults d ks fs i) (items_faults d (more_kinds ks i) (more_functions fs i) is)
    (no_item_faults d ks fs i h.0)
    (no_items_faults d (more_kinds ks i) (more_functions fs i) is h.1)

no_declaring_faults : (p : ProgramTree) → IsTypedProgram p → declaring_faults p ≡ []
no_declaring_faults p h =
    joined (items_faults (declared_by p) [] [] p.items) (fault_if (not (has_main (functions_of p.items))) p.end NoMain)
    (no_items_faults (declared_by p) [] [] p.items h.items)
    (ap (λ b. fault_if (not b) p.end NoMain) h.main)

-- NO FAULT AT ALL

pub empty_where_none : (fs : List TypeFault) → ((g : TypeFault) → Among g fs → ⊥) → fs ≡ []
empty_where_none [] h = refl
empty_where_none (f ∷ fs) h = absurd (h f (inl refl))

pub none_in_empty : (g : TypeFault) (fs : List TypeFault) → fs ≡ [] → Among g fs → ⊥
none_in_empty g fs e m = subst (Among g) e m

-- each checked function of an accepted program is without fault
function_faultless : (p : ProgramTree) → IsAccepted p → (i : Instance) (f : FunctionTree) → IsChecked p i
    → slice_get (functions_of p.items) i.function ≡ Some f → function_faults (within (declared_by p) f i.binding) f ≡ []
function_faultless p a i f c at =
    empty_where_none (function_faults (within (declared_by p) f i.binding) f) (λ g m. a.faultless g (inside i f g c at m))

-- the functions that it calls are checked too, and so are their results
calls_give_types : (p : ProgramTree) → IsAccepted p → (i : Instance) (f : FunctionTree) → IsChecked p i
    → slice_get (functions_of p.items) i.function ≡ Some f → GiveTypes (declared_by p) (function_calls (within (declared_by p) f i.binding) f)
calls_give_types p a i f c at =
    λ call m g ds there bound.
    let made : Calls p i (record { function = call.function; binding = Some ds }) =
    record {
      called_in = f;
      there = at;
      calls = subst (λ b. Among (record { function = call.function; binding = b }) (function_calls (within (declared_by p) f i.binding) f)) bound m;
    } in
    result_is_known (within (declared_by p) g ds) g
    (function_faultless p a (record { function = call.function; binding = ds }) g (reached i call.function ds c made) there)

-- THE PROGRAM

pub accepted_is_typed : (p : ProgramTree) → IsAccepted p → IsTypedProgram p
accepted_is_typed p a =
    let none_declaring = empty_where_none (declaring_faults p) (λ g m. a.faultless g (declaring g m)) in
    let main_found = has_main (functions_of p.items) in
    let hs = parts (items_faults (declared_by p) [] [] p.items) (fault_if (not main_found) p.end NoMain) none_declaring in
    record {
      items = are_items (declared_by p) [] [] p.items hs.0;
      main = not-false main_found (not_so (not main_found) p.end NoMain hs.1);
      functions = λ i f c at. is_typed_function (within (declared_by p) f i.binding) f (calls_give_types p a i f c at) (function_faultless p a i f c at);
      heads =
          λ i call f c made at.
          are_domain_variables (declared_by p) p.items f.parameters [] f.variables
          (empty_where_none (head_faults (declared_by p) p.items f) (λ g m. a.faultless g (of_head i call f g c made at m)));
    }

no_fault : (p : ProgramTree) → IsTypedProgram p → (g : TypeFault) → IsFault p g → ⊥
no_fault p t g (declaring h m) = none_in_empty h (declaring_faults p) (no_declaring_faults p t) m
no_fault p t g (inside i f h c at m) =
    none_in_empty h (function_faults (within (declared_by p) f i.binding) f)
    (no_function_faults (within (declared_by p) f i.binding) f (t.functions i f c at)) m
no_fault p t g (of_head i call f h c made at m) =
    none_in_empty h (head_faults (declared_by p) p.items f)
    (no_domain_variables_faults (declared_by p) p.items f.parameters [] f.variables (t.heads i call f c made at)) m

pub typed_is_accepted : (p : ProgramTree) → IsTypedProgram p → IsAccepted p
typed_is_accepted p t = record { faultless = no_fault p t }

pub accepted_exactly : (p : ProgramTree) → IsAccepted p ↔ IsTypedProgram p
accepted_exactly p = (accepted_is_typed p, typed_is_accepted p)

-- WHAT IS TOLD

-- a list of just the faults of a program: where it has a least one, that is told, and where it has none the program is accepted
abbrev pub HasJustTheFaults : ProgramTree → List TypeFault → Type 0
HasJustTheFaults p fs = (g : TypeFault) → IsFault p g ↔ Among g fs

pub least_is_told : (p : ProgramTree) (fs : List TypeFault) (f : TypeFault) → HasJustTheFaults p fs → least None fs ≡ Some f → IsRefused p f
least_is_told p fs f just e =
    let l = is_least fs f e in record { is = (just f).1 l.among; first = λ g h. l.before g ((just g).0 h) }

pub none_is_accepted : (p : ProgramTree) (fs : List TypeFault) → HasJustTheFaults p fs → least None fs ≡ None → IsAccepted p
none_is_accepted p fs just e = record { faultless = λ g h. none_in_empty g fs (none_from_least fs e) ((just g).0 h) }
