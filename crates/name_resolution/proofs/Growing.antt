-- What is made of a list, with one element more.
use Rattle.std.proofs.Common.{◌≡◌, List, [], ◌∷◌, ◌++◌, refl, sym, ap, ◌∙◌, Option, Some, None}
use Rattle.std.specs.Prelude.{map}
use Rattle.std.proofs.lemmas.List.{map-append}
use Rattle.program_trees.specs.Tree.{Tree, trees_of}
use Rattle.declarations.specs.Declarations.{Declared}
use Rattle.name_resolution.specs.Scopes.{Scope}
use Rattle.name_resolution.specs.Values.{TypedValue, of_both, and_more, value, values}
use Rattle.program_trees.specs.declared.statement.DeclaredType.{DeclaredType}
use Rattle.program_trees.specs.declared.function.DomainVariable.{DomainVariable}
use Rattle.program_trees.specs.Programs.{FunctionTree}
use Rattle.program_trees.specs.declared.kinds.Slot.{Slot}
use Rattle.program_trees.specs.TypedPrograms.{TypedFunctionTree}
use Rattle.name_resolution.specs.Functions.{slot_written, slots_written, typed_function, typed_functions}

pub map_one : {A B : Type 0} (f : A → B) (xs : List A) (x : A) → map f (xs ++ x ∷ []) ≡ map f xs ++ f x ∷ []
map_one f xs x = map-append f xs (x ∷ [])

-- a list whose parts are all there, with one part more
pub all-more : {A B : Type 0} (one : A → Option B) (all : List A → Option (List B)) (also : B → List B → Option (List B)) →
    ((b : B) (bs : List B) → also b bs ≡ Some (b ∷ bs)) → (all [] ≡ Some []) → ((a : A) (l : List A) → all (a ∷ l) ≡ of_both also (one a) (all l)) →
    (l : List A) (a : A) (bs : List B) (b : B) → all l ≡ Some bs → one a ≡ Some b → all (l ++ a ∷ []) ≡ Some (bs ++ b ∷ [])
all-more one all also puts empty more [] a bs b e f =
    let n : [] ≡ bs = cc in
    more a []
    ∙ ap (λ o. of_both also o (all [])) f
    ∙ ap (of_both also (Some b)) empty
    ∙ puts b []
    ∙ ap (λ l. Some (l ++ b ∷ [])) n
all-more {A} {B} one all also puts empty more (x ∷ xs) a bs b e f =
    more x (xs ++ a ∷ []) ∙ go (one x) (all xs) bs (all-more one all also puts empty more xs a) (sym (more x xs) ∙ e)
  where
    go : (o : Option B) (os : Option (List B)) (cs : List B)
        → ((ds : List B) (d : B) → os ≡ Some ds → one a ≡ Some d → all (xs ++ a ∷ []) ≡ Some (ds ++ d ∷ [])) → of_both also o os ≡ Some cs
        → of_both also o (all (xs ++ a ∷ [])) ≡ Some (cs ++ b ∷ [])
    go None os cs rest g = cc
    go (Some c) None cs rest g = cc
    go (Some c) (Some ds) cs rest g =
        let h : c ∷ ds ≡ cs = let k = sym (puts c ds) ∙ g in cc in
        ap (of_both also (Some c)) (rest ds b refl f) ∙ puts c (ds ++ b ∷ []) ∙ ap (λ l. Some (l ++ b ∷ [])) h

pub values-more : (d : Declared) (s : Scope) (ts : List Tree) (t : Tree) (vs : List TypedValue) (v : TypedValue) → values d s (trees_of ts) ≡ Some vs
    → value d s t ≡ Some v → values d s (trees_of (ts ++ t ∷ [])) ≡ Some (vs ++ v ∷ [])
values-more d s = all-more (value d s) (λ ts. values d s (trees_of ts)) and_more (λ v vs. refl) refl (λ t ts. refl)

pub slots_written_more : (d : Declared) (vs : List DomainVariable) (ts : List DeclaredType) (t : DeclaredType) (ss : List Slot) (s : Slot)
    → slots_written d vs ts ≡ Some ss → slot_written d vs t ≡ Some s → slots_written d vs (ts ++ t ∷ []) ≡ Some (ss ++ s ∷ [])
slots_written_more d vs = all-more (slot_written d vs) (slots_written d vs) and_more (λ s ss. refl) refl (λ t ts. refl)

pub typed_functions_more : (d : Declared) (fs : List FunctionTree) (f : FunctionTree) (ts : List TypedFunctionTree) (t : TypedFunctionTree)
    → typed_functions d fs ≡ Some ts → typed_function d f ≡ Some t → typed_functions d (fs ++ f ∷ []) ≡ Some (ts ++ t ∷ [])
typed_functions_more d = all-more (typed_function d) (typed_functions d) and_more (λ f fs. refl) refl (λ f fs. refl)
