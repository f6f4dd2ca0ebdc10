-- Each program that is typed has a typed tree.
use Rattle.std.proofs.Common.{◌≡◌, ℕ, zero, suc, ◌+◌, List, [], ◌∷◌, ◌++◌, length, refl, sym, ap, ap₂, ◌∙◌, Option, Some, None, Bool, true, false}
use Rattle.std.proofs.Common.{cond, is_some}
use Rattle.std.specs.Prelude.{codes, bytes_eq, option_map, ◌&&◌, ◌||◌}
use Rattle.std.specs.List.{slice_get}
use Rattle.std.proofs.lemmas.Bool.{and_parts}
use Rattle.program_trees.specs.declared.function.DomainVariable.{DomainVariable}
use Rattle.program_trees.specs.Programs.{FunctionTree, ItemTree, imports, kind, domain, defines, ProgramTree}
use Rattle.domain_types.specs.declared.value_type.Protection.{Protection}
use Rattle.domain_types.specs.Declarations.{Declared, declared_by, functions_of, number_in, defined, built_in_named, function_named, callee_or_function, callee}
use Rattle.domain_types.specs.Scopes.{nothing_known}
use Rattle.domain_types.specs.ExpressionTypes.{within}
use Rattle.domain_types.specs.FunctionTypes.{with_parameters}
use Rattle.sc_text.specs.Lists.{Among}
use Rattle.domain_types.specs.Reached.{Instance, IsChecked, plain}
use Rattle.domain_types.specs.Reached as checked
use Rattle.domain_types.specs.Types.{is_without}
use Rattle.domain_types.specs.ProgramTypes.{is_one_of, is_void, is_main, has_main}
use Rattle.domain_types.specs.Typing.{AreItems, IsTypedProgram}
use Rattle.domain_types.proofs.Names.{behind, number_in-append}
use Rattle.program_trees.specs.TypedPrograms.{TypedFunctionTree}
use Rattle.name_resolution.specs.Order.{reached}
use Rattle.name_resolution.specs.Values.{of_both, and_more}
use Rattle.name_resolution.specs.Functions.{typed_function, typed_functions, with_functions, program_of}
use Rattle.program_typing.specs.Existence.{HasTree}
use Rattle.name_resolution.proofs.SoundValues.{callee_there}
use Rattle.program_typing.proofs.TreesOfStatements.{names_by_all}
use Rattle.program_typing.proofs.TreesOfFunctions.{function_there}
use Rattle.program_typing.proofs.CallsOfTyped.{block_called}
use Rattle.program_typing.proofs.ReachedFunctions.{Each, each_at, each_known, text_is, text_same, no_built_in, reached_agree}

-- THERE IS ONE `main`, AND IT'S NO TEMPLATE

abbrev main_text : List ℕ
main_text = codes "main"

without_is : (vs : List DomainVariable) → is_without vs ≡ true → vs ≡ []
without_is [] e = refl
without_is (v ∷ vs) e = cc

main_parts : (f : FunctionTree) → is_main f ≡ true → (f.function.text ≡ main_text) × (f.variables ≡ [])
main_parts f e =
    let name = bytes_eq f.function.text main_text in
    let one = and_parts (name && is_without f.variables && is_void f.returned) (is_without f.parameters) e in
    let two = and_parts (name && is_without f.variables) (is_void f.returned) one.0 in
    let three = and_parts name (is_without f.variables) two.0 in
    (text_is f.function.text main_text three.0, without_is f.variables three.1)

still_some : (o : Option ℕ) (n : ℕ) (b : Bool) → is_some o ≡ true → is_some (behind o n b) ≡ true
still_some (Some k) n b e = refl
still_some None n b e = cc

some_at_last : (o : Option ℕ) (n : ℕ) → is_some (behind o n true) ≡ true
some_at_last (Some k) n = refl
some_at_last None n = refl

no_further_main : (d : Declared) (items : List ItemTree) (ks fs : List (List ℕ)) → AreItems d ks fs items → is_one_of main_text fs ≡ true
    → has_main (functions_of items) ≡ true → ⊥
no_further_main d [] ks fs h m t = cc
no_further_main d (imports x ∷ items) ks fs h m t = no_further_main d items ks fs h.1 m t
no_further_main d (kind x ∷ items) ks fs h m t = no_further_main d items (ks ++ x.text ∷ []) fs h.1 m t
no_further_main d (domain x k ∷ items) ks fs h m t = no_further_main d items (ks ++ x.text ∷ []) fs h.1 m t
no_further_main d (defines f ∷ items) ks fs h m t =
    go (is_main f) refl t (no_further_main d items ks (fs ++ f.function.text ∷ []) h.1
    (ap is_some (number_in-append main_text fs f.function.text) ∙ still_some (number_in main_text fs) (length fs) (bytes_eq main_text f.function.text) m))
  where
    go : (b : Bool) → is_main f ≡ b → (b || has_main (functions_of items)) ≡ true → (has_main (functions_of items) ≡ true → ⊥) → ⊥
    go true q r rest =
        let no : true ≡ false = sym m ∙ ap (λ x. is_one_of x fs) (sym (main_parts f q).0) ∙ h.0.1 in
        cc
    go false q r rest = rest r

-- the first function of that name is the one
pub main_is_main : (d : Declared) (items : List ItemTree) (ks fs : List (List ℕ)) (n k : ℕ) (f : FunctionTree) → AreItems d ks fs items
    → has_main (functions_of items) ≡ true → function_named main_text n (functions_of items) ≡ Some (defined k f) → is_main f ≡ true
main_is_main d [] ks fs n k f h t e = cc
main_is_main d (imports x ∷ items) ks fs n k f h t e = main_is_main d items ks fs n k f h.1 t e
main_is_main d (kind x ∷ items) ks fs n k f h t e = main_is_main d items (ks ++ x.text ∷ []) fs n k f h.1 t e
main_is_main d (domain x i ∷ items) ks fs n k f h t e = main_is_main d items (ks ++ x.text ∷ []) fs n k f h.1 t e
main_is_main d (defines g ∷ items) ks fs n k f h t e =
    go (bytes_eq main_text g.function.text) (is_main g) refl refl t e (main_is_main d items ks (fs ++ g.function.text ∷ []) (n + 1) k f h.1)
  where
    found : bytes_eq main_text g.function.text ≡ true → is_one_of main_text (fs ++ g.function.text ∷ []) ≡ true
    found q =
        ap is_some (number_in-append main_text fs g.function.text)
        ∙ ap (λ b. is_some (behind (number_in main_text fs) (length fs) b)) q
        ∙ some_at_last (number_in main_text fs) (length fs)

    go : (b c : Bool) → bytes_eq main_text g.function.text ≡ b → is_main g ≡ c → (c || has_main (functions_of items)) ≡ true
        → cond b (Some (defined n g)) (function_named main_text (n + 1) (functions_of items)) ≡ Some (defined k f)
        → (has_main (functions_of items) ≡ true → function_named main_text (n + 1) (functions_of items) ≡ Some (defined k f) → is_main f ≡ true)
        → is_main f ≡ true
    go true true q m r s rest =
        let one : defined n g ≡ defined k f = cc in
        let same : g ≡ f = cc in
        ap is_main (sym same) ∙ m
    go true false q m r s rest = absurd (no_further_main d items ks (fs ++ g.function.text ∷ []) h.1 (found q) r)
    go false true q m r s rest =
        let no : true ≡ false = sym (text_same main_text g.function.text (sym (main_parts g m).0)) ∙ q in
        cc
    go false false q m r s rest = rest r s

-- EACH FUNCTION THAT IS REACHED IS CHECKED WITH SOME DOMAINS

pub record IsCheckedFunction (p : ProgramTree) (f : FunctionTree) : Type 0 where
  pub number : ℕ
  pub domains : List Protection
  pub checked : IsChecked p (record { function = number; binding = domains })
  pub there : slice_get (functions_of p.items) number ≡ Some f

main_checked : (p : ProgramTree) → IsTypedProgram p → (n : ℕ) (f : FunctionTree) → callee (declared_by p) main_text ≡ Some (defined n f) → IsCheckedFunction p f
main_checked p t n f e =
    let d = declared_by p in
    let there = callee_there d main_text n f e in
    let named = sym (ap (callee_or_function d main_text) (no_built_in d main_text (built_in_named d main_text) n f e)) ∙ e in
    record {
      number = n;
      domains = [];
      checked = plain n f there (main_parts f (main_is_main d p.items [] [] 0 n f t.items t.main named)).1;
      there = there;
    }

called_checked : (p : ProgramTree) → IsTypedProgram p → (f : FunctionTree) → IsCheckedFunction p f → (x : List ℕ) (n : ℕ) (g : FunctionTree)
    → Among x (names_by_all f.body.statements) → callee (declared_by p) x ≡ Some (defined n g) → IsCheckedFunction p g
called_checked p t f c x n g m e =
    let d = declared_by p in
    let i : Instance = record { function = c.number; binding = c.domains } in
    let w = within (declared_by p) f c.domains in
    let typed = t.functions i f c.checked c.there in
    let call = (block_called w f.returned (with_parameters w f.parameters nothing_known) f.body.statements typed.body).each x n g m e in
    record {
      number = n;
      domains = call.0;
      checked = checked.reached i n call.0 c.checked (record { called_in = f; there = c.there; calls = call.1 });
      there = callee_there d x n g e;
    }

pub reached_are_checked : (p : ProgramTree) → IsTypedProgram p → Each (IsCheckedFunction p) (reached (declared_by p))
reached_are_checked p t =
    each_known (IsCheckedFunction p) (declared_by p) (main_checked p t) (called_checked p t) (length (functions_of p.items))

-- ALL HAVE TYPED TREES

all_there : (k : Declared) (fs : List FunctionTree)
    → ((i : ℕ) (f : FunctionTree) → slice_get fs i ≡ Some f → (t : TypedFunctionTree) × (typed_function k f ≡ Some t))
    → (ts : List TypedFunctionTree) × (typed_functions k fs ≡ Some ts)
all_there k [] h = ([], refl)
all_there k (f ∷ fs) h =
    let one = h zero f refl in
    let more = all_there k fs (λ i g e. h (suc i) g e) in
    (one.0 ∷ more.0, ap₂ (of_both and_more) one.1 more.1)

pub typed_has_tree : (p : ProgramTree) → IsTypedProgram p → HasTree p
typed_has_tree p t =
    let all = all_there (with_functions (declared_by p) (reached (declared_by p))) (reached (declared_by p)) each in
    (program_of all.0, ap (option_map program_of) all.1)
  where
    each : (i : ℕ) (f : FunctionTree) → slice_get (reached (declared_by p)) i ≡ Some f
        → (u : TypedFunctionTree) × (typed_function (with_functions (declared_by p) (reached (declared_by p))) f ≡ Some u)
    each i f e =
        let c = each_at (IsCheckedFunction p) (reached (declared_by p)) i f (reached_are_checked p t) e in
        let typed = t.functions (record { function = c.number; binding = c.domains }) f c.checked c.there in
        function_there (declared_by p) (reached (declared_by p)) f c.domains (reached_agree (declared_by p) i f e) typed
