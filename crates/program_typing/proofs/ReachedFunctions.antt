-- The functions that are reached: each stands there once, and so does each function that one of them calls.
use Rattle.std.proofs.Common.{◌≡◌, ℕ, zero, suc, ◌+◌, ◌<◌, ◌≤◌, ◌⊎◌, inl, inr, List, [], ◌∷◌, ◌++◌, length, get_or, refl, sym, ap, ap₂, ◌∙◌, subst}
use Rattle.std.proofs.Common.{Option, Some, None, Bool, true, false, cond, is_some, arith}
use Rattle.std.specs.Prelude.{map, codes, bytes_eq, option_map, ◌||◌}
use Rattle.std.specs.List.{slice_get, list_any, IsDistinct}
use Rattle.std.specs.Cmp.{IsEquivalence}
use Rattle.std.proofs.lemmas.Slice.Eq.{bytes_eq-Decides}
use Rattle.std.proofs.lemmas.List.{append_assoc, map-append, length-map}
use Rattle.std.proofs.lemmas.List.Folds.{list_any-append}
use Rattle.std.proofs.lemmas.Option.{slice_get_within, slice_get-get_or}
use Rattle.std.proofs.lemmas.Map.Keys.{IsDistinct-push}
use Rattle.std.proofs.lemmas.Map.Made.{length-le_from_is_member}
use Rattle.program_trees.specs.Tree.{Tree, Trees, number, truth, variable, call, index, parentheses, negation, cast, binary, declassify, argument, publish}
use Rattle.program_trees.specs.Tree as Tree'
use Rattle.program_trees.specs.Statements.{DeclarationTree, TargetTree, AssignmentTree, StartTree, starts_with_nothing, starts_with_declaration}
use Rattle.program_trees.specs.Statements.{starts_with_assignment, StepTree, steps_by_nothing, steps_by_assignment, steps_by_expression, StatementTree}
use Rattle.program_trees.specs.Statements.{block, empty, branch, choice, while_loop, do_loop, for_loop, breaks, continues, returns, assertion}
use Rattle.program_trees.specs.Statements.{declaration, assignment, evaluation, StatementTrees}
use Rattle.program_trees.specs.Statements as Statements'
use Rattle.program_trees.specs.Programs.{FunctionTree}
use Rattle.domain_types.specs.BuiltIn.{BuiltIn}
use Rattle.domain_types.specs.Declarations.{Declared, Callee, built_in, defined, built_in_named, function_named, callee_or_function, callee, number_in}
use Rattle.sc_text.specs.Lists.{Among}
use Rattle.domain_types.proofs.Names.{bytes_eq-swap}
use Rattle.name_resolution.specs.Order.{function_name, is_found, with_callee, called_in, called_in_all, called_in_optional, called_in_declaration}
use Rattle.name_resolution.specs.Order.{called_in_assignment, called_in_start, called_in_step, called_by, called_by_all, read_one, known_after}
use Rattle.name_resolution.specs.Order.{reached}
use Rattle.name_resolution.specs.Functions.{with_functions}
use Rattle.name_resolution.proofs.SoundValues.{some_is, callee_there}
use Rattle.program_typing.proofs.TreesOfValues.{Agrees, Agree, names_in, names_in_all}
use Rattle.program_typing.proofs.TreesOfStatements.{names_in_optional, names_in_declaration, names_in_assignment, names_in_start, names_in_step, names_by_all}
use Rattle.program_typing.proofs.ReadingOrder.{read_by, read_by_all, same_names_all}

-- CALLEES BY THEIR NAMES, ONE AFTER ANOTHER

abbrev pub with_names : Declared → List FunctionTree → List (List ℕ) → List FunctionTree
with_names d fs [] = fs
with_names d fs (x ∷ xs) = with_names d (with_callee fs x (callee d x)) xs

with_more : (d : Declared) (fs : List FunctionTree) (xs ys : List (List ℕ)) → with_names d fs (xs ++ ys) ≡ with_names d (with_names d fs xs) ys
with_more d fs [] ys = refl
with_more d fs (x ∷ xs) ys = with_more d (with_callee fs x (callee d x)) xs ys

then_with : (d : Declared) (fs gs hs : List FunctionTree) (xs ys : List (List ℕ)) → gs ≡ with_names d fs xs → hs ≡ with_names d gs ys
    → hs ≡ with_names d fs (xs ++ ys)
then_with d fs gs hs xs ys e f = f ∙ ap (λ l. with_names d l ys) e ∙ sym (with_more d fs xs ys)

mutual
  in_value : (d : Declared) (fs : List FunctionTree) (e : Tree) → called_in d fs e ≡ with_names d fs (names_in e)
  in_value d fs (number p n) = refl
  in_value d fs (truth p b) = refl
  in_value d fs (variable p x) = refl
  in_value d fs (call p x es) =
      then_with d fs (called_in_all d fs es) (with_callee (called_in_all d fs es) x (callee d x)) (names_in_all es) (x ∷ []) (in_values d fs es) refl
  in_value d fs (index p a i) =
      then_with d fs (called_in d fs a) (called_in d (called_in d fs a) i) (names_in a) (names_in i) (in_value d fs a) (in_value d (called_in d fs a) i)
  in_value d fs (parentheses p e) = in_value d fs e
  in_value d fs (negation p e) = in_value d fs e
  in_value d fs (cast p t e) = in_value d fs e
  in_value d fs (binary p op a b) =
      then_with d fs (called_in d fs a) (called_in d (called_in d fs a) b) (names_in a) (names_in b) (in_value d fs a) (in_value d (called_in d fs a) b)
  in_value d fs (declassify p e) = in_value d fs e
  in_value d fs (argument p x) = refl
  in_value d fs (publish p x e) = in_value d fs e

  in_values : (d : Declared) (fs : List FunctionTree) (es : Trees) → called_in_all d fs es ≡ with_names d fs (names_in_all es)
  in_values d fs Tree'.none = refl
  in_values d fs (Tree'.also e es) =
      then_with d fs (called_in d fs e) (called_in_all d (called_in d fs e) es) (names_in e) (names_in_all es) (in_value d fs e)
      (in_values d (called_in d fs e) es)

in_optional : (d : Declared) (fs : List FunctionTree) (e : Option Tree) → called_in_optional d fs e ≡ with_names d fs (names_in_optional e)
in_optional d fs None = refl
in_optional d fs (Some e) = in_value d fs e

in_declaration : (d : Declared) (fs : List FunctionTree) (t : DeclarationTree) → called_in_declaration d fs t ≡ with_names d fs (names_in_declaration t)
in_declaration d fs t =
    let gs = called_in_optional d fs t.size in
    then_with d fs gs (called_in_optional d gs t.value) (names_in_optional t.size) (names_in_optional t.value) (in_optional d fs t.size)
    (in_optional d gs t.value)

in_assignment : (d : Declared) (fs : List FunctionTree) (t : AssignmentTree) → called_in_assignment d fs t ≡ with_names d fs (names_in_assignment t)
in_assignment d fs t =
    let gs = called_in_optional d fs t.target.index in
    then_with d fs gs (called_in d gs t.value) (names_in_optional t.target.index) (names_in t.value) (in_optional d fs t.target.index) (in_value d gs t.value)

in_start : (d : Declared) (fs : List FunctionTree) (t : StartTree) → called_in_start d fs t ≡ with_names d fs (names_in_start t)
in_start d fs starts_with_nothing = refl
in_start d fs (starts_with_declaration t) = in_declaration d fs t
in_start d fs (starts_with_assignment t) = in_assignment d fs t

in_step : (d : Declared) (fs : List FunctionTree) (t : StepTree) → called_in_step d fs t ≡ with_names d fs (names_in_step t)
in_step d fs steps_by_nothing = refl
in_step d fs (steps_by_assignment t) = in_assignment d fs t
in_step d fs (steps_by_expression e) = in_value d fs e

mutual
  in_statement : (d : Declared) (fs : List FunctionTree) (t : StatementTree) → called_by d fs t ≡ with_names d fs (read_by t)
  in_statement d fs (block p ss) = in_statements d fs ss
  in_statement d fs (empty p) = refl
  in_statement d fs (branch p e body) =
      let gs = called_in d fs e in
      then_with d fs gs (called_by d gs body) (names_in e) (read_by body) (in_value d fs e) (in_statement d (called_in d fs e) body)
  in_statement d fs (choice p e body otherwise) =
      let gs = called_in d fs e in
      let hs = called_by d (called_in d fs e) body in
      then_with d fs gs (called_by d hs otherwise) (names_in e) (read_by body ++ read_by otherwise) (in_value d fs e)
      (then_with d gs hs (called_by d hs otherwise) (read_by body) (read_by otherwise) (in_statement d (called_in d fs e) body)
      (in_statement d (called_by d (called_in d fs e) body) otherwise))
  in_statement d fs (while_loop p e body) =
      let gs = called_by d fs body in
      then_with d fs gs (called_in d gs e) (read_by body) (names_in e) (in_statement d fs body) (in_value d gs e)
  in_statement d fs (do_loop p body e) =
      let gs = called_by d fs body in
      then_with d fs gs (called_in d gs e) (read_by body) (names_in e) (in_statement d fs body) (in_value d gs e)
  in_statement d fs (for_loop p b e c body) =
      let one = called_in_start d fs b in
      let two = called_by d one body in
      let three = called_in_step d two c in
      let four = called_in_optional d three e in
      then_with d fs one four (names_in_start b) (read_by body ++ (names_in_step c ++ names_in_optional e)) (in_start d fs b)
      (then_with d one two four (read_by body) (names_in_step c ++ names_in_optional e) (in_statement d (called_in_start d fs b) body)
      (then_with d two three four (names_in_step c) (names_in_optional e) (in_step d two c) (in_optional d three e)))
  in_statement d fs (breaks p) = refl
  in_statement d fs (continues p) = refl
  in_statement d fs (returns p e) = in_optional d fs e
  in_statement d fs (assertion p e) = in_value d fs e
  in_statement d fs (declaration t) = in_declaration d fs t
  in_statement d fs (assignment t) = in_assignment d fs t
  in_statement d fs (evaluation e) = in_value d fs e

  in_statements : (d : Declared) (fs : List FunctionTree) (ts : StatementTrees) → called_by_all d fs ts ≡ with_names d fs (read_by_all ts)
  in_statements d fs Statements'.none = refl
  in_statements d fs (Statements'.also t ts) =
      let gs = called_by d fs t in
      then_with d fs gs (called_by_all d gs ts) (read_by t) (read_by_all ts) (in_statement d fs t) (in_statements d (called_by d fs t) ts)

-- WHAT HOLDS OF EACH

abbrev pub Each : (FunctionTree → Type 0) → List FunctionTree → Type 0
Each P [] = Unit {0}
Each P (f ∷ fs) = P f × Each P fs

each_push : (P : FunctionTree → Type 0) (fs : List FunctionTree) (f : FunctionTree) → Each P fs → P f → Each P (fs ++ f ∷ [])
each_push P [] f a p = (p, tt)
each_push P (g ∷ gs) f a p = (a.0, each_push P gs f a.1 p)

pub each_at : (P : FunctionTree → Type 0) (fs : List FunctionTree) (k : ℕ) (f : FunctionTree) → Each P fs → slice_get fs k ≡ Some f → P f
each_at P [] k f a e = cc
each_at P (g ∷ gs) zero f a e = let same : g ≡ f = cc in subst P same a.0
each_at P (g ∷ gs) (suc k) f a e = each_at P gs k f a.1 e

-- a list keeps what a further callee keeps
keeps_callee : (Q : List FunctionTree → Type 0) (fs : List FunctionTree) (x : List ℕ) (c : Option Callee) → Q fs
    → ((n : ℕ) (f : FunctionTree) → c ≡ Some (defined n f) → is_found x fs ≡ false → Q (fs ++ f ∷ [])) → Q (with_callee fs x c)
keeps_callee Q fs x None q h = q
keeps_callee Q fs x (Some (built_in b)) q h = q
keeps_callee Q fs x (Some (defined n f)) q h = go (is_found x fs) refl
  where
    go : (b : Bool) → is_found x fs ≡ b → Q (cond b fs (fs ++ f ∷ []))
    go true e = q
    go false e = h n f refl e

keeps_names : (Q : List FunctionTree → Type 0) (d : Declared) (fs : List FunctionTree) (xs : List (List ℕ)) → Q fs
    → ((gs : List FunctionTree) (x : List ℕ) (n : ℕ) (f : FunctionTree) → Q gs → Among x xs → callee d x ≡ Some (defined n f) → is_found x gs ≡ false
    → Q (gs ++ f ∷ [])) → Q (with_names d fs xs)
keeps_names Q d fs [] q h = q
keeps_names Q d fs (x ∷ xs) q h =
    keeps_names Q d (with_callee fs x (callee d x)) xs (keeps_callee Q fs x (callee d x) q (λ n f e a. h fs x n f q (inl refl) e a))
    (λ gs y n f r m e a. h gs y n f r (inr m) e a)

-- NAMES

pub text_is : (x y : List ℕ) → bytes_eq x y ≡ true → x ≡ y
text_is x y e = (bytes_eq-Decides x y).0 e

pub text_same : (x y : List ℕ) → x ≡ y → bytes_eq x y ≡ true
text_same x y e = (bytes_eq-Decides x y).1 e

texts : IsEquivalence bytes_eq
texts = record {
  refl = λ x. text_same x x refl;
  symm = λ x y. bytes_eq-swap x y;
  congr = λ x y z e. ap (λ t. bytes_eq t z) (text_is x y e);
}

named_function : (x : List ℕ) (n : ℕ) (fs : List FunctionTree) (k : ℕ) (f : FunctionTree) → function_named x n fs ≡ Some (defined k f) → x ≡ f.function.text
named_function x n [] k f e = cc
named_function x n (g ∷ gs) k f e = go (bytes_eq x g.function.text) refl e (named_function x (n + 1) gs k f)
  where
    go : (b : Bool) → bytes_eq x g.function.text ≡ b → cond b (Some (defined n g)) (function_named x (n + 1) gs) ≡ Some (defined k f)
        → (function_named x (n + 1) gs ≡ Some (defined k f) → x ≡ f.function.text) → x ≡ f.function.text
    go true t h rest =
        let same : defined n g ≡ defined k f = cc in
        let there : g ≡ f = cc in
        text_is x g.function.text t ∙ ap (λ z. z.function.text) there
    go false t h rest = rest h

pub no_built_in : (d : Declared) (x : List ℕ) (o : Option BuiltIn) (n : ℕ) (f : FunctionTree) → callee_or_function d x o ≡ Some (defined n f) → o ≡ None
no_built_in d x None n f e = refl
no_built_in d x (Some b) n f e = let other : built_in b ≡ defined n f = cc in cc

pub callee_name : (d : Declared) (x : List ℕ) (n : ℕ) (f : FunctionTree) → callee d x ≡ Some (defined n f) → x ≡ f.function.text
callee_name d x n f e =
    named_function x 0 d.functions n f (sym (ap (callee_or_function d x) (no_built_in d x (built_in_named d x) n f e)) ∙ e)

-- a function that its name means: the first of that name
abbrev pub IsNamed : Declared → FunctionTree → Type 0
IsNamed d f = (n : ℕ) × (callee d f.function.text ≡ Some (defined n f))

pub is_named : (d : Declared) (x : List ℕ) (n : ℕ) (f : FunctionTree) → callee d x ≡ Some (defined n f) → IsNamed d f
is_named d x n f e = (n, sym (ap (callee d) (callee_name d x n f e)) ∙ e)

found_any : (x : List ℕ) (fs : List FunctionTree) → is_found x fs ≡ list_any (bytes_eq x) (map function_name fs)
found_any x [] = refl
found_any x (f ∷ fs) = go (bytes_eq x f.function.text) (number_in x (map function_name fs)) (found_any x fs)
  where
    go : (b : Bool) (o : Option ℕ) → is_some o ≡ list_any (bytes_eq x) (map function_name fs)
        → is_some (cond b (Some 0) (option_map (λ k. k + 1) o)) ≡ (b || list_any (bytes_eq x) (map function_name fs))
    go true o h = refl
    go false None h = h
    go false (Some k) h = h

or_left : (a b : Bool) → a ≡ true → (a || b) ≡ true
or_left true b e = refl
or_left false b e = cc

or_right : (a b : Bool) → b ≡ true → (a || b) ≡ true
or_right true b e = refl
or_right false b e = e

found_parts : (x : List ℕ) (fs gs : List FunctionTree) → is_found x (fs ++ gs) ≡ (is_found x fs || is_found x gs)
found_parts x fs gs =
    found_any x (fs ++ gs)
    ∙ ap (list_any (bytes_eq x)) (map-append function_name fs gs)
    ∙ list_any-append (bytes_eq x) (map function_name fs) (map function_name gs)
    ∙ sym (ap₂ (λ a b. a || b) (found_any x fs) (found_any x gs))

found_before : (x : List ℕ) (fs gs : List FunctionTree) → is_found x fs ≡ true → is_found x (fs ++ gs) ≡ true
found_before x fs gs e = found_parts x fs gs ∙ or_left (is_found x fs) (is_found x gs) e

found_last : (x : List ℕ) (fs : List FunctionTree) (f : FunctionTree) → x ≡ f.function.text → is_found x (fs ++ f ∷ []) ≡ true
found_last x fs f e =
    found_parts x fs (f ∷ [])
    ∙ or_right (is_found x fs) (is_found x (f ∷ [])) (found_any x (f ∷ []) ∙ or_left (bytes_eq x f.function.text) false (text_same x f.function.text e))

-- a list that goes on with further functions
pub record Extends (fs gs : List FunctionTree) : Type 0 where
  pub more : List FunctionTree
  pub is : gs ≡ fs ++ more

extends_itself : (fs : List FunctionTree) → Extends fs fs
extends_itself fs = record { more = []; is = sym (append_nothing fs) }
  where
    append_nothing : (xs : List FunctionTree) → xs ++ [] ≡ xs
    append_nothing [] = refl
    append_nothing (x ∷ xs) = ap (λ l. x ∷ l) (append_nothing xs)

extends_push : (fs gs : List FunctionTree) (f : FunctionTree) → Extends fs gs → Extends fs (gs ++ f ∷ [])
extends_push fs gs f h = record { more = h.more ++ f ∷ []; is = ap (λ l. l ++ f ∷ []) h.is ∙ append_assoc fs h.more (f ∷ []) }

extends_names : (d : Declared) (fs : List FunctionTree) (xs : List (List ℕ)) → Extends fs (with_names d fs xs)
extends_names d fs xs = keeps_names (Extends fs) d fs xs (extends_itself fs) (λ gs x n f h m e a. extends_push fs gs f h)

found_extended : (x : List ℕ) (fs gs : List FunctionTree) → Extends fs gs → is_found x fs ≡ true → is_found x gs ≡ true
found_extended x fs gs h e = ap (is_found x) h.is ∙ found_before x fs h.more e

pub at_extended : (fs gs : List FunctionTree) (k : ℕ) (f : FunctionTree) → Extends fs gs → slice_get fs k ≡ Some f → slice_get gs k ≡ Some f
at_extended fs gs k f h e = ap (λ l. slice_get l k) h.is ∙ further fs h.more k e
  where
    further : (xs ys : List FunctionTree) (i : ℕ) → slice_get xs i ≡ Some f → slice_get (xs ++ ys) i ≡ Some f
    further [] ys i q = cc
    further (x ∷ xs) ys zero q = q
    further (x ∷ xs) ys (suc i) q = further xs ys i q

-- each name is found after its callee
found_with : (d : Declared) (fs : List FunctionTree) (x : List ℕ) (n : ℕ) (f : FunctionTree) → callee d x ≡ Some (defined n f)
    → is_found x (with_callee fs x (callee d x)) ≡ true
found_with d fs x n f e = ap (λ c. is_found x (with_callee fs x c)) e ∙ go (is_found x fs) refl
  where
    go : (b : Bool) → is_found x fs ≡ b → is_found x (cond b fs (fs ++ f ∷ [])) ≡ true
    go true h = h
    go false h = found_last x fs f (callee_name d x n f e)

found_names : (d : Declared) (fs : List FunctionTree) (xs : List (List ℕ)) (x : List ℕ) (n : ℕ) (f : FunctionTree) → Among x xs
    → callee d x ≡ Some (defined n f) → is_found x (with_names d fs xs) ≡ true
found_names d fs [] x n f m e = absurd m
found_names d fs (y ∷ ys) x n f (inl m) e =
    let gs = with_callee fs y (callee d y) in
    let here : is_found x gs ≡ true = subst (λ t. is_found x (with_callee fs t (callee d t)) ≡ true) m (found_with d fs x n f e) in
    found_extended x gs (with_names d gs ys) (extends_names d gs ys) here
found_names d fs (y ∷ ys) x n f (inr m) e = found_names d (with_callee fs y (callee d y)) ys x n f m e

-- ALL HAVE BEEN READ

pub record IsList (d : Declared) (fs : List FunctionTree) : Type 0 where
  pub named : Each (IsNamed d) fs
  pub distinct : IsDistinct bytes_eq (map function_name fs)

list_push : (d : Declared) (gs : List FunctionTree) (x : List ℕ) (n : ℕ) (f : FunctionTree) → IsList d gs → callee d x ≡ Some (defined n f)
    → is_found x gs ≡ false → IsList d (gs ++ f ∷ [])
list_push d gs x n f h e a =
    let absent : list_any (bytes_eq f.function.text) (map function_name gs) ≡ false =
    sym (found_any f.function.text gs) ∙ ap (λ t. is_found t gs) (sym (callee_name d x n f e)) ∙ a in
    record {
      named = each_push (IsNamed d) gs f h.named (is_named d x n f e);
      distinct = subst (IsDistinct bytes_eq) (sym (map-append function_name gs (f ∷ [])))
          (IsDistinct-push texts (map function_name gs) f.function.text h.distinct absent);
    }

list_names : (d : Declared) (fs : List FunctionTree) (xs : List (List ℕ)) → IsList d fs → IsList d (with_names d fs xs)
list_names d fs xs h = keeps_names (IsList d) d fs xs h (λ gs x n f l m e a. list_push d gs x n f l e a)

abbrev first_callees : Declared → List FunctionTree
first_callees d = with_callee [] (codes "main") (callee d (codes "main"))

list_known : (d : Declared) (n : ℕ) → IsList d (known_after d n)
unfolding IsDistinct
list_known d zero = list_names d [] (codes "main" ∷ []) (record { named = tt; distinct = tt })
list_known d (suc n) = go (slice_get (known_after d n) n) (list_known d n)
  where
    go : (o : Option FunctionTree) → IsList d (known_after d n) → IsList d (read_one d (known_after d n) o)
    go None h = h
    go (Some f) h = subst (IsList d) (sym (in_statements d (known_after d n) f.body.statements))
        (list_names d (known_after d n) (read_by_all f.body.statements) h)

any_at : (x : List ℕ) (fs : List FunctionTree) (k : ℕ) (f : FunctionTree) → slice_get fs k ≡ Some f → bytes_eq x f.function.text ≡ true
    → list_any (bytes_eq x) (map function_name fs) ≡ true
any_at x [] k f e t = cc
any_at x (g ∷ gs) zero f e t = let same : g ≡ f = cc in
    or_left (bytes_eq x g.function.text) (list_any (bytes_eq x) (map function_name gs)) (ap (λ z. bytes_eq x z.function.text) same ∙ t)
any_at x (g ∷ gs) (suc k) f e t = or_right (bytes_eq x g.function.text) (list_any (bytes_eq x) (map function_name gs)) (any_at x gs k f e t)

named_there : (d : Declared) (x : List ℕ) (fs : List FunctionTree) → Each (IsNamed d) fs → list_any (bytes_eq x) (map function_name fs) ≡ true
    → list_any (bytes_eq x) (map function_name d.functions) ≡ true
named_there d x [] a e = cc
named_there d x (f ∷ fs) a e = go (bytes_eq x f.function.text) refl e (named_there d x fs a.1)
  where
    go : (b : Bool) → bytes_eq x f.function.text ≡ b → (b || list_any (bytes_eq x) (map function_name fs)) ≡ true
        → (list_any (bytes_eq x) (map function_name fs) ≡ true → list_any (bytes_eq x) (map function_name d.functions) ≡ true)
        → list_any (bytes_eq x) (map function_name d.functions) ≡ true
    go true t h rest = any_at x d.functions a.0.0 f (callee_there d f.function.text a.0.0 f a.0.1) t
    go false t h rest = rest h

list_count : (d : Declared) (fs : List FunctionTree) → IsList d fs → length fs ≤ length d.functions
list_count d fs h =
    let names = length-le_from_is_member texts (map function_name fs) (map function_name d.functions) h.distinct (λ q e. named_there d q fs h.named e) in
    let one = length-map fs function_name in
    let two = length-map d.functions function_name in
    omega arith

-- the functions that these call are found among those
pub record Closed (d : Declared) (f : FunctionTree) (fs : List FunctionTree) : Type 0 where
  pub found : (x : List ℕ) (n : ℕ) (g : FunctionTree) → Among x (names_by_all f.body.statements) → callee d x ≡ Some (defined n g) → is_found x fs ≡ true

closed_extended : (d : Declared) (f : FunctionTree) (fs gs : List FunctionTree) → Extends fs gs → Closed d f fs → Closed d f gs
closed_extended d f fs gs h c = record { found = λ x n g m e. found_extended x fs gs h (c.found x n g m e) }

pub extends_read : (d : Declared) (fs : List FunctionTree) (f : FunctionTree) → Extends fs (read_one d fs (Some f))
extends_read d fs f = subst (Extends fs) (sym (in_statements d fs f.body.statements)) (extends_names d fs (read_by_all f.body.statements))

closed_read : (d : Declared) (fs : List FunctionTree) (f : FunctionTree) → Closed d f (read_one d fs (Some f))
closed_read d fs f = record {
  found = λ x n g m e. ap (is_found x) (in_statements d fs f.body.statements)
      ∙ found_names d fs (read_by_all f.body.statements) x n g ((same_names_all f.body.statements x).0 m) e;
}

up_to : (i n : ℕ) → i < suc n → (i < n) ⊎ (i ≡ n)
up_to zero zero l = inr refl
up_to zero (suc n) l = inl (omega arith)
up_to (suc i) zero l = absurd (omega arith)
up_to (suc i) (suc n) l = next (up_to i n (omega arith))
  where
    next : (i < n) ⊎ (i ≡ n) → (suc i < suc n) ⊎ (suc i ≡ suc n)
    next (inl m) = inl (omega arith)
    next (inr e) = inr (ap suc e)

-- those before the n-th have been read
read_before : (d : Declared) (n i : ℕ) (f : FunctionTree) → i < n → slice_get (known_after d n) i ≡ Some f → Closed d f (known_after d n)
read_before d zero i f l e = absurd (omega arith)
read_before d (suc n) i f l e = go (slice_get fs n) refl e (up_to i n l) (read_before d n i f)
  where
    fs : List FunctionTree
    fs = known_after d n

    place : (k : FunctionTree) → slice_get fs n ≡ Some k → (i < n) ⊎ (i ≡ n) → slice_get (read_one d fs (Some k)) i ≡ Some f → slice_get fs i ≡ Some f
    place k h side g =
        let last = slice_get_within fs n k h in
        let here = slice_get-get_or fs i f (let up = l in omega arith) in
        let still = at_extended fs (read_one d fs (Some k)) i (get_or fs i f) (extends_read d fs k) here in
        here ∙ sym still ∙ g

    go : (o : Option FunctionTree) → slice_get fs n ≡ o → slice_get (read_one d fs o) i ≡ Some f → (i < n) ⊎ (i ≡ n)
        → (i < n → slice_get fs i ≡ Some f → Closed d f fs) → Closed d f (read_one d fs o)
    go None h g (inl m) rest = rest m g
    go None h g (inr q) rest = let no : Some f ≡ None = sym g ∙ ap (slice_get fs) q ∙ h in cc
    go (Some k) h g (inl m) rest = closed_extended d f fs (read_one d fs (Some k)) (extends_read d fs k) (rest m (place k h (inl m) g))
    go (Some k) h g (inr q) rest =
        let same : k ≡ f = some_is k f (sym h ∙ ap (slice_get fs) (sym q) ∙ place k h (inr q) g) in
        subst (λ z. Closed d z (read_one d fs (Some k))) same (closed_read d fs k)

pub closed_reached : (d : Declared) (k : ℕ) (f : FunctionTree) → slice_get (reached d) k ≡ Some f → Closed d f (reached d)
closed_reached d k f e =
    let count = list_count d (reached d) (list_known d (length d.functions)) in
    let within = slice_get_within (reached d) k f e in
    read_before d (length d.functions) k f (omega arith) e

-- what holds of `main`, and of each function that is called where it holds
pub each_known : (P : FunctionTree → Type 0) (d : Declared) → ((n : ℕ) (f : FunctionTree) → callee d (codes "main") ≡ Some (defined n f) → P f)
    → ((f : FunctionTree) → P f → (x : List ℕ) (n : ℕ) (g : FunctionTree) → Among x (names_by_all f.body.statements) → callee d x ≡ Some (defined n g)
    → P g) → (n : ℕ) → Each P (known_after d n)
each_known P d first further zero = keeps_callee (Each P) [] (codes "main") (callee d (codes "main")) tt (λ n f e a. (first n f e, tt))
each_known P d first further (suc n) = go (slice_get (known_after d n) n) refl (each_known P d first further n)
  where
    go : (o : Option FunctionTree) → slice_get (known_after d n) n ≡ o → Each P (known_after d n) → Each P (read_one d (known_after d n) o)
    go None e h = h
    go (Some f) e h =
        subst (Each P) (sym (in_statements d (known_after d n) f.body.statements))
        (keeps_names (Each P) d (known_after d n) (read_by_all f.body.statements) h
        (λ gs x m g q among c a. each_push P gs g q (further f (each_at P (known_after d n) n f h e) x m g ((same_names_all f.body.statements x).1 among) c)))

-- A NAME MEANS THE SAME FUNCTION THERE

named_again : (d : Declared) (x : List ℕ) (n m : ℕ) (f : FunctionTree) (fs : List FunctionTree) → callee d x ≡ Some (defined n f)
    → Each (IsNamed d) fs → is_found x fs ≡ true → (k : ℕ) × (function_named x m fs ≡ Some (defined k f))
named_again d x n m f [] e a t = cc
named_again d x n m f (g ∷ gs) e a t = go (bytes_eq x g.function.text) refl (sym (found_any x (g ∷ gs)) ∙ t) (named_again d x n (m + 1) f gs e a.1)
  where
    go : (b : Bool) → bytes_eq x g.function.text ≡ b → (b || list_any (bytes_eq x) (map function_name gs)) ≡ true
        → (is_found x gs ≡ true → (k : ℕ) × (function_named x (m + 1) gs ≡ Some (defined k f)))
        → (k : ℕ) × (cond b (Some (defined m g)) (function_named x (m + 1) gs) ≡ Some (defined k f))
    go true h q rest =
        let both : Some (defined a.0.0 g) ≡ Some (defined n f) = sym a.0.1 ∙ ap (callee d) (sym (text_is x g.function.text h)) ∙ e in
        let one : defined a.0.0 g ≡ defined n f = cc in
        let same : g ≡ f = cc in
        (m, ap (λ z. Some (defined m z)) same)
    go false h q rest = rest (found_any x gs ∙ q)

no_function : (x : List ℕ) (n : ℕ) (fs : List FunctionTree) (b : BuiltIn) → function_named x n fs ≡ Some (built_in b) → ⊥
no_function x n [] b e = cc
no_function x n (f ∷ fs) b e = go (bytes_eq x f.function.text) e (no_function x (n + 1) fs b)
  where
    go : (t : Bool) → cond t (Some (defined n f)) (function_named x (n + 1) fs) ≡ Some (built_in b) → (function_named x (n + 1) fs ≡ Some (built_in b) → ⊥) → ⊥
    go true h rest = let other : defined n f ≡ built_in b = cc in cc
    go false h rest = rest h

same_built_in : (d k : Declared) (x : List ℕ) (o : Option BuiltIn) (b : BuiltIn) → callee_or_function d x o ≡ Some (built_in b)
    → callee_or_function k x o ≡ Some (built_in b)
same_built_in d k x (Some c) b e = e
same_built_in d k x None b e = absurd (no_function x 0 d.functions b e)

found_agrees : (d : Declared) (fs : List FunctionTree) (x : List ℕ) → Each (IsNamed d) fs
    → ((n : ℕ) (f : FunctionTree) → callee d x ≡ Some (defined n f) → is_found x fs ≡ true) → Agrees d (with_functions d fs) x
found_agrees d fs x a h = record { defined = function; built_in = λ b e. same_built_in d (with_functions d fs) x (built_in_named d x) b e }
  where
    function : (n : ℕ) (f : FunctionTree) → callee d x ≡ Some (defined n f) → (m : ℕ) × (callee (with_functions d fs) x ≡ Some (defined m f))
    function n f e =
        let r = named_again d x n 0 f fs e a (h n f e) in
        (r.0, ap (callee_or_function (with_functions d fs) x) (no_built_in d x (built_in_named d x) n f e) ∙ r.1)

pub reached_agree : (d : Declared) (k : ℕ) (f : FunctionTree) → slice_get (reached d) k ≡ Some f
    → Agree d (with_functions d (reached d)) (names_by_all f.body.statements)
reached_agree d k f e = λ x m. found_agrees d (reached d) x (list_known d (length d.functions)).named (λ n g c. (closed_reached d k f e).found x n g m c)
