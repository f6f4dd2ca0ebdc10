-- Typed expressions name only slots that are known and functions that are there.
use Rattle.std.proofs.Common.{◌≡◌, ℕ, suc, ◌+◌, ◌<◌, ◌≤◌, List, [], ◌∷◌, ◌++◌, length, refl, sym, ap, ◌∙◌, subst, Option, Some, None, Bool, true}
use Rattle.std.proofs.Common.{false, cond, arith}
use Rattle.std.specs.Prelude.{map, bytes_eq, nat_eq, option_map, option_and_then}
use Rattle.std.specs.List.{slice_get}
use Rattle.std.proofs.lemmas.Option.{slice_get-map}
use Rattle.program_trees.specs.Tree.{Tree, Trees, number, truth, variable, call, index, parentheses, negation, cast, binary, declassify, argument, publish}
use Rattle.program_trees.specs.Tree as Tree'
use Rattle.program_trees.specs.Programs.{FunctionTree}
use Rattle.declarations.specs.declared.built_in.BuiltIn.{BuiltIn}
use Rattle.declarations.specs.declared.built_in.BuiltIn.TheVariants.{Size, Cat, Sum, BitExtract, Lookup}
use Rattle.declarations.specs.Declarations.{Declared, Callee, built_in, defined, built_in_named, function_named, callee_or_function, callee}
use Rattle.program_trees.specs.declared.operators.BinaryOperator.{BinaryOperator}
use Rattle.program_trees.specs.declared.operators.Connective.{Connective}
use Rattle.program_trees.specs.TypedTree.{call_node, typed_trees_of}
use Rattle.program_trees.specs.Operators.{operator_on, operands_of, may_cut_short}
use Rattle.name_resolution.specs.Scopes.{Variable, Scope, variable_in, variable_named}
use Rattle.name_resolution.specs.Values.{TypedValue, TypedCall, of_both, variable_value, element_value, negated, cast_value, declassified_value}
use Rattle.name_resolution.specs.Values.{operation_node, operation_made, operation, gives_value, with_shape, value_given, shape_returned}
use Rattle.name_resolution.specs.Values.{tree_of_value, built_in_value, called, and_more, value, values}
use Rattle.program_trees.specs.Sound.{count_of, IsSoundTree, AreSoundTrees}

-- WHAT IS THERE

pub record Mapped {A B : Type 0} (f : A → B) (o : Option A) (b : B) : Type 0 where
  pub part : A
  pub there : o ≡ Some part
  pub is : f part ≡ b

pub mapped : {A B : Type 0} (f : A → B) (o : Option A) (b : B) → option_map f o ≡ Some b → Mapped f o b
mapped f None b e = cc
mapped f (Some a) b e = record { part = a; there = refl; is = cc }

pub record Both {A B C : Type 0} (rule : A → B → Option C) (o : Option A) (p : Option B) (c : C) : Type 0 where
  pub left : A
  pub right : B
  pub left_there : o ≡ Some left
  pub right_there : p ≡ Some right
  pub is : rule left right ≡ Some c

pub both_there : {A B C : Type 0} (rule : A → B → Option C) (o : Option A) (p : Option B) (c : C) → of_both rule o p ≡ Some c → Both rule o p c
both_there rule None p c e = cc
both_there rule (Some a) None c e = cc
both_there rule (Some a) (Some b) c e = record { left = a; right = b; left_there = refl; right_there = refl; is = e }

pub record Then {A B : Type 0} (f : A → Option B) (o : Option A) (b : B) : Type 0 where
  pub part : A
  pub there : o ≡ Some part
  pub is : f part ≡ Some b

pub then_there : {A B : Type 0} (f : A → Option B) (o : Option A) (b : B) → option_and_then f o ≡ Some b → Then f o b
then_there f None b e = cc
then_there f (Some a) b e = record { part = a; there = refl; is = e }

pub some_is : {A : Type 0} (a b : A) → Some a ≡ Some b → a ≡ b
some_is a b e = cc

-- FUNCTIONS BY THEIR NAMES

abbrev pub arity : FunctionTree → ℕ
arity f = length f.parameters

abbrev pub arities : Declared → List ℕ
arities d = map arity d.functions

function_there : (x : List ℕ) (n : ℕ) (fs : List FunctionTree) (k : ℕ) (f : FunctionTree) → function_named x n fs ≡ Some (defined k f)
    → (m : ℕ) × (k ≡ n + m) × (slice_get fs m ≡ Some f)
function_there x n [] k f e = cc
function_there x n (g ∷ gs) k f e = go (bytes_eq x g.function.text) e (function_there x (n + 1) gs k f)
  where
    go : (b : Bool) → cond b (Some (defined n g)) (function_named x (n + 1) gs) ≡ Some (defined k f)
        → (function_named x (n + 1) gs ≡ Some (defined k f) → (m : ℕ) × (k ≡ n + 1 + m) × (slice_get gs m ≡ Some f))
        → (m : ℕ) × (k ≡ n + m) × (slice_get (g ∷ gs) m ≡ Some f)
    go true h rest =
        let same : defined n g ≡ defined k f = cc in
        let first : n ≡ k = cc in
        let second : g ≡ f = cc in
        (0, omega arith, ap Some second)
    go false h rest =
        let r = rest h in
        let at : k ≡ n + 1 + r.0 = r.1 in
        (suc r.0, omega arith, r.2)

pub callee_there : (d : Declared) (x : List ℕ) (k : ℕ) (f : FunctionTree) → callee d x ≡ Some (defined k f) → slice_get d.functions k ≡ Some f
callee_there d x k f e = go (built_in_named d x) e
  where
    go : (o : Option BuiltIn) → callee_or_function d x o ≡ Some (defined k f) → slice_get d.functions k ≡ Some f
    go (Some b) h = let other : built_in b ≡ defined k f = cc in cc
    go None h =
        let r = function_there x 0 d.functions k f h in
        let at : r.0 ≡ k = let same : k ≡ 0 + r.0 = r.1 in omega arith in
        sym (ap (slice_get d.functions) at) ∙ r.2

-- VARIABLES

-- the slots of variables are below n
abbrev pub AreBelow : ℕ → List Variable → Type 0
AreBelow n [] = Unit {0}
AreBelow n (v ∷ vs) = (v.known.slot < n) × AreBelow n vs

pub below_more : (m n : ℕ) (vs : List Variable) → m ≤ n → AreBelow m vs → AreBelow n vs
below_more m n [] h b = tt
below_more m n (v ∷ vs) h b = let one : v.known.slot < m = b.0 in (omega arith, below_more m n vs h b.1)

pub below_append : (n : ℕ) (us vs : List Variable) → AreBelow n us → AreBelow n vs → AreBelow n (us ++ vs)
below_append n [] vs b c = c
below_append n (u ∷ us) vs b c = (b.0, below_append n us vs b.1 c)

pub below_named : (n : ℕ) (x : List ℕ) (vs : List Variable) (v : Variable) → AreBelow n vs → variable_in x vs ≡ Some v → v.known.slot < n
below_named n x [] v b e = cc
below_named n x (u ∷ us) v b e = go (bytes_eq x u.name) e (below_named n x us v b.1)
  where
    go : (t : Bool) → cond t (Some u) (variable_in x us) ≡ Some v → (variable_in x us ≡ Some v → v.known.slot < n) → v.known.slot < n
    go true h rest = subst (λ (z : Variable). z.known.slot < n) (some_is u v h) b.0
    go false h rest = rest h

-- EXPRESSIONS

abbrev pub SoundValue : ℕ → Declared → TypedValue → Type 0
SoundValue n d v = IsSoundTree n (arities d) v.tree

abbrev pub SoundValues : ℕ → Declared → List TypedValue → Type 0
SoundValues n d [] = Unit {0}
SoundValues n d (v ∷ vs) = SoundValue n d v × SoundValues n d vs

sound_trees : (n : ℕ) (d : Declared) (vs : List TypedValue) → SoundValues n d vs → AreSoundTrees n (arities d) (typed_trees_of (map tree_of_value vs))
sound_trees n d [] s = tt
sound_trees n d (v ∷ vs) s = (s.0, sound_trees n d vs s.1)

count_trees : (vs : List TypedValue) → count_of (typed_trees_of (map tree_of_value vs)) ≡ length vs
count_trees [] = refl
count_trees (v ∷ vs) = let more = count_trees vs in omega arith

as_value : (n : ℕ) (d : Declared) (v w : TypedValue) → SoundValue n d v → v ≡ w → SoundValue n d w
as_value n d v w s e = subst (SoundValue n d) e s

-- a built-in call
sound_built_in : (n : ℕ) (d : Declared) (line : ℕ) (b : BuiltIn) (vs : List TypedValue) (v : TypedValue) → SoundValues n d vs
    → built_in_value line b vs ≡ Some v → SoundValue n d v
sound_built_in n d line Size [] v s e = cc
sound_built_in n d line Size (a ∷ []) v s e = as_value n d _ v s.0 (some_is _ v e)
sound_built_in n d line Size (a ∷ b ∷ vs) v s e = cc
sound_built_in n d line Cat [] v s e = cc
sound_built_in n d line Cat (a ∷ []) v s e = cc
sound_built_in n d line Cat (a ∷ b ∷ []) v s e = as_value n d _ v (s.0, s.1.0) (some_is _ v e)
sound_built_in n d line Cat (a ∷ b ∷ c ∷ vs) v s e = cc
sound_built_in n d line Sum [] v s e = cc
sound_built_in n d line Sum (a ∷ []) v s e = as_value n d _ v s.0 (some_is _ v e)
sound_built_in n d line Sum (a ∷ b ∷ vs) v s e = cc
sound_built_in n d line BitExtract [] v s e = cc
sound_built_in n d line BitExtract (a ∷ []) v s e = as_value n d _ v s.0 (some_is _ v e)
sound_built_in n d line BitExtract (a ∷ b ∷ vs) v s e = cc
sound_built_in n d line Lookup [] v s e = cc
sound_built_in n d line Lookup (a ∷ []) v s e = cc
sound_built_in n d line Lookup (a ∷ i ∷ []) v s e = as_value n d _ v (s.0, s.1.0) (some_is _ v e)
sound_built_in n d line Lookup (a ∷ i ∷ c ∷ vs) v s e = cc

pub sound_called : (n : ℕ) (d : Declared) (line : ℕ) (x : List ℕ) (k : Callee) (vs : List TypedValue) (c : TypedCall) → callee d x ≡ Some k
    → SoundValues n d vs → called line k vs ≡ Some c → IsSoundTree n (arities d) c.tree
sound_called n d line x (built_in b) vs c h s e =
    let m = mapped gives_value (built_in_value line b vs) c e in
    subst (λ (z : TypedCall). IsSoundTree n (arities d) z.tree) m.is (sound_built_in n d line b vs m.part s m.there)
sound_called n d line x (defined k f) vs c h s e = go (nat_eq (length f.parameters) (length vs)) refl e
  where
    made : TypedCall
    made = record { tree = call_node line k (typed_trees_of (map tree_of_value vs)); gives = shape_returned f.returned }

    go : (b : Bool) → nat_eq (length f.parameters) (length vs) ≡ b → cond b (Some made) None ≡ Some c → IsSoundTree n (arities d) c.tree
    go false q g = cc
    go true q g =
        let same : length f.parameters ≡ length vs = grind arith in
        subst (λ (z : TypedCall). IsSoundTree n (arities d) z.tree) (some_is made c g)
        (slice_get-map arity d.functions k ∙ ap (option_map arity) (callee_there d x k f h) ∙ ap Some (same ∙ sym (count_trees vs)), sound_trees n d vs s)

sound_operation : (n : ℕ) (d : Declared) (line : ℕ) (op : BinaryOperator) (a b : TypedValue) (c : Option Connective) → SoundValue n d a
    → SoundValue n d b → IsSoundTree n (arities d) (operation_node line op a b c)
sound_operation n d line op a b None s t = (s, t)
sound_operation n d line op a b (Some c) s t = (s, t)

mutual
  pub sound_value : (n : ℕ) (d : Declared) (s : Scope) → AreBelow n (s.block ++ s.outer) → (e : Tree) (v : TypedValue) → value d s e ≡ Some v → SoundValue n d v
  sound_value n d s b (number p w) v h = as_value n d _ v tt (some_is _ v h)
  sound_value n d s b (truth p w) v h = as_value n d _ v tt (some_is _ v h)
  sound_value n d s b (variable p x) v h =
      let m = mapped variable_value (variable_named s x) v h in
      as_value n d _ v (below_named n x (s.block ++ s.outer) m.part b m.there) m.is
  sound_value n d s b (call p x es) v h =
      let t = then_there value_given (of_both (called p.line) (callee d x) (values d s es)) v h in
      let m = both_there (called p.line) (callee d x) (values d s es) t.part t.there in
      let g = mapped (with_shape t.part.tree) t.part.gives v t.is in
      as_value n d _ v (sound_called n d p.line x m.left m.right t.part m.left_there (sound_values n d s b es m.right m.right_there) m.is) g.is
  sound_value n d s b (index p a i) v h =
      let m = both_there (element_value p.line) (value d s a) (value d s i) v h in
      as_value n d _ v (sound_value n d s b a m.left m.left_there, sound_value n d s b i m.right m.right_there) (some_is _ v m.is)
  sound_value n d s b (parentheses p e) v h = sound_value n d s b e v h
  sound_value n d s b (negation p e) v h =
      let m = mapped negated (value d s e) v h in
      as_value n d _ v (sound_value n d s b e m.part m.there) m.is
  sound_value n d s b (cast p t e) v h =
      let m = mapped (cast_value t) (value d s e) v h in
      as_value n d _ v (sound_value n d s b e m.part m.there) m.is
  sound_value n d s b (binary p op a c) v h =
      let m = both_there (operation p.line op) (value d s a) (value d s c) v h in
      let o = mapped (operation_made p.line op m.left m.right) (operator_on op m.left.shape.element m.right.shape.element) v m.is in
      as_value n d _ v (sound_operation n d p.line o.part m.left m.right (may_cut_short op (operands_of m.left.shape.array m.right.shape.array))
      (sound_value n d s b a m.left m.left_there) (sound_value n d s b c m.right m.right_there)) o.is
  sound_value n d s b (declassify p e) v h =
      let m = mapped declassified_value (value d s e) v h in
      as_value n d _ v (sound_value n d s b e m.part m.there) m.is
  sound_value n d s b (argument p x) v h = cc
  sound_value n d s b (publish p x e) v h = cc

  pub sound_values : (n : ℕ) (d : Declared) (s : Scope) → AreBelow n (s.block ++ s.outer) → (es : Trees) (vs : List TypedValue)
      → values d s es ≡ Some vs → SoundValues n d vs
  sound_values n d s b Tree'.none vs h = subst (SoundValues n d) (some_is [] vs h) tt
  sound_values n d s b (Tree'.also e es) vs h =
      let m = both_there and_more (value d s e) (values d s es) vs h in
      subst (SoundValues n d) (some_is (m.left ∷ m.right) vs m.is) (sound_value n d s b e m.left m.left_there, sound_values n d s b es m.right m.right_there)
