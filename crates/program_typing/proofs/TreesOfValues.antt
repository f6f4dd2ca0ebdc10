-- An expression that has a type has a typed tree, whose shape is that of its type.
use Rattle.std.proofs.Common.{◌≡◌, ℕ, List, [], ◌∷◌, ◌++◌, ◌⊎◌, inl, inr, length, refl, sym, ap, ap₂, ◌∙◌, subst, Option, Some, None, Bool, true, false, cond}
use Rattle.std.proofs.Common.{eq-eqb, arith}
use Rattle.std.specs.Prelude.{map, bytes_eq, option_map, option_and_then, ◌||◌}
use Rattle.sc_text.specs.declared.span.Span.{Span}
use Rattle.program_trees.specs.declared.expression.DataType.{DataType}
use Rattle.program_trees.specs.declared.expression.DataType.TheVariants.{Uint64, Int64}
use Rattle.program_trees.specs.declared.expression.DataType.TheVariants as datatype
use Rattle.program_trees.specs.declared.expression.Operator.{Operator}
use Rattle.program_trees.specs.declared.expression.Operator.TheVariants.{Add, Subtract, Multiply, Divide, Remainder, Equal, NotEqual, Less, LessOrEqual}
use Rattle.program_trees.specs.declared.expression.Operator.TheVariants.{Greater, GreaterOrEqual, And, Or, Xor, AndAlso, OrElse}
use Rattle.program_trees.specs.declared.function.Parameter.{Parameter}
use Rattle.program_trees.specs.declared.function.ResultType.{ResultType}
use Rattle.program_trees.specs.declared.function.ResultType.TheVariants as returned
use Rattle.program_trees.specs.Tree.{Tree, Trees, number, truth, variable, call, index, parentheses, negation, cast, binary, declassify, argument, publish}
use Rattle.program_trees.specs.Tree as Tree'
use Rattle.program_trees.specs.Programs.{FunctionTree}
use Rattle.domain_types.specs.declared.value_type.Argument.{Argument}
use Rattle.domain_types.specs.declared.value_type.Protection.{Protection}
use Rattle.domain_types.specs.declared.value_type.Protection.TheVariants.{Public}
use Rattle.domain_types.specs.declared.value_type.ValueType.{ValueType}
use Rattle.domain_types.specs.declared.value_type.ExpressionType.{ExpressionType}
use Rattle.domain_types.specs.declared.value_type.ExpressionType.TheVariants.{Void, Value}
use Rattle.domain_types.specs.BuiltIn.{BuiltIn}
use Rattle.domain_types.specs.BuiltIn.TheVariants.{Size, Cat, Sum, BitExtract, Lookup}
use Rattle.domain_types.specs.Types.{scalar_of, public_scalar}
use Rattle.domain_types.specs.Declarations.{Declared, Callee, built_in, defined, callee}
use Rattle.domain_types.specs.Settings.{Setting, in_domain, domain_of, type_written}
use Rattle.domain_types.specs.Scopes as checked
use Rattle.domain_types.specs.ExpressionTypes.{within, variable_type, result_type, cast_type, declassified}
use Rattle.sc_text.specs.Lists.{Among}
use Rattle.domain_types.specs.Typing.{IsNumber, OperatesOn, IsBuiltInCall, ParametersTake, IsCall, HasType, HaveTypes}
use Rattle.sc_text.proofs.Lists.{among_left, among_right}
use Rattle.program_trees.specs.declared.operators.OperatorSign.TheVariants as word
use Rattle.program_trees.specs.declared.operators.BoolOperator.TheVariants as truth_of
use Rattle.program_trees.specs.declared.operators.BinaryOperator.{BinaryOperator}
use Rattle.program_trees.specs.declared.operators.BinaryOperator.TheVariants.{Words, Ints, Bools}
use Rattle.program_trees.specs.TypedTree.{word_node, truth_node, call_node, size_node, cat_node, sum_node, bits_node, element_node, typed_trees_of}
use Rattle.program_trees.specs.Operators.{operator_on, element_made}
use Rattle.name_resolution.specs.Scopes.{Variable, Scope, variable_in, variable_named, shape_written}
use Rattle.name_resolution.specs.Values.{TypedValue, TypedCall, made, of_both, variable_value, element_value, negated, cast_value, declassified_value}
use Rattle.name_resolution.specs.Values.{operation_made, operation, gives_value, with_shape, value_given, shape_returned, tree_of_value, looked_up}
use Rattle.name_resolution.specs.Values.{built_in_value, called, and_more, value, values, call_made}
use Rattle.name_resolution.proofs.SoundValues.{mapped}

-- WHAT IS MADE

-- a value is there, of the shape of this type
pub record Makes (o : Option TypedValue) (t : ValueType) : Type 0 where
  pub value : TypedValue
  pub there : o ≡ Some value
  pub element : value.shape.element ≡ t.element
  pub array : value.shape.array ≡ t.array

-- a call is there, which gives a value of this type, if it's not void
pub record Gives (o : Option TypedCall) (t : ExpressionType) : Type 0 where
  pub call : TypedCall
  pub there : o ≡ Some call
  pub given : (v : ValueType) → t ≡ Value v → Makes (value_given call) v

abbrev pub SameShapes : List TypedValue → List Argument → Type 0
SameShapes [] [] = Unit {0}
SameShapes [] (g ∷ gs) = ⊥
SameShapes (v ∷ vs) [] = ⊥
SameShapes (v ∷ vs) (g ∷ gs) = (v.shape.element ≡ g.given.element) × (v.shape.array ≡ g.given.array) × SameShapes vs gs

pub record MakesAll (o : Option (List TypedValue)) (gs : List Argument) : Type 0 where
  pub values : List TypedValue
  pub there : o ≡ Some values
  pub same : SameShapes values gs

value_is : (x y : ValueType) → Value x ≡ Value y → x ≡ y
value_is x y e = cc

makes_as : (o : Option TypedValue) (x v : ValueType) → Makes o x → Value v ≡ Value x → Makes o v
makes_as o x v m e = subst (Makes o) (value_is x v (sym e)) m

-- SCOPES

-- a variable that the checker knows with this type has its shape
pub record SameVariable (v : checked.Variable) (u : Variable) : Type 0 where
  pub name : v.name ≡ u.name
  pub element : (t : ValueType) → v.held ≡ Some t → u.known.shape.element ≡ t.element
  pub array : (t : ValueType) → v.held ≡ Some t → u.known.shape.array ≡ t.array

abbrev pub SameVariables : List checked.Variable → List Variable → Type 0
SameVariables [] [] = Unit {0}
SameVariables [] (u ∷ us) = ⊥
SameVariables (v ∷ vs) [] = ⊥
SameVariables (v ∷ vs) (u ∷ us) = SameVariable v u × SameVariables vs us

-- the same variables in the same blocks
pub record Same (s : checked.Scope) (u : Scope) : Type 0 where
  pub block : SameVariables s.block u.block
  pub outer : SameVariables s.outer u.outer

pub same_append : (vs ws : List checked.Variable) (us xs : List Variable) → SameVariables vs us → SameVariables ws xs → SameVariables (vs ++ ws) (us ++ xs)
same_append [] ws [] xs m n = n
same_append [] ws (u ∷ us) xs m n = absurd m
same_append (v ∷ vs) ws [] xs m n = absurd m
same_append (v ∷ vs) ws (u ∷ us) xs m n = (m.0, same_append vs ws us xs m.1 n)

pub record Names (o : Option Variable) (t : ValueType) : Type 0 where
  pub variable : Variable
  pub there : o ≡ Some variable
  pub element : variable.known.shape.element ≡ t.element
  pub array : variable.known.shape.array ≡ t.array

names_in_list : (x : List ℕ) (vs : List checked.Variable) (us : List Variable) (t : ValueType) → SameVariables vs us
    → variable_type (checked.variable_in x vs) ≡ Some t → Names (variable_in x us) t
names_in_list x [] us t m e = cc
names_in_list x (v ∷ vs) [] t m e = absurd m
names_in_list x (v ∷ vs) (u ∷ us) t m e = go (bytes_eq x v.name) (bytes_eq x u.name) (ap (bytes_eq x) m.0.name) e (names_in_list x vs us t m.1)
  where
    go : (b c : Bool) → b ≡ c → variable_type (cond b (Some v) (checked.variable_in x vs)) ≡ Some t
        → (variable_type (checked.variable_in x vs) ≡ Some t → Names (variable_in x us) t) → Names (cond c (Some u) (variable_in x us)) t
    go true true q h rest = record { variable = u; there = refl; element = m.0.element t h; array = m.0.array t h }
    go true false q h rest = cc
    go false true q h rest = cc
    go false false q h rest = rest h

pub names_same : (s : checked.Scope) (u : Scope) (x : List ℕ) (t : ValueType) → Same s u → variable_type (checked.variable_named s x) ≡ Some t
    → Names (variable_named u x) t
names_same s u x t m e = names_in_list x (s.block ++ s.outer) (u.block ++ u.outer) t (same_append s.block s.outer u.block u.outer m.block m.outer) e

-- CALLS

-- a name means the same function in both, be it under another number
pub record Agrees (d k : Declared) (x : List ℕ) : Type 0 where
  pub defined : (n : ℕ) (f : FunctionTree) → callee d x ≡ Some (defined n f) → (m : ℕ) × (callee k x ≡ Some (defined m f))
  pub built_in : (b : BuiltIn) → callee d x ≡ Some (built_in b) → callee k x ≡ Some (built_in b)

abbrev pub Agree : Declared → Declared → List (List ℕ) → Type 0
Agree d k xs = (x : List ℕ) → Among x xs → Agrees d k x

pub agree_left : (d k : Declared) (xs ys : List (List ℕ)) → Agree d k (xs ++ ys) → Agree d k xs
agree_left d k xs ys a = λ x m. a x (among_left x xs ys m)

pub agree_right : (d k : Declared) (xs ys : List (List ℕ)) → Agree d k (xs ++ ys) → Agree d k ys
agree_right d k xs ys a = λ x m. a x (among_right x xs ys m)

-- the names that an expression calls, in the order of the calls
abbrev mutual
  pub names_in : Tree → List (List ℕ)
  names_in (number p n) = []
  names_in (truth p b) = []
  names_in (variable p x) = []
  names_in (call p x es) = names_in_all es ++ x ∷ []
  names_in (index p a i) = names_in a ++ names_in i
  names_in (parentheses p e) = names_in e
  names_in (negation p e) = names_in e
  names_in (cast p t e) = names_in e
  names_in (binary p op a b) = names_in a ++ names_in b
  names_in (declassify p e) = names_in e
  names_in (argument p x) = []
  names_in (publish p x e) = names_in e

  pub names_in_all : Trees → List (List ℕ)
  names_in_all Tree'.none = []
  names_in_all (Tree'.also e es) = names_in e ++ names_in_all es

built_in_makes : (line : ℕ) (b : BuiltIn) (gs : List Argument) (vs : List TypedValue) (t : ValueType) → SameShapes vs gs → IsBuiltInCall b gs t
    → Makes (built_in_value line b vs) t
built_in_makes line Size [] vs t s h = absurd h
built_in_makes line Size (a ∷ []) [] t s h = absurd s
built_in_makes line Size (a ∷ []) (v ∷ []) t s h =
    record { value = made (size_node v.tree) Uint64 false; there = refl; element = sym (ap (λ z. z.element) h.1); array = sym (ap (λ z. z.array) h.1) }
built_in_makes line Size (a ∷ []) (v ∷ u ∷ vs) t s h = absurd s.2
built_in_makes line Size (a ∷ b ∷ gs) vs t s h = absurd h
built_in_makes line Cat [] vs t s h = absurd h
built_in_makes line Cat (a ∷ []) vs t s h = absurd h
built_in_makes line Cat (a ∷ b ∷ []) [] t s h = absurd s
built_in_makes line Cat (a ∷ b ∷ []) (v ∷ []) t s h = absurd s.2
built_in_makes line Cat (a ∷ b ∷ []) (v ∷ u ∷ []) t s h =
    record { value = made (cat_node line v.tree u.tree) v.shape.element true; there = refl; element = s.0 ∙ sym h.3; array = sym h.4 }
built_in_makes line Cat (a ∷ b ∷ []) (v ∷ u ∷ w ∷ vs) t s h = let more : SameShapes (u ∷ w ∷ vs) (b ∷ []) = s.2 in absurd more.2
built_in_makes line Cat (a ∷ b ∷ c ∷ gs) vs t s h = absurd h
built_in_makes line Sum [] vs t s h = absurd h
built_in_makes line Sum (a ∷ []) [] t s h = absurd s
built_in_makes line Sum (a ∷ []) (v ∷ []) t s h =
    record {
      value = made (sum_node v.tree) v.shape.element false;
      there = refl;
      element = s.0 ∙ sym (ap (λ z. z.element) h.2);
      array =
          sym (ap (λ z. z.array) h.2);
    }
built_in_makes line Sum (a ∷ []) (v ∷ u ∷ vs) t s h = absurd s.2
built_in_makes line Sum (a ∷ b ∷ gs) vs t s h = absurd h
built_in_makes line BitExtract [] vs t s h = absurd h
built_in_makes line BitExtract (a ∷ []) [] t s h = absurd s
built_in_makes line BitExtract (a ∷ []) (v ∷ []) t s h =
    record {
      value = made (bits_node line v.tree) datatype.Bool true;
      there = refl;
      element = sym (ap (λ z. z.element) h.1);
      array =
          sym (ap (λ z. z.array) h.1);
    }
built_in_makes line BitExtract (a ∷ []) (v ∷ u ∷ vs) t s h = absurd s.2
built_in_makes line BitExtract (a ∷ b ∷ gs) vs t s h = absurd h
built_in_makes line Lookup [] vs t s h = absurd h
built_in_makes line Lookup (a ∷ []) vs t s h = absurd h
built_in_makes line Lookup (a ∷ i ∷ []) [] t s h = absurd s
built_in_makes line Lookup (a ∷ i ∷ []) (v ∷ []) t s h = absurd s.2
built_in_makes line Lookup (a ∷ i ∷ []) (v ∷ u ∷ []) t s h =
    record { value = looked_up line v u; there = refl; element = s.0 ∙ sym h.3; array = s.2.1 ∙ sym h.4 }
built_in_makes line Lookup (a ∷ i ∷ []) (v ∷ u ∷ w ∷ vs) t s h = let more : SameShapes (u ∷ w ∷ vs) (i ∷ []) = s.2 in absurd more.2
built_in_makes line Lookup (a ∷ i ∷ c ∷ gs) vs t s h = absurd h

taken_count : (w : Setting) (ps : List Parameter) (gs : List Argument) (vs : List TypedValue) → ParametersTake w ps gs → SameShapes vs gs
    → length ps ≡ length vs
taken_count w [] [] [] h s = refl
taken_count w [] [] (v ∷ vs) h s = absurd s
taken_count w [] (g ∷ gs) vs h s = absurd h
taken_count w (p ∷ ps) [] vs h s = absurd h
taken_count w (p ∷ ps) (g ∷ gs) [] h s = absurd s
taken_count w (p ∷ ps) (g ∷ gs) (v ∷ vs) h s = let more = taken_count w ps gs vs h.1 s.2 in omega arith

returned_makes : (w : Setting) (c : TypedCall) (r : ResultType) (v : ValueType) → c.gives ≡ shape_returned r → result_type w r ≡ Some (Value v)
    → Makes (value_given c) v
returned_makes w c returned.Void v g e = let no : Void ≡ Value v = cc in cc
returned_makes w c (returned.Value r) v g e =
    let m = mapped Value (type_written w r) (Value v) e in
    let n = mapped (in_domain r) (domain_of w r.domain) m.part m.there in
    let same = n.is ∙ value_is m.part v m.is in
    record {
      value = with_shape c.tree (shape_written r);
      there = ap (option_map (with_shape c.tree)) g;
      element = ap (λ z. z.element) same;
      array = ap (λ z. z.array) same;
    }

call_gives : (d k : Declared) (x : List ℕ) (line : ℕ) (c : Callee) (vs : List TypedValue) (gs : List Argument) (t : ExpressionType) → Agrees d k x
    → callee d x ≡ Some c → SameShapes vs gs → IsCall d c gs t → (e : Callee) × (callee k x ≡ Some e) × Gives (called line e vs) t
call_gives d k x line (built_in b) vs gs t a e s h =
    let m = built_in_makes line b gs vs h.0 s h.1 in (
      built_in b,
      a.built_in b e,
      record {
        call = gives_value m.value;
        there = ap (option_map gives_value) m.there;
        given = λ v q.
            let same : h.0 ≡ v = value_is h.0 v (sym h.2 ∙ q) in
            record {
              value = with_shape m.value.tree m.value.shape;
              there = refl;
              element = m.element ∙ ap (λ z. z.element) same;
              array = m.array ∙ ap (λ z. z.array) same;
            };
      },
    )
call_gives d k x line (defined n f) vs gs t a e s h =
    let there = a.defined n f e in
    let count = taken_count (within d f h.domains) f.parameters gs vs h.taken s in
    let c : TypedCall = record { tree = call_node line there.0 (typed_trees_of (map tree_of_value vs)); gives = shape_returned f.returned } in (
      defined there.0 f,
      there.1,
      record {
        call = c;
        there = ap (λ b. cond b (Some c) None) (eq-eqb (length f.parameters) (length vs) count);
        given = λ v q. returned_makes (within d f h.domains) c f.returned v refl (h.gives ∙ ap Some q);
      },
    )

-- OPERATORS

pub no_number : IsNumber datatype.Bool → ⊥
no_number (inl e) = cc
no_number (inr e) = cc

-- numbers with a sign are not worked on bit by bit
pub no_bits : (d : Protection) → (Int64 ≡ datatype.Bool) ⊎ ((Int64 ≡ Uint64) × (d ≡ Public)) → ⊥
no_bits d (inl e) = cc
no_bits d (inr e) = let no = e.0 in cc

operator_makes : (op : Operator) (t : DataType) (d : Protection) (r : DataType) → OperatesOn op t d r
    → (b : BinaryOperator) × (operator_on op t t ≡ Some b) × (element_made b ≡ r)
operator_makes Add Uint64 d r h = (Words word.Add, refl, sym h.1)
operator_makes Add Int64 d r h = (Ints word.Add, refl, sym h.1)
operator_makes Add datatype.Bool d r h = absurd (no_number h.0)
operator_makes Subtract Uint64 d r h = (Words word.Subtract, refl, sym h.1)
operator_makes Subtract Int64 d r h = (Ints word.Subtract, refl, sym h.1)
operator_makes Subtract datatype.Bool d r h = absurd (no_number h.0)
operator_makes Multiply Uint64 d r h = (Words word.Multiply, refl, sym h.1)
operator_makes Multiply Int64 d r h = (Ints word.Multiply, refl, sym h.1)
operator_makes Multiply datatype.Bool d r h = absurd (no_number h.0)
operator_makes Divide Uint64 d r h = (Words word.Divide, refl, sym h.1)
operator_makes Divide Int64 d r h = (Ints word.Divide, refl, sym h.1)
operator_makes Divide datatype.Bool d r h = absurd (no_number h.0)
operator_makes Remainder Uint64 d r h = (Words word.Remainder, refl, sym h.1)
operator_makes Remainder Int64 d r h = (Ints word.Remainder, refl, sym h.1)
operator_makes Remainder datatype.Bool d r h = absurd (no_number h.0)
operator_makes Equal Uint64 d r h = (Words word.Equal, refl, sym h)
operator_makes Equal Int64 d r h = (Ints word.Equal, refl, sym h)
operator_makes Equal datatype.Bool d r h = (Bools truth_of.Equal, refl, sym h)
operator_makes NotEqual Uint64 d r h = (Words word.NotEqual, refl, sym h)
operator_makes NotEqual Int64 d r h = (Ints word.NotEqual, refl, sym h)
operator_makes NotEqual datatype.Bool d r h = (Bools truth_of.NotEqual, refl, sym h)
operator_makes Less Uint64 d r h = (Words word.Less, refl, sym h.1)
operator_makes Less Int64 d r h = (Ints word.Less, refl, sym h.1)
operator_makes Less datatype.Bool d r h = absurd (no_number h.0)
operator_makes LessOrEqual Uint64 d r h = (Words word.LessOrEqual, refl, sym h.1)
operator_makes LessOrEqual Int64 d r h = (Ints word.LessOrEqual, refl, sym h.1)
operator_makes LessOrEqual datatype.Bool d r h = absurd (no_number h.0)
operator_makes Greater Uint64 d r h = (Words word.Greater, refl, sym h.1)
operator_makes Greater Int64 d r h = (Ints word.Greater, refl, sym h.1)
operator_makes Greater datatype.Bool d r h = absurd (no_number h.0)
operator_makes GreaterOrEqual Uint64 d r h = (Words word.GreaterOrEqual, refl, sym h.1)
operator_makes GreaterOrEqual Int64 d r h = (Ints word.GreaterOrEqual, refl, sym h.1)
operator_makes GreaterOrEqual datatype.Bool d r h = absurd (no_number h.0)
operator_makes And Uint64 d r h = (Words word.And, refl, sym h.0)
operator_makes And Int64 d r h = absurd (no_bits d h.1)
operator_makes And datatype.Bool d r h = (Bools truth_of.And, refl, sym h.0)
operator_makes Or Uint64 d r h = (Words word.Or, refl, sym h.0)
operator_makes Or Int64 d r h = absurd (no_bits d h.1)
operator_makes Or datatype.Bool d r h = (Bools truth_of.Or, refl, sym h.0)
operator_makes Xor Uint64 d r h = (Words word.Xor, refl, sym h.0)
operator_makes Xor Int64 d r h = absurd (no_bits d h.1)
operator_makes Xor datatype.Bool d r h = (Bools truth_of.Xor, refl, sym h.0)
operator_makes AndAlso Uint64 d r h = let no = h.0 in cc
operator_makes AndAlso Int64 d r h = let no = h.0 in cc
operator_makes AndAlso datatype.Bool d r h = (Bools truth_of.And, refl, sym h.1)
operator_makes OrElse Uint64 d r h = let no = h.0 in cc
operator_makes OrElse Int64 d r h = let no = h.0 in cc
operator_makes OrElse datatype.Bool d r h = (Bools truth_of.Or, refl, sym h.1)

-- EXPRESSIONS

-- a call, which may be void, of arguments that are there
call_from : (w : Setting) (k : Declared) (s : checked.Scope) (u : Scope) (line : ℕ) (x : List ℕ) (es : Trees) (t : ExpressionType)
    → Agrees w.declared k x → (h : (c : Callee) × (gs : List Argument) × (callee w.declared x ≡ Some c) × HaveTypes w s es gs
    × IsCall w.declared c gs t) → MakesAll (values k u es) h.1 → Gives (of_both (called line) (callee k x) (values k u es)) t
call_from w k s u line x es t a h vs =
    let c = call_gives w.declared k x line h.0 vs.values h.1 t a h.2 vs.same h.4 in
    let g = c.2 in
    record { call = g.call; there = ap₂ (of_both (called line)) c.1 vs.there ∙ g.there; given = g.given }

agrees_last : (d k : Declared) (xs : List (List ℕ)) (x : List ℕ) → Agree d k (xs ++ x ∷ []) → Agrees d k x
agrees_last d k xs x a = a x (among_right x xs (x ∷ []) (inl refl))

mutual
  pub value_makes : (w : Setting) (k : Declared) (s : checked.Scope) (u : Scope) → Same s u → (e : Tree) (v : ValueType)
      → Agree w.declared k (names_in e) → HasType w s e (Value v) → Makes (value k u e) v
  value_makes w k s u m (number p n) v a h =
      makes_as (Some (made (word_node n) Uint64 false)) (public_scalar Uint64) v
      (record { value = made (word_node n) Uint64 false; there = refl; element = refl; array = refl }) h
  value_makes w k s u m (truth p b) v a h =
      makes_as (Some (made (truth_node b) datatype.Bool false)) (public_scalar datatype.Bool) v
      (record { value = made (truth_node b) datatype.Bool false; there = refl; element = refl; array = refl }) h
  value_makes w k s u m (variable p x) v a h =
      let n = names_same s u x h.0 m h.1 in
      makes_as (value k u (variable p x)) h.0 v
      (record { value = variable_value n.variable; there = ap (option_map variable_value) n.there; element = n.element; array = n.array }) h.2
  value_makes w k s u m (call p x es) v a h =
      let vs = values_make w k s u m es h.1 (agree_left w.declared k (names_in_all es) (x ∷ []) a) h.3 in
      let c = call_from w k s u p.line x es (Value v) (agrees_last w.declared k (names_in_all es) x a) h vs in
      let g = c.given v refl in
      record { value = g.value; there = ap (option_and_then value_given) c.there ∙ g.there; element = g.element; array = g.array }
  value_makes w k s u m (index p b i) v a h =
      let x = value_makes w k s u m b h.0 (agree_left w.declared k (names_in b) (names_in i) a) h.2 in
      let y = value_makes w k s u m i h.1 (agree_right w.declared k (names_in b) (names_in i) a) h.3 in
      makes_as (value k u (index p b i)) (scalar_of h.0) v
      (record {
        value = made (element_node p.line x.value.tree y.value.tree) x.value.shape.element false;
        there =
            ap₂ (of_both (element_value p.line)) x.there y.there;
        element = x.element;
        array = refl;
      }) h.6
  value_makes w k s u m (parentheses p e) v a h = makes_as (value k u e) h.0 v (value_makes w k s u m e h.0 a h.1) h.2
  value_makes w k s u m (negation p e) v a h =
      let x = value_makes w k s u m e h.0 a h.1 in
      makes_as (value k u (negation p e)) h.0 v
      (record { value = negated x.value; there = ap (option_map negated) x.there; element = x.element; array = x.array }) h.3
  value_makes w k s u m (cast p t e) v a h =
      let x = value_makes w k s u m e h.0 a h.1 in
      makes_as (value k u (cast p t e)) (cast_type t h.0) v
      (record { value = cast_value t x.value; there = ap (option_map (cast_value t)) x.there; element = refl; array = x.array }) h.2
  value_makes w k s u m (binary p op b c) v a h =
      let x = value_makes w k s u m b h.0 (agree_left w.declared k (names_in b) (names_in c) a) h.3 in
      let y = value_makes w k s u m c h.1 (agree_right w.declared k (names_in b) (names_in c) a) h.4 in
      let o = operator_makes op h.0.element h.2.domain h.2.element h.5.operates in
      let on : operator_on op x.value.shape.element y.value.shape.element ≡ Some o.0 = ap₂ (operator_on op) x.element (y.element ∙ sym h.5.same) ∙ o.1 in
      makes_as (value k u (binary p op b c)) h.2 v (record {
        value = operation_made p.line op x.value y.value o.0;
        there = ap₂ (of_both (operation p.line op)) x.there y.there ∙ ap (option_map (operation_made p.line op x.value y.value)) on;
        element = o.2;
        array = ap₂ (λ i j. i || j) x.array y.array ∙ sym h.5.dimension;
      }) h.6
  value_makes w k s u m (declassify p e) v a h =
      let x = value_makes w k s u m e h.0 a h.1 in
      makes_as (value k u (declassify p e)) (declassified h.0) v
      (record { value = declassified_value x.value; there = ap (option_map declassified_value) x.there; element = x.element; array = x.array }) h.2
  value_makes w k s u m (argument p x) v a h = absurd h
  value_makes w k s u m (publish p x e) v a h = let no : Value v ≡ Void = h.2 in cc

  pub values_make : (w : Setting) (k : Declared) (s : checked.Scope) (u : Scope) → Same s u → (es : Trees) (gs : List Argument)
      → Agree w.declared k (names_in_all es) → HaveTypes w s es gs → MakesAll (values k u es) gs
  values_make w k s u m Tree'.none gs a h = record { values = []; there = refl; same = subst (SameShapes []) (sym h) tt }
  values_make w k s u m (Tree'.also e es) [] a h = absurd h
  values_make w k s u m (Tree'.also e es) (g ∷ gs) a h =
      let x = value_makes w k s u m e g.given (agree_left w.declared k (names_in e) (names_in_all es) a) h.0 in
      let y = values_make w k s u m es gs (agree_right w.declared k (names_in e) (names_in_all es) a) h.2 in
      record { values = x.value ∷ y.values; there = ap₂ (of_both and_more) x.there y.there; same = (x.element, x.array, y.same) }

pub call_makes : (w : Setting) (k : Declared) (s : checked.Scope) (u : Scope) → Same s u → (p : Span) (x : List ℕ) (es : Trees) (t : ExpressionType)
    → Agree w.declared k (names_in (call p x es)) → HasType w s (call p x es) t → Gives (call_made k u p.line x es) t
call_makes w k s u m p x es t a h =
    call_from w k s u p.line x es t (agrees_last w.declared k (names_in_all es) x a) h
    (values_make w k s u m es h.1 (agree_left w.declared k (names_in_all es) (x ∷ []) a) h.3)
