-- The code of an expression.
--
-- Its registers are in rows of twelve, the first of which begins at t. There its value stands, in the register of its kind, but that of a
-- variable in its slot, and that of a zero in a register that nothing writes. Targets of branches are places in the function's code, so that the code hangs on the place pc where it stands.
use Rattle.std.specs.Prelude.{ℕ, ◌+◌, Bool, true, false, not, ◌&&◌, List, [], ◌∷◌, ◌++◌, length, Option, Some, None}
use Rattle.std.specs.List.{slice_get}
use Rattle.program_trees.specs.declared.expression.DataType.TheVariants.{Uint64, Int64}
use Rattle.program_trees.specs.declared.expression.DataType.TheVariants as datatype
use Rattle.program_trees.specs.declared.kinds.Slot.{Slot}
use Rattle.program_trees.specs.declared.operators.BinaryOperator.{BinaryOperator}
use Rattle.program_trees.specs.declared.operators.BinaryOperator.TheVariants as binary
use Rattle.program_trees.specs.declared.operators.Operands.{Operands}
use Rattle.program_trees.specs.declared.operators.Operands.TheVariants.{Scalars}
use Rattle.program_trees.specs.declared.operators.Connective.{Connective}
use Rattle.program_trees.specs.declared.operators.Connective.TheVariants.{AndAlso, OrElse}
use Rattle.program_trees.specs.TypedTree.{TypedTree, TypedTrees, word_node, truth_node, zero_node, slot_node, call_node, size_node, cat_node, sum_node, bits_node, lookup_node, element_node}
use Rattle.program_trees.specs.TypedTree.{not_node, cast_node, binary_node, cut_node, declassify_node}
use Rattle.program_trees.specs.TypedTree as Tree'
use Rattle.program_trees.specs.Shapes.{shape_of}
use Rattle.program_trees.specs.TypedPrograms.{TypedFunctionTree}
use Rattle.program_trees.specs.declared.typed_function.Returned.{Returned}
use Rattle.program_trees.specs.declared.typed_function.Returned.TheVariants as given
use Rattle.reached_instances.specs.declared.instance.BoundDomain.{BoundDomain}
use Rattle.reached_instances.specs.Domains.{Setting, domains}
use Rattle.blind_evaluation.specs.Words.{truth_word}
use Rattle.blind_evaluation.specs.Operations.{is_product}
use Rattle.blind_evaluation.specs.Evaluation.{gives_private, bound_at, slots_of, next_is_private, behind_next, connective, either}
use Rattle.verified_code.specs.Steps.{Step, Literal, Move, Binary, Not, Cast, Classify, At, Size, Cat, Sum, Bits, Lookup, Declassify, Branch, Jump, Call}
use Rattle.code_model.specs.Kinds.{kind_in, private_kind_in, truth_kind, in_row, shape_number}

-- the number that the code gives to an instance
abbrev pub Numbers : Type 0
Numbers = (function : ℕ) → List BoundDomain → ℕ

-- the register of what a call gives, where there is something
abbrev pub given_at : Returned → ℕ → Option ℕ
given_at given.Nothing t = None
given_at (given.Value s) t = Some t

abbrev pub result_at : Option TypedFunctionTree → ℕ → Option ℕ
result_at None t = None
result_at (Some f) t = given_at f.given t

-- ---- CLASSIFICATION

-- the register r is classified into c, where this is wanted
abbrev pub classifying : Bool → (c r : ℕ) → List Step
classifying true c r = Classify c r ∷ []
classifying false c r = []

-- where the value stands then
abbrev pub picked : Bool → (c r : ℕ) → ℕ
picked true c r = c
picked false c r = r

-- a public value where a private one is wanted
abbrev pub lacks : (wanted given : Bool) → Bool
lacks wanted given = wanted && not given

-- one operand is public beside a private one, and this is no product
abbrev pub mixes : BinaryOperator → (this other : Bool) → Bool
mixes op this other = not (is_product op) && lacks other this

-- ---- WHERE A VALUE STANDS

-- the register for the value of an expression in the row that begins at t, and the one for its classification
abbrev pub own_at : Setting → TypedTree → (t : ℕ) → ℕ
own_at here e t = in_row t (kind_in here e)

abbrev pub classified_at : Setting → TypedTree → (t : ℕ) → ℕ
classified_at here e t = in_row t (private_kind_in here e)

-- a variable is read in its slot, and a zero where one stands, without a step; each other value in its own register
abbrev pub read_at : Setting → TypedTree → (own : ℕ) → ℕ
read_at here zero_node own = length here.slots + shape_number (shape_of Int64 false)
read_at here (slot_node k) own = k
read_at here e own = own

abbrev pub stands_at : Setting → TypedTree → (t : ℕ) → ℕ
stands_at here e t = read_at here e (own_at here e t)

-- where the next row begins
abbrev pub next_row : ℕ → ℕ
next_row t = t + 12

-- ---- NODES WITH ONE OPERAND: c is its code, r the register where it stands

abbrev pub one_code : (ℕ → Step) → (r : ℕ) → (c : List Step) → List Step
one_code step r c = c ++ step r ∷ []

-- ---- NODES WITH TWO OPERANDS: ca is the code of the left one, cb that of the right one at its place, v and u the registers where they stand,
-- m and n those for their classifications, and d the node's own

-- both operands, and then the classification of one of them
abbrev pub binary_code : (d m n v u pc line : ℕ) → BinaryOperator → Operands → (left right : Bool) → List Step → (ℕ → List Step) → List Step
binary_code d m n v u pc line op ds ga gb ca cb =
    let l = mixes op ga gb in
    let r = mixes op gb ga in
    ca ++ (cb (pc + length ca) ++ (classifying l m v
    ++ (classifying r n u ++ Binary line op ds d (picked l m v) (picked r n u) ∷ [])))

-- each operand is classified right after its code, where it lacks that
abbrev pub cat_code : (d m n v u pc line : ℕ) → (left right : Bool) → List Step → (ℕ → List Step) → List Step
cat_code d m n v u pc line l r ca cb =
    let cl = classifying l m v in
    ca ++ (cl ++ (cb (pc + length ca + length cl)
    ++ (classifying r n u ++ Cat line d (picked l m v) (picked r n u) ∷ [])))

-- both operands, and then the classification of each that is public
abbrev pub lookup_code : (d m n v u pc line : ℕ) → (left right : Bool) → List Step → (ℕ → List Step) → List Step
lookup_code d m n v u pc line l r ca cb =
    ca ++ (cb (pc + length ca) ++ (classifying l m v ++ (classifying r n u ++ Lookup line d (picked l m v) (picked r n u) ∷ [])))

abbrev pub element_code : (d v u pc line : ℕ) → List Step → (ℕ → List Step) → List Step
element_code d v u pc line ca cb = ca ++ (cb (pc + length ca) ++ At line d v u ∷ [])

-- the left operand that decides alone
abbrev pub deciding : Connective → Bool
deciding AndAlso = false
deciding OrElse = true

-- a classified value, or the same one
abbrev pub settling : Bool → (d r : ℕ) → Step
settling true d r = Classify d r
settling false d r = Move d r

-- the test of the left operand; the right one; and what stands in its place where the left one decides, with the register q for a truth value
abbrev pub cut_code : (d q v u pc : ℕ) → Connective → (secret : Bool) → List Step → (ℕ → List Step) → List Step
cut_code d q v u pc c secret ca cb =
    let pb = pc + length ca + 1 in
    let pd = pb + length (cb pb) + 2 in
    ca ++ (Branch v (deciding c) pd ∷ (cb pb ++ (Move d u ∷ Jump (pd + 2)
    ∷ Literal q datatype.Bool (truth_word (deciding c)) ∷ settling secret d q ∷ [])))

-- ---- EXPRESSIONS

module _ (number : Numbers) where
  abbrev mutual
    pub expression_code : Setting → (t pc : ℕ) → TypedTree → List Step
    expression_code here t pc (word_node n) = Literal (own_at here (word_node n) t) Uint64 n ∷ []
    expression_code here t pc (truth_node b) = Literal (own_at here (truth_node b) t) datatype.Bool (truth_word b) ∷ []
    expression_code here t pc zero_node = []
    expression_code here t pc (slot_node k) = []
    expression_code here t pc (call_node line k es) =
        let b = bound_at (slice_get here.functions k) (domains here es) in
        let ss = slots_of (slice_get here.functions k) in
        arguments_code here b ss t pc es
        ++ Call line (number k b) (Some (own_at here (call_node line k es) t)) (arguments_places here b ss t es) ∷ []
    expression_code here t pc (size_node e) = one_code (Size (own_at here (size_node e) t)) (stands_at here e t) (expression_code here t pc e)
    expression_code here t pc (cat_node line a b) =
        let g = gives_private here (cat_node line a b) in
        let tb = next_row t in
        cat_code (own_at here (cat_node line a b) t) (classified_at here a t) (classified_at here b tb) (stands_at here a t) (stands_at here b tb) pc line
        (lacks g (gives_private here a)) (lacks g (gives_private here b)) (expression_code here t pc a) (λ p. expression_code here tb p b)
    expression_code here t pc (sum_node e) = one_code (Sum (own_at here (sum_node e) t)) (stands_at here e t) (expression_code here t pc e)
    expression_code here t pc (bits_node line e) = one_code (Bits line (own_at here (bits_node line e) t)) (stands_at here e t) (expression_code here t pc e)
    expression_code here t pc (lookup_node line a i) =
        let ti = next_row t in
        lookup_code (own_at here (lookup_node line a i) t) (classified_at here a t) (classified_at here i ti) (stands_at here a t) (stands_at here i ti) pc
        line (lacks true (gives_private here a)) (lacks true (gives_private here i)) (expression_code here t pc a) (λ p. expression_code here ti p i)
    expression_code here t pc (element_node line a i) =
        let ti = next_row t in
        element_code (own_at here (element_node line a i) t) (stands_at here a t) (stands_at here i ti) pc line (expression_code here t pc a)
        (λ p. expression_code here ti p i)
    expression_code here t pc (not_node e) = one_code (Not (own_at here (not_node e) t)) (stands_at here e t) (expression_code here t pc e)
    expression_code here t pc (cast_node c e) = one_code (Cast c (own_at here (cast_node c e) t)) (stands_at here e t) (expression_code here t pc e)
    expression_code here t pc (binary_node line op ds a b) =
        let tb = next_row t in
        binary_code (own_at here (binary_node line op ds a b) t) (classified_at here a t) (classified_at here b tb) (stands_at here a t)
        (stands_at here b tb) pc line op ds (gives_private here a) (gives_private here b) (expression_code here t pc a) (λ p. expression_code here tb p b)
    expression_code here t pc (cut_node c a b) =
        let tb = next_row t in
        let d = own_at here (cut_node c a b) t in
        let v = stands_at here a t in
        let u = stands_at here b tb in
        let ca = expression_code here t pc a in
        let cb = λ (p : ℕ). expression_code here tb p b in
        let gb = gives_private here b in
        either (gives_private here a)
        (binary_code d (classified_at here a t) (classified_at here b tb) v u pc 0 (binary.Bools (connective c)) Scalars (gives_private here a) gb ca cb)
        (cut_code d (in_row t (truth_kind false)) v u pc c gb ca cb)
    expression_code here t pc (declassify_node e) =
        one_code (Declassify (own_at here (declassify_node e) t)) (stands_at here e t) (expression_code here t pc e)

    -- each argument in a row of its own, classified right after its code where its parameter is private
    pub arguments_code : Setting → List BoundDomain → List Slot → (t pc : ℕ) → TypedTrees → List Step
    arguments_code here b ss t pc Tree'.none = []
    arguments_code here b ss t pc (Tree'.also e es) =
        let ce = expression_code here t pc e in
        let cl = classifying (lacks (next_is_private b ss) (gives_private here e)) (classified_at here e t) (stands_at here e t) in
        ce ++ (cl ++ arguments_code here b (behind_next ss) (next_row t) (pc + length ce + length cl) es)

    pub arguments_places : Setting → List BoundDomain → List Slot → ℕ → TypedTrees → List ℕ
    arguments_places here b ss t Tree'.none = []
    arguments_places here b ss t (Tree'.also e es) =
        picked (lacks (next_is_private b ss) (gives_private here e)) (classified_at here e t) (stands_at here e t)
        ∷ arguments_places here b (behind_next ss) (next_row t) es

  -- where nobody reads what a call gives, it has a register only if there is something
  abbrev pub unread_code : Setting → (t pc : ℕ) → TypedTree → List Step
  unread_code here t pc (call_node line k es) =
      let b = bound_at (slice_get here.functions k) (domains here es) in
      let ss = slots_of (slice_get here.functions k) in
      arguments_code here b ss t pc es
      ++ Call line (number k b) (result_at (slice_get here.functions k) (own_at here (call_node line k es) t)) (arguments_places here b ss t es) ∷ []
  unread_code here t pc e = expression_code here t pc e
