-- What is known of an expression that the checker has typed, and the nodes without operators and calls.
use Rattle.std.proofs.Common.{◌≡◌, ℕ, ◌<◌, List, [], ◌∷◌, ◌++◌, ◌⊎◌, inl, inr, refl, sym, ap, ap₂, ◌∙◌, ◌≢◌, subst, Some, Bool, true, false}
use Rattle.std.specs.Prelude.{◌^◌}
use Rattle.std.specs.List.{slice_get}
use Rattle.program_trees.specs.declared.expression.DataType.{DataType}
use Rattle.program_trees.specs.declared.expression.DataType.TheVariants.{Uint64}
use Rattle.program_trees.specs.declared.expression.DataType.TheVariants as datatype
use Rattle.program_trees.specs.Programs.{ProgramTree}
use Rattle.domain_types.specs.declared.value_type.Argument.{Argument}
use Rattle.domain_types.specs.declared.value_type.Protection.TheVariants as checked
use Rattle.domain_types.specs.declared.value_type.ValueType.{ValueType}
use Rattle.domain_types.specs.Types.{scalar_of, public_scalar}
use Rattle.domain_types.specs.ExpressionTypes.{cast_type, declassified, array_of}
use Rattle.sc_text.specs.Lists.{Among}
use Rattle.domain_types.specs.Typing.{Meets}
use Rattle.sc_text.proofs.Lists.{among_parts}
use Rattle.program_trees.specs.declared.kinds.Shape.{Shape}
use Rattle.program_trees.specs.declared.kinds.Slot.{Slot}
use Rattle.program_trees.specs.Operators.{cast_between}
use Rattle.program_trees.specs.TypedTree.{TypedTree, word_node, truth_node, slot_node, size_node, cat_node, sum_node, bits_node, lookup_node}
use Rattle.program_trees.specs.TypedTree.{element_node}
use Rattle.program_trees.specs.Shapes.{shape_of}
use Rattle.name_resolution.specs.Values.{TypedValue, made, negated, cast_value, declassified_value, looked_up}
use Rattle.reached_instances.specs.Instances.{Instance}
use Rattle.reached_instances.specs.Domains.{Setting, is_private, domain, slot_domain, joined_domain}
use Rattle.reached_instances.specs.Calls.{calls}
use Rattle.well_typed.specs.Kinds.{scalar, array, IsNumber, Meet}
use Rattle.well_typed.specs.Expressions.{Gives}
use Rattle.well_typed.specs.Laws.{bound_domain, IsCheckedInstance}
use Rattle.well_typed.proofs.Bindings.{meets_meet, meets_joined, bound_private}
use Rattle.well_typed.proofs.SlotsWritten.{shape_in, SlotIs}

-- THE INSTANCES THAT ARE CALLED

-- the checker checked each of these
abbrev pub AreChecked : ProgramTree → List Instance → Type 0
AreChecked p is = (i : Instance) → Among i is → IsCheckedInstance p i

pub none_checked : (p : ProgramTree) → AreChecked p []
none_checked p i m = absurd m

pub both_checked : (p : ProgramTree) (is js : List Instance) → AreChecked p is → AreChecked p js → AreChecked p (is ++ js)
both_checked p is js a b i m = go (among_parts i is js m)
  where
    go : Among i is ⊎ Among i js → IsCheckedInstance p i
    go (inl n) = a i n
    go (inr n) = b i n

-- VALUES

-- an expression of this type
pub record Good (p : ProgramTree) (w : Setting) (x : TypedValue) (v : ValueType) : Type 0 where
  pub shape : x.shape ≡ shape_in v
  pub gives : Gives w x.tree (Some (shape_in v))
  pub seen_by : domain w x.tree ≡ bound_domain v.domain
  pub called : AreChecked p (calls w x.tree)

pub good_as : (p : ProgramTree) (w : Setting) (x y : TypedValue) (v u : ValueType) → Good p w x v → x ≡ y → v ≡ u → Good p w y u
good_as p w x y v u g e f = subst (λ z. Good p w z u) e (subst (λ z. Good p w x z) f g)

pub gives_as : (w : Setting) (t : TypedTree) (s r : Shape) → Gives w t (Some s) → s ≡ r → Gives w t (Some r)
gives_as w t s r g e = subst (λ z. Gives w t (Some z)) e g

abbrev pub AllGood : ProgramTree → Setting → List TypedValue → List Argument → Type 0
AllGood p w [] [] = Unit {0}
AllGood p w [] (g ∷ gs) = ⊥
AllGood p w (x ∷ xs) [] = ⊥
AllGood p w (x ∷ xs) (g ∷ gs) = Good p w x g.given × AllGood p w xs gs

-- a public scalar
pub public_shape : (v : ValueType) (t : DataType) → v ≡ public_scalar t → shape_in v ≡ scalar t
public_shape v t e = ap shape_in e

pub array_shape : (v : ValueType) → v.array ≡ true → shape_in v ≡ array v.element
array_shape v e = ap (shape_of v.element) e

-- ONE NODE

pub good_number : (p : ProgramTree) (w : Setting) (n : ℕ) → n < 2 ^ 64 → Good p w (made (word_node n) Uint64 false) (public_scalar Uint64)
good_number p w n h = record { shape = refl; gives = (h, refl); seen_by = refl; called = none_checked p }

pub good_truth : (p : ProgramTree) (w : Setting) (b : Bool) → Good p w (made (truth_node b) datatype.Bool false) (public_scalar datatype.Bool)
good_truth p w b = record { shape = refl; gives = refl; seen_by = refl; called = none_checked p }

pub good_slot : (p : ProgramTree) (w : Setting) (k : ℕ) (s : Slot) (v : ValueType) (x : Shape) → slice_get w.slots k ≡ Some s → SlotIs w.binding s v
    → x ≡ shape_in v → Good p w (record { tree = slot_node k; shape = x }) v
good_slot p w k s v x at is e =
    record {
      shape = e;
      gives = (s, at, ap Some (sym is.shape));
      seen_by = ap (slot_domain w.binding) at ∙ is.seen_by;
      called = none_checked p;
    }

pub good_element : (p : ProgramTree) (w : Setting) (line : ℕ) (a i : TypedValue) (x y : ValueType) → Good p w a x → Good p w i y → x.array ≡ true
    → y ≡ public_scalar Uint64 → Good p w (made (element_node line a.tree i.tree) a.shape.element false) (scalar_of x)
good_element p w line a i x y g h e f =
    record {
      shape = ap (λ (s : Shape). shape_of s.element false) g.shape;
      gives = (
        x.element,
        gives_as w a.tree (shape_in x) (array x.element) g.gives (array_shape x e),
        gives_as w i.tree (shape_in y) (scalar Uint64) h.gives (public_shape y Uint64 f),
        h.seen_by ∙ ap (λ (z : ValueType). bound_domain z.domain) f,
        refl,
      );
      seen_by = g.seen_by;
      called = both_checked p (calls w a.tree) (calls w i.tree) g.called h.called;
    }

pub good_not : (p : ProgramTree) (w : Setting) (a : TypedValue) (x : ValueType) → Good p w a x → x.element ≡ datatype.Bool → Good p w (negated a) x
good_not p w a x g e =
    let is : shape_in x ≡ shape_of datatype.Bool x.array = ap (λ t. shape_of t x.array) e in
    record {
      shape = g.shape;
      gives = (x.array, gives_as w a.tree (shape_in x) (shape_of datatype.Bool x.array) g.gives is, ap Some is);
      seen_by =
          g.seen_by;
      called = g.called;
    }

pub good_cast : (p : ProgramTree) (w : Setting) (t : DataType) (a : TypedValue) (x : ValueType) → Good p w a x → Good p w (cast_value t a) (cast_type t x)
good_cast p w t a x g =
    let c = cast_between a.shape.element t in
    let from : shape_in x ≡ shape_of c.given x.array = ap (λ s. shape_of s x.array) (ap (λ (s : Shape). s.element) (sym g.shape)) in
    record {
      shape = ap (λ (s : Shape). shape_of t s.array) g.shape;
      gives = (x.array, gives_as w a.tree (shape_in x) (shape_of c.given x.array) g.gives from, refl);
      seen_by = g.seen_by;
      called = g.called;
    }

pub good_declassify : (p : ProgramTree) (w : Setting) (a : TypedValue) (x : ValueType) → Good p w a x → Good p w (declassified_value a) (declassified x)
good_declassify p w a x g = record { shape = g.shape; gives = (shape_in x, g.gives, refl); seen_by = refl; called = g.called }

-- BUILT-IN FUNCTIONS

pub good_size : (p : ProgramTree) (w : Setting) (a : TypedValue) (x : ValueType) → Good p w a x → x.array ≡ true
    → Good p w (made (size_node a.tree) Uint64 false) (public_scalar Uint64)
good_size p w a x g e =
    record {
      shape = refl;
      gives = (x.element, gives_as w a.tree (shape_in x) (array x.element) g.gives (array_shape x e), refl);
      seen_by =
          refl;
      called = g.called;
    }

pub good_cat : (p : ProgramTree) (w : Setting) (line : ℕ) (a b : TypedValue) (x y t : ValueType) → Good p w a x → Good p w b y → x.array ≡ true
    → y.array ≡ true → x.element ≡ y.element → t.element ≡ x.element → t.array ≡ true → Meets x.domain y.domain t.domain
    → Good p w (made (cat_node line a.tree b.tree) a.shape.element true) t
good_cat p w line a b x y t g h ax ay same element is m =
    let seen : domain w (cat_node line a.tree b.tree) ≡ bound_domain t.domain =
    ap (λ d. joined_domain d (domain w b.tree)) g.seen_by ∙ ap (joined_domain (bound_domain x.domain)) h.seen_by ∙ meets_joined x.domain y.domain t.domain m in
    let meet : Meet (domain w a.tree) (domain w b.tree) =
    subst (λ d. Meet d (domain w b.tree)) (sym g.seen_by) (subst (Meet (bound_domain x.domain)) (sym h.seen_by) (meets_meet x.domain y.domain t.domain m)) in
    let left = gives_as w a.tree (shape_in x) (array x.element) g.gives (array_shape x ax) in
    let right = gives_as w b.tree (shape_in y) (array x.element) h.gives (array_shape y ay ∙ ap array (sym same)) in
    let result : shape_in t ≡ array x.element = array_shape t is ∙ ap array element in
    record {
      shape = ap (λ (s : Shape). array s.element) g.shape ∙ sym result;
      gives = (x.element, left, right, meet, ap Some result);
      seen_by = seen;
      called = both_checked p (calls w a.tree) (calls w b.tree) g.called h.called;
    }

pub good_sum : (p : ProgramTree) (w : Setting) (a : TypedValue) (x : ValueType) → Good p w a x → x.array ≡ true → IsNumber x.element
    → Good p w (made (sum_node a.tree) a.shape.element false) (scalar_of x)
good_sum p w a x g e n =
    record {
      shape = ap (λ (s : Shape). scalar s.element) g.shape;
      gives = (x.element, gives_as w a.tree (shape_in x) (array x.element) g.gives (array_shape x e), n, refl);
      seen_by = g.seen_by;
      called = g.called;
    }

pub good_bits : (p : ProgramTree) (w : Setting) (line : ℕ) (a : TypedValue) (x : ValueType) → Good p w a x → x.element ≡ Uint64
    → Good p w (made (bits_node line a.tree) datatype.Bool true) (array_of datatype.Bool x.domain)
good_bits p w line a x g e =
    record {
      shape = refl;
      gives = (x.array, gives_as w a.tree (shape_in x) (shape_of Uint64 x.array) g.gives (ap (λ t. shape_of t x.array) e), refl);
      seen_by = g.seen_by;
      called = g.called;
    }

-- an array or an index is private
pub good_lookup : (p : ProgramTree) (w : Setting) (line : ℕ) (a i : TypedValue) (x y t : ValueType) → Good p w a x → Good p w i y → x.array ≡ true
    → IsNumber x.element → y.element ≡ Uint64 → t.element ≡ x.element → t.array ≡ y.array → Meets x.domain y.domain t.domain
    → t.domain ≢ checked.Public → Good p w (looked_up line a i) t
good_lookup p w line a i x y t g h ax number words element dimension m hidden =
    let seen : domain w (lookup_node line a.tree i.tree) ≡ bound_domain t.domain =
    ap (λ d. joined_domain d (domain w i.tree)) g.seen_by ∙ ap (joined_domain (bound_domain x.domain)) h.seen_by ∙ meets_joined x.domain y.domain t.domain m in
    let meet : Meet (domain w a.tree) (domain w i.tree) =
    subst (λ d. Meet d (domain w i.tree)) (sym g.seen_by) (subst (Meet (bound_domain x.domain)) (sym h.seen_by) (meets_meet x.domain y.domain t.domain m)) in
    let values = gives_as w a.tree (shape_in x) (array x.element) g.gives (array_shape x ax) in
    let places = gives_as w i.tree (shape_in y) (shape_of Uint64 y.array) h.gives (ap (λ e. shape_of e y.array) words) in
    let result : shape_in t ≡ shape_of x.element y.array = ap₂ shape_of element dimension in
    record {
      shape = ap₂ (λ (r s : Shape). shape_of r.element s.array) g.shape h.shape ∙ sym result;
      gives = (x.element, y.array, values, places, number, meet, ap is_private seen ∙ bound_private t.domain hidden, ap Some result);
      seen_by = seen;
      called = both_checked p (calls w a.tree) (calls w i.tree) g.called h.called;
    }
