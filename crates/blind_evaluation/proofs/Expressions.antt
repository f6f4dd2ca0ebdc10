-- Expressions are evaluated alike, in frames that are alike.
use Rattle.std.proofs.Common.{ℕ, List, [], ◌∷◌, Bool, true, false}
use Rattle.std.specs.Prelude.{slice_get}
use Rattle.program_trees.specs.declared.expression.DataType.TheVariants.{Uint64, Int64}
use Rattle.program_trees.specs.declared.expression.DataType.TheVariants as datatype
use Rattle.program_trees.specs.declared.kinds.Slot.{Slot}
use Rattle.program_trees.specs.declared.operators.BinaryOperator.TheVariants as binary
use Rattle.program_trees.specs.declared.operators.Operands.TheVariants.{Scalars}
use Rattle.program_trees.specs.declared.operators.Connective.{Connective}
use Rattle.program_trees.specs.TypedTree.{TypedTree, TypedTrees, word_node, truth_node, zero_node, slot_node, call_node, size_node, cat_node, sum_node, bits_node}
use Rattle.program_trees.specs.TypedTree.{lookup_node, element_node, not_node, cast_node, binary_node, cut_node, declassify_node}
use Rattle.program_trees.specs.TypedTree as Tree'
use Rattle.language_model.specs.BoundDomain.{BoundDomain}
use Rattle.language_model.specs.Domains.{Setting, domains}
use Rattle.program_trees.specs.Shapes.{shape_of}
use Rattle.language_model.specs.Effects.{Effect}
use Rattle.language_model.specs.Values.{Value}
use Rattle.language_model.specs.Words.{truth_word}
use Rattle.language_model.specs.Evaluation.{Frame, Calls, gives_private, slots_of, bound_at, next_is_private, behind_next, either, connective}
use Rattle.language_model.specs.Evaluation.{decides, cut_short, not_cut_short, value, arguments}
use Rattle.language_model.specs.Reports.{Offered}
use Rattle.blind_evaluation.proofs.Alike.{Alike, alike_bind, alike_done, same_bind}
use Rattle.blind_evaluation.proofs.AlikeValues.{LikeValues, plains, AllLike, no_more, and_more}
use Rattle.blind_evaluation.proofs.Rows.{clear, unseen, plain_alike, wanted_alike, negated_alike, size_told_alike, summed_alike, concatenated_alike}
use Rattle.blind_evaluation.proofs.Rows.{element_alike, tested_alike, declassified_alike, operation_alike, cast_to_alike, bits_extracted_alike, lookup_alike}

abbrev pub LikeFrames : Frame → Frame → Type 0
LikeFrames fr fr' = (i : ℕ) → LikeValues (fr i) (fr' i)

abbrev pub CallsAlike : Calls → Calls → Type 0
CallsAlike calls calls' = (line k : ℕ) (b : List BoundDomain) (xs xs' : List Value) → AllLike xs xs'
    → Alike LikeValues (calls line k b xs) (calls' line k b xs')

pub either_alike : {A B : Type 0} {R : A → B → Type 0} {c d : Effect A} {c' d' : Effect B} (b : Bool) → Alike R c c' → Alike R d d'
    → Alike R (either b c d) (either b c' d')
either_alike true h k = h
either_alike false h k = k

module _ (o : Offered) where
  cut_alike : (c : Connective) (secret : Bool) {x x' : Value} {right right' : Effect Value} → LikeValues x x' → Alike LikeValues right right'
      → Alike LikeValues (cut_short c secret x right) (cut_short c secret x' right')
  cut_alike c secret l h = same_bind (tested_alike l)
      (λ t. either_alike (decides c t) (wanted_alike secret (plains (shape_of datatype.Bool false) (truth_word t ∷ []))) h)

  not_cut_alike : (c : Connective) {x x' : Value} {right right' : Effect Value} → LikeValues x x' → Alike LikeValues right right'
      → Alike LikeValues (not_cut_short (clear o) c x right) (not_cut_short (unseen o) c x' right')
  not_cut_alike c l h = alike_bind h (λ y y' m. operation_alike o 0 (binary.Bools (connective c)) Scalars l m)

  module _ (calls calls' : Calls) (ok : CallsAlike calls calls') (here : Setting) where
    mutual
      unfolding value arguments

      pub value_alike : (e : TypedTree) (fr fr' : Frame) → LikeFrames fr fr'
          → Alike LikeValues (value (clear o) calls here e fr) (value (unseen o) calls' here e fr')
      value_alike (word_node n) fr fr' l = plain_alike (shape_of Uint64 false) (n ∷ [])
      value_alike (truth_node b) fr fr' l = plain_alike (shape_of datatype.Bool false) (truth_word b ∷ [])
      value_alike zero_node fr fr' l = plain_alike (shape_of Int64 false) (0 ∷ [])
      value_alike (slot_node k) fr fr' l = alike_done (l k)
      value_alike (call_node line k es) fr fr' l =
          alike_bind (arguments_alike (bound_at (slice_get here.functions k) (domains here es)) (slots_of (slice_get here.functions k)) es fr fr' l)
          (λ xs xs' m.
          ok line k (bound_at (slice_get here.functions k) (domains here es)) xs xs' m)
      value_alike (size_node e) fr fr' l = alike_bind (value_alike e fr fr' l) (λ x x' m. size_told_alike m)
      value_alike (cat_node line a b) fr fr' l =
          let secret = gives_private here (cat_node line a b) in
          alike_bind (value_alike a fr fr' l) (λ x x' m. alike_bind (wanted_alike secret m) (λ u u' m.
          alike_bind (value_alike b fr fr' l) (λ y y' p. alike_bind (wanted_alike secret p) (λ v v' p. concatenated_alike line m p))))
      value_alike (sum_node e) fr fr' l = alike_bind (value_alike e fr fr' l) (λ x x' m. summed_alike m)
      value_alike (bits_node line e) fr fr' l = alike_bind (value_alike e fr fr' l) (λ x x' m. bits_extracted_alike o line m)
      value_alike (lookup_node line a i) fr fr' l =
          alike_bind (value_alike a fr fr' l) (λ x x' m. alike_bind (value_alike i fr fr' l) (λ k k' p. lookup_alike o line m p))
      value_alike (element_node line a i) fr fr' l =
          alike_bind (value_alike a fr fr' l) (λ x x' m. alike_bind (value_alike i fr fr' l) (λ j j' p. element_alike line m p))
      value_alike (not_node e) fr fr' l = alike_bind (value_alike e fr fr' l) (λ x x' m. negated_alike m)
      value_alike (cast_node c e) fr fr' l = alike_bind (value_alike e fr fr' l) (λ x x' m. cast_to_alike o c m)
      value_alike (binary_node line op ds a b) fr fr' l =
          alike_bind (value_alike a fr fr' l) (λ x x' m. alike_bind (value_alike b fr fr' l) (λ y y' p. operation_alike o line op ds m p))
      value_alike (cut_node c a b) fr fr' l =
          alike_bind (value_alike a fr fr' l) (λ x x' m.
          either_alike (gives_private here a) (not_cut_alike c m (value_alike b fr fr' l)) (cut_alike c (gives_private here b) m (value_alike b fr fr' l)))
      value_alike (declassify_node e) fr fr' l = alike_bind (value_alike e fr fr' l) (λ x x' m. declassified_alike o m)

      arguments_alike : (b : List BoundDomain) (ss : List Slot) (es : TypedTrees) (fr fr' : Frame) → LikeFrames fr fr'
          → Alike AllLike (arguments (clear o) calls here b ss es fr) (arguments (unseen o) calls' here b ss es fr')
      arguments_alike b ss Tree'.none fr fr' l = alike_done no_more
      arguments_alike b ss (Tree'.also e es) fr fr' l =
          alike_bind (value_alike e fr fr' l) (λ x x' m. alike_bind (wanted_alike (next_is_private b ss) m) (λ a a' m.
          alike_bind (arguments_alike b (behind_next ss) es fr fr' l) (λ xs xs' p. alike_done (and_more m p))))
