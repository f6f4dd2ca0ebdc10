-- The last steps of statements without others in them.
use Rattle.std.proofs.Common.{◌≡◌, ℕ, ◌+◌, Bool, List, [], ◌∷◌, ◌++◌, length, refl, ap, ap₂, ◌∙◌, append_assoc}
use Rattle.verified_code.specs.Steps.{Step}
use Rattle.program_trees.specs.TypedTree.{TypedTree}
use Rattle.reached_instances.specs.Domains.{Setting}
use Rattle.language_model.specs.Evaluation.{gives_private, slot_is_private}
use Rattle.code_model.specs.Expressions.{Numbers, classifying, lacks, picked, classified_at, stands_at, next_row, expression_code}
use Rattle.code_model.specs.Statements.{first_free}
use Rattle.lowered_expressions.specs.Built.{Built, with_step, with_steps}
use Rattle.lowered_expressions.proofs.Building.{two_parts, stepped}
use Rattle.lowering.specs.declared.simple_statements.Pair.{Pair}
use Rattle.lowering.specs.declared.simple_statements.Pair.TheVariants as pairs
use Rattle.lowering.specs.inner.Leaves.{pair_step, pair_statement, with_leaf}

-- one step after code and a classification, which reads the register where the value stands
pub pushed : (b f g : Built) (c d : List Step) (last : ℕ → Step) (r s : ℕ) → f ≡ with_steps b (c ++ d) → g ≡ with_step f (last r)
    → r ≡ s → g ≡ with_steps b (c ++ (d ++ last s ∷ []))
pushed b f g c d last r s e h same =
    stepped b f g (c ++ d) (last s ∷ []) e (h ∙ ap (λ (x : ℕ). with_step f (last x)) same)
    ∙ ap (with_steps b) (append_assoc c d (last s ∷ []))

-- a number and a value, and the step that reads both where they stand
pub pair_made : (b f g h : Built) (cn ce : (pc : ℕ) → List Step) (l : Bool)
    (first second v m u : ℕ) (last : ℕ → ℕ → Step)
    → f ≡ with_steps b (cn (length b.pieces))
    → g ≡ with_steps f (ce (length f.pieces) ++ classifying l m u)
    → h ≡ with_step g (last first second) → first ≡ v
    → second ≡ picked l m u
    → h ≡ with_steps b (cn (length b.pieces)
    ++ (ce (length b.pieces + length (cn (length b.pieces)))
    ++ (classifying l m u ++ last v (picked l m u) ∷ [])))
pair_made b f g h cn ce l first second v m u last e2 e3 e4 first_is second_is =
    let rest = λ (p : ℕ). ce p ++ (classifying l m u ++ last v (picked l m u) ∷ []) in
    let behind : h ≡ with_steps f (rest (length f.pieces)) =
    pushed f g h (ce (length f.pieces)) (classifying l m u) (last v) second
    (picked l m u) e3 (e4 ∙ ap (λ (x : ℕ). with_step g (last x second)) first_is) second_is in
    two_parts b f h (cn (length b.pieces)) rest e2 behind

module _ (number : Numbers) (here : Setting) where
  -- a number and a value, and a step that reads both
  abbrev pub pair_code : Built → (n e : TypedTree) → (wanted : Bool) → (ℕ → ℕ → Step) → List Step
  pair_code b n e w last =
      let t = first_free here.slots in
      let u = next_row t in
      let m = classified_at here e u in
      let r = stands_at here e u in
      let cn = expression_code number here t (length b.pieces) n in
      cn ++ (expression_code number here u (length b.pieces + length cn) e
      ++ (classifying (lacks w (gives_private here e)) m r
      ++ last (stands_at here n t) (picked (lacks w (gives_private here e)) m r) ∷ []))

  pub pair_is : (b : Built) (pair : Pair) (line slot : ℕ) (n e : TypedTree)
      → with_steps b (pair_code b n e (slot_is_private here slot) (pair_step pair line slot)) ≡ with_leaf number here b (pair_statement pair line slot n e)
  pair_is b pairs.Fill line slot n e = refl
  pair_is b pairs.Put line slot n e = refl
