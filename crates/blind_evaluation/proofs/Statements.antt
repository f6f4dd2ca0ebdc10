-- Statements, functions and calls are carried out alike.
use Rattle.std.proofs.Common.{◌≡◌, ℕ, zero, suc, ◌+◌, List, [], ◌∷◌, Option, Some, None, Bool, true, false, cond, refl, ap, ◌∙◌}
use Rattle.std.specs.Prelude.{nat_eq, map, sum, slice_get}
use Rattle.sc_text.specs.declared.end.Ending.TheVariants as ending
use Rattle.sc_text.specs.declared.end.TrapKind.TheVariants as trap
use Rattle.program_trees.specs.declared.expression.DataType.TheVariants.{Uint64}
use Rattle.program_trees.specs.declared.kinds.Shape.{Shape}
use Rattle.program_trees.specs.declared.kinds.Slot.{Slot}
use Rattle.program_trees.specs.TypedStatements.{TypedStatementTree, TypedStatementTrees, empty_statement, block_statement, if_statement, loop_statement, do_statement}
use Rattle.program_trees.specs.TypedStatements.{break_statement, continue_statement, return_statement, assert_statement, store_statement, default_statement}
use Rattle.program_trees.specs.TypedStatements.{fill_statement, input_statement, element_statement, publish_statement, evaluate_statement}
use Rattle.program_trees.specs.TypedStatements as Statements'
use Rattle.program_trees.specs.TypedPrograms.{TypedFunctionTree}
use Rattle.language_model.specs.BoundDomain.{BoundDomain}
use Rattle.language_model.specs.Domains.{domain_under}
use Rattle.program_trees.specs.Shapes.{shape_of}
use Rattle.language_model.specs.Effects.{Stage, Effect}
use Rattle.language_model.specs.Values.{Value, size, default_words}
use Rattle.language_model.specs.Evaluation.{Frame, put, Calls, nothing, is_private, slot_is_private, behind_next, either, value, Flow, goes, returns}
use Rattle.language_model.specs.Evaluation.{stops, skips, then_do, turned, turns, repeats, StatementContext, slot_shape, stored, execute, execute_all}
use Rattle.language_model.specs.Evaluation.{begins, entered, result_of, place_in, body_of, array_elements, call_at}
use Rattle.language_model.specs.Reports.{Offered}
use Rattle.blind_evaluation.proofs.Alike.{Alike, AlikeAt, alike_bind, alike_done, same_bind, any_bind, end_alike, charge_alike, charge_equal}
use Rattle.blind_evaluation.proofs.AlikeValues.{LikeValues, plains, like_size, like_shape, never_like, AllLike, no_more, and_more}
use Rattle.blind_evaluation.proofs.Rows.{clear, unseen, sized_alike, wanted_alike, with_element_alike, filled_alike, tested_alike, asserted_alike}
use Rattle.blind_evaluation.proofs.Rows.{published_alike}
use Rattle.blind_evaluation.proofs.Inputs.{input_like, asked_for_alike}
use Rattle.blind_evaluation.proofs.Expressions.{LikeFrames, CallsAlike, either_alike, value_alike}

abbrev pub LikeFlow : Flow → Flow → Type 0
LikeFlow (goes fr) (goes fr') = LikeFrames fr fr'
LikeFlow (returns v) (returns v') = LikeValues v v'
LikeFlow (stops fr) (stops fr') = LikeFrames fr fr'
LikeFlow (skips fr) (skips fr') = LikeFrames fr fr'
LikeFlow g g' = ⊥

nothing_like : LikeValues nothing nothing
nothing_like = plains (shape_of Uint64 false) (0 ∷ [])

put_like : (k : ℕ) {v v' : Value} {fr fr' : Frame} → LikeValues v v' → LikeFrames fr fr' → LikeFrames (put k v fr) (put k v' fr')
put_like k {v = v} {v' = v'} {fr = fr} {fr' = fr'} l m i = go (nat_eq i k)
  where
    go : (b : Bool) → LikeValues (cond b v (fr i)) (cond b v' (fr' i))
    go true = l
    go false = m i

-- ---- CONTROL

then_alike : (g g' : Flow) (f f' : Frame → Effect Flow) → LikeFlow g g' → ((fr fr' : Frame) → LikeFrames fr fr' → Alike LikeFlow (f fr) (f' fr'))
    → Alike LikeFlow (then_do g f) (then_do g' f')
then_alike (goes fr) (goes fr') f f' l k = k fr fr' l
then_alike (returns v) (returns v') f f' l k = alike_done l
then_alike (stops fr) (stops fr') f f' l k = alike_done l
then_alike (skips fr) (skips fr') f f' l k = alike_done l
then_alike g g' f f' l k = absurd l

turned_alike : (g g' : Flow) (f f' : Frame → Effect Flow) → LikeFlow g g' → ((fr fr' : Frame) → LikeFrames fr fr' → Alike LikeFlow (f fr) (f' fr'))
    → Alike LikeFlow (turned g f) (turned g' f')
turned_alike (goes fr) (goes fr') f f' l k = k fr fr' l
turned_alike (skips fr) (skips fr') f f' l k = k fr fr' l
turned_alike (stops fr) (stops fr') f f' l k = alike_done l
turned_alike (returns v) (returns v') f f' l k = alike_done l
turned_alike g g' f f' l k = absurd l

abbrev AlikeInFrames : {A B : Type 0} → (A → B → Type 0) → (Frame → Effect A) → (Frame → Effect B) → Type 0
AlikeInFrames R f f' = (fr fr' : Frame) → LikeFrames fr fr' → Alike R (f fr) (f' fr')

turns_alike : (n : ℕ) (c c' : Frame → Effect Value) (step step' body body' : Frame → Effect Flow) → AlikeInFrames LikeValues c c'
    → AlikeInFrames LikeFlow step step' → AlikeInFrames LikeFlow body body' → AlikeInFrames LikeFlow (turns n c step body) (turns n c' step' body')
unfolding turns
turns_alike zero c c' step step' body body' hc hs hb fr fr' l = end_alike ending.Budget
turns_alike (suc n) c c' step step' body body' hc hs hb fr fr' l =
    alike_bind (hc fr fr' l) (λ v v' m. same_bind (tested_alike m) (λ t. either_alike t (alike_bind (hb fr fr' l) (λ g g' p. turned_alike g g' _ _ p (λ f f' q.
    alike_bind (hs f f' q) (λ h h' r. turned_alike h h' (turns n c step body) (turns n c' step' body') r
    (turns_alike n c c' step step' body body' hc hs hb))))) (alike_done l)))

repeats_alike : (n : ℕ) (c c' : Frame → Effect Value) (body body' : Frame → Effect Flow) → AlikeInFrames LikeValues c c'
    → AlikeInFrames LikeFlow body body' → AlikeInFrames LikeFlow (repeats n c body) (repeats n c' body')
unfolding repeats
repeats_alike zero c c' body body' hc hb fr fr' l = end_alike ending.Budget
repeats_alike (suc n) c c' body body' hc hb fr fr' l =
    alike_bind (hb fr fr' l) (λ g g' p. turned_alike g g' _ _ p (λ f f' q. alike_bind (hc f f' q) (λ v v' m. same_bind (tested_alike m) (λ t.
    either_alike t (repeats_alike n c c' body body' hc hb f f' q) (alike_done q)))))

-- ---- STATEMENTS

module _ (o : Offered) where
  module _ (calls calls' : Calls) (ok : CallsAlike calls calls') (at : StatementContext) where
    stored_alike : (k : ℕ) {v v' : Value} {fr fr' : Frame} → LikeValues v v' → LikeFrames fr fr'
        → Alike LikeFlow (stored at.here k v fr) (stored at.here k v' fr')
    stored_alike k l m = alike_bind (wanted_alike (slot_is_private at.here k) l) (λ u u' p. any_bind (sized_alike p) (λ _ _. alike_done (put_like k p m)))

    mutual
      unfolding execute execute_all

      execute_alike : (c : TypedStatementTree) (fr fr' : Frame) → LikeFrames fr fr'
          → Alike LikeFlow (execute (clear o) calls at c fr) (execute (unseen o) calls' at c fr')
      execute_alike empty_statement fr fr' l = alike_done l
      execute_alike (block_statement cs) fr fr' l = execute_all_alike cs fr fr' l
      execute_alike (if_statement e a b) fr fr' l =
          alike_bind (value_alike o calls calls' ok at.here e fr fr' l)
          (λ v v' m. same_bind (tested_alike m) (λ t. either_alike t (execute_alike a fr fr' l) (execute_alike b fr fr' l)))
      execute_alike (loop_statement e step body) fr fr' l =
          record {
            from = λ s. again s
                ((turns_alike (s.left + 1) _ _ _ _ _ _ (value_alike o calls calls' ok at.here e) (execute_alike step) (execute_alike body) fr fr' l).from s);
          }
        where
          again : (s : Stage) → AlikeAt LikeFlow
              (turns (s.left + 1) (value (clear o) calls at.here e) (execute (clear o) calls at step) (execute (clear o) calls at body) fr)
              (turns (s.left + 1) (value (unseen o) calls' at.here e) (execute (unseen o) calls' at step) (execute (unseen o) calls' at body) fr') s
              → AlikeAt LikeFlow (λ s. turns (s.left + 1) (value (clear o) calls at.here e) (execute (clear o) calls at step)
              (execute (clear o) calls at body) fr s)
              (λ s. turns (s.left + 1) (value (unseen o) calls' at.here e) (execute (unseen o) calls' at step) (execute (unseen o) calls' at body) fr' s) s
          again s t = record { words = t.words; opened = t.opened; same = t.same }
      execute_alike (do_statement body e) fr fr' l =
          record { from = λ s. again s ((repeats_alike (s.left + 1) _ _ _ _ (value_alike o calls calls' ok at.here e) (execute_alike body) fr fr' l).from s) }
        where
          again : (s : Stage) → AlikeAt LikeFlow (repeats (s.left + 1) (value (clear o) calls at.here e) (execute (clear o) calls at body) fr)
              (repeats (s.left + 1) (value (unseen o) calls' at.here e) (execute (unseen o) calls' at body) fr') s
              → AlikeAt LikeFlow (λ s. repeats (s.left + 1) (value (clear o) calls at.here e) (execute (clear o) calls at body) fr s)
              (λ s. repeats (s.left + 1) (value (unseen o) calls' at.here e) (execute (unseen o) calls' at body) fr' s) s
          again s t = record { words = t.words; opened = t.opened; same = t.same }
      execute_alike break_statement fr fr' l = alike_done l
      execute_alike continue_statement fr fr' l = alike_done l
      execute_alike (return_statement None) fr fr' l = alike_done nothing_like
      execute_alike (return_statement (Some e)) fr fr' l =
          alike_bind (value_alike o calls calls' ok at.here e fr fr' l) (λ x x' m. alike_bind (wanted_alike at.secret_result m) (λ v v' p. alike_done p))
      execute_alike (assert_statement line e) fr fr' l =
          alike_bind (value_alike o calls calls' ok at.here e fr fr' l) (λ v v' m. any_bind (asserted_alike line m) (λ _ _. alike_done l))
      execute_alike (store_statement k e) fr fr' l = alike_bind (value_alike o calls calls' ok at.here e fr fr' l) (λ x x' m. stored_alike k m l)
      execute_alike (default_statement k) fr fr' l = stored_alike k (plains (slot_shape at.here k) (default_words (slot_shape at.here k).array)) l
      execute_alike (fill_statement line k n e) fr fr' l =
          alike_bind (value_alike o calls calls' ok at.here n fr fr' l) (λ m m' p. alike_bind (value_alike o calls calls' ok at.here e fr fr' l) (λ x x' q.
          alike_bind (wanted_alike (slot_is_private at.here k) q) (λ a a' q. alike_bind (filled_alike line p q) (λ v v' r. alike_done (put_like k r l)))))
      execute_alike (input_statement line k text) fr fr' l =
          alike_bind (asked_for_alike (slot_is_private at.here k) (slot_shape at.here k) line (input_like o text)) (λ x x' m. stored_alike k m l)
      execute_alike (element_statement line k i e) fr fr' l =
          alike_bind (value_alike o calls calls' ok at.here i fr fr' l) (λ j j' p. alike_bind (value_alike o calls calls' ok at.here e fr fr' l) (λ x x' q.
          alike_bind (wanted_alike (slot_is_private at.here k) q)
          (λ a a' q. alike_bind (with_element_alike line (l k) p q) (λ v v' r. alike_done (put_like k r l)))))
      execute_alike (publish_statement text e) fr fr' l =
          alike_bind (value_alike o calls calls' ok at.here e fr fr' l) (λ v v' m. any_bind (published_alike o text m) (λ _ _. alike_done l))
      execute_alike (evaluate_statement e) fr fr' l = alike_bind (value_alike o calls calls' ok at.here e fr fr' l) (λ v v' m. alike_done l)

      execute_all_alike : (cs : TypedStatementTrees) (fr fr' : Frame) → LikeFrames fr fr'
          → Alike LikeFlow (execute_all (clear o) calls at cs fr) (execute_all (unseen o) calls' at cs fr')
      execute_all_alike Statements'.none fr fr' l = alike_done l
      execute_all_alike (Statements'.also c cs) fr fr' l = alike_bind (execute_alike c fr fr' l) (λ g g' p. then_alike g g' _ _ p (execute_all_alike cs))

  -- ---- FUNCTIONS

  begins_like : (b : List BoundDomain) (s : Option Slot) → LikeValues (begins b s) (begins b s)
  begins_like b None = nothing_like
  begins_like b (Some s) = never_like (is_private (domain_under b s.domain)) s.shape

  entered_like : (b : List BoundDomain) (ss : List Slot) {xs xs' : List Value} → AllLike xs xs' → LikeFrames (entered b ss xs) (entered b ss xs')
  entered_like b ss no_more k = begins_like b (slice_get ss k)
  entered_like b ss (and_more l m) zero = l
  entered_like b ss (and_more l m) (suc k) = entered_like b (behind_next ss) m k

  result_like : (g g' : Flow) → LikeFlow g g' → LikeValues (result_of g) (result_of g')
  result_like (goes fr) (goes fr') l = nothing_like
  result_like (returns v) (returns v') l = l
  result_like (stops fr) (stops fr') l = nothing_like
  result_like (skips fr) (skips fr') l = nothing_like
  result_like g g' l = absurd l

  pub body_alike : (calls calls' : Calls) → CallsAlike calls calls'
      → (fs : List TypedFunctionTree) (f : Option TypedFunctionTree) (b : List BoundDomain) {xs xs' : List Value} → AllLike xs xs'
      → Alike LikeValues (body_of (clear o) calls fs f b xs) (body_of (unseen o) calls' fs f b xs')
  body_alike calls calls' ok fs None b m = alike_done nothing_like
  body_alike calls calls' ok fs (Some f) b m =
      alike_bind (execute_all_alike calls calls' ok (place_in fs f b) f.body _ _ (entered_like b f.slots m)) (λ g g' p. alike_done (result_like g g' p))

  elements_same : {v v' : Value} → LikeValues v v' → array_elements v ≡ array_elements v'
  elements_same {v = v} {v' = v'} l = ap (λ n. either v.shape.array n 0) (like_size l) ∙ ap (λ (s : Shape). either s.array (size v') 0) (like_shape l)

  all_elements_same : {xs xs' : List Value} → AllLike xs xs' → map array_elements xs ≡ map array_elements xs'
  all_elements_same no_more = refl
  all_elements_same (and_more {x' = x'} {xs = xs} l m) =
      ap (λ n. n ∷ map array_elements xs) (elements_same l) ∙ ap (λ ns. array_elements x' ∷ ns) (all_elements_same m)

  pub calls_alike : (fs : List TypedFunctionTree) (d : ℕ) → CallsAlike (call_at (clear o) fs d) (call_at (unseen o) fs d)
  unfolding call_at
  calls_alike fs zero line k b xs xs' m = any_bind (charge_alike 1) (λ _ _. end_alike (ending.Trap trap.Depth line))
  calls_alike fs (suc d) line k b xs xs' m =
      any_bind (charge_alike 1) (λ _ _. any_bind (charge_equal (ap sum (all_elements_same m))) (λ _ _.
      body_alike (call_at (clear o) fs d) (call_at (unseen o) fs d) (calls_alike fs d) fs (slice_get fs k) b m))
