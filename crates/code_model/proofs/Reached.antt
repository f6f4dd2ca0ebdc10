-- The list of reached instances has each instance that one of it calls.
use Rattle.std.proofs.Common.{◌≡◌, ℕ, List, [], ◌∷◌, ◌++◌, Option, Some, None, Bool, true, false, refl, sym, ap, ◌∙◌, subst, inl}
use Rattle.std.specs.Prelude.{slice_get}
use Rattle.std.proofs.lemmas.Option.{none-some}
use Rattle.sc_text.specs.Lists.{Among}
use Rattle.sc_text.proofs.Lists.{among_left, among_right}
use Rattle.program_trees.specs.declared.kinds.Slot.{Slot}
use Rattle.program_trees.specs.TypedTree.{TypedTree, TypedTrees, word_node, truth_node, zero_node, slot_node, call_node, size_node, cat_node, sum_node, bits_node, lookup_node, element_node}
use Rattle.program_trees.specs.TypedTree.{not_node, cast_node, binary_node, cut_node, declassify_node}
use Rattle.program_trees.specs.TypedTree as Tree'
use Rattle.program_trees.specs.TypedStatements.{TypedStatementTree, TypedStatementTrees, empty_statement, block_statement, if_statement, loop_statement, do_statement}
use Rattle.program_trees.specs.TypedStatements.{break_statement, continue_statement, return_statement, assert_statement, store_statement, default_statement}
use Rattle.program_trees.specs.TypedStatements.{fill_statement, input_statement, element_statement, publish_statement, evaluate_statement}
use Rattle.program_trees.specs.TypedStatements as Statements'
use Rattle.program_trees.specs.TypedPrograms.{TypedFunctionTree, TypedProgramTree}
use Rattle.reached_instances.specs.declared.instance.BoundDomain.{BoundDomain}
use Rattle.reached_instances.specs.Domains.{Setting, domains, binding_of}
use Rattle.reached_instances.specs.Instances.{Instance}
use Rattle.reached_instances.specs.Calls.{called, calls, calls_of_all, typed_statement_calls, typed_statements_calls, function_calls, called_by, main_of}
use Rattle.reached_instances.specs.Reached.{follows, IsReachedList}
use Rattle.reached_instances.proofs.ReachedLists.{has_each_reached, begins_with_main}
use Rattle.blind_evaluation.specs.Evaluation.{StatementContext, place_in, bound_at, slots_of}
use Rattle.code_model.specs.Fit.{IsFit, AreFit, FitsSlot, IsFitStatement, AreFitStatements, IsThere, IsKnownIn, IsFitInstance, IsFitAlone}
use Rattle.code_model.specs.Fit.{IsFitProgram, the_main}

module _ (Known : ℕ → List BoundDomain → Type 0) where
  abbrev AllKnown : List Instance → Type 0
  AllKnown is = (j : Instance) → Among j is → Known j.function j.binding

  front : (a b : List Instance) → AllKnown (a ++ b) → AllKnown a
  front a b h = λ j m. h j (among_left j a b m)

  rest : (a b : List Instance) → AllKnown (a ++ b) → AllKnown b
  rest a b h = λ j m. h j (among_right j a b m)

  call_known : (k : ℕ) (o : Option TypedFunctionTree) (ds : List BoundDomain) → (f : TypedFunctionTree) × (o ≡ Some f) → AllKnown (called k o ds) → Known k
      (bound_at o ds)
  call_known k None ds there h = absurd (none-some _ there.1)
  call_known k (Some f) ds there h = h (record { function = k; binding = binding_of f ds }) (inl refl)

  mutual
    knows : (here : Setting) (e : TypedTree) → IsFit (IsThere here.functions) here e → AllKnown (calls here e) → IsFit Known here e
    knows here (word_node n) fit h = tt
    knows here (truth_node b) fit h = tt
    knows here zero_node fit h = fit
    knows here (slot_node k) fit h = fit
    knows here (call_node line k es) fit h =
        let o = slice_get here.functions k in
        let ds = domains here es in (
          call_known k o ds fit.0 (rest (calls_of_all here es) (called k o ds) h),
          all_know here (bound_at o ds) (slots_of o) es fit.1 (front (calls_of_all here es) (called k o ds) h),
        )
    knows here (size_node e) fit h = knows here e fit h
    knows here (cat_node line a b) fit h = (
      knows here a fit.0 (front (calls here a) (calls here b) h),
      knows here b fit.1
          (rest (calls here a) (calls here b) h),
    )
    knows here (sum_node e) fit h = knows here e fit h
    knows here (bits_node line e) fit h = knows here e fit h
    knows here (lookup_node line a i) fit h = (
      knows here a fit.0 (front (calls here a) (calls here i) h),
      knows here i fit.1
          (rest (calls here a) (calls here i) h),
      fit.2,
    )
    knows here (element_node line a i) fit h = (
      knows here a fit.0 (front (calls here a) (calls here i) h),
      knows here i fit.1
          (rest (calls here a) (calls here i) h),
    )
    knows here (not_node e) fit h = knows here e fit h
    knows here (cast_node c e) fit h = knows here e fit h
    knows here (binary_node line op ds a b) fit h = (
      knows here a fit.0 (front (calls here a) (calls here b) h),
      knows here b fit.1
          (rest (calls here a) (calls here b) h),
    )
    knows here (cut_node c a b) fit h = (knows here a fit.0 (front (calls here a) (calls here b) h), knows here b fit.1 (rest (calls here a) (calls here b) h))
    knows here (declassify_node e) fit h = knows here e fit h

    all_know : (here : Setting) (b : List BoundDomain) (ss : List Slot) (es : TypedTrees) → AreFit (IsThere here.functions) here b ss es → AllKnown
        (calls_of_all here es) → AreFit Known here b ss es
    all_know here b ss Tree'.none fit h = tt
    all_know here b [] (Tree'.also e es) fit h = fit
    all_know here b (s ∷ ss) (Tree'.also e es) fit h =
        (knows here e fit.0 (front (calls here e) (calls_of_all here es) h), fit.1, all_know here b ss es fit.2 (rest (calls here e) (calls_of_all here es) h))

  slot_knows : (here : Setting) (k : ℕ) (e : TypedTree) → FitsSlot (IsThere here.functions) here k e → AllKnown (calls here e) → FitsSlot Known here k e
  slot_knows here k e fit h = (fit.0, knows here e fit.1 h, fit.2)

  mutual
    statement_knows : (at : StatementContext) (i : Bool) (c : TypedStatementTree) → IsFitStatement (IsThere at.here.functions) at i c
        → AllKnown (typed_statement_calls at.here c)
        → IsFitStatement Known at i c
    statement_knows at i empty_statement fit h = tt
    statement_knows at i (block_statement cs) fit h = statements_know at i cs fit h
    statement_knows at i (if_statement e a b) fit h =
        let ce = calls at.here e in
        let ca = typed_statement_calls at.here a in
        let cb = typed_statement_calls at.here b in
        let more = rest ce (ca ++ cb) h in
        (knows at.here e fit.0 (front ce (ca ++ cb) h), statement_knows at i a fit.1 (front ca cb more), statement_knows at i b fit.2 (rest ca cb more))
    statement_knows at i (loop_statement e step body) fit h =
        let ce = calls at.here e in
        let cs = typed_statement_calls at.here step in
        let cb = typed_statement_calls at.here body in
        let more = rest cb (cs ++ ce) h in (
          knows at.here e fit.0 (rest cs ce more),
          statement_knows at false step fit.1 (front cs ce more),
          statement_knows at true body fit.2
              (front cb (cs ++ ce) h),
        )
    statement_knows at i (do_statement body e) fit h =
        let ce = calls at.here e in
        let cb = typed_statement_calls at.here body in
        (statement_knows at true body fit.0 (front cb ce h), knows at.here e fit.1 (rest cb ce h))
    statement_knows at i break_statement fit h = fit
    statement_knows at i continue_statement fit h = fit
    statement_knows at i (return_statement None) fit h = fit
    statement_knows at i (return_statement (Some e)) fit h = (knows at.here e fit.0 h, fit.1)
    statement_knows at i (assert_statement line e) fit h = knows at.here e fit h
    statement_knows at i (store_statement k e) fit h = slot_knows at.here k e fit h
    statement_knows at i (default_statement k) fit h = fit
    statement_knows at i (fill_statement line k n e) fit h =
        let cn = calls at.here n in
        let ce = calls at.here e in
        (knows at.here n fit.0 (front cn ce h), slot_knows at.here k e fit.1 (rest cn ce h))
    statement_knows at i (input_statement line k text) fit h = fit
    statement_knows at i (element_statement line k j e) fit h =
        let cj = calls at.here j in
        let ce = calls at.here e in
        (knows at.here j fit.0 (front cj ce h), slot_knows at.here k e fit.1 (rest cj ce h))
    statement_knows at i (publish_statement text e) fit h = knows at.here e fit h
    statement_knows at i (evaluate_statement e) fit h = knows at.here e fit h

    statements_know : (at : StatementContext) (i : Bool) (cs : TypedStatementTrees) → AreFitStatements (IsThere at.here.functions) at i cs
        → AllKnown (typed_statements_calls at.here cs)
        → AreFitStatements Known at i cs
    statements_know at i Statements'.none fit h = tt
    statements_know at i (Statements'.also c cs) fit h =
        let a = typed_statement_calls at.here c in
        let b = typed_statements_calls at.here cs in
        (statement_knows at i c fit.0 (front a b h), statements_know at i cs fit.1 (rest a b h))

-- ---- PROGRAMS

-- what an instance of the list calls is in the list
calls_listed : (p : TypedProgramTree) (is : List Instance) → IsReachedList p is → (i j : Instance) → Among i is → Among j (called_by p i) → Among j is
calls_listed p is h i j m n = has_each_reached p is j h (follows i j (h.reached i m) n)

pub reached_fit : (p : TypedProgramTree) (is : List Instance) → IsReachedList p is → main_of p ≡ the_main ∷ []
    → ((i : Instance) → Among i is → IsFitAlone p i) → IsFitProgram p is
reached_fit p is h main alone =
    let first = begins_with_main p is h in
    record { others = first.0; begins = first.1 ∙ ap (λ z. z ++ first.0) main; instances = fits }
  where
    fits : (i : Instance) → Among i is → IsFitInstance p is i
    fits i m =
        let a = alone i m in
        let at = place_in p.functions a.called i.binding in
        let listed : (j : Instance) → Among j (typed_statements_calls at.here a.called.body) → IsKnownIn is j.function j.binding =
        λ j n. calls_listed p is h i j m (subst (λ o. Among j (function_calls p.functions i.binding o)) (sym a.there) n) in
        record {
          called = a.called;
          there = a.there;
          fit = record { body = statements_know (IsKnownIn is) at false a.called.body a.fit.body listed; returns = a.fit.returns };
        }
