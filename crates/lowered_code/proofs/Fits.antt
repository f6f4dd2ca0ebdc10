-- Well-typed programs fit what their code asks of them.
use Rattle.std.proofs.Common.{◌≡◌, ℕ, zero, suc, List, [], ◌∷◌, take, Option, Some, None, Bool, true, false, ◌&&◌, ◌||◌, refl, sym, ap, ap₂, ◌∙◌, subst}
use Rattle.std.specs.List.{slice_get}
use Rattle.std.proofs.lemmas.Option.{slice_get_within}
use Rattle.program_trees.specs.declared.kinds.Shape.{Shape}
use Rattle.program_trees.specs.declared.kinds.Slot.{Slot}
use Rattle.program_trees.specs.declared.typed_function.Returned.{Returned}
use Rattle.program_trees.specs.declared.typed_function.Returned.TheVariants.{Nothing, Value}
use Rattle.program_trees.specs.TypedTree.{TypedTree, TypedTrees, word_node, truth_node, zero_node, slot_node, call_node, size_node, cat_node, sum_node, bits_node}
use Rattle.program_trees.specs.TypedTree.{lookup_node, element_node, not_node, cast_node, binary_node, cut_node, declassify_node}
use Rattle.program_trees.specs.TypedTree as Tree'
use Rattle.program_trees.specs.TypedStatements.{TypedStatementTree, TypedStatementTrees, empty_statement, block_statement, if_statement, loop_statement, do_statement}
use Rattle.program_trees.specs.TypedStatements.{break_statement, continue_statement, return_statement, assert_statement, store_statement, default_statement}
use Rattle.program_trees.specs.TypedStatements.{fill_statement, input_statement, element_statement, publish_statement, evaluate_statement}
use Rattle.program_trees.specs.TypedStatements as Statements'
use Rattle.program_trees.specs.TypedPrograms.{TypedProgramTree}
use Rattle.program_trees.specs.Programs.{ProgramTree}
use Rattle.domain_types.specs.ProgramTypes.{IsAccepted}
use Rattle.name_resolution.specs.Functions.{typed_of}
use Rattle.reached_instances.specs.declared.instance.BoundDomain.{BoundDomain}
use Rattle.reached_instances.specs.declared.instance.BoundDomain.TheVariants.{Public, Private}
use Rattle.reached_instances.specs.Domains.{Setting, domain, domains, domain_under, slot_domain, given_domain, bound_below, binding_of}
use Rattle.reached_instances.specs.Instances.{Instance}
use Rattle.reached_instances.specs.Calls.{called, main_of}
use Rattle.reached_instances.specs.Reached.{IsReachedList}
use Rattle.language_model.specs.Evaluation.{StatementContext, is_private, bound_at, slots_of}
use Rattle.code_model.specs.Fit as fit
use Rattle.code_model.specs.Fit.{MayStand, IsFit, AreFit, FitsSlot, IsFitStatement, AreFitStatements, IsThere, IsFitAlone, IsFitProgram, the_main, gives_value}
use Rattle.code_model.proofs.Means.{means}
use Rattle.code_model.proofs.Reached.{reached_fit}
use Rattle.well_typed.specs.Kinds.{GoesTo}
use Rattle.well_typed.specs.Expressions.{Gives, AreTaken}
use Rattle.well_typed.specs.Statements.{FitsInto, IsWellTypedStatement, AreWellTypedStatements}
use Rattle.well_typed.specs.Statements as typed
use Rattle.well_typed.specs.Programs.{GivesBack, IsWellTypedInstance, HasPlainMain, IsWellTyped}
use Rattle.well_typed.specs.Sources.{IsWellWritten}
use Rattle.well_typed.proofs.Reaching.{accepted_well_typed}
use Rattle.lowered_code.specs.Laws.{MeansAlways}

clash : false ≡ true → ⊥
clash h = cc

goes_may : (g w : BoundDomain) → GoesTo g w → MayStand (is_private g) (is_private w)
goes_may Public w h = λ e. absurd (clash e)
goes_may (Private k) Public h = absurd h
goes_may (Private k) (Private m) h = λ e. refl

-- ---- EXPRESSIONS AND STATEMENTS

module _ (here : Setting) where
  abbrev There : ℕ → List BoundDomain → Type 0
  There = IsThere here.functions

  mutual
    expression_fits : (e : TypedTree) (g : Option Shape) → Gives here e g → IsFit There here e
    expression_fits (word_node n) g h = tt
    expression_fits (truth_node b) g h = tt
    expression_fits zero_node g h = h.0
    expression_fits (slot_node k) g h = slice_get_within here.slots k h.0 h.1
    expression_fits (call_node line k es) g h =
        let ds = domains here es in (
          (h.0, h.1),
          subst (λ o. AreFit There here (bound_at o ds) (slots_of o) es) (sym h.1)
              (arguments_fit (binding_of h.0 ds) h.0.slots h.0.parameters es h.2),
        )
    expression_fits (size_node e) g h = expression_fits e _ h.1
    expression_fits (cat_node line a b) g h = (expression_fits a _ h.1, expression_fits b _ h.2)
    expression_fits (sum_node e) g h = expression_fits e _ h.1
    expression_fits (bits_node line e) g h = expression_fits e _ h.1
    expression_fits (lookup_node line a i) g h = (expression_fits a _ h.2, expression_fits i _ h.3, h.6)
    expression_fits (element_node line a i) g h = (expression_fits a _ h.1, expression_fits i _ h.2)
    expression_fits (not_node e) g h = expression_fits e _ h.1
    expression_fits (cast_node c e) g h = expression_fits e _ h.1
    expression_fits (binary_node line op ds a b) g h = (expression_fits a _ h.0, expression_fits b _ h.1)
    expression_fits (cut_node c a b) g h = (expression_fits a _ h.0, expression_fits b _ h.1)
    expression_fits (declassify_node e) g h = expression_fits e _ h.1

    arguments_fit : (b : List BoundDomain) (ss : List Slot) (n : ℕ) (es : TypedTrees) → AreTaken here b (take n ss) es → AreFit There here b ss es
    arguments_fit b ss n Tree'.none h = tt
    arguments_fit b [] zero (Tree'.also e es) h = h
    arguments_fit b [] (suc n) (Tree'.also e es) h = h
    arguments_fit b (s ∷ ss) zero (Tree'.also e es) h = absurd h
    arguments_fit b (s ∷ ss) (suc n) (Tree'.also e es) h =
        (expression_fits e _ h.0, goes_may (domain here e) (domain_under b s.domain) h.1, arguments_fit b ss n es h.2)

  slot_fits : (k : ℕ) (s : Slot) (shape : Shape) (e : TypedTree) → slice_get here.slots k ≡ Some s → FitsInto here s shape e → FitsSlot There here k e
  slot_fits k s shape e there h = (
    slice_get_within here.slots k s there,
    expression_fits e _ h.0,
    subst (λ o. MayStand (is_private (domain here e)) (is_private (slot_domain here.binding o))) (sym there)
        (goes_may (domain here e) (domain_under here.binding s.domain) h.1),
  )

  module _ (given : Returned) where
    abbrev at : StatementContext
    at = record { here = here; secret_result = is_private (given_domain here.binding given) }

  return_fits : (g : Returned) (o : Option TypedTree) → typed.IsReturned here g o → (inside : Bool) → IsFitStatement There (at g) inside (return_statement o)
  return_fits Nothing None h inside = refl
  return_fits Nothing (Some e) h inside = absurd h
  return_fits (Value s) None h inside = absurd h
  return_fits (Value s) (Some e) h inside = (expression_fits e _ h.0, goes_may (domain here e) (domain_under here.binding s.domain) h.1)

  mutual
    statement_fits : (g : Returned) (inside : Bool) (c : TypedStatementTree) → IsWellTypedStatement here g inside c → IsFitStatement There (at g) inside c
    statement_fits g inside empty_statement h = tt
    statement_fits g inside (block_statement cs) h = statements_fit g inside cs h
    statement_fits g inside (if_statement e a b) h = (expression_fits e _ h.0.0, statement_fits g inside a h.1, statement_fits g inside b h.2)
    statement_fits g inside (loop_statement e step body) h = (expression_fits e _ h.0.0, statement_fits g false step h.1, statement_fits g true body h.2)
    statement_fits g inside (do_statement body e) h = (statement_fits g true body h.0, expression_fits e _ h.1.0)
    statement_fits g inside break_statement h = h
    statement_fits g inside continue_statement h = h
    statement_fits g inside (return_statement o) h = return_fits g o h inside
    statement_fits g inside (assert_statement line e) h = expression_fits e _ h.0
    statement_fits g inside (store_statement k e) h = slot_fits k h.0 _ e h.1 h.2
    statement_fits g inside (default_statement k) h = slice_get_within here.slots k h.0 h.1
    statement_fits g inside (fill_statement line k n e) h = (expression_fits n _ h.2.0, slot_fits k h.0 _ e h.1.0 h.3)
    statement_fits g inside (input_statement line k text) h = slice_get_within here.slots k h.0 h.1
    statement_fits g inside (element_statement line k i e) h = (expression_fits i _ h.2.0, slot_fits k h.0 _ e h.1.0 h.3)
    statement_fits g inside (publish_statement text e) h = expression_fits e _ h.1
    statement_fits g inside (evaluate_statement e) h = expression_fits e _ h.1

    statements_fit : (g : Returned) (inside : Bool) (cs : TypedStatementTrees) → AreWellTypedStatements here g inside cs
        → AreFitStatements There (at g) inside cs
    statements_fit g inside Statements'.none h = tt
    statements_fit g inside (Statements'.also c cs) h = (statement_fits g inside c h.0, statements_fit g inside cs h.1)

-- ---- RETURNS

mutual
  same_always : (c : TypedStatementTree) → typed.always_returns c ≡ fit.always_returns c
  same_always empty_statement = refl
  same_always (block_statement cs) = same_one cs
  same_always (if_statement e a b) = ap₂ ◌&&◌ (same_always a) (same_always b)
  same_always (loop_statement e step body) = refl
  same_always (do_statement body e) = refl
  same_always break_statement = refl
  same_always continue_statement = refl
  same_always (return_statement e) = refl
  same_always (assert_statement line e) = refl
  same_always (store_statement k e) = refl
  same_always (default_statement k) = refl
  same_always (fill_statement line k n e) = refl
  same_always (input_statement line k text) = refl
  same_always (element_statement line k i e) = refl
  same_always (publish_statement text e) = refl
  same_always (evaluate_statement e) = refl

  same_one : (cs : TypedStatementTrees) → typed.one_returns cs ≡ fit.one_returns cs
  same_one Statements'.none = refl
  same_one (Statements'.also c cs) = ap₂ ◌||◌ (same_always c) (same_one cs)

returns : (g : Returned) (body : TypedStatementTrees) → GivesBack g body → gives_value g ≡ true → fit.one_returns body ≡ true
returns Nothing body h e = absurd (clash e)
returns (Value s) body h e = sym (same_one body) ∙ h

-- ---- PROGRAMS

alone : (p : TypedProgramTree) (i : Instance) → IsWellTypedInstance p i → IsFitAlone p i
alone p i h =
    let f = h.called in
    record {
      called = f;
      there = h.there;
      fit = record {
        body = statements_fit (record { functions = p.functions; slots = f.slots; binding = i.binding }) f.given false f.body h.body;
        returns = returns f.given f.body h.returns;
      };
    }

main_is : (p : TypedProgramTree) → HasPlainMain p → main_of p ≡ the_main ∷ []
main_is p h =
    ap (λ o. called 0 o []) h.there ∙ ap (λ n. record { function = 0; binding = bound_below n h.called.slots [] } ∷ []) h.variables

pub well_typed_fits : (p : TypedProgramTree) (is : List Instance) → IsWellTyped p → IsReachedList p is → IsFitProgram p is
well_typed_fits p is h reached = reached_fit p is reached (main_is p h.main) (λ i m. alone p i (h.instances i (reached.reached i m)))

pub accepted_means : (source : ProgramTree) → IsAccepted source → IsWellWritten source → (p : TypedProgramTree) → typed_of source ≡ Some p
    → (is : List Instance) → IsReachedList p is → MeansAlways p is
accepted_means source accepted written p resolved is reached w budget answers =
    means p is (well_typed_fits p is (accepted_well_typed source accepted written p resolved) reached) w budget answers
