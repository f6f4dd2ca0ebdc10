-- Statements one after another, and the scope after a block.
use Rattle.std.proofs.Common.{◌≡◌, ℕ, ◌-◌, ◌≤◌, List, [], ◌∷◌, ◌++◌, length, take, drop, refl, sym, ap, ◌∙◌, append_assoc, append-nil, arith, Option, Some}
use Rattle.std.proofs.Common.{None, Bool, true, false}
use Rattle.std.proofs.lemmas.List.{length-append}
use Rattle.std.proofs.Math.Seq.{drop-append_seam, take-append_seam}
use Rattle.program_trees.specs.declared.function.ResultType.{ResultType}
use Rattle.program_trees.specs.declared.function.ResultType.TheVariants as returned
use Rattle.sc_text.specs.declared.span.Span.{Span}
use Rattle.program_trees.specs.Tree.{Tree}
use Rattle.program_trees.specs.Statements.{StartTree, starts_with_nothing, starts_with_declaration, starts_with_assignment, StepTree, StatementTree}
use Rattle.program_trees.specs.Statements.{block, empty, branch, choice, while_loop, do_loop, for_loop, breaks, continues, returns, assertion}
use Rattle.program_trees.specs.Statements.{declaration, assignment, evaluation, StatementTrees, none, also, statements_of}
use Rattle.domain_types.specs.declared.fault.TypeFault.{TypeFault}
use Rattle.domain_types.specs.Settings.{Setting}
use Rattle.domain_types.specs.Scopes.{Variable, Scope, inner, leaving}
use Rattle.domain_types.specs.StatementTypes.{after, after_all, after_start, statement_faults, block_faults, start_faults}
use Rattle.domain_types.specs.StatementTypes.{optional_faults, step_faults, is_step_typed, for_own, return_own}
use Rattle.domain_types.specs.Reached.{Call, statement_calls, block_calls, start_calls, optional_calls, step_calls}
use Rattle.domain_types.specs.declared.value_type.ValueType.{ValueType}
use Rattle.domain_types.specs.inner.Given.{optional_type, for_rule, return_rule}
use Rattle.domain_types.specs.inner.LeastFault.{least}
use Rattle.domain_types.proofs.Visits.{then_least, then_calls}

pub after_all-more : (w : Setting) (s : Scope) (ts : List StatementTree) (t : StatementTree)
    → after_all w s (statements_of (ts ++ t ∷ [])) ≡ after w (after_all w s (statements_of ts)) t
after_all-more w s [] t = refl
after_all-more w s (u ∷ us) t = after_all-more w (after w s u) us t

pub block_faults-more : (w : Setting) (r : ResultType) (s : Scope) (ts : List StatementTree) (t : StatementTree)
    → block_faults w r s (statements_of (ts ++ t ∷ [])) ≡ block_faults w r s (statements_of ts) ++ statement_faults w r (after_all w s (statements_of ts)) t
block_faults-more w r s [] t = append-nil (statement_faults w r s t)
block_faults-more w r s (u ∷ us) t =
    ap (λ fs. statement_faults w r s u ++ fs) (block_faults-more w r (after w s u) us t)
    ∙ sym (append_assoc (statement_faults w r s u) (block_faults w r (after w s u) (statements_of us))
    (statement_faults w r (after_all w (after w s u) (statements_of us)) t))

pub block_calls-more : (w : Setting) (s : Scope) (ts : List StatementTree) (t : StatementTree)
    → block_calls w s (statements_of (ts ++ t ∷ [])) ≡ block_calls w s (statements_of ts) ++ statement_calls w (after_all w s (statements_of ts)) t
block_calls-more w s [] t = append-nil (statement_calls w s t)
block_calls-more w s (u ∷ us) t =
    ap (λ cs. statement_calls w s u ++ cs) (block_calls-more w (after w s u) us t)
    ∙ sym (append_assoc (statement_calls w s u) (block_calls w (after w s u) (statements_of us))
    (statement_calls w (after_all w (after w s u) (statements_of us)) t))

-- a statement leaves the variables of the blocks around its block
pub after_outer : (w : Setting) (s : Scope) (t : StatementTree) → (after w s t).outer ≡ s.outer
after_outer w s (declaration d) = refl
after_outer w s (block p ss) = refl
after_outer w s (empty p) = refl
after_outer w s (branch p e body) = refl
after_outer w s (choice p e body otherwise) = refl
after_outer w s (while_loop p e body) = refl
after_outer w s (do_loop p body e) = refl
after_outer w s (for_loop p start e step body) = refl
after_outer w s (breaks p) = refl
after_outer w s (continues p) = refl
after_outer w s (returns p e) = refl
after_outer w s (assertion p e) = refl
after_outer w s (assignment a) = refl
after_outer w s (evaluation e) = refl

pub after_all_outer : (w : Setting) (s : Scope) (ts : StatementTrees) → (after_all w s ts).outer ≡ s.outer
after_all_outer w s none = refl
after_all_outer w s (also t ts) = after_all_outer w (after w s t) ts ∙ after_outer w s t

-- after a block whose outer variables are those of s, s is known again
pub leaving_inner : (s x : Scope) → x.outer ≡ s.block ++ s.outer → leaving (length s.outer) x ≡ s
leaving_inner s x o =
    ap (λ (l : List Variable). parted (length l - length s.outer) l) o
    ∙ ap (λ n. parted n (s.block ++ s.outer)) count
    ∙ ap (λ (b : List Variable). parts b (drop (length s.block) (s.block ++ s.outer))) (take-append_seam s.block s.outer)
    ∙ ap (parts s.block) (drop-append_seam s.block s.outer)
  where
    parts : List Variable → List Variable → Scope
    parts b o = record { block = b; outer = o }

    parted : ℕ → List Variable → Scope
    parted n l = record { block = take n l; outer = drop n l }

    count : length (s.block ++ s.outer) - length s.outer ≡ length s.block
    count = let l = length-append s.block s.outer in omega arith

pub leave_fits : (s x : Scope) → x.outer ≡ s.block ++ s.outer → length s.outer ≤ length x.outer
leave_fits s x o = let l = length-append s.block s.outer in let m = ap length o in omega arith

pub after_start_outer : (w : Setting) (s : Scope) (a : StartTree) → (after_start w s a).outer ≡ s.outer
after_start_outer w s starts_with_nothing = refl
after_start_outer w s (starts_with_declaration d) = refl
after_start_outer w s (starts_with_assignment a) = refl

-- the rules, where the type that is given is that of the expression
for_by_type : (w : Setting) (s : Scope) (e : Option Tree) (b : Bool) → for_rule e (optional_type w s e) b ≡ for_own w s e b
for_by_type w s None b = refl
for_by_type w s (Some e) false = refl
for_by_type w s (Some e) true = refl

pub return_by_type : (w : Setting) (s : Scope) (p : Span) (r : ResultType) (e : Option Tree)
    → return_rule w p r e (optional_type w s e) ≡ return_own w s p r e
return_by_type w s p returned.Void None = refl
return_by_type w s p returned.Void (Some e) = refl
return_by_type w s p (returned.Value t) None = refl
return_by_type w s p (returned.Value t) (Some e) = refl

-- the parts of a `for`, one after another: e0 is the scope in which it begins, v that after its first part
pub for_least_fault : (w : Setting) (r : ResultType) (s e0 v : Scope) (p : Span) (a : StartTree) (e : Option Tree) (b : StepTree)
    (body : StatementTree) (o f1 f2 f3 f4 f5 : Option TypeFault) (given : Option ValueType) (typed : Bool) →
    e0 ≡ inner s → v ≡ after_start w e0 a → given ≡ optional_type w v e → typed ≡ is_step_typed w v b →
    f1 ≡ least o (start_faults w e0 a) → f2 ≡ least f1 (optional_faults w v e) → f3 ≡ least f2 (step_faults w v b) →
    f4 ≡ least f3 (for_rule e given typed) → f5 ≡ least f4 (statement_faults w r (inner v) body) →
    f5 ≡ least o (statement_faults w r s (for_loop p a e b body))
for_least_fault w r s e0 v p a e b body o f1 f2 f3 f4 f5 given typed begins goes given_is typed_is g1 g2 g3 g4 g5 =
    then_least o f4 f5 (start_faults w e0 a ++ optional_faults w v e ++ step_faults w v b ++ own v) (statement_faults w r (inner v) body)
    (then_least o f3 f4 (start_faults w e0 a ++ optional_faults w v e ++ step_faults w v b) (own v)
    (then_least o f2 f3 (start_faults w e0 a ++ optional_faults w v e) (step_faults w v b)
    (then_least o f1 f2 (start_faults w e0 a) (optional_faults w v e) g1 g2) g3) condition) g5
    ∙ ap (λ x. least o (all x v)) begins
    ∙ ap (λ x. least o (all (inner s) x)) (goes ∙ ap (λ x. after_start w x a) begins)
  where
    own : Scope → List TypeFault
    own x = for_own w x e (is_step_typed w x b)

    all : Scope → Scope → List TypeFault
    all y x = start_faults w y a ++ optional_faults w x e ++ step_faults w x b ++ own x ++ statement_faults w r (inner x) body

    condition : f4 ≡ least f3 (own v)
    condition =
        g4 ∙ ap (λ g. least f3 (for_rule e g typed)) given_is ∙ ap (λ t. least f3 (for_rule e (optional_type w v e) t)) typed_is
        ∙ ap (least f3) (for_by_type w v e (is_step_typed w v b))

pub for_calls : (w : Setting) (s e0 v : Scope) (p : Span) (a : StartTree) (e : Option Tree) (b : StepTree) (body : StatementTree) (o f1 f2 f3 f5 : List Call) →
    e0 ≡ inner s → v ≡ after_start w e0 a →
    f1 ≡ o ++ start_calls w e0 a → f2 ≡ f1 ++ optional_calls w v e → f3 ≡ f2 ++ step_calls w v b → f5 ≡ f3 ++ statement_calls w (inner v) body →
    f5 ≡ o ++ statement_calls w s (for_loop p a e b body)
for_calls w s e0 v p a e b body o f1 f2 f3 f5 begins goes g1 g2 g3 g5 =
    then_calls o f3 f5 (start_calls w e0 a ++ optional_calls w v e ++ step_calls w v b) (statement_calls w (inner v) body)
    (then_calls o f2 f3 (start_calls w e0 a ++ optional_calls w v e) (step_calls w v b)
    (then_calls o f1 f2 (start_calls w e0 a) (optional_calls w v e) g1 g2) g3) g5
    ∙ ap (λ x. o ++ all x v) begins
    ∙ ap (λ x. o ++ all (inner s) x) (goes ∙ ap (λ x. after_start w x a) begins)
  where
    all : Scope → Scope → List Call
    all y x = start_calls w y a ++ optional_calls w x e ++ step_calls w x b ++ statement_calls w (inner x) body
