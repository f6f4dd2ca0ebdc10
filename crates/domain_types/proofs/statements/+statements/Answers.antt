use Rattle.std.proofs.Common.{◌≡◌, ◌+◌, ◌≤◌, ◌++◌, [], ◌∷◌, sym, ap, ◌∙◌, subst, length, take, get_or, append_assoc}
use Rattle.std.specs.Prelude.{IfOk, map}
use Rattle.std.proofs.lemmas.List.{take_all, take_more, map-append}
use Rattle.program_trees.specs.declared.statement.Statement.TheVariants.{If}
use Rattle.program_trees.specs.Tree.{expression}
use Rattle.program_trees.specs.Statements.{optional, start_tree, step_tree, statement, statements_of}
use Rattle.program_trees.specs.Equations.{block_statement_is, branch_statement_is, choice_statement_is, while_statement_is, do_statement_is}
use Rattle.program_trees.specs.Equations.{for_statement_is, return_statement_is}
use Rattle.domain_types.specs.declared.fault.TypeProblem.TheVariants.{PrivateCondition}
use Rattle.domain_types.specs.Scopes.{inner, leaving}
use Rattle.domain_types.specs.StatementTypes.{after, after_all, test_faults, statement_faults, block_faults, optional_faults, return_own}
use Rattle.domain_types.specs.Reached.{calls_of, statement_calls, block_calls}
use Rattle.domain_types.specs.Views.{setting, calls_seen}
use Rattle.domain_types.specs.inner.Given.{return_rule}
use Rattle.domain_types.specs.inner.LeastFault.{least}
use Rattle.domain_types.proofs.Faults.{least-append}
use Rattle.domain_types.proofs.Visits.{then_least, then_calls}
use Rattle.domain_types.proofs.Blocks.{after_all-more, block_faults-more, block_calls-more, after_all_outer, after_start_outer, leaving_inner}
use Rattle.domain_types.proofs.Blocks.{leave_fits, for_least_fault, for_calls, return_by_type}
use Rattle.domain_types.proofs.statements.+statements.Goals as goal

pub statement-leave-requires : goal.statement-leave-requires
statement-leave-requires t c =
    let s = c.args.variables.now in
    let w = setting c.args.here.now in
    let outer : c.statements.new.variables.outer ≡ s.block ++ s.outer = ap (λ z. z.outer) c.in_ok-statements-in-Block.ensures.variables
    ∙ after_all_outer w c.enter-outer.new.self (statements_of (map statement c.in-Block.list.items)) ∙ ap (λ z. z.outer) c.enter-outer.ensures.inner in
    subst (λ n. n ≤ length c.statements.new.variables.outer) (sym c.enter-outer.ensures.outer) (leave_fits s c.statements.new.variables outer)

pub statement-returns-in_ok-statements-in-Block-clause-variables : goal.statement-returns-in_ok-statements-in-Block-clause-variables
statement-returns-in_ok-statements-in-Block-clause-variables t c =
    let s = c.args.variables.now in
    let w = setting c.args.here.now in
    let outer : c.statements.new.variables.outer ≡ s.block ++ s.outer = ap (λ z. z.outer) c.in_ok-statements-in-Block.ensures.variables
    ∙ after_all_outer w c.enter-outer.new.self (statements_of (map statement c.in-Block.list.items)) ∙ ap (λ z. z.outer) c.enter-outer.ensures.inner in
    c.leave.ensures
    ∙ ap (λ n. leaving n c.statements.new.variables) c.enter-outer.ensures.outer
    ∙ leaving_inner s c.statements.new.variables outer
    ∙ sym (ap (after w s) (ap statement c.in-Block.is ∙ block_statement_is _ _))

pub statement-returns-in-None-clause-least_fault : goal.statement-returns-in-None-clause-least_fault
statement-returns-in-None-clause-least_fault t c =
    let s = c.args.variables.now in
    let w = setting c.args.here.now in
    let r = c.args.here.now.function.now.result in
    let o = c.args.found.now.least_fault in
    let d : c.deref.result.now ≡ c.in-If.body.value = cc in
    let tree = ap statement c.in-If.is ∙ ap (λ x. statement (If c.in-If.field-0 c.in-If.e c.in-If.body x)) c.in-None.is ∙ branch_statement_is _ _ _ in
    then_least o c.test.new.found.least_fault c.inside.new.found.least_fault (test_faults w s PrivateCondition (expression c.in-If.e))
    (statement_faults w r (inner s) (statement c.in-If.body.value)) c.in_ok-test-in-If.ensures.least_fault
    (c.in_ok-inside-in-If.ensures.least_fault ∙ ap (λ z. least c.test.new.found.least_fault (statement_faults w r (inner s) (statement z))) d)
    ∙ sym (ap (λ t. least o (statement_faults w r s t)) tree)

pub statement-returns-in-None-clause-calls : goal.statement-returns-in-None-clause-calls
statement-returns-in-None-clause-calls t c =
    let s = c.args.variables.now in
    let w = setting c.args.here.now in
    let o = calls_seen c.args.found.now.calls.items in
    let d : c.deref.result.now ≡ c.in-If.body.value = cc in
    let tree = ap statement c.in-If.is ∙ ap (λ x. statement (If c.in-If.field-0 c.in-If.e c.in-If.body x)) c.in-None.is ∙ branch_statement_is _ _ _ in
    then_calls o (calls_seen c.test.new.found.calls.items) (calls_seen c.inside.new.found.calls.items) (calls_of w s (expression c.in-If.e))
    (statement_calls w (inner s) (statement c.in-If.body.value)) c.in_ok-test-in-If.ensures.calls
    (c.in_ok-inside-in-If.ensures.calls ∙ ap (λ z. calls_seen c.test.new.found.calls.items ++ statement_calls w (inner s) (statement z)) d)
    ∙ sym (ap (λ t. o ++ statement_calls w s t) tree)

pub statement-returns-in-Some-clause-least_fault : goal.statement-returns-in-Some-clause-least_fault
statement-returns-in-Some-clause-least_fault t c =
    let s = c.args.variables.now in
    let w = setting c.args.here.now in
    let r = c.args.here.now.function.now.result in
    let o = c.args.found.now.least_fault in
    let o2 = c.inside.new.found.least_fault in
    let d : c.deref.result.now ≡ c.in-If.body.value = cc in
    let e : c.deref-in-Some.result.now ≡ c.in-Some.otherwise.value = cc in
    let first = statement_faults w r (inner s) (statement c.in-If.body.value) in
    let second = statement_faults w r (inner s) (statement c.in-Some.otherwise.value) in
    let test = test_faults w s PrivateCondition (expression c.in-If.e) in
    let tree = ap statement c.in-If.is ∙ ap (λ x. statement (If c.in-If.field-0 c.in-If.e c.in-If.body x)) c.in-Some.is ∙ choice_statement_is _ _ _ _ in
    let before : o2 ≡ least o (test ++ first) =
    then_least o c.test.new.found.least_fault o2 test first c.in_ok-test-in-If.ensures.least_fault
    (c.in_ok-inside-in-If.ensures.least_fault ∙ ap (λ z. least c.test.new.found.least_fault (statement_faults w r (inner s) (statement z))) d) in
    let same =
    ap (λ z. least o2 (statement_faults w r (inner s) (statement z))) e
    ∙ ap (λ z. least z second) before
    ∙ sym (least-append o (test ++ first) second)
    ∙ sym (ap (λ t. least o (statement_faults w r s t)) tree) in
    subst (λ z. IfOk c.inside-in-Some.result (λ x. c.inside-in-Some.new.found.least_fault ≡ z)) same
    (subst (λ v. IfOk c.inside-in-Some.result
    (λ x. c.inside-in-Some.new.found.least_fault ≡ least o2 (statement_faults w r (inner v) (statement c.deref-in-Some.result.now))))
    c.in_ok-inside-in-If.ensures.variables c.inside-in-Some.ensures.least_fault)

pub statement-returns-in-Some-clause-calls : goal.statement-returns-in-Some-clause-calls
statement-returns-in-Some-clause-calls t c =
    let s = c.args.variables.now in
    let w = setting c.args.here.now in
    let o = calls_seen c.args.found.now.calls.items in
    let o2 = calls_seen c.inside.new.found.calls.items in
    let d : c.deref.result.now ≡ c.in-If.body.value = cc in
    let e : c.deref-in-Some.result.now ≡ c.in-Some.otherwise.value = cc in
    let first = statement_calls w (inner s) (statement c.in-If.body.value) in
    let second = statement_calls w (inner s) (statement c.in-Some.otherwise.value) in
    let test = calls_of w s (expression c.in-If.e) in
    let tree = ap statement c.in-If.is ∙ ap (λ x. statement (If c.in-If.field-0 c.in-If.e c.in-If.body x)) c.in-Some.is ∙ choice_statement_is _ _ _ _ in
    let before : o2 ≡ o ++ (test ++ first) =
    then_calls o (calls_seen c.test.new.found.calls.items) o2 test first c.in_ok-test-in-If.ensures.calls
    (c.in_ok-inside-in-If.ensures.calls ∙ ap (λ z. calls_seen c.test.new.found.calls.items ++ statement_calls w (inner s) (statement z)) d) in
    let same =
    ap (λ z. o2 ++ statement_calls w (inner s) (statement z)) e
    ∙ ap (λ z. z ++ second) before
    ∙ append_assoc o (test ++ first) second
    ∙ sym (ap (λ t. o ++ statement_calls w s t) tree) in
    subst (λ z. IfOk c.inside-in-Some.result (λ x. calls_seen c.inside-in-Some.new.found.calls.items ≡ z)) same
    (subst (λ v. IfOk c.inside-in-Some.result
    (λ x. calls_seen c.inside-in-Some.new.found.calls.items ≡ o2 ++ statement_calls w (inner v) (statement c.deref-in-Some.result.now)))
    c.in_ok-inside-in-If.ensures.variables c.inside-in-Some.ensures.calls)

pub statement-returns-in_ok-test-in-While-clause-least_fault : goal.statement-returns-in_ok-test-in-While-clause-least_fault
statement-returns-in_ok-test-in-While-clause-least_fault t c =
    let s = c.args.variables.now in
    let w = setting c.args.here.now in
    let r = c.args.here.now.function.now.result in
    let o = c.args.found.now.least_fault in
    let o1 = c.test-in-While.new.found.least_fault in
    let d : c.deref-in-While.result.now ≡ c.in-While.body.value = cc in
    let body = statement_faults w r (inner s) (statement c.in-While.body.value) in
    let test = test_faults w s PrivateCondition (expression c.in-While.e) in
    let same =
    ap (λ z. least o1 (statement_faults w r (inner s) (statement z))) d
    ∙ ap (λ z. least z body) c.in_ok-test-in-While.ensures.least_fault
    ∙ sym (least-append o test body)
    ∙ sym (ap (λ t. least o (statement_faults w r s t)) (ap statement c.in-While.is ∙ while_statement_is _ _ _)) in
    subst (λ z. IfOk c.inside-in-While.result (λ x. c.inside-in-While.new.found.least_fault ≡ z)) same c.inside-in-While.ensures.least_fault

pub statement-returns-in_ok-test-in-While-clause-calls : goal.statement-returns-in_ok-test-in-While-clause-calls
statement-returns-in_ok-test-in-While-clause-calls t c =
    let s = c.args.variables.now in
    let w = setting c.args.here.now in
    let o = calls_seen c.args.found.now.calls.items in
    let o1 = calls_seen c.test-in-While.new.found.calls.items in
    let d : c.deref-in-While.result.now ≡ c.in-While.body.value = cc in
    let body = statement_calls w (inner s) (statement c.in-While.body.value) in
    let test = calls_of w s (expression c.in-While.e) in
    let same =
    ap (λ z. o1 ++ statement_calls w (inner s) (statement z)) d
    ∙ ap (λ z. z ++ body) c.in_ok-test-in-While.ensures.calls
    ∙ append_assoc o test body
    ∙ sym (ap (λ t. o ++ statement_calls w s t) (ap statement c.in-While.is ∙ while_statement_is _ _ _)) in
    subst (λ z. IfOk c.inside-in-While.result (λ x. calls_seen c.inside-in-While.new.found.calls.items ≡ z)) same c.inside-in-While.ensures.calls

pub statement-returns-in_ok-inside-in-DoWhile-clause-least_fault : goal.statement-returns-in_ok-inside-in-DoWhile-clause-least_fault
statement-returns-in_ok-inside-in-DoWhile-clause-least_fault t c =
    let s = c.args.variables.now in
    let w = setting c.args.here.now in
    let r = c.args.here.now.function.now.result in
    let o = c.args.found.now.least_fault in
    let o1 = c.inside-in-DoWhile.new.found.least_fault in
    let d : c.deref-in-DoWhile.result.now ≡ c.in-DoWhile.body.value = cc in
    let body = statement_faults w r (inner s) (statement c.in-DoWhile.body.value) in
    let test = test_faults w s PrivateCondition (expression c.in-DoWhile.e) in
    let before : o1 ≡ least o body = c.in_ok-inside-in-DoWhile.ensures.least_fault ∙ ap (λ z. least o (statement_faults w r (inner s) (statement z))) d in
    let same =
    ap (λ v. least o1 (test_faults w v PrivateCondition (expression c.in-DoWhile.e))) c.in_ok-inside-in-DoWhile.ensures.variables
    ∙ ap (λ z. least z test) before
    ∙ sym (least-append o body test)
    ∙ sym (ap (λ t. least o (statement_faults w r s t)) (ap statement c.in-DoWhile.is ∙ do_statement_is _ _ _)) in
    subst (λ z. IfOk c.test-in-DoWhile.result (λ x. c.test-in-DoWhile.new.found.least_fault ≡ z)) same c.test-in-DoWhile.ensures.least_fault

pub statement-returns-in_ok-inside-in-DoWhile-clause-calls : goal.statement-returns-in_ok-inside-in-DoWhile-clause-calls
statement-returns-in_ok-inside-in-DoWhile-clause-calls t c =
    let s = c.args.variables.now in
    let w = setting c.args.here.now in
    let o = calls_seen c.args.found.now.calls.items in
    let o1 = calls_seen c.inside-in-DoWhile.new.found.calls.items in
    let d : c.deref-in-DoWhile.result.now ≡ c.in-DoWhile.body.value = cc in
    let body = statement_calls w (inner s) (statement c.in-DoWhile.body.value) in
    let test = calls_of w s (expression c.in-DoWhile.e) in
    let before : o1 ≡ o ++ body = c.in_ok-inside-in-DoWhile.ensures.calls ∙ ap (λ z. o ++ statement_calls w (inner s) (statement z)) d in
    let same =
    ap (λ v. o1 ++ calls_of w v (expression c.in-DoWhile.e)) c.in_ok-inside-in-DoWhile.ensures.variables
    ∙ ap (λ z. z ++ test) before
    ∙ append_assoc o body test
    ∙ sym (ap (λ t. o ++ statement_calls w s t) (ap statement c.in-DoWhile.is ∙ do_statement_is _ _ _)) in
    subst (λ z. IfOk c.test-in-DoWhile.result (λ x. calls_seen c.test-in-DoWhile.new.found.calls.items ≡ z)) same c.test-in-DoWhile.ensures.calls

pub statement-returns-in_ok-inside-in-For-clause-least_fault : goal.statement-returns-in_ok-inside-in-For-clause-least_fault
statement-returns-in_ok-inside-in-For-clause-least_fault t c =
    let s = c.args.variables.now in
    let w = setting c.args.here.now in
    let r = c.args.here.now.function.now.result in
    let o = c.args.found.now.least_fault in
    let v = c.start.new.variables in
    let d : c.deref-in-For.result.now ≡ c.in-For.body.value = cc in
    for_least_fault w r s c.enter-outer-in-For.new.self v c.in-For.field-0 (start_tree c.in-For.first) (optional c.in-For.e) (step_tree c.in-For.last)
    (statement c.in-For.body.value) o c.start.new.found.least_fault c.optional_value.new.found.least_fault c.step.new.found.least_fault
    c.for_condition.new.least_fault c.inside-in-For.new.found.least_fault c.in_ok-given-in-For.given c.in_ok-typed-in-For.typed
    c.enter-outer-in-For.ensures.inner c.in_ok-start-in-For.ensures.variables c.in_ok-given-in-For.ensures.kind c.in_ok-typed-in-For.ensures.typed
    c.in_ok-start-in-For.ensures.least_fault c.in_ok-given-in-For.ensures.least_fault c.in_ok-typed-in-For.ensures.least_fault
    c.for_condition.ensures (c.in_ok-inside-in-For.ensures.least_fault
    ∙ ap (λ z. least c.for_condition.new.least_fault (statement_faults w r (inner v) (statement z))) d)
    ∙ sym (ap (λ t. least o (statement_faults w r s t)) (ap statement c.in-For.is ∙ for_statement_is _ _ _ _ _))

pub statement-returns-in_ok-inside-in-For-clause-calls : goal.statement-returns-in_ok-inside-in-For-clause-calls
statement-returns-in_ok-inside-in-For-clause-calls t c =
    let s = c.args.variables.now in
    let w = setting c.args.here.now in
    let o = calls_seen c.args.found.now.calls.items in
    let v = c.start.new.variables in
    let d : c.deref-in-For.result.now ≡ c.in-For.body.value = cc in
    for_calls w s c.enter-outer-in-For.new.self v c.in-For.field-0 (start_tree c.in-For.first) (optional c.in-For.e) (step_tree c.in-For.last)
    (statement c.in-For.body.value) o (calls_seen c.start.new.found.calls.items) (calls_seen c.optional_value.new.found.calls.items)
    (calls_seen c.step.new.found.calls.items) (calls_seen c.inside-in-For.new.found.calls.items) c.enter-outer-in-For.ensures.inner
    c.in_ok-start-in-For.ensures.variables c.in_ok-start-in-For.ensures.calls c.in_ok-given-in-For.ensures.calls
    c.in_ok-typed-in-For.ensures.calls
    (c.in_ok-inside-in-For.ensures.calls ∙ ap (λ z. calls_seen c.step.new.found.calls.items ++ statement_calls w (inner v) (statement z)) d)
    ∙ sym (ap (λ t. o ++ statement_calls w s t) (ap statement c.in-For.is ∙ for_statement_is _ _ _ _ _))

pub statement-returns-in_ok-inside-in-For-clause-variables : goal.statement-returns-in_ok-inside-in-For-clause-variables
statement-returns-in_ok-inside-in-For-clause-variables t c =
    let s = c.args.variables.now in
    let w = setting c.args.here.now in
    let x = c.inside-in-For.new.variables in
    let outer : x.outer ≡ s.block ++ s.outer = ap (λ z. z.outer) (c.in_ok-inside-in-For.ensures.variables ∙ c.in_ok-start-in-For.ensures.variables)
    ∙ after_start_outer w c.enter-outer-in-For.new.self (start_tree c.in-For.first) ∙ ap (λ z. z.outer) c.enter-outer-in-For.ensures.inner in
    c.leave-in-For.ensures
    ∙ ap (λ n. leaving n x) c.enter-outer-in-For.ensures.outer
    ∙ leaving_inner s x outer
    ∙ sym (ap (after w s) (ap statement c.in-For.is ∙ for_statement_is _ _ _ _ _))

pub statement-returns-in_ok-given-in-Return-clause-least_fault : goal.statement-returns-in_ok-given-in-Return-clause-least_fault
statement-returns-in_ok-given-in-Return-clause-least_fault t c =
    let s = c.args.variables.now in
    let w = setting c.args.here.now in
    let r = c.args.here.now.function.now.result in
    let o = c.args.found.now.least_fault in
    let e = optional c.in-Return.e in
    then_least o c.optional_value-in-Return.new.found.least_fault c.returning.new.least_fault (optional_faults w s e)
    (return_own w s c.in-Return.place r e) c.in_ok-given-in-Return.ensures.least_fault
    (c.returning.ensures ∙ ap (λ g. least c.optional_value-in-Return.new.found.least_fault (return_rule w c.in-Return.place r e g))
    c.in_ok-given-in-Return.ensures.kind
    ∙ ap (least c.optional_value-in-Return.new.found.least_fault) (return_by_type w s c.in-Return.place r e))
    ∙ sym (ap (λ t. least o (statement_faults w r s t)) (ap statement c.in-Return.is ∙ return_statement_is _ _))

pub statements-loop-each-preserved : goal.statements-loop-each-preserved
statements-loop-each-preserved t c =
    let s = c.args.variables.now in
    let w = setting c.args.here.now in
    let r = c.args.here.now.function.now.result in
    let xs = c.deref-each-items.result.now in
    let i = c.loop-each.each-index in
    let x = c.each-item.result in
    let ts = map statement (take i xs) in
    let v = c.loop-each.variables in
    let so_far = c.loop-each.invariant in
    let more : map statement (take (i + 1) xs) ≡ ts ++ statement x ∷ [] = ap (map statement) (take_more xs i x c.loop-each-test.true)
    ∙ map-append statement (take i xs) (get_or xs i x ∷ []) ∙ ap (λ z. ts ++ statement z ∷ []) (sym c.each-item.is) in
    record {
      least_fault =
          then_least c.args.found.now.least_fault c.loop-each.found.least_fault c.statement.new.found.least_fault
          (block_faults w r s (statements_of ts)) (statement_faults w r (after_all w s (statements_of ts)) (statement x)) so_far.least_fault
          (c.in_ok-statement.ensures.least_fault ∙ ap (λ z. least c.loop-each.found.least_fault (statement_faults w r z (statement x))) so_far.variables)
          ∙ ap (least c.args.found.now.least_fault)
          (sym (block_faults-more w r s ts (statement x)) ∙ ap (λ l. block_faults w r s (statements_of l)) (sym more));
      calls =
          then_calls (calls_seen c.args.found.now.calls.items) (calls_seen c.loop-each.found.calls.items)
          (calls_seen c.statement.new.found.calls.items) (block_calls w s (statements_of ts))
          (statement_calls w (after_all w s (statements_of ts)) (statement x)) so_far.calls
          (c.in_ok-statement.ensures.calls ∙ ap (λ z. calls_seen c.loop-each.found.calls.items ++ statement_calls w z (statement x)) so_far.variables)
          ∙ ap (λ z. calls_seen c.args.found.now.calls.items ++ z)
          (sym (block_calls-more w s ts (statement x)) ∙ ap (λ l. block_calls w s (statements_of l)) (sym more));
      variables =
          c.in_ok-statement.ensures.variables
          ∙ ap (λ z. after w z (statement x)) so_far.variables
          ∙ sym (after_all-more w s ts (statement x))
          ∙ ap (λ l. after_all w s (statements_of l)) (sym more);
    }

pub statements-returns-clause-least_fault : goal.statements-returns-clause-least_fault
statements-returns-clause-least_fault t c =
    let all = take_all c.loop-each.each-index c.deref-each-items.result.now c.loop-each-test.false ∙ c.deref-each-items.ensures.value in
    c.loop-each.invariant.least_fault
    ∙ ap (λ l. least c.args.found.now.least_fault
    (block_faults (setting c.args.here.now) c.args.here.now.function.now.result c.args.variables.now (statements_of (map statement l)))) all

pub statements-returns-clause-calls : goal.statements-returns-clause-calls
statements-returns-clause-calls t c =
    let all = take_all c.loop-each.each-index c.deref-each-items.result.now c.loop-each-test.false ∙ c.deref-each-items.ensures.value in
    c.loop-each.invariant.calls ∙ ap
    (λ l. calls_seen c.args.found.now.calls.items ++ block_calls (setting c.args.here.now) c.args.variables.now (statements_of (map statement l))) all

pub statements-returns-clause-variables : goal.statements-returns-clause-variables
statements-returns-clause-variables t c =
    let all = take_all c.loop-each.each-index c.deref-each-items.result.now c.loop-each-test.false ∙ c.deref-each-items.ensures.value in
    c.loop-each.invariant.variables ∙ ap (λ l. after_all (setting c.args.here.now) c.args.variables.now (statements_of (map statement l))) all
