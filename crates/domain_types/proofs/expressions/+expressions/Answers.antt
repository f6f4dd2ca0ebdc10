use Rattle.std.proofs.Common.{refl, ℕ, ◌+◌, List, [], ◌∷◌, ◌≡◌, ◌++◌, ap, ◌∙◌, sym, subst, take, get_or, Option}
use Rattle.std.specs.Prelude.{IfOk, map, option_map, option_and_then, vec_items}
use Rattle.std.proofs.lemmas.List.{take_all, take_more, map-append}
use Rattle.program_trees.specs.declared.expression.Expression.{Expression}
use Rattle.program_trees.specs.Tree.{Tree, call, index, negation, binary, expression, trees_of}
use Rattle.program_trees.specs.Heights.{place_of}
use Rattle.program_trees.specs.Equations.{call_is, index_is, negation_is, binary_is}
use Rattle.domain_types.specs.declared.calls.Found.{Found}
use Rattle.domain_types.specs.declared.value_type.Argument.{Argument}
use Rattle.domain_types.specs.declared.value_type.ExpressionType.{ExpressionType}
use Rattle.domain_types.specs.declared.value_type.ExpressionType.TheVariants.{Value}
use Rattle.domain_types.specs.Types.{of_typed}
use Rattle.declarations.specs.Declarations.{callee}
use Rattle.domain_types.specs.ExpressionTypes.{and_argument, of_two, negation_type, operator_type, index_type, call_type}
use Rattle.domain_types.specs.ExpressionTypes.{negation_faults, operator_faults, index_faults, call_faults, type_of, value_type, faults, value_faults}
use Rattle.domain_types.specs.ExpressionTypes.{arguments_of, argument_list_faults}
use Rattle.domain_types.specs.Reached.{calls_of, calls_of_all, call_of}
use Rattle.domain_types.specs.Views.{setting, calls_seen}
use Rattle.domain_types.specs.inner.Walks.{Gives}
use Rattle.domain_types.specs.inner.LeastFault.{least}
use Rattle.domain_types.proofs.Visits.{then_least, then_calls, gives_behind, if_ok_so, one_part, two_parts}
use Rattle.domain_types.proofs.Arguments.{arguments_of-more, argument_list_faults-more, calls_of_all-more}
use Rattle.domain_types.proofs.expressions.+expressions.Goals as goal

pub arguments-loop-argument-preserved : goal.arguments-loop-argument-preserved
arguments-loop-argument-preserved t c =
    let w = setting c.args.here.now in
    let s = c.args.variables.now in
    let o = c.args.found.now.least_fault in
    let xs = c.deref-argument-items.result.now in
    let i = c.loop-argument.argument-index in
    let x = c.argument-item.result in
    let ts = map expression (take i xs) in
    let more : map expression (take (i + 1) xs) ≡ ts ++ expression x ∷ [] = ap (map expression) (take_more xs i x c.loop-argument-test.true)
    ∙ map-append expression (take i xs) (get_or xs i x ∷ []) ∙ ap (λ z. ts ++ expression z ∷ []) (sym c.argument-item.is) in
    record {
      kind = c.in_ok-types.ensures ∙ ap (λ p. and_argument (option_map vec_items c.loop-argument.types) p c.in_ok-given.given) c.place.ensures
          ∙ ap (and_argument (option_map vec_items c.loop-argument.types) (place_of (expression x))) c.in_ok-given.ensures.kind
          ∙ ap (λ g. and_argument g (place_of (expression x)) (value_type w s (expression x))) c.loop-argument.invariant.kind
          ∙ sym (arguments_of-more w s ts (expression x)) ∙ ap (λ l. arguments_of w s (trees_of l)) (sym more);
      least_fault = then_least o c.loop-argument.found.least_fault c.value.new.found.least_fault (argument_list_faults w s (trees_of ts))
          (value_faults w s (expression x)) c.loop-argument.invariant.least_fault c.in_ok-given.ensures.least_fault
          ∙ ap (least o) (sym (argument_list_faults-more w s ts (expression x)) ∙ ap (λ l. argument_list_faults w s (trees_of l)) (sym more));
      calls = then_calls (calls_seen c.args.found.now.calls.items) (calls_seen c.loop-argument.found.calls.items)
          (calls_seen c.value.new.found.calls.items) (calls_of_all w s (trees_of ts)) (calls_of w s (expression x)) c.loop-argument.invariant.calls
          c.in_ok-given.ensures.calls
          ∙ ap (λ l. calls_seen c.args.found.now.calls.items ++ l)
          (sym (calls_of_all-more w s ts (expression x)) ∙ ap (λ l. calls_of_all w s (trees_of l)) (sym more));
    }

pub arguments-returns : goal.arguments-returns
arguments-returns t c =
    let w = setting c.args.here.now in
    let s = c.args.variables.now in
    let all = take_all c.loop-argument.argument-index c.deref-argument-items.result.now c.loop-argument-test.false ∙ c.deref-argument-items.ensures.value in
    subst (λ (es : List Expression). Gives (arguments_of w s (trees_of (map expression es)))
    (option_map vec_items c.loop-argument.types) c.args.found.now c.loop-argument.found (argument_list_faults w s (trees_of (map expression es)))
    (calls_of_all w s (trees_of (map expression es)))) all c.loop-argument.invariant

pub expression-returns-in_ok-value-in-Not : goal.expression-returns-in_ok-value-in-Not
expression-returns-in_ok-value-in-Not t c =
    let w = setting c.args.here.now in
    let s = c.args.variables.now in
    let p = c.in-Not.place in
    let e = expression c.in-Not.operand.value in
    let f = c.args.found.now in
    let g = c.value-in-Not.new.found in
    let v = c.in_ok-value-in-Not.value in
    let lent : c.deref-in-Not.result.now ≡ c.in-Not.operand.value = cc in
    let h : Found = record { least_fault = c.negation.new.least_fault; calls = g.calls } in
    let part : Gives (value_type w s e) v f g (value_faults w s e) (calls_of w s e) =
    subst (λ (x : Expression). Gives (value_type w s (expression x)) v f g (value_faults w s (expression x)) (calls_of w s (expression x))) lent
    c.in_ok-value-in-Not.ensures in
    let kind : c.given-in-Not.result ≡ type_of w s (negation p e) =
    c.given-in-Not.ensures ∙ ap (option_map Value) (c.negation.ensures.kind ∙ ap (option_and_then (negation_type p)) part.kind) in
    subst (λ (x : Tree). Gives (type_of w s x) c.given-in-Not.result f h (faults w s x) (calls_of w s x)) (sym (ap expression c.in-Not.is ∙ negation_is _ _))
    (one_part w s e f g h v (type_of w s (negation p e)) c.given-in-Not.result (negation_faults p) part kind c.negation.ensures.least_fault refl)

pub expression-returns-in_ok-b-in-Binary : goal.expression-returns-in_ok-b-in-Binary
expression-returns-in_ok-b-in-Binary t c =
    let w = setting c.args.here.now in
    let s = c.args.variables.now in
    let p = c.in-Binary.place in
    let op = c.in-Binary.op in
    let a = expression c.in-Binary.left.value in
    let b = expression c.in-Binary.right.value in
    let f = c.args.found.now in
    let g = c.value-in-Binary.new.found in
    let h = c.value-in-Binary-2.new.found in
    let u = c.in_ok-a-in-Binary.a in
    let v = c.in_ok-b-in-Binary.b in
    let lent : c.deref-in-Binary.result.now ≡ c.in-Binary.left.value = cc in
    let other : c.deref-in-Binary-2.result.now ≡ c.in-Binary.right.value = cc in
    let k : Found = record { least_fault = c.operation.new.least_fault; calls = h.calls } in
    let left : Gives (value_type w s a) u f g (value_faults w s a) (calls_of w s a) =
    subst (λ (x : Expression). Gives (value_type w s (expression x)) u f g (value_faults w s (expression x)) (calls_of w s (expression x))) lent
    c.in_ok-a-in-Binary.ensures in
    let right : Gives (value_type w s b) v g h (value_faults w s b) (calls_of w s b) =
    subst (λ (x : Expression). Gives (value_type w s (expression x)) v g h (value_faults w s (expression x)) (calls_of w s (expression x))) other
    c.in_ok-b-in-Binary.ensures in
    let kind : c.given-in-Binary.result ≡ type_of w s (binary p op a b) =
    c.given-in-Binary.ensures ∙ ap (option_map Value)
    (c.operation.ensures.kind ∙ ap (λ z. of_two (operator_type p op) z v) left.kind ∙ ap (of_two (operator_type p op) (value_type w s a)) right.kind) in
    subst (λ (x : Tree). Gives (type_of w s x) c.given-in-Binary.result f k (faults w s x) (calls_of w s x))
    (sym (ap expression c.in-Binary.is ∙ binary_is _ _ _ _))
    (two_parts w s a b f g h k u v (type_of w s (binary p op a b)) c.given-in-Binary.result
    (operator_faults p op) left right kind c.operation.ensures.least_fault refl)

pub expression-returns-in_ok-counted-in-Index : goal.expression-returns-in_ok-counted-in-Index
expression-returns-in_ok-counted-in-Index t c =
    let w = setting c.args.here.now in
    let s = c.args.variables.now in
    let p = c.in-Index.place in
    let a = expression c.in-Index.array.value in
    let b = expression c.in-Index.position.value in
    let f = c.args.found.now in
    let g = c.value.new.found in
    let h = c.value-in-Index.new.found in
    let u = c.in_ok-held-in-Index.held in
    let v = c.in_ok-counted-in-Index.counted in
    let lent : c.deref.result.now ≡ c.in-Index.array.value = cc in
    let other : c.deref-in-Index.result.now ≡ c.in-Index.position.value = cc in
    let again : c.deref-in-Index-2.result.now ≡ c.in-Index.position.value = cc in
    let at : c.place-at.result ≡ place_of b = c.place-at.ensures ∙ ap (λ x. place_of (expression x)) again in
    let k : Found = record { least_fault = c.indexing.new.least_fault; calls = h.calls } in
    let left : Gives (value_type w s a) u f g (value_faults w s a) (calls_of w s a) =
    subst (λ (x : Expression). Gives (value_type w s (expression x)) u f g (value_faults w s (expression x)) (calls_of w s (expression x))) lent
    c.in_ok-held-in-Index.ensures in
    let right : Gives (value_type w s b) v g h (value_faults w s b) (calls_of w s b) =
    subst (λ (x : Expression). Gives (value_type w s (expression x)) v g h (value_faults w s (expression x)) (calls_of w s (expression x))) other
    c.in_ok-counted-in-Index.ensures in
    let kind : c.given-in-Index.result ≡ type_of w s (index p a b) =
    c.given-in-Index.ensures
    ∙ ap (option_map Value) (c.indexing.ensures.kind ∙ ap (λ q. of_two (index_type p q) u v) at ∙ ap (λ z. of_two (index_type p (place_of b)) z v) left.kind
    ∙ ap (of_two (index_type p (place_of b)) (value_type w s a)) right.kind) in
    let least_fault = c.indexing.ensures.least_fault ∙ ap (λ q. least h.least_fault (of_typed u (λ t. of_typed v (index_faults p q t)))) at in
    subst (λ (x : Tree). Gives (type_of w s x) c.given-in-Index.result f k (faults w s x) (calls_of w s x)) (sym (ap expression c.in-Index.is ∙ index_is _ _ _))
    (two_parts w s a b f g h k u v (type_of w s (index p a b)) c.given-in-Index.result (index_faults p (place_of b)) left right kind least_fault refl)

pub expression-returns-in_ok-types-in-Call : goal.expression-returns-in_ok-types-in-Call
expression-returns-in_ok-types-in-Call t c =
    let w = setting c.args.here.now in
    let s = c.args.variables.now in
    let p = c.in-Call.place in
    let es = trees_of (map expression c.in-Call.list.items) in
    let called = callee w.declared c.in-Call.name in
    let f = c.args.found.now in
    let g = c.arguments.new.found in
    let h = c.call.new.found in
    let gs = option_map vec_items c.in_ok-types-in-Call.types in
    let first = c.in_ok-types-in-Call.ensures in
    let named = subst (λ (y : List ℕ). IfOk c.call.result
    (λ r. Gives (call_type w.declared p (callee w.declared y) gs) r g h (call_faults w.declared p (callee w.declared y) gs)
    (call_of w.declared p (callee w.declared y) gs))) c.as_str-in-Call.ensures.value c.call.ensures in
    let given = subst (λ (z : Option (List Argument)). IfOk c.call.result
    (λ r. Gives (call_type w.declared p called z) r g h (call_faults w.declared p called z) (call_of w.declared p called z))) first.kind named in
    let own = call_faults w.declared p called (arguments_of w s es) in
    let last = call_of w.declared p called (arguments_of w s es) in
    let tree = call p c.in-Call.name es in
    subst (λ (x : Tree). IfOk c.call.result (λ r. Gives (type_of w s x) r f h (faults w s x) (calls_of w s x)))
    (sym (ap expression c.in-Call.is ∙ call_is _ _ _))
    (if_ok_so (λ (r : Option ExpressionType). Gives (type_of w s tree) r g h own last)
    (λ (r : Option ExpressionType). Gives (type_of w s tree) r f h (faults w s tree) (calls_of w s tree)) c.call.result
    (λ r so. gives_behind (type_of w s tree) r f g h (argument_list_faults w s es) own (calls_of_all w s es) last first.least_fault first.calls so) given)
