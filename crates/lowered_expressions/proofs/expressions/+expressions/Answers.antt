use Rattle.std.proofs.Common.{◌≡◌, ℕ, ◌+◌, ◌*◌, ◌<◌, ◌≤◌, Bool, true, false, [], ◌∷◌, ◌++◌, length, take, drop, get_or, sym, ap, ap₂, ◌∙◌, subst, arith, rules}
use Rattle.std.specs.Prelude.{map}
use Rattle.std.proofs.lemmas.List.{take_more, map-append, length_push}
use Rattle.std.proofs.lemmas.Result.{on_ok_weaker}
use Rattle.program_trees.specs.declared.typed_expression.TypedExpression.{TypedExpression}
use Rattle.program_trees.specs.declared.operators.BinaryOperator.TheVariants as binary
use Rattle.program_trees.specs.declared.operators.BoolOperator.{BoolOperator}
use Rattle.program_trees.specs.declared.operators.Operands.TheVariants.{Scalars}
use Rattle.program_trees.specs.TypedTree.{binary_node, cat_node, cut_node, element_node, lookup_node, typed_tree, typed_trees_of}
use Rattle.language_model.specs.Evaluation.{either, gives_private, connective, next_is_private}
use Rattle.verified_code.specs.Steps.{ReturnNone}
use Rattle.code_model.specs.Kinds.{truth_kind, in_row}
use Rattle.code_model.specs.Expressions.{own_at, classified_at, stands_at, next_row, expression_code, arguments_code, arguments_places, lacks, picked}
use Rattle.code_model.proofs.Widths.{width, widths}
use Rattle.lowered_expressions.specs.Built.{Built, with_steps}
use Rattle.lowered_expressions.specs.Parts.{binary_rest, cut_rest, cut_closed, with_expression, with_operand}
use Rattle.lowered_expressions.specs.Views.{built, here_of, numbers_of}
use Rattle.lowered_expressions.specs.inner.Notes.{notes_of, arguments_notes, behind_part, first_part, first_is_private, first_kind, first_private_kind}
use Rattle.lowered_expressions.proofs.Building.{two_parts, then_steps, places_more}
use Rattle.lowered_expressions.proofs.Nodes.{element_made, lookup_made, cat_made, cat_of, cut_of}
use Rattle.lowered_expressions.proofs.Cuts.{cut_made}
use Rattle.lowered_expressions.proofs.Arguments as several
use Rattle.lowered_expressions.proofs.Noted.{left_found, right_found, first_is, behind_is, rest_of}
use Rattle.lowered_expressions.proofs.expressions.+expressions.Goals as goal

-- ---- ELEMENTS

pub element-expression-requires : goal.element-expression-requires
element-expression-requires t c =
    let here = here_of c.args.around.now in
    let a = typed_tree c.args.array.now in
    let i = typed_tree c.args.index.now in
    let smaller : 4 * width a + 1 < 4 * (width a + width i) + 2 = omega arith in
    let found : c.parted.result.0.now ≡ notes_of here a =
    left_found here _ a i c.args.notes.now c.behind_first.result.now c.parted.result.0.now c.requires c.behind_first.ensures c.parted.ensures.first in
    search rules

pub element-returns : goal.element-returns
element-returns t c =
    let number = numbers_of c.args.around.now in
    let here = here_of c.args.around.now in
    let a = typed_tree c.args.array.now in
    let i = typed_tree c.args.index.now in
    let b = built c.args.body.now in
    let f = built c.expression.new.body in
    let t = c.args.row in
    let node = element_node c.args.line a i in
    on_ok_weaker c.push.result
    (λ p. element_made b f (built c.expression-2.new.body) (built c.push.new.self)
    (λ q. expression_code number here t q a) (λ q. expression_code number here (next_row t) q i) c.args.line
    c.in_ok-to.to c.in_ok-from.from c.in_ok-at.at (own_at here node t) (stands_at here a t) (stands_at here i (next_row t))
    c.in_ok-from.ensures.built (c.in_ok-at.ensures.built ∙ ap (λ (r : ℕ). with_expression number here f r i) c.in_ok-second.ensures) p
    (c.in_ok-to.ensures ∙ ap (in_row t) (c.first_kind.ensures ∙ ap first_kind c.requires))
    c.in_ok-from.ensures.register (c.in_ok-at.ensures.register ∙ ap (stands_at here i) c.in_ok-second.ensures))
    c.push.ensures

-- ---- LOOK-UPS

pub lookup-expression-requires : goal.lookup-expression-requires
lookup-expression-requires t c =
    let here = here_of c.args.around.now in
    let a = typed_tree c.args.array.now in
    let i = typed_tree c.args.index.now in
    let smaller : 4 * width a + 1 < 4 * (width a + width i) + 2 = omega arith in
    let found : c.parted.result.0.now ≡ notes_of here a =
    left_found here _ a i c.args.notes.now c.behind_first.result.now c.parted.result.0.now c.requires c.behind_first.ensures c.parted.ensures.first in
    search rules

pub lookup-returns : goal.lookup-returns
lookup-returns t c =
    let number = numbers_of c.args.around.now in
    let here = here_of c.args.around.now in
    let a = typed_tree c.args.array.now in
    let i = typed_tree c.args.index.now in
    let b = built c.args.body.now in
    let f = built c.expression.new.body in
    let g = built c.expression-2.new.body in
    let t = c.args.row in
    let u = next_row t in
    let node = lookup_node c.args.line a i in
    let left : c.parted.result.0.now ≡ notes_of here a =
    left_found here _ a i c.args.notes.now c.behind_first.result.now c.parted.result.0.now c.requires c.behind_first.ensures c.parted.ensures.first in
    let right : c.parted.result.1.now ≡ notes_of here i =
    right_found here _ a i c.args.notes.now c.behind_first.result.now c.parted.result.1.now c.requires c.behind_first.ensures c.parted.ensures.behind in
    on_ok_weaker c.close_lookup.result
    (λ p. lookup_made b f g (built c.close_lookup.new.body)
    (λ q. expression_code number here t q a) (λ q. expression_code number here u q i) c.args.line
    c.in_ok-to.to c.lacks.result c.in_ok-beside.beside c.in_ok-from.from c.lacks-2.result c.in_ok-classified.classified c.in_ok-at.at
    (own_at here node t) (lacks true (gives_private here a)) (classified_at here a t) (stands_at here a t)
    (lacks true (gives_private here i)) (classified_at here i u) (stands_at here i u)
    c.in_ok-from.ensures.built (c.in_ok-at.ensures.built ∙ ap (λ (r : ℕ). with_expression number here f r i) c.in_ok-second.ensures) p
    (c.in_ok-to.ensures ∙ ap (in_row t) (c.first_kind.ensures ∙ ap first_kind c.requires))
    (c.lacks.ensures ∙ ap (lacks true) (c.first_is_private.ensures ∙ ap first_is_private left))
    (c.in_ok-beside.ensures ∙ ap (in_row t) (c.first_private_kind.ensures ∙ ap first_private_kind left))
    c.in_ok-from.ensures.register
    (c.lacks-2.ensures ∙ ap (lacks true) (c.first_is_private-2.ensures ∙ ap first_is_private right))
    (c.in_ok-classified.ensures ∙ ap₂ in_row c.in_ok-second.ensures (c.first_private_kind-2.ensures ∙ ap first_private_kind right))
    (c.in_ok-at.ensures.register ∙ ap (stands_at here i) c.in_ok-second.ensures))
    c.close_lookup.ensures

-- ---- ARRAYS ONE BEHIND ANOTHER

pub cat-operand-requires : goal.cat-operand-requires
cat-operand-requires t c =
    let here = here_of c.args.around.now in
    let x = typed_tree c.args.a.now in
    let y = typed_tree c.args.b.now in
    let smaller : 4 * width x + 2 < 4 * (width x + width y) + 3 = omega arith in
    let left : c.parted.result.0.now ≡ notes_of here x =
    left_found here _ x y c.args.notes.now c.behind_first.result.now c.parted.result.0.now c.requires c.behind_first.ensures c.parted.ensures.first in
    search rules

pub cat-returns : goal.cat-returns
cat-returns t c =
    let number = numbers_of c.args.around.now in
    let here = here_of c.args.around.now in
    let x = typed_tree c.args.a.now in
    let y = typed_tree c.args.b.now in
    let b = built c.args.body.now in
    let t = c.args.row in
    let u = next_row t in
    let f = built c.operand.new.body in
    let node = cat_node c.args.line x y in
    let w = c.first_is_private-private.result in
    let secret : w ≡ gives_private here node = c.first_is_private-private.ensures ∙ ap first_is_private c.requires in
    on_ok_weaker c.push.result
    (λ p. cat_made b f (built c.operand-2.new.body) (built c.push.new.self)
    (λ q. expression_code number here t q x) (λ q. expression_code number here u q y)
    (lacks w (gives_private here x)) (lacks w (gives_private here y)) c.args.line
    c.in_ok-to.to c.in_ok-left.left c.in_ok-right.right (own_at here node t) (classified_at here x t) (classified_at here y u)
    (stands_at here x t) (stands_at here y u)
    c.in_ok-left.ensures.built (c.in_ok-right.ensures.built ∙ ap (λ (r : ℕ). with_operand number here f r w y) c.in_ok-second.ensures) p
    (c.in_ok-to.ensures ∙ ap (in_row t) (c.first_kind.ensures ∙ ap first_kind c.requires))
    c.in_ok-left.ensures.register
    (c.in_ok-right.ensures.register
    ∙ ap (λ (r : ℕ). picked (lacks w (gives_private here y)) (classified_at here y r) (stands_at here y r)) c.in_ok-second.ensures)
    ∙ ap (λ (g : Bool). with_steps b (cat_of number here c.args.line x y t (length b.pieces) g)) secret)
    c.push.ensures

-- ---- OPERATIONS ON TWO OPERANDS

pub binary-expression-requires : goal.binary-expression-requires
binary-expression-requires t c =
    let here = here_of c.args.around.now in
    let x = typed_tree c.args.a.now in
    let y = typed_tree c.args.b.now in
    let smaller : 4 * width x + 1 < 4 * (width x + width y) + 3 = omega arith in
    let left : c.parted.result.0.now ≡ notes_of here x =
    left_found here _ x y c.args.notes.now c.behind_first.result.now c.parted.result.0.now c.requires c.behind_first.ensures c.parted.ensures.first in
    search rules

pub binary-both-requires : goal.binary-both-requires
binary-both-requires t c =
    let here = here_of c.args.around.now in
    let x = typed_tree c.args.a.now in
    let y = typed_tree c.args.b.now in
    let smaller : 4 * width y + 2 < 4 * (width x + width y) + 3 = omega arith in
    let right : c.parted.result.1.now ≡ notes_of here y =
    right_found here _ x y c.args.notes.now c.behind_first.result.now c.parted.result.1.now c.requires c.behind_first.ensures c.parted.ensures.behind in
    search rules

pub binary-returns : goal.binary-returns
binary-returns t c =
    let number = numbers_of c.args.around.now in
    let here = here_of c.args.around.now in
    let x = typed_tree c.args.a.now in
    let y = typed_tree c.args.b.now in
    let b = built c.args.body.now in
    let t = c.args.row in
    let u = next_row t in
    let o = c.args.operation in
    let node = binary_node o.line o.operator o.operands x y in
    let f = built c.expression.new.body in
    let left : c.parted.result.0.now ≡ notes_of here x =
    left_found here _ x y c.args.notes.now c.behind_first.result.now c.parted.result.0.now c.requires c.behind_first.ensures c.parted.ensures.first in
    let secret : c.first_is_private-private.result ≡ gives_private here x = c.first_is_private-private.ensures ∙ ap first_is_private left in
    let own : c.in_ok-to.to ≡ own_at here node t = c.in_ok-to.ensures ∙ ap (in_row t) (c.first_kind.ensures ∙ ap first_kind c.requires) in
    let beside : c.in_ok-beside.beside ≡ classified_at here x t =
    c.in_ok-beside.ensures ∙ ap (in_row t) (c.first_private_kind.ensures ∙ ap first_private_kind left) in
    let rest = λ (g : Bool) (d m v r q : ℕ). binary_rest d m (classified_at here y r) v (stands_at here y r) q o.line o.operator o.operands g
    (gives_private here y) (λ z. expression_code number here r z y) in
    let at = length f.pieces in
    on_ok_weaker c.both.result
    (λ p. two_parts b f (built c.both.new.body) (expression_code number here t (length b.pieces) x)
    (rest (gives_private here x) (own_at here node t) (classified_at here x t) (stands_at here x t) u)
    c.in_ok-value.ensures.built
    (p
    ∙ ap (λ (g : Bool). with_steps f (rest g c.in_ok-to.to c.in_ok-beside.beside c.in_ok-value.value c.in_ok-second.second at)) secret
    ∙ ap₂ (λ (d m : ℕ). with_steps f (rest (gives_private here x) d m c.in_ok-value.value c.in_ok-second.second at)) own beside
    ∙ ap₂ (λ (v r : ℕ). with_steps f (rest (gives_private here x) (own_at here node t) (classified_at here x t) v r at)) c.in_ok-value.ensures.register
    c.in_ok-second.ensures))
    c.both.ensures

-- ---- CONNECTIVES

pub cut-expression-requires : goal.cut-expression-requires
cut-expression-requires t c =
    let here = here_of c.args.around.now in
    let x = typed_tree c.args.a.now in
    let y = typed_tree c.args.b.now in
    let smaller : 4 * width x + 1 < 4 * (width x + width y) + 3 = omega arith in
    let left : c.parted.result.0.now ≡ notes_of here x =
    left_found here _ x y c.args.notes.now c.behind_first.result.now c.parted.result.0.now c.requires c.behind_first.ensures c.parted.ensures.first in
    search rules

pub cut-both-requires : goal.cut-both-requires
cut-both-requires t c =
    let here = here_of c.args.around.now in
    let x = typed_tree c.args.a.now in
    let y = typed_tree c.args.b.now in
    let smaller : 4 * width y + 2 < 4 * (width x + width y) + 3 = omega arith in
    let right : c.parted.result.1.now ≡ notes_of here y =
    right_found here _ x y c.args.notes.now c.behind_first.result.now c.parted.result.1.now c.requires c.behind_first.ensures c.parted.ensures.behind in
    search rules

pub cut-cut_short-requires : goal.cut-cut_short-requires
cut-cut_short-requires t c =
    let here = here_of c.args.around.now in
    let x = typed_tree c.args.a.now in
    let y = typed_tree c.args.b.now in
    let smaller : 4 * width y + 2 < 4 * (width x + width y) + 3 = omega arith in
    let right : c.parted.result.1.now ≡ notes_of here y =
    right_found here _ x y c.args.notes.now c.behind_first.result.now c.parted.result.1.now c.requires c.behind_first.ensures c.parted.ensures.behind in
    search rules

pub cut-returns-then-secret : goal.cut-returns-then-secret
cut-returns-then-secret t c =
    let number = numbers_of c.args.around.now in
    let here = here_of c.args.around.now in
    let x = typed_tree c.args.a.now in
    let y = typed_tree c.args.b.now in
    let b = built c.args.body.now in
    let t = c.args.row in
    let u = next_row t in
    let n = c.args.connective in
    let node = cut_node n x y in
    let f = built c.expression.new.body in
    let left : c.parted.result.0.now ≡ notes_of here x =
    left_found here _ x y c.args.notes.now c.behind_first.result.now c.parted.result.0.now c.requires c.behind_first.ensures c.parted.ensures.first in
    let secret : c.first_is_private-secret.result ≡ gives_private here x = c.first_is_private-secret.ensures ∙ ap first_is_private left in
    let private : gives_private here x ≡ true = sym secret ∙ c.if-secret.true in
    let own : c.in_ok-to.to ≡ own_at here node t = c.in_ok-to.ensures ∙ ap (in_row t) (c.first_kind.ensures ∙ ap first_kind c.requires) in
    let beside : c.in_ok-beside.beside ≡ classified_at here x t =
    c.in_ok-beside.ensures ∙ ap (in_row t) (c.kind_beside.ensures
    ∙ ap (λ (g : Bool). either g (first_private_kind c.parted.result.0.now) (truth_kind false)) c.if-secret.true ∙ ap first_private_kind left) in
    let rest = λ (g : Bool) (o : BoolOperator) (d m v r q : ℕ). binary_rest d m (classified_at here y r) v (stands_at here y r) q 0 (binary.Bools o) Scalars g
    (gives_private here y) (λ z. expression_code number here r z y) in
    let at = length f.pieces in
    on_ok_weaker c.both.result
    (λ p. two_parts b f (built c.both.new.body) (expression_code number here t (length b.pieces) x)
    (rest (gives_private here x) (connective n) (own_at here node t) (classified_at here x t) (stands_at here x t) u)
    c.in_ok-value.ensures.built
    (p
    ∙ ap₂ (λ (g : Bool) (o : BoolOperator). with_steps f (rest g o c.in_ok-to.to c.in_ok-beside.beside c.in_ok-value.value c.in_ok-second.second at)) secret
    c.operator.ensures
    ∙ ap₂ (λ (d m : ℕ). with_steps f (rest (gives_private here x) (connective n) d m c.in_ok-value.value c.in_ok-second.second at)) own beside
    ∙ ap₂ (λ (v r : ℕ). with_steps f (rest (gives_private here x) (connective n) (own_at here node t) (classified_at here x t) v r at))
    c.in_ok-value.ensures.register c.in_ok-second.ensures)
    ∙ ap (λ (g : Bool). with_steps b (cut_of number here n x y t (length b.pieces) g)) (sym private))
    c.both.ensures

pub cut-returns-else-secret : goal.cut-returns-else-secret
cut-returns-else-secret t c =
    let number = numbers_of c.args.around.now in
    let here = here_of c.args.around.now in
    let x = typed_tree c.args.a.now in
    let y = typed_tree c.args.b.now in
    let b = built c.args.body.now in
    let t = c.args.row in
    let u = next_row t in
    let n = c.args.connective in
    let node = cut_node n x y in
    let f = built c.expression.new.body in
    let left : c.parted.result.0.now ≡ notes_of here x =
    left_found here _ x y c.args.notes.now c.behind_first.result.now c.parted.result.0.now c.requires c.behind_first.ensures c.parted.ensures.first in
    let secret : c.first_is_private-secret.result ≡ gives_private here x = c.first_is_private-secret.ensures ∙ ap first_is_private left in
    let private : gives_private here x ≡ false = sym secret ∙ c.if-secret.false in
    let own : c.in_ok-to.to ≡ own_at here node t = c.in_ok-to.ensures ∙ ap (in_row t) (c.first_kind.ensures ∙ ap first_kind c.requires) in
    let beside : c.in_ok-beside.beside ≡ in_row t (truth_kind false) =
    c.in_ok-beside.ensures ∙ ap (in_row t) (c.kind_beside.ensures
    ∙ ap (λ (g : Bool). either g (first_private_kind c.parted.result.0.now) (truth_kind false)) c.if-secret.false) in
    let rest = λ (d m v r q : ℕ). cut_rest d m v (stands_at here y r) q n (gives_private here y) (λ z. expression_code number here r z y) in
    let at = length f.pieces in
    on_ok_weaker c.cut_short.result
    (λ p. two_parts b f (built c.cut_short.new.body) (expression_code number here t (length b.pieces) x)
    (rest (own_at here node t) (in_row t (truth_kind false)) (stands_at here x t) u)
    c.in_ok-value.ensures.built
    (p
    ∙ ap₂ (λ (d m : ℕ). with_steps f (rest d m c.in_ok-value.value c.in_ok-second.second at)) own beside
    ∙ ap₂ (λ (v r : ℕ). with_steps f (rest (own_at here node t) (in_row t (truth_kind false)) v r at)) c.in_ok-value.ensures.register
    c.in_ok-second.ensures)
    ∙ ap (λ (g : Bool). with_steps b (cut_of number here n x y t (length b.pieces) g)) (sym private))
    c.cut_short.ensures

pub cut_short-returns : goal.cut_short-returns
cut_short-returns t c =
    let number = numbers_of c.args.around.now in
    let here = here_of c.args.around.now in
    let y = typed_tree c.args.b.now in
    let b = built c.args.body.now in
    let f = built c.expression.new.body in
    let l = c.args.left in
    let place = c.next_place-branch.result in
    on_ok_weaker c.close_cut.result
    (λ p. cut_made b (built c.push.new.self) f (built c.close_cut.new.body) ReturnNone
    (λ q. expression_code number here c.args.row q y) c.args.connective (gives_private here y) l.to l.beside l.value
    (stands_at here y c.args.row) place c.in_ok-push.ensures c.in_ok-value.ensures.built
    (p
    ∙ ap (λ (g : Bool). cut_closed f c.args.connective g l.to l.beside l.value c.in_ok-value.value place)
    (c.first_is_private-private.ensures ∙ ap first_is_private c.requires)
    ∙ ap (λ (v : ℕ). cut_closed f c.args.connective (gives_private here y) l.to l.beside l.value v place) c.in_ok-value.ensures.register)
    c.next_place-branch.ensures)
    c.close_cut.ensures

-- ---- ARGUMENTS

pub arguments-operand-requires : goal.arguments-operand-requires
arguments-operand-requires t c =
    let es = c.deref-e-items.result.now in
    let i = c.loop-e.e-index in
    let x = c.e-item.result in
    let within : width (typed_tree x) + 1 ≤ widths (typed_trees_of (map typed_tree c.args.list.now.items)) =
    subst (λ ys. width (typed_tree x) + 1 ≤ widths (typed_trees_of (map typed_tree ys))) c.deref-e-items.ensures.value
    (subst (λ (y : TypedExpression). width (typed_tree y) + 1 ≤ widths (typed_trees_of (map typed_tree es))) (sym c.e-item.is)
    (several.widths_item es i x c.loop-e-test.true)) in
    let smaller : 4 * width (typed_tree x) + 2 < 4 * widths (typed_trees_of (map typed_tree c.args.list.now.items)) = omega arith in
    let here = here_of c.args.around.now in
    let own : c.parted.result.0.now ≡ notes_of here (typed_tree x) =
    c.parted.ensures.first
    ∙ ap first_part (c.loop-e.invariant.rest ∙ ap (arguments_notes here) (rest_of es i x c.loop-e-test.true c.e-item.is))
    ∙ first_is here (typed_tree x) (arguments_notes here (typed_trees_of (map typed_tree (drop (i + 1) es)))) in
    search rules

pub arguments-loop-e-preserved : goal.arguments-loop-e-preserved
arguments-loop-e-preserved t c =
    let number = numbers_of c.args.around.now in
    let here = here_of c.args.around.now in
    let b = built c.args.body.now in
    let bound = c.args.binding.now in
    let ss = c.args.slots.now in
    let xs = c.deref-e-items.result.now in
    let i = c.loop-e.e-index in
    let x = c.e-item.result in
    let r = c.args.first in
    let n = c.loop-e.row in
    let ts = map typed_tree (take i xs) in
    let e = typed_tree x in
    let more : map typed_tree (take (i + 1) xs) ≡ ts ++ e ∷ [] =
    ap (map typed_tree) (take_more xs i x c.loop-e-test.true) ∙ map-append typed_tree (take i xs) (get_or xs i x ∷ [])
    ∙ ap (λ z. ts ++ typed_tree z ∷ []) (sym c.e-item.is) in
    let before = built c.loop-e.body in
    let code = arguments_code number here bound ss r (length b.pieces) (typed_trees_of ts) in
    let counted : c.len.result ≡ i = c.len.ensures ∙ c.loop-e.registers.ok.0 ∙ c.loop-e.invariant.count in
    let private : c.next_is_private-private.result ≡ next_is_private bound (drop i ss) =
    c.next_is_private-private.ensures ∙ ap (λ k. next_is_private bound (drop k ss)) counted in
    let p : length b.pieces + length code ≡ length before.pieces =
    sym (ap (λ (z : Built). length z.pieces) c.loop-e.invariant.code ∙ places_more b code) in
    let taken : length ts ≡ i = several.length_taken xs i c.loop-e-test.true in
    let slots : drop (length ts) ss ≡ drop i ss = ap (λ k. drop k ss) taken in
    let row : r + 12 * length ts ≡ n = sym (c.loop-e.invariant.row ∙ ap (λ k. r + 12 * k) (sym taken)) in
    let last = several.argument_code number here bound (drop i ss) n (length before.pieces) e in
    let next : c.in_ok-row.row ≡ r + 12 * (i + 1) = omega (arith, c.in_ok-row.ensures, c.loop-e.invariant.row) in
    record {
      rest =
          c.parted.ensures.behind
          ∙ ap behind_part (c.loop-e.invariant.rest ∙ ap (arguments_notes here) (rest_of xs i x c.loop-e-test.true c.e-item.is))
          ∙ behind_is here e (arguments_notes here (typed_trees_of (map typed_tree (drop (i + 1) xs))));
      count = omega (arith, c.loop-e.invariant.count, ap length c.in_ok-push.ensures.items, length_push c.loop-e.registers.items c.in_ok-register.register);
      row = next;
      code =
          c.in_ok-register.ensures.built
          ∙ ap (λ (g : Bool). with_steps before (several.argument_under number here g n (length before.pieces) e)) private
          ∙ ap (λ (z : Built). with_steps z last) c.loop-e.invariant.code
          ∙ then_steps b code last
          ∙ ap (with_steps b) (sym (several.code_more number here bound ts e ss r (length b.pieces) (drop i ss) n (length before.pieces) slots row p))
          ∙ ap (λ l. with_steps b (arguments_code number here bound ss r (length b.pieces) (typed_trees_of l))) (sym more);
      places =
          c.in_ok-push.ensures.items
          ∙ ap₂ (λ l r. l ++ r ∷ []) c.loop-e.invariant.places
          (c.in_ok-register.ensures.register
          ∙ ap (λ (g : Bool). picked (lacks g (gives_private here e)) (classified_at here e n) (stands_at here e n)) private)
          ∙ sym (several.places_more number here bound ts e ss r (drop i ss) n slots row)
          ∙ ap (λ l. arguments_places number here bound ss r (typed_trees_of l)) (sym more);
    }
