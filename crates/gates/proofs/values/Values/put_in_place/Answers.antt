use Rattle.std.proofs.Common.{◌≡◌, ◌≤◌, ◌+◌, ◌++◌, ◌∷◌, [], length, rules, arith, ap, sym, ◌∙◌}
use Rattle.std.specs.Prelude.{set}
use Rattle.gates.specs.Clear.{value}
use Rattle.gates.specs.Held.{first_values}
use Rattle.gates.specs.inner.Spans.{list_at}
use Rattle.gates.proofs.Held.{first_moved, first_same, value_held}
use Rattle.gates.proofs.values.Values.put_in_place.Goals as goal

pub move_with-requires-clause-other : goal.move_with-requires-clause-other
move_with-requires-clause-other c =
    let held = list_at c.self.inside.held in
    let count = c.self.inside.count in
    let own : value c.args.self.now c.args.array ≡ held c.args.array =
    ap (λ v. value v c.args.array) (sym c.self.view_is) ∙ value_held held count c.self.invariant c.args.array in
    λ is.
    let past : count ≤ c.args.array = omega (arith, is) in
    let none : length (value c.args.self.now c.args.array) ≡ 0 = ap length (own ∙ c.self.invariant c.args.array past) in
    omega (arith, none, c.requires)

pub move_with-requires-clause-free : goal.move_with-requires-clause-free
move_with-requires-clause-free c = c.self.invariant c.self.inside.count (omega arith)

pub move_with-requires-clause-there : goal.move_with-requires-clause-there
move_with-requires-clause-there c =
    let held = list_at c.self.inside.held in
    let own : value c.args.self.now c.args.array ≡ held c.args.array =
    ap (λ v. value v c.args.array) (sym c.self.view_is) ∙ value_held held c.self.inside.count c.self.invariant c.args.array in
    omega (arith, c.requires, ap length own)

pub invariant_of-self : goal.invariant_of-self
invariant_of-self c = λ k le. c.in_err-move_with.ensures.err k ∙ c.self.invariant k le

pub returns-in_err-move_with-clause-err : goal.returns-in_err-move_with-clause-err
returns-in_err-move_with-clause-err c =
    let same : first_values (list_at c.move_with.new.self) c.self.inside.count ≡ c.args.self.now =
    first_same (list_at c.move_with.new.self) (list_at c.self.inside.held) c.self.inside.count (λ k l. c.in_err-move_with.ensures.err k) ∙ c.self.view_is in
    search (rules, same)

pub invariant_of-self-2 : goal.invariant_of-self-2
invariant_of-self-2 c = λ k le.
    let held = list_at c.self.inside.held in
    let count = c.self.inside.count in
    let own : value c.args.self.now c.args.array ≡ held c.args.array =
    ap (λ v. value v c.args.array) (sym c.self.view_is) ∙ value_held held count c.self.invariant c.args.array in
    let after : count + 1 ≤ k = omega (arith, le) in
    c.in_ok-move_with.ensures.ok.others k (λ is. omega (arith, after, is))
    (λ is.
    let past : count ≤ c.args.array = omega (arith, after, is) in
    let none : length (value c.args.self.now c.args.array) ≡ 0 = ap length (own ∙ c.self.invariant c.args.array past) in
    omega (arith, none, c.requires))
    ∙ c.self.invariant k (omega (arith, after))

pub returns-clause-ok : goal.returns-clause-ok
returns-clause-ok c =
    let held = list_at c.self.inside.held in
    let new = list_at c.move_with.new.self in
    let count = c.self.inside.count in
    let array = c.args.array in
    let own : value c.args.self.now array ≡ held array =
    ap (λ v. value v array) (sym c.self.view_is) ∙ value_held held count c.self.invariant array in
    let next : c.in-Some.count ≡ count + 1 = search rules in
    first_moved new held count c.in-Some.count array (set (value c.args.self.now array) c.args.index c.args.word) next c.in_ok-move_with.ensures.ok.emptied
    (λ j l apart. c.in_ok-move_with.ensures.ok.others j (λ is. omega (arith, l, is)) apart)
    (c.in_ok-move_with.ensures.ok.own ∙ ap (λ ws. set ws c.args.index c.args.word) (sym own))
    ∙ ap (λ v. set v array [] ++ set (value c.args.self.now array) c.args.index c.args.word ∷ []) c.self.view_is
