use Rattle.std.proofs.Common.{◌≡◌, ◌+◌, ◌++◌, ◌∷◌, [], rules, arith, ap, ◌∙◌}
use Rattle.gates.specs.Held.{first_values}
use Rattle.gates.specs.inner.Spans.{list_at}
use Rattle.gates.proofs.Held.{first_push, first_same}
use Rattle.gates.proofs.values.Values.push.Goals as goal

pub put-requires : goal.put-requires
put-requires c = record { free = c.self.invariant c.self.inside.count (omega arith) }

pub invariant_of-self : goal.invariant_of-self
invariant_of-self c = λ k le. c.in_err-put.ensures.err k ∙ c.self.invariant k le

pub returns-in_err-put-clause-err : goal.returns-in_err-put-clause-err
returns-in_err-put-clause-err c =
    let same : first_values (list_at c.put.new.self) c.self.inside.count ≡ c.args.self.now =
    first_same (list_at c.put.new.self) (list_at c.self.inside.held) c.self.inside.count (λ k l. c.in_err-put.ensures.err k) ∙ c.self.view_is in
    search (rules, same)

pub invariant_of-self-2 : goal.invariant_of-self-2
invariant_of-self-2 c = λ k le.
    c.in_ok-put.ensures.ok.others k (λ is. omega (arith, le, is)) ∙ c.self.invariant k (omega (arith, le))

pub returns-clause-ok : goal.returns-clause-ok
returns-clause-ok c =
    let count = c.self.inside.count in
    let next : c.in-Some.count ≡ count + 1 = search rules in
    let words : c.as_slice.result.now ≡ c.args.words = search rules in
    first_push (list_at c.put.new.self) (list_at c.self.inside.held) count c.in-Some.count c.args.words next
    (λ k l. c.in_ok-put.ensures.ok.others k (λ is. omega (arith, l, is))) (c.in_ok-put.ensures.ok.own ∙ words)
    ∙ ap (λ v. v ++ c.args.words ∷ []) c.self.view_is
