use Rattle.std.proofs.Common.{◌≡◌, ◌<◌, ◌≤◌, length, refl, sym, ◌∙◌, ap, arith}
use Rattle.value_file.specs.declared.inputs.Entry.{Entry}
use Rattle.tape_twin.proofs.Differences.{same-there, other-entry, second-ends, first-ends}
use Rattle.tape_twin.proofs.alike.public_difference.Goals as goal
use Rattle.tape_twin.proofs.alike.public_difference.Goals.{then-k-second-via-then-k-second, then-k-second-via-else-k-second+then-not-same_entry}

pub returns-then-k-second-clause-some : goal.returns-then-k-second-clause-some
returns-then-k-second-clause-some c =
    let first = c.args.first.now in
    let second = c.args.second.now in
    let k = c.loop-k.k in
    let x = c.index-first-k-then-k-second.result in
    let name = c.in_ok-copy.field-0 in
    let named : name ≡ x.name = c.in_ok-copy.ensures ∙ ap (λ (e : Entry). e.name) (sym c.index-first-k-then-k-second.is) in
    elim c.then-k-second.branch [
      | then-k-second-via-then-k-second w ↦
          let past : length second ≤ k = omega arith in
          second-ends first second k x name c.loop-k-test.true past c.index-first-k-then-k-second.is named c.loop-k.invariant
      | then-k-second-via-else-k-second+then-not-same_entry w ↦
          let other : k < length second = omega arith in
          let same : x ≡ w.index-first-k.result =
          same-there first k x w.index-first-k.result c.loop-k-test.true c.index-first-k-then-k-second.is w.index-first-k.is in
          other-entry first second k w.index-first-k.result w.index-second-k.result name c.loop-k-test.true other w.index-first-k.is
          w.index-second-k.is (λ e. let no : ⊥ = cc (w.same_entry.ensures.1 e) in no)
          (named ∙ ap (λ (e : Entry). e.name) same) c.loop-k.invariant
    ]

pub returns-then-first-second-clause-some : goal.returns-then-first-second-clause-some
returns-then-first-second-clause-some c =
    let first = c.args.first.now in
    first-ends first c.args.second.now c.loop-k.k (length first) c.index-second-first.result c.in_ok-copy-2.field-0 c.loop-k-test.false refl
    c.if-first-second.true c.index-second-first.is
    (c.in_ok-copy-2.ensures ∙ ap (λ (e : Entry). e.name) (sym c.index-second-first.is)) c.loop-k.invariant
