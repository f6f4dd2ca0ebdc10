use Rattle.std.proofs.Common.{◌≡◌, ℕ, ◌+◌, ◌<◌, List, [], ◌∷◌, ◌++◌, Bool, cond, length, get_or, map, take, true, false, ap, sym, ◌∙◌}
use Rattle.std.specs.Prelude.{◌==◌}
use Rattle.std.specs.List.{filter}
use Rattle.std.proofs.lemmas.List.{append-nil, map-append}
use Rattle.std.proofs.lemmas.List.Elements.{filter_more}
use denote.Enum.Bare.{sameb}
use Rattle.row_files.proofs.Numbers.{sameb-object}
use Rattle.row_files.proofs.row.Row.fails.Goals as goal
use Rattle.row_files.proofs.row.Row.fails.Goals.{then-eq+in_ok-push, else-eq}
use Rattle.row_files.specs.Failures.{calls_failing, object_number}
use Rattle.row_files.specs.contracts.row.Object.{the_type}
use Rattle.row_files.specs.declared.row.Failing.{Failing}
use Rattle.row_files.specs.declared.row.Object.{Object}

-- what a call that is to fail adds
abbrev added : Bool → Failing → List ℕ
added is failing = map (λ call. call.call) (cond is (failing ∷ []) [])

more : (o : Object) (all : List Failing) (i : ℕ) (d : Failing) → i < length all
    → calls_failing o (take (i + 1) all) ≡ calls_failing o (take i all) ++ added (sameb the_type (get_or all i d).object o) (get_or all i d)
more o all i d lt =
    ap (map (λ call. call.call)) (filter_more (λ call. object_number call.object == object_number o) all i d lt)
    ∙ map-append (λ call. call.call) (filter (λ call. object_number call.object == object_number o) (take i all)) _
    ∙ ap (λ is. calls_failing o (take i all) ++ added is (get_or all i d)) (sym (sameb-object (get_or all i d).object o))

next : (o : Object) (all now : List Failing) (i : ℕ) (d : Failing) (before : List ℕ) (is : Bool) → now ≡ all → i < length now
    → before ≡ calls_failing o (take i all) → is ≡ sameb the_type (get_or now i d).object o
    → before ++ added is (get_or now i d) ≡ calls_failing o (take (i + 1) all)
next o all now i d before is e lt b s =
    ap (λ calls. calls ++ added is (get_or now i d)) (b ∙ ap (λ failing. calls_failing o (take i failing)) (sym e))
    ∙ ap (λ is. calls_failing o (take i now) ++ added is (get_or now i d)) s
    ∙ sym (more o now i d lt)
    ∙ ap (λ failing. calls_failing o (take (i + 1) failing)) e

pub loop-failing-preserved : goal.loop-failing-preserved
loop-failing-preserved c =
    let all = c.args.self.now.failing.items in
    let now = c.deref-failing-items in
    elim c.if-eq.branch [
      | then-eq+in_ok-push w ↦
          rw w.calls-is (w.in_ok-push.ensures.items
          ∙ next c.args.object all now.result.now c.loop-failing.failing-index _ c.loop-failing.calls.items true now.ensures.value
          c.loop-failing-test.true c.loop-failing.invariant w.if-eq.ensures)
      | else-eq w ↦
          rw w.calls-is (sym (append-nil c.loop-failing.calls.items)
          ∙ next c.args.object all now.result.now c.loop-failing.failing-index _ c.loop-failing.calls.items false now.ensures.value
          c.loop-failing-test.true c.loop-failing.invariant w.if-eq.ensures)
    ]
