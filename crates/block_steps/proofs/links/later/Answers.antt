use Rattle.std.proofs.Common.{◌≤◌, ◌<◌, ◌+◌, ℕ, List, ◌++◌, length, drop, ◌∙◌, sym, ap, arith}
use Rattle.block_steps.proofs.Inboxes.{later_all, later_none, later_one}
use Rattle.block_steps.proofs.links.later.Goals as goal
use Rattle.block_steps.proofs.links.later.Goals.{in-Some+in_ok-push_words, in_default}

pub loop-at-preserved : goal.loop-at-preserved
loop-at-preserved c =
    let xs = c.args.messages.now in
    let at = c.loop-at.at in
    let counted = c.len-at-end.ensures in
    let more = c.loop-at-test.true in
    let below : at < length xs = grind (arith, counted, more) in
    elim c.match-lent.branch [
      | in-Some+in_ok-push_words w ↦
          let m = w.in-Some.words.now in
          ap (λ (ms : List (List ℕ)). ms ++ drop (at + 1) xs) (w.left-is ∙ w.in_ok-push_words.ensures.ok)
          ∙ later_one at xs c.loop-at.left m below (sym w.in-Some.ensures.found)
          ∙ c.loop-at.invariant
      | in_default w ↦ absurd (later_none at xs below (sym w.in_default.ensures.found))
    ]

pub returns : goal.returns
returns c =
    let xs = c.args.messages.now in
    let counted = c.len-at-end.ensures in
    let through = c.loop-at-test.false in
    let past : length xs ≤ c.loop-at.at = grind (arith, counted, through) in
    sym (later_all c.loop-at.at xs c.loop-at.left past) ∙ c.loop-at.invariant
