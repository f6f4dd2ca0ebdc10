use Rattle.std.proofs.Common.{◌≡◌, ℕ, List, Some, None, length, arith, ap, ◌∙◌}
use Rattle.std.specs.Prelude.{bytes_eq}
use Rattle.std.specs.Map.{update}
use Rattle.std.proofs.lemmas.Grind.{common_steps}
use Rattle.std.proofs.lemmas.Map.Text.{btree_map_updates_str}
use Rattle.declarations.specs.Index.{found}
use Rattle.declarations.proofs.Names.{numbered_more, numbered_again}
use Rattle.declarations.proofs.name_index.NameIndex.with.Goals as goal
use Rattle.declarations.proofs.name_index.NameIndex.with.Goals.{then-is_none+in_ok-insert, else-is_none}

pub invariant_of-result : goal.invariant_of-result
invariant_of-result c =
    elim c.if-is_none.branch [
      | then-is_none+in_ok-insert w ↦
          let m = c.self.inside.numbers in
          let n = w.insert.new.self in
          let absent : found m c.args.name.now ≡ None = grind (arith, common_steps) in
          let updates : (q : List ℕ) → found n q ≡ update bytes_eq (found m) c.args.name.now (Some w.len.result) q =
          btree_map_updates_str c.args.name.now m n _ w.in_ok-insert.ensures.updates in
          let count : w.len.result ≡ length c.self.inside.names.items = omega arith in
          rw (c.in_ok-push.ensures.items, w.numbers-is)
          (numbered_more c.self.inside.names.items m n c.args.name c.self.invariant absent
          (λ q. updates q ∙ ap (λ k. update bytes_eq (found m) c.args.name.now (Some k) q) count))
      | else-is_none w ↦
          let m = c.self.inside.numbers in
          let there : found m c.args.name.now ≡ None → ⊥ = grind (arith, common_steps) in
          rw (c.in_ok-push.ensures.items, w.numbers-is) (numbered_again c.self.inside.names.items m c.args.name c.self.invariant there)
    ]
