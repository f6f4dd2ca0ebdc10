use Rattle.std.proofs.Common.{◌≡◌, ◌<◌, ◌≤◌, ◌+◌, ◌*◌, ℕ, [], length}
use Rattle.std.specs.Prelude.{map}
use Rattle.secrec_lexer.specs.declared.sign.Sign.TheVariants as signs
use Rattle.program_trees.specs.Statements.{statement}
use Rattle.secrec_parser.specs.inner.Steps.{at_sign, list_from, listed, statement_at_most}
use Rattle.secrec_parser.proofs.statement.+statements.Given as goal

abbrev pub decreases-statement : goal.decreases-statement
decreases-statement l = 4 * l.max_height + 3

abbrev pub decreases-led : goal.decreases-led
decreases-led l = 4 * l.max_height + 2

abbrev pub decreases-braced : goal.decreases-braced
decreases-braced l = 4 * l.max_height + 4

abbrev pub decreases-if_statement : goal.decreases-if_statement
decreases-if_statement l = 4 * l.max_height + 5

abbrev pub decreases-while_statement : goal.decreases-while_statement
decreases-while_statement l = 4 * l.max_height + 4

abbrev pub decreases-do_statement : goal.decreases-do_statement
decreases-do_statement l = 4 * l.max_height + 4

abbrev pub decreases-for_statement : goal.decreases-for_statement
decreases-for_statement l = 4 * l.max_height + 4

abbrev pub invariant-braced-loop-alloc : goal.invariant-braced-loop-alloc
invariant-braced-loop-alloc l = record {
  shorter : length l.rest ≤ length l.tokens;
  step :
      (n : ℕ) × (length l.rest < n)
      × (listed (λ found w. at_sign signs.RightBrace w) (statement_at_most l.max_height l.in_loop) [] l.tokens
      ≡ list_from (λ found w. at_sign signs.RightBrace w) (statement_at_most l.max_height l.in_loop) n (map statement l.found.items) l.rest);
}

abbrev pub decreases-braced-loop-alloc : goal.decreases-braced-loop-alloc
decreases-braced-loop-alloc l = length l.rest
