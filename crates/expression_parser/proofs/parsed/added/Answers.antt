use Rattle.std.proofs.Common.{◌≡◌, [], ◌∷◌, ◌++◌, ap, ◌∙◌, sym}
use Rattle.std.specs.Prelude.{map, max}
use Rattle.std.proofs.lemmas.List.{map-append}
use Rattle.program_trees.specs.Tree.{expression, trees_of}
use Rattle.program_trees.specs.Heights.{heights}
use Rattle.expression_parser.specs.Given.{tree_of}
use Rattle.expression_parser.proofs.Turns.{heights_more}
use Rattle.expression_parser.proofs.parsed.added.Goals as goal

pub returns : goal.returns
returns c =
    let xs = c.args.found.trees.items in
    let all : map expression c.push.new.self.items ≡ map expression xs ++ tree_of c.args.next ∷ [] =
    ap (map expression) c.in_ok-push.ensures.items ∙ map-append expression xs (c.args.next.tree ∷ []) in (
      all,
      c.max-height.ensures ∙ ap (λ n. max n c.args.next.height) c.requires.found
          ∙ ap (λ n. max (heights (trees_of (map expression xs))) n) c.requires.next ∙ sym (heights_more (map expression xs) (tree_of c.args.next))
          ∙ sym (ap (λ l. heights (trees_of l)) all),
      c.max-height.ensures,
    )
