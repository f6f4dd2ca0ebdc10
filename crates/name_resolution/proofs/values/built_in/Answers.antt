use Rattle.std.proofs.Common.{ap, ◌∙◌, sym, Some, true, false}
use Rattle.std.specs.Prelude.{map}
use Rattle.program_trees.specs.declared.expression.DataType.TheVariants as datatype
use Rattle.declarations.specs.declared.built_in.BuiltIn.TheVariants.{Size, Cat, Sum, BitExtract, Lookup}
use Rattle.program_trees.specs.TypedEquations.{size_node_is, cat_node_is, sum_node_is, bits_node_is}
use Rattle.name_resolution.specs.Values.{made, built_in_value}
use Rattle.name_resolution.specs.inner.Views.{valued, operand_seen, pair_seen}
use Rattle.name_resolution.proofs.Arguments.{only_one, only_two}
use Rattle.name_resolution.proofs.values.built_in.Goals as goal

pub returns-in_ok-array-in-Size : goal.returns-in_ok-array-in-Size
returns-in_ok-array-in-Size c =
    let vs = map valued c.args.arguments.items in
    ap (λ b. built_in_value c.args.line b vs) c.in-Size.is
    ∙ ap (built_in_value c.args.line Size) (only_one vs (operand_seen c.in_ok-array-in-Size.array) c.in_ok-array-in-Size.ensures)
    ∙ ap Some (ap (λ t. made t datatype.Uint64 false) (sym (size_node_is _)) ∙ sym c.scalar.ensures)

pub returns-in_ok-first-in-Cat : goal.returns-in_ok-first-in-Cat
returns-in_ok-first-in-Cat c =
    let vs = map valued c.args.arguments.items in
    ap (λ b. built_in_value c.args.line b vs) c.in-Cat.is
    ∙ ap (built_in_value c.args.line Cat) (only_two vs (pair_seen (c.in_ok-first-in-Cat.first, c.in_ok-first-in-Cat.second)) c.in_ok-first-in-Cat.ensures)
    ∙ ap Some (ap (λ t. made t c.in_ok-first-in-Cat.first.shape.element true) (sym (cat_node_is _ _ _)) ∙ sym c.array.ensures)

pub returns-in_ok-array-in-Sum : goal.returns-in_ok-array-in-Sum
returns-in_ok-array-in-Sum c =
    let vs = map valued c.args.arguments.items in
    ap (λ b. built_in_value c.args.line b vs) c.in-Sum.is
    ∙ ap (built_in_value c.args.line Sum) (only_one vs (operand_seen c.in_ok-array-in-Sum.array) c.in_ok-array-in-Sum.ensures)
    ∙ ap Some (ap (λ t. made t c.in_ok-array-in-Sum.array.shape.element false) (sym (sum_node_is _)) ∙ sym c.scalar-in-Sum.ensures)

pub returns-in_ok-words-in-BitExtract : goal.returns-in_ok-words-in-BitExtract
returns-in_ok-words-in-BitExtract c =
    let vs = map valued c.args.arguments.items in
    ap (λ b. built_in_value c.args.line b vs) c.in-BitExtract.is
    ∙ ap (built_in_value c.args.line BitExtract) (only_one vs (operand_seen c.in_ok-words-in-BitExtract.words) c.in_ok-words-in-BitExtract.ensures)
    ∙ ap Some (ap (λ t. made t datatype.Bool true) (sym (bits_node_is _ _)) ∙ sym c.array-in-BitExtract.ensures)

pub returns-in_ok-array-in-Lookup : goal.returns-in_ok-array-in-Lookup
returns-in_ok-array-in-Lookup c =
    let vs = map valued c.args.arguments.items in
    ap (λ b. built_in_value c.args.line b vs) c.in-Lookup.is
    ∙ ap (built_in_value c.args.line Lookup)
    (only_two vs (pair_seen (c.in_ok-array-in-Lookup.array, c.in_ok-array-in-Lookup.index)) c.in_ok-array-in-Lookup.ensures)
    ∙ ap Some (sym c.looked_up.ensures)
