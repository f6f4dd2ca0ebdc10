-- The tokens of the load program spell its tree.
use Rattle.std.proofs.Common.{ℕ, false, List, [], ◌∷◌, ◌++◌, take, drop, refl, sym, inl, lit≤}
use Rattle.std.proofs.lemmas.List.{take-append-drop}
use Rattle.std.specs.Prelude.{codes}
use Rattle.sc_text.specs.declared.span.Span.{Span}
use Rattle.secrec_lexer.specs.declared.sign.Sign.{Sign}
use Rattle.secrec_lexer.specs.declared.token.TokenKind.{TokenKind}
use Rattle.secrec_lexer.specs.declared.token.TokenKind.TheVariants as kinds
use Rattle.secrec_lexer.specs.declared.token.Token.{Token}
use Rattle.program_trees.specs.declared.expression.DataType.TheVariants.{Uint64}
use Rattle.program_trees.specs.Tree.{cast, parentheses}
use Rattle.program_trees.specs.Programs.{imports, domain, defines}
use Rattle.program_trees.specs.declared.expression.Operator.TheVariants.{Multiply, Less}
use Rattle.expression_parser.specs.Phrases.{Phrase, token, nothing, one, one_at, sign, ◌then◌}
use Rattle.secrec_parser.specs.Grammar.{IsItem, IsProgram, IsStatement}
use Rattle.workload.specs.LoadTree.{a_and_b, array_from_input, at, load_tree, main_tree, named, sum_published}
use Rattle.workload.proofs.Tokens.{import_stdlib, import_shared3p, domain_p, heading, first_array, second_array, products, comparisons}
use Rattle.workload.proofs.Tokens.{behind_main, load_tokens}

-- ---- one phrase after another

then_sign : {x : Sign} {Q : Phrase} {place : Span} {t : List Token} → Q t → (sign x then Q) (token place (kinds.Sign x) ∷ t)
then_sign {x = x} {place = place} {t = t} q = (token place (kinds.Sign x) ∷ [], t, refl, (place, refl), q)

then_one : {x : TokenKind} {Q : Phrase} {place : Span} {t : List Token} → Q t → (one x then Q) (token place x ∷ t)
then_one {x = x} {place = place} {t = t} q = (token place x ∷ [], t, refl, (place, refl), q)

then_here : {x : TokenKind} {Q : Phrase} {place : Span} {t : List Token} → Q t → (one_at place x then Q) (token place x ∷ t)
then_here {x = x} {place = place} {t = t} q = (token place x ∷ [], t, refl, refl, q)

then_nothing : {Q : Phrase} {t : List Token} → Q t → (nothing then Q) t
then_nothing {t = t} q = ([], t, refl, refl, q)

last : {x : Sign} {place : Span} → sign x (token place (kinds.Sign x) ∷ [])
last {place = place} = (place, refl)

-- a phrase of so many tokens, and one after it
split : {P Q : Phrase} {ts : List Token} (n : ℕ) → P (take n ts) → Q (drop n ts) → (P then Q) ts
split {ts = ts} n p q = (take n ts, drop n ts, sym (take-append-drop n ts), p, q)

-- ---- the items

stdlib_imported : IsItem (imports (named (at 1 8) (codes "stdlib"))) import_stdlib
stdlib_imported = then_sign (then_here last)

shared3p_imported : IsItem (imports (named (at 1 23) (codes "shared3p"))) import_shared3p
shared3p_imported = then_sign (then_here last)

domain_declared : IsItem (domain (named (at 1 40) (codes "p")) (named (at 1 42) (codes "shared3p"))) domain_p
domain_declared = then_sign (then_here (then_here last))

-- ---- the statements

array_of_a : IsStatement false (array_from_input 15 (codes "a")) first_array
array_of_a =
    split 13
    (split 7 (refl, then_here (split 1 (inl last) (then_sign (then_sign (then_one (then_sign last))))))
    (then_here (then_nothing (then_sign (then_here (then_sign (then_one last)))))))
    last

array_of_b : IsStatement false (array_from_input 48 (codes "b")) second_array
array_of_b =
    split 13
    (split 7 (refl, then_here (split 1 (inl last) (then_sign (then_sign (then_one (then_sign last))))))
    (then_here (then_nothing (then_sign (then_here (then_sign (then_one last)))))))
    last

-- publish("dot", declassify(sum(a * b)));
products_published : IsStatement false (sum_published 1 16 27 (codes "dot") (a_and_b 31 Multiply)) products
products_published =
    split 14
    (then_here (then_sign (then_one (then_sign
    (split 9 (then_here (then_sign (split 6 (then_here (then_sign (split 3 (split 3 (lit≤ tt, refl, then_here (then_sign refl)) refl) last))) last)))
    last)))))
    last

-- publish("less", declassify(sum((uint64)(a < b))));
comparisons_published : IsStatement false (sum_published 41 57 68 (codes "less") (cast (at 3 72) Uint64 (parentheses (at 3 80) (a_and_b 81 Less)))) comparisons
comparisons_published =
    split 19
    (then_here (then_sign (then_one (then_sign
    (split 14 (then_here (then_sign (split 11 (then_here (then_sign (split 8 (split 8
    (then_here (split 1 (inl last) (then_sign (then_here (split 3 (lit≤ tt, refl, then_here (then_sign refl)) last))))) refl) last))) last)))
    last)))))
    last

-- ---- the whole

main_spelled : IsItem (defines main_tree) (heading ++ first_array ++ second_array ++ products ++ comparisons ++ behind_main)
main_spelled =
    then_nothing (then_sign (then_here (then_sign (then_nothing (then_sign (then_here
    (split 63 (split 14 array_of_a (split 14 array_of_b (split 15 products_published (split 20 comparisons_published refl)))) last)))))))

pub load_spelled : IsProgram load_tree load_tokens
load_spelled = split 79 (split 3 stdlib_imported (split 3 shared3p_imported (split 4 domain_declared (split 69 main_spelled refl)))) refl
