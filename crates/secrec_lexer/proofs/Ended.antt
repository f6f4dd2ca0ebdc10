-- A list of tokens with the end of the text after it.
use Rattle.std.proofs.Common.{◌≡◌, List, [], ◌∷◌, ◌++◌, true}
use Rattle.std.specs.Prelude.{not}
use Rattle.std.specs.List.{list_all}
use Rattle.secrec_lexer.specs.declared.token.Token.{Token}
use Rattle.secrec_lexer.specs.Tokens.{is_end, IsEnded}
use Rattle.secrec_lexer.proofs.Choices.{and_left, and_right, and_both}

pub ended_behind : (tokens : List Token) (last : Token) → list_all (λ token. not (is_end token.kind)) tokens ≡ true → is_end last.kind ≡ true
    → IsEnded (tokens ++ last ∷ [])
ended_behind [] last h e = e
ended_behind (token ∷ []) last h e = and_both (not (is_end token.kind)) (is_end last.kind) (and_left (not (is_end token.kind)) true h) e
ended_behind (token ∷ next ∷ more) last h e =
    let others = and_right (not (is_end token.kind)) (list_all (λ t. not (is_end t.kind)) (next ∷ more)) h in
    and_both (not (is_end token.kind)) _ (and_left (not (is_end token.kind)) _ h) (ended_behind (next ∷ more) last others e)
