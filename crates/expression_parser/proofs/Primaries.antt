-- The readings of primaries: what no operator, cast or index stands in outside brackets.
use Rattle.std.proofs.Common.{◌≡◌, ℕ, suc, ◌≤◌, List, [], ◌∷◌, ◌++◌, ◌⊎◌, inl, inr, refl, sym, ap, ◌∙◌, subst, append-nil, Ok, Some, None, arith}
use Rattle.std.proofs.Common.{Bool, true, false}
use Rattle.sc_text.specs.declared.span.Span.{Span}
use Rattle.secrec_lexer.specs.Tokens.{is_sign, is_end, IsEnded}
use Rattle.secrec_lexer.specs.declared.sign.Sign.{Sign}
use Rattle.secrec_lexer.specs.declared.sign.Sign.TheVariants as signs
use Rattle.secrec_lexer.specs.declared.token.TokenKind.{TokenKind}
use Rattle.secrec_lexer.specs.declared.token.TokenKind.TheVariants as kinds
use Rattle.secrec_lexer.specs.declared.token.Token.{Token}
use Rattle.program_trees.specs.Tree.{Tree, Trees, number, truth, variable, call, index, parentheses, negation, cast, binary, declassify, argument, publish}
use Rattle.program_trees.specs.Heights.{height}
use Rattle.expression_parser.specs.declared.problem.ParseProblem.TheVariants.{Unexpected}
use Rattle.expression_parser.specs.Phrases.{Phrase, token, one_at, one, sign_at, sign, ◌then◌}
use Rattle.expression_parser.specs.Grammar.{IsPrimary, IsExpression, AreArguments, loosest, unary}
use Rattle.expression_parser.specs.Follow.{Free}
use Rattle.expression_parser.specs.Steps.{Outcome, ◌>>=◌, expect, text, least, why_not, after_name, parentheses_behind, declassify_behind}
use Rattle.expression_parser.specs.Steps.{argument_behind, publish_behind, signed, primary, primary_at}
use Rattle.expression_parser.proofs.Reading.{Bad, Reads, Then, Only, Stops, pure_reads, reads_as}
use Rattle.expression_parser.proofs.Tokens.{Any, Alive, origin, choose, any_stops, ended_cons, head_kind, is_sign-true, is_sign-false, token_then}
use Rattle.expression_parser.proofs.Tokens.{sign_then, text_then, Closing, closing, closes, closing_is, is_closing}
use Rattle.expression_parser.proofs.Nodes.{Low, start_fits, Enclosed, enclosed_is, is_enclosed, enclosed_reads, enclosed_alive}
use Rattle.expression_parser.proofs.Arguments.{FreeName, NamePhrase, name_cases, variable_named, call_named, name_reads}

abbrev pub Primary : Tree → Phrase
Primary c ts = IsPrimary c × IsExpression unary c ts

-- the token that a primary begins with
abbrev pub first_kind : Tree → TokenKind
first_kind (number p n) = kinds.Number n
first_kind (truth p true) = kinds.Sign signs.True
first_kind (truth p false) = kinds.Sign signs.False
first_kind (variable p x) = kinds.Name x
first_kind (call p x es) = kinds.Name x
first_kind (index p a i) = kinds.End
first_kind (parentheses p e) = kinds.Sign signs.LeftParenthesis
first_kind (negation p e) = kinds.End
first_kind (cast p t e) = kinds.End
first_kind (binary p op a b) = kinds.End
first_kind (declassify p e) = kinds.Sign signs.Declassify
first_kind (argument p x) = kinds.Sign signs.Argument
first_kind (publish p x e) = kinds.Sign signs.Publish

head_of : (c : Tree) (s : List Token) → Primary c s → (p : Span) × (t : List Token) × (s ≡ token p (first_kind c) ∷ t)
head_of (number p n) s v = (p, [], v.1)
head_of (truth p true) s v = (p, [], v.1)
head_of (truth p false) s v = (p, [], v.1)
head_of (variable p x) s v = (p, [], v.1)
head_of (call p x es) s v = let w = v.1 in (p, w.1, w.2 ∙ ap (λ l. l ++ w.1) w.3)
head_of (index p a i) s v = absurd v.0
head_of (parentheses p e) s v = let w = v.1 in (p, w.1, w.2 ∙ ap (λ l. l ++ w.1) w.3)
head_of (negation p e) s v = absurd v.0
head_of (cast p t e) s v = absurd v.0
head_of (binary p op a b) s v = absurd v.0
head_of (declassify p e) s v = let w = v.1 in (p, w.1, w.2 ∙ ap (λ l. l ++ w.1) w.3)
head_of (argument p x) s v = let w = v.1 in (p, w.1, w.2 ∙ ap (λ l. l ++ w.1) w.3)
head_of (publish p x e) s v = let w = v.1 in (p, w.1, w.2 ∙ ap (λ l. l ++ w.1) w.3)

-- the next token is the one that the primary begins with
pub headed : (c : Tree) (s m m2 : List Token) (x : Token) → Primary c s → s ++ m ≡ x ∷ m2 → first_kind c ≡ x.kind
headed c s m m2 x v eq = let h = head_of c s v in head_kind s h.1 m m2 h.0 (first_kind c) x h.2 eq

-- what a sign or keyword goes on to
ParenthesesPhrase : Tree → Phrase
ParenthesesPhrase = Then (λ p. sign_at p signs.LeftParenthesis) (λ p. Enclosed signs.RightParenthesis (parentheses p))

parentheses_up : (c : Tree) (s : List Token) → ParenthesesPhrase c s → Primary c s
unfolding ParenthesesPhrase
parentheses_up c s v =
    let b = enclosed_is signs.RightParenthesis (parentheses v.0) c v.2 v.5 in
    subst (λ z. Primary z s) (sym b.1) (tt, (v.1, v.2, v.3, v.4, b.2))

parentheses_here : (p : Span) (e : Tree) (s : List Token) → Primary (parentheses p e) s → ParenthesesPhrase (parentheses p e) s
unfolding ParenthesesPhrase
parentheses_here p e s v =
    let w = v.1 in
    (p, w.0, w.1, w.2, w.3, is_enclosed signs.RightParenthesis (parentheses p) e w.1 w.4)

parentheses_down : (c : Tree) (s : List Token) → Primary c s → first_kind c ≡ kinds.Sign signs.LeftParenthesis → ParenthesesPhrase c s
parentheses_down (parentheses p e) s v k = parentheses_here p e s v
parentheses_down (truth p true) s v k = cc
parentheses_down (truth p false) s v k = cc
parentheses_down c s v k = cc

DeclassifyPhrase : Tree → Phrase
DeclassifyPhrase = Then (λ p. sign_at p signs.Declassify)
    (λ p. Then (λ q. sign_at q signs.LeftParenthesis) (λ q. Enclosed signs.RightParenthesis (declassify p)))

declassify_up : (c : Tree) (s : List Token) → DeclassifyPhrase c s → Primary c s
unfolding DeclassifyPhrase
declassify_up c s v =
    let w = v.5 in
    let b = enclosed_is signs.RightParenthesis (declassify v.0) c w.2 w.5 in
    subst (λ z. Primary z s) (sym b.1) (tt, (v.1, v.2, v.3, v.4, (w.1, w.2, w.3, (w.0, w.4), b.2)))

declassify_here : (p : Span) (e : Tree) (s : List Token) → Primary (declassify p e) s → DeclassifyPhrase (declassify p e) s
unfolding DeclassifyPhrase
declassify_here p e s v =
    let w = v.1 in
    let u = w.4 in
    (p, w.0, w.1, w.2, w.3, (u.3.0, u.0, u.1, u.2, u.3.1, is_enclosed signs.RightParenthesis (declassify p) e u.1 u.4))

declassify_down : (c : Tree) (s : List Token) → Primary c s → first_kind c ≡ kinds.Sign signs.Declassify → DeclassifyPhrase c s
declassify_down (declassify p e) s v k = declassify_here p e s v
declassify_down (truth p true) s v k = cc
declassify_down (truth p false) s v k = cc
declassify_down c s v k = cc

-- a string, a closing parenthesis, and the argument of that name
ArgumentBody : Span → Tree → Phrase
ArgumentBody p = Then (λ bytes. one (kinds.Text bytes)) (λ bytes. Closing signs.RightParenthesis (argument p bytes))

ArgumentPhrase : Tree → Phrase
ArgumentPhrase = Then (λ p. sign_at p signs.Argument) (λ p. Then (λ q. sign_at q signs.LeftParenthesis) (λ q. ArgumentBody p))

argument_up : (c : Tree) (s : List Token) → ArgumentPhrase c s → Primary c s
unfolding ArgumentPhrase ArgumentBody
argument_up c s v =
    let w = v.5 in
    let u = w.5 in
    let b = closing_is signs.RightParenthesis (argument v.0 u.0) c u.2 u.5 in
    subst (λ z. Primary z s) (sym b.0) (tt, (v.1, v.2, v.3, v.4, (w.1, w.2, w.3, (w.0, w.4), (u.1, u.2, u.3, u.4, b.1))))

argument_here : (p : Span) (x : List ℕ) (s : List Token) → Primary (argument p x) s → ArgumentPhrase (argument p x) s
unfolding ArgumentPhrase ArgumentBody
argument_here p x s v =
    let w = v.1 in
    let u = w.4 in
    let t = u.4 in
    (p, w.0, w.1, w.2, w.3, (u.3.0, u.0, u.1, u.2, u.3.1, (x, t.0, t.1, t.2, t.3, is_closing signs.RightParenthesis (argument p x) t.1 t.4)))

argument_down : (c : Tree) (s : List Token) → Primary c s → first_kind c ≡ kinds.Sign signs.Argument → ArgumentPhrase c s
argument_down (argument p x) s v k = argument_here p x s v
argument_down (truth p true) s v k = cc
argument_down (truth p false) s v k = cc
argument_down c s v k = cc

-- a string, a comma, and what is published under that name
PublishBody : Span → Tree → Phrase
PublishBody p = Then (λ bytes. one (kinds.Text bytes)) (λ bytes. Then (λ q. sign_at q signs.Comma) (λ q. Enclosed signs.RightParenthesis (publish p bytes)))

PublishPhrase : Tree → Phrase
PublishPhrase = Then (λ p. sign_at p signs.Publish) (λ p. Then (λ q. sign_at q signs.LeftParenthesis) (λ q. PublishBody p))

publish_up : (c : Tree) (s : List Token) → PublishPhrase c s → Primary c s
unfolding PublishPhrase PublishBody
publish_up c s v =
    let w = v.5 in
    let u = w.5 in
    let t = u.5 in
    let b = enclosed_is signs.RightParenthesis (publish v.0 u.0) c t.2 t.5 in
    subst (λ z. Primary z s) (sym b.1) (tt, (v.1, v.2, v.3, v.4, (w.1, w.2, w.3, (w.0, w.4), (u.1, u.2, u.3, u.4, (t.1, t.2, t.3, (t.0, t.4), b.2)))))

publish_here : (p : Span) (x : List ℕ) (e : Tree) (s : List Token) → Primary (publish p x e) s → PublishPhrase (publish p x e) s
unfolding PublishPhrase PublishBody
publish_here p x e s v =
    let w = v.1 in
    let u = w.4 in
    let t = u.4 in
    let r = t.4 in (
      p,
      w.0,
      w.1,
      w.2,
      w.3,
      (
        u.3.0,
        u.0,
        u.1,
        u.2,
        u.3.1,
        (x, t.0, t.1, t.2, t.3, (r.3.0, r.0, r.1, r.2, r.3.1, is_enclosed signs.RightParenthesis (publish p x) e r.1 r.4)),
      ),
    )

publish_down : (c : Tree) (s : List Token) → Primary c s → first_kind c ≡ kinds.Sign signs.Publish → PublishPhrase c s
publish_down (publish p x e) s v k = publish_here p x e s v
publish_down (truth p true) s v k = cc
publish_down (truth p false) s v k = cc
publish_down c s v k = cc

TruthPhrase : Bool → Sign → Tree → Phrase
TruthPhrase b s = Then (λ p. sign_at p s) (λ p. Only (truth p b))

true_up : (c : Tree) (s : List Token) → TruthPhrase true signs.True c s → Primary c s
unfolding TruthPhrase
true_up c s v =
    subst (λ z. Primary z s) (sym v.5.0) (tt, v.3 ∙ ap (λ l. l ++ v.2) v.4 ∙ ap (λ l. token v.0 (kinds.Sign signs.True) ∷ l) v.5.1)

true_down : (c : Tree) (s : List Token) → Primary c s → first_kind c ≡ kinds.Sign signs.True → TruthPhrase true signs.True c s
unfolding TruthPhrase
true_down (truth p true) s v k = (p, s, [], sym (append-nil s), v.1, (refl, refl))
true_down (truth p false) s v k = cc
true_down c s v k = cc

false_up : (c : Tree) (s : List Token) → TruthPhrase false signs.False c s → Primary c s
unfolding TruthPhrase
false_up c s v =
    subst (λ z. Primary z s) (sym v.5.0) (tt, v.3 ∙ ap (λ l. l ++ v.2) v.4 ∙ ap (λ l. token v.0 (kinds.Sign signs.False) ∷ l) v.5.1)

false_down : (c : Tree) (s : List Token) → Primary c s → first_kind c ≡ kinds.Sign signs.False → TruthPhrase false signs.False c s
unfolding TruthPhrase
false_down (truth p false) s v k = (p, s, [], sym (append-nil s), v.1, (refl, refl))
false_down (truth p true) s v k = cc
false_down c s v k = cc

NumberPhrase : ℕ → Tree → Phrase
NumberPhrase n = Then (λ p. one_at p (kinds.Number n)) (λ p. Only (number p n))

number_up : (n : ℕ) (c : Tree) (s : List Token) → NumberPhrase n c s → Primary c s
unfolding NumberPhrase
number_up n c s v =
    subst (λ z. Primary z s) (sym v.5.0) (tt, v.3 ∙ ap (λ l. l ++ v.2) v.4 ∙ ap (λ l. token v.0 (kinds.Number n) ∷ l) v.5.1)

number_down : (n : ℕ) (c : Tree) (s : List Token) → Primary c s → first_kind c ≡ kinds.Number n → NumberPhrase n c s
unfolding NumberPhrase
number_down n (number p i) s v k =
    let same : i ≡ n = cc in
    (p, s, [], sym (append-nil s), v.1 ∙ ap (λ z. token p (kinds.Number z) ∷ []) same, (ap (number p) same, refl))
number_down n (truth p true) s v k = cc
number_down n (truth p false) s v k = cc
number_down n c s v k = cc

-- With room for h below a node, where `inner` reads expressions of at most that height.
module _ (h : ℕ) (inner operand : List Token → Outcome Tree)
    (reads_inner : (w : List Token) → IsEnded w → Reads (IsExpression loosest) (Low h) (Free loosest) w (inner w))
    (reads_operand : (w : List Token) → IsEnded w → Reads (IsExpression unary) (Low h) (Free unary) w (operand w))
  where
    name_up : (bytes : List ℕ) (c : Tree) (s : List Token) → NamePhrase h inner reads_inner bytes c s → Primary c s
    name_up bytes c s v = go (name_cases h inner reads_inner bytes c s v)
      where
        go : ((p : Span) × (c ≡ variable p bytes) × one_at p (kinds.Name bytes) s)
            ⊎ ((p : Span) × (es : Trees) × (c ≡ call p bytes es)
            × (one_at p (kinds.Name bytes) then sign signs.LeftParenthesis then AreArguments es then sign signs.RightParenthesis) s) → Primary c s
        go (inl u) = subst (λ z. Primary z s) (sym u.1) (tt, u.2)
        go (inr u) = subst (λ z. Primary z s) (sym u.2) (tt, u.3)

    name_down : (bytes : List ℕ) (c : Tree) (s : List Token) → Primary c s → first_kind c ≡ kinds.Name bytes → NamePhrase h inner reads_inner bytes c s
    name_down bytes (variable p x) s v k =
        let same : x ≡ bytes = cc in
        subst (λ z. NamePhrase h inner reads_inner z (variable p x) s) same (variable_named h inner reads_inner p x s v.1)
    name_down bytes (call p x es) s v k =
        let same : x ≡ bytes = cc in
        subst (λ z. NamePhrase h inner reads_inner z (call p x es) s) same (call_named h inner reads_inner p x es s v.1)
    name_down bytes (truth p true) s v k = cc
    name_down bytes (truth p false) s v k = cc
    name_down bytes c s v k = cc

    -- what a sign or keyword begins, where `up` and `down` say that it is that primary
    under : (V : Tree → Phrase) (kind : TokenKind) (F : Tree → Token → Type 0) → ((c : Tree) (m : List Token) → Stops (FreeName c) m → Stops (F c) m)
        → ((c : Tree) (s : List Token) → V c s → Primary c s) → ((c : Tree) (s : List Token) → Primary c s → first_kind c ≡ kind → V c s)
        → (x : Token) (m : List Token) (o : Outcome Tree) → x.kind ≡ kind → Reads V (Low (suc h)) F (x ∷ m) o → Reads Primary (Low (suc h)) FreeName (x ∷ m) o
    under V kind F stop up down x m o k r =
        reads_as V Primary (Low (suc h)) F FreeName x up (λ c s m' m2 v st eq. down c s v (headed c s m' m2 x v eq ∙ k)) stop (x ∷ m) m o refl r

    under_sign : (V : Tree → Phrase) (kind : TokenKind) → ((c : Tree) (s : List Token) → V c s → Primary c s)
        → ((c : Tree) (s : List Token) → Primary c s → first_kind c ≡ kind → V c s) → (x : Token) (m : List Token) (o : Outcome Tree) → x.kind ≡ kind
        → Reads V (Low (suc h)) Any (x ∷ m) o → Reads Primary (Low (suc h)) FreeName (x ∷ m) o
    under_sign V kind = under V kind Any (λ c m st. any_stops (FreeName c) [] m st)

    parentheses_reads : 1 ≤ h → (x : Token) (m : List Token) → x.kind ≡ kinds.Sign signs.LeftParenthesis → IsEnded (x ∷ m)
        → Reads Primary (Low (suc h)) FreeName (x ∷ m) (parentheses_behind inner x.place m)
    unfolding ParenthesesPhrase
    parentheses_reads max_height x m k en =
        under_sign ParenthesesPhrase (kinds.Sign signs.LeftParenthesis) parentheses_up parentheses_down x m (parentheses_behind inner x.place m) k
        (token_then (kinds.Sign signs.LeftParenthesis) (λ p. Enclosed signs.RightParenthesis (parentheses p)) (Low (suc h)) Any refl
        (λ p. enclosed_alive h inner operand reads_inner reads_operand signs.RightParenthesis (parentheses p) max_height (λ e f. omega arith))
        x m (parentheses_behind inner x.place m) k en
        (λ en2. enclosed_reads h inner operand reads_inner reads_operand signs.RightParenthesis (parentheses x.place) refl (λ e f. omega arith)
        (λ e f. omega arith) m en2))

    declassify_reads : 1 ≤ h → (x : Token) (m : List Token) → x.kind ≡ kinds.Sign signs.Declassify → IsEnded (x ∷ m)
        → Reads Primary (Low (suc h)) FreeName (x ∷ m) (declassify_behind inner x.place m)
    unfolding DeclassifyPhrase
    declassify_reads max_height x m k en =
        let start = token origin (kinds.Sign signs.LeftParenthesis) in
        let alive = λ (p : Span). enclosed_alive h inner operand reads_inner reads_operand signs.RightParenthesis (declassify p) max_height
        (λ e f. omega arith) in
        under_sign DeclassifyPhrase (kinds.Sign signs.Declassify) declassify_up declassify_down x m (declassify_behind inner x.place m) k
        (token_then (kinds.Sign signs.Declassify)
        (λ p. Then (λ q. sign_at q signs.LeftParenthesis) (λ q. Enclosed signs.RightParenthesis (declassify p))) (Low (suc h)) Any refl
        (λ p. let a = alive p in (a.0, start ∷ a.1, (origin, start ∷ [], a.1, refl, refl, a.2), a.3))
        x m (declassify_behind inner x.place m) k en
        (λ en2. sign_then signs.LeftParenthesis (Enclosed signs.RightParenthesis (declassify x.place)) (Low (suc h)) Any (alive x.place) m
        (λ o. inner o.1 >>= λ e. expect signs.RightParenthesis e.1 >>= λ q. Ok (declassify x.place e.0, q.1)) en2
        (λ p r enr. enclosed_reads h inner operand reads_inner reads_operand signs.RightParenthesis (declassify x.place) refl (λ e f. omega arith)
        (λ e f. omega arith) r enr)))

    argument_body_alive : (p : Span) → Alive (ArgumentBody p) (Low (suc h))
    unfolding ArgumentBody
    argument_body_alive p =
        let name = token origin (kinds.Text []) in
        let close = token origin (kinds.Sign signs.RightParenthesis) in
        (argument p [], name ∷ close ∷ [], ([], name ∷ [], close ∷ [], refl, (origin, refl), closes signs.RightParenthesis (argument p [])), omega arith)

    argument_body_reads : (p : Span) (w : List Token) → IsEnded w
        → Reads (ArgumentBody p) (Low (suc h)) Any w (text w >>= λ t. expect signs.RightParenthesis t.1 >>= λ q. Ok (argument p t.0, q.1))
    unfolding ArgumentBody
    argument_body_reads p w en =
        text_then (λ bytes. Closing signs.RightParenthesis (argument p bytes)) (Low (suc h)) Any
        (λ bytes. (argument p bytes, token origin (kinds.Sign signs.RightParenthesis) ∷ [], closes signs.RightParenthesis (argument p bytes), omega arith))
        w (λ t. expect signs.RightParenthesis t.1 >>= λ q. Ok (argument p t.0, q.1)) en
        (λ bytes r enr. closing signs.RightParenthesis (Low (suc h)) (argument p bytes) (omega arith) r enr)

    argument_reads : (x : Token) (m : List Token) → x.kind ≡ kinds.Sign signs.Argument → IsEnded (x ∷ m)
        → Reads Primary (Low (suc h)) FreeName (x ∷ m) (argument_behind x.place m)
    unfolding ArgumentPhrase
    argument_reads x m k en =
        let start = token origin (kinds.Sign signs.LeftParenthesis) in
        under_sign ArgumentPhrase (kinds.Sign signs.Argument) argument_up argument_down x m (argument_behind x.place m) k
        (token_then (kinds.Sign signs.Argument) (λ p. Then (λ q. sign_at q signs.LeftParenthesis) (λ q. ArgumentBody p)) (Low (suc h)) Any refl
        (λ p. let a = argument_body_alive p in (a.0, start ∷ a.1, (origin, start ∷ [], a.1, refl, refl, a.2), a.3))
        x m (argument_behind x.place m) k en
        (λ en2. sign_then signs.LeftParenthesis (ArgumentBody x.place) (Low (suc h)) Any (argument_body_alive x.place) m
        (λ o. text o.1 >>= λ t. expect signs.RightParenthesis t.1 >>= λ q. Ok (argument x.place t.0, q.1)) en2
        (λ p r enr. argument_body_reads x.place r enr)))

    publish_comma_alive : 1 ≤ h → (p : Span) (bytes : List ℕ)
        → Alive (Then (λ q. sign_at q signs.Comma) (λ q. Enclosed signs.RightParenthesis (publish p bytes))) (Low (suc h))
    publish_comma_alive max_height p bytes =
        let comma = token origin (kinds.Sign signs.Comma) in
        let a = enclosed_alive h inner operand reads_inner reads_operand signs.RightParenthesis (publish p bytes) max_height (λ e f. omega arith) in
        (a.0, comma ∷ a.1, (origin, comma ∷ [], a.1, refl, refl, a.2), a.3)

    publish_body_alive : 1 ≤ h → (p : Span) → Alive (PublishBody p) (Low (suc h))
    unfolding PublishBody
    publish_body_alive max_height p =
        let name = token origin (kinds.Text []) in
        let a = publish_comma_alive max_height p [] in
        (a.0, name ∷ a.1, ([], name ∷ [], a.1, refl, (origin, refl), a.2), a.3)

    publish_body_reads : 1 ≤ h → (p : Span) (w : List Token) → IsEnded w
        → Reads (PublishBody p) (Low (suc h)) Any w
        (text w >>= λ t. expect signs.Comma t.1 >>= λ c. inner c.1 >>= λ e. expect signs.RightParenthesis e.1 >>= λ q. Ok (publish p t.0 e.0, q.1))
    unfolding PublishBody
    publish_body_reads max_height p w en =
        text_then (λ bytes. Then (λ q. sign_at q signs.Comma) (λ q. Enclosed signs.RightParenthesis (publish p bytes))) (Low (suc h)) Any
        (publish_comma_alive max_height p) w
        (λ t. expect signs.Comma t.1 >>= λ c. inner c.1 >>= λ e. expect signs.RightParenthesis e.1 >>= λ q. Ok (publish p t.0 e.0, q.1)) en
        (λ bytes r enr. sign_then signs.Comma (Enclosed signs.RightParenthesis (publish p bytes)) (Low (suc h)) Any
        (enclosed_alive h inner operand reads_inner reads_operand signs.RightParenthesis (publish p bytes) max_height (λ e f. omega arith)) r
        (λ c. inner c.1 >>= λ e. expect signs.RightParenthesis e.1 >>= λ q. Ok (publish p bytes e.0, q.1)) enr
        (λ q r2 enr2. enclosed_reads h inner operand reads_inner reads_operand signs.RightParenthesis (publish p bytes) refl (λ e f. omega arith)
        (λ e f. omega arith) r2 enr2))

    publish_reads : 1 ≤ h → (x : Token) (m : List Token) → x.kind ≡ kinds.Sign signs.Publish → IsEnded (x ∷ m)
        → Reads Primary (Low (suc h)) FreeName (x ∷ m) (publish_behind inner x.place m)
    unfolding PublishPhrase
    publish_reads max_height x m k en =
        let start = token origin (kinds.Sign signs.LeftParenthesis) in
        under_sign PublishPhrase (kinds.Sign signs.Publish) publish_up publish_down x m (publish_behind inner x.place m) k
        (token_then (kinds.Sign signs.Publish) (λ p. Then (λ q. sign_at q signs.LeftParenthesis) (λ q. PublishBody p)) (Low (suc h)) Any refl
        (λ p. let a = publish_body_alive max_height p in (a.0, start ∷ a.1, (origin, start ∷ [], a.1, refl, refl, a.2), a.3))
        x m (publish_behind inner x.place m) k en
        (λ en2. sign_then signs.LeftParenthesis (PublishBody x.place) (Low (suc h)) Any (publish_body_alive max_height x.place) m
        (λ o. text o.1 >>= λ t. expect signs.Comma t.1 >>= λ c. inner c.1 >>= λ e. expect signs.RightParenthesis e.1 >>= λ q. Ok
        (publish x.place t.0 e.0, q.1)) en2
        (λ p r enr. publish_body_reads max_height x.place r enr)))

    -- a token that is a leaf
    leaf_reads : (V : Tree → Phrase) (kind : TokenKind) (f : Span → Tree) → V ≡ Then (λ p. one_at p kind) (λ p. Only (f p)) → is_end kind ≡ false
        → ((p : Span) → height (f p) ≡ 1) → ((c : Tree) (s : List Token) → V c s → Primary c s)
        → ((c : Tree) (s : List Token) → Primary c s → first_kind c ≡ kind → V c s) → (x : Token) (m : List Token) → x.kind ≡ kind → IsEnded (x ∷ m)
        → Reads Primary (Low (suc h)) FreeName (x ∷ m) (Ok (f x.place, m))
    leaf_reads V kind f same some one_high up down x m k en =
        under_sign V kind up down x m (Ok (f x.place, m)) k
        (subst (λ (W : Tree → Phrase). Reads W (Low (suc h)) Any (x ∷ m) (Ok (f x.place, m))) (sym same)
        (token_then kind (λ p. Only (f p)) (Low (suc h)) Any some
        (λ p. let e = one_high p in (f p, [], (refl, refl), omega arith))
        x m (Ok (f x.place, m)) k en
        (λ en2. let d = ended_cons m en2 in let e = one_high x.place in pure_reads (Low (suc h)) Any m d.0 d.1 (f x.place) d.2 (omega arith))))

    number_reads : (n : ℕ) (x : Token) (m : List Token) → x.kind ≡ kinds.Number n → IsEnded (x ∷ m)
        → Reads Primary (Low (suc h)) FreeName (x ∷ m) (Ok (number x.place n, m))
    unfolding NumberPhrase
    number_reads n = leaf_reads (NumberPhrase n) (kinds.Number n) (λ p. number p n) refl refl (λ p. refl) (number_up n) (number_down n)

    true_reads : (x : Token) (m : List Token) → x.kind ≡ kinds.Sign signs.True → IsEnded (x ∷ m)
        → Reads Primary (Low (suc h)) FreeName (x ∷ m) (Ok (truth x.place true, m))
    unfolding TruthPhrase
    true_reads = leaf_reads (TruthPhrase true signs.True) (kinds.Sign signs.True) (λ p. truth p true) refl refl (λ p. refl) true_up true_down

    false_reads : (x : Token) (m : List Token) → x.kind ≡ kinds.Sign signs.False → IsEnded (x ∷ m)
        → Reads Primary (Low (suc h)) FreeName (x ∷ m) (Ok (truth x.place false, m))
    unfolding TruthPhrase
    false_reads = leaf_reads (TruthPhrase false signs.False) (kinds.Sign signs.False) (λ p. truth p false) refl refl (λ p. refl) false_up false_down

    name_primary : (bytes : List ℕ) (x : Token) (m : List Token) → x.kind ≡ kinds.Name bytes → IsEnded (x ∷ m)
        → Reads Primary (Low (suc h)) FreeName (x ∷ m) (after_name inner x.place bytes m)
    name_primary bytes x m k en =
        under (NamePhrase h inner reads_inner bytes) (kinds.Name bytes) FreeName (λ c m' st. st) (name_up bytes) (name_down bytes) x m
        (after_name inner x.place bytes m) k (name_reads h inner reads_inner bytes x m k en)

    -- no primary begins so
    no_primary : (x : Token) (m : List Token) → ((c : Tree) → first_kind c ≡ x.kind → IsPrimary c → ⊥)
        → Bad Primary (Low (suc h)) FreeName (x ∷ m) Unexpected (x ∷ m)
    no_primary x m other = record {
      s = [];
      x = x;
      m = m;
      split = refl;
      rest = refl;
      before = inl refl;
      never = λ c s' m' m2 v al st eq. other c (headed c s' m' m2 x v eq) v.0;
      begun = tt;
    }

    one_fits : (s : Sign) (x : Token) → x.kind ≡ kinds.Sign s → least (kinds.Sign s) ≡ Some 2 → why_not (suc h) (least x.kind) ≡ None → 1 ≤ h
    one_fits s x k two fits =
        let f = start_fits (suc h) (least x.kind) fits in
        let g : Some 2 ≡ Some f.0 = sym two ∙ ap least (sym k) ∙ f.1 in
        let same : 2 ≡ f.0 = cc in
        let low = f.2 in
        omega arith

    -- a sign or keyword that begins none
    not_signed : (s : Sign) (x : Token) → x.kind ≡ kinds.Sign s → (x.kind ≡ kinds.Sign signs.True → ⊥) → (x.kind ≡ kinds.Sign signs.False → ⊥)
        → (x.kind ≡ kinds.Sign signs.LeftParenthesis → ⊥) → (x.kind ≡ kinds.Sign signs.Declassify → ⊥) → (x.kind ≡ kinds.Sign signs.Argument → ⊥)
        → (x.kind ≡ kinds.Sign signs.Publish → ⊥) → (c : Tree) → first_kind c ≡ x.kind → IsPrimary c → ⊥
    not_signed s x k f1 f2 f3 f4 f5 f6 (truth p true) e v = f1 (sym e)
    not_signed s x k f1 f2 f3 f4 f5 f6 (truth p false) e v = f2 (sym e)
    not_signed s x k f1 f2 f3 f4 f5 f6 (parentheses p i) e v = f3 (sym e)
    not_signed s x k f1 f2 f3 f4 f5 f6 (declassify p i) e v = f4 (sym e)
    not_signed s x k f1 f2 f3 f4 f5 f6 (argument p i) e v = f5 (sym e)
    not_signed s x k f1 f2 f3 f4 f5 f6 (publish p i a) e v = f6 (sym e)
    not_signed s x k f1 f2 f3 f4 f5 f6 (number p n) e v = let g : kinds.Number n ≡ kinds.Sign s = e ∙ k in cc
    not_signed s x k f1 f2 f3 f4 f5 f6 (variable p i) e v = let g : kinds.Name i ≡ kinds.Sign s = e ∙ k in cc
    not_signed s x k f1 f2 f3 f4 f5 f6 (call p i es) e v = let g : kinds.Name i ≡ kinds.Sign s = e ∙ k in cc
    not_signed s x k f1 f2 f3 f4 f5 f6 (index p a i) e v = v
    not_signed s x k f1 f2 f3 f4 f5 f6 (negation p i) e v = v
    not_signed s x k f1 f2 f3 f4 f5 f6 (cast p t i) e v = v
    not_signed s x k f1 f2 f3 f4 f5 f6 (binary p op a b) e v = v

    signed_reads : (s : Sign) (x : Token) (m : List Token) → x.kind ≡ kinds.Sign s → why_not (suc h) (least x.kind) ≡ None → IsEnded (x ∷ m)
        → Reads Primary (Low (suc h)) FreeName (x ∷ m) (signed inner x m)
    unfolding signed
    signed_reads s x m k fits en =
        let choice = choose Primary (Low (suc h)) FreeName (x ∷ m) in
        let is = λ (s : Sign) (t : is_sign s x ≡ true). is_sign-true s x t in
        let isnt = λ (s : Sign) (t : is_sign s x ≡ false). is_sign-false s x t in
        choice (is_sign signs.True x) _ _ (λ t. true_reads x m (is signs.True t) en)
        (λ f1. choice (is_sign signs.False x) _ _ (λ t. false_reads x m (is signs.False t) en)
        (λ f2. choice (is_sign signs.LeftParenthesis x) _ _
        (λ t. let k2 = is signs.LeftParenthesis t in parentheses_reads (one_fits signs.LeftParenthesis x k2 refl fits) x m k2 en)
        (λ f3. choice (is_sign signs.Declassify x) _ _
        (λ t. let k2 = is signs.Declassify t in declassify_reads (one_fits signs.Declassify x k2 refl fits) x m k2 en)
        (λ f4. choice (is_sign signs.Argument x) _ _ (λ t. argument_reads x m (is signs.Argument t) en)
        (λ f5. choice (is_sign signs.Publish x) _ _ (λ t. let k2 = is signs.Publish t in publish_reads (one_fits signs.Publish x k2 refl fits) x m k2 en)
        (λ f6. no_primary x m (not_signed s x k (isnt signs.True f1) (isnt signs.False f2) (isnt signs.LeftParenthesis f3) (isnt signs.Declassify f4)
        (isnt signs.Argument f5) (isnt signs.Publish f6))))))))

    -- a token that is neither a sign nor a leaf
    not_text : (bytes : List ℕ) (x : Token) → x.kind ≡ kinds.Text bytes → (c : Tree) → first_kind c ≡ x.kind → IsPrimary c → ⊥
    not_text bytes x k (truth p true) e v = let g : kinds.Sign signs.True ≡ kinds.Text bytes = e ∙ k in cc
    not_text bytes x k (truth p false) e v = let g : kinds.Sign signs.False ≡ kinds.Text bytes = e ∙ k in cc
    not_text bytes x k c e v = let g : first_kind c ≡ kinds.Text bytes = e ∙ k in cc

    not_end : (x : Token) → x.kind ≡ kinds.End → (c : Tree) → first_kind c ≡ x.kind → IsPrimary c → ⊥
    not_end x k (truth p true) e v = let g : kinds.Sign signs.True ≡ kinds.End = e ∙ k in cc
    not_end x k (truth p false) e v = let g : kinds.Sign signs.False ≡ kinds.End = e ∙ k in cc
    not_end x k (index p a i) e v = v
    not_end x k (negation p i) e v = v
    not_end x k (cast p t i) e v = v
    not_end x k (binary p op a b) e v = v
    not_end x k c e v = let g : first_kind c ≡ kinds.End = e ∙ k in cc

    pub primary_reads : (x : Token) (m : List Token) → why_not (suc h) (least x.kind) ≡ None → IsEnded (x ∷ m)
        → Reads Primary (Low (suc h)) FreeName (x ∷ m) (primary inner (x ∷ m))
    unfolding primary
    primary_reads x m fits en = go x.kind refl
      where
        go : (kind : TokenKind) → x.kind ≡ kind → Reads Primary (Low (suc h)) FreeName (x ∷ m) (primary_at inner kind x m)
        go (kinds.Number n) k = number_reads n x m k en
        go (kinds.Name bytes) k = name_primary bytes x m k en
        go (kinds.Text bytes) k = no_primary x m (not_text bytes x k)
        go (kinds.Sign s) k = signed_reads s x m k fits en
        go kinds.End k = no_primary x m (not_end x k)
