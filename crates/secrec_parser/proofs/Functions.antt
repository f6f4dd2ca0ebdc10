-- Readings of functions.
use Rattle.std.proofs.Common.{◌≡◌, ℕ, ◌+◌, ◌≤◌, List, [], ◌∷◌, ◌++◌, ◌⊎◌, inl, inr, refl, sym, ap, ◌∙◌, subst, Ok, Bool, true, false, cond, Option}
use Rattle.std.proofs.Common.{Some, None, length, length-append, arith}
use Rattle.std.specs.Prelude.{◌&&◌, not, nat_lt}
use Rattle.std.proofs.lemmas.Bool.{ltb-true, ltb-false}
use Rattle.sc_text.specs.declared.span.Span.{Span}
use Rattle.secrec_lexer.specs.declared.sign.Sign.{Sign}
use Rattle.secrec_lexer.specs.declared.sign.Sign.TheVariants as signs
use Rattle.secrec_lexer.specs.declared.token.TokenKind.{TokenKind}
use Rattle.secrec_lexer.specs.declared.token.TokenKind.TheVariants as kinds
use Rattle.secrec_lexer.specs.declared.token.Token.{Token}
use Rattle.secrec_lexer.specs.Tokens.{is_sign, IsEnded}
use Rattle.program_trees.specs.declared.statement.Identifier.{Identifier}
use Rattle.program_trees.specs.declared.expression.DataType.TheVariants as types
use Rattle.program_trees.specs.declared.statement.Domain.TheVariants as domains
use Rattle.program_trees.specs.declared.statement.DeclaredType.{DeclaredType}
use Rattle.program_trees.specs.declared.function.DomainVariable.{DomainVariable}
use Rattle.program_trees.specs.declared.function.Parameter.{Parameter}
use Rattle.program_trees.specs.declared.function.ResultType.{ResultType}
use Rattle.program_trees.specs.declared.function.ResultType.TheVariants as results
use Rattle.program_trees.specs.Statements.{StatementTree, StatementTrees, statements_of}
use Rattle.program_trees.specs.Statements as statements
use Rattle.program_trees.specs.Programs.{BlockTree, FunctionTree}
use Rattle.program_trees.specs.Heights.{statement_heights, function_height}
use Rattle.expression_parser.specs.Phrases.{Phrase, token, sign_at, sign, ◌then◌}
use Rattle.expression_parser.specs.Steps.{Outcome, ◌>>=◌, expect}
use Rattle.expression_parser.specs.Steps as expressions
use Rattle.expression_parser.proofs.Reading.{Reads, Stops, reads_as}
use Rattle.expression_parser.proofs.Tokens.{Any, All, origin, any_stops, good_ended, head_kind, is_sign-true, is_sign-false, sign_reads}
use Rattle.secrec_parser.specs.Grammar.{identifier, optional, comma_and, AreAll, IsType, AreStatements, IsDomainVariable, IsTemplate, IsResult}
use Rattle.secrec_parser.specs.Grammar.{IsParameter, AreParameters, IsBlock, IsFunction}
use Rattle.secrec_parser.specs.Grammar as grammar
use Rattle.secrec_parser.specs.inner.Steps.{at_sign, listed, comma_then, no_more_variables, no_comma, declared_type, domain_variable, template}
use Rattle.secrec_parser.specs.inner.Steps.{result_type, parameter, parameters, parameter_list, body, function_step, braced, statement_at_most}
use Rattle.secrec_parser.specs.inner.Steps as steps
use Rattle.secrec_parser.proofs.Made.{Made, Both, reads_same, seq, made, sign_seq, sign_end}
use Rattle.secrec_parser.proofs.Heads.{nothing_reads, some_reads, none_reads}
use Rattle.secrec_parser.proofs.TypeReadings.{NoBracket, lone, type_reads, identifier_reads}
use Rattle.secrec_parser.proofs.Declarations.{bind_bind, clash, sign_head, sign_first, last_sign_first, some_name, name_token}
use Rattle.secrec_parser.proofs.Lists.{listed_reads}
use Rattle.secrec_parser.proofs.Leaders.{begins_type, declared_kind, front}
use Rattle.secrec_parser.proofs.Headings.{then_left, then_right, then_map}
use Rattle.secrec_parser.proofs.Bodies.{listed_of, of_list, LowStatements, braced_reads}
use Rattle.secrec_parser.proofs.HeightLimits.{statement_reads}

-- the same value
abbrev pub Same : {C : Type 0} → (C → Phrase) → C → Phrase
Same {C = C} W = Made (λ (c : C). c) W

pub same_reads : {C : Type 0} (W : C → Phrase) (Fits : C → Type 0) (F : C → Token → Type 0) (w : List Token) (o : Outcome C) → Reads W Fits F w o
    → Reads (Same W) Fits F w o
same_reads W Fits F w o r =
    reads_same W (Same W) Fits F F (λ c s v. (c, refl, v)) (λ c s v. subst (λ z. W z s) (sym v.1) v.2) (λ c m st. st) w o r

-- a sign, and then a part, whose value it is
pub sign_and : {C : Type 0} (s : Sign) (W : C → Phrase) (Fits : C → Type 0) (F : C → Token → Type 0) (step : List Token → Outcome C)
    → ((c : C) × (t : List Token) × W c t × Fits c) → ((w : List Token) → IsEnded w → Reads W Fits F w (step w)) → (w : List Token) → IsEnded w
    → Reads (λ c ts. (sign s then W c) ts) Fits F w (expect s w >>= λ a. step a.1)
sign_and {C = C} s W Fits F step alive reads w en =
    reads_same (Made (λ (c : C). c) (λ c. sign s then W c)) (λ c ts. (sign s then W c) ts) Fits F F
    (λ c ts v. subst (λ z. (sign s then W z) ts) (sym v.1) v.2) (λ c ts v. (c, refl, v)) (λ c m st. st) w _
    (sign_seq s W (λ (c : C). c) Fits F alive w (λ a. step a.1) en (λ p r en2. same_reads W Fits F r (step r) (reads r en2)))

-- Domain variables

abbrev pub NoColon : {C : Type 0} → C → Token → Type 0
NoColon c x = is_sign signs.Colon x ≡ false

constraint_reads : (w : List Token) → IsEnded w → Reads (optional grammar.constraint) All NoColon w (steps.constraint w)
constraint_reads [] en = cc
constraint_reads (x ∷ m) en = go (is_sign signs.Colon x) refl
  where
    go : (b : Bool) → is_sign signs.Colon x ≡ b
        → Reads (optional grammar.constraint) All NoColon (x ∷ m)
        (cond b (expect signs.Colon (x ∷ m) >>= λ a. expressions.identifier a.1 >>= λ y. Ok (Some y.0, y.1)) (Ok (None, x ∷ m)))
    go true t =
        subst (Reads (optional grammar.constraint) All NoColon (x ∷ m))
        (bind_bind (expect signs.Colon (x ∷ m)) (λ a. expressions.identifier a.1) (λ y. Ok (Some y.0, y.1)))
        (some_reads grammar.constraint All Any All NoColon (λ a f. tt) (λ a f. tt)
        (λ a m' st. any_stops (λ y. is_sign signs.Colon y ≡ false) [] m' st) x m (expect signs.Colon (x ∷ m) >>= λ a. expressions.identifier a.1)
        (clash (is_sign signs.Colon x) t)
        (sign_and signs.Colon identifier All Any expressions.identifier (some_name, name_token ∷ [], refl, tt) identifier_reads (x ∷ m) en))
    go false t =
        none_reads grammar.constraint All NoColon x m tt
        (λ a s m' m2 v eq. is_sign-false signs.Colon x t (sign_head signs.Colon (identifier a) s m' m2 x v eq))

abbrev Variable : Identifier × Option Identifier → Phrase
Variable = Both identifier (λ x. optional grammar.constraint)

abbrev variable_of : Identifier × Option Identifier → DomainVariable
variable_of v = record { variable = v.0; kind = v.1 }

pub domain_variable_reads : (w : List Token) → IsEnded w → Reads IsDomainVariable All NoColon w (domain_variable w)
unfolding domain_variable
domain_variable_reads w en =
    reads_same (Made variable_of (λ v. sign signs.Domain then Variable v)) IsDomainVariable All NoColon NoColon
    (λ c s v. subst (λ z. IsDomainVariable z s) (sym v.1) v.2)
    (λ c s v. ((c.variable, c.kind), refl, v))
    (λ c m st. st) w _
    (sign_seq signs.Domain Variable variable_of All NoColon
    ((some_name, None), name_token ∷ [], (name_token ∷ [], [], refl, refl, refl), tt)
    w _ en (λ p r en2.
    seq identifier All Any (λ x. optional grammar.constraint) (λ x k. variable_of (x, k)) All NoColon
    (λ x k t v f. tt)
    (λ x k t m v st. any_stops (λ y. is_sign signs.Colon y ≡ false) t m st)
    (λ x s v. (None, [], refl, λ f. tt))
    r (expressions.identifier r) _ (identifier_reads r en2) (λ x r2 is g.
    made (optional grammar.constraint) All NoColon (λ k. variable_of (x, k)) All NoColon (λ k f. tt) (λ k f. tt) (λ k m st. same k m st) r2
    (steps.constraint r2) (constraint_reads r2 (good_ended g en2)))))
  where
    same : (k : Option Identifier) (m : List Token) → Stops (λ y. is_sign signs.Colon y ≡ false) m → Stops (NoColon k) m
    same k [] st = st
    same k (y ∷ m) st = st

abbrev pub some_variable : DomainVariable
some_variable = record { variable = some_name; kind = None }

abbrev pub variable_tokens : List Token
variable_tokens = token origin (kinds.Sign signs.Domain) ∷ name_token ∷ []

is_variable : IsDomainVariable some_variable variable_tokens
is_variable = (token origin (kinds.Sign signs.Domain) ∷ [], name_token ∷ [], refl, (origin, refl), (name_token ∷ [], [], refl, refl, refl))

abbrev pub Greater : Token → Type 0
Greater x = x.kind ≡ kinds.Sign signs.Greater

comma_variables : (w : List Token) → IsEnded w → Reads (comma_and IsDomainVariable) All NoColon w (comma_then domain_variable w)
comma_variables = sign_and signs.Comma IsDomainVariable All NoColon domain_variable (some_variable, variable_tokens, is_variable, tt) domain_variable_reads

comma_head : {A : Type 0} (P : A → Phrase) (a : A) (s m m2 : List Token) (x : Token) → comma_and P a s → s ++ m ≡ x ∷ m2 → x.kind ≡ kinds.Sign signs.Comma
comma_head P a s m m2 x v eq = sign_head signs.Comma (P a) s m m2 x v eq

comma_some : {A : Type 0} (P : A → Phrase) (a : A) → comma_and P a [] → ⊥
comma_some P a v = let f = comma_head P a [] (name_token ∷ []) [] name_token v refl in cc

other_kind : (s : Sign) (x : Token) (k : TokenKind) → x.kind ≡ k → is_sign s (token x.place k) ≡ false → is_sign s x ≡ false
other_kind s x k e f = ap (λ z. is_sign s (token x.place z)) e ∙ f

abbrev Four : List DomainVariable → Type 0
Four vs = length vs ≤ 4

more_variables_reads : (v : DomainVariable) (w : List Token) → IsEnded w
    → Reads (Made (λ zs. (v ∷ []) ++ zs) (λ zs ts. Four ((v ∷ []) ++ zs) × AreAll (comma_and IsDomainVariable) zs ts)) All (λ zs x. Greater x) w
    (listed no_more_variables (comma_then domain_variable) (v ∷ []) w)
more_variables_reads v w en =
    listed_reads (comma_and IsDomainVariable) All NoColon All Greater Four no_more_variables (comma_then domain_variable) comma_variables
    (λ found zs a f. tt) (λ found a f g. tt) next last (comma_some IsDomainVariable) stops goes bound (v ∷ []) w tt (omega arith) en
  where
    next : (a b : DomainVariable) (s m : List Token) → comma_and IsDomainVariable b s → Stops (NoColon a) (s ++ m)
    next a b s m u = sign_first (NoColon a) signs.Comma (IsDomainVariable b) s m (λ q. refl) u

    last : (a : DomainVariable) (m : List Token) → Stops Greater m → Stops (NoColon a) m
    last a [] st = st
    last a (y ∷ m) st = other_kind signs.Colon y (kinds.Sign signs.Greater) st refl

    stops : (found : List DomainVariable) (x : Token) (m : List Token) → not (is_sign signs.Comma x && nat_lt (length found) 4) ≡ true
        → (a : DomainVariable) (zs : List DomainVariable) (s m' m2 : List Token) → Four (found ++ a ∷ zs) → comma_and IsDomainVariable a s
        → s ++ m' ≡ x ∷ m2 → ⊥
    stops found x m t a zs s m' m2 four u eq = go (is_sign signs.Comma x) (nat_lt (length found) 4) refl refl t
      where
        go : (b c : Bool) → is_sign signs.Comma x ≡ b → nat_lt (length found) 4 ≡ c → not (b && c) ≡ true → ⊥
        go false c e f t = is_sign-false signs.Comma x e (comma_head IsDomainVariable a s m' m2 x u eq)
        go true false e f t =
            let l = ltb-false (length found) 4 f in
            let k = length-append found (a ∷ zs) in
            omega (arith, l, k, four)
        go true true e f t = cc

    goes : (found : List DomainVariable) (x : Token) (m : List Token) → not (is_sign signs.Comma x && nat_lt (length found) 4) ≡ false → Greater x → ⊥
    goes found x m t g =
        let c : is_sign signs.Comma x ≡ false = other_kind signs.Comma x (kinds.Sign signs.Greater) g refl in
        let f : not (false && nat_lt (length found) 4) ≡ false = ap (λ b. not (b && nat_lt (length found) 4)) (sym c) ∙ t in
        cc

    bound : (found : List DomainVariable) (x : Token) (m : List Token) (a : DomainVariable)
        → not (is_sign signs.Comma x && nat_lt (length found) 4) ≡ false → Four found → Four (found ++ a ∷ [])
    bound found x m a t four = go (is_sign signs.Comma x) (nat_lt (length found) 4) refl t
      where
        go : (b c : Bool) → nat_lt (length found) 4 ≡ c → not (b && c) ≡ false → Four (found ++ a ∷ [])
        go false c f t = cc
        go true false f t = cc
        go true true f t = let l = ltb-true (length found) 4 f in let k = length-append found (a ∷ []) in omega (arith, l, k)

-- Templates

abbrev pub NoTemplate : {C : Type 0} → C → Token → Type 0
NoTemplate c x = is_sign signs.Template x ≡ false

abbrev More : DomainVariable → List DomainVariable → Phrase
More v more ts = Four (v ∷ more) × AreAll (comma_and IsDomainVariable) more ts

abbrev Angled : DomainVariable × (List DomainVariable × Unit {0}) → Phrase
Angled = Both IsDomainVariable (λ v. Both (More v) (λ more (u : Unit {0}). sign signs.Greater))

abbrev all_of : DomainVariable × (List DomainVariable × Unit {0}) → List DomainVariable
all_of v = v.0 ∷ v.1.0

angled : Angled (some_variable, ([], tt)) (variable_tokens ++ lone signs.Greater)
angled = (variable_tokens, lone signs.Greater, refl, is_variable, ([], lone signs.Greater, refl, (omega arith, refl), (origin, refl)))

abbrev TemplateParts : List DomainVariable → Phrase
TemplateParts = Made all_of (λ v. sign signs.Template then (sign signs.Less then Angled v))

template_parts_reads : (w : List Token) → IsEnded w
    → Reads TemplateParts All Any w
    (expect signs.Template w >>= λ a. expect signs.Less a.1 >>= λ b. domain_variable b.1 >>= λ v. listed no_more_variables
    (comma_then domain_variable) (v.0 ∷ []) v.1 >>= λ vs. expect signs.Greater vs.1 >>= λ c. Ok (vs.0, c.1))
template_parts_reads w en =
    sign_seq signs.Template (λ v. sign signs.Less then Angled v) all_of All Any (
      (some_variable, ([], tt)),
      lone signs.Less ++ variable_tokens ++ lone signs.Greater,
      (lone signs.Less, variable_tokens ++ lone signs.Greater, refl, (origin, refl), angled),
      tt,
    )
    w _ en (λ p r en2.
    sign_seq signs.Less Angled all_of All Any
    ((some_variable, ([], tt)), variable_tokens ++ lone signs.Greater, angled, tt)
    r _ en2 (λ p2 r2 en3.
    seq IsDomainVariable All NoColon (λ v. Both (More v) (λ more (u : Unit {0}). sign signs.Greater)) (λ v b. v ∷ b.0) All Any
    (λ v b t u f. tt)
    (λ v b t m u st. variables_first v b t m u)
    (λ v s u. (([], tt), lone signs.Greater, ([], lone signs.Greater, refl, (omega arith, refl), (origin, refl)), λ f. tt))
    r2 (domain_variable r2) _ (domain_variable_reads r2 en3) (λ v r3 is g.
    let en4 = good_ended g en3 in
    reads_same (Made (λ (b : List DomainVariable × Unit {0}). b.0)
    (Both (λ vs. Made (λ zs. (v ∷ []) ++ zs) (λ zs ts. Four ((v ∷ []) ++ zs) × AreAll (comma_and IsDomainVariable) zs ts) vs)
    (λ vs (u : Unit {0}). sign signs.Greater)))
    (Made (λ (b : List DomainVariable × Unit {0}). v ∷ b.0) (Both (More v) (λ more (u : Unit {0}). sign signs.Greater))) All Any Any
    (λ c s u. let q = u.2 in ((q.3.0, tt), u.1 ∙ q.3.1, (q.0, q.1, q.2, q.3.2, q.4)))
    (λ c s u. let q = u.2 in ((v ∷ u.0.0, tt), u.1, (q.0, q.1, q.2, (u.0.0, refl, q.3), q.4)))
    (λ c m st. st) r3 _
    (seq (Made (λ zs. (v ∷ []) ++ zs) (λ zs ts. Four ((v ∷ []) ++ zs) × AreAll (comma_and IsDomainVariable) zs ts)) All
    (λ zs x. x.kind ≡ kinds.Sign signs.Greater) (λ vs (u : Unit {0}). sign signs.Greater) (λ vs u. vs) All Any
    (λ vs u t q f. tt)
    (λ vs u t m q st. last_sign_first (λ y. y.kind ≡ kinds.Sign signs.Greater) signs.Greater t m (λ z. refl) q)
    (λ vs s q. (tt, lone signs.Greater, (origin, refl), λ f. tt))
    r3 (listed no_more_variables (comma_then domain_variable) (v ∷ []) r3) _ (more_variables_reads v r3 en4) (λ vs r4 is2 g2.
    sign_end signs.Greater vs All tt r4 (good_ended g2 en4))))))
  where
    variables_first : (v : DomainVariable) (b : List DomainVariable × Unit {0}) (t m : List Token)
        → Both (More v) (λ more (u : Unit {0}). sign signs.Greater) b t → Stops (NoColon v) (t ++ m)
    variables_first v b t m q = go b.0 q.3.1
      where
        go : (more : List DomainVariable) → AreAll (comma_and IsDomainVariable) more q.0 → Stops (NoColon v) (t ++ m)
        go [] n = last_sign_first (NoColon v) signs.Greater t m (λ z. refl) (q.4.0, q.2 ∙ ap (λ l. l ++ q.1) n ∙ q.4.1)
        go (a ∷ more) u =
            let z = u.3.3 in
            subst (λ l. Stops (NoColon v) (l ++ m)) (sym (q.2 ∙ ap (λ l. l ++ q.1) (u.2 ∙ ap (λ l. l ++ u.1) (u.3.2 ∙ ap (λ l. l ++ u.3.1) z.1)))) refl

template_up : (c : List DomainVariable) (s : List Token) → TemplateParts c s → IsTemplate c s
template_up c s v = subst (λ z. IsTemplate z s) (sym v.1) (go v.0 v.2)
  where
    go : (b : DomainVariable × (List DomainVariable × Unit {0})) → (sign signs.Template then (sign signs.Less then Angled b)) s → IsTemplate (b.0 ∷ b.1.0) s
    go b v =
        let w = v.4 in
        let u = w.4 in
        let q = u.4 in
        let four = q.3.0 in
        (omega (arith, four), (v.0, v.1, v.2, v.3, (w.0, w.1, w.2, w.3, (u.0, u.1, u.2, u.3, (q.0, q.1, q.2, q.3.1, q.4)))))

template_down : (x : Token) → is_sign signs.Template x ≡ true → (c : List DomainVariable) (s m m2 : List Token) → IsTemplate c s
    → Stops (NoTemplate c) m → s ++ m ≡ x ∷ m2 → TemplateParts c s
template_down x t [] s m m2 v st eq =
    absurd (clash (is_sign signs.Template x) t (subst (Stops (NoTemplate {C = List DomainVariable} [])) (ap (λ l. l ++ m) (sym v) ∙ eq) st))
template_down x t (a ∷ more) s m m2 v st eq =
    let w = v.1 in
    let u = w.4 in
    let q = u.4 in
    let r = q.4 in
    let four = v.0 in
    ((a, (more, tt)), refl, (w.0, w.1, w.2, w.3, (u.0, u.1, u.2, u.3, (q.0, q.1, q.2, q.3, (r.0, r.1, r.2, (omega (arith, four), r.3), r.4)))))

pub template_reads : (w : List Token) → IsEnded w → Reads IsTemplate All NoTemplate w (template w)
unfolding template
template_reads [] en = cc
template_reads (x ∷ m) en = go (is_sign signs.Template x) refl
  where
    go : (b : Bool) → is_sign signs.Template x ≡ b
        → Reads IsTemplate All NoTemplate (x ∷ m)
        (cond b (expect signs.Template (x ∷ m) >>= λ a. expect signs.Less a.1 >>= λ b. domain_variable b.1 >>= λ v. listed no_more_variables
        (comma_then domain_variable) (v.0 ∷ []) v.1 >>= λ vs. expect signs.Greater vs.1 >>= λ c. Ok (vs.0, c.1)) (Ok ([], x ∷ m)))
    go true t =
        reads_as TemplateParts IsTemplate All Any NoTemplate x template_up (template_down x t) (λ c m' st. any_stops (NoTemplate c) [] m' st)
        (x ∷ m) m _ refl (template_parts_reads (x ∷ m) en)
    go false t = nothing_reads IsTemplate All NoTemplate x m [] refl tt only
      where
        only : (c : List DomainVariable) (s m' m2 : List Token) → IsTemplate c s → Stops (NoTemplate c) m' → s ++ m' ≡ x ∷ m2 → (c ≡ []) × (s ≡ [])
        only [] s m' m2 v st eq = (refl, v)
        only (a ∷ more) s m' m2 v st eq = absurd (is_sign-false signs.Template x t (sign_head signs.Template _ s m' m2 x v.1 eq))

-- Results

pub result_reads : (w : List Token) → IsEnded w → Reads IsResult All NoBracket w (result_type w)
unfolding result_type
result_reads [] en = cc
result_reads (x ∷ m) en = go (is_sign signs.Void x) refl
  where
    void_down : is_sign signs.Void x ≡ true → (c : ResultType) (s m' m2 : List Token) → IsResult c s → s ++ m' ≡ x ∷ m2
        → Made (λ (u : Unit {0}). results.Void) (λ u. sign signs.Void) c s
    void_down t results.Void s m' m2 v eq = (tt, refl, v)
    void_down t (results.Value d) s m' m2 v eq =
        let f : begins_type (kinds.Sign signs.Void) ≡ true = ap begins_type (sym (is_sign-true signs.Void x t)) ∙ declared_kind d s m' m2 x v eq in cc

    value_down : is_sign signs.Void x ≡ false → (c : ResultType) (s m' m2 : List Token) → IsResult c s → s ++ m' ≡ x ∷ m2 → Made results.Value IsType c s
    value_down t results.Void s m' m2 v eq = absurd (is_sign-false signs.Void x t (sym (head_kind s [] m' m2 v.0 (kinds.Sign signs.Void) x v.1 eq)))
    value_down t (results.Value d) s m' m2 v eq = (d, refl, v)

    same : (d : DeclaredType) (m : List Token) → Stops (λ y. is_sign signs.LeftBracket y ≡ false) m → Stops (NoBracket d) m
    same d [] st = st
    same d (y ∷ m) st = st

    go : (b : Bool) → is_sign signs.Void x ≡ b
        → Reads IsResult All NoBracket (x ∷ m)
        (cond b (expect signs.Void (x ∷ m) >>= λ a. Ok (results.Void, a.1)) (declared_type (x ∷ m) >>= λ t. Ok (results.Value t.0, t.1)))
    go true t =
        reads_as (Made (λ (u : Unit {0}). results.Void) (λ u. sign signs.Void)) IsResult All Any NoBracket x
        (λ c s v. subst (λ z. IsResult z s) (sym v.1) v.2) (λ c s m' m2 v st eq. void_down t c s m' m2 v eq)
        (λ c m' st. any_stops (NoBracket c) [] m' st) (x ∷ m) m _ refl
        (sign_end signs.Void results.Void All tt (x ∷ m) en)
    go false t =
        reads_as (Made results.Value IsType) IsResult All NoBracket NoBracket x
        (λ c s v. subst (λ z. IsResult z s) (sym v.1) v.2) (λ c s m' m2 v st eq. value_down t c s m' m2 v eq) (λ c m' st. st) (x ∷ m) m _ refl
        (made IsType All NoBracket results.Value All NoBracket (λ d f. tt) (λ d f. tt) same (x ∷ m) (declared_type (x ∷ m)) (type_reads (x ∷ m) en))

-- Parameters

abbrev parameter_of : DeclaredType × Identifier → Parameter
parameter_of v = record { declared = v.0; variable = v.1 }

pub parameter_reads : (w : List Token) → IsEnded w → Reads IsParameter All Any w (parameter w)
unfolding parameter
parameter_reads w en =
    reads_same (Made parameter_of (Both IsType (λ t. identifier))) IsParameter All Any Any
    (λ c s v. subst (λ z. IsParameter z s) (sym v.1) v.2)
    (λ c s v. ((c.declared, c.variable), refl, v))
    (λ c m st. st) w _
    (seq IsType All NoBracket (λ t. identifier) (λ t x. parameter_of (t, x)) All Any
    (λ t x s v f. tt)
    (λ t x s m v st. subst (λ l. Stops (NoBracket t) (l ++ m)) (sym v) refl)
    (λ t s v. (some_name, name_token ∷ [], refl, λ f. tt))
    w (declared_type w) _ (type_reads w en) (λ t r is g.
    made identifier All Any (λ x. parameter_of (t, x)) All Any (λ x f. tt) (λ x f. tt) (λ x m st. any_stops (λ y. Unit {0}) [] m st) r
    (expressions.identifier r) (identifier_reads r (good_ended g en))))

abbrev pub some_parameter : Parameter
some_parameter = record { declared = record { place = origin; domain = domains.Public; element = types.Uint64; array = false }; variable = some_name }

abbrev pub parameter_tokens : List Token
parameter_tokens = token origin (kinds.Sign signs.Uint64) ∷ name_token ∷ []

is_parameter : IsParameter some_parameter parameter_tokens
is_parameter = (
  token origin (kinds.Sign signs.Uint64) ∷ [],
  name_token ∷ [],
  refl,
  (
    refl,
    (
      [],
      token origin (kinds.Sign signs.Uint64) ∷ [],
      refl,
      inl refl,
      (token origin (kinds.Sign signs.Uint64) ∷ [], [], refl, inl (origin, refl), inl refl),
    ),
  ),
  refl,
)

abbrev pub Closing : {C : Type 0} → C → Token → Type 0
Closing c x = x.kind ≡ kinds.Sign signs.RightParenthesis

abbrev pub Paren : Token → Type 0
Paren x = x.kind ≡ kinds.Sign signs.RightParenthesis

more_parameters_reads : (p : Parameter) (w : List Token) → IsEnded w
    → Reads (Made (λ zs. (p ∷ []) ++ zs) (λ zs ts. Unit {0} × AreAll (comma_and IsParameter) zs ts)) All (λ zs x. Paren x) w
    (listed no_comma (comma_then parameter) (p ∷ []) w)
more_parameters_reads p w en =
    listed_reads (comma_and IsParameter) All Any All Paren (λ ps. Unit {0}) no_comma (comma_then parameter)
    (sign_and signs.Comma IsParameter All Any parameter (some_parameter, parameter_tokens, is_parameter, tt) parameter_reads)
    (λ found zs a f. tt) (λ found a f g. tt)
    (λ a b s m u. sign_first (Any a) signs.Comma (IsParameter b) s m (λ q. tt) u)
    (λ a m st. any_stops Paren [] m st)
    (comma_some IsParameter) stops goes (λ found x m a t b. tt) (p ∷ []) w tt tt en
  where
    stops : (found : List Parameter) (x : Token) (m : List Token) → not (is_sign signs.Comma x) ≡ true
        → (a : Parameter) (zs : List Parameter) (s m' m2 : List Token) → Unit {0} → comma_and IsParameter a s → s ++ m' ≡ x ∷ m2 → ⊥
    stops found x m t a zs s m' m2 b u eq = go (is_sign signs.Comma x) refl t
      where
        go : (b : Bool) → is_sign signs.Comma x ≡ b → not b ≡ true → ⊥
        go false e t = is_sign-false signs.Comma x e (comma_head IsParameter a s m' m2 x u eq)
        go true e t = cc

    goes : (found : List Parameter) (x : Token) (m : List Token) → not (is_sign signs.Comma x) ≡ false → Paren x → ⊥
    goes found x m t g =
        let c : is_sign signs.Comma x ≡ false = other_kind signs.Comma x (kinds.Sign signs.RightParenthesis) g refl in
        let f : true ≡ false = ap not (sym c) ∙ t in
        cc

parameter_head : (p : Parameter) (s m m2 : List Token) (x : Token) → IsParameter p s → s ++ m ≡ x ∷ m2 → begins_type x.kind ≡ true
parameter_head p s m m2 x v eq = declared_kind p.declared v.0 (v.1 ++ m) m2 x v.3 (front s m m2 x v eq)

abbrev Several : List Parameter → Phrase
Several = Made (λ (v : Parameter × List Parameter). v.0 ∷ v.1) (Both IsParameter (λ p. AreAll (comma_and IsParameter)))

pub parameters_reads : (w : List Token) → IsEnded w → Reads AreParameters All Closing w (parameters w)
unfolding parameters
parameters_reads [] en = cc
parameters_reads (x ∷ m) en = go (is_sign signs.RightParenthesis x) refl
  where
    none : x.kind ≡ kinds.Sign signs.RightParenthesis → (c : List Parameter) (s m' m2 : List Token) → AreParameters c s → Stops (Closing c) m'
        → s ++ m' ≡ x ∷ m2 → (c ≡ []) × (s ≡ [])
    none k [] s m' m2 v st eq = (refl, v)
    none k (p ∷ more) s m' m2 v st eq =
        let f : begins_type (kinds.Sign signs.RightParenthesis) ≡ true =
        ap begins_type (sym k) ∙ parameter_head p v.0 (v.1 ++ m') m2 x v.3 (front s m' m2 x v eq) in cc

    down : is_sign signs.RightParenthesis x ≡ false → (c : List Parameter) (s m' m2 : List Token) → AreParameters c s → Stops (Closing c) m'
        → s ++ m' ≡ x ∷ m2 → Several c s
    down t [] s m' m2 v st eq = absurd
        (is_sign-false signs.RightParenthesis x t (subst (Stops (Closing {C = List Parameter} [])) (ap (λ l. l ++ m') (sym v) ∙ eq) st))
    down t (p ∷ more) s m' m2 v st eq = ((p, more), refl, v)

    go : (b : Bool) → is_sign signs.RightParenthesis x ≡ b
        → Reads AreParameters All Closing (x ∷ m) (cond b (Ok ([], x ∷ m)) (parameter (x ∷ m) >>= λ p. listed no_comma (comma_then parameter) (p.0 ∷ []) p.1))
    go true t = nothing_reads AreParameters All Closing x m [] refl tt (none (is_sign-true signs.RightParenthesis x t))
    go false t =
        reads_as Several AreParameters All Closing Closing x (λ c s v. subst (λ z. AreParameters z s) (sym v.1) v.2) (down t) (λ c m' st. st) (x ∷ m) m _ refl
        (seq IsParameter All Any (λ p. AreAll (comma_and IsParameter)) (λ p zs. p ∷ zs) All Closing
        (λ p zs s v f. tt)
        (λ p zs s m' v st. any_stops (λ y. y.kind ≡ kinds.Sign signs.RightParenthesis) s m' st)
        (λ p s v. ([], [], refl, λ f. tt))
        (x ∷ m) (parameter (x ∷ m)) _ (parameter_reads (x ∷ m) en) (λ p r is g.
        reads_same (Made (λ zs. (p ∷ []) ++ zs) (λ zs ts. Unit {0} × AreAll (comma_and IsParameter) zs ts))
        (Made (λ zs. p ∷ zs) (AreAll (comma_and IsParameter))) All (λ zs x. Paren x) Closing
        (λ c s v. (v.0, v.1, v.2.1)) (λ c s v. (v.0, v.1, (tt, v.2))) (λ c m' st. same c m' st) r _ (more_parameters_reads p r (good_ended g en))))
      where
        same : (c : List Parameter) (m : List Token) → Stops (Closing c) m → Stops (λ x. Paren x) m
        same c [] st = st
        same c (y ∷ m) st = st

abbrev pub Listed : List Parameter → Phrase
Listed ps ts = (sign signs.LeftParenthesis then (AreParameters ps then sign signs.RightParenthesis)) ts

parameter_list_reads : (w : List Token) → IsEnded w → Reads Listed All Any w (parameter_list w)
unfolding parameter_list
parameter_list_reads w en =
    reads_same (Made (λ (v : List Parameter × Unit {0}). v.0)
    (λ v. sign signs.LeftParenthesis then Both AreParameters (λ ps (u : Unit {0}). sign signs.RightParenthesis) v)) Listed All Any Any
    (λ c s v. subst (λ z. Listed z s) (sym v.1) v.2)
    (λ c s v. ((c, tt), refl, v))
    (λ c m st. st) w _
    (sign_seq signs.LeftParenthesis (Both AreParameters (λ ps (u : Unit {0}). sign signs.RightParenthesis)) (λ (v : List Parameter × Unit {0}). v.0) All Any
    (([], tt), lone signs.RightParenthesis, ([], lone signs.RightParenthesis, refl, refl, (origin, refl)), tt)
    w _ en (λ p r en2.
    seq AreParameters All Closing (λ ps (u : Unit {0}). sign signs.RightParenthesis) (λ ps u. ps) All Any
    (λ ps u t v f. tt)
    (λ ps u t m v st. last_sign_first (λ y. y.kind ≡ kinds.Sign signs.RightParenthesis) signs.RightParenthesis t m (λ q. refl) v)
    (λ ps s v. (tt, lone signs.RightParenthesis, (origin, refl), λ f. tt))
    r (parameters r) _ (parameters_reads r en2) (λ ps r2 is g. sign_end signs.RightParenthesis ps All tt r2 (good_ended g en2))))

-- Bodies

abbrev pub LowBlock : ℕ → BlockTree → Type 0
LowBlock max_height b = statement_heights b.statements ≤ max_height

abbrev In : List StatementTree × Unit {0} → Phrase
In = Both (λ ss ts. AreStatements false (statements_of ss) ts) (λ ss (u : Unit {0}). sign signs.RightBrace)

abbrev block_at : Span → List StatementTree → BlockTree
block_at p ss = record { place = p; statements = statements_of ss }

pub body_reads : (max_height : ℕ) (w : List Token) → IsEnded w → Reads IsBlock (LowBlock max_height) Any w (body max_height w)
unfolding body
body_reads max_height w en =
    reads_same (Made (λ (v : Span × (List StatementTree × Unit {0})). block_at v.0 v.1.0) (Both (λ p. sign_at p signs.LeftBrace) (λ p. In))) IsBlock
    (LowBlock max_height) Any Any
    (λ c s v. subst (λ z. IsBlock z s) (sym v.1) v.2)
    down (λ c m st. st) w _
    (seq (λ p. sign_at p signs.LeftBrace) All Any (λ p. In) (λ p v. block_at p v.0) (LowBlock max_height) Any
    (λ p v t u f. tt)
    (λ p v t m u st. any_stops (λ y. Unit {0}) t m st)
    (λ p s u. (([], tt), lone signs.RightBrace, ([], lone signs.RightBrace, refl, refl, (origin, refl)), λ f. omega arith))
    w (expect signs.LeftBrace w) _ (sign_reads signs.LeftBrace w en) (λ p r is g.
    reads_same (Made (λ ss. block_at p ss) (Made (λ (v : List StatementTree × Unit {0}). v.0) In)) (Made (λ b. block_at p b.0) In) (LowBlock max_height) Any Any
    (λ c s v. (v.2.0, v.1 ∙ ap (block_at p) v.2.1, v.2.2))
    (λ c s v. (v.0.0, v.1, (v.0, refl, v.2)))
    (λ c m st. st) r _
    (made (Made (λ (v : List StatementTree × Unit {0}). v.0) In) (LowStatements max_height) Any (λ ss. block_at p ss) (LowBlock max_height) Any
    (λ ss f. f) (λ ss f. f) (λ ss m st. any_stops (λ y. Unit {0}) [] m st)
    r (braced (statement_at_most max_height false) r)
    (braced_reads max_height false (statement_at_most max_height false) (statement_reads max_height false) r (good_ended g en)))))
  where
    down : (c : BlockTree) (s : List Token) → IsBlock c s
        → Made (λ (v : Span × (List StatementTree × Unit {0})). block_at v.0 v.1.0) (Both (λ p. sign_at p signs.LeftBrace) (λ p. In)) c s
    down c s v = (
      (c.place, (listed_of c.statements, tt)),
      ap (λ z. record { place = c.place; statements = z }) (sym (of_list c.statements)),
      (v.0, v.1, v.2, v.3, (v.4.0, v.4.1, v.4.2, subst (λ z. AreStatements false z v.4.0) (sym (of_list c.statements)) v.4.3, v.4.4)),
    )

-- Functions

abbrev pub LowFunction : ℕ → FunctionTree → Type 0
LowFunction max_height f = function_height f ≤ 2 + max_height

abbrev FunctionParts : Type 0
FunctionParts = List DomainVariable × (ResultType × (Identifier × (List Parameter × BlockTree)))

abbrev function_of : FunctionParts → FunctionTree
function_of v = record { variables = v.0; returned = v.1.0; function = v.1.1.0; parameters = v.1.1.1.0; body = v.1.1.1.1 }

abbrev Behind : ResultType × (Identifier × (List Parameter × BlockTree)) → Phrase
Behind = Both IsResult (λ t. Both identifier (λ x. Both Listed (λ ps. IsBlock)))

pub result_head : (t : ResultType) (s m m2 : List Token) (x : Token) → IsResult t s → s ++ m ≡ x ∷ m2
    → (x.kind ≡ kinds.Sign signs.Void) ⊎ (begins_type x.kind ≡ true)
result_head results.Void s m m2 x v eq = inl (sym (head_kind s [] m m2 v.0 (kinds.Sign signs.Void) x v.1 eq))
result_head (results.Value d) s m m2 x v eq = inr (declared_kind d s m m2 x v eq)

type_no_template : (k : TokenKind) (p : Span) → begins_type k ≡ true → is_sign signs.Template (token p k) ≡ false
type_no_template (kinds.Name b) p e = refl
type_no_template (kinds.Sign signs.Public) p e = refl
type_no_template (kinds.Sign signs.Uint64) p e = refl
type_no_template (kinds.Sign signs.Uint) p e = refl
type_no_template (kinds.Sign signs.Int64) p e = refl
type_no_template (kinds.Sign signs.Int) p e = refl
type_no_template (kinds.Sign signs.Bool) p e = refl
type_no_template k p e = cc

result_some : (t : ResultType) → IsResult t [] → ⊥
result_some t v = go (result_head t [] (lone signs.Comma) [] (token origin (kinds.Sign signs.Comma)) v refl)
  where
    go : (kinds.Sign signs.Comma ≡ kinds.Sign signs.Void) ⊎ (false ≡ true) → ⊥
    go (inl f) = cc
    go (inr f) = cc

template_first : (vs : List DomainVariable) (v : ResultType × (Identifier × (List Parameter × BlockTree))) (t m : List Token) → Behind v t
    → Stops (NoTemplate vs) (t ++ m)
template_first vs v t m u = subst (Stops (NoTemplate vs)) (ap (λ l. l ++ m) (sym u.2)) (go u.0 refl u.3)
  where
    go : (s : List Token) → u.0 ≡ s → IsResult v.0 s → Stops (NoTemplate vs) ((s ++ u.1) ++ m)
    go [] e r = absurd (result_some v.0 r)
    go (x ∷ s) e r = at (result_head v.0 (x ∷ s) [] (s ++ []) x r refl)
      where
        at : (x.kind ≡ kinds.Sign signs.Void) ⊎ (begins_type x.kind ≡ true) → is_sign signs.Template x ≡ false
        at (inl k) = other_kind signs.Template x (kinds.Sign signs.Void) k refl
        at (inr k) = type_no_template x.kind x.place k

abbrev pub braces : List Token
braces = lone signs.LeftBrace ++ lone signs.RightBrace

abbrev pub block_of : BlockTree
block_of = record { place = origin; statements = statements.none }

is_block : IsBlock block_of braces
is_block = (lone signs.LeftBrace, lone signs.RightBrace, refl, refl, ([], lone signs.RightBrace, refl, refl, (origin, refl)))

bodied : (Both Listed (λ ps. IsBlock)) ([], block_of) ((lone signs.LeftParenthesis ++ lone signs.RightParenthesis) ++ braces)
bodied = (
  lone signs.LeftParenthesis ++ lone signs.RightParenthesis,
  lone signs.LeftBrace ++ lone signs.RightBrace,
  refl,
  (lone signs.LeftParenthesis, lone signs.RightParenthesis, refl, (origin, refl), ([], lone signs.RightParenthesis, refl, refl, (origin, refl))),
  is_block,
)

pub function_reads : (max_height : ℕ) (w : List Token) → IsEnded w → Reads IsFunction (LowFunction max_height) Any w (function_step max_height w)
unfolding function_step
function_reads max_height w en =
    reads_same (Made function_of (Both IsTemplate (λ vs. Behind))) IsFunction (LowFunction max_height) Any Any
    (λ c s v. subst (λ z. IsFunction z s) (sym v.1) (up v.0 s v.2))
    (λ c s v. ((c.variables, (c.returned, (c.function, (c.parameters, c.body)))), refl, down c s v))
    (λ c m st. st) w _
    (seq IsTemplate All NoTemplate (λ vs. Behind) (λ vs v. function_of (vs, v)) (LowFunction max_height) Any
    (λ vs v t u f. tt)
    (λ vs v t m u st. template_first vs v t m u)
    (λ vs s u. (
      (results.Void, (some_name, ([], block_of))),
      lone signs.Void ++ name_token ∷ ((lone signs.LeftParenthesis ++ lone signs.RightParenthesis) ++ braces),
      (
        lone signs.Void,
        name_token ∷ ((lone signs.LeftParenthesis ++ lone signs.RightParenthesis) ++ braces),
        refl,
        (origin, refl),
        (name_token ∷ [], (lone signs.LeftParenthesis ++ lone signs.RightParenthesis) ++ braces, refl, refl, bodied),
      ),
      λ f. omega arith,
    ))
    w (template w) _ (template_reads w en) (λ vs r is g.
    let en2 = good_ended g en in
    seq IsResult All NoBracket (λ t. Both identifier (λ x. Both Listed (λ ps. IsBlock))) (λ t v. function_of (vs, (t, v))) (LowFunction max_height) Any
    (λ t v s u f. tt)
    (λ t v s m u st. subst (λ l. Stops (NoBracket t) (l ++ m)) (sym (u.2 ∙ ap (λ l. l ++ u.1) u.3)) refl)
    (λ t s u. (
      (some_name, ([], block_of)),
      name_token ∷ ((lone signs.LeftParenthesis ++ lone signs.RightParenthesis) ++ braces),
      (name_token ∷ [], (lone signs.LeftParenthesis ++ lone signs.RightParenthesis) ++ braces, refl, refl, bodied),
      λ f. omega arith,
    ))
    r (result_type r) _ (result_reads r en2) (λ t r2 is2 g2.
    let en3 = good_ended g2 en2 in
    seq identifier All Any (λ x. Both Listed (λ ps. IsBlock)) (λ x v. function_of (vs, (t, (x, v)))) (LowFunction max_height) Any
    (λ x v s u f. tt)
    (λ x v s m u st. any_stops (λ y. Unit {0}) s m st)
    (λ x s u. (([], block_of), (lone signs.LeftParenthesis ++ lone signs.RightParenthesis) ++ braces, bodied, λ f. omega arith))
    r2 (expressions.identifier r2) _ (identifier_reads r2 en3) (λ x r3 is3 g3.
    let en4 = good_ended g3 en3 in
    seq Listed All Any (λ ps. IsBlock) (λ ps b. function_of (vs, (t, (x, (ps, b))))) (LowFunction max_height) Any
    (λ ps b s u f. tt)
    (λ ps b s m u st. any_stops (λ y. Unit {0}) s m st)
    (λ ps s u. (block_of, braces, is_block, λ f. omega arith))
    r3 (parameter_list r3) _ (parameter_list_reads r3 en4) (λ ps r4 is4 g4.
    made IsBlock (LowBlock max_height) Any (λ b. function_of (vs, (t, (x, (ps, b))))) (LowFunction max_height) Any
    (λ b f. omega (arith, f)) (λ b f. omega (arith, f)) (λ b m st. any_stops (λ y. Unit {0}) [] m st)
    r4 (body max_height r4) (body_reads max_height r4 (good_ended g4 en4)))))))
  where
    up : (v : FunctionParts) (s : List Token) → (IsTemplate v.0 then Behind v.1) s → IsFunction (function_of v) s
    up v s u = then_map s (λ t q. then_map t (λ t2 q2. then_map t2 (λ t3 q3. then_map t3 (λ t4 q4. then_right t4 q4) (then_right t3 q3)) q2) q) u

    down : (c : FunctionTree) (s : List Token) → IsFunction c s → (IsTemplate c.variables then Behind (c.returned, (c.function, (c.parameters, c.body)))) s
    down c s u = then_map s (λ t q. then_map t (λ t2 q2. then_map t2 (λ t3 q3. then_left t3 (then_map t3 (λ t4 q4. then_left t4 q4) q3)) q2) q) u
