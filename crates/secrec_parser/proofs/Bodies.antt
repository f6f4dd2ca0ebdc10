-- Readings of loops and blocks.
use Rattle.std.proofs.Common.{◌≡◌, ℕ, ◌-◌, ◌≤◌, List, [], ◌∷◌, ◌++◌, refl, sym, ap, ◌∙◌, subst, Ok, Bool, true, false, None, arith}
use Rattle.sc_text.specs.declared.span.Span.{Span}
use Rattle.secrec_lexer.specs.declared.sign.Sign.{Sign}
use Rattle.secrec_lexer.specs.declared.sign.Sign.TheVariants as signs
use Rattle.secrec_lexer.specs.declared.token.TokenKind.TheVariants as kinds
use Rattle.secrec_lexer.specs.declared.token.Token.{Token}
use Rattle.secrec_lexer.specs.Tokens.{IsEnded}
use Rattle.program_trees.specs.Tree.{Tree}
use Rattle.program_trees.specs.Statements.{starts_with_nothing, steps_by_nothing, StatementTree, StatementTrees, statements_of, block, empty, while_loop}
use Rattle.program_trees.specs.Statements.{do_loop, for_loop}
use Rattle.program_trees.specs.Statements as statements
use Rattle.program_trees.specs.Heights.{statement_heights}
use Rattle.expression_parser.specs.Phrases.{Phrase, sign_at, sign, ◌then◌}
use Rattle.expression_parser.specs.Steps.{◌>>=◌}
use Rattle.expression_parser.proofs.Reading.{Reads, Stops}
use Rattle.expression_parser.proofs.Tokens.{Any, origin, any_stops, good_ended, is_sign-true, is_sign-false}
use Rattle.expression_parser.proofs.Nodes.{Low, leaf}
use Rattle.secrec_parser.specs.Grammar.{parenthesised, IsStatement, AreStatements, AreAll}
use Rattle.secrec_parser.specs.inner.Steps.{Inner, leader_of, listed, at_sign, braced, while_step, do_behind, do_step, for_step}
use Rattle.secrec_parser.specs.inner.Steps as steps
use Rattle.secrec_parser.proofs.Made.{Made, Both, reads_same, seq, made, sign_seq, sign_end}
use Rattle.secrec_parser.proofs.TypeReadings.{lone}
use Rattle.secrec_parser.proofs.Declarations.{parenthesised_reads, last_sign_first, sign_first}
use Rattle.secrec_parser.proofs.Lists.{listed_reads}
use Rattle.secrec_parser.proofs.Leaders.{family, family_of}
use Rattle.secrec_parser.proofs.Headings.{IsHeading, HeadingParts, LowHeading, heading_reads}
use Rattle.secrec_parser.proofs.Starts.{starter, starts, statement_some, parens, are_parens, heads, are_heads}
use Rattle.secrec_parser.proofs.Statements.{LowStatement, Follow, keyword_reads, follow_any, follow_same, follow_through}

-- Loops, where what reads their bodies is given

module _ (max_height : ℕ) (two : 2 ≤ max_height) (in_loop : Bool) (inner : Inner)
    (reads_inner : (w : List Token) → IsEnded w → Reads (IsStatement true) (LowStatement (max_height - 1)) Follow w (inner w))
  where
    abbrev Guarded : Tree × StatementTree → Phrase
    Guarded = Both parenthesised (λ e. IsStatement true)

    while_down : (c : StatementTree) (s : List Token) → family_of c ≡ 3 → IsStatement in_loop c s
        → (p : Span) × (b : Tree × StatementTree) × (c ≡ while_loop p b.0 b.1) × (sign_at p signs.While then Guarded b) s
    while_down (while_loop p e b) s f v = (p, (e, b), refl, v)
    while_down c s f v = absurd (omega (arith, f))

    pub while_reads : (x : Token) (m : List Token) → x.kind ≡ kinds.Sign signs.While → family (leader_of in_loop x) ≡ 3 → IsEnded (x ∷ m)
        → Reads (IsStatement in_loop) (LowStatement max_height) Follow (x ∷ m) (while_step (max_height - 1) inner x.place m)
    unfolding while_step
    while_reads x m k fam en =
        keyword_reads in_loop max_height signs.While 3 Guarded (λ p b. while_loop p b.0 b.1) Follow refl (λ p b s v. v) while_down follow_same
        (λ p. ((leaf, empty origin), parens ++ lone signs.Semicolon, (parens, lone signs.Semicolon, refl, are_parens, refl), omega (arith, two)))
        x m _ k fam en (λ en2.
        seq parenthesised (Low (max_height - 1)) Any (λ e. IsStatement true) (λ e s. while_loop x.place e s) (LowStatement max_height) Follow
        (λ e s t u f. omega (arith, f))
        (λ e s t m u st. any_stops (Follow (while_loop x.place e s)) t m st)
        (λ e s u. (empty origin, lone signs.Semicolon, refl, λ f. omega (arith, f, two)))
        m (steps.parenthesised (max_height - 1) m) _ (parenthesised_reads (max_height - 1) (omega (arith, two)) m en2) (λ e r is g.
        let low = g.fits in
        made (IsStatement true) (LowStatement (max_height - 1)) Follow (λ s. while_loop x.place e s) (LowStatement max_height) Follow
        (λ s f. omega (arith, f)) (λ s f. omega (arith, f, low, two)) (λ s m st. follow_through (while_loop x.place e s) s m (λ c. c) st)
        r (inner r) (reads_inner r (good_ended g en2))))

    abbrev Ended : StatementTree → Tree × Unit {0} → Phrase
    Ended s v = sign signs.While then Both parenthesised (λ e (u : Unit {0}). sign signs.Semicolon) v

    abbrev Repeated : StatementTree × (Tree × Unit {0}) → Phrase
    Repeated = Both (IsStatement true) Ended

    do_down : (c : StatementTree) (s : List Token) → family_of c ≡ 4 → IsStatement in_loop c s
        → (p : Span) × (b : StatementTree × (Tree × Unit {0})) × (c ≡ do_loop p b.0 b.1.0) × (sign_at p signs.Do then Repeated b) s
    do_down (do_loop p b e) s f v = (p, (b, (e, tt)), refl, v)
    do_down c s f v = absurd (omega (arith, f))

    ended : Ended (empty origin) (leaf, tt) (lone signs.While ++ parens ++ lone signs.Semicolon)
    ended = (lone signs.While, parens ++ lone signs.Semicolon, refl, (origin, refl), (parens, lone signs.Semicolon, refl, are_parens, (origin, refl)))

    pub do_reads : (x : Token) (m : List Token) → x.kind ≡ kinds.Sign signs.Do → family (leader_of in_loop x) ≡ 4 → IsEnded (x ∷ m)
        → Reads (IsStatement in_loop) (LowStatement max_height) Follow (x ∷ m) (do_step (max_height - 1) inner x.place m)
    unfolding do_step do_behind
    do_reads x m k fam en =
        keyword_reads in_loop max_height signs.Do 4 Repeated (λ p b. do_loop p b.0 b.1.0) Any refl (λ p b s v. v) do_down follow_any
        (λ p. (
          (empty origin, (leaf, tt)),
          lone signs.Semicolon ++ lone signs.While ++ parens ++ lone signs.Semicolon,
          (lone signs.Semicolon, lone signs.While ++ parens ++ lone signs.Semicolon, refl, refl, ended),
          omega (arith, two),
        ))
        x m _ k fam en (λ en2.
        seq (IsStatement true) (LowStatement (max_height - 1)) Follow Ended (λ s v. do_loop x.place s v.0) (LowStatement max_height) Any
        (λ s v t u f. omega (arith, f))
        (λ s v t m u st. sign_first (Follow s) signs.While (Both parenthesised (λ e (u : Unit {0}). sign signs.Semicolon) v) t m (λ q k. cc) u)
        (λ s t u. ((leaf, tt), lone signs.While ++ parens ++ lone signs.Semicolon, ended, λ f. omega (arith, f, two)))
        m (inner m) _ (reads_inner m en2) (λ s r is g.
        let low = g.fits in
        let en3 = good_ended g en2 in
        sign_seq signs.While (Both parenthesised (λ e (u : Unit {0}). sign signs.Semicolon)) (λ v. do_loop x.place s v.0) (LowStatement max_height) Any
        ((leaf, tt), parens ++ lone signs.Semicolon, (parens, lone signs.Semicolon, refl, are_parens, (origin, refl)), omega (arith, low, two))
        r _ en3 (λ q r2 en4.
        seq parenthesised (Low (max_height - 1)) Any (λ e (u : Unit {0}). sign signs.Semicolon) (λ e u. do_loop x.place s e) (LowStatement max_height) Any
        (λ e u t v f. omega (arith, f))
        (λ e u t m v st. any_stops (λ y. Unit {0}) t m st)
        (λ e t u. (tt, lone signs.Semicolon, (origin, refl), λ f. omega (arith, f, low, two)))
        r2 (steps.parenthesised (max_height - 1) r2) _ (parenthesised_reads (max_height - 1) (omega (arith, two)) r2 en4) (λ e r3 is3 g3.
        let low2 = g3.fits in
        sign_end signs.Semicolon (do_loop x.place s e) (LowStatement max_height) (omega (arith, low, low2, two)) r3 (good_ended g3 en4)))))

    abbrev Headed : HeadingParts × StatementTree → Phrase
    Headed = Both IsHeading (λ h. IsStatement true)

    for_down : (c : StatementTree) (s : List Token) → family_of c ≡ 5 → IsStatement in_loop c s
        → (p : Span) × (b : HeadingParts × StatementTree) × (c ≡ for_loop p b.0.0 b.0.1 b.0.2 b.1) × (sign_at p signs.For then Headed b) s
    for_down (for_loop p a e b t) s f v = (p, ((a, e, b), t), refl, v)
    for_down c s f v = absurd (omega (arith, f))

    pub for_reads : (x : Token) (m : List Token) → x.kind ≡ kinds.Sign signs.For → family (leader_of in_loop x) ≡ 5 → IsEnded (x ∷ m)
        → Reads (IsStatement in_loop) (LowStatement max_height) Follow (x ∷ m) (for_step (max_height - 1) inner x.place m)
    unfolding for_step
    for_reads x m k fam en =
        keyword_reads in_loop max_height signs.For 5 Headed (λ p b. for_loop p b.0.0 b.0.1 b.0.2 b.1) Follow refl (λ p b s v. v) for_down follow_same
        (λ p. (
          ((starts_with_nothing, None, steps_by_nothing), empty origin),
          heads ++ lone signs.Semicolon,
          (heads, lone signs.Semicolon, refl, are_heads, refl),
          omega (arith, two),
        ))
        x m _ k fam en (λ en2.
        seq IsHeading (LowHeading (max_height - 1)) Any (λ h. IsStatement true) (λ h s. for_loop x.place h.0 h.1 h.2 s) (LowStatement max_height) Follow
        (λ h s t u f. omega (arith, f))
        (λ h s t m u st. any_stops (Follow (for_loop x.place h.0 h.1 h.2 s)) t m st)
        (λ h s u. (empty origin, lone signs.Semicolon, refl, λ f. omega (arith, f, two)))
        m (steps.heading (max_height - 1) m) _ (heading_reads (max_height - 1) (omega (arith, two)) m en2) (λ h r is g.
        let low = g.fits in
        made (IsStatement true) (LowStatement (max_height - 1)) Follow (λ s. for_loop x.place h.0 h.1 h.2 s) (LowStatement max_height) Follow
        (λ s f. omega (arith, f)) (λ s f. omega (arith, f, low, two)) (λ s m st. follow_through (for_loop x.place h.0 h.1 h.2 s) s m (λ c. c) st)
        r (inner r) (reads_inner r (good_ended g en2))))

-- Blocks

list_of : StatementTrees → List StatementTree
list_of statements.none = []
list_of (statements.also s ss) = s ∷ list_of ss

pub listed_of : StatementTrees → List StatementTree
listed_of = list_of

pub of_list : (ss : StatementTrees) → statements_of (listed_of ss) ≡ ss
unfolding listed_of list_of
of_list statements.none = refl
of_list (statements.also s ss) = ap (statements.also s) (of_list ss)

pub all_up : (in_loop : Bool) (ss : List StatementTree) (ts : List Token) → AreAll (IsStatement in_loop) ss ts → AreStatements in_loop (statements_of ss) ts
all_up in_loop [] ts v = v
all_up in_loop (s ∷ ss) ts v = (v.0, v.1, v.2, v.3, all_up in_loop ss v.1 v.4)

pub all_down : (in_loop : Bool) (ss : List StatementTree) (ts : List Token) → AreStatements in_loop (statements_of ss) ts → AreAll (IsStatement in_loop) ss ts
all_down in_loop [] ts v = v
all_down in_loop (s ∷ ss) ts v = (v.0, v.1, v.2, v.3, all_down in_loop ss v.1 v.4)

abbrev pub LowStatements : ℕ → List StatementTree → Type 0
LowStatements h ss = statement_heights (statements_of ss) ≤ h

low_part : (h : ℕ) (found zs : List StatementTree) (a : StatementTree) → LowStatements h (found ++ a ∷ zs) → LowStatement h a
low_part h [] zs a f = omega (arith, f)
low_part h (s ∷ found) zs a f =
    let g : LowStatements h (found ++ a ∷ zs) = omega (arith, f) in low_part h found zs a g

low_more : (h : ℕ) (found : List StatementTree) (a : StatementTree) → LowStatements h found → LowStatement h a → LowStatements h (found ++ a ∷ [])
low_more h [] a f g = omega (arith, f, g)
low_more h (s ∷ found) a f g =
    let f2 : LowStatements h found = omega (arith, f) in
    let k : statement_heights (statements_of (found ++ a ∷ [])) ≤ h = low_more h found a f2 g in
    omega (arith, f, k)

no_starter : (x : Token) (k : Sign) → x.kind ≡ kinds.Sign k → starter (kinds.Sign k) ≡ false → starter x.kind ≡ true → ⊥
no_starter x k e f g = let h : starter (kinds.Sign k) ≡ true = ap starter (sym e) ∙ g in cc

module _ (h : ℕ) (in_loop : Bool) (inner : Inner)
    (reads_inner : (w : List Token) → IsEnded w → Reads (IsStatement in_loop) (LowStatement h) Follow w (inner w))
  where
    abbrev pub Close : Token → Type 0
    Close x = x.kind ≡ kinds.Sign signs.RightBrace

    -- a statement does not begin with `else`
    after_statement : (a b : StatementTree) (s m : List Token) → IsStatement in_loop b s → Stops (Follow a) (s ++ m)
    after_statement a b [] m v = absurd (statement_some in_loop b v)
    after_statement a b (y ∷ s) m v = λ k. absurd (no_starter y signs.Else k refl (starts in_loop b (y ∷ s) m (s ++ m) y v refl))

    before_close : (a : StatementTree) (m : List Token) → Stops Close m → Stops (Follow a) m
    before_close a [] st = st
    before_close a (y ∷ m) st = λ k. let f : kinds.Sign signs.RightBrace ≡ kinds.Sign signs.Else = sym st ∙ k in cc

    all_reads : (w : List Token) → IsEnded w
        → Reads (Made (λ zs. [] ++ zs) (λ zs ts. Unit {0} × AreAll (IsStatement in_loop) zs ts)) (LowStatements h) (λ zs x. Close x) w
        (listed (λ found w. at_sign signs.RightBrace w) inner [] w)
    all_reads w en =
        listed_reads (IsStatement in_loop) (LowStatement h) Follow (LowStatements h) Close (λ ss. Unit {0})
        (λ found w. at_sign signs.RightBrace w) inner reads_inner
        (low_part h) (low_more h) after_statement before_close (statement_some in_loop)
        (λ found x m t a zs s m' m2 b v eq. no_starter x signs.RightBrace (is_sign-true signs.RightBrace x t) refl (starts in_loop a s m' m2 x v eq))
        (λ found x m t e. is_sign-false signs.RightBrace x t e) (λ found x m a t b. tt)
        [] w (omega arith) tt en

    abbrev pub Statements : List StatementTree → Phrase
    Statements ss ts = AreStatements in_loop (statements_of ss) ts

    abbrev pub Filled : List StatementTree × Unit {0} → Phrase
    Filled = Both Statements (λ ss (u : Unit {0}). sign signs.RightBrace)

    statements_reads : (w : List Token) → IsEnded w
        → Reads Statements (LowStatements h) (λ zs x. Close x) w (listed (λ found w. at_sign signs.RightBrace w) inner [] w)
    statements_reads w en =
        reads_same (Made (λ zs. [] ++ zs) (λ zs ts. Unit {0} × AreAll (IsStatement in_loop) zs ts)) Statements (LowStatements h) (λ zs x. Close x)
        (λ zs x. Close x)
        (λ c s v. subst (λ z. Statements z s) (sym v.1) (all_up in_loop v.0 s v.2.1))
        (λ c s v. (c, refl, (tt, all_down in_loop c s v)))
        (λ c m st. st) w _ (all_reads w en)

    -- statements and their closing brace
    pub braced_reads : (w : List Token) → IsEnded w
        → Reads (Made (λ (v : List StatementTree × Unit {0}). v.0)
        (Both (λ ss ts. AreStatements in_loop (statements_of ss) ts) (λ ss (u : Unit {0}). sign signs.RightBrace))) (LowStatements h) Any w (braced inner w)
    braced_reads w en =
        seq Statements (LowStatements h) (λ zs x. Close x) (λ ss (u : Unit {0}). sign signs.RightBrace) (λ ss u. ss) (LowStatements h) Any
        (λ ss u t v f. f)
        (λ ss u t m v st. last_sign_first (λ y. y.kind ≡ kinds.Sign signs.RightBrace) signs.RightBrace t m (λ q. refl) v)
        (λ ss s v. (tt, lone signs.RightBrace, (origin, refl), λ f. f))
        w (listed (λ found w. at_sign signs.RightBrace w) inner [] w) _ (statements_reads w en) (λ ss r is g.
        sign_end signs.RightBrace ss (LowStatements h) g.fits r (good_ended g en))

module _ (max_height : ℕ) (one : 1 ≤ max_height) (in_loop : Bool) (inner : Inner)
    (reads_inner : (w : List Token) → IsEnded w → Reads (IsStatement in_loop) (LowStatement (max_height - 1)) Follow w (inner w))
  where
    abbrev In : List StatementTree × Unit {0} → Phrase
    In = Both (λ ss ts. AreStatements in_loop (statements_of ss) ts) (λ ss (u : Unit {0}). sign signs.RightBrace)

    block_down : (c : StatementTree) (s : List Token) → family_of c ≡ 0 → IsStatement in_loop c s
        → (p : Span) × (b : List StatementTree × Unit {0}) × (c ≡ block p (statements_of b.0)) × (sign_at p signs.LeftBrace then In b) s
    block_down (block p ss) s f v = (
      p,
      (listed_of ss, tt),
      ap (block p) (sym (of_list ss)),
      (v.0, v.1, v.2, v.3, (v.4.0, v.4.1, v.4.2, subst (λ z. AreStatements in_loop z v.4.0) (sym (of_list ss)) v.4.3, v.4.4)),
    )
    block_down c s f v = absurd (omega (arith, f))

    pub block_reads : (x : Token) (m : List Token) → x.kind ≡ kinds.Sign signs.LeftBrace → family (leader_of in_loop x) ≡ 0 → IsEnded (x ∷ m)
        → Reads (IsStatement in_loop) (LowStatement max_height) Follow (x ∷ m) (braced inner m >>= λ ss. Ok (block x.place (statements_of ss.0), ss.1))
    block_reads x m k fam en =
        keyword_reads in_loop max_height signs.LeftBrace 0 In (λ p b. block p (statements_of b.0)) Any refl (λ p b s v. v) block_down follow_any
        (λ p. (([], tt), lone signs.RightBrace, ([], lone signs.RightBrace, refl, refl, (origin, refl)), omega (arith, one)))
        x m _ k fam en (λ en2.
        reads_same (Made (λ ss. block x.place (statements_of ss)) (Made (λ (v : List StatementTree × Unit {0}). v.0) In))
        (Made (λ b. block x.place (statements_of b.0)) In) (LowStatement max_height) Any Any
        (λ c s v. (v.2.0, v.1 ∙ ap (λ ss. block x.place (statements_of ss)) v.2.1, v.2.2))
        (λ c s v. (v.0.0, v.1, (v.0, refl, v.2)))
        (λ c m st. st) m _
        (made (Made (λ (v : List StatementTree × Unit {0}). v.0) In) (LowStatements (max_height - 1)) Any (λ ss. block x.place (statements_of ss))
        (LowStatement max_height) Any
        (λ ss f. omega (arith, f)) (λ ss f. omega (arith, f, one)) (λ ss m st. any_stops (λ y. Unit {0}) [] m st)
        m (braced inner m) (braced_reads (max_height - 1) in_loop inner reads_inner m en2)))
