-- The readings of arguments and of what stands after a name.
use Rattle.std.proofs.Common.{◌≡◌, ℕ, zero, suc, ◌<◌, ◌≤◌, List, [], ◌∷◌, ◌++◌, ◌⊎◌, inl, inr, refl, sym, ap, ◌∙◌, subst, append_assoc, append-nil}
use Rattle.std.proofs.Common.{Ok, Some, None, length, arith, Bool, true, false, cond}
use Rattle.sc_text.specs.declared.span.Span.{Span}
use Rattle.secrec_lexer.specs.Tokens.{is_sign, IsEnded}
use Rattle.secrec_lexer.specs.declared.sign.Sign.TheVariants as signs
use Rattle.secrec_lexer.specs.declared.token.TokenKind.TheVariants as kinds
use Rattle.secrec_lexer.specs.declared.token.Token.{Token}
use Rattle.program_trees.specs.Tree.{Tree, Trees, variable, call, none, also}
use Rattle.program_trees.specs.Heights.{height}
use Rattle.expression_parser.specs.Phrases.{Phrase, token, one_at, sign_at, sign, ◌then◌}
use Rattle.expression_parser.specs.Grammar.{IsExpression, AreArguments, AreMore, loosest}
use Rattle.expression_parser.specs.Follow.{goes_on, Free}
use Rattle.expression_parser.specs.Steps.{Outcome, ◌>>=◌, expect, least, more, more_at, some_arguments, arguments, call_behind, after_name}
use Rattle.expression_parser.proofs.Reading.{Good, Reads, Then, Only, Stops, cons_head, bind_reads, pure_reads, reads_as}
use Rattle.expression_parser.proofs.Tokens.{Any, origin, any_stops, good_ended, good_shorter, head_kind, is_sign-true, is_sign-false, token_then}
use Rattle.expression_parser.proofs.Tokens.{Closing, closing, closes, sign_stops, closing_is, is_closing}
use Rattle.expression_parser.proofs.Nodes.{Low, Lows, tall, leaf, leaf_token, first_token}

-- a closing parenthesis stands after
abbrev pub IsClose : Trees → Token → Type 0
IsClose c x = x.kind ≡ kinds.Sign signs.RightParenthesis

closed : (c d : Trees) (m : List Token) → Stops (IsClose c) m → Stops (IsClose d) m
closed c d [] h = h
closed c d (y ∷ n) h = h

-- nothing of a call stands after a name
abbrev pub FreeName : Tree → Token → Type 0
FreeName c x = is_sign signs.LeftParenthesis x ≡ false

-- With room for h below a node, where `inner` reads expressions of at most that height.
module _ (h : ℕ) (inner : List Token → Outcome Tree)
    (reads_inner : (w : List Token) → IsEnded w → Reads (IsExpression loosest) (Low h) (Free loosest) w (inner w))
  where
    -- a comma, and the arguments after it
    CommaBody : Tree → Trees → Phrase
    CommaBody e = Then AreMore (λ es. Only (also e es))

    CommaPhrase : Trees → Phrase
    CommaPhrase = Then (λ q. sign_at q signs.Comma) (λ q. Then (IsExpression loosest) CommaBody)

    comma_up : (c : Trees) (s : List Token) → CommaPhrase c s → AreMore c s
    unfolding CommaPhrase CommaBody
    comma_up c s v =
        let b = v.5 in
        let d = b.5 in
        subst (λ z. AreMore z s) (sym d.5.0)
        (v.1, v.2, v.3, (v.0, v.4), (b.1, b.2, b.3, b.4, subst (AreMore d.0) (sym (d.3 ∙ ap (λ l. d.1 ++ l) d.5.1 ∙ append-nil d.1)) d.4))

    comma_down : (c : Trees) (s m m2 : List Token) (x : Token) → x.kind ≡ kinds.Sign signs.Comma → AreMore c s → Stops (IsClose c) m → s ++ m ≡ x ∷ m2
        → CommaPhrase c s
    unfolding CommaPhrase CommaBody
    comma_down none s [] m2 x k v st eq = absurd st
    comma_down none s (y ∷ m) m2 x k v st eq =
        let f = ap (λ (t : Token). t.kind) (cons_head (ap (λ l. l ++ y ∷ m) (sym v) ∙ eq)) in
        let g : kinds.Sign signs.RightParenthesis ≡ kinds.Sign signs.Comma = sym st ∙ f ∙ k in cc
    comma_down (also e es) s m m2 x k v st eq =
        let b = v.4 in
        (v.3.0, v.0, v.1, v.2, v.3.1, (e, b.0, b.1, b.2, b.3, (es, b.1, [], sym (append-nil b.1), b.4, (refl, refl))))

    -- no comma, no more arguments
    done_down : (c : Trees) (s m m2 : List Token) (x : Token) → (x.kind ≡ kinds.Sign signs.Comma → ⊥) → AreMore c s → s ++ m ≡ x ∷ m2 → Only none c s
    done_down none s m m2 x k v eq = (refl, v)
    done_down (also e es) s m m2 x k v eq =
        let q = v.3 in absurd (k (sym (head_kind s v.1 m m2 q.0 (kinds.Sign signs.Comma) x (v.2 ∙ ap (λ l. l ++ v.1) q.1) eq)))

    done_reads : (x : Token) (m : List Token) → (x.kind ≡ kinds.Sign signs.Comma → ⊥) → Good AreMore (Lows h) IsClose (x ∷ m) none (x ∷ m)
    done_reads x m k =
        reads_as (Only none) AreMore (Lows h) Any IsClose x (λ c s v. subst (λ z. AreMore z s) (sym v.0) v.1)
        (λ c s m' m2 v st eq. done_down c s m' m2 x k v eq) (λ c m' st. any_stops (IsClose c) [] m' st) (x ∷ m) m (Ok (none, x ∷ m)) refl
        (pure_reads (Lows h) Any (x ∷ m) x m none refl (omega arith))

    more_first : (c : Trees) (e : Tree) (t m : List Token) → AreMore c t → Stops (IsClose c) m → Stops (Free loosest e) (t ++ m)
    more_first none e t [] v st = absurd st
    more_first none e t (y ∷ m) v st =
        let f : goes_on loosest y.kind ≡ false = ap (goes_on loosest) st in
        subst (λ l. Stops (Free loosest e) (l ++ y ∷ m)) (sym v) f
    more_first (also d es) e t m v st =
        let q = v.3 in
        subst (λ l. Stops (Free loosest e) (l ++ m)) (sym (v.2 ∙ ap (λ l. l ++ v.1) q.1)) refl

    body_first : (c : Trees) (e : Tree) (t m : List Token) → CommaBody e c t → Stops (IsClose c) m → Stops (Free loosest e) (t ++ m)
    unfolding CommaBody
    body_first c e t m v st =
        let at : t ≡ v.1 = v.3 ∙ ap (λ l. v.1 ++ l) v.5.1 ∙ append-nil v.1 in
        subst (λ l. Stops (Free loosest e) (l ++ m)) (sym at) (more_first v.0 e v.1 m v.4 (closed c v.0 m st))

    comma_body_reads : (e : Tree) → height e ≤ h → (w : List Token) (o : Outcome Trees) → Reads AreMore (Lows h) IsClose w o
        → Reads (CommaBody e) (Lows h) IsClose w (o >>= λ es. Ok (also e es.0, es.1))
    unfolding CommaBody
    comma_body_reads e low w o r =
        bind_reads AreMore (Lows h) IsClose (λ es. Only (also e es)) (Lows h) IsClose
        (λ es c t v f. let f2 = subst (Lows h) v.0 f in omega arith)
        (λ es c t m v st. subst (λ l. Stops (IsClose es) (l ++ m)) (sym v.1) (closed c es m st))
        (λ es s v f. (also e es, [], (refl, refl), omega arith))
        (λ es s v. (also e es, [], (refl, refl)))
        w o (λ es. Ok (also e es.0, es.1)) r
        (λ es r g. let f = g.fits in pure_reads (Lows h) IsClose r g.x g.m (also e es) g.rest (omega arith))

    -- an argument, and those after it
    one_reads : (again : List Token → Outcome Trees) (w : List Token) → IsEnded w
        → ((r : List Token) → IsEnded r → length r ≤ length w → 0 < h → Reads AreMore (Lows h) IsClose r (again r))
        → Reads (Then (IsExpression loosest) CommaBody) (Lows h) IsClose w (inner w >>= λ e. again e.1 >>= λ es. Ok (also e.0 es.0, es.1))
    one_reads again w en k =
        bind_reads (IsExpression loosest) (Low h) (Free loosest) CommaBody (Lows h) IsClose
        (λ e c t v f. unfold CommaBody in (let f2 = subst (Lows h) v.5.0 f in omega arith))
        (λ e c t m v st. body_first c e t m v st)
        (λ e s v f. (also e none, [], unfold CommaBody in (none, [], [], refl, refl, (refl, refl)), omega arith))
        (λ e s v. (also e none, [], unfold CommaBody in (none, [], [], refl, refl, (refl, refl))))
        w (inner w) (λ e. again e.1 >>= λ es. Ok (also e.0 es.0, es.1)) (reads_inner w en)
        (λ e r g. comma_body_reads e g.fits r (again r) (let low = g.fits in let up = tall e in k r (good_ended g en) (good_shorter g) (omega arith)))

    more_reads_at : (n : ℕ) (x : Token) (m : List Token) → 0 < h → IsEnded (x ∷ m)
        → ((r : List Token) → IsEnded r → length r ≤ length m → Reads AreMore (Lows h) IsClose r (more inner n r))
        → Reads AreMore (Lows h) IsClose (x ∷ m) (more_at inner (more inner n) x m)
    more_reads_at n x m max_height en ih = go (is_sign signs.Comma x) refl
      where
        go : (b : Bool) → is_sign signs.Comma x ≡ b
            → Reads AreMore (Lows h) IsClose (x ∷ m) (cond b (inner m >>= λ e. more inner n e.1 >>= λ es. Ok (also e.0 es.0, es.1)) (Ok (none, x ∷ m)))
        go true t =
            let k = is_sign-true signs.Comma x t in
            let o = inner m >>= λ e. more inner n e.1 >>= λ es. Ok (also e.0 es.0, es.1) in
            reads_as CommaPhrase AreMore (Lows h) IsClose IsClose x comma_up (λ c s m' m2 v st eq. comma_down c s m' m2 x k v st eq) (λ c m' st. st)
            (x ∷ m) m o refl
            (unfold CommaPhrase in token_then (kinds.Sign signs.Comma) (λ q. Then (IsExpression loosest) CommaBody) (Lows h) IsClose refl
            (λ q. (
              also leaf none,
              leaf_token ∷ [],
              (leaf, leaf_token ∷ [], [], refl, refl, unfold CommaBody in (none, [], [], refl, refl, (refl, refl))),
              omega arith,
            ))
            x m o k en (λ en2. one_reads (more inner n) m en2 (λ r enr le room2. ih r enr le)))
        go false t = done_reads x m (is_sign-false signs.Comma x t)

    more_reads : (n : ℕ) (w : List Token) → 0 < h → length w ≤ n → IsEnded w → Reads AreMore (Lows h) IsClose w (more inner n w)
    unfolding more
    more_reads n [] max_height le en = cc
    more_reads zero (x ∷ m) max_height le en = absurd (omega arith)
    more_reads (suc n) (x ∷ m) max_height le en = more_reads_at n x m max_height en (λ r enr le2. more_reads n r max_height (omega arith) enr)

    SomeArguments : Trees → Phrase
    SomeArguments = Then (IsExpression loosest) CommaBody

    some_up : (c : Trees) (s : List Token) → SomeArguments c s → AreArguments c s
    unfolding SomeArguments CommaBody
    some_up c s v =
        let d = v.5 in
        subst (λ z. AreArguments z s) (sym d.5.0) (v.1, v.2, v.3, v.4, subst (AreMore d.0) (sym (d.3 ∙ ap (λ l. d.1 ++ l) d.5.1 ∙ append-nil d.1)) d.4)

    some_down : (c : Trees) (s m m2 : List Token) (x : Token) → (x.kind ≡ kinds.Sign signs.RightParenthesis → ⊥) → AreArguments c s
        → Stops (IsClose c) m → s ++ m ≡ x ∷ m2 → SomeArguments c s
    unfolding SomeArguments CommaBody
    some_down none s [] m2 x k v st eq = absurd st
    some_down none s (y ∷ m) m2 x k v st eq = absurd (k (ap (λ (t : Token). t.kind) (sym (cons_head (ap (λ l. l ++ y ∷ m) (sym v) ∙ eq))) ∙ st))
    some_down (also e es) s m m2 x k v st eq = (e, v.0, v.1, v.2, v.3, (es, v.1, [], sym (append-nil v.1), v.4, (refl, refl)))

    none_down : (c : Trees) (s m m2 : List Token) (x : Token) → x.kind ≡ kinds.Sign signs.RightParenthesis → AreArguments c s → s ++ m ≡ x ∷ m2 → Only none c s
    none_down none s m m2 x k v eq = (refl, v)
    none_down (also e es) s m m2 x k v eq =
        let f = first_token loosest e v.0 (v.1 ++ m) m2 x v.3 (sym (append_assoc v.0 v.1 m) ∙ ap (λ l. l ++ m) (sym v.2) ∙ eq) in
        let g : None ≡ Some f.0 = ap least (sym k) ∙ f.1 in cc

    some_reads : (x : Token) (m : List Token) → (x.kind ≡ kinds.Sign signs.RightParenthesis → ⊥) → IsEnded (x ∷ m)
        → Reads AreArguments (Lows h) IsClose (x ∷ m) (some_arguments inner (x ∷ m))
    some_reads x m k en =
        reads_as SomeArguments AreArguments (Lows h) IsClose IsClose x some_up (λ c s m' m2 v st eq. some_down c s m' m2 x k v st eq) (λ c m' st. st)
        (x ∷ m) m (some_arguments inner (x ∷ m)) refl
        (unfold SomeArguments in one_reads (λ r. more inner (length r) r) (x ∷ m) en
        (λ r enr le max_height. more_reads (length r) r max_height (omega arith) enr))

    arguments_reads : (w : List Token) → IsEnded w → Reads AreArguments (Lows h) IsClose w (arguments inner w)
    unfolding arguments
    arguments_reads [] en = cc
    arguments_reads (x ∷ m) en = go (is_sign signs.RightParenthesis x) refl
      where
        go : (b : Bool) → is_sign signs.RightParenthesis x ≡ b
            → Reads AreArguments (Lows h) IsClose (x ∷ m) (cond b (Ok (none, x ∷ m)) (some_arguments inner (x ∷ m)))
        go true t =
            reads_as (Only none) AreArguments (Lows h) Any IsClose x (λ c s v. subst (λ z. AreArguments z s) (sym v.0) v.1)
            (λ c s m' m2 v st eq. none_down c s m' m2 x (is_sign-true signs.RightParenthesis x t) v eq)
            (λ c m' st. any_stops (IsClose c) [] m' st) (x ∷ m) m (Ok (none, x ∷ m)) refl
            (pure_reads (Lows h) Any (x ∷ m) x m none refl (omega arith))
        go false t = some_reads x m (is_sign-false signs.RightParenthesis x t) en

    -- a call after its name
    CallBody : Span → List ℕ → Tree → Phrase
    CallBody p bytes = Then AreArguments (λ es. Closing signs.RightParenthesis (call p bytes es))

    call_body_reads : (p : Span) (bytes : List ℕ) (w : List Token) → IsEnded w → Reads (CallBody p bytes) (Low (suc h)) Any w (call_behind inner p bytes w)
    unfolding CallBody
    call_body_reads p bytes w en =
        bind_reads AreArguments (Lows h) IsClose (λ es. Closing signs.RightParenthesis (call p bytes es)) (Low (suc h)) Any
        (λ es c t v f. let f2 = subst (Low (suc h)) v.5.0 f in omega arith)
        (λ es c t m v st. sign_stops (IsClose es) signs.RightParenthesis (Only (call p bytes es)) c t m (λ q. refl) v)
        (λ es s v f. (call p bytes es, token origin (kinds.Sign signs.RightParenthesis) ∷ [], closes signs.RightParenthesis (call p bytes es), omega arith))
        (λ es s v. (call p bytes es, token origin (kinds.Sign signs.RightParenthesis) ∷ [], closes signs.RightParenthesis (call p bytes es)))
        w (arguments inner w) (λ es. expect signs.RightParenthesis es.1 >>= λ q. Ok (call p bytes es.0, q.1)) (arguments_reads w en)
        (λ es r g. let low = g.fits in closing signs.RightParenthesis (Low (suc h)) (call p bytes es) (omega arith) r (good_ended g en))

    CallTail : Span → List ℕ → Tree → Phrase
    CallTail p bytes = Then (λ q. sign_at q signs.LeftParenthesis) (λ q. CallBody p bytes)

    -- what follows a name
    NameTail : Span → List ℕ → Tree → Phrase
    NameTail p bytes c ts = Only (variable p bytes) c ts ⊎ CallTail p bytes c ts

    after_name_call : (p : Span) (bytes : List ℕ) (y : Token) (m : List Token) → is_sign signs.LeftParenthesis y ≡ true → IsEnded (y ∷ m)
        → Reads (NameTail p bytes) (Low (suc h)) FreeName (y ∷ m) (call_behind inner p bytes m)
    unfolding NameTail CallTail
    after_name_call p bytes y m test en =
        let close = token origin (kinds.Sign signs.RightParenthesis) in
        reads_as (CallTail p bytes) (NameTail p bytes) (Low (suc h)) Any FreeName y (λ c s v. inr v) (λ c s m' m2 u st eq. go c s m' m2 u st eq)
        (λ c m' st. any_stops (FreeName c) [] m' st) (y ∷ m) m (call_behind inner p bytes m) refl
        (token_then (kinds.Sign signs.LeftParenthesis) (λ q. CallBody p bytes) (Low (suc h)) Any refl
        (λ q. (
          call p bytes none,
          close ∷ [],
          unfold CallBody in
              (none, [], close ∷ [], refl, refl, closes signs.RightParenthesis (call p bytes none)),
          omega arith,
        ))
        y m (call_behind inner p bytes m) (is_sign-true signs.LeftParenthesis y test) en (λ en2. call_body_reads p bytes m en2))
      where
        go : (c : Tree) (s m' m2 : List Token) → NameTail p bytes c s → Stops (FreeName c) m' → s ++ m' ≡ y ∷ m2 → CallTail p bytes c s
        go c s [] m2 (inl u) st eq = absurd st
        go c s (z ∷ m') m2 (inl u) st eq =
            let f : is_sign signs.LeftParenthesis y ≡ false =
            ap (is_sign signs.LeftParenthesis) (sym (cons_head (ap (λ l. l ++ z ∷ m') (sym u.1) ∙ eq))) ∙ st in
            let g : true ≡ false = sym test ∙ f in cc
        go c s m' m2 (inr u) st eq = u

    after_name_alone : (p : Span) (bytes : List ℕ) (y : Token) (m : List Token) → (y.kind ≡ kinds.Sign signs.LeftParenthesis → ⊥)
        → Good (NameTail p bytes) (Low (suc h)) FreeName (y ∷ m) (variable p bytes) (y ∷ m)
    unfolding NameTail CallTail
    after_name_alone p bytes y m k =
        reads_as (Only (variable p bytes)) (NameTail p bytes) (Low (suc h)) Any FreeName y (λ c s v. inl v) (λ c s m' m2 u st eq. go c s m' m2 u eq)
        (λ c m' st. any_stops (FreeName c) [] m' st) (y ∷ m) m (Ok (variable p bytes, y ∷ m)) refl
        (pure_reads (Low (suc h)) Any (y ∷ m) y m (variable p bytes) refl (omega arith))
      where
        go : (c : Tree) (s m' m2 : List Token) → NameTail p bytes c s → s ++ m' ≡ y ∷ m2 → Only (variable p bytes) c s
        go c s m' m2 (inl u) eq = u
        go c s m' m2 (inr u) eq = absurd (k (sym (head_kind s u.2 m' m2 u.0 (kinds.Sign signs.LeftParenthesis) y (u.3 ∙ ap (λ l. l ++ u.2) u.4) eq)))

    after_name_reads : (p : Span) (bytes : List ℕ) (w : List Token) → IsEnded w → Reads (NameTail p bytes) (Low (suc h)) FreeName w (after_name inner p bytes w)
    unfolding after_name
    after_name_reads p bytes [] en = cc
    after_name_reads p bytes (y ∷ m) en = go (is_sign signs.LeftParenthesis y) refl
      where
        go : (b : Bool) → is_sign signs.LeftParenthesis y ≡ b
            → Reads (NameTail p bytes) (Low (suc h)) FreeName (y ∷ m) (cond b (call_behind inner p bytes m) (Ok (variable p bytes, y ∷ m)))
        go true t = after_name_call p bytes y m t en
        go false t = after_name_alone p bytes y m (is_sign-false signs.LeftParenthesis y t)

    pub NamePhrase : List ℕ → Tree → Phrase
    NamePhrase bytes = Then (λ p. one_at p (kinds.Name bytes)) (λ p. NameTail p bytes)

    -- a name, and what follows it: a variable or a call
    pub name_cases : (bytes : List ℕ) (c : Tree) (s : List Token) → NamePhrase bytes c s
        → ((p : Span) × (c ≡ variable p bytes) × one_at p (kinds.Name bytes) s)
        ⊎ ((p : Span) × (es : Trees) × (c ≡ call p bytes es)
        × (one_at p (kinds.Name bytes) then sign signs.LeftParenthesis then AreArguments es then sign signs.RightParenthesis) s)
    unfolding NamePhrase NameTail CallTail CallBody
    name_cases bytes c s (p, s1, t1, e, o, inl u) =
        inl (p, u.0, e ∙ ap (λ l. l ++ t1) o ∙ ap (λ l. token p (kinds.Name bytes) ∷ l) u.1)
    name_cases bytes c s (p, s1, t1, e, o, inr u) =
        let b = u.5 in
        let d = closing_is signs.RightParenthesis (call p bytes b.0) c b.2 b.5 in
        inr (p, b.0, d.0, (s1, t1, e, o, (u.1, u.2, u.3, (u.0, u.4), (b.1, b.2, b.3, b.4, d.1))))

    pub variable_named : (p : Span) (bytes : List ℕ) (s : List Token) → one_at p (kinds.Name bytes) s → NamePhrase bytes (variable p bytes) s
    unfolding NamePhrase NameTail
    variable_named p bytes s v = (p, s, [], sym (append-nil s), v, inl (refl, refl))

    pub call_named : (p : Span) (bytes : List ℕ) (es : Trees) (s : List Token)
        → (one_at p (kinds.Name bytes) then sign signs.LeftParenthesis then AreArguments es then sign signs.RightParenthesis) s
        → NamePhrase bytes (call p bytes es) s
    unfolding NamePhrase NameTail CallTail CallBody
    call_named p bytes es s u =
        let b = u.4 in
        let d = b.4 in
        (p, u.0, u.1, u.2, u.3, inr (b.3.0, b.0, b.1, b.2, b.3.1, (es, d.0, d.1, d.2, d.3, is_closing signs.RightParenthesis (call p bytes es) d.1 d.4)))

    pub name_reads : (bytes : List ℕ) (x : Token) (m : List Token) → x.kind ≡ kinds.Name bytes → IsEnded (x ∷ m)
        → Reads (NamePhrase bytes) (Low (suc h)) FreeName (x ∷ m) (after_name inner x.place bytes m)
    unfolding NamePhrase
    name_reads bytes x m k en =
        token_then (kinds.Name bytes) (λ p. NameTail p bytes) (Low (suc h)) FreeName refl
        (λ p. (variable p bytes, [], unfold NameTail in inl (refl, refl), omega arith))
        x m (after_name inner x.place bytes m) k en (λ en2. after_name_reads x.place bytes m en2)
