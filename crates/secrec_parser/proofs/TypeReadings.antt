-- Readings of types.
use Rattle.std.proofs.Common.{◌≡◌, ℕ, List, [], ◌∷◌, ◌++◌, inl, inr, refl, sym, ap, ◌∙◌, subst, Ok, Err, Bool, true, false, cond}
use Rattle.std.specs.Prelude.{nat_eq}
use Rattle.std.proofs.lemmas.Bool.{eqb-true, eqb-false}
use Rattle.sc_text.specs.declared.span.Span.{Span}
use Rattle.secrec_lexer.specs.declared.sign.Sign.{Sign}
use Rattle.secrec_lexer.specs.declared.sign.Sign.TheVariants as signs
use Rattle.secrec_lexer.specs.declared.token.TokenKind.{TokenKind}
use Rattle.secrec_lexer.specs.declared.token.TokenKind.TheVariants as kinds
use Rattle.secrec_lexer.specs.declared.token.Token.{Token}
use Rattle.secrec_lexer.specs.Tokens.{is_sign, IsEnded}
use Rattle.program_trees.specs.declared.expression.DataType.{DataType}
use Rattle.program_trees.specs.declared.expression.DataType.TheVariants as types
use Rattle.program_trees.specs.declared.statement.Identifier.{Identifier}
use Rattle.program_trees.specs.declared.statement.Domain.{Domain}
use Rattle.program_trees.specs.declared.statement.Domain.TheVariants as domains
use Rattle.program_trees.specs.declared.statement.DeclaredType.{DeclaredType}
use Rattle.expression_parser.specs.declared.problem.ParseProblem.TheVariants.{Unexpected}
use Rattle.expression_parser.specs.Phrases.{Phrase, token, one, sign, ◌then◌}
use Rattle.expression_parser.specs.Grammar.{IsDataType}
use Rattle.expression_parser.specs.Steps.{Outcome, ◌>>=◌, expect, data_type}
use Rattle.expression_parser.specs.Steps as expressions
use Rattle.expression_parser.proofs.Reading.{Good, Bad, Reads, Stops, cons_head, reads_as}
use Rattle.expression_parser.proofs.Tokens.{Any, All, origin, any_stops, good_ended, after_kind, head_kind, is_sign-true, is_sign-false}
use Rattle.expression_parser.proofs.Unaries.{data_type_reads}
use Rattle.secrec_parser.specs.Grammar.{identifier, BeginsAt, IsDomain, IsDimension, IsType}
use Rattle.secrec_parser.specs.inner.Steps.{domain_of, zero_or_one, zero_or_one_of, brackets, dimension, declared_type}
use Rattle.secrec_parser.proofs.Made.{Made, Both, seq, made, sign_seq, sign_end}
use Rattle.secrec_parser.proofs.Heads.{nothing_reads, one_reads, unexpected, reads_placed}

-- one token is the next
pub one_is : (k : TokenKind) (s m m2 : List Token) (x : Token) → one k s → s ++ m ≡ x ∷ m2 → (x.kind ≡ k) × (s ≡ x ∷ [])
one_is k s m m2 x v eq =
    let hd : token v.0 k ≡ x = cons_head (sym (ap (λ l. l ++ m) v.1) ∙ eq) in
    (sym (ap (λ (t : Token). t.kind) hd), v.1 ∙ ap (λ t. t ∷ []) hd)

pub is_one : (k : TokenKind) (x : Token) → x.kind ≡ k → one k (x ∷ [])
is_one k x e = (x.place, ap (λ z. token x.place z ∷ []) e)

-- a name is the next token
pub identifier_is : (y : Identifier) (s m m2 : List Token) (x : Token) → identifier y s → s ++ m ≡ x ∷ m2
    → (x.kind ≡ kinds.Name y.text) × (x.place ≡ y.place) × (s ≡ x ∷ [])
identifier_is y s m m2 x v eq =
    let hd : token y.place (kinds.Name y.text) ≡ x = cons_head (sym (ap (λ l. l ++ m) v) ∙ eq) in
    (sym (ap (λ (t : Token). t.kind) hd), sym (ap (λ (t : Token). t.place) hd), v ∙ ap (λ t. t ∷ []) hd)

pub same_name : (y : Identifier) (x : Token) (text : List ℕ) → x.kind ≡ kinds.Name y.text → x.place ≡ y.place → x.kind ≡ kinds.Name text
    → y ≡ record { place = x.place; text = text }
same_name y x text k p e =
    let n : kinds.Name y.text ≡ kinds.Name text = sym k ∙ e in
    let t : y.text ≡ text = cc in
    ap (λ q. record { place = q; text = y.text }) (sym p) ∙ ap (λ u. record { place = x.place; text = u }) t

-- Domains

abbrev pub sign_begins_domain : Sign → Bool
sign_begins_domain signs.Public = true
sign_begins_domain other = false

abbrev pub begins_domain : TokenKind → Bool
begins_domain (kinds.Name bytes) = true
begins_domain (kinds.Number n) = false
begins_domain (kinds.Text bytes) = false
begins_domain (kinds.Sign s) = sign_begins_domain s
begins_domain kinds.End = false

abbrev pub NoDomain : Domain → Token → Type 0
NoDomain d x = begins_domain x.kind ≡ false

at_head : {C : Type 0} (F : C → Token → Type 0) (c : C) (s m m2 : List Token) (x : Token) → s ≡ [] → Stops (F c) m → s ++ m ≡ x ∷ m2 → F c x
at_head F c s m m2 x n st eq = subst (Stops (F c)) (ap (λ l. l ++ m) (sym n) ∙ eq) st

named_reads : (x : Token) (m : List Token) (text : List ℕ) → IsEnded (x ∷ m) → x.kind ≡ kinds.Name text
    → Good IsDomain All NoDomain (x ∷ m) (domains.Named (record { place = x.place; text = text })) m
named_reads x m text en e =
    one_reads IsDomain All NoDomain x m (domains.Named (record { place = x.place; text = text })) (after_kind x m (kinds.Name text) en e refl)
    (ap (λ k. token x.place k ∷ []) e) tt go
  where
    go : (b : Domain) (s m' m2 : List Token) → IsDomain b s → Stops (NoDomain b) m' → s ++ m' ≡ x ∷ m2
        → (b ≡ domains.Named (record { place = x.place; text = text })) × (s ≡ x ∷ [])
    go domains.Public s m' m2 (inl n) st eq =
        let f = at_head NoDomain domains.Public s m' m2 x n st eq in
        let g : begins_domain x.kind ≡ true = ap begins_domain e in cc
    go domains.Public s m' m2 (inr v) st eq = let f = one_is (kinds.Sign signs.Public) s m' m2 x v eq in
        let g : kinds.Sign signs.Public ≡ kinds.Name text = sym f.0 ∙ e in cc
    go (domains.Named y) s m' m2 v st eq =
        let f = identifier_is y s m' m2 x v eq in
        (ap domains.Named (same_name y x text f.0 f.1 e), f.2)

unnamed_reads : (x : Token) (m : List Token) → IsEnded (x ∷ m) → ((text : List ℕ) → x.kind ≡ kinds.Name text → ⊥)
    → Reads IsDomain All NoDomain (x ∷ m) (cond (is_sign signs.Public x) (Ok (domains.Public, m)) (Ok (domains.Public, x ∷ m)))
unnamed_reads x m en other = go (is_sign signs.Public x) refl
  where
    go : (b : Bool) → is_sign signs.Public x ≡ b → Reads IsDomain All NoDomain (x ∷ m) (cond b (Ok (domains.Public, m)) (Ok (domains.Public, x ∷ m)))
    go true t =
        let k = is_sign-true signs.Public x t in
        one_reads IsDomain All NoDomain x m domains.Public (after_kind x m (kinds.Sign signs.Public) en k refl)
        (inr (is_one (kinds.Sign signs.Public) x k)) tt (only k)
      where
        only : x.kind ≡ kinds.Sign signs.Public → (b : Domain) (s m' m2 : List Token) → IsDomain b s → Stops (NoDomain b) m' → s ++ m' ≡ x ∷ m2
            → (b ≡ domains.Public) × (s ≡ x ∷ [])
        only k domains.Public s m' m2 (inl n) st eq =
            let f = at_head NoDomain domains.Public s m' m2 x n st eq in
            let g : begins_domain x.kind ≡ true = ap begins_domain k in cc
        only k domains.Public s m' m2 (inr v) st eq = (refl, (one_is (kinds.Sign signs.Public) s m' m2 x v eq).1)
        only k (domains.Named y) s m' m2 v st eq = absurd (other y.text (identifier_is y s m' m2 x v eq).0)
    go false t = nothing_reads IsDomain All NoDomain x m domains.Public (inl refl) tt only
      where
        only : (b : Domain) (s m' m2 : List Token) → IsDomain b s → Stops (NoDomain b) m' → s ++ m' ≡ x ∷ m2 → (b ≡ domains.Public) × (s ≡ [])
        only domains.Public s m' m2 (inl n) st eq = (refl, n)
        only domains.Public s m' m2 (inr v) st eq = absurd (is_sign-false signs.Public x t (one_is (kinds.Sign signs.Public) s m' m2 x v eq).0)
        only (domains.Named y) s m' m2 v st eq = absurd (other y.text (identifier_is y s m' m2 x v eq).0)

domain_reads : (x : Token) (m : List Token) → IsEnded (x ∷ m) → Reads IsDomain All NoDomain (x ∷ m) (domain_of x.kind x m)
domain_reads x m en = go x.kind refl
  where
    go : (k : TokenKind) → x.kind ≡ k → Reads IsDomain All NoDomain (x ∷ m) (domain_of k x m)
    go (kinds.Name text) e = named_reads x m text en e
    go (kinds.Number n) e = unnamed_reads x m en (λ text f. let g : kinds.Number n ≡ kinds.Name text = sym e ∙ f in cc)
    go (kinds.Text bytes) e = unnamed_reads x m en (λ text f. let g : kinds.Text bytes ≡ kinds.Name text = sym e ∙ f in cc)
    go (kinds.Sign s) e = unnamed_reads x m en (λ text f. let g : kinds.Sign s ≡ kinds.Name text = sym e ∙ f in cc)
    go kinds.End e = unnamed_reads x m en (λ text f. let g : kinds.End ≡ kinds.Name text = sym e ∙ f in cc)

-- Dimensions

abbrev bit : Bool → ℕ
bit false = 0
bit true = 1

abbrev pub Bit : Bool → Phrase
Bit b = one (kinds.Number (bit b))

bit_is : (n : ℕ) (b : Bool) (s m m2 : List Token) (x : Token) → x.kind ≡ kinds.Number n → Bit b s → s ++ m ≡ x ∷ m2 → (bit b ≡ n) × (s ≡ x ∷ [])
bit_is n b s m m2 x e v eq =
    let f = one_is (kinds.Number (bit b)) s m m2 x v eq in
    let g : kinds.Number (bit b) ≡ kinds.Number n = sym f.0 ∙ e in
    (cc, f.1)

bit_reads : (w : List Token) → IsEnded w → Reads Bit All Any w (zero_or_one w)
bit_reads [] en = cc
bit_reads (x ∷ m) en = go x.kind refl
  where
    none : (k : TokenKind) → x.kind ≡ k → ((n : ℕ) → k ≡ kinds.Number n → ⊥) → Bad Bit All Any (x ∷ m) Unexpected (x ∷ m)
    none k e other = unexpected Bit All Any x m (λ b s m' m2 v st eq. other (bit b) (sym e ∙ (one_is (kinds.Number (bit b)) s m' m2 x v eq).0))

    found : (n : ℕ) (b : Bool) → x.kind ≡ kinds.Number n → n ≡ bit b → ((c : Bool) → bit c ≡ bit b → c ≡ b) → Good Bit All Any (x ∷ m) b m
    found n b e is only =
        one_reads Bit All Any x m b (after_kind x m (kinds.Number n) en e refl) (is_one (kinds.Number (bit b)) x (e ∙ ap kinds.Number is)) tt
        (λ c s m' m2 v st eq. let f = bit_is n c s m' m2 x e v eq in (only c (f.0 ∙ is), f.1))

    one_false : (c : Bool) → bit c ≡ 0 → c ≡ false
    one_false false e = refl
    one_false true e = cc

    one_true : (c : Bool) → bit c ≡ 1 → c ≡ true
    one_true false e = cc
    one_true true e = refl

    at : (n : ℕ) → x.kind ≡ kinds.Number n → (a b : Bool) → nat_eq n 0 ≡ a → nat_eq n 1 ≡ b
        → Reads Bit All Any (x ∷ m) (cond a (Ok (false, m)) (cond b (Ok (true, m)) (Err (Unexpected, x ∷ m))))
    at n e true b t u = found n false e (eqb-true n 0 t) one_false
    at n e false true t u = found n true e (eqb-true n 1 u) one_true
    at n e false false t u = unexpected Bit All Any x m go2
      where
        go2 : (b : Bool) (s m' m2 : List Token) → Bit b s → Stops (Any b) m' → s ++ m' ≡ x ∷ m2 → ⊥
        go2 false s m' m2 v st eq = eqb-false n 0 t (sym (bit_is n false s m' m2 x e v eq).0)
        go2 true s m' m2 v st eq = eqb-false n 1 u (sym (bit_is n true s m' m2 x e v eq).0)

    go : (k : TokenKind) → x.kind ≡ k → Reads Bit All Any (x ∷ m) (zero_or_one_of k x m)
    go (kinds.Number n) e = at n e (nat_eq n 0) (nat_eq n 1) refl refl
    go (kinds.Name text) e = none (kinds.Name text) e (λ n (f : kinds.Name text ≡ kinds.Number n). cc)
    go (kinds.Text bytes) e = none (kinds.Text bytes) e (λ n (f : kinds.Text bytes ≡ kinds.Number n). cc)
    go (kinds.Sign s) e = none (kinds.Sign s) e (λ n (f : kinds.Sign s ≡ kinds.Number n). cc)
    go kinds.End e = none kinds.End e (λ n (f : kinds.End ≡ kinds.Number n). cc)

abbrev Ends : Bool × Unit {0} → Phrase
Ends = Both Bit (λ b (u : Unit {0}). sign signs.RightBracket then sign signs.RightBracket)

abbrev pub lone : Sign → List Token
lone s = token origin (kinds.Sign s) ∷ []

ends : (u : Unit {0}) → (sign signs.RightBracket then sign signs.RightBracket) (lone signs.RightBracket ++ lone signs.RightBracket)
ends u = (lone signs.RightBracket, lone signs.RightBracket, refl, (origin, refl), (origin, refl))

abbrev pub zero_token : Token
zero_token = token origin (kinds.Number 0)

some_ends : Ends (false, tt) (zero_token ∷ lone signs.RightBracket ++ lone signs.RightBracket)
some_ends = (zero_token ∷ [], lone signs.RightBracket ++ lone signs.RightBracket, refl, (origin, refl), ends tt)

brackets_reads : (w : List Token) → IsEnded w
    → Reads (Made (λ (v : Bool × Unit {0}). v.0) (λ v. sign signs.LeftBracket then (sign signs.LeftBracket then Ends v))) All Any w (brackets w)
brackets_reads w en =
    sign_seq signs.LeftBracket (λ v. sign signs.LeftBracket then Ends v) (λ (v : Bool × Unit {0}). v.0) All Any (
      (false, tt),
      lone signs.LeftBracket ++ (zero_token ∷ lone signs.RightBracket ++ lone signs.RightBracket),
      (lone signs.LeftBracket, zero_token ∷ lone signs.RightBracket ++ lone signs.RightBracket, refl, (origin, refl), some_ends),
      tt,
    )
    w _ en (λ p r en2.
    sign_seq signs.LeftBracket Ends (λ (v : Bool × Unit {0}). v.0) All Any
    ((false, tt), zero_token ∷ lone signs.RightBracket ++ lone signs.RightBracket, some_ends, tt)
    r _ en2 (λ p2 r2 en3.
    seq Bit All Any (λ b (u : Unit {0}). sign signs.RightBracket then sign signs.RightBracket) (λ b u. b) All Any
    (λ a b t v f. tt)
    (λ a b t m v st. any_stops (λ z. Unit {0}) t m st)
    (λ a s v. (tt, lone signs.RightBracket ++ lone signs.RightBracket, ends tt, λ h. tt))
    r2 (zero_or_one r2) _ (bit_reads r2 en3) (λ b r3 is g.
    sign_seq signs.RightBracket (λ (u : Unit {0}). sign signs.RightBracket) (λ u. b) All Any
    (tt, lone signs.RightBracket, (origin, refl), tt)
    r3 _ (good_ended g en3) (λ p4 r4 en4. sign_end signs.RightBracket b All tt r4 en4))))

abbrev pub NoBracket : {C : Type 0} → C → Token → Type 0
NoBracket c x = is_sign signs.LeftBracket x ≡ false

abbrev Bracketed : Bool → Phrase
Bracketed = Made (λ (v : Bool × Unit {0}). v.0) (λ v. sign signs.LeftBracket then (sign signs.LeftBracket then Ends v))

dimension_reads : (w : List Token) → IsEnded w → Reads IsDimension All NoBracket w (dimension w)
dimension_reads [] en = cc
dimension_reads (x ∷ m) en = go (is_sign signs.LeftBracket x) refl
  where
    up_of : (b : Bool) (s : List Token) → (sign signs.LeftBracket then (sign signs.LeftBracket then Ends (b, tt))) s → IsDimension b s
    up_of false s v = inr v
    up_of true s v = v

    up : (c : Bool) (s : List Token) → Bracketed c s → IsDimension c s
    up c s v = subst (λ b. IsDimension b s) (sym v.1) (up_of v.0.0 s v.2)

    down : is_sign signs.LeftBracket x ≡ true → (c : Bool) (s m' m2 : List Token) → IsDimension c s → Stops (NoBracket c) m' → s ++ m' ≡ x ∷ m2 → Bracketed c s
    down t false s m' m2 (inl n) st eq = let f = at_head NoBracket false s m' m2 x n st eq in cc
    down t false s m' m2 (inr v) st eq = ((false, tt), refl, v)
    down t true s m' m2 v st eq = ((true, tt), refl, v)

    none : is_sign signs.LeftBracket x ≡ false → (c : Bool) (s m' m2 : List Token) → IsDimension c s → Stops (NoBracket c) m' → s ++ m' ≡ x ∷ m2
        → (c ≡ false) × (s ≡ [])
    none t false s m' m2 (inl n) st eq = (refl, n)
    none t false s m' m2 (inr v) st eq =
        let q = v.3 in
        absurd (is_sign-false signs.LeftBracket x t (sym (head_kind s v.1 m' m2 q.0 (kinds.Sign signs.LeftBracket) x (v.2 ∙ ap (λ l. l ++ v.1) q.1) eq)))
    none t true s m' m2 v st eq =
        let q = v.3 in
        absurd (is_sign-false signs.LeftBracket x t (sym (head_kind s v.1 m' m2 q.0 (kinds.Sign signs.LeftBracket) x (v.2 ∙ ap (λ l. l ++ v.1) q.1) eq)))

    go : (b : Bool) → is_sign signs.LeftBracket x ≡ b → Reads IsDimension All NoBracket (x ∷ m) (cond b (brackets (x ∷ m)) (Ok (false, x ∷ m)))
    go true t =
        reads_as Bracketed IsDimension All Any NoBracket x up (down t) (λ c m' st. any_stops (NoBracket c) [] m' st) (x ∷ m) m (brackets (x ∷ m)) refl
        (brackets_reads (x ∷ m) en)
    go false t = nothing_reads IsDimension All NoBracket x m false (inl refl) tt (none t)

-- Types

type_starts : (e : DataType) (s : List Token) → IsDataType e s → (q : Span) × (k : Sign) × (s ≡ token q (kinds.Sign k) ∷ [])
    × (begins_domain (kinds.Sign k) ≡ false)
type_starts types.Uint64 s (inl v) = (v.0, signs.Uint64, v.1, refl)
type_starts types.Uint64 s (inr v) = (v.0, signs.Uint, v.1, refl)
type_starts types.Int64 s (inl v) = (v.0, signs.Int64, v.1, refl)
type_starts types.Int64 s (inr v) = (v.0, signs.Int, v.1, refl)
type_starts types.Bool s v = (v.0, signs.Bool, v.1, refl)

abbrev Parts : Domain × (DataType × Bool) → Phrase
Parts = Both IsDomain (λ d. Both IsDataType (λ e. IsDimension))

abbrev type_at : Span → Domain × (DataType × Bool) → DeclaredType
type_at p v = record { place = p; domain = v.0; element = v.1.0; array = v.1.1 }

type_first : (d : Domain) (v : DataType × Bool) (t m : List Token) → (IsDataType v.0 then IsDimension v.1) t → Stops (NoDomain d) (t ++ m)
type_first d v t m w =
    let u = type_starts v.0 w.0 w.3 in
    subst (λ l. Stops (NoDomain d) (l ++ m)) (sym (w.2 ∙ ap (λ l. l ++ w.1) u.2)) u.3

abbrev pub uint_token : Token
uint_token = token origin (kinds.Sign signs.Uint64)

parts_reads : (x : Token) (m : List Token) → IsEnded (x ∷ m)
    → Reads (Made (type_at x.place) Parts) All NoBracket (x ∷ m)
    (domain_of x.kind x m >>= λ d. data_type d.1 >>= λ e. dimension e.1 >>= λ n. Ok (type_at x.place (d.0, (e.0, n.0)), n.1))
parts_reads x m en =
    seq IsDomain All NoDomain (λ d. Both IsDataType (λ e. IsDimension)) (λ d v. type_at x.place (d, v)) All NoBracket
    (λ d v t w f. tt)
    (λ d v t m' w st. type_first d v t m' w)
    (λ d s w. ((types.Uint64, false), uint_token ∷ [], (uint_token ∷ [], [], refl, inl (origin, refl), inl refl), λ f. tt))
    (x ∷ m) (domain_of x.kind x m) _ (domain_reads x m en) (λ d r is g.
    seq IsDataType All Any (λ e. IsDimension) (λ e n. type_at x.place (d, (e, n))) All NoBracket
    (λ e n t w f. tt)
    (λ e n t m' w st. any_stops (NoBracket n) t m' st)
    (λ e s w. (false, [], inl refl, λ f. tt))
    r (data_type r) _ (data_type_reads r (good_ended g en)) (λ e r2 is2 g2.
    made IsDimension All NoBracket (λ n. type_at x.place (d, (e, n))) All NoBracket
    (λ n f. tt) (λ n f. tt) (λ n m' st. same_stop n m' st)
    r2 (dimension r2) (dimension_reads r2 (good_ended g2 (good_ended g en)))))
  where
    same_stop : (n : Bool) (m : List Token) → Stops (λ t. is_sign signs.LeftBracket t ≡ false) m → Stops (NoBracket n) m
    same_stop n [] st = st
    same_stop n (y ∷ m) st = st

place_is : (s m m2 : List Token) (x : Token) (p : Span) → BeginsAt p s → s ++ m ≡ x ∷ m2 → x.place ≡ p
place_is [] m m2 x p b eq = absurd b
place_is (y ∷ s) m m2 x p b eq = ap (λ (t : Token). t.place) (sym (cons_head eq)) ∙ b

pub type_reads : (w : List Token) → IsEnded w → Reads IsType All NoBracket w (declared_type w)
unfolding declared_type
type_reads [] en = cc
type_reads (x ∷ m) en =
    reads_as (λ c s. BeginsAt x.place s × Made (type_at x.place) Parts c s) IsType All NoBracket NoBracket x up down (λ c m' st. st) (x ∷ m) m _ refl
    (reads_placed (Made (type_at x.place) Parts) All NoBracket x some m _ (parts_reads x m en))
  where
    some : (c : DeclaredType) → Made (type_at x.place) Parts c [] → ⊥
    some c v =
        let w = v.2 in
        let u = w.4 in
        let q = type_starts v.0.1.0 u.0 u.3 in
        let e : [] ≡ w.0 ++ (token q.0 (kinds.Sign q.1) ∷ u.1) = w.2 ∙ ap (λ l. w.0 ++ l) (u.2 ∙ ap (λ l. l ++ u.1) q.2) in
        no_cons w.0 (token q.0 (kinds.Sign q.1)) u.1 e
      where
        no_cons : (s : List Token) (y : Token) (t : List Token) → [] ≡ s ++ y ∷ t → ⊥
        no_cons [] y t e = cc
        no_cons (z ∷ s) y t e = cc

    up : (c : DeclaredType) (s : List Token) → BeginsAt x.place s × Made (type_at x.place) Parts c s → IsType c s
    up c s v = subst (λ z. IsType z s) (sym v.1.1) (v.0, v.1.2)

    down : (c : DeclaredType) (s m' m2 : List Token) → IsType c s → Stops (NoBracket c) m' → s ++ m' ≡ x ∷ m2
        → BeginsAt x.place s × Made (type_at x.place) Parts c s
    down c s m' m2 v st eq =
        let p = place_is s m' m2 x c.place v.0 eq in
        let e : c ≡ type_at x.place (c.domain, (c.element, c.array)) = ap (λ q. type_at q (c.domain, (c.element, c.array))) (sym p) in
        (subst (λ q. BeginsAt q s) (sym p) v.0, ((c.domain, (c.element, c.array)), e, v.1))

-- Names

pub identifier_reads : (w : List Token) → IsEnded w → Reads identifier All Any w (expressions.identifier w)
identifier_reads [] en = cc
identifier_reads (x ∷ m) en = go x.kind refl
  where
    none : (k : TokenKind) → x.kind ≡ k → ((text : List ℕ) → k ≡ kinds.Name text → ⊥) → Bad identifier All Any (x ∷ m) Unexpected (x ∷ m)
    none k e other = unexpected identifier All Any x m (λ y s m' m2 v st eq. other y.text (sym e ∙ (identifier_is y s m' m2 x v eq).0))

    go : (k : TokenKind) → x.kind ≡ k → Reads identifier All Any (x ∷ m) (expressions.identifier_of k x m)
    go (kinds.Name text) e =
        one_reads identifier All Any x m (record { place = x.place; text = text }) (after_kind x m (kinds.Name text) en e refl)
        (ap (λ k. token x.place k ∷ []) e) tt
        (λ y s m' m2 v st eq. let f = identifier_is y s m' m2 x v eq in (same_name y x text f.0 f.1 e, f.2))
    go (kinds.Number n) e = none (kinds.Number n) e (λ text (f : kinds.Number n ≡ kinds.Name text). cc)
    go (kinds.Text bytes) e = none (kinds.Text bytes) e (λ text (f : kinds.Text bytes ≡ kinds.Name text). cc)
    go (kinds.Sign s) e = none (kinds.Sign s) e (λ text (f : kinds.Sign s ≡ kinds.Name text). cc)
    go kinds.End e = none kinds.End e (λ text (f : kinds.End ≡ kinds.Name text). cc)
