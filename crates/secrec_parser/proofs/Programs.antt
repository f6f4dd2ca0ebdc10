-- Readings of programs, and what the whole parser answers.
use Rattle.std.proofs.Common.{◌≡◌, ℕ, zero, suc, ◌+◌, ◌<◌, ◌≤◌, List, [], ◌∷◌, ◌++◌, ◌⊎◌, inl, inr, refl, sym, ap, ◌∙◌, subst, append_assoc, Ok, Err}
use Rattle.std.proofs.Common.{Bool, true, false, cond, length, length-append, arith}
use Rattle.std.specs.Prelude.{◌&&◌, not}
use Rattle.sc_text.specs.declared.span.Span.{Span}
use Rattle.secrec_lexer.specs.declared.sign.Sign.{Sign}
use Rattle.secrec_lexer.specs.declared.sign.Sign.TheVariants as signs
use Rattle.secrec_lexer.specs.declared.token.TokenKind.{TokenKind}
use Rattle.secrec_lexer.specs.declared.token.TokenKind.TheVariants as kinds
use Rattle.secrec_lexer.specs.declared.token.Token.{Token}
use Rattle.secrec_lexer.specs.Tokens.{is_sign, is_end, is_ended, IsEnded}
use Rattle.program_trees.specs.declared.statement.Identifier.{Identifier}
use Rattle.program_trees.specs.declared.function.DomainVariable.{DomainVariable}
use Rattle.program_trees.specs.Programs.{FunctionTree, ItemTree, imports, kind, domain, defines, ProgramTree}
use Rattle.program_trees.specs.Heights.{function_height, items_height, program_height}
use Rattle.expression_parser.specs.declared.problem.ParseProblem.{ParseProblem}
use Rattle.expression_parser.specs.declared.problem.ParseProblem.TheVariants.{Unexpected, TooHigh}
use Rattle.expression_parser.specs.Phrases.{Phrase, token, one_at, sign, ◌then◌}
use Rattle.expression_parser.specs.Steps.{Outcome, ◌>>=◌, expect}
use Rattle.expression_parser.specs.Steps as expressions
use Rattle.expression_parser.proofs.Reading.{Good, Bad, Reads, Allowed, Stops, cons_head, cancel, reads_as}
use Rattle.expression_parser.proofs.Tokens.{Any, All, origin, any_stops, good_ended, is_sign-true, is_sign-false}
use Rattle.secrec_parser.specs.Grammar.{identifier, AreAll, IsTemplate, IsFunction, IsItem, IsProgram}
use Rattle.secrec_parser.specs.inner.Steps.{at_end, list_from, listed, place_at, named, domain_item, function_step, item_step, item, program}
use Rattle.secrec_parser.specs.declared.parse_err.ParseErr.{ParseErr}
use Rattle.secrec_parser.specs.FirstFault.{Begins, IsCause, IsFirstFault}
use Rattle.secrec_parser.specs.Answer.{RefusesAtFault, refusal_at}
use Rattle.secrec_parser.proofs.Made.{Made, Both, reads_same, seq, made, known, sign_end}
use Rattle.secrec_parser.proofs.TypeReadings.{lone, identifier_reads}
use Rattle.secrec_parser.proofs.Declarations.{clash, sign_head, some_name, name_token}
use Rattle.secrec_parser.proofs.Lists.{listed_reads}
use Rattle.secrec_parser.proofs.Leaders.{begins_type, front}
use Rattle.secrec_parser.proofs.Functions.{LowFunction, function_reads, result_head}

-- Items

abbrev pub LowItem : ℕ → ItemTree → Type 0
LowItem max_height (imports x) = Unit {0}
LowItem max_height (kind x) = Unit {0}
LowItem max_height (domain x k) = Unit {0}
LowItem max_height (defines f) = function_height f ≤ 2 + max_height

-- a name and a semicolon
abbrev Named : Identifier × Unit {0} → Phrase
Named = Both identifier (λ x (u : Unit {0}). sign signs.Semicolon)

named_reads : {C : Type 0} (f : Identifier → C) (Fits : C → Type 0) → ((x : Identifier) → Fits (f x)) → (w : List Token) → IsEnded w
    → Reads (Made (λ (v : Identifier × Unit {0}). f v.0) Named) Fits Any w (named w >>= λ x. Ok (f x.0, x.1))
named_reads f Fits fits w en =
    reads_same (Made f (Made (λ (v : Identifier × Unit {0}). v.0) Named)) (Made (λ (v : Identifier × Unit {0}). f v.0) Named) Fits Any Any
    (λ c s v. (v.2.0, v.1 ∙ ap f v.2.1, v.2.2)) (λ c s v. (v.0.0, v.1, (v.0, refl, v.2))) (λ c m st. st) w _
    (made (Made (λ (v : Identifier × Unit {0}). v.0) Named) All Any f Fits Any (λ x g. tt) (λ x g. fits x)
    (λ x m st. any_stops (λ y. Unit {0}) [] m st) w (named w)
    (seq identifier All Any (λ x (u : Unit {0}). sign signs.Semicolon) (λ x u. x) All Any
    (λ x u t v g. tt) (λ x u t m v st. any_stops (λ y. Unit {0}) t m st) (λ x s v. (tt, lone signs.Semicolon, (origin, refl), λ g. tt))
    w (expressions.identifier w) _ (identifier_reads w en) (λ x r is g. sign_end signs.Semicolon x All tt r (good_ended g en))))

-- what a function begins with
abbrev FunctionKind : TokenKind → Type 0
FunctionKind k = (k ≡ kinds.Sign signs.Template) ⊎ ((k ≡ kinds.Sign signs.Void) ⊎ (begins_type k ≡ true))

function_head : (f : FunctionTree) (s m m2 : List Token) (x : Token) → IsFunction f s → s ++ m ≡ x ∷ m2 → FunctionKind x.kind
function_head f s m m2 x v eq = go f.variables v.3
  where
    eq2 : v.0 ++ (v.1 ++ m) ≡ x ∷ m2
    eq2 = front s m m2 x v eq

    go : (vs : List DomainVariable) → IsTemplate vs v.0 → FunctionKind x.kind
    go [] n =
        let w = v.4 in
        let e : v.1 ++ m ≡ x ∷ m2 = ap (λ l. l ++ (v.1 ++ m)) (sym n) ∙ eq2 in
        inr (result_head f.returned w.0 (w.1 ++ m) m2 x w.3 (front v.1 m m2 x w e))
    go (a ∷ more) u = inl (sign_head signs.Template _ v.0 (v.1 ++ m) m2 x u.1 eq2)

no_function : (k : TokenKind) (s : Sign) → FunctionKind k → k ≡ kinds.Sign s → begins_type (kinds.Sign s) ≡ false
    → (kinds.Sign s ≡ kinds.Sign signs.Template → ⊥) → (kinds.Sign s ≡ kinds.Sign signs.Void → ⊥) → ⊥
no_function k s (inl e) is f t v = t (sym is ∙ e)
no_function k s (inr (inl e)) is f t v = v (sym is ∙ e)
no_function k s (inr (inr e)) is f t v = clash (begins_type (kinds.Sign s)) (ap begins_type (sym is) ∙ e) f

module _ (max_height : ℕ) (x : Token) (m : List Token) (en : IsEnded (x ∷ m)) where
  abbrev Led : (Identifier → ItemTree) → Sign → ItemTree → Phrase
  Led f s = Made (λ (v : Span × (Identifier × Unit {0})). f v.1.0) (Both (λ p. one_at p (kinds.Sign s)) (λ p. Named))

  led_reads : (f : Identifier → ItemTree) (s : Sign) → is_end (kinds.Sign s) ≡ false → ((y : Identifier) → LowItem max_height (f y))
      → ((y : Identifier) (ts : List Token) → (sign s then (identifier y then sign signs.Semicolon)) ts → IsItem (f y) ts)
      → ((c : ItemTree) (ts m' m2 : List Token) → IsItem c ts → ts ++ m' ≡ x ∷ m2
      → (y : Identifier) × (c ≡ f y) × (sign s then (identifier y then sign signs.Semicolon)) ts) → x.kind ≡ kinds.Sign s
      → Reads IsItem (LowItem max_height) Any (x ∷ m) (named m >>= λ y. Ok (f y.0, y.1))
  led_reads f s goes_on low up down k =
      reads_as (Led f s) IsItem (LowItem max_height) Any Any x
      (λ c ts v. let w = v.2 in subst (λ z. IsItem z ts) (sym v.1) (up v.0.1.0 ts (w.0, w.1, w.2, (v.0.0, w.3), w.4)))
      (λ c ts m' m2 v st eq. let d = down c ts m' m2 v eq in let w = d.2 in ((w.3.0, (d.0, tt)), d.1, (w.0, w.1, w.2, w.3.1, w.4)))
      (λ c m' st. st) (x ∷ m) m _ refl
      (known (kinds.Sign s) (λ p. Named) (λ p v. f v.0) (LowItem max_height) Any goes_on
      (λ p. ((some_name, tt), name_token ∷ lone signs.Semicolon, (name_token ∷ [], lone signs.Semicolon, refl, refl, (origin, refl)), low some_name))
      x m _ k en (λ en2. named_reads f (LowItem max_height) low m en2))

  import_reads : x.kind ≡ kinds.Sign signs.Import → Reads IsItem (LowItem max_height) Any (x ∷ m) (named m >>= λ y. Ok (imports y.0, y.1))
  import_reads k = led_reads imports signs.Import refl (λ y. tt) (λ y ts v. v) down k
    where
      down : (c : ItemTree) (ts m' m2 : List Token) → IsItem c ts → ts ++ m' ≡ x ∷ m2
          → (y : Identifier) × (c ≡ imports y) × (sign signs.Import then (identifier y then sign signs.Semicolon)) ts
      down (imports y) ts m' m2 v eq = (y, refl, v)
      down (kind y) ts m' m2 v eq = let f = sym k ∙ sign_head signs.Kind _ ts m' m2 x v eq in cc
      down (domain y z) ts m' m2 v eq = let f = sym k ∙ sign_head signs.Domain _ ts m' m2 x v eq in cc
      down (defines g) ts m' m2 v eq =
          absurd (no_function x.kind signs.Import (function_head g ts m' m2 x v eq) k refl
          (λ (e : kinds.Sign signs.Import ≡ kinds.Sign signs.Template). cc) (λ (e : kinds.Sign signs.Import ≡ kinds.Sign signs.Void). cc))

  kind_reads : x.kind ≡ kinds.Sign signs.Kind → Reads IsItem (LowItem max_height) Any (x ∷ m) (named m >>= λ y. Ok (kind y.0, y.1))
  kind_reads k = led_reads kind signs.Kind refl (λ y. tt) (λ y ts v. v) down k
    where
      down : (c : ItemTree) (ts m' m2 : List Token) → IsItem c ts → ts ++ m' ≡ x ∷ m2
          → (y : Identifier) × (c ≡ kind y) × (sign signs.Kind then (identifier y then sign signs.Semicolon)) ts
      down (kind y) ts m' m2 v eq = (y, refl, v)
      down (imports y) ts m' m2 v eq = let f = sym k ∙ sign_head signs.Import _ ts m' m2 x v eq in cc
      down (domain y z) ts m' m2 v eq = let f = sym k ∙ sign_head signs.Domain _ ts m' m2 x v eq in cc
      down (defines g) ts m' m2 v eq =
          absurd (no_function x.kind signs.Kind (function_head g ts m' m2 x v eq) k refl
          (λ (e : kinds.Sign signs.Kind ≡ kinds.Sign signs.Template). cc) (λ (e : kinds.Sign signs.Kind ≡ kinds.Sign signs.Void). cc))

  abbrev Two : Identifier × (Identifier × Unit {0}) → Phrase
  Two = Both identifier (λ y. Named)

  abbrev DomainLed : ItemTree → Phrase
  DomainLed = Made (λ (v : Span × (Identifier × (Identifier × Unit {0}))). domain v.1.0 v.1.1.0) (Both (λ p. one_at p (kinds.Sign signs.Domain)) (λ p. Two))

  domain_reads : x.kind ≡ kinds.Sign signs.Domain → Reads IsItem (LowItem max_height) Any (x ∷ m) (domain_item m)
  unfolding domain_item
  domain_reads k =
      reads_as DomainLed IsItem (LowItem max_height) Any Any x
      (λ c ts v. let w = v.2 in subst (λ z. IsItem z ts) (sym v.1) (w.0, w.1, w.2, (v.0.0, w.3), w.4))
      (λ c ts m' m2 v st eq. down c ts m' m2 v eq)
      (λ c m' st. st) (x ∷ m) m _ refl
      (known (kinds.Sign signs.Domain) (λ p. Two) (λ p v. domain v.0 v.1.0) (LowItem max_height) Any refl
      (λ p. (
        (some_name, (some_name, tt)),
        name_token ∷ name_token ∷ lone signs.Semicolon,
        (name_token ∷ [], name_token ∷ lone signs.Semicolon, refl, refl, (name_token ∷ [], lone signs.Semicolon, refl, refl, (origin, refl))),
        tt,
      ))
      x m _ k en (λ en2.
      seq identifier All Any (λ y. Named) (λ y v. domain y v.0) (LowItem max_height) Any
      (λ y v t u f. tt) (λ y v t m u st. any_stops (λ y. Unit {0}) t m st)
      (λ y s u. ((some_name, tt), name_token ∷ lone signs.Semicolon, (name_token ∷ [], lone signs.Semicolon, refl, refl, (origin, refl)), λ f. tt))
      m (expressions.identifier m) _ (identifier_reads m en2) (λ y r is g.
      seq identifier All Any (λ z (u : Unit {0}). sign signs.Semicolon) (λ z u. domain y z) (LowItem max_height) Any
      (λ z u t v f. tt) (λ z u t m v st. any_stops (λ y. Unit {0}) t m st) (λ z s v. (tt, lone signs.Semicolon, (origin, refl), λ f. tt))
      r (expressions.identifier r) _ (identifier_reads r (good_ended g en2)) (λ z r2 is2 g2.
      sign_end signs.Semicolon (domain y z) (LowItem max_height) tt r2 (good_ended g2 (good_ended g en2))))))
    where
      down : (c : ItemTree) (ts m' m2 : List Token) → IsItem c ts → ts ++ m' ≡ x ∷ m2 → DomainLed c ts
      down (domain y z) ts m' m2 v eq = ((v.3.0, (y, (z, tt))), refl, (v.0, v.1, v.2, v.3.1, v.4))
      down (imports y) ts m' m2 v eq = let f = sym k ∙ sign_head signs.Import _ ts m' m2 x v eq in cc
      down (kind y) ts m' m2 v eq = let f = sym k ∙ sign_head signs.Kind _ ts m' m2 x v eq in cc
      down (defines g) ts m' m2 v eq =
          absurd (no_function x.kind signs.Domain (function_head g ts m' m2 x v eq) k refl
          (λ (e : kinds.Sign signs.Domain ≡ kinds.Sign signs.Template). cc) (λ (e : kinds.Sign signs.Domain ≡ kinds.Sign signs.Void). cc))

  defines_reads : is_sign signs.Import x ≡ false → is_sign signs.Kind x ≡ false → is_sign signs.Domain x ≡ false
      → Reads IsItem (LowItem max_height) Any (x ∷ m) (function_step max_height (x ∷ m) >>= λ f. Ok (defines f.0, f.1))
  defines_reads i k d =
      reads_as (Made defines IsFunction) IsItem (LowItem max_height) Any Any x
      (λ c ts v. subst (λ z. IsItem z ts) (sym v.1) v.2)
      (λ c ts m' m2 v st eq. down c ts m' m2 v eq)
      (λ c m' st. st) (x ∷ m) m _ refl
      (made IsFunction (LowFunction max_height) Any defines (LowItem max_height) Any (λ f l. l) (λ f l. l)
      (λ f m st. any_stops (λ y. Unit {0}) [] m st) (x ∷ m) (function_step max_height (x ∷ m)) (function_reads max_height (x ∷ m) en))
    where
      down : (c : ItemTree) (ts m' m2 : List Token) → IsItem c ts → ts ++ m' ≡ x ∷ m2 → Made defines IsFunction c ts
      down (imports y) ts m' m2 v eq = absurd (is_sign-false signs.Import x i (sign_head signs.Import _ ts m' m2 x v eq))
      down (kind y) ts m' m2 v eq = absurd (is_sign-false signs.Kind x k (sign_head signs.Kind _ ts m' m2 x v eq))
      down (domain y z) ts m' m2 v eq = absurd (is_sign-false signs.Domain x d (sign_head signs.Domain _ ts m' m2 x v eq))
      down (defines g) ts m' m2 v eq = (g, refl, v)

  item_step_reads : Reads IsItem (LowItem max_height) Any (x ∷ m) (item_step max_height x m)
  item_step_reads = go (is_sign signs.Import x) (is_sign signs.Kind x) (is_sign signs.Domain x) refl refl refl
    where
      go : (i k d : Bool) → is_sign signs.Import x ≡ i → is_sign signs.Kind x ≡ k → is_sign signs.Domain x ≡ d
          → Reads IsItem (LowItem max_height) Any (x ∷ m)
          (cond i (named m >>= λ y. Ok (imports y.0, y.1))
          (cond k (named m >>= λ y. Ok (kind y.0, y.1)) (cond d (domain_item m) (function_step max_height (x ∷ m) >>= λ f. Ok (defines f.0, f.1)))))
      go true k d ie ke de = import_reads (is_sign-true signs.Import x ie)
      go false true d ie ke de = kind_reads (is_sign-true signs.Kind x ke)
      go false false true ie ke de = domain_reads (is_sign-true signs.Domain x de)
      go false false false ie ke de = defines_reads ie ke de

item_reads : (max_height : ℕ) (w : List Token) → IsEnded w → Reads IsItem (LowItem max_height) Any w (item max_height w)
unfolding item
item_reads max_height [] en = cc
item_reads max_height (x ∷ m) en = item_step_reads max_height x m en

-- what an item begins with is not the end
item_goes_on : (c : ItemTree) (s m m2 : List Token) (x : Token) → IsItem c s → s ++ m ≡ x ∷ m2 → x.kind ≡ kinds.End → ⊥
item_goes_on (imports y) s m m2 x v eq e = let f = sym e ∙ sign_head signs.Import _ s m m2 x v eq in cc
item_goes_on (kind y) s m m2 x v eq e = let f = sym e ∙ sign_head signs.Kind _ s m m2 x v eq in cc
item_goes_on (domain y z) s m m2 x v eq e = let f = sym e ∙ sign_head signs.Domain _ s m m2 x v eq in cc
item_goes_on (defines g) s m m2 x v eq e = go (function_head g s m m2 x v eq)
  where
    go : FunctionKind x.kind → ⊥
    go (inl f) = let g = sym e ∙ f in cc
    go (inr (inl f)) = let g = sym e ∙ f in cc
    go (inr (inr f)) = let g : begins_type kinds.End ≡ true = ap begins_type (sym e) ∙ f in cc

abbrev pub end_token : Token
end_token = token origin kinds.End

item_some : (c : ItemTree) → IsItem c [] → ⊥
item_some c v = item_goes_on c [] (end_token ∷ []) [] end_token v refl refl

end_kind : (k : TokenKind) → is_end k ≡ true → k ≡ kinds.End
end_kind (kinds.Name b) e = cc
end_kind (kinds.Number n) e = cc
end_kind (kinds.Text b) e = cc
end_kind (kinds.Sign s) e = cc
end_kind kinds.End e = refl

abbrev pub LowItems : ℕ → List ItemTree → Type 0
LowItems max_height is = items_height is ≤ 2 + max_height

abbrev pub AtEnd : Token → Type 0
AtEnd x = is_end x.kind ≡ true

low_item : (max_height : ℕ) (found zs : List ItemTree) (a : ItemTree) → LowItems max_height (found ++ a ∷ zs) → LowItem max_height a
low_item max_height [] zs (imports x) f = tt
low_item max_height [] zs (kind x) f = tt
low_item max_height [] zs (domain x k) f = tt
low_item max_height [] zs (defines g) f = omega (arith, f)
low_item max_height (imports x ∷ found) zs a f = low_item max_height found zs a f
low_item max_height (kind x ∷ found) zs a f = low_item max_height found zs a f
low_item max_height (domain x k ∷ found) zs a f = low_item max_height found zs a f
low_item max_height (defines g ∷ found) zs a f =
    let h : LowItems max_height (found ++ a ∷ zs) = omega (arith, f) in low_item max_height found zs a h

more_items : (max_height : ℕ) (found : List ItemTree) (a : ItemTree) → LowItems max_height found → LowItem max_height a → LowItems max_height (found ++ a ∷ [])
more_items max_height [] (imports x) f g = f
more_items max_height [] (kind x) f g = f
more_items max_height [] (domain x k) f g = f
more_items max_height [] (defines h) f g = omega (arith, g)
more_items max_height (imports x ∷ found) a f g = more_items max_height found a f g
more_items max_height (kind x ∷ found) a f g = more_items max_height found a f g
more_items max_height (domain x k ∷ found) a f g = more_items max_height found a f g
more_items max_height (defines h ∷ found) a f g =
    let f2 : LowItems max_height found = omega (arith, f) in
    let k : items_height (found ++ a ∷ []) ≤ 2 + max_height = more_items max_height found a f2 g in
    omega (arith, f, k)

abbrev pub items_of : ℕ → List Token → Outcome (List ItemTree)
items_of max_height w = listed (λ found w. at_end w) (item max_height) [] w

abbrev pub Items : List ItemTree → Phrase
Items is ts = AreAll IsItem is ts

items_reads : (max_height : ℕ) (w : List Token) → IsEnded w → Reads Items (LowItems max_height) (λ is x. AtEnd x) w (items_of max_height w)
items_reads max_height w en =
    reads_same (Made (λ zs. [] ++ zs) (λ zs ts. Unit {0} × AreAll IsItem zs ts)) Items (LowItems max_height) (λ is x. AtEnd x) (λ is x. AtEnd x)
    (λ c s v. subst (λ z. AreAll IsItem z s) (sym v.1) v.2.1) (λ c s v. (c, refl, (tt, v))) (λ c m st. st) w _
    (listed_reads IsItem (LowItem max_height) Any (LowItems max_height) AtEnd (λ is. Unit {0}) (λ found w. at_end w) (item max_height) (item_reads max_height)
    (low_item max_height) (more_items max_height)
    (λ a b s m v. after_item b s m v) (λ a m st. any_stops AtEnd [] m st) item_some
    (λ found x m t a zs s m' m2 b v eq. item_goes_on a s m' m2 x v eq (end_kind x.kind t))
    (λ found x m t e. clash (is_end x.kind) e t) (λ found x m a t b. tt) [] w (omega arith) tt en)
  where
    after_item : (b : ItemTree) (s m : List Token) → IsItem b s → Stops (λ y. Unit {0}) (s ++ m)
    after_item b [] m v = absurd (item_some b v)
    after_item b (y ∷ s) m v = tt

-- a list ends where it stops
module _ {A : Type 0} (stop : List A → List Token → Bool) (inner : List Token → Outcome A)
    (shorter : (w r : List Token) (a : A) → IsEnded w → inner w ≡ Ok (a, r) → (length r < length w) × IsEnded r)
  where
    list_ends : (n : ℕ) (found c : List A) (w r : List Token) → length w < n → IsEnded w → list_from stop inner n found w ≡ Ok (c, r) → stop c r ≡ true
    unfolding list_from
    list_ends zero found c w r l en e = absurd (omega (arith, l))
    list_ends (suc n) found c w r l en e = go (stop found w) refl e (list_ends n)
      where
        value : Outcome (List A) → List A
        value (Ok o) = o.0
        value (Err o) = []

        rest : Outcome (List A) → List Token
        rest (Ok o) = o.1
        rest (Err o) = []

        go : (b : Bool) → stop found w ≡ b → cond b (Ok (found, w)) (inner w >>= λ a. list_from stop inner n (found ++ a.0 ∷ []) a.1) ≡ Ok (c, r)
            → ((found c : List A) (w r : List Token) → length w < n → IsEnded w → list_from stop inner n found w ≡ Ok (c, r) → stop c r ≡ true)
            → stop c r ≡ true
        go true t e again =
            ap (λ z. stop z r) (sym (ap value e)) ∙ ap (stop found) (sym (ap rest e)) ∙ t
        go false t e again = at (inner w) refl e
          where
            at : (o : Outcome A) → inner w ≡ o → (o >>= λ a. list_from stop inner n (found ++ a.0 ∷ []) a.1) ≡ Ok (c, r) → stop c r ≡ true
            at (Err p) f e = cc
            at (Ok a) f e =
                let s = shorter w a.1 a.0 en f in
                let k = s.0 in
                again (found ++ a.0 ∷ []) c a.1 r (omega (arith, k, l)) s.1 e

item_shorter : (max_height : ℕ) (w r : List Token) (a : ItemTree) → IsEnded w → item max_height w ≡ Ok (a, r) → (length r < length w) × IsEnded r
item_shorter max_height w r a en e =
    let g : Good IsItem (LowItem max_height) Any w a r = subst (Reads IsItem (LowItem max_height) Any w) e (item_reads max_height w en) in
    (at g.s g.here g.split, good_ended g en)
  where
    at : (s : List Token) → IsItem a s → w ≡ s ++ r → length r < length w
    at [] v f = absurd (item_some a v)
    at (x ∷ s) v f = let k = ap length f in let h = length-append (x ∷ s) r in omega (arith, k, h)

-- Programs

ended_alone : (x : Token) (m : List Token) → IsEnded (x ∷ m) → is_end x.kind ≡ true → m ≡ []
ended_alone x [] en e = refl
ended_alone x (y ∷ m) en e =
    let f : (not true && is_ended (y ∷ m)) ≡ true = ap (λ b. not b && is_ended (y ∷ m)) (sym e) ∙ en in cc

module _ (max_height limit : ℕ) (enough : limit ≡ 3 + max_height) (w : List Token) (en : IsEnded w) where
  -- the items were read, and the end
  whole : (is : List ItemTree) (r : List Token) → items_of max_height w ≡ Ok (is, r)
      → (x : Token) × (r ≡ x ∷ []) × (x.kind ≡ kinds.End) × Good Items (LowItems max_height) (λ is x. AtEnd x) w is r
  whole is r e =
      let g : Good Items (LowItems max_height) (λ is x. AtEnd x) w is r =
      subst (Reads Items (LowItems max_height) (λ is x. AtEnd x) w) e (items_reads max_height w en) in
      let t : at_end r ≡ true = list_ends (λ found w. at_end w) (item max_height) (item_shorter max_height) (suc (length w)) [] is w r (omega arith) en e in
      let f : is_end g.x.kind ≡ true = ap at_end (sym g.rest) ∙ t in
      let er : IsEnded (g.x ∷ g.m) = subst IsEnded g.rest (good_ended g en) in
      (g.x, g.rest ∙ ap (λ l. g.x ∷ l) (ended_alone g.x g.m er f), end_kind g.x.kind f, g)

  abbrev spelled : List ItemTree → Token → ProgramTree
  spelled is x = record { items = is; end = x.place }

  abbrev bound : Outcome (List ItemTree) → Outcome ProgramTree
  bound o = o >>= λ is. place_at is.1 >>= λ p. Ok (record { items = is.0; end = p.0 }, p.1)

  program_of : Outcome ProgramTree → ProgramTree
  program_of (Ok o) = o.0
  program_of (Err o) = record { items = []; end = origin }

  -- the answer where the items were read
  ends : (is : List ItemTree) (r : List Token) (x : Token) (q : ProgramTree) (r2 : List Token) → r ≡ x ∷ [] → bound (Ok (is, r)) ≡ Ok (q, r2) → q ≡ spelled is x
  unfolding program_of
  ends is r x q r2 e f =
      sym (ap program_of f) ∙ ap (λ l. program_of (bound (Ok (is, l)))) e

  Found : ProgramTree → Type 0
  Found q = IsProgram q w × (program_height q ≤ limit)

  pub found : (q : ProgramTree) (r : List Token) → program max_height w ≡ Ok (q, r) → IsProgram q w × (program_height q ≤ limit)
  unfolding program Found
  found q r e = go (items_of max_height w) refl e
    where
      go : (o : Outcome (List ItemTree)) → items_of max_height w ≡ o → bound o ≡ Ok (q, r) → Found q
      go (Err p) f e = cc
      go (Ok o) f e =
          let v = whole o.0 o.1 f in
          let g = v.3 in
          let low = g.fits in
          subst Found (sym (ends o.0 o.1 v.0 q r v.1 e))
          ((g.s, v.0 ∷ [], g.split ∙ ap (λ l. g.s ++ l) v.1, g.here, ap (λ z. token v.0.place z ∷ []) v.2), omega (arith, low, enough))

  at_end_stops : (c : List ItemTree) (m : List Token) (p : Span) → m ≡ token p kinds.End ∷ [] → Stops (λ x. AtEnd x) m
  at_end_stops c m p e = subst (Stops (λ x. AtEnd x)) (sym e) refl

  low_allowed : (p : ParseProblem) (q : ProgramTree) → program_height q ≤ limit → Allowed p (LowItems max_height q.items)
  low_allowed Unexpected q l = tt
  low_allowed TooHigh q l = omega (arith, l, enough)

  pub only : (q q2 : ProgramTree) (r : List Token) → program max_height w ≡ Ok (q2, r) → IsProgram q w → q2 ≡ q
  unfolding program
  only q q2 r e u = go (items_of max_height w) refl e
    where
      go : (o : Outcome (List ItemTree)) → items_of max_height w ≡ o → bound o ≡ Ok (q2, r) → q2 ≡ q
      go (Err p) f e = cc
      go (Ok o) f e =
          let v = whole o.0 o.1 f in
          let g = v.3 in
          let eq : u.0 ++ u.1 ≡ g.s ++ g.x ∷ g.m = sym u.2 ∙ g.split ∙ ap (λ l. g.s ++ l) g.rest in
          let k = g.only q.items u.0 u.1 g.m u.3 (at_end_stops q.items u.1 q.end u.4) eq in
          let t : u.1 ≡ v.0 ∷ [] = cancel g.s u.1 (v.0 ∷ []) (ap (λ l. l ++ u.1) (sym k.1) ∙ sym u.2 ∙ g.split ∙ ap (λ l. g.s ++ l) v.1) in
          let h : token q.end kinds.End ≡ v.0 = cons_head (sym u.4 ∙ t) in
          let place : q.end ≡ v.0.place = ap (λ (t : Token). t.place) h in
          ends o.0 o.1 v.0 q2 r v.1 e ∙ ap (λ is. record { items = is; end = v.0.place }) (sym k.0) ∙ ap (λ p. record { items = q.items; end = p }) (sym place)

  bad_items : (p : ParseProblem) (r : List Token) → items_of max_height w ≡ Err (p, r) → Bad Items (LowItems max_height) (λ is x. AtEnd x) w p r
  bad_items p r e = subst (Reads Items (LowItems max_height) (λ is x. AtEnd x) w) e (items_reads max_height w en)

  error_of : Outcome ProgramTree → ParseProblem × List Token
  error_of (Ok o) = (Unexpected, [])
  error_of (Err o) = o

  -- where the program stopped, the items did
  stopped : (p : ParseProblem) (r : List Token) → program max_height w ≡ Err (p, r) → items_of max_height w ≡ Err (p, r)
  unfolding program error_of
  stopped p r e = go (items_of max_height w) refl e
    where
      go : (o : Outcome (List ItemTree)) → items_of max_height w ≡ o → bound o ≡ Err (p, r) → o ≡ Err (p, r)
      go (Err o) f e = ap (λ z. Err z) (ap error_of e)
      go (Ok o) f e =
          let v = whole o.0 o.1 f in
          let k : bound (Ok (o.0, v.0 ∷ [])) ≡ Err (p, r) = ap (λ l. bound (Ok (o.0, l))) (sym v.1) ∙ e in
          cc

  pub none : (q : ProgramTree) (p : ParseProblem) (r : List Token) → program max_height w ≡ Err (p, r) → IsProgram q w → program_height q ≤ limit → ⊥
  none q p r e u low =
      let b = bad_items p r (stopped p r e) in
      b.never q.items u.0 u.1 b.m u.3 (low_allowed p q low) (at_end_stops q.items u.1 q.end u.4) (sym u.2 ∙ b.split)

  -- whatever begins with the tokens up to the fault
  beyond : (p : ParseProblem) (r : List Token) (b : Bad Items (LowItems max_height) (λ is x. AtEnd x) w p r) (q : ProgramTree) (more : List Token)
      → IsProgram q ((b.s ++ b.x ∷ []) ++ more) → Allowed p (LowItems max_height q.items) → ⊥
  beyond p r b q more u al =
      b.never q.items u.0 u.1 more u.3 al (at_end_stops q.items u.1 q.end u.4) (sym u.2 ∙ append_assoc b.s (b.x ∷ []) more)

  with_end : List ItemTree → ProgramTree
  with_end is = record { items = is; end = origin }

  cause_of : (p : ParseProblem) (r : List Token) (b : Bad Items (LowItems max_height) (λ is x. AtEnd x) w p r) → IsCause p (b.s ++ b.x ∷ [])
  unfolding with_end
  cause_of Unexpected r b = λ z. beyond Unexpected r b z.0 z.1 z.2 tt
  cause_of TooHigh r b =
      let v = b.begun in (
        with_end v.0,
        v.1 ++ end_token ∷ [],
        (
          b.s ++ b.x ∷ v.1,
          end_token ∷ [],
          append_assoc b.s (b.x ∷ []) (v.1 ++ end_token ∷ []) ∙ sym (append_assoc b.s (b.x ∷ v.1) (end_token ∷ [])),
          v.2,
          refl,
        ),
      )

  begins_of : (p : ParseProblem) (r : List Token) (b : Bad Items (LowItems max_height) (λ is x. AtEnd x) w p r) → Begins limit b.s
  unfolding with_end
  begins_of p r b = go b.before
    where
      go : (b.s ≡ []) ⊎ ((is : List ItemTree) × (t : List Token) × AreAll IsItem is (b.s ++ t) × (items_height is ≤ 2 + max_height)) → Begins limit b.s
      go (inl e) = (with_end [], end_token ∷ [], (b.s, end_token ∷ [], refl, e, refl), omega (arith, enough))
      go (inr v) =
          let low = v.3 in (
            with_end v.0,
            v.1 ++ end_token ∷ [],
            (b.s ++ v.1, end_token ∷ [], sym (append_assoc b.s v.1 (end_token ∷ [])), v.2, refl),
            omega (arith, low, enough),
          )

  pub fault : (p : ParseProblem) (r : List Token) (x : Token) (m : List Token) → program max_height w ≡ Err (p, r) → r ≡ x ∷ m → IsFirstFault limit w p x.place
  fault p r x m e at =
      let b = bad_items p r (stopped p r e) in
      record {
        before = b.s;
        fault = b.x;
        behind = b.m;
        split = b.split;
        placed = ap (λ (t : Token). t.place) (cons_head (sym b.rest ∙ at));
        begins = begins_of p r b;
        here = λ z. beyond p r b z.0 z.1 z.2 (low_allowed p z.0 z.3);
        cause = cause_of p r b;
      }

  -- the tokens from a fault on are not none
  pub some_rest : (p : ParseProblem) (r : List Token) → program max_height w ≡ Err (p, r) → 0 < length r
  some_rest p r e =
      let b = bad_items p r (stopped p r e) in
      let l = ap length b.rest in
      omega (arith, l)

  -- the refusal that the code makes of it stands at the first fault
  pub refuses : (p : ParseProblem) (r : List Token) (answer : ParseErr) → program max_height w ≡ Err (p, r) → refusal_at p r answer
      → RefusesAtFault limit w (Err answer)
  refuses p [] answer e h = absurd h
  refuses p (x ∷ m) answer e h = subst (λ z. RefusesAtFault limit w (Err z)) (sym h) (fault p (x ∷ m) x m e refl)
