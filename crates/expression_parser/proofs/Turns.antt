-- The steps, as the code comes to them.
use Rattle.std.proofs.Common.{◌≡◌, ℕ, zero, suc, ◌-◌, ◌<◌, ◌≤◌, List, [], ◌∷◌, ◌++◌, refl, sym, ap, ◌∙◌, subst, Ok, Err, length, arith, true, false, cond}
use Rattle.std.specs.Prelude.{max, Some}
use Rattle.std.proofs.lemmas.Bool.{le-leb, lt-leb}
use Rattle.secrec_lexer.specs.Tokens.{is_sign}
use Rattle.secrec_lexer.specs.declared.sign.Sign.TheVariants as signs
use Rattle.secrec_lexer.specs.declared.token.Token.{Token}
use Rattle.program_trees.specs.declared.expression.Operator.{Operator}
use Rattle.program_trees.specs.Tree.{Tree, Trees, none, also, binary, trees_of}
use Rattle.program_trees.specs.Heights.{height, heights, place_of}
use Rattle.expression_parser.specs.declared.problem.ParseProblem.{ParseProblem}
use Rattle.expression_parser.specs.declared.problem.ParseProblem.TheVariants.{Unexpected, TooHigh}
use Rattle.expression_parser.specs.Grammar.{loosest, unary}
use Rattle.expression_parser.specs.Steps.{Outcome, ◌>>=◌, unless, unary_at, unary_of, climb, at_level, operator_at, grow_at, grow, at_most, more}
use Rattle.expression_parser.specs.Steps.{more_at, join, front}
use Rattle.expression_parser.proofs.Levels.{nowhere}

unary_zero : (f g f2 g2 : List Token → Outcome Tree) (w : List Token) → unary_of 0 f g w ≡ unary_of 0 f2 g2 w
unfolding unary_of
unary_zero f g f2 g2 [] = refl
unary_zero f g f2 g2 (x ∷ m) =
    let p = nowhere x.kind in
    ap (λ o. unless o (x ∷ m) (unary_at 0 f g x m)) p.1 ∙ sym (ap (λ o. unless o (x ∷ m) (unary_at 0 f2 g2 x m)) p.1)

climb_zero : (lower : ℕ → List Token → Outcome Tree) (k : ℕ) (w : List Token) → (e : ParseProblem × List Token) × (climb 0 lower k w ≡ Err e)
unfolding climb unary_of
climb_zero lower zero [] = ((Unexpected, []), refl)
climb_zero lower zero (x ∷ m) =
    let p = nowhere x.kind in
    ((p.0, x ∷ m), ap (λ o. unless o (x ∷ m) (unary_at 0 (lower loosest) (lower unary) x m)) p.1)
climb_zero lower (suc k) w =
    let i = climb_zero lower k w in
    (i.0, ap (λ o. o >>= λ a. grow (suc k) 0 (lower k) (length a.1) a.0 a.1) i.1)

pub at_most_unary : (r k : ℕ) (w : List Token) → k ≡ 0 → at_most r k w ≡ unary_of r (at_most (r - 1) 9) (at_most (r - 1) 0) w
unfolding at_most climb
at_most_unary zero zero w e = unary_zero _ _ _ _ w
at_most_unary (suc r) zero w e =
    let d : r ≡ suc r - 1 = omega arith in ap (λ n. unary_of (suc r) (at_most n 9) (at_most n 0) w) d
at_most_unary r (suc k) w e = absurd (omega arith)

pub at_most_grow : (r k : ℕ) (w : List Token) → 0 < k → at_most r k w ≡ (at_most r (k - 1) w >>= λ a. grow k r (at_most (r - 1) (k - 1)) (length a.1) a.0 a.1)
unfolding at_most climb
at_most_grow r zero w e = absurd (omega arith)
at_most_grow zero (suc k) w e =
    let i = climb_zero (λ j v. Err (TooHigh, v)) k w in
    let d : k ≡ suc k - 1 = omega arith in
    let i2 = subst (λ n. climb 0 (λ j v. Err (TooHigh, v)) n w ≡ Err i.0) d i.1 in
    ap (λ o. o >>= λ a. grow (suc k) 0 (λ v. Err (TooHigh, v)) (length a.1) a.0 a.1) i.1
    ∙ sym (ap (λ o. o >>= λ a. grow (suc k) 0 (at_most (0 - 1) (suc k - 1)) (length a.1) a.0 a.1) i2)
at_most_grow (suc r) (suc k) w e =
    let d : r ≡ suc r - 1 = omega arith in
    let f : k ≡ suc k - 1 = omega arith in
    ap (λ n. climb (suc r) (at_most r) n w >>= λ a. grow (suc k) (suc r) (at_most r n) (length a.1) a.0 a.1) f
    ∙ ap (λ n. climb (suc r) (at_most r) (suc k - 1) w >>= λ a. grow (suc k) (suc r) (at_most n (suc k - 1)) (length a.1) a.0 a.1) d

-- one more operator of this level, and its right operand
pub grow_goes : (k max_height : ℕ) (operand : List Token → Outcome Tree) (n : ℕ) (a : Tree) (w : List Token) (x : Token) (m : List Token)
    (op : Operator) (b : Tree) (r : List Token) → w ≡ x ∷ m → at_level k (operator_at x.kind) ≡ Some op → height a < max_height
    → operand m ≡ Ok (b, r) → length w ≤ n → grow k max_height operand n a w ≡ grow k max_height operand (n - 1) (binary (place_of a) op a b) r
unfolding grow
grow_goes k max_height operand n a [] x m op b r e f h g le = cc
grow_goes k max_height operand zero a (y ∷ l) x m op b r e f h g le = absurd (omega arith)
grow_goes k max_height operand (suc n) a (y ∷ l) x m op b r e f h g le =
    let d : n ≡ suc n - 1 = omega arith in
    ap (grow k max_height operand (suc n) a) e
    ∙ ap (λ o. grow_at max_height operand (grow k max_height operand n) a o x m) f
    ∙ ap (λ z. cond z (Err (TooHigh, x ∷ m)) (operand m >>= λ b. grow k max_height operand n (binary (place_of a) op a b.0) b.1))
    (lt-leb max_height (height a) h)
    ∙ ap (λ o. o >>= λ b. grow k max_height operand n (binary (place_of a) op a b.0) b.1) g
    ∙ ap (λ z. grow k max_height operand z (binary (place_of a) op a b) r) d

-- an operator of this level where its left operand is as high as the whole may be
pub grow_high : (k max_height : ℕ) (operand : List Token → Outcome Tree) (n : ℕ) (a : Tree) (w : List Token) (x : Token) (m : List Token)
    (op : Operator) → w ≡ x ∷ m → at_level k (operator_at x.kind) ≡ Some op → max_height ≤ height a → length w ≤ n
    → grow k max_height operand n a w ≡ Err (TooHigh, w)
unfolding grow
grow_high k max_height operand n a [] x m op e f h le = cc
grow_high k max_height operand zero a (y ∷ l) x m op e f h le = absurd (omega arith)
grow_high k max_height operand (suc n) a (y ∷ l) x m op e f h le =
    ap (grow k max_height operand (suc n) a) e
    ∙ ap (λ o. grow_at max_height operand (grow k max_height operand n) a o x m) f
    ∙ ap (λ z. cond z (Err (TooHigh, x ∷ m)) (operand m >>= λ b. grow k max_height operand n (binary (place_of a) op a b.0) b.1))
    (le-leb max_height (height a) h)
    ∙ ap (λ v. Err (TooHigh, v)) (sym e)

pub heights_more : (ts : List Tree) (t : Tree) → heights (trees_of (ts ++ t ∷ [])) ≡ max (heights (trees_of ts)) (height t)
heights_more [] t = omega arith
heights_more (u ∷ ts) t = let i = heights_more ts t in omega arith

join_none : (ts : List Tree) → join ts none ≡ trees_of ts
join_none [] = refl
join_none (t ∷ ts) = ap (also t) (join_none ts)

join_more : (ts : List Tree) (t : Tree) (es : Trees) → join (ts ++ t ∷ []) es ≡ join ts (also t es)
join_more [] t es = refl
join_more (u ∷ ts) t es = ap (also u) (join_more ts t es)

pub more_empty : (inner : List Token → Outcome Tree) (ts : List Tree) (n : ℕ) (w : List Token) → length w ≡ 0 → front ts (more inner n w) ≡ Ok (trees_of ts, w)
unfolding more
more_empty inner ts zero w e = ap (λ z. Ok (z, w)) (join_none ts)
more_empty inner ts (suc n) [] e = ap (λ z. Ok (z, [])) (join_none ts)
more_empty inner ts (suc n) (x ∷ m) e = absurd (omega arith)

pub more_stop : (inner : List Token → Outcome Tree) (ts : List Tree) (n : ℕ) (w : List Token) (x : Token) (m : List Token) → w ≡ x ∷ m
    → is_sign signs.Comma x ≡ false → front ts (more inner n w) ≡ Ok (trees_of ts, w)
unfolding more
more_stop inner ts zero w x m e other = ap (λ z. Ok (z, w)) (join_none ts)
more_stop inner ts (suc n) [] x m e other = cc
more_stop inner ts (suc n) (y ∷ l) x m e other =
    let f : y ≡ x = cc in
    let g : is_sign signs.Comma y ≡ false = ap (is_sign signs.Comma) f ∙ other in
    ap (λ b. front ts (cond b (inner l >>= λ e. more inner n e.1 >>= λ es. Ok (also e.0 es.0, es.1)) (Ok (none, y ∷ l)))) g
    ∙ ap (λ z. Ok (z, y ∷ l)) (join_none ts)

comma_at : (inner : List Token → Outcome Tree) (again : List Token → Outcome Trees) (ts : List Tree) (x : Token) (m r : List Token) (t : Tree)
    → is_sign signs.Comma x ≡ true → inner m ≡ Ok (t, r) → front ts (more_at inner again x m) ≡ front (ts ++ t ∷ []) (again r)
comma_at inner again ts x m r t e h =
    ap (λ b. front ts (cond b (inner m >>= λ e. again e.1 >>= λ es. Ok (also e.0 es.0, es.1)) (Ok (none, x ∷ m)))) e
    ∙ ap (λ z. front ts (z >>= λ e. again e.1 >>= λ es. Ok (also e.0 es.0, es.1))) h
    ∙ go (again r)
  where
    go : (o : Outcome Trees) → front ts (o >>= λ es. Ok (also t es.0, es.1)) ≡ front (ts ++ t ∷ []) o
    go (Ok o) = ap (λ z. Ok (z, o.1)) (sym (join_more ts t o.0))
    go (Err o) = refl

pub more_comma : (inner : List Token → Outcome Tree) (ts : List Tree) (n : ℕ) (w : List Token) (x : Token) (m r : List Token) (t : Tree) → w ≡ x ∷ m
    → is_sign signs.Comma x ≡ true → inner m ≡ Ok (t, r) → length w ≤ n → front ts (more inner n w) ≡ front (ts ++ t ∷ []) (more inner (n - 1) r)
unfolding more
more_comma inner ts n [] x m r t e k h le = cc
more_comma inner ts zero (y ∷ l) x m r t e k h le = absurd (omega arith)
more_comma inner ts (suc n) (y ∷ l) x m r t e k h le =
    let f : y ≡ x = cc in
    let g : l ≡ m = cc in
    let d : n ≡ suc n - 1 = omega arith in
    comma_at inner (more inner n) ts y l r t (ap (is_sign signs.Comma) f ∙ k) (ap inner g ∙ h)
    ∙ ap (λ z. front (ts ++ t ∷ []) (more inner z r)) d

pub ruleset more_turns = (more_empty, more_stop, more_comma)
