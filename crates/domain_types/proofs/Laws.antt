-- The fault that the checker keeps is the least of all.
use Rattle.std.proofs.Common.{◌≡◌, ℕ, List, [], ◌∷◌, ◌⊎◌, inl, inr, refl, sym, ap, ap₂, ◌∙◌, subst, Some, None, Bool, true, false, cond, arith, ⊎_elim}
use Rattle.std.specs.Prelude.{nat_eq, nat_lt, nat_le, ◌&&◌, ◌||◌, if◌then◌else◌}
use Rattle.std.proofs.lemmas.Bool.{eqb-true, eqb-false, ltb-true, ltb-false, leb-true, leb-false}
use Rattle.sc_text.specs.declared.span.Span.{Span}
use Rattle.domain_types.specs.declared.fault.TypeProblem.{TypeProblem}
use Rattle.domain_types.specs.declared.fault.TypeProblem.TheVariants.{UnknownName, Twice, TypeMismatch, PrivateCondition, PrivateIndex, PrivateSize}
use Rattle.domain_types.specs.declared.fault.TypeProblem.TheVariants.{PrivateToPublic, PrivateDivision, PrivateAssert, DomainMix, NoMain, BadImport}
use Rattle.domain_types.specs.declared.fault.TypeProblem.TheVariants.{BadArity, MissingReturn, ArgumentPlace}
use Rattle.domain_types.specs.declared.fault.TypeFault.{TypeFault}
use Rattle.sc_text.specs.Lists.{Among}
use Rattle.domain_types.specs.Least.{number_of, NotAfter, IsLeast}
use Rattle.domain_types.specs.inner.LeastFault.{is_before, least}

-- what the test says
told : (f g : TypeFault) → ((is_before f g ≡ true) × NotAfter f g) ⊎ ((is_before f g ≡ false) × NotAfter g f)
told f g = go (nat_lt f.place.line g.place.line) (nat_eq f.place.line g.place.line) (nat_lt f.place.column g.place.column)
    (nat_eq f.place.column g.place.column) (nat_le (number_of f.problem) (number_of g.problem)) refl refl refl refl refl
  where
    go : (a b c d e : Bool) → nat_lt f.place.line g.place.line ≡ a → nat_eq f.place.line g.place.line ≡ b → nat_lt f.place.column g.place.column ≡ c
        → nat_eq f.place.column g.place.column ≡ d → nat_le (number_of f.problem) (number_of g.problem) ≡ e →
        ((a || (b && (c || (d && e))) ≡ true) × NotAfter f g) ⊎ ((a || (b && (c || (d && e))) ≡ false) × NotAfter g f)
    go true b c d e ea eb ec ed ee =
        let l = ltb-true f.place.line g.place.line ea in
        inl (refl, record { lines = omega arith; columns = λ s. absurd (omega arith); numbers = λ s t. absurd (omega arith) })
    go false false c d e ea eb ec ed ee =
        let l = ltb-false f.place.line g.place.line ea in
        let n = eqb-false f.place.line g.place.line eb in
        inr (refl, record { lines = omega arith; columns = λ s. absurd (omega arith); numbers = λ s t. absurd (omega arith) })
    go false true true d e ea eb ec ed ee =
        let s = eqb-true f.place.line g.place.line eb in
        let l = ltb-true f.place.column g.place.column ec in
        inl (refl, record { lines = omega arith; columns = λ t. omega arith; numbers = λ t u. absurd (omega arith) })
    go false true false false e ea eb ec ed ee =
        let s = eqb-true f.place.line g.place.line eb in
        let l = ltb-false f.place.column g.place.column ec in
        let n = eqb-false f.place.column g.place.column ed in
        inr (refl, record { lines = omega arith; columns = λ t. omega arith; numbers = λ t u. absurd (omega arith) })
    go false true false true true ea eb ec ed ee =
        let s = eqb-true f.place.line g.place.line eb in
        let l = eqb-true f.place.column g.place.column ed in
        let n = leb-true (number_of f.problem) (number_of g.problem) ee in
        inl (refl, record { lines = omega arith; columns = λ t. omega arith; numbers = λ t u. n })
    go false true false true false ea eb ec ed ee =
        let s = eqb-true f.place.line g.place.line eb in
        let l = eqb-true f.place.column g.place.column ed in
        let n = leb-false (number_of f.problem) (number_of g.problem) ee in
        inr (refl, record { lines = omega arith; columns = λ t. omega arith; numbers = λ t u. omega arith })

follows : (f g h : TypeFault) → NotAfter f g → NotAfter g h → NotAfter f h
follows f g h a b =
    record {
      lines = let x = a.lines in let y = b.lines in omega arith;
      columns = λ s. let x = a.lines in let y = b.lines in let p : f.place.line ≡ g.place.line = omega arith in let q : g.place.line ≡ h.place.line =
          omega arith in let u = a.columns p in let v = b.columns q in omega arith;
      numbers = λ s t. let x = a.lines in let y = b.lines in let p : f.place.line ≡ g.place.line = omega arith in
          let q : g.place.line ≡ h.place.line = omega arith in let u = a.columns p in let v = b.columns q in let m : f.place.column ≡ g.place.column =
          omega arith in let n : g.place.column ≡ h.place.column = omega arith in let i = a.numbers p m in let j = b.numbers q n in omega arith;
    }

itself : (f : TypeFault) → NotAfter f f
itself f = record { lines = omega arith; columns = λ s. omega arith; numbers = λ s t. omega arith }

-- the least of o and the list
record LeastOf (f o : TypeFault) (fs : List TypeFault) : Type 0 where
  among : (f ≡ o) ⊎ Among f fs
  first : NotAfter f o
  rest : (g : TypeFault) → Among g fs → NotAfter f g

least_of : (o : TypeFault) (fs : List TypeFault) (f : TypeFault) → least (Some o) fs ≡ Some f → LeastOf f o fs
least_of o [] f e =
    let same : o ≡ f = cc in
    record { among = inl (sym same); first = subst (λ z. NotAfter z o) same (itself o); rest = λ g h. absurd h }
least_of o (n ∷ fs) f e = go (told o n) (λ h. least_of o fs f h) (λ h. least_of n fs f h)
  where
    here : (w : TypeFault) → LeastOf f w fs → (w ≡ o) ⊎ (w ≡ n) → NotAfter w o → NotAfter w n → LeastOf f o (n ∷ fs)
    here w l which bo bn = record {
      among = ⊎_elim (λ (s : f ≡ w). ⊎_elim (λ (t : w ≡ o). inl (s ∙ t)) (λ (t : w ≡ n). inr (inl (s ∙ t))) which) (λ (m : Among f fs). inr (inr m)) l.among;
      first = follows f w o l.first bo;
      rest = λ g h. ⊎_elim (λ (s : g ≡ n). subst (NotAfter f) (sym s) (follows f w n l.first bn)) (λ (m : Among g fs). l.rest g m) h;
    }

    go : ((is_before o n ≡ true) × NotAfter o n) ⊎ ((is_before o n ≡ false) × NotAfter n o) → (least (Some o) fs ≡ Some f → LeastOf f o fs)
        → (least (Some n) fs ≡ Some f → LeastOf f n fs) → LeastOf f o (n ∷ fs)
    go (inl t) io in' = here o (io (ap (λ b. least (cond b (Some o) (Some n)) fs) (sym t.0) ∙ e)) (inl refl) (itself o) t.1
    go (inr t) io in' = here n (in' (ap (λ b. least (cond b (Some o) (Some n)) fs) (sym t.0) ∙ e)) (inr refl) t.1 (itself n)

pub is_least : (fs : List TypeFault) (f : TypeFault) → least None fs ≡ Some f → IsLeast f fs
is_least [] f e = cc
is_least (o ∷ fs) f e =
    let l = least_of o fs f e in
    record {
      among = l.among;
      before = λ g h. ⊎_elim (λ (s : g ≡ o). subst (NotAfter f) (sym s) l.first) (λ (m : Among g fs). l.rest g m) h;
    }

-- a least fault, once there is one, is not lost
kept : (o : TypeFault) (fs : List TypeFault) → least (Some o) fs ≡ None → ⊥
kept o [] e = cc
kept o (g ∷ fs) e = go (is_before o g) e (kept o fs) (kept g fs)
  where
    go : (b : Bool) → least (cond b (Some o) (Some g)) fs ≡ None → (least (Some o) fs ≡ None → ⊥) → (least (Some g) fs ≡ None → ⊥) → ⊥
    go true e i j = i e
    go false e i j = j e

pub none_from_least : (fs : List TypeFault) → least None fs ≡ None → fs ≡ []
none_from_least [] e = refl
none_from_least (f ∷ fs) e = absurd (kept f fs e)

-- ONE LEAST FAULT

-- the problem of a number
abbrev problem_of : ℕ → TypeProblem
problem_of n =
    if nat_eq n 1 then UnknownName
    else if nat_eq n 2 then Twice
    else if nat_eq n 3 then TypeMismatch
    else if nat_eq n 4 then PrivateCondition
    else if nat_eq n 5 then PrivateIndex
    else if nat_eq n 6 then PrivateSize
    else if nat_eq n 7 then PrivateToPublic
    else if nat_eq n 8 then PrivateDivision
    else if nat_eq n 9 then PrivateAssert
    else if nat_eq n 10 then DomainMix
    else if nat_eq n 11 then NoMain
    else if nat_eq n 12 then BadImport
    else if nat_eq n 13 then BadArity
    else if nat_eq n 14 then MissingReturn
    else ArgumentPlace

numbered : (x : TypeProblem) → problem_of (number_of x) ≡ x
numbered UnknownName = refl
numbered Twice = refl
numbered TypeMismatch = refl
numbered PrivateCondition = refl
numbered PrivateIndex = refl
numbered PrivateSize = refl
numbered PrivateToPublic = refl
numbered PrivateDivision = refl
numbered PrivateAssert = refl
numbered DomainMix = refl
numbered NoMain = refl
numbered BadImport = refl
numbered BadArity = refl
numbered MissingReturn = refl
numbered ArgumentPlace = refl

-- two faults of which neither stands after the other
pub same_fault : (f g : TypeFault) → NotAfter f g → NotAfter g f → f ≡ g
same_fault f g a b =
    let x = a.lines in
    let y = b.lines in
    let line : f.place.line ≡ g.place.line = omega arith in
    let u = a.columns line in
    let v = b.columns (sym line) in
    let column : f.place.column ≡ g.place.column = omega arith in
    let i = a.numbers line column in
    let j = b.numbers (sym line) (sym column) in
    let number : number_of f.problem ≡ number_of g.problem = omega arith in
    let problem : f.problem ≡ g.problem = sym (numbered f.problem) ∙ ap problem_of number ∙ numbered g.problem in
    let place : f.place ≡ g.place = ap₂ (λ (l k : ℕ). record { line = l; column = k }) line column in
    ap₂ (λ (p : Span) (q : TypeProblem). record { place = p; problem = q }) place problem

pub ruleset laws = (is_least, none_from_least)
