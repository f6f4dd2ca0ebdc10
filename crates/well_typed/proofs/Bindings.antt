-- Domains on both sides: what operations make of them, and what a call binds domain variables to.
use Rattle.std.proofs.Common.{◌≡◌, ℕ, zero, suc, ◌+◌, ◌<◌, ◌≤◌, ◌≢◌, List, [], ◌∷◌, ◌++◌, length, take, refl, sym, ap, ap₂, ◌∙◌, subst, Option, Some, None}
use Rattle.std.proofs.Common.{Bool, true, false, cond, eq-eqb, arith}
use Rattle.std.specs.Prelude.{map, nat_eq, bytes_eq, option_map, option_and_then}
use Rattle.std.specs.List.{slice_get}
use Rattle.std.proofs.lemmas.Bool.{eqb-true, or_parts}
use Rattle.std.proofs.lemmas.Option.{same_Some}
use Rattle.std.proofs.lemmas.List.{map-append, take_all}
use Rattle.program_trees.specs.declared.statement.Domain.{Domain}
use Rattle.program_trees.specs.declared.statement.Domain.TheVariants as domain
use Rattle.program_trees.specs.declared.statement.DeclaredType.{DeclaredType}
use Rattle.program_trees.specs.declared.function.DomainVariable.{DomainVariable}
use Rattle.program_trees.specs.declared.function.Parameter.{Parameter}
use Rattle.program_trees.specs.Programs.{ItemTree}
use Rattle.domain_types.specs.declared.value_type.Argument.{Argument}
use Rattle.domain_types.specs.declared.value_type.Protection.{Protection}
use Rattle.domain_types.specs.declared.value_type.Protection.TheVariants as checked
use Rattle.domain_types.specs.Types.{meet}
use Rattle.domain_types.specs.Declarations.{Declared, number_in}
use Rattle.domain_types.specs.ExpressionTypes.{is_named, bound_from, bound_by}
use Rattle.domain_types.specs.FunctionTypes as head
use Rattle.domain_types.specs.Typing.{Meets, AreBound, AreDomainVariables}
use Rattle.domain_types.specs.Typing as typing
use Rattle.program_trees.specs.declared.kinds.SlotDomain.{SlotDomain}
use Rattle.program_trees.specs.declared.kinds.SlotDomain.TheVariants as slot
use Rattle.program_trees.specs.declared.kinds.Slot.{Slot}
use Rattle.name_resolution.specs.Values.{and_more}
use Rattle.name_resolution.specs.Functions.{variable_number, domain_named, slot_domain, slot_in, slot_written, slots_written}
use Rattle.name_resolution.proofs.SoundValues.{mapped, both_there, some_is}
use Rattle.reached_instances.specs.declared.instance.BoundDomain.{BoundDomain}
use Rattle.reached_instances.specs.declared.instance.BoundDomain.TheVariants.{Public, Private}
use Rattle.reached_instances.specs.Domains.{is_private, joined_domain, is_variable, bound_to, bound_below}
use Rattle.program_typing.proofs.ReachedFunctions.{text_is, text_same}
use Rattle.well_typed.specs.Kinds.{GoesTo, Meet}
use Rattle.well_typed.specs.Laws.{bound_domain}

-- TWO DOMAINS

pub meets_meet : (a b r : Protection) → Meets a b r → Meet (bound_domain a) (bound_domain b)
meets_meet checked.Public d r h = tt
meets_meet (checked.Private k) checked.Public r h = tt
meets_meet (checked.Private k) (checked.Private m) r h = h.0

pub meets_joined : (a b r : Protection) → Meets a b r → joined_domain (bound_domain a) (bound_domain b) ≡ bound_domain r
meets_joined checked.Public d r h = ap bound_domain (sym h)
meets_joined (checked.Private k) checked.Public r h = ap bound_domain (sym h)
meets_joined (checked.Private k) (checked.Private m) r h = ap bound_domain (sym h.1)

pub bound_private : (d : Protection) → d ≢ checked.Public → is_private (bound_domain d) ≡ true
bound_private checked.Public h = absurd (h refl)
bound_private (checked.Private k) h = refl

meet_joined : (a b r : Protection) → meet a b ≡ Some r → joined_domain (bound_domain a) (bound_domain b) ≡ bound_domain r
meet_joined checked.Public d r e = ap bound_domain (same_Some d r e)
meet_joined (checked.Private k) checked.Public r e = ap bound_domain (same_Some (checked.Private k) r e)
meet_joined (checked.Private k) (checked.Private m) r e = go (nat_eq k m) e
  where
    go : (b : Bool) → cond b (Some (checked.Private k)) None ≡ Some r → Private k ≡ bound_domain r
    go true h = ap bound_domain (same_Some (checked.Private k) r h)
    go false h = cc

pub goes : (given wanted : Protection) → typing.GoesTo given wanted → GoesTo (bound_domain given) (bound_domain wanted)
goes checked.Public wanted h = tt
goes (checked.Private k) checked.Public h = absurd h
goes (checked.Private k) (checked.Private m) h = h

joined_with_three : (a b c : BoundDomain) → joined_domain (joined_domain a b) c ≡ joined_domain a (joined_domain b c)
joined_with_three Public b c = refl
joined_with_three (Private k) b c = refl

joined_public : (a : BoundDomain) → joined_domain a Public ≡ a
joined_public Public = refl
joined_public (Private k) = refl

-- DOMAIN VARIABLES BY THEIR NUMBERS

both_true : (a b : Bool) → (a ≡ true → b ≡ true) → (b ≡ true → a ≡ true) → a ≡ b
both_true true b f g = sym (f refl)
both_true false true f g = g refl
both_true false false f g = refl

-- each name is new, so a variable is found under its own number
abbrev pub HaveOwnNumbers : List DomainVariable → Type 0
HaveOwnNumbers vs = (i : ℕ) (v : DomainVariable) → slice_get vs i ≡ Some v → variable_number v.variable.text vs ≡ Some i

new_before : (d : Declared) (items : List ItemTree) (ps : List Parameter) (before vs : List DomainVariable) → AreDomainVariables d items ps before vs
    → (i : ℕ) (v : DomainVariable) → slice_get vs i ≡ Some v → head.is_variable v.variable.text before ≡ false
new_before d items ps before [] h i v e = cc
new_before d items ps before (w ∷ ws) h zero v e = subst (λ (z : DomainVariable). head.is_variable z.variable.text before ≡ false) (same_Some w v e) h.0.new
new_before d items ps before (w ∷ ws) h (suc i) v e =
    (or_parts (bytes_eq v.variable.text w.variable.text) (head.is_variable v.variable.text before) (new_before d items ps (w ∷ before) ws h.1 i v e)).1

pub own_numbers : (d : Declared) (items : List ItemTree) (ps : List Parameter) (before vs : List DomainVariable)
    → AreDomainVariables d items ps before vs → HaveOwnNumbers vs
own_numbers d items ps before [] h i v e = cc
own_numbers d items ps before (w ∷ ws) h zero v e =
    ap (λ (z : DomainVariable). variable_number z.variable.text (w ∷ ws)) (sym (same_Some w v e))
    ∙ ap (λ b. cond b (Some 0) (option_map (λ k. k + 1) (variable_number w.variable.text ws))) (text_same w.variable.text w.variable.text refl)
own_numbers d items ps before (w ∷ ws) h (suc i) v e =
    let other = (or_parts (bytes_eq v.variable.text w.variable.text) (head.is_variable v.variable.text before)
    (new_before d items ps (w ∷ before) ws h.1 i v e)).0 in
    let next : i + 1 ≡ suc i = omega arith in
    ap (λ b. cond b (Some 0) (option_map (λ k. k + 1) (variable_number v.variable.text ws))) other
    ∙ ap (option_map (λ k. k + 1)) (own_numbers d items ps (w ∷ before) ws h.1 i v e)
    ∙ ap Some next

-- the variable of a number
numbered : (x : List ℕ) (vs : List DomainVariable) (u : ℕ) → variable_number x vs ≡ Some u
    → (v : DomainVariable) × (slice_get vs u ≡ Some v) × (x ≡ v.variable.text)
numbered x [] u e = cc
numbered x (w ∷ ws) u e = go (bytes_eq x w.variable.text) refl e (numbered x ws)
  where
    go : (b : Bool) → bytes_eq x w.variable.text ≡ b → cond b (Some 0) (option_map (λ k. k + 1) (variable_number x ws)) ≡ Some u
        → ((i : ℕ) → variable_number x ws ≡ Some i → (v : DomainVariable) × (slice_get ws i ≡ Some v) × (x ≡ v.variable.text))
        → (v : DomainVariable) × (slice_get (w ∷ ws) u ≡ Some v) × (x ≡ v.variable.text)
    go true q h rest =
        let at : 0 ≡ u = same_Some 0 u h in
        (w, ap (slice_get (w ∷ ws)) (sym at), text_is x w.variable.text q)
    go false q h rest =
        let m = mapped (λ k. k + 1) (variable_number x ws) u h in
        let r = rest m.part m.there in
        let part_is : m.part + 1 ≡ u = m.is in
        let at : u ≡ suc m.part = omega arith in
        (r.0, ap (slice_get (w ∷ ws)) at ∙ r.1, r.2)

-- a slot names the domain variable that its type names
same_variable : (k : Declared) (vs : List DomainVariable) → HaveOwnNumbers vs → (i : ℕ) (v : DomainVariable) → slice_get vs i ≡ Some v
    → (x : Domain) (s : SlotDomain) → slot_domain k vs x ≡ Some s → is_variable i s ≡ is_named v.variable.text x
same_variable k vs own i v at domain.Public s e = ap (is_variable i) (sym (some_is slot.Public s e))
same_variable k vs own i v at (domain.Named x) s e = go (variable_number x.text vs) refl e
  where
    own_at : bytes_eq v.variable.text x.text ≡ true → variable_number x.text vs ≡ Some i
    own_at t = ap (λ y. variable_number y vs) (sym (text_is v.variable.text x.text t)) ∙ own i v at

    go : (o : Option ℕ) → variable_number x.text vs ≡ o → domain_named k x.text o ≡ Some s → is_variable i s ≡ bytes_eq v.variable.text x.text
    go (Some u) q h = ap (is_variable i) (sym (some_is (slot.Variable u) s h)) ∙ both_true (nat_eq u i) (bytes_eq v.variable.text x.text) told back
      where
        told : nat_eq u i ≡ true → bytes_eq v.variable.text x.text ≡ true
        told t =
            let n = numbered x.text vs u q in
            let same : v ≡ n.0 = some_is v n.0 (sym at ∙ ap (slice_get vs) (sym (eqb-true u i t)) ∙ n.1) in
            text_same v.variable.text x.text (ap (λ (z : DomainVariable). z.variable.text) same ∙ sym n.2)

        back : bytes_eq v.variable.text x.text ≡ true → nat_eq u i ≡ true
        back t = eq-eqb u i (some_is u i (sym q ∙ own_at t))
    go None q h =
        let m = mapped slot.Private (number_in x.text k.domains) s h in
        ap (is_variable i) (sym m.is) ∙ both_true false (bytes_eq v.variable.text x.text) (λ t. cc) (λ t. let no : Some i ≡ None = sym (own_at t) ∙ q in cc)

-- WHAT A CALL BINDS

abbrev pub declared_type : Parameter → DeclaredType
declared_type p = p.declared

abbrev pub argument_domain : Argument → BoundDomain
argument_domain g = bound_domain g.given.domain

pub slots_first : (k : Declared) (vs : List DomainVariable) (t : DeclaredType) (ts : List DeclaredType) (ss : List Slot)
    → slots_written k vs (t ∷ ts) ≡ Some ss → (s : Slot) × (rest : List Slot) × (slot_written k vs t ≡ Some s) × (slots_written k vs ts ≡ Some rest)
    × (s ∷ rest ≡ ss)
slots_first k vs t ts ss e =
    let m = both_there and_more (slot_written k vs t) (slots_written k vs ts) ss e in
    (m.left, m.right, m.left_there, m.right_there, some_is (m.left ∷ m.right) ss m.is)

bound_to_none : (i : ℕ) (ss : List Slot) → bound_to i ss [] ≡ Public
bound_to_none i [] = refl
bound_to_none i (s ∷ ss) = refl

-- one domain variable; e is what the arguments so far have made
module _ (k : Declared) (vs : List DomainVariable) (own : HaveOwnNumbers vs) (i : ℕ) (v : DomainVariable) (at : slice_get vs i ≡ Some v)
    (more : List Slot) where
  bound_same : (ps : List Parameter) (gs : List Argument) (ss : List Slot) (e r : Protection) → slots_written k vs (map declared_type ps) ≡ Some ss
      → length ps ≡ length gs → bound_from e v.variable.text ps gs ≡ Some r
      → joined_domain (bound_domain e) (bound_to i (ss ++ more) (map argument_domain gs)) ≡ bound_domain r
  bound_same [] [] ss e r w n h =
      ap (joined_domain (bound_domain e)) (bound_to_none i (ss ++ more)) ∙ joined_public (bound_domain e) ∙ ap bound_domain (some_is e r h)
  bound_same [] (g ∷ gs) ss e r w n h = absurd (omega arith)
  bound_same (p ∷ ps) [] ss e r w n h = absurd (omega arith)
  bound_same (p ∷ ps) (g ∷ gs) ss e r w n h =
      let f = slots_first k vs p.declared (map declared_type ps) ss w in
      let m = mapped (slot_in p.declared) (slot_domain k vs p.declared.domain) f.0 f.2 in
      let name_is : is_variable i f.0.domain ≡ is_named v.variable.text p.declared.domain =
      ap (λ (z : Slot). is_variable i z.domain) (sym m.is) ∙ same_variable k vs own i v at p.declared.domain m.part m.there in
      let shorter : length ps ≡ length gs = omega arith in
      ap (λ (z : List Slot). joined_domain (bound_domain e) (bound_to i (z ++ more) (map argument_domain (g ∷ gs)))) (sym f.4)
      ∙ ap (λ b. joined_domain (bound_domain e)
      (cond b (joined_domain (argument_domain g) (bound_to i (f.1 ++ more) (map argument_domain gs)))
      (bound_to i (f.1 ++ more) (map argument_domain gs)))) name_is
      ∙ go (is_named v.variable.text p.declared.domain) f.1 h (λ e'. bound_same ps gs f.1 e' r f.3 shorter)
    where
      go : (b : Bool) (rest : List Slot)
          → cond b (option_and_then (λ e'. bound_from e' v.variable.text ps gs) (meet e g.given.domain)) (bound_from e v.variable.text ps gs) ≡ Some r
          → ((e' : Protection) → bound_from e' v.variable.text ps gs ≡ Some r
          → joined_domain (bound_domain e') (bound_to i (rest ++ more) (map argument_domain gs)) ≡ bound_domain r)
          → joined_domain (bound_domain e)
          (cond b (joined_domain (argument_domain g) (bound_to i (rest ++ more) (map argument_domain gs)))
          (bound_to i (rest ++ more) (map argument_domain gs))) ≡ bound_domain r
      go false rest q ih = ih e q
      go true rest q ih = met (meet e g.given.domain) refl q
        where
          met : (o : Option Protection) → meet e g.given.domain ≡ o → option_and_then (λ e'. bound_from e' v.variable.text ps gs) o ≡ Some r
              → joined_domain (bound_domain e) (joined_domain (argument_domain g) (bound_to i (rest ++ more) (map argument_domain gs))) ≡ bound_domain r
          met None a b = cc
          met (Some e') a b =
              sym (joined_with_three (bound_domain e) (argument_domain g) (bound_to i (rest ++ more) (map argument_domain gs)))
              ∙ ap (λ z. joined_domain z (bound_to i (rest ++ more) (map argument_domain gs))) (meet_joined e g.given.domain e' a)
              ∙ ih e' b

-- all of them

pub bound_count : (vs : List DomainVariable) (ps : List Parameter) (gs : List Argument) (ds : List Protection) → AreBound vs ps gs ds → length ds ≡ length vs
bound_count [] ps gs ds h = ap length h
bound_count (v ∷ vs) ps gs [] h = absurd h
bound_count (v ∷ vs) ps gs (d ∷ ds) h = ap suc (bound_count vs ps gs ds h.2)

bound_at : (vs : List DomainVariable) (ps : List Parameter) (gs : List Argument) (ds : List Protection) → AreBound vs ps gs ds
    → (i : ℕ) (d : Protection) → slice_get ds i ≡ Some d → (v : DomainVariable) × (slice_get vs i ≡ Some v) × (bound_by v.variable.text ps gs ≡ Some d)
bound_at [] ps gs ds h i d e = let nothing : List Protection = [] in let no : slice_get nothing i ≡ Some d =
    ap (λ (z : List Protection). slice_get z i) (sym h) ∙ e in cc
bound_at (v ∷ vs) ps gs [] h i d e = absurd h
bound_at (v ∷ vs) ps gs (c ∷ cs) h zero d e = (v, refl, h.0 ∙ e)
bound_at (v ∷ vs) ps gs (c ∷ cs) h (suc i) d e = bound_at vs ps gs cs h.2 i d e

there_below : {A : Type 0} (xs : List A) (n : ℕ) → n < length xs → (x : A) × (slice_get xs n ≡ Some x)
there_below [] n l = absurd (omega arith)
there_below (x ∷ xs) zero l = (x, refl)
there_below (x ∷ xs) (suc n) l = there_below xs n (omega arith)

take_more : {A : Type 0} (xs : List A) (n : ℕ) (x : A) → slice_get xs n ≡ Some x → take (suc n) xs ≡ take n xs ++ x ∷ []
take_more [] n x e = cc
take_more (y ∷ ys) zero x e = ap (λ z. z ∷ []) (same_Some y x e)
take_more (y ∷ ys) (suc n) x e = ap (λ zs. y ∷ zs) (take_more ys n x e)

module _ (k : Declared) (vs : List DomainVariable) (own : HaveOwnNumbers vs) (ps : List Parameter) (gs : List Argument) (first more : List Slot)
    (written : slots_written k vs (map declared_type ps) ≡ Some first) (count : length ps ≡ length gs) (ds : List Protection)
    (bound : AreBound vs ps gs ds) where
  below_same : (n : ℕ) → n ≤ length ds → bound_below n (first ++ more) (map argument_domain gs) ≡ map bound_domain (take n ds)
  below_same zero l = refl
  below_same (suc n) l =
      let t = there_below ds n (omega arith) in
      let b = bound_at vs ps gs ds bound n t.0 t.1 in
      let less : n ≤ length ds = omega arith in
      ap₂ (λ xs y. xs ++ y ∷ []) (below_same n less) (bound_same k vs own n b.0 b.1 more ps gs first checked.Public t.0 written count b.2)
      ∙ sym (map-append bound_domain (take n ds) (t.0 ∷ []))
      ∙ ap (map bound_domain) (sym (take_more ds n t.0 t.1))

  pub binding_same : bound_below (length vs) (first ++ more) (map argument_domain gs) ≡ map bound_domain ds
  binding_same =
      let n = bound_count vs ps gs ds bound in
      let itself : length ds ≤ length ds = omega arith in
      ap (λ m. bound_below m (first ++ more) (map argument_domain gs)) (sym n)
      ∙ below_same (length ds) itself
      ∙ ap (map bound_domain) (take_all (length ds) ds itself)
