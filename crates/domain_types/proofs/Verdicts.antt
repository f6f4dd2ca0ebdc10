-- The work list of a program reaches just the instances that are checked, and finds just the faults of the program.
use Rattle.std.proofs.Common.{◌≡◌, ℕ, zero, suc, ◌+◌, List, [], ◌∷◌, ◌++◌, ◌⊎◌, inl, inr, refl, sym, ap, ap₂, ◌∙◌, subst, Option, Some, None, Bool}
use Rattle.std.proofs.Common.{true, false, arith, append-nil, eq-eqb}
use Rattle.std.specs.Prelude.{nat_eq, not, ◌||◌, if◌then◌else◌}
use Rattle.std.specs.List.{slice_get}
use Rattle.std.proofs.lemmas.Bool.{eqb-true}
use Rattle.std.proofs.lemmas.Option.{none-some, same_Some}
use Rattle.program_trees.specs.declared.statement.Identifier.{Identifier}
use Rattle.program_trees.specs.declared.function.DomainVariable.{DomainVariable}
use Rattle.program_trees.specs.Programs.{FunctionTree, ProgramTree}
use Rattle.domain_types.specs.declared.fault.TypeFault.{TypeFault}
use Rattle.domain_types.specs.declared.fault.TypeProblem.TheVariants.{NoMain}
use Rattle.domain_types.specs.Types.{is_without, fault_if}
use Rattle.declarations.specs.Declarations.{Declared, declared_by, functions_of}
use Rattle.domain_types.specs.ExpressionTypes.{within}
use Rattle.domain_types.specs.FunctionTypes.{function_faults, protections_of, domain_variables_faults}
use Rattle.sc_text.specs.Lists.{Among}
use Rattle.domain_types.specs.inner.LeastFault.{least}
use Rattle.domain_types.specs.Reached.{Call, function_calls, Instance, Calls, IsChecked, plain, reached}
use Rattle.domain_types.specs.ProgramTypes.{items_faults, has_main, declaring_faults, IsFault, declaring, inside, of_head}
use Rattle.domain_types.specs.Answer.{AreTheChecked, IsTold}
use Rattle.domain_types.specs.inner.WorkList.{added, with_plain, plain_instances, of_function, instance_faults, instance_calls, gathered, is_called}
use Rattle.domain_types.specs.inner.WorkList.{heads_faults, IsReached, begins, follows, AreVisited}
use Rattle.sc_text.proofs.Lists.{among_left, among_right, among_parts}
use Rattle.domain_types.proofs.TypingPrograms.{HasJustTheFaults, least_is_told, none_is_accepted, accepted_is_typed}
use Rattle.domain_types.proofs.Visits.{then_least}
use Rattle.domain_types.proofs.WorkList.{among_gathered, source_of, comes, came, Grows, grows_more, grows_by_one, still_there}

-- THE PLAIN FUNCTIONS

-- a list after a function that is numbered n
abbrev behind_one : List Instance → ℕ → FunctionTree → List Instance
behind_one is n f = if is_without f.variables then added is (record { function = n; binding = [] }) else is

grows_by_function : (is : List Instance) (n : ℕ) (f : FunctionTree) → Grows is (behind_one is n f)
grows_by_function is n f = go (is_without f.variables)
  where
    go : (b : Bool) → Grows is (if b then added is (record { function = n; binding = [] }) else is)
    go true = grows_by_one (record { function = n; binding = [] }) is
    go false = ([], sym (append-nil is))

grows_by_plain : (is : List Instance) (n : ℕ) (fs : List FunctionTree) → Grows is (with_plain is n fs)
grows_by_plain is n [] = ([], sym (append-nil is))
grows_by_plain is n (f ∷ fs) =
    grows_more is (behind_one is n f) (with_plain (behind_one is n f) (n + 1) fs) (grows_by_function is n f) (grows_by_plain (behind_one is n f) (n + 1) fs)

abbrev plain_at : ℕ → Instance
plain_at n = record { function = n; binding = [] }

plain_comes : (is : List Instance) (n : ℕ) (f : FunctionTree) → f.variables ≡ [] → Among (plain_at n) (behind_one is n f)
plain_comes is n f v =
    subst (λ (b : Bool). Among (plain_at n) (if b then added is (plain_at n) else is)) (sym (ap is_without v)) (comes (plain_at n) is)

plain_listed : (is : List Instance) (n : ℕ) (fs : List FunctionTree) (k : ℕ) (f : FunctionTree) → slice_get fs k ≡ Some f → f.variables ≡ []
    → Among (plain_at (n + k)) (with_plain is n fs)
plain_listed is n [] k f e v = absurd (none-some f e)
plain_listed is n (g ∷ fs) zero f e v =
    let count : n ≡ n + 0 = omega arith in
    subst (λ (m : ℕ). Among (plain_at m) (with_plain is n (g ∷ fs))) count
    (still_there (plain_at n) (behind_one is n g) (with_plain (behind_one is n g) (n + 1) fs) (grows_by_plain (behind_one is n g) (n + 1) fs)
    (plain_comes is n g (ap (λ h. h.variables) (same_Some g f e) ∙ v)))
plain_listed is n (g ∷ fs) (suc k) f e v =
    let count : n + 1 + k ≡ n + suc k = omega arith in
    subst (λ (m : ℕ). Among (plain_at m) (with_plain is n (g ∷ fs))) count (plain_listed (behind_one is n g) (n + 1) fs k f e v)

-- an instance is that of a plain function of these, which are numbered from n on
record PlainSource (n : ℕ) (fs : List FunctionTree) (i : Instance) : Type 0 where
  place : ℕ
  function : FunctionTree
  at : slice_get fs place ≡ Some function
  is_plain : function.variables ≡ []
  same : i ≡ plain_at (n + place)

plain_source : (is : List Instance) (n : ℕ) (fs : List FunctionTree) (i : Instance) → Among i (with_plain is n fs) → Among i is ⊎ PlainSource n fs i
plain_source is n [] i m = inl m
plain_source is n (f ∷ fs) i m = further (plain_source (behind_one is n f) (n + 1) fs i m)
  where
    first : Among i is ⊎ (i ≡ plain_at n) → f.variables ≡ [] → Among i is ⊎ PlainSource n (f ∷ fs) i
    first (inl k) v = inl k
    first (inr e) v =
        let count : n ≡ n + 0 = omega arith in
        inr (record { place = 0; function = f; at = refl; is_plain = v; same = e ∙ ap plain_at count })

    here : (vs : List DomainVariable) → f.variables ≡ vs → Among i (if is_without vs then added is (plain_at n) else is) → Among i is ⊎ PlainSource n (f ∷ fs) i
    here [] v k = first (came (plain_at n) i is k) v
    here (w ∷ ws) v k = inl k

    further : Among i (behind_one is n f) ⊎ PlainSource (n + 1) fs i → Among i is ⊎ PlainSource n (f ∷ fs) i
    further (inl k) = here f.variables refl k
    further (inr s) =
        let count : n + 1 + s.place ≡ n + suc s.place = omega arith in
        inr (record { place = suc s.place; function = s.function; at = s.at; is_plain = s.is_plain; same = s.same ∙ ap plain_at count })

-- WHAT IS REACHED

calls_made : (p : ProgramTree) (i : Instance) (c : Call) → Among c (instance_calls (declared_by p) i) → Calls p i c
calls_made p i c = go (slice_get (functions_of p.items) i.function) refl
  where
    go : (o : Option FunctionTree) → slice_get (functions_of p.items) i.function ≡ o
        → Among c (of_function o (λ f. function_calls (within (declared_by p) f i.binding) f)) → Calls p i c
    go None e m = absurd m
    go (Some f) e m = record { called_in = f; there = e; calls = m }

calls_there : (p : ProgramTree) (i : Instance) (c : Call) → Calls p i c → Among c (instance_calls (declared_by p) i)
calls_there p i c made =
    subst (λ (o : Option FunctionTree). Among c (of_function o (λ f. function_calls (within (declared_by p) f i.binding) f))) (sym made.there) made.calls

checked_if_begun : (p : ProgramTree) (i : Instance) → Among i (plain_instances (declared_by p)) → IsChecked p i
checked_if_begun p i m = go (plain_source [] 0 (functions_of p.items) i m)
  where
    go : Among i [] ⊎ PlainSource 0 (functions_of p.items) i → IsChecked p i
    go (inl k) = absurd k
    go (inr s) =
        let count : 0 + s.place ≡ s.place = omega arith in
        subst (IsChecked p) (sym (s.same ∙ ap plain_at count)) (plain s.place s.function s.at s.is_plain)

checked_if_reached : (p : ProgramTree) (i : Instance) → IsReached (declared_by p) (plain_instances (declared_by p)) i → IsChecked p i
checked_if_reached p i (begins j m) = checked_if_begun p j m
checked_if_reached p i (follows j k ds r m) =
    reached j k ds (checked_if_reached p j r) (calls_made p j (record { function = k; binding = Some ds }) m)

-- what the checker has after all visits
pub record IsWorked (d : Declared) (is : List Instance) (test : ℕ → Bool) : Type 0 where
  pub visited : AreVisited d (plain_instances d) is is
  pub called : (k : ℕ) → test k ≡ is_called k (gathered (instance_calls d) is)

listed_if_checked : (p : ProgramTree) (is : List Instance) (test : ℕ → Bool) → IsWorked (declared_by p) is test → (i : Instance) → IsChecked p i → Among i is
listed_if_checked p is test w i (plain k f at v) =
    let count : 0 + k ≡ k = omega arith in
    w.visited.starts (plain_at k)
    (subst (λ (m : ℕ). Among (plain_at m) (plain_instances (declared_by p))) count (plain_listed [] 0 (functions_of p.items) k f at v))
listed_if_checked p is test w i (reached j k ds c made) =
    let call : Call = record { function = k; binding = Some ds } in
    w.visited.followed call ds
    (among_gathered (instance_calls (declared_by p)) j call is (listed_if_checked p is test w j c) (calls_there p j call made))
    refl

pub are_the_checked : (p : ProgramTree) (is : List Instance) (test : ℕ → Bool) → IsWorked (declared_by p) is test → AreTheChecked p is
are_the_checked p is test w =
    record {
      listed = λ i. (listed_if_checked p is test w i, λ m. checked_if_reached p i (w.visited.reached i m));
      once = w.visited.once;
    }

-- WHAT IS CALLED

called_told : (c : Call) (cs : List Call) → Among c cs → is_called c.function cs ≡ true
called_told c [] m = absurd m
called_told c (d ∷ cs) (inl e) = ap (λ b. b || is_called c.function cs) (eq-eqb d.function c.function (ap (λ z. z.function) (sym e)))
called_told c (d ∷ cs) (inr m) = go (nat_eq d.function c.function) (called_told c cs m)
  where
    go : (b : Bool) → is_called c.function cs ≡ true → b || is_called c.function cs ≡ true
    go true e = refl
    go false e = e

record CallOf (k : ℕ) (cs : List Call) : Type 0 where
  call : Call
  made : Among call cs
  function : call.function ≡ k

call_of_called : (k : ℕ) (cs : List Call) → is_called k cs ≡ true → CallOf k cs
call_of_called k [] e = cc
call_of_called k (c ∷ cs) e = go (nat_eq c.function k) refl e (call_of_called k cs)
  where
    go : (b : Bool) → nat_eq c.function k ≡ b → b || is_called k cs ≡ true → (is_called k cs ≡ true → CallOf k cs) → CallOf k (c ∷ cs)
    go true t f rest = record { call = c; made = inl refl; function = eqb-true c.function k t }
    go false t f rest = let r = rest f in record { call = r.call; made = inr r.made; function = r.function }

-- HEADS

heads_there : (d : Declared) (ps : List Identifier) (test : ℕ → Bool) (n : ℕ) (fs : List FunctionTree) (k : ℕ) (f : FunctionTree) (g : TypeFault)
    → test (n + k) ≡ true → slice_get fs k ≡ Some f → Among g (domain_variables_faults d ps f.parameters [] f.variables) → Among g (heads_faults d ps test n fs)
heads_there d ps test n [] k f g t e m = absurd (none-some f e)
heads_there d ps test n (h ∷ fs) zero f g t e m =
    let own : List TypeFault = domain_variables_faults d ps h.parameters [] h.variables in
    let count : n + 0 ≡ n = omega arith in
    let picked : test n ≡ true = ap test (sym count) ∙ t in
    among_left g (if test n then own else []) (heads_faults d ps test (n + 1) fs)
    (subst (λ (b : Bool). Among g (if b then own else [])) (sym picked)
    (subst (λ (z : FunctionTree). Among g (domain_variables_faults d ps z.parameters [] z.variables)) (sym (same_Some h f e)) m))
heads_there d ps test n (h ∷ fs) (suc k) f g t e m =
    let count : n + 1 + k ≡ n + suc k = omega arith in
    among_right g (if test n then domain_variables_faults d ps h.parameters [] h.variables else []) (heads_faults d ps test (n + 1) fs)
    (heads_there d ps test (n + 1) fs k f g (ap test count ∙ t) e m)

record HeadSource (d : Declared) (ps : List Identifier) (test : ℕ → Bool) (n : ℕ) (fs : List FunctionTree) (g : TypeFault) : Type 0 where
  place : ℕ
  function : FunctionTree
  picked : test (n + place) ≡ true
  at : slice_get fs place ≡ Some function
  among : Among g (domain_variables_faults d ps function.parameters [] function.variables)

head_source : (d : Declared) (ps : List Identifier) (test : ℕ → Bool) (n : ℕ) (fs : List FunctionTree) (g : TypeFault)
    → Among g (heads_faults d ps test n fs) → HeadSource d ps test n fs g
head_source d ps test n [] g m = absurd m
head_source d ps test n (h ∷ fs) g m =
    go (among_parts g (if test n then domain_variables_faults d ps h.parameters [] h.variables else []) (heads_faults d ps test (n + 1) fs) m)
    (head_source d ps test (n + 1) fs g)
  where
    here : (b : Bool) → test n ≡ b → Among g (if b then domain_variables_faults d ps h.parameters [] h.variables else []) → HeadSource d ps test n (h ∷ fs) g
    here true t k =
        let count : n + 0 ≡ n = omega arith in record { place = 0; function = h; picked = ap test count ∙ t; at = refl; among = k }
    here false t k = absurd k

    go : Among g (if test n then domain_variables_faults d ps h.parameters [] h.variables else []) ⊎ Among g (heads_faults d ps test (n + 1) fs)
        → (Among g (heads_faults d ps test (n + 1) fs) → HeadSource d ps test (n + 1) fs g) → HeadSource d ps test n (h ∷ fs) g
    go (inl k) rest = here (test n) refl k
    go (inr k) rest =
        let s = rest k in
        let count : n + suc s.place ≡ n + 1 + s.place = omega arith in
        record { place = suc s.place; function = s.function; picked = ap test count ∙ s.picked; at = s.at; among = s.among }

-- THE FAULTS

-- all that the checker notes: of the declarations, of the instances that it visits, and of the heads of the functions that these call
abbrev pub noted : ProgramTree → Declared → List Identifier → List Instance → (ℕ → Bool) → List TypeFault
noted p d ps is test =
    declaring_faults p ++ gathered (instance_faults d) is ++ heads_faults d ps test 0 d.functions

fault_there : (p : ProgramTree) (i : Instance) (f : FunctionTree) (g : TypeFault) → slice_get (functions_of p.items) i.function ≡ Some f
    → Among g (function_faults (within (declared_by p) f i.binding) f) → Among g (instance_faults (declared_by p) i)
fault_there p i f g at m =
    subst (λ (o : Option FunctionTree). Among g (of_function o (λ h. function_faults (within (declared_by p) h i.binding) h))) (sym at) m

fault_inside : (p : ProgramTree) (i : Instance) (g : TypeFault) → IsChecked p i → Among g (instance_faults (declared_by p) i) → IsFault p g
fault_inside p i g c = go (slice_get (functions_of p.items) i.function) refl
  where
    go : (o : Option FunctionTree) → slice_get (functions_of p.items) i.function ≡ o
        → Among g (of_function o (λ f. function_faults (within (declared_by p) f i.binding) f)) → IsFault p g
    go None e m = absurd m
    go (Some f) e m = inside i f g c e m

all_noted : (p : ProgramTree) (is : List Instance) (test : ℕ → Bool) → IsWorked (declared_by p) is test → (g : TypeFault) → IsFault p g
    → Among g (noted p (declared_by p) (protections_of p.items) is test)
all_noted p is test w g (declaring h m) =
    let visits = gathered (instance_faults (declared_by p)) is in
    let heads = heads_faults (declared_by p) (protections_of p.items) test 0 (functions_of p.items) in
    among_left h (declaring_faults p ++ visits) heads (among_left h (declaring_faults p) visits m)
all_noted p is test w g (inside i f h c at m) =
    let visits = gathered (instance_faults (declared_by p)) is in
    let heads = heads_faults (declared_by p) (protections_of p.items) test 0 (functions_of p.items) in
    among_left h (declaring_faults p ++ visits) heads
    (among_right h (declaring_faults p) visits
    (among_gathered (instance_faults (declared_by p)) i h is (listed_if_checked p is test w i c) (fault_there p i f h at m)))
all_noted p is test w g (of_head i call f h c made at m) =
    let visits = gathered (instance_faults (declared_by p)) is in
    let heads = heads_faults (declared_by p) (protections_of p.items) test 0 (functions_of p.items) in
    let listed : Among call (gathered (instance_calls (declared_by p)) is) =
    among_gathered (instance_calls (declared_by p)) i call is (listed_if_checked p is test w i c) (calls_there p i call made) in
    let count : 0 + call.function ≡ call.function = omega arith in
    let picked : test (0 + call.function) ≡ true =
    ap test count ∙ w.called call.function ∙ called_told call (gathered (instance_calls (declared_by p)) is) listed in
    among_right h (declaring_faults p ++ visits) heads
    (heads_there (declared_by p) (protections_of p.items) test 0 (functions_of p.items) call.function f h picked at m)

head_is_fault : (p : ProgramTree) (is : List Instance) (test : ℕ → Bool) → IsWorked (declared_by p) is test → (g : TypeFault)
    → Among g (heads_faults (declared_by p) (protections_of p.items) test 0 (functions_of p.items)) → IsFault p g
head_is_fault p is test w g m =
    let s = head_source (declared_by p) (protections_of p.items) test 0 (functions_of p.items) g m in
    let count : s.place ≡ 0 + s.place = omega arith in
    let r = call_of_called s.place (gathered (instance_calls (declared_by p)) is) (sym (w.called s.place) ∙ ap test count ∙ s.picked) in
    let o = source_of (instance_calls (declared_by p)) r.call is r.made in
    of_head o.one r.call s.function g (checked_if_reached p o.one (w.visited.reached o.one o.listed)) (calls_made p o.one r.call o.here)
    (ap (slice_get (functions_of p.items)) r.function ∙ s.at) s.among

noted_is_fault : (p : ProgramTree) (is : List Instance) (test : ℕ → Bool) → IsWorked (declared_by p) is test → (g : TypeFault)
    → Among g (noted p (declared_by p) (protections_of p.items) is test) → IsFault p g
noted_is_fault p is test w g m =
    go (among_parts g (declaring_faults p ++ gathered (instance_faults (declared_by p)) is)
    (heads_faults (declared_by p) (protections_of p.items) test 0 (functions_of p.items)) m)
  where
    visit : Among g (gathered (instance_faults (declared_by p)) is) → IsFault p g
    visit k =
        let s = source_of (instance_faults (declared_by p)) g is k in
        fault_inside p s.one g (checked_if_reached p s.one (w.visited.reached s.one s.listed)) s.here

    first : Among g (declaring_faults p) ⊎ Among g (gathered (instance_faults (declared_by p)) is) → IsFault p g
    first (inl k) = declaring g k
    first (inr k) = visit k

    go : Among g (declaring_faults p ++ gathered (instance_faults (declared_by p)) is)
        ⊎ Among g (heads_faults (declared_by p) (protections_of p.items) test 0 (functions_of p.items)) → IsFault p g
    go (inl k) = first (among_parts g (declaring_faults p) (gathered (instance_faults (declared_by p)) is) k)
    go (inr k) = head_is_fault p is test w g k

just_noted : (p : ProgramTree) (is : List Instance) (test : ℕ → Bool) → IsWorked (declared_by p) is test
    → HasJustTheFaults p (noted p (declared_by p) (protections_of p.items) is test)
just_noted p is test w g = (all_noted p is test w g, noted_is_fault p is test w g)

-- WHAT IS TOLD

pub told : (p : ProgramTree) (is : List Instance) (test : ℕ → Bool) → IsWorked (declared_by p) is test
    → IsTold (least None (noted p (declared_by p) (protections_of p.items) is test)) p
told p is test w = go (least None (noted p (declared_by p) (protections_of p.items) is test)) refl
  where
    go : (o : Option TypeFault) → least None (noted p (declared_by p) (protections_of p.items) is test) ≡ o → IsTold o p
    go None e = accepted_is_typed p (none_is_accepted p (noted p (declared_by p) (protections_of p.items) is test) (just_noted p is test w) e)
    go (Some f) e = least_is_told p (noted p (declared_by p) (protections_of p.items) is test) f (just_noted p is test w) e

-- the fault that is kept after all: d and ps are what the program declares
pub last_kept : (p : ProgramTree) (d : Declared) (ps : List Identifier) (is : List Instance) (test : ℕ → Bool) (missing : Bool)
    (w1 w2 w3 w4 : Option TypeFault) → d ≡ declared_by p → ps ≡ protections_of p.items → missing ≡ not (has_main d.functions)
    → w1 ≡ least None (items_faults d [] [] p.items) → w2 ≡ least w1 (fault_if missing p.end NoMain) → w3 ≡ least w2 (gathered (instance_faults d) is)
    → w4 ≡ least w3 (heads_faults d ps test 0 d.functions) → w4 ≡ least None (noted p (declared_by p) (protections_of p.items) is test)
last_kept p d ps is test missing w1 w2 w3 w4 declared protections main first second third fourth =
    let named = items_faults d [] [] p.items in
    let no_main = fault_if (not (has_main d.functions)) p.end NoMain in
    let visits = gathered (instance_faults d) is in
    let heads = heads_faults d ps test 0 d.functions in
    let main_too : w2 ≡ least None (named ++ no_main) =
    then_least None w1 w2 named no_main first (second ∙ ap (λ b. least w1 (fault_if b p.end NoMain)) main) in
    let visited : w3 ≡ least None (named ++ no_main ++ visits) = then_least None w2 w3 (named ++ no_main) visits main_too third in
    let all : w4 ≡ least None (named ++ no_main ++ visits ++ heads) = then_least None w3 w4 (named ++ no_main ++ visits) heads visited fourth in
    all
    ∙ ap₂ (λ (e : Declared) (qs : List Identifier). least None
    (items_faults e [] [] p.items ++ fault_if (not (has_main e.functions)) p.end NoMain ++ gathered (instance_faults e) is
    ++ heads_faults e qs test 0 e.functions)) declared protections
