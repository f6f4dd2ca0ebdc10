-- After a plan some values are wanted, so others can be let go before it ends.
use Rattle.std.proofs.Common.{◌≡◌, ◌≢◌, ℕ, zero, suc, ◌+◌, ◌-◌, ◌<◌, ◌≤◌, ◌⊎◌, Bool, true, false, not, cond, List, [], ◌∷◌, ◌++◌, length, take, drop}
use Rattle.std.proofs.Common.{get_or, inl, inr, refl, sym, ◌∙◌, ap, arith, append_assoc, append-nil, ◌&&◌, ◌==◌, ◌↔◌, IsTrue, Vec, Global}
use Rattle.std.specs.Prelude.{◌^◌, set, nat_eq, Option}
use Rattle.std.specs.List.{filter}
use Rattle.std.specs.Ordering.{nat_cmp}
use Rattle.std.specs.BTreeSet.{BTreeSet, contains}
use Rattle.std.proofs.lemmas.Bool.{false≢true, not-true, and_parts, or_parts, eqb-true, eqb-false, ne_eqb, cases_eq}
use Rattle.std.proofs.lemmas.List.{length-set, get_or-set_other, set-set, take_more}
use Rattle.proto_core.specs.declared.party.Number.{Number}
use Rattle.proto_core.specs.declared.refused.BadMessage.{BadMessage}
use Rattle.proto_core.specs.Strand.{Strand, Ends, then_do}
use Rattle.gates.specs.declared.gate.Gate.{Gate}
use Rattle.gates.specs.Clear.{Values, value}
use Rattle.gates.specs.Counts.{made_by_all}
use Rattle.gates.specs.Held.{if_kept, kept_from, kept_only}
use Rattle.gates.specs.Taken.{operands, is_among, Numbers, or_from, AreAmong, HaveSame, AllOf, Takes, AllTake}
use Rattle.block_steps.specs.declared.links.Links.{Links}
use Rattle.block_steps.specs.Outcomes.{outcome_of, StandsAt, AwaitsOn}
use Rattle.gate_node.specs.declared.engine.AtWork.TheVariants as work
use Rattle.gate_node.specs.declared.engine.Engine.{Engine}
use Rattle.gate_node.specs.declared.wanted.Wanted.{Wanted}
use Rattle.gate_node.specs.declared.wanted.Wanted.TheVariants as wanted
use Rattle.gate_node.specs.OwnGates.{GatesEnd, Whole, Stuck, own_draws, can_run, own_gates, then_gates}
use Rattle.gate_node.specs.Plans.{with_these, then_wanted, is_unwanted, any_takes, last_operands, is_large, without}
use Rattle.gate_node.specs.Nodes.{gates_left, work_left, left_at, engine_left, filled, CanPlan, IsPlanOf, is_spent, without_spent}
use Rattle.gate_node.proofs.Always.{then-all, then-assoc}
use Rattle.gate_node.proofs.OwnGates.{run-behind}
use Rattle.gate_node.proofs.Holding.{all_among, as_many_behind, same_behind}
use Rattle.gate_node.proofs.OneGate.{first_then, made_by_gate, gate_first, same_draws, same_can, same_made}
use Rattle.gate_node.proofs.Turns.{outcome-behind, stands-behind, awaits-behind}

-- ---- A VALUE THAT IS NOT WANTED

if_none : (numbers : BTreeSet ℕ) (n : ℕ) (a b : List ℕ) → contains nat_cmp numbers n ≡ false → if_kept numbers n a ≡ if_kept numbers n b
if_none numbers n a b none = ap (λ t. cond t a []) none ∙ sym (ap (λ t. cond t b []) none)

kept_emptied :
    (numbers : BTreeSet ℕ) (n : ℕ) (values made : Values) (k : ℕ) → contains nat_cmp numbers (n + k) ≡ false →
    kept_from numbers n (values ++ made) ≡ kept_from numbers n (set values k [] ++ made)
kept_emptied numbers n [] made k none = refl
kept_emptied numbers n (w ∷ ws) made zero none =
    let here : n + 0 ≡ n = omega arith in
    ap (λ v. v ∷ kept_from numbers (suc n) (ws ++ made)) (if_none numbers n w [] (sym (ap (contains nat_cmp numbers) here) ∙ none))
kept_emptied numbers n (w ∷ ws) made (suc k) none =
    let there : suc n + k ≡ n + suc k = omega arith in
    ap (λ vs. if_kept numbers n w ∷ vs) (kept_emptied numbers (suc n) ws made k (ap (contains nat_cmp numbers) there ∙ none))

-- ---- GATES ON TWO LISTS OF VALUES

-- where both have the same of all that gates take, and of all that is wanted, the gates come to the same
module _ (i : Number) (dealt : Values) (numbers : BTreeSet ℕ) (go : GatesEnd → Strand GatesEnd) (values held : Values)
    (as_many : length held ≡ length values) (same : (made : Values) → kept_only numbers (values ++ made) ≡ kept_only numbers (held ++ made)) where
  abbrev Same : Numbers
  Same = or_from (HaveSame values held) (length values)

  abbrev behind : GatesEnd → Strand GatesEnd
  behind h = go (with_these numbers h)

  abbrev Alike : List Gate → Type 0
  Alike gates =
      (made : Values) (tape : List ℕ) → AllTake Same gates →
      then_do (own_gates i dealt gates (values ++ made) tape) behind ≡ then_do (own_gates i dealt gates (held ++ made) tape) behind

  by_test :
      (gates : List Gate) → Alike gates → AllTake Same gates → (made : Values) (rest : List ℕ) (b : Bool) (first : Strand Values) →
      then_do (first_then b first (λ more. own_gates i dealt gates ((values ++ made) ++ more) rest)) behind
      ≡ then_do (first_then b first (λ more. own_gates i dealt gates ((held ++ made) ++ more) rest)) behind
  by_test gates alike h made rest true first =
      then-assoc first (λ more. own_gates i dealt gates ((values ++ made) ++ more) rest) behind
      ∙ then-all first (λ more. then_do (own_gates i dealt gates ((values ++ made) ++ more) rest) behind)
      (λ more. then_do (own_gates i dealt gates ((held ++ made) ++ more) rest) behind)
      (λ more.
      ap (λ all. then_do (own_gates i dealt gates all rest) behind) (append_assoc values made more)
      ∙ alike (made ++ more) rest h
      ∙ ap (λ all. then_do (own_gates i dealt gates all rest) behind) (sym (append_assoc held made more)))
      ∙ sym (then-assoc first (λ more. own_gates i dealt gates ((held ++ made) ++ more) rest) behind)
  by_test gates alike h made rest false first = refl

  run_alike : (gates : List Gate) → Alike gates
  run_alike [] made tape h = ap (λ v. go (Whole v tape)) (same made)
  run_alike (gate ∷ gates) made tape h =
      let take : Takes (HaveSame (values ++ made) (held ++ made)) gate =
      all_among Same (HaveSame (values ++ made) (held ++ made)) (same_behind values held as_many made) (operands gate) h.0 in
      let more : length (held ++ made) ≡ length (values ++ made) = as_many_behind values held as_many made in
      let can = same_can i dealt (values ++ made) (held ++ made) more tape gate take in
      let first = same_made i dealt (values ++ made) (held ++ made) more tape gate take in
      let draws = same_draws i dealt (values ++ made) (held ++ made) more gate take in
      ap (λ s. then_do s behind) (gate_first i dealt gate gates (values ++ made) tape)
      ∙ (λ d. then_do (first_then (can d) (first d) (λ more. own_gates i dealt gates ((values ++ made) ++ more) (drop (draws d) tape))) behind)
      ∙ by_test gates (run_alike gates) h.1 made (drop (own_draws i dealt (held ++ made) gate) tape)
      (can_run i dealt (held ++ made) tape gate) (made_by_gate i dealt gate (held ++ made) tape)
      ∙ ap (λ s. then_do s behind) (sym (gate_first i dealt gate gates (held ++ made) tape))

  pub come_alike :
      (gates : List Gate) (tape : List ℕ) → AllTake Same gates →
      then_do (own_gates i dealt gates values tape) behind ≡ then_do (own_gates i dealt gates held tape) behind
  come_alike gates tape h =
      ap (λ all. then_do (own_gates i dealt gates all tape) behind) (sym (append-nil values))
      ∙ run_alike gates [] tape h
      ∙ ap (λ all. then_do (own_gates i dealt gates all tape) behind) (append-nil held)

-- gates that take none of the value of a number
pub none-takes : (k : ℕ) (gates : List Gate) → any_takes k gates ≡ false → AllTake (λ j. j ≢ k) gates
none-takes k [] h = tt
none-takes k (gate ∷ gates) h =
    let parts = or_parts (is_among k (operands gate)) (any_takes k gates) h in
    (not_among k (operands gate) parts.0, none-takes k gates parts.1)
  where
    not_among : (k : ℕ) (ns : List ℕ) → is_among k ns ≡ false → AllOf (λ j. j ≢ k) ns
    not_among k [] h = tt
    not_among k (n ∷ ns) h = let parts = or_parts (nat_eq n k) (is_among k ns) h in (eqb-false n k parts.0, not_among k ns parts.1)

-- gates that don't take a value
all_take : (M N : Numbers) → AreAmong M N → (gates : List Gate) → AllTake M gates → AllTake N gates
all_take M N among [] h = tt
all_take M N among (gate ∷ gates) h = (all_among M N among (operands gate) h.0, all_take M N among gates h.1)

-- ---- WHAT COMES AFTER THE GATES

module _ (i : Number) (dealt : Values) where
  pub wanted-stuck : (w : Wanted) → then_wanted i dealt w (Ends Stuck) ≡ Ends Stuck
  wanted-stuck wanted.All = refl
  wanted-stuck (wanted.These numbers later) = refl

  pub outcome-wanted :
      (w : Wanted) (a b : Links) (s t : Strand GatesEnd) → outcome_of i a s ≡ outcome_of i b t →
      outcome_of i a (then_wanted i dealt w s) ≡ outcome_of i b (then_wanted i dealt w t)
  outcome-wanted wanted.All a b s t h = h
  outcome-wanted (wanted.These numbers later) a b s t h = outcome-behind i (λ end. then_gates i dealt later.items (with_these numbers end)) a b s t h

  pub stands-wanted :
      (w : Wanted) (l : Links) (cause : Option BadMessage) (s : Strand GatesEnd) → StandsAt i l cause s → StandsAt i l cause (then_wanted i dealt w s)
  stands-wanted wanted.All l cause s h = h
  stands-wanted (wanted.These numbers later) l cause s h = stands-behind i l cause s (λ end. then_gates i dealt later.items (with_these numbers end)) h

  pub awaits-wanted : (w : Wanted) (l : _) (s : Strand GatesEnd) → AwaitsOn l s → AwaitsOn l (then_wanted i dealt w s)
  awaits-wanted wanted.All l s h = h
  awaits-wanted (wanted.These numbers later) l s h = awaits-behind l s (λ end. then_gates i dealt later.items (with_these numbers end)) h

  -- further gates after those that come after a plan
  further : (gates more : List Gate) (h : GatesEnd) → then_gates i dealt (gates ++ more) h ≡ then_do (then_gates i dealt gates h) (then_gates i dealt more)
  further gates more (Whole values tape) = run-behind i dealt more gates values tape
  further gates more Stuck = refl

  pub further-wanted :
      (numbers : BTreeSet ℕ) (gates more : List Gate) (s : Strand GatesEnd) →
      then_do s (λ h. then_gates i dealt (gates ++ more) (with_these numbers h))
      ≡ then_do (then_do s (λ h. then_gates i dealt gates (with_these numbers h))) (then_gates i dealt more)
  further-wanted numbers gates more s =
      then-all s (λ h. then_gates i dealt (gates ++ more) (with_these numbers h))
      (λ h. then_do (then_gates i dealt gates (with_these numbers h)) (then_gates i dealt more)) (λ h. further gates more (with_these numbers h))
      ∙ sym (then-assoc s (λ h. then_gates i dealt gates (with_these numbers h)) (then_gates i dealt more))

  -- no gate after it
  pub nothing-behind :
      (numbers : BTreeSet ℕ) (s : Strand GatesEnd) →
      then_do s (λ h. then_gates i dealt [] (with_these numbers h)) ≡ then_do s (λ h. Ends (with_these numbers h))
  nothing-behind numbers s = then-all s (λ h. then_gates i dealt [] (with_these numbers h)) (λ h. Ends (with_these numbers h)) by
    where
      by : (h : GatesEnd) → then_gates i dealt [] (with_these numbers h) ≡ Ends (with_these numbers h)
      by (Whole values tape) = refl
      by Stuck = refl

-- gates are added after a plan
module _ {P : Type 0} (i : Number) (e : Engine P) (numbers : BTreeSet ℕ) (later after : Vec Gate Global) (is : e.wanted ≡ wanted.These numbers later) where
  abbrev behind_more : Engine P
  behind_more = record e { wanted = wanted.These numbers after }

  abbrev behind_plan : (words : List ℕ) → List Gate → Strand GatesEnd
  behind_plan words gates = then_do (work_left i (filled e words) e.work) (λ h. then_gates i e.dealt gates (with_these numbers h))

  plan-is : (words : List ℕ) → engine_left i (filled e words) ≡ behind_plan words later.items
  plan-is words = ap (λ w. then_wanted i e.dealt w (work_left i (filled e words) e.work)) is

  pub added-behind :
      (more : List Gate) → after.items ≡ later.items ++ more → (words : List ℕ) →
      engine_left i (filled behind_more words) ≡ then_do (engine_left i (filled e words)) (then_gates i e.dealt more)
  added-behind more has words =
      ap (behind_plan words) has
      ∙ further-wanted i e.dealt numbers later.items more (work_left i (filled e words) e.work)
      ∙ sym (ap (λ s. then_do s (then_gates i e.dealt more)) (plan-is words))

-- all values are wanted
pub all-left : {P : Type 0} (i : Number) (e : Engine P) → e.wanted ≡ wanted.All → engine_left i e ≡ work_left i e e.work
all-left i e all = ap (λ w. then_wanted i e.dealt w (work_left i e e.work)) all

-- a value is let go that is spent
module _ {P : Type 0} (i : Number) (e : Engine P) (k : ℕ) (values : Values) (idle : e.work ≡ work.Idle) (spent : is_spent i k e ≡ true)
    (is : values ≡ set e.values k []) where
  abbrev gone : Engine P
  gone = record e { values = values }

  unwanted : is_unwanted k e.wanted ≡ true
  unwanted = (and_parts (is_unwanted k e.wanted) (is_large (value e.values k) && not (any_takes k (gates_left i e))) spent).0

  untaken : any_takes k (gates_left i e) ≡ false
  untaken =
      let rest = (and_parts (is_unwanted k e.wanted) (is_large (value e.values k) && not (any_takes k (gates_left i e))) spent).1 in
      not-true (any_takes k (gates_left i e)) (and_parts (is_large (value e.values k)) (not (any_takes k (gates_left i e))) rest).1

  by_wanted :
      (w : Wanted) → is_unwanted k w ≡ true → (tape : List ℕ) →
      then_wanted i e.dealt w (own_gates i e.dealt (gates_left i e) (set e.values k []) tape)
      ≡ then_wanted i e.dealt w (own_gates i e.dealt (gates_left i e) e.values tape)
  by_wanted wanted.All none tape = absurd (false≢true none)
  by_wanted (wanted.These numbers later) none tape =
      sym (come_alike i e.dealt numbers (then_gates i e.dealt later.items) e.values (set e.values k []) (length-set e.values k [])
      (λ made. kept_emptied numbers 0 e.values made k (ap (contains nat_cmp numbers) (omega arith) ∙ not-true (contains nat_cmp numbers k) none))
      (gates_left i e) tape
      (all_take (λ j. j ≢ k) (or_from (HaveSame e.values (set e.values k [])) (length e.values))
      (λ j apart. inl (sym (get_or-set_other e.values k j [] [] apart))) (gates_left i e) (none-takes k (gates_left i e) untaken)))

  pub spent-same : (more : List ℕ) → engine_left i (filled gone more) ≡ engine_left i (filled e more)
  spent-same more =
      ap (left_at i (filled gone more)) idle
      ∙ ap (λ v. then_wanted i e.dealt e.wanted (own_gates i e.dealt (gates_left i e) v (e.tape.1 ++ more))) is
      ∙ by_wanted e.wanted unwanted (e.tape.1 ++ more)
      ∙ sym (ap (left_at i (filled e more)) idle)

-- ---- WHAT IS LET GO

module _ {P : Type 0} (i : Number) (e : Engine P) where
  abbrev spent : ℕ → Bool
  spent k = is_spent i k e

  -- one value, by what the test says
  pub one-spent : (k : ℕ) (b : Bool) → is_spent i k e ≡ b → without (cond b (k ∷ []) []) e.values ≡ without_spent i (k ∷ []) e
  one-spent k b is = ap (λ t. without (cond t (k ∷ []) []) e.values) (sym is)

  -- where there is no plan
  pub none-unwanted : (k : ℕ) → e.wanted ≡ wanted.All → is_spent i k e ≡ false
  none-unwanted k all = ap (λ w. is_unwanted k w && (is_large (value e.values k) && not (any_takes k (gates_left i e)))) all

  pub none-let_go : e.wanted ≡ wanted.All → (ks : List ℕ) → e.values ≡ without_spent i ks e
  none-let_go all [] = refl
  none-let_go all (k ∷ ks) =
      none-let_go all ks ∙ ap (λ t. without (cond t (k ∷ filter spent ks) (filter spent ks)) e.values) (sym (none-unwanted k all))

  -- a value that was let go, or not, and then another
  module _ (first second : ℕ) where
    abbrev gone_first : Values
    gone_first = set e.values first []

    again : (b : Bool) → second ≡ first → without (cond b (second ∷ []) []) gone_first ≡ gone_first
    again true same = ap (λ k. set gone_first k []) same ∙ set-set e.values first [] []
    again false same = refl

    second-then :
        (second ≡ first) ⊎ (second ≡ first → ⊥) →
        without_spent i (second ∷ []) (record e { values = gone_first }) ≡ without (filter spent (second ∷ [])) gone_first
    second-then (inl same) =
        again (is_spent i second (record e { values = gone_first })) same ∙ sym (again (is_spent i second e) same)
    second-then (inr apart) =
        ap (λ words.
        without (cond (is_unwanted second e.wanted && (is_large words && not (any_takes second (gates_left i e)))) (second ∷ []) []) gone_first)
        (get_or-set_other e.values first second [] [] apart)

    both-spent :
        (b : Bool) → is_spent i first e ≡ b →
        without_spent i (second ∷ []) (record e { values = without (cond b (first ∷ []) []) e.values }) ≡ without_spent i (first ∷ second ∷ []) e
    both-spent true is =
        second-then (cases_eq second first)
        ∙ ap (λ t. without (cond t (first ∷ filter spent (second ∷ [])) (filter spent (second ∷ []))) e.values) (sym is)
    both-spent false is = ap (λ t. without (cond t (first ∷ filter spent (second ∷ [])) (filter spent (second ∷ []))) e.values) (sym is)

    pub two-let_go :
        (one : Engine P) (values : Values) → one ≡ record e { values = one.values } → one.values ≡ without_spent i (first ∷ []) e →
        values ≡ without_spent i (second ∷ []) one → values ≡ without_spent i (first ∷ second ∷ []) e
    two-let_go one values same is then =
        then ∙ ap (without_spent i (second ∷ [])) (same ∙ ap (λ v. record e { values = v }) is) ∙ both-spent (is_spent i first e) refl

-- the last of gates
last-pushed : (gates : List Gate) (gate : Gate) → last_operands (gates ++ gate ∷ []) ≡ operands gate
last-pushed [] gate = refl
last-pushed (g ∷ []) gate = refl
last-pushed (g ∷ next ∷ gates) gate = last-pushed (next ∷ gates) gate

pub last-begun :
    (begun : ℕ) (gates : List Gate) (gate : Gate) → 0 < begun → begun ≤ length gates → gate ≡ get_or gates (begun - 1) gate →
    operands gate ≡ last_operands (take begun gates)
last-begun begun gates gate some within is =
    let one : (begun - 1) + 1 ≡ begun = omega (arith, some) in
    let here : begun - 1 < length gates = omega (arith, some, within) in
    ap operands is
    ∙ sym (last-pushed (take (begun - 1) gates) (get_or gates (begun - 1) gate))
    ∙ sym (ap last_operands (take_more gates (begun - 1) gate here))
    ∙ ap (λ n. last_operands (take n gates)) one

-- ---- WHETHER THERE CAN BE A PLAN

module _ {P : Type 0} (i : Number) (count : ℕ) (e : Engine P) where
  abbrev CanNot : Type 0
  CanNot = IsTrue false ↔ CanPlan i count e

  can-not : (CanPlan i count e → ⊥) → CanNot
  can-not none = (λ told. absurd (false≢true told), λ can. absurd (none can))

  pub busy-not : e.work ≢ work.Idle → CanNot
  busy-not busy = can-not (λ can. busy can.idle)

  pub planned-not : e.wanted ≢ wanted.All → CanNot
  planned-not planned = can-not (λ can. planned can.all)

  pub uncounted-not : (b : Bool) → b ≡ (length e.values + made_by_all (gates_left i e) == count) → b ≡ false → CanNot
  uncounted-not b is wrong = can-not (λ can. eqb-false (length e.values + made_by_all (gates_left i e)) count (sym is ∙ wrong) can.counted)

  pub counted-can :
      e.work ≡ work.Idle → e.wanted ≡ wanted.All → (b : Bool) → b ≡ (length e.values + made_by_all (gates_left i e) == count) → b ≡ true →
      IsTrue true ↔ CanPlan i count e
  counted-can idle all b is right = (
    λ told. record { idle = idle; all = all; counted = eqb-true (length e.values + made_by_all (gates_left i e)) count (sym is ∙ right) },
    λ can. refl,
  )

-- a count of values that is no number of 64 bits is none of these
pub too-many :
    (count there : ℕ) (gates rest : List Gate) (values : Values) → there ≡ length values → gates ≡ rest → (there + made_by_all gates < 2 ^ 64 → ⊥) →
    count < 2 ^ 64 → false ≡ (length values + made_by_all rest == count)
too-many count there gates rest values is left none small =
    let same : there + made_by_all gates ≡ length values + made_by_all rest =
    ap (λ n. n + made_by_all gates) is ∙ ap (λ l. length values + made_by_all l) left in
    sym (ne_eqb (length values + made_by_all rest) count (λ e. none (omega (arith, same, e, small))))

-- gates that are left become a plan
module _ {P : Type 0} (i : Number) (e : Engine P) (numbers : BTreeSet ℕ) (count : ℕ) (later : Vec Gate Global) (idle : e.work ≡ work.Idle)
    (all : e.wanted ≡ wanted.All) (none : later.items ≡ [])
    (counted : length e.values + made_by_all (gates_left i e) ≡ count) where
  abbrev gates_of : (words : List ℕ) → Strand GatesEnd
  gates_of words = work_left i (filled e words) e.work

  pub becomes-plan : IsPlanOf i numbers count e (record e { wanted = wanted.These numbers later })
  becomes-plan =
      record {
        gates = λ words. all-left i (filled e words) all ∙ ap (work_left i (filled e words)) idle;
        counted = counted;
        left =
            λ words.
            ap (λ gates. then_do (gates_of words) (λ h. then_gates i e.dealt gates (with_these numbers h))) none
            ∙ nothing-behind i e.dealt numbers (gates_of words)
            ∙ ap (λ s. then_do s (λ h. Ends (with_these numbers h))) (sym (all-left i (filled e words) all));
        links = refl;
        dealt = refl;
        tape = refl;
      }
