-- A miner's gates tell nothing, whatever comes.
use Rattle.std.proofs.Common.{◌≡◌, ℕ, Bool, true, false, if◌then◌else◌, List, [], ◌∷◌, ◌++◌, drop, refl, sym, ◌∙◌, ap, subst, append_assoc}
use Rattle.proto_core.specs.declared.party.Number.{Number}
use Rattle.proto_core.specs.Strand.{Mail, Strand, Ends, run, then_do, told_in}
use Rattle.proto_core.specs.Script.{IsSilent}
use Rattle.proto_core.specs.Net.{added, nothing}
use Rattle.proto_core.proofs.Beginnings.{append-none}
use Rattle.proto_core.proofs.Strands.{run-added, run-then_do, told-append}
use Rattle.protocol_model.specs.Gates.{sizes_of, gates_strand}
use Rattle.protocol_model.proofs.Scripts.{silent_then}
use Rattle.gates.specs.declared.gate.Gate.{Gate}
use Rattle.gates.specs.Clear.{Values}
use Rattle.shared_gates.proofs.Silence.{gates-silent}
use Rattle.driven_nodes.proofs.Telling.{silent_gates, silent_run}
use Rattle.block_steps.specs.declared.links.Links.{Links}
use Rattle.block_steps.specs.Outcomes.{outcome_of, mail_left, IsStill}
use Rattle.block_steps.proofs.Behind.{still-is}
use Rattle.gate_node.specs.declared.wanted.Wanted.{Wanted}
use Rattle.gate_node.specs.declared.wanted.Wanted.TheVariants.{All, These}
use Rattle.gate_node.specs.OwnGates.{GatesEnd, Whole, Stuck, own_gate, own_draws, can_run, own_gates, then_gates}
use Rattle.gate_node.specs.Plans.{with_these, then_wanted}
use Rattle.gate_node.specs.Nodes as node
use Rattle.gate_node.specs.declared.engine.Engine as gates
use Rattle.gate_node.specs.declared.standing.Standing.{Standing}
use Rattle.gate_node.specs.declared.standing.Standing.TheVariants.{Through, Waits as AtWait, Unfit as NotFit, Wants as WantsMore}
use Rattle.miner_core.specs.Engines.{IsQuiet}

-- ---- own gates

pub silent_own : (i : Number) (dealt : Values) (gates : List Gate) (values : Values) (tape : List ℕ) → IsSilent (own_gates i dealt gates values tape)
silent_own i dealt [] values tape = tt
silent_own i dealt (gate ∷ gates) values tape =
    by_test (can_run i dealt values tape gate) (λ all. silent_own i dealt gates all (drop (own_draws i dealt values gate) tape))
  where
    first : Strand Values
    first = gates_strand i (own_gate i dealt values gate ∷ []) values tape

    rest : List ℕ
    rest = drop (own_draws i dealt values gate) tape

    by_test :
        (b : Bool) → ((all : Values) → IsSilent (own_gates i dealt gates all rest)) →
        IsSilent (if b then then_do first (λ all. own_gates i dealt gates all rest) else Ends Stuck)
    by_test true more =
        silent_then first _
        (silent_gates i (own_gate i dealt values gate ∷ []) values tape (gates-silent (λ k. dealt) (sizes_of dealt) (sizes_of values) (gate ∷ []))) more
    by_test false more = tt

-- and what comes after a plan
silent_behind : (i : Number) (dealt : Values) (gates : List Gate) (h : GatesEnd) → IsSilent (then_gates i dealt gates h)
silent_behind i dealt gates (Whole values tape) = silent_own i dealt gates values tape
silent_behind i dealt gates Stuck = tt

silent_wanted : (i : Number) (dealt : Values) (w : Wanted) (s : Strand GatesEnd) → IsSilent s → IsSilent (then_wanted i dealt w s)
silent_wanted i dealt All s h = h
silent_wanted i dealt (These numbers later) s h =
    silent_then s (λ end. then_gates i dealt later.items (with_these numbers end)) h (λ end. silent_behind i dealt later.items (with_these numbers end))

-- ---- with these messages, and more

added_nothing : (x : Mail) → added x nothing ≡ x
added_nothing x = λ d. λ l. append-none (x l) d

added_added : (x y z : Mail) → added (added x y) z ≡ added x (added y z)
added_added x y z = λ d. λ l. append_assoc (x l) (y l) (z l) d

abbrev pub QuietAt : {A : Type 0} → Strand A → Mail → Type 0
QuietAt s x = (more : Mail) → told_in (run s (added x more)).acts ≡ []

pub quiet_own : (i : Number) (dealt : Values) (gates : List Gate) (values : Values) (tape : List ℕ) (x : Mail) → QuietAt (own_gates i dealt gates values tape) x
quiet_own i dealt gates values tape x = λ more. silent_run (own_gates i dealt gates values tape) (added x more) (silent_own i dealt gates values tape)

pub quiet_wanted :
    (i : Number) (dealt : Values) (w : Wanted) (gates : List Gate) (values : Values) (tape : List ℕ) (x : Mail) →
    QuietAt (then_wanted i dealt w (own_gates i dealt gates values tape)) x
quiet_wanted i dealt w gates values tape x = λ more.
    let s : Strand GatesEnd = own_gates i dealt gates values tape in
    silent_run (then_wanted i dealt w s) (added x more) (silent_wanted i dealt w s (silent_own i dealt gates values tape))

quiet_now : {A : Type 0} (s : Strand A) (x : Mail) → QuietAt s x → told_in (run s x).acts ≡ []
quiet_now s x h = subst (λ v. told_in (run s v).acts ≡ []) (added_nothing x) (h nothing)

pub quiet_come : {A : Type 0} (s : Strand A) (x y : Mail) → QuietAt s x → QuietAt s (added x y)
quiet_come s x y h = λ more. subst (λ v. told_in (run s v).acts ≡ []) (sym (added_added x y more)) (h (added y more))

quiet_left : {A : Type 0} (s : Strand A) (x : Mail) → QuietAt s x → QuietAt (run s x).left (run s x).unread
quiet_left s x h =
    λ more.
    let later = run (run s x).left (added (run s x).unread more) in
    sym (ap (λ r. told_in r.acts) (run-added s x more) ∙ told-append (run s x).acts later.acts ∙ ap (λ v. v ++ told_in later.acts) (quiet_now s x h))
    ∙ h more

quiet_kept :
    {A : Type 0} (i : Number) (l l2 : Links) (s s2 : Strand A) → outcome_of i l2 s2 ≡ outcome_of i l s → IsStill i l2 s2 → QuietAt s (mail_left i l) →
    QuietAt s2 (mail_left i l2)
quiet_kept i l l2 s s2 same still h =
    subst (λ r. QuietAt r.left r.unread) still (subst (λ o. QuietAt o.left o.unread) (sym same) (quiet_left s (mail_left i l) h))

-- after a call that goes as far as the messages lead
pub node_quiet :
    {P : Type 0} (i : Number) (n n2 : gates.Engine P) (at : Standing) → node.engine_outcome i n2 ≡ node.engine_outcome i n → node.EngineStands i
    (node.settled at) n2 →
    IsQuiet i n → IsQuiet i n2
node_quiet i n n2 Through same h quiet = subst (λ s. QuietAt s (mail_left i n2.links)) (sym h) (λ more. refl)
node_quiet i n n2 NotFit same h quiet = subst (λ s. QuietAt s (mail_left i n2.links)) (sym h) (λ more. refl)
node_quiet i n n2 (WantsMore count) same h quiet = subst (λ s. QuietAt s (mail_left i n2.links)) (sym h) (λ more. refl)
node_quiet i n n2 (AtWait link cause) same h quiet =
    quiet_kept i n.links n2.links (node.engine_left i n) (node.engine_left i n2) same (still-is i n2.links cause (node.engine_left i n2) h.0) quiet

-- what stands after tells all
then_told :
    {A B : Type 0} (s : Strand A) (f : A → Strand B) (x : Mail) → QuietAt s x →
    told_in (run (then_do s f) x).acts ≡ told_in (run (then_do (run s x).left f) (run s x).unread).acts
then_told s f x h =
    ap (λ r. told_in r.acts) (run-then_do s f x)
    ∙ told-append (run s x).acts (run (then_do (run s x).left f) (run s x).unread).acts
    ∙ ap (λ v. v ++ told_in (run (then_do (run s x).left f) (run s x).unread).acts) (quiet_now s x h)

pub told_then :
    {A B : Type 0} (i : Number) (l l2 : Links) (s s2 : Strand A) (f : A → Strand B) → outcome_of i l2 s2 ≡ outcome_of i l s → QuietAt s (mail_left i l) →
    QuietAt s2 (mail_left i l2) →
    told_in (run (then_do s2 f) (mail_left i l2)).acts ≡ told_in (run (then_do s f) (mail_left i l)).acts
told_then i l l2 s s2 f same h h2 =
    then_told s2 f (mail_left i l2) h2
    ∙ ap (λ o. told_in (run (then_do o.left f) o.unread).acts) same
    ∙ sym (then_told s f (mail_left i l) h)
