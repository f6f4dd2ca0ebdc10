-- A miner that is given one gate more, and all messages that it takes, is through with it.
use Rattle.std.proofs.Common.{◌≡◌, ℕ, true, false, List, [], ◌∷◌, refl, sym, ◌∙◌, ap, subst}
use Rattle.proto_core.specs.declared.party.Number.{Number}
use Rattle.proto_core.specs.Parties.{from_previous, from_next}
use Rattle.proto_core.specs.Strand.{Shape, accepts, Mail, Strand, Ends, Acts, Waits, run, then_do, taken}
use Rattle.proto_core.specs.Net.{nothing}
use Rattle.proto_core.proofs.Strands.{run-none, run-took, run-refused}
use Rattle.proto_core.proofs.Nodes.{mail-previous, mail-next}
use Rattle.gates.specs.declared.gate.Gate.{Gate}
use Rattle.gates.specs.Clear.{Values}
use Rattle.block_steps.specs.declared.links.Links.{Links}
use Rattle.block_steps.specs.Outcomes.{outcome_of, mail_left, StandsAt}
use Rattle.block_steps.proofs.Behind.{still-is}
use Rattle.gate_node.specs.declared.engine.Engine.{Engine}
use Rattle.gate_node.specs.declared.standing.Standing.{Standing}
use Rattle.gate_node.specs.declared.standing.Standing.TheVariants as stand
use Rattle.gate_node.specs.OwnGates.{GatesEnd, Whole, Stuck, own_gates, then_gates}
use Rattle.gate_node.specs.Nodes.{engine_left, engine_outcome, filled, DoesTheSame, EngineStands, StandsAlways, settled, IsSameButGates}
use Rattle.gate_node.proofs.Always.{EndsAlways}
use Rattle.gate_node.proofs.Supplied.{filled-none, same-here, stands-here}
use Rattle.view_simulator.specs.Simulators.{EndsOn, IsThrough}

-- ---- where it stands is its end

same-values : (a b : Values) (s t : List ℕ) → Ends (Whole a s) ≡ Ends (Whole b t) → a ≡ b
same-values a b s t h = cc

same-tape : (a b : Values) (s t : List ℕ) → Ends (Whole a s) ≡ Ends (Whole b t) → s ≡ t
same-tape a b s t h = cc

not-stuck : {X : Type 0} (all : Values) (tape : List ℕ) → Ends Stuck ≡ Ends (Whole all tape) → X
not-stuck all tape h = cc

module _ {P : Type 0} (i : Number) (e : Engine P) (links : Links) (s : Strand GatesEnd) (all : Values) (tape : List ℕ) where
  abbrev L : Strand GatesEnd
  L = engine_left i e

  pub stands-through :
      (at : Standing) → engine_outcome i e ≡ outcome_of i links s → EngineStands i at e → EndsOn s (mail_left i links) (Whole all tape) → IsThrough i all tape e
  stands-through stand.Through same at ends =
      let is : Ends (Whole e.values e.tape.1) ≡ Ends (Whole all tape) =
      sym (ap (λ t. (run t (mail_left i e.links)).left) at) ∙ ap (λ o. o.left) same ∙ ends.left in
      let none : mail_left i e.links ≡ nothing =
      sym (ap (λ t. (run t (mail_left i e.links)).unread) at) ∙ ap (λ o. o.unread) same ∙ ends.unread in
      record {
        left = at ∙ is;
        values = same-values e.values all e.tape.1 tape is;
        tape = same-tape e.values all e.tape.1 tape is;
        previous = sym (mail-previous i e.links.from_previous.1 e.links.from_next.1) ∙ ap (λ m. m (from_previous i)) none;
        next = sym (mail-next i e.links.from_previous.1 e.links.from_next.1) ∙ ap (λ m. m (from_next i)) none;
      }
  stands-through (stand.Waits link cause) same at ends =
      let is : L ≡ Ends (Whole all tape) = sym (ap (λ r. r.left) (still-is i e.links cause L at.0)) ∙ ap (λ o. o.left) same ∙ ends.left in
      absurd (subst (λ t. StandsAt i e.links cause t) is at.0)
  stands-through stand.Unfit same at ends =
      not-stuck all tape (sym (ap (λ t. (run t (mail_left i e.links)).left) at) ∙ ap (λ o. o.left) same ∙ ends.left)
  stands-through (stand.Wants count) same at ends = absurd at

-- one gate more, after those that are through
module _ {P : Type 0} (i : Number) (before added after : Engine P) (gate : Gate) (gates : List Gate) where
  pub one-through :
      (at : Standing) → engine_left i before ≡ Ends (Whole before.values before.tape.1) → gates ≡ gate ∷ [] →
      ((more : List ℕ) → engine_left i (filled added more) ≡ then_do (engine_left i (filled before more)) (then_gates i before.dealt gates)) →
      IsSameButGates before added → DoesTheSame i added after → StandsAlways i at after → (all : Values) (tape : List ℕ) →
      EndsOn (own_gates i before.dealt (gate ∷ []) before.values before.tape.1) (mail_left i before.links) (Whole all tape) → IsThrough i all tape after
  one-through at rests are left kept same stands all tape ends =
      stands-through i after before.links (own_gates i before.dealt (gate ∷ []) before.values before.tape.1) all tape (settled at)
      (same-here i added after same
      ∙ ap (λ l. outcome_of i l (engine_left i added)) kept.links
      ∙ ap (outcome_of i before.links)
      (ap (engine_left i) (sym (filled-none added)) ∙ left []
      ∙ ap (λ v. then_do (engine_left i v) (then_gates i before.dealt gates)) (filled-none before)
      ∙ ap (λ s. then_do s (then_gates i before.dealt gates)) rests
      ∙ ap (λ g. own_gates i before.dealt g before.values before.tape.1) are))
      (stands-here after i at stands) ends

-- ---- what always holds of an end holds of this one

always-waits : {A X : Type 0} (a : A) (l : _) (shape : Shape) (k : List ℕ → Strand A) → Waits l shape k ≡ Ends a → X
always-waits a l shape k h = cc

pub always-run : {A : Type 0} (Q : A → Type 0) (s : Strand A) (x : Mail) (a : A) → EndsAlways Q s → (run s x).left ≡ Ends a → Q a
always-run Q (Ends b) x a h is = let e : b ≡ a = cc in subst Q e h
always-run Q (Acts act s) x a h is = always-run Q s x a h is
always-run {A} Q (Waits l shape k) x a h is = by_mail (x l) refl (λ m. always-run Q (k m) (taken l x) a (h m))
  where
    by_mail : (xs : List (List ℕ)) → x l ≡ xs → ((m : List ℕ) → (run (k m) (taken l x)).left ≡ Ends a → Q a) → Q a
    by_mail [] e more = always-waits a l shape k (sym (ap (λ r. r.left) (run-none l shape k x e)) ∙ is)
    by_mail (m ∷ ms) e more = by_shape (accepts shape m) refl
      where
        by_shape : (b : _) → accepts shape m ≡ b → Q a
        by_shape true o = more m (sym (ap (λ r. r.left) (run-took l shape k x m ms e o)) ∙ is)
        by_shape false o = always-waits a l shape k (sym (ap (λ r. r.left) (run-refused l shape k x m ms e o)) ∙ is)
