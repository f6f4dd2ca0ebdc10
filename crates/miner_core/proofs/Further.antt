-- What is the same whatever words of the tape come after those that were supplied.
use Rattle.std.proofs.Common.{◌≡◌, ℕ, List, ◌++◌, sym, ◌∙◌, ap, subst}
use Rattle.proto_core.specs.declared.party.Number.{Number}
use Rattle.proto_core.specs.Strand.{run, told_in}
use Rattle.proto_core.specs.Net.{added}
use Rattle.block_steps.specs.Outcomes.{mail_left}
use Rattle.gate_node.specs.Nodes as node
use Rattle.gate_node.specs.declared.engine.Engine as gates
use Rattle.gate_node.specs.declared.engine.AtWork.TheVariants.{Idle}
use Rattle.gate_node.specs.declared.standing.Standing as at_gates
use Rattle.gate_node.specs.declared.standing.Standing.TheVariants as stand
use Rattle.miner_core.specs.declared.engine.At.{At}
use Rattle.miner_core.specs.declared.engine.Engine.{Engine}
use Rattle.miner_core.specs.Engines.{with_words, left_with, outcome_with, told_with, all_shown, all_forgetting, IsQuiet, IsQuietAlways, IsThroughAlways}
use Rattle.miner_core.specs.Engines.{IsSound, IsSoundAlways, KeepsLinks}
use Rattle.miner_core.proofs.Quiet.{QuietAt, quiet_wanted, node_quiet}
use Rattle.miner_core.proofs.Settled.{through_quiet}
use Rattle.miner_core.proofs.Forgetting.{shown_same, shown_told}
use Rattle.miner_core.proofs.Turns.{beside_same, beside_told}

-- ---- of an engine

pub kept_with : {P : Type 0} (e e2 : Engine P) (more : List ℕ) → KeepsLinks e e2 → KeepsLinks (with_words e more) (with_words e2 more)
kept_with e e2 more kept =
    record {
      links = kept.links;
      notices = kept.notices;
      task = kept.task;
      dealt = kept.dealt;
      tape = ap (λ (t : List ℕ × List ℕ). (t.0 ++ more, t.1 ++ more)) kept.tape;
    }

module _ {P : Type 0} (i : Number) where
  pub sound_with : (e : Engine P) (more : List ℕ) → IsSoundAlways i e → IsSound i (with_words e more)
  sound_with e more sound = record { stands = sound.stands; quiet = sound.quiet more }

  pub shown_same_with :
      (e e2 : Engine P) → all_forgetting (left_with i e2) ≡ all_forgetting (left_with i e) → KeepsLinks e e2 →
      all_shown (outcome_with i e2) ≡ all_shown (outcome_with i e)
  shown_same_with e e2 left kept =
      λ d. λ more. shown_same i (with_words e more) (with_words e2 more) (λ k. left k more) (kept_with e e2 more kept) d

  pub shown_told_with :
      (e e2 : Engine P) → all_forgetting (left_with i e2) ≡ all_forgetting (left_with i e) → KeepsLinks e e2 → told_with i e2 ≡ told_with i e
  shown_told_with e e2 left kept =
      λ d. λ more. shown_told i (with_words e more) (with_words e2 more) (λ k. left k more) (kept_with e e2 more kept) d

  -- what it is at was looked at, or put back
  module _ (e : Engine P) (a : At) (is : e.at ≡ a) where
    abbrev put : Engine P
    put = record e { at = a }

    pub put_same_with : outcome_with i put ≡ outcome_with i e
    put_same_with = ap (λ b. outcome_with i (record e { at = b })) (sym is)

    pub put_told_with : told_with i put ≡ told_with i e
    put_told_with = ap (λ b. told_with i (record e { at = b })) (sym is)

    module _ (e2 : Engine P) (left : left_with i e2 ≡ left_with i put) (kept : KeepsLinks put e2) where
      pub beside_same_with : outcome_with i e2 ≡ outcome_with i e
      beside_same_with =
          λ d. λ more. beside_same i (with_words e more) a is (with_words e2 more) (λ k. left k more) (kept_with put e2 more kept) d

      pub beside_told_with : told_with i e2 ≡ told_with i e
      beside_told_with =
          λ d. λ more. beside_told i (with_words e more) a is (with_words e2 more) (λ k. left k more) (kept_with put e2 more kept) d

  -- ---- of its gates

  pub through_quiet_with : (n : gates.Engine P) → IsThroughAlways i n → IsQuietAlways i n
  through_quiet_with n through = λ more. through_quiet i (node.filled n more) (through more)

  pub ahead_quiet_with : (n n2 : gates.Engine P) → node.IsAhead i n n2 → IsQuietAlways i n → IsQuietAlways i n2
  ahead_quiet_with n n2 ahead quiet = λ more mail.
      ap (λ l. told_in (run (node.engine_left i (node.filled n2 more)) (added (mail_left i l) mail)).acts) ahead.links
      ∙ ap (λ s. told_in (run s (added (mail_left i n.links) mail)).acts) (ahead.left more)
      ∙ quiet more mail

  -- no gate is at work
  idle_quiet : (n : gates.Engine P) (more : List ℕ) → n.work ≡ Idle → IsQuiet i (node.filled n more)
  idle_quiet n more idle =
      subst (λ w. QuietAt (node.left_at i (node.filled n more) w) (mail_left i n.links)) (sym idle)
      (quiet_wanted i n.dealt n.wanted (node.gates_left i n) n.values (n.tape.1 ++ more) (mail_left i n.links))

  -- after a call that goes as far as the messages and the words that were supplied lead
  pub quiet_after :
      (n n2 : gates.Engine P) (at : at_gates.Standing) → node.DoesTheSame i n n2 → node.StandsAlways i at n2 → IsQuietAlways i n → IsQuietAlways i n2
  quiet_after n n2 stand.Through same h quiet =
      λ more. node_quiet i (node.filled n more) (node.filled n2 more) stand.Through (same more) (h more) (quiet more)
  quiet_after n n2 stand.Unfit same h quiet =
      λ more. node_quiet i (node.filled n more) (node.filled n2 more) stand.Unfit (same more) (h more) (quiet more)
  quiet_after n n2 (stand.Waits link cause) same h quiet =
      λ more. node_quiet i (node.filled n more) (node.filled n2 more) (stand.Waits link cause) (same more) (h more) (quiet more)
  quiet_after n n2 (stand.Wants count) same h quiet = λ more. idle_quiet n2 more (h more).idle

-- all is as before but the values, whatever words come
pub same_but_values_with :
    {P : Type 0} (n n2 : gates.Engine P) (more : List ℕ) → node.IsSameButValues n n2 → node.IsSameButValues (node.filled n more) (node.filled n2 more)
same_but_values_with n n2 more same =
    record {
      links = same.links;
      dealt = same.dealt;
      tape = ap (λ (t : List ℕ × List ℕ). (t.0 ++ more, t.1 ++ more)) same.tape;
      gates = same.gates;
      begun = same.begun;
      work = same.work;
    }
