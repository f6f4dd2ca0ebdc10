-- A list of gates, gate by gate: the moves so far and those of the gates that are left are always the whole.
use Rattle.std.proofs.Common.{◌≡◌, ℕ, ◌+◌, List, [], ◌∷◌, ◌++◌, Option, length, sym, ◌∙◌, ap, subst, append_assoc, append-nil}
use Rattle.std.specs.List.{repeat}
use Rattle.proto_core.specs.declared.party.Number.{Number}
use Rattle.protocol_model.specs.Gates.{gates_script}
use Rattle.gates.specs.Blocks.{block_sizes}
use Rattle.gates.specs.declared.gate.Gate.{Gate}
use Rattle.gates.specs.Clear.{Values}
use Rattle.shared_gates.specs.Model.{sizes_made, run_gates}
use Rattle.counted_net.specs.declared.moves.Move.{Move}
use Rattle.counted_net.specs.Scripts.{links_in}
use Rattle.view_simulator.specs.Blocks.{block_moves}
use Rattle.view_simulator.specs.Sizes.{exchanged, SizesFit, AreKept}
use Rattle.view_simulator.proofs.Links.{gate-links}

-- the links of a run of gates after values of these sizes
abbrev pub run_links : (shares : Number → Values) → (dealt sizes : List ℕ) → List Gate → Number → List Move
run_links shares dealt sizes gates i = links_in (gates_script i (run_gates shares dealt sizes gates))

pub record Walked (dealt : List ℕ) (gates later : List Gate) (kept : List (Option ℕ)) (moves : Number → List Move) : Type 0 where
  pub sizes : List ℕ
  pub are : AreKept sizes kept
  pub fit : SizesFit dealt sizes later
  pub whole : (shares : Number → Values) (i : Number) → moves i ++ run_links shares dealt sizes later i ≡ run_links shares dealt [] gates i

module _ (dealt : List ℕ) (gates : List Gate) where
  -- no gate yet
  pub begun :
      (kept : List (Option ℕ)) (moves : Number → List Move) → SizesFit dealt [] gates → kept ≡ [] → ((i : Number) → moves i ≡ []) →
      Walked dealt gates gates kept moves
  begun kept moves fit none nothing =
      record {
        sizes = [];
        are = subst (λ (k : List (Option ℕ)). AreKept [] k) (sym none) tt;
        fit = fit;
        whole = λ shares i. ap (λ m. m ++ run_links shares dealt [] gates i) (nothing i);
      }

  module _ (gate : Gate) (later : List Gate) (kept : List (Option ℕ)) (moves : Number → List Move) (walked : Walked dealt gates (gate ∷ later) kept moves) where
    -- one gate more
    pub passed :
        (more_kept : List (Option ℕ)) (more : Number → List Move) →
        ((all : List ℕ) → AreKept all kept → AreKept (all ++ sizes_made dealt all gate) more_kept) →
        ((i : Number) → more i ≡ moves i ++ repeat (length (block_sizes (exchanged walked.sizes gate))) (block_moves gate i)) →
        Walked dealt gates later more_kept more
    passed more_kept more keeps adds =
        record {
          sizes = sizes;
          are = keeps walked.sizes walked.are;
          fit = walked.fit.1;
          whole = λ shares i.
              ap (λ m. m ++ run_links shares dealt sizes later i) (adds i)
              ∙ append_assoc (moves i) (here i) (run_links shares dealt sizes later i)
              ∙ ap (λ m. moves i ++ m) (sym (gate-links shares dealt walked.sizes gate (run_gates shares dealt sizes later) i))
              ∙ walked.whole shares i;
        }
      where
        sizes : List ℕ
        sizes = walked.sizes ++ sizes_made dealt walked.sizes gate

        here : Number → List Move
        here i = repeat (length (block_sizes (exchanged walked.sizes gate))) (block_moves gate i)

  pub ended :
      (kept : List (Option ℕ)) (moves : Number → List Move) → Walked dealt gates [] kept moves → (shares : Number → Values) (i : Number) →
      moves i ≡ run_links shares dealt [] gates i
  ended kept moves walked shares i = sym (append-nil (moves i)) ∙ walked.whole shares i
