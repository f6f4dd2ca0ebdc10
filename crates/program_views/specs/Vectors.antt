-- Worked views of a program that publishes the sum of two private inputs, and a twin.
use Rattle.std.specs.Prelude.{◌≡◌, ℕ, codes, false, [], ◌∷◌, Option, Some, None, refl}
use Rattle.sc_text.specs.declared.elements.Element.TheVariants.{Word}
use Rattle.sc_text.specs.declared.end.Ending.{Ending}
use Rattle.sc_text.specs.declared.end.Ending.TheVariants.{Done, Tape}
use Rattle.sc_text.specs.declared.end.TapeOwner.TheVariants as owner
use Rattle.program_trees.specs.declared.expression.DataType.TheVariants.{Uint64}
use Rattle.proto_core.specs.declared.party.Number.{Number}
use Rattle.proto_core.specs.declared.party.Number.TheVariants.{One, Three}
use Rattle.proto_core.specs.declared.link.Link.TheVariants.{Link13, Link23}
use Rattle.proto_core.specs.Lists.{each, part}
use Rattle.proto_core.specs.Resharing.{reshared, sum_of_three}
use Rattle.protocol_model.specs.Network.{Default, Listed, EmptyLink}
use Rattle.multiply.specs.Products.{cross}
use Rattle.value_file.specs.Public.{part_of}
use Rattle.tape_file.specs.Tapes.{FourTapes}
use Rattle.program_trees.specs.declared.kinds.Slot.{Slot}
use Rattle.program_trees.specs.declared.kinds.SlotDomain.TheVariants as domain
use Rattle.program_trees.specs.declared.typed_function.Returned.TheVariants.{Nothing}
use Rattle.program_trees.specs.declared.operators.OperatorSign.TheVariants.{Add}
use Rattle.program_trees.specs.declared.operators.BinaryOperator.TheVariants.{Words}
use Rattle.program_trees.specs.declared.operators.Operands.TheVariants.{Scalars}
use Rattle.program_trees.specs.TypedTree.{slot_node, binary_node, declassify_node}
use Rattle.program_trees.specs.TypedStatements.{typed_statements_of, input_statement, publish_statement}
use Rattle.program_trees.specs.TypedPrograms.{TypedProgramTree}
use Rattle.program_trees.specs.Shapes.{shape_of}
use Rattle.language_model.specs.Evaluation.{value, arguments, turns, repeats, execute, execute_all, call_at}
use Rattle.view_text.specs.View.{View}
use Rattle.view_model.specs.TapeMaps.{to_simulated, from_simulated}
use Rattle.view_model.specs.Vectors.{pair}
use Rattle.program_views.specs.Views.{view_of, simulated, net_of}
use Rattle.program_views.specs.TapeMaps.{mapped, twinned}

abbrev word : Slot
word = record { domain = domain.Private 0; shape = shape_of Uint64 false }

-- p uint64 a = argument("a"); p uint64 b = argument("b"); publish("s", declassify(a + b));
unfoldable pub sum : TypedProgramTree
sum =
    record {
      functions =
          record {
            name = codes "main";
            variables = 0;
            parameters = 0;
            slots = word ∷ word ∷ [];
            given = Nothing;
            body =
                typed_statements_of
                (input_statement 2 0 (codes "a")
                ∷ input_statement 2 1 (codes "b")
                ∷ publish_statement (codes "s") (declassify_node (binary_node 2 (Words Add) Scalars (slot_node 0) (slot_node 1)))
                ∷ []);
            size = 0;
          }
          ∷ [];
    }

-- four words for the dealer, and one for each miner
unfoldable pub tapes : FourTapes
tapes = record { dealer = 0 ∷ 0 ∷ 0 ∷ 0 ∷ []; one = 0 ∷ []; two = 0 ∷ []; three = 0 ∷ [] }

abbrev nothing_but : Number → Ending → (cost : ℕ) → Option View
nothing_but i ending cost =
    Some (record { miner = i; inputs = []; drew = []; got = []; opened = []; end = record { how = ending; cost = cost } })

abbrev third : View
third =
    record {
      miner = Three;
      inputs = record { name = codes "a"; words = 6 ∷ [] } ∷ record { name = codes "b"; words = 7 ∷ [] } ∷ [];
      drew = 0 ∷ [];
      got = record { link = Link23; message = 0 ∷ [] } ∷ record { link = Link23; message = 0 ∷ [] } ∷ record { link = Link13; message = 0 ∷ [] } ∷ [];
      opened = (Word 13 ∷ []) ∷ [];
      end = record { how = Done; cost = 7 };
    }

pub sum_seen_by_three : view_of Three sum (pair 6 7) tapes 100 Default ≡ Some third
unfolding sum tapes pair value arguments turns repeats execute execute_all call_at reshared each part cross sum_of_three
sum_seen_by_three = refl

-- the simulator is told 13, and what stands after it is left
pub made_for_three : simulated Three sum (part_of (pair 6 7)) (13 ∷ 8 ∷ []) (mapped Three sum (pair 6 7) tapes 100) 100 Default ≡ Some third
unfolding sum tapes pair value arguments turns repeats execute execute_all call_at to_simulated reshared each part cross sum_of_three
made_for_three = refl

-- told nothing it makes no view
pub told_nothing : simulated Three sum (part_of (pair 6 7)) [] tapes 100 Default ≡ None
unfolding sum tapes pair value arguments turns repeats execute execute_all call_at
told_nothing = refl

-- the dealer's tape is one word short
pub not_dealt : view_of One sum (pair 6 7) (record tapes { dealer = 0 ∷ 0 ∷ 0 ∷ [] }) 100 Default ≡ nothing_but One (Tape owner.Dealer 4 3) 0
unfolding sum tapes pair value arguments turns repeats execute execute_all call_at
not_dealt = refl

pub too_early : net_of sum (pair 6 7) tapes 100 (Listed (Link13 ∷ [])) ≡ EmptyLink 0 Link13 0
unfolding sum tapes pair value arguments turns repeats execute execute_all call_at
too_early = refl

-- 5 and 8 have the same sum
pub twin_dealer : (twinned Three sum (pair 6 7) (pair 5 8) tapes 100).dealer ≡ 18446744073709551615 ∷ 0 ∷ 1 ∷ 0 ∷ []
unfolding sum tapes pair value arguments turns repeats execute execute_all call_at to_simulated from_simulated reshared each part cross sum_of_three
twin_dealer = refl
