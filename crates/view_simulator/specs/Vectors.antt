-- Worked answers of the simulator, of a program that publishes the sum of two private inputs: what it is told, no run has opened.
use Rattle.std.specs.Prelude.{codes, [], ◌∷◌, Ok, Err, refl}
use Rattle.sc_text.specs.declared.elements.Element.TheVariants.{Word}
use Rattle.sc_text.specs.declared.end.Ending.TheVariants.{Done}
use Rattle.proto_core.specs.declared.party.Number.TheVariants.{Three}
use Rattle.proto_core.specs.declared.link.Link.TheVariants.{Link13, Link23}
use Rattle.proto_core.specs.Lists.{each, part}
use Rattle.proto_core.specs.Resharing.{reshared, sum_of_three}
use Rattle.protocol_model.specs.Network.{Default, Listed}
use Rattle.multiply.specs.Products.{cross}
use Rattle.value_file.specs.Public.{part_of}
use Rattle.language_model.specs.Evaluation.{value, arguments, turns, repeats, execute, execute_all, call_at}
use Rattle.view_text.specs.View.{View}
use Rattle.view_model.specs.Vectors.{pair}
use Rattle.program_views.specs.Vectors.{sum, tapes}
use Rattle.view_simulator.specs.declared.errors.SimulateErr.TheVariants.{OpenedShort, EmptyLink}
use Rattle.view_simulator.specs.Simulating.{IsSimulation}

-- shares of zeros, and all of the 13 in the last message
abbrev third : View
third =
    record {
      miner = Three;
      inputs = record { name = codes "a"; words = 0 ∷ [] } ∷ record { name = codes "b"; words = 0 ∷ [] } ∷ [];
      drew = 0 ∷ [];
      got = record { link = Link23; message = 0 ∷ [] } ∷ record { link = Link23; message = 0 ∷ [] } ∷ record { link = Link13; message = 13 ∷ [] } ∷ [];
      opened = (Word 13 ∷ []) ∷ [];
      end = record { how = Done; cost = 7 };
    }

pub made_of_zeros : IsSimulation Three sum (part_of (pair 6 7)) (13 ∷ []) tapes 100 Default (Ok third)
unfolding sum tapes pair value arguments turns repeats execute execute_all call_at reshared each part cross sum_of_three
made_of_zeros = record { accepted = refl; made = refl }

-- also where the net refuses
pub told_nothing : IsSimulation Three sum (part_of (pair 6 7)) [] tapes 100 (Listed (Link13 ∷ [])) (Err (OpenedShort 0))
unfolding sum tapes pair value arguments turns repeats execute execute_all call_at
told_nothing = record { short = refl; all = refl }

pub too_early : IsSimulation Three sum (part_of (pair 6 7)) (13 ∷ []) tapes 100 (Listed (Link13 ∷ [])) (Err (EmptyLink 0 Link13 0))
unfolding sum tapes pair value arguments turns repeats execute execute_all call_at
too_early = record { ended = tt; refused = refl }
