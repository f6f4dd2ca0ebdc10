-- A miner that runs verified code ends as evaluation can, whatever came to it.
use Rattle.std.proofs.Common.{◌≡◌, ℕ, ◌<◌, List, [], ◌∷◌, Some, refl, sym, ◌∙◌, ap, subst, arith, length, map}
use Rattle.std.specs.Prelude.{slice_get}
use Rattle.proto_core.specs.declared.party.Number.{Number}
use Rattle.proto_core.specs.Strand.{Strand, Ends, Acts, Waits}
use Rattle.bytecode.specs.Raw.{RawFunction}
use Rattle.verified_code.specs.Settled.{settled_function}
use Rattle.verified_code.specs.Steps.{Function}
use Rattle.verified_code.proofs.Sound.{verified_is_sound}
use Rattle.code_model.specs.Laws.{AreFitting}
use Rattle.code_model.specs.Meaning.{AreForward}
use Rattle.code_model.proofs.Settled.{sound_forward}
use Rattle.gate_laws.specs.Dealt.{Dealt}
use Rattle.gate_laws.specs.Machines.{AreTaking}
use Rattle.gate_laws.specs.Laws.{MayRun}
use Rattle.gate_laws.proofs.Verified.{verified_suits}
use Rattle.gate_node.proofs.Always.{EndsAlways}
use Rattle.driven_nodes.specs.Steps.{Running, Stopped, Short}
use Rattle.own_code.specs.OwnCode.{Ended, Reached, Unfit}
use Rattle.language_model.specs.Effects.{World}
use Rattle.miner_core.specs.declared.answer.End.{End}
use Rattle.miner_core.specs.declared.answer.End.TheVariants as end
use Rattle.miner_core.specs.Story.{Story, node, strand_in, mail_in, HasEnded}
use Rattle.miner_ends.specs.Ends.{EndsAsItCan}
use Rattle.miner_ends.specs.Given.{IsGivenItsPart, EndsWhereItCan, IsOfEvaluation, AnswersNoOtherEnd}
use Rattle.miner_ends.proofs.OwnEnds.{left_always}
use Rattle.miner_ends.proofs.Dealing.{dealing_of, sizes_are, is_dealing, are_offered, are_single}
use Rattle.miner_ends.proofs.Runs.{run_ends}

record HasMain (c : List Function) : Type 0 where
  main : Function
  first : slice_get c 0 ≡ Some main

main_there : (names : List (List ℕ)) (fs : List RawFunction) → 0 < length fs → HasMain (map (settled_function names) fs)
main_there names [] some = absurd (omega (arith, some))
main_there names (f ∷ fs) some = record { main = settled_function names f; first = refl }

-- no other end is told of a strand that ends so
no_other : (w : World) (c : List Function) (budget : ℕ) (left : Strand Ended) → EndsAlways (EndsAsItCan w c budget) left → (how : End)
    → HasEnded left how → IsOfEvaluation how
no_other w c budget (Ends (Reached (Stopped p) values)) well (end.Over ending) h = tt
no_other w c budget (Ends (Reached (Stopped p) values)) well end.Short h = h
no_other w c budget (Ends (Reached (Stopped p) values)) well end.Endless h = h
no_other w c budget (Ends (Reached (Stopped p) values)) well end.Unfit h = h
no_other w c budget (Ends (Reached (Running p) values)) well how h = absurd well
no_other w c budget (Ends (Reached (Short p) values)) well how h = absurd well
no_other w c budget (Ends Unfit) well how h = absurd well
no_other w c budget (Acts a s) well how h = absurd h
no_other w c budget (Waits l shape k) well how h = absurd h

module _ (i : Number) (s : Story) (given : IsGivenItsPart i s) where
  abbrev d : Dealt
  d = dealing_of s.world.inputs

  may_run : MayRun s.world d s.code
  may_run =
      let suits = verified_suits given.code given.verified given.literals in
      record {
        fitting = subst AreFitting (sym given.settles) suits.0;
        taking = subst AreTaking (sym given.settles) suits.1;
        singles = are_single s.world.inputs given.known;
        offered = are_offered s.world.inputs given.known;
      }

  -- whatever messages come
  own_ends : EndsAlways (EndsAsItCan s.world s.code s.budget) (strand_in i s)
  own_ends =
      let sound = verified_is_sound given.code given.verified in
      let main = main_there given.code.names given.code.functions sound.some_function in
      let tape = given.tape in
      run_ends i s.world s.code d may_run given.told s.dealt (given.shares ∙ sym (sizes_are s.world.inputs)) s.budget
      (subst AreForward (sym given.settles) (sound_forward given.code sound)) (is_dealing s.world.inputs given.known) main.main
      (ap (λ c. slice_get c 0) given.settles ∙ main.first) s.tape (omega (arith, tape))

  pub well : EndsAlways (EndsAsItCan s.world s.code s.budget) (node i s).left
  well = left_always (EndsAsItCan s.world s.code s.budget) (strand_in i s) (mail_in i s) own_ends

pub ends_where_it_can : (i : Number) (s : Story) → EndsWhereItCan i s
ends_where_it_can i s given e is = subst (EndsAlways (EndsAsItCan s.world s.code s.budget)) is (well i s given)

pub answers_no_other_end : (i : Number) (s : Story) → AnswersNoOtherEnd i s
answers_no_other_end i s given how h = no_other s.world s.code s.budget (node i s).left (well i s given) how h
