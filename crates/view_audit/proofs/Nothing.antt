-- The five steps name no line exactly where each of them names none.
use Rattle.std.proofs.Common.{◌≡◌, ℕ, List, Option, None, ap}
use Rattle.std.specs.Prelude.{option_map}
use Rattle.proto_core.specs.declared.party.Number.{Number}
use Rattle.proto_core.specs.declared.party.Number.TheVariants.{One, Two, Three}
use Rattle.program_trees.specs.TypedPrograms.{TypedProgramTree}
use Rattle.shared_gates.specs.Model.{miner_of}
use Rattle.value_file.specs.declared.public.PublicEntry.{PublicEntry}
use Rattle.gate_laws.specs.Dealt.{drawn_by}
use Rattle.view_text.specs.View.{View}
use Rattle.view_audit.specs.Audit.{first_of_five, shown, wanted}
use Rattle.view_audit.specs.Found.{lines, messages}
use Rattle.view_audit.specs.Places.{Place, lowest, place_in, then_ask}
use Rattle.view_audit.specs.Steps.{draws_line, ends_line, inputs_line, messages_line, sums_line}
use Rattle.view_audit.proofs.Asked.{ask_none, both_none, none_before, none_of_three, three_none}

module _ (p : TypedProgramTree) (part : List PublicEntry) (lengths : List ℕ) (budget : ℕ) (views : Number → View) where
  abbrev pub inputs_at : Number → Option ℕ
  inputs_at i = inputs_line (wanted p part lengths budget views) i (views i)

  abbrev pub sums_at : Option ℕ
  sums_at = sums_line part (lines part lengths views One) (lines part lengths views Two) (lines part lengths views Three)

  abbrev pub draws_at : Number → Option ℕ
  draws_at i = draws_line (drawn_by (shown p part lengths budget views).drawn (miner_of i)) (views i)

  abbrev pub messages_at : Number → Option ℕ
  messages_at i = messages_line (messages part lengths views p budget) i (views i)

  abbrev pub ends_at : Number → Option ℕ
  ends_at i = ends_line (shown p part lengths budget views) (views i)

  pub record FindNothing : Type 0 where
    pub inputs : (i : Number) → inputs_at i ≡ None
    pub sums : sums_at ≡ None
    pub draws : (i : Number) → draws_at i ≡ None
    pub got : (i : Number) → messages_at i ≡ None
    pub ends : (i : Number) → ends_at i ≡ None

  abbrev fifth : Option Place
  fifth = lowest ends_at

  abbrev fourth : Option Place
  fourth = then_ask (lowest messages_at) fifth

  abbrev third : Option Place
  third = then_ask (lowest draws_at) fourth

  abbrev second : Option Place
  second = then_ask (option_map (place_in Three) sums_at) third

  pub find_nothing : first_of_five p part lengths budget views ≡ None → FindNothing
  find_nothing e =
      let a : (lowest inputs_at ≡ None) × (second ≡ None) = both_none (lowest inputs_at) second e in
      let b : (option_map (place_in Three) sums_at ≡ None) × (third ≡ None) = both_none (option_map (place_in Three) sums_at) third a.1 in
      let c : (lowest draws_at ≡ None) × (fourth ≡ None) = both_none (lowest draws_at) fourth b.1 in
      let d : (lowest messages_at ≡ None) × (fifth ≡ None) = both_none (lowest messages_at) fifth c.1 in
      record {
        inputs = none_of_three inputs_at a.0;
        sums = none_before (place_in Three) sums_at b.0;
        draws = none_of_three draws_at c.0;
        got = none_of_three messages_at d.0;
        ends = none_of_three ends_at d.1;
      }

  pub nothing_found : FindNothing → first_of_five p part lengths budget views ≡ None
  nothing_found f =
      ask_none (lowest inputs_at) second (three_none inputs_at f.inputs)
      (ask_none (option_map (place_in Three) sums_at) third (ap (option_map (place_in Three)) f.sums)
      (ask_none (lowest draws_at) fourth (three_none draws_at f.draws)
      (ask_none (lowest messages_at) fifth (three_none messages_at f.got) (three_none ends_at f.ends))))
