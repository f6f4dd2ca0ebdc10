-- What a miner of a shared run has drawn is what the run counts.
use Rattle.std.proofs.Common.{◌∙◌, ℕ, List, [], sym, ap, arith}
use Rattle.proto_core.specs.declared.party.Number.{Number}
use Rattle.proto_core.specs.Lists.{AreWords}
use Rattle.protocol_model.specs.Gates.{sizes_of}
use Rattle.protocol_model.specs.Runs.{Tapes}
use Rattle.gates.specs.Counts.{words_of_all}
use Rattle.shared_gates.specs.Model.{miner_of, sizes_after}
use Rattle.language_model.specs.Effects.{Clear}
use Rattle.language_model.specs.Reports.{Offered, world_of}
use Rattle.verified_code.specs.Steps.{Function}
use Rattle.code_model.specs.Meaning.{mean}
use Rattle.gate_laws.specs.Laws.{GatesSuit}
use Rattle.gate_laws.proofs.Walks.{make_suited_gates}
use Rattle.code_runs.specs.Dealt.{Dealt, drawn_by}
use Rattle.miner_core.specs.Story.{Story}
use Rattle.story_laws.specs.DrawnLaws.{CountsWhatItDrew}
use Rattle.story_laws.proofs.Stories.{draws_of_its_tape}

no_words : AreWords []
no_words k = omega arith

pub counts_what_it_drew :
    (o : Offered) (d : Dealt) (c : List Function) (budget : ℕ) (tapes : Tapes) (i : Number) (s : Story) → CountsWhatItDrew o d c budget tapes i s
counts_what_it_drew o d c budget tapes i s may own p values e stops =
    let suit : GatesSuit (world_of Clear o) d (mean c o budget) =
    make_suited_gates (world_of Clear o) d c budget [] may.code may.dealt may.main may.first no_words in
    ap (λ n. drawn_by n (miner_of i)) stops.drawn
    ∙ suit.drawn i
    ∙ ap (λ gates. words_of_all (sizes_after (sizes_of d.inputs) [] gates) (miner_of i) gates) (sym stops.gates)
    ∙ ap (λ sizes. words_of_all (sizes_after sizes [] p.stage.gates) (miner_of i) p.stage.gates) (sym (ap sizes_of own ∙ may.dealt.sized i))
    ∙ sym ((draws_of_its_tape i s).exact p values e)
