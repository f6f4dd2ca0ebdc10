-- Of a report whose gates suit what is dealt: tapes reach for them, they draw as many words as it counts, and open its words.
use Rattle.std.proofs.Common.{◌≡◌, ◌≤◌, List, [], length, sym, ap, ◌∙◌, subst}
use Rattle.proto_core.specs.declared.party.Number.{Number}
use Rattle.proto_core.specs.declared.party.Number.TheVariants.{One}
use Rattle.protocol_model.specs.Gates.{sizes_of, needed}
use Rattle.gates.specs.Counts.{Miner, Miner1, Miner2, Miner3, words_of_all}
use Rattle.shared_gates.specs.Model.{AllSizesSuit, sizes_after, miner_of}
use Rattle.shared_gates.proofs.Drawn.{drawn-counted}
use Rattle.value_file.specs.declared.inputs.Entry.{Entry}
use Rattle.input_share.specs.Dealing.{need_of}
use Rattle.tape_file.specs.Tapes.{FourTapes}
use Rattle.language_model.specs.Effects.{Words, World, Clear}
use Rattle.language_model.specs.Learned.{learned_of}
use Rattle.language_model.specs.Reports.{Report}
use Rattle.language_model.specs.Tapes.{AtMost, HasWords}
use Rattle.gate_laws.specs.Dealt.{drawn_by}
use Rattle.gate_laws.specs.Laws.{GatesSuit}
use Rattle.view_model.specs.Dealing.{dealt_to, private_sizes}
use Rattle.view_model.specs.Held.{private_values}
use Rattle.view_model.specs.TapeMaps.{miners_of, gates_dealt, AreTapes, Reaches}
use Rattle.view_model.specs.Seen.{opened_by_all}
use Rattle.view_model.proofs.DealtSizes.{sizes_dealt}
use Rattle.view_model.proofs.Holding.{run_computes}
use Rattle.code_inputs.specs.Inputs.{AreSound, dealt_of}

at_most : (a b : Words) → AtMost a b → (m : Miner) → drawn_by a m ≤ drawn_by b m
at_most a b h Miner1 = h.0
at_most a b h Miner2 = h.1
at_most a b h Miner3 = h.2

module _
    (entries : List Entry) (t : FourTapes) (are : AreTapes t) (sound : AreSound entries) (enough : need_of entries ≤ length t.dealer)
    (w : World) (clear : w.source ≡ Clear) (long : (i : Number) → drawn_by w.lengths (miner_of i) ≡ length (miners_of t i))
    (r : Report) (suits : GatesSuit w (dealt_of entries t.dealer) r) (has : HasWords w r)
  where
    sizes : sizes_of (private_values entries) ≡ private_sizes entries
    sizes = sym (suits.formed.dealt_sized One) ∙ sizes_dealt One entries t.dealer enough

    drawn_within : (i : Number) → words_of_all (sizes_after (sizes_of (private_values entries)) [] r.gates) (miner_of i) r.gates ≤ length (miners_of t i)
    drawn_within i =
        subst (λ n. n ≤ length (miners_of t i)) (suits.drawn i)
        (subst (λ n. drawn_by r.drawn (miner_of i) ≤ n) (long i) (at_most r.drawn w.lengths has.drawn (miner_of i)))

    pub reaches : Reaches entries r.gates t
    reaches =
        record {
          suit = subst (λ ns. AllSizesSuit ns [] r.gates) sizes suits.formed.suits;
          reach = λ i. subst (λ ns. words_of_all (sizes_after ns [] r.gates) (miner_of i) r.gates ≤ length (miners_of t i)) sizes (drawn_within i);
        }

    pub opens_its_words : learned_of r.events ≡ opened_by_all entries r.gates t
    opens_its_words =
        let c = run_computes entries r.gates t suits.kinds are sound.words enough reaches suits.formed.kinded in
        suits.opened clear c.more c.fit ∙ sym c.opens

    pub draws_its_words : (i : Number) → needed (gates_dealt entries t.dealer r.gates) i ≡ drawn_by r.drawn (miner_of i)
    draws_its_words i =
        drawn-counted (dealt_to entries t.dealer) (private_sizes entries) [] r.gates i reaches.suit
        ∙ ap (λ ns. words_of_all (sizes_after ns [] r.gates) (miner_of i) r.gates) (sym sizes)
        ∙ sym (suits.drawn i)
