-- What a miner sees of a whole run is made of the corresponding tapes.
use Rattle.std.proofs.Common.{◌≡◌, ℕ, ◌≤◌, List, [], length, take, refl, sym, ◌∙◌, ap, subst}
use Rattle.proto_core.specs.declared.party.Number.{Number}
use Rattle.proto_core.specs.declared.link.Link.{Link}
use Rattle.proto_core.specs.Parties.{receiver_of}
use Rattle.proto_core.specs.Strand.{Mail}
use Rattle.protocol_model.specs.Gates as model
use Rattle.protocol_model.specs.Gates.{needed, gates_script}
use Rattle.protocol_model.specs.Runs.{run_messages, run_values}
use Rattle.protocol_model.specs.Views.{to_view, made_messages, made_values}
use Rattle.protocol_model.specs.Network.{Delivery, order_of}
use Rattle.protocol_model.specs.Arrivals.{Arrival, arrivals}
use Rattle.protocol_model.proofs.GateViews.{run-made}
use Rattle.gates.specs.declared.gate.Gate.{Gate}
use Rattle.shared_gates.specs.Model.{run_gates}
use Rattle.shared_gates.specs.OwnShares.{SameFor}
use Rattle.shared_gates.proofs.OwnShares.{own-same}
use Rattle.value_file.specs.declared.inputs.Entry.{Entry}
use Rattle.value_file.specs.Public.{part_of}
use Rattle.input_share.specs.declared.entry.ShareEntry.{ShareEntry}
use Rattle.input_share.specs.Dealing.{need_of, dealt_entries}
use Rattle.tape_file.specs.Tapes.{FourTapes}
use Rattle.view_model.specs.Dealing.{private_shares, dealt_to, private_sizes, hidden_sizes, made_entries}
use Rattle.view_model.specs.TapeMaps.{miners_of, no_values, gates_dealt, to_simulated, AreTapes, Reaches}
use Rattle.view_model.specs.Seen.{Seen, seen_by, gates_made, made_for, opened_by_all}
use Rattle.view_model.proofs.Dealings.{entries_made}
use Rattle.view_model.proofs.DealtSizes.{sizes_hidden}
use Rattle.view_model.proofs.Arriving.{arrivals_same}
use Rattle.view_model.proofs.Corresponding.{sound, private, ready_real, miners_mapped, to_simulated_dealt, correspond_dealt}

module _
    (i : Number) (es : List Entry) (gates : List Gate) (t : FourTapes) (are : AreTapes t) (enough : need_of es ≤ length t.dealer)
    (reaches : Reaches es gates t)
  where
    abbrev real : List model.Gate
    real = gates_dealt es t.dealer gates

    abbrev opened : List ℕ
    opened = opened_by_all es gates t

    abbrev s : FourTapes
    s = to_simulated i es gates t

    -- the simulator's gates, in which each miner has what this one was dealt
    abbrev made : List model.Gate
    made = gates_made i (part_of es) s.dealer gates

    made_gates : made ≡ run_gates (λ k. dealt_to es t.dealer i) (private_sizes es) [] gates
    made_gates =
        ap (λ v. gates_made i (part_of es) v.dealer gates) (to_simulated_dealt i es gates t enough)
        ∙ ap (λ es'. run_gates (λ k. private_shares es') (hidden_sizes (part_of es)) [] gates) (sym (entries_made i es t.dealer enough))
        ∙ ap (λ ds. run_gates (λ k. dealt_to es t.dealer i) ds [] gates) (sizes_hidden es)

    same : SameFor i real made
    same =
        subst (λ gs. SameFor i real gs) (sym made_gates)
        (own-same i (dealt_to es t.dealer) (λ k. dealt_to es t.dealer i) refl (private_sizes es) [] gates)

    inputs_made : dealt_entries i es t.dealer ≡ made_entries i (part_of es) s.dealer
    inputs_made =
        entries_made i es t.dealer enough
        ∙ sym (ap (λ v. made_entries i (part_of es) v.dealer) (to_simulated_dealt i es gates t enough))

    drew_made : take (needed real i) (miners_of t i) ≡ take (needed made i) (miners_of s i)
    drew_made =
        ap (λ n. take n (miners_of t i)) (same.needs i)
        ∙ ap (take (needed made i)) (sym (correspond_dealt i es gates t are enough reaches).own)

    came_made :
        (l : Link) → receiver_of l ≡ i →
        run_messages real no_values (miners_of t) l ≡ made_messages i made [] opened (miners_of s) l
    came_made l h =
        (run-made i real no_values (miners_of t) (sound es t.dealer gates) (private es t.dealer gates)
        (ready_real i es gates t are enough reaches)).messages l h
        ∙ same.messages [] opened (to_view i real no_values (miners_of t)) l
        ∙ sym (ap (λ v. made_messages i made [] opened v l) (miners_mapped i es gates t are enough reaches))

    pub shares_made : run_values real no_values (miners_of t) i ≡ made_values i made [] opened (miners_of s)
    shares_made =
        (run-made i real no_values (miners_of t) (sound es t.dealer gates) (private es t.dealer gates)
        (ready_real i es gates t are enough reaches)).shares
        ∙ same.values [] opened (to_view i real no_values (miners_of t))
        ∙ sym (ap (made_values i made [] opened) (miners_mapped i es gates t are enough reaches))

    -- the delivered links, by either gates' scripts
    abbrev real_order : Delivery → List Link
    real_order delivery = order_of (λ k. gates_script k real) delivery

    abbrev made_order : Delivery → List Link
    made_order delivery = order_of (λ k. gates_script k made) delivery

    abbrev came : Mail
    came = run_messages real no_values (miners_of t)

    got_made :
        (delivery : Delivery) →
        arrivals i came (real_order delivery) ≡ arrivals i (made_messages i made [] opened (miners_of s)) (made_order delivery)
    got_made delivery =
        ap (λ f. arrivals i came (order_of f delivery)) (λ j. λ k. same.scripts k j)
        ∙ arrivals_same i (made_order delivery) _ _ came_made

    abbrev seen : List ShareEntry → List ℕ → List Arrival → Seen
    seen shares words messages = record { inputs = shares; drew = words; got = messages }

    pub seen_is_made : (delivery : Delivery) → seen_by i es gates t delivery ≡ made_for i (part_of es) gates opened s delivery
    seen_is_made delivery =
        ap (λ x. seen x (take (needed real i) (miners_of t i)) (arrivals i came (real_order delivery))) inputs_made
        ∙ ap (λ x. seen (made_entries i (part_of es) s.dealer) x (arrivals i came (real_order delivery))) drew_made
        ∙ ap (seen (made_entries i (part_of es) s.dealer) (take (needed made i) (miners_of s i))) (got_made delivery)
