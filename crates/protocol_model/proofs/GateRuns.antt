-- Three miners that do the same gates come to the end, with the joint run's messages, values and opened words.
use Rattle.std.proofs.Common.{◌≡◌, ℕ, suc, ◌+◌, ◌≤◌, true, false, if◌then◌else◌, List, [], ◌∷◌, ◌++◌, length, take, drop, refl, sym, ◌∙◌, ap, subst}
use Rattle.std.proofs.Common.{arith, length-append}
use Rattle.std.specs.Prelude.{Some, slice_get}
use Rattle.std.proofs.lemmas.List.{length-take-le, length-drop}
use Rattle.proto_core.specs.declared.party.Number.{Number}
use Rattle.proto_core.specs.declared.link.Link.{Link}
use Rattle.proto_core.specs.Parties.{sender_of, receiver_of, is_same}
use Rattle.proto_core.specs.Strand.{Shape, same_link, Strand, opened_in}
use Rattle.proto_core.specs.Script.{Move, Sends, Takes, Moves, sends_on}
use Rattle.proto_core.specs.Net.{into, run_of, nothing, opened_by, Finishes}
use Rattle.proto_core.specs.Protocol.{AreMessages, Protocol, Fits, strands_of}
use Rattle.proto_core.proofs.Strands.{opened-append}
use Rattle.proto_core.proofs.Nets.{finishes-both, run-both}
use Rattle.protocol_model.specs.Gates.{Gate, Joined, Local, nth_value, operand, HasSize, sizes_of, Sized, AreSound, needed, gates_strand, gates_script}
use Rattle.protocol_model.specs.Runs.{Shares, Tapes, drawn, left, gate_joint, after, after_local, run_messages, run_values, run_opened, nodes_of, Ready}
use Rattle.protocol_model.proofs.Scripts.{moves-then}
use Rattle.protocol_model.proofs.Sizes.{nth_value-sized, operand-sized, sizes-append, block-fits, ready-next, ready-local}

pub into-nothing : (i : Number) → into i nothing ≡ nothing
into-nothing i = λ d. λ l. at_link l d
  where
    at_link : (l : Link) → into i nothing l ≡ nothing l
    at_link l = elim (is_same (receiver_of l) i) as (λ b. if◌then◌else◌ {A = List (List ℕ)} b [] [] ≡ []) [ true ↦ refl | false ↦ refl ]

-- what a miner does after a block, with the blocks that it has then
abbrev goes_on : Protocol → ℕ → List Gate → Shares → Tapes → Number → List (List ℕ) → Strand (List (List ℕ))
goes_on p n gates values tapes i made = gates_strand i gates (values i ++ made) (left p n tapes i)

-- the joint run is what the three miners do together; no order of deliveries and no word makes them stand
pub run-finishes :
    (gates : List Gate) (values : Shares) (tapes : Tapes) → AreSound gates → Ready gates values tapes →
    Finishes (nodes_of gates values tapes) (run_messages gates values tapes) (run_values gates values tapes)
run-finishes [] values tapes sound ready =
    record { sent = λ l. refl; ended = λ i. refl; read = λ i. into-nothing i; count = 0; all = λ l. tt }
run-finishes (Local n f ∷ gates) values tapes sound ready =
    run-finishes gates (after_local f values) tapes sound (ready-local n f gates values tapes ready)
run-finishes (Joined p n u v ∷ gates) values tapes sound ready =
    let j = gate_joint u v values (drawn p n tapes) in
    let next = after p n u v values (drawn p n tapes) in
    finishes-both (strands_of p n j) (goes_on p n gates values tapes) (p.messages n j) (p.output n j)
    (sound.0.finishes n j (block-fits p n u v gates values tapes ready))
    (run_messages gates next (left p n tapes)) (run_values gates next (left p n tapes))
    (run-finishes gates next (left p n tapes) sound.1 (ready-next p n u v gates values tapes ready sound.0))

-- and each of them learns the joint run's opened words
pub run-opens :
    (gates : List Gate) (values : Shares) (tapes : Tapes) → AreSound gates → Ready gates values tapes → (i : Number) →
    opened_by (nodes_of gates values tapes) (run_messages gates values tapes) i ≡ run_opened gates values tapes
run-opens [] values tapes sound ready i = refl
run-opens (Local n f ∷ gates) values tapes sound ready i =
    run-opens gates (after_local f values) tapes sound (ready-local n f gates values tapes ready) i
run-opens (Joined p n u v ∷ gates) values tapes sound ready i =
    let j = gate_joint u v values (drawn p n tapes) in
    let next = after p n u v values (drawn p n tapes) in
    let fits : Fits p n j = block-fits p n u v gates values tapes ready in
    let later = run_messages gates next (left p n tapes) in
    ap (λ r. opened_in r.acts)
    (run-both (strands_of p n j) (goes_on p n gates values tapes) (p.messages n j) (p.output n j) (sound.0.finishes n j fits) later i)
    ∙ opened-append (run_of (strands_of p n j) (p.messages n j) i).acts (run_of (nodes_of gates next (left p n tapes)) later i).acts
    ∙ ap (λ w. w ++ opened_by (nodes_of gates next (left p n tapes)) later i) (sound.0.opened n j fits i)
    ∙ ap (λ w. p.opened n j ++ w)
    (run-opens gates next (left p n tapes) sound.1 (ready-next p n u v gates values tapes ready sound.0) i)

-- whatever the words are, each miner sends and takes by the gates' scripts
pub gates-move :
    (i : Number) (gates : List Gate) (sizes : List ℕ) (values : List (List ℕ)) (tape : List ℕ) → AreSound gates → Sized gates sizes →
    sizes_of values ≡ sizes → needed gates i ≤ length tape → Moves (gates_strand i gates values tape) (gates_script i gates)
gates-move i [] sizes values tape sound sized same reach = tt
gates-move i (Local n f ∷ gates) sizes values tape sound sized same reach =
    gates-move i gates (sizes ++ n ∷ []) (values ++ f i values ∷ []) tape sound sized.1
    (sizes-append values (f i values ∷ [])
    ∙ ap (λ s. s ++ length (f i values) ∷ []) same
    ∙ ap (λ k. sizes ++ k ∷ []) (sized.0 i values same))
    reach
gates-move i (Joined p n u v ∷ gates) sizes values tape sound sized same reach =
    let a : length (nth_value values u) ≡ n = nth_value-sized values u n (subst (λ s. slice_get s u ≡ Some n) (sym same) sized.0) in
    let b : length (operand values v) ≡ p.second n = operand-sized values v (p.second n) (subst (λ s. HasSize s v (p.second n)) (sym same) sized.1) in
    let c : length (take (p.draws n i) tape) ≡ p.draws n i = length-take-le (p.draws n i) tape (omega arith) in
    moves-then (λ blocks. sizes_of blocks ≡ p.made n) (p.strand n i (nth_value values u) (operand values v) (take (p.draws n i) tape))
    (λ made. gates_strand i gates (values ++ made) (drop (p.draws n i) tape)) (p.script n i) (gates_script i gates)
    (sound.0.moves n i _ _ _ a b c) (sound.0.sizes n i _ _ _ a b c)
    (λ made e. gates-move i gates (sizes ++ p.made n) (values ++ made) (drop (p.draws n i) tape) sound.1 sized.2
    (sizes-append values made ∙ ap (λ s. s ++ sizes_of made) same ∙ ap (λ s. sizes ++ s) e)
    (let l = length-drop (p.draws n i) tape in omega arith))

pub sends_on-append : (l : Link) (xs ys : List Move) → sends_on l (xs ++ ys) ≡ sends_on l xs ++ sends_on l ys
sends_on-append l [] ys = refl
sends_on-append l (Sends k shape ∷ xs) ys =
    elim (same_link l k) as (λ b. (if b then shape ∷ sends_on l (xs ++ ys) else sends_on l (xs ++ ys))
    ≡ (if b then shape ∷ sends_on l xs else sends_on l xs) ++ sends_on l ys)
    [ true ↦ ap (λ v. shape ∷ v) (sends_on-append l xs ys) | false ↦ sends_on-append l xs ys ]
sends_on-append l (Takes k shape ∷ xs) ys = sends_on-append l xs ys

messages-length : (shapes : List Shape) (ms : List (List ℕ)) → AreMessages shapes ms → length ms ≡ length shapes
messages-length [] [] h = refl
messages-length [] (m ∷ ms) h = absurd h
messages-length (s ∷ shapes) [] h = absurd h
messages-length (s ∷ shapes) (m ∷ ms) h = ap suc (messages-length shapes ms h.1)

-- as many messages on each link as the scripts send
pub run-counted :
    (gates : List Gate) (values : Shares) (tapes : Tapes) → AreSound gates → Ready gates values tapes → (l : Link) →
    length (run_messages gates values tapes l) ≡ length (sends_on l (gates_script (sender_of l) gates))
run-counted [] values tapes sound ready l = refl
run-counted (Local n f ∷ gates) values tapes sound ready l =
    run-counted gates (after_local f values) tapes sound (ready-local n f gates values tapes ready) l
run-counted (Joined p n u v ∷ gates) values tapes sound ready l =
    let j = gate_joint u v values (drawn p n tapes) in
    let next = after p n u v values (drawn p n tapes) in
    let here : length (p.messages n j l) ≡ length (sends_on l (p.script n (sender_of l))) =
    messages-length _ _ (sound.0.messages n j (block-fits p n u v gates values tapes ready) l) in
    let later : length (run_messages gates next (left p n tapes) l) ≡ length (sends_on l (gates_script (sender_of l) gates)) =
    run-counted gates next (left p n tapes) sound.1 (ready-next p n u v gates values tapes ready sound.0) l in
    length-append (p.messages n j l) (run_messages gates next (left p n tapes) l)
    ∙ ap (λ k. k + length (run_messages gates next (left p n tapes) l)) here
    ∙ ap (λ k. length (sends_on l (p.script n (sender_of l))) + k) later
    ∙ sym (length-append (sends_on l (p.script n (sender_of l))) (sends_on l (gates_script (sender_of l) gates)))
    ∙ sym (ap length (sends_on-append l (p.script n (sender_of l)) (gates_script (sender_of l) gates)))
