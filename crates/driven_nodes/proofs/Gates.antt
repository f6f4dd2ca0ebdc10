-- Gates after gates: strands, messages, and what they need.
use Rattle.std.proofs.Common.{◌≡◌, ℕ, ◌≤◌, List, [], ◌∷◌, ◌++◌, take, drop, refl, sym, ◌∙◌, ap, subst, arith, append_assoc}
use Rattle.std.proofs.lemmas.List.{drop-drop}
use Rattle.proto_core.specs.declared.party.Number.{Number}
use Rattle.proto_core.specs.declared.link.Link.{Link}
use Rattle.proto_core.specs.Strand.{then_do}
use Rattle.proto_core.specs.Protocol.{Protocol}
use Rattle.proto_core.proofs.Strands.{then-regrouped}
use Rattle.protocol_model.specs.Gates.{Gate, Joined, Local, AreSound, Sized, nth_value, operand, needed, gates_strand}
use Rattle.protocol_model.specs.Runs.{Shares, Tapes, drawn, left, gate_joint, after, after_local, run_messages, run_values, Ready}
use Rattle.protocol_model.proofs.Sizes.{ready-next, ready-local}

pub gates_then :
    (i : Number) (xs ys : List Gate) (values : List (List ℕ)) (tape : List ℕ) →
    gates_strand i (xs ++ ys) values tape
    ≡ then_do (gates_strand i xs values tape) (λ all. gates_strand i ys all (drop (needed xs i) tape))
gates_then i [] ys values tape = refl
gates_then i (Local n f ∷ xs) ys values tape = gates_then i xs ys (values ++ f i values ∷ []) tape
gates_then i (Joined p n u v ∷ xs) ys values tape =
    let block = p.strand n i (nth_value values u) (operand values v) (take (p.draws n i) tape) in
    let rest = drop (p.draws n i) tape in
    ap (then_do block)
    (λ d. λ made.
    (gates_then i xs ys (values ++ made) rest
    ∙ ap (λ t. then_do (gates_strand i xs (values ++ made) rest) (λ all. gates_strand i ys all t)) (drop-drop (needed xs i) (p.draws n i) tape)) d)
    ∙ sym (then-regrouped block _ _)

-- the tapes after gates
abbrev pub rest_of_tapes : List Gate → Tapes → Tapes
rest_of_tapes gates tapes i = drop (needed gates i) (tapes i)

tapes_regrouped :
    (p : Protocol) (n u : ℕ) (v : _) (xs : List Gate) (tapes : Tapes) →
    rest_of_tapes xs (left p n tapes) ≡ rest_of_tapes (Joined p n u v ∷ xs) tapes
tapes_regrouped p n u v xs tapes = λ d. λ i. drop-drop (needed xs i) (p.draws n i) (tapes i) d

pub messages_then :
    (xs ys : List Gate) (values : Shares) (tapes : Tapes) (l : Link) →
    run_messages (xs ++ ys) values tapes l
    ≡ run_messages xs values tapes l ++ run_messages ys (run_values xs values tapes) (rest_of_tapes xs tapes) l
messages_then [] ys values tapes l = refl
messages_then (Local n f ∷ xs) ys values tapes l = messages_then xs ys (after_local f values) tapes l
messages_then (Joined p n u v ∷ xs) ys values tapes l =
    let here = p.messages n (gate_joint u v values (drawn p n tapes)) l in
    let next = after p n u v values (drawn p n tapes) in
    let first = run_messages xs next (left p n tapes) l in
    let all = run_values xs next (left p n tapes) in
    ap (λ w. here ++ w) (messages_then xs ys next (left p n tapes) l)
    ∙ ap (λ t. here ++ (first ++ run_messages ys all t l)) (tapes_regrouped p n u v xs tapes)
    ∙ sym (append_assoc here first (run_messages ys all (rest_of_tapes (Joined p n u v ∷ xs) tapes) l))

pub values_then :
    (xs ys : List Gate) (values : Shares) (tapes : Tapes) →
    run_values (xs ++ ys) values tapes ≡ run_values ys (run_values xs values tapes) (rest_of_tapes xs tapes)
values_then [] ys values tapes = refl
values_then (Local n f ∷ xs) ys values tapes = values_then xs ys (after_local f values) tapes
values_then (Joined p n u v ∷ xs) ys values tapes =
    let next = after p n u v values (drawn p n tapes) in
    values_then xs ys next (left p n tapes)
    ∙ ap (run_values ys (run_values xs next (left p n tapes))) (tapes_regrouped p n u v xs tapes)

-- ---- gates that can be run in one can be run part by part

pub sound_front : (xs ys : List Gate) → AreSound (xs ++ ys) → AreSound xs
sound_front [] ys h = tt
sound_front (Joined p n u v ∷ xs) ys h = (h.0, sound_front xs ys h.1)
sound_front (Local n f ∷ xs) ys h = sound_front xs ys h

pub sound_back : (xs ys : List Gate) → AreSound (xs ++ ys) → AreSound ys
sound_back [] ys h = h
sound_back (Joined p n u v ∷ xs) ys h = sound_back xs ys h.1
sound_back (Local n f ∷ xs) ys h = sound_back xs ys h

sized_front : (xs ys : List Gate) (sizes : List ℕ) → Sized (xs ++ ys) sizes → Sized xs sizes
sized_front [] ys sizes h = tt
sized_front (Joined p n u v ∷ xs) ys sizes h = (h.0, h.1, sized_front xs ys (sizes ++ p.made n) h.2)
sized_front (Local n f ∷ xs) ys sizes h = (h.0, sized_front xs ys (sizes ++ n ∷ []) h.1)

needed_front : (xs ys : List Gate) (i : Number) → needed xs i ≤ needed (xs ++ ys) i
needed_front [] ys i = omega arith
needed_front (Joined p n u v ∷ xs) ys i = let h = needed_front xs ys i in omega arith
needed_front (Local n f ∷ xs) ys i = needed_front xs ys i

pub ready_front : (xs ys : List Gate) (values : Shares) (tapes : Tapes) → Ready (xs ++ ys) values tapes → Ready xs values tapes
ready_front xs ys values tapes r =
    record {
      sizes = r.sizes;
      sized = sized_front xs ys r.sizes r.sized;
      shares = r.shares;
      tapes_reach = λ i. omega (arith, needed_front xs ys i, r.tapes_reach i);
      tapes_are_words = r.tapes_are_words;
    }

pub ready_back :
    (xs ys : List Gate) (values : Shares) (tapes : Tapes) → AreSound xs → Ready (xs ++ ys) values tapes →
    Ready ys (run_values xs values tapes) (rest_of_tapes xs tapes)
ready_back [] ys values tapes sound r = r
ready_back (Local n f ∷ xs) ys values tapes sound r =
    ready_back xs ys (after_local f values) tapes sound (ready-local n f (xs ++ ys) values tapes r)
ready_back (Joined p n u v ∷ xs) ys values tapes sound r =
    let next = after p n u v values (drawn p n tapes) in
    subst (λ t. Ready ys (run_values xs next (left p n tapes)) t) (tapes_regrouped p n u v xs tapes)
    (ready_back xs ys next (left p n tapes) sound.1 (ready-next p n u v (xs ++ ys) values tapes r sound.0))
