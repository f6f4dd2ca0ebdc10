-- A run of gates after a run of others.
use Rattle.std.proofs.Common.{◌≡◌, ℕ, List, [], ◌∷◌, ◌++◌, length, refl, sym, ◌∙◌, ap, append_assoc}
use Rattle.proto_core.specs.declared.party.Number.{Number}
use Rattle.proto_core.specs.Protocol.{Fits}
use Rattle.proto_core.proofs.Beginnings.{append-none}
use Rattle.shared_gates.proofs.Fitting.{no_words}
use Rattle.protocol_model.specs.Gates.{Gate, Joined, Local, sizes_of, AreSound}
use Rattle.protocol_model.specs.Runs.{Shares, Tapes, drawn, left, gate_joint, after, after_local, run_values, run_opened, Ready}
use Rattle.protocol_model.proofs.Sizes.{sizes-append, sizes-blocks, block-fits, ready-next, ready-local}

-- ---- values

-- each miner keeps the shares that it has
pub values-grow :
    (gates : List Gate) (values : Shares) (tapes : Tapes) (i : Number) →
    (more : List (List ℕ)) × (run_values gates values tapes i ≡ values i ++ more)
values-grow [] values tapes i = ([], sym (append-none (values i)))
values-grow (Local n f ∷ gates) values tapes i =
    let rest = values-grow gates (after_local f values) tapes i in
    (f i (values i) ∷ rest.0, rest.1 ∙ append_assoc (values i) (f i (values i) ∷ []) rest.0)
values-grow (Joined p n u v ∷ gates) values tapes i =
    let out = p.output n (gate_joint u v values (drawn p n tapes)) i in
    let rest = values-grow gates (after p n u v values (drawn p n tapes)) (left p n tapes) i in
    (out ++ rest.0, rest.1 ∙ append_assoc (values i) out rest.0)

-- on what is left of the tapes
pub values-then :
    (xs ys : List Gate) (values : Shares) (tapes : Tapes) →
    (rest : Tapes) × (run_values (xs ++ ys) values tapes ≡ run_values ys (run_values xs values tapes) rest)
values-then [] ys values tapes = (tapes, refl)
values-then (Local n f ∷ xs) ys values tapes = values-then xs ys (after_local f values) tapes
values-then (Joined p n u v ∷ xs) ys values tapes = values-then xs ys (after p n u v values (drawn p n tapes)) (left p n tapes)

-- ---- sizes

abbrev pub sizes_behind : List Gate → List ℕ → List ℕ
sizes_behind [] sizes = sizes
sizes_behind (Joined p n u v ∷ gates) sizes = sizes_behind gates (sizes ++ p.made n)
sizes_behind (Local n f ∷ gates) sizes = sizes_behind gates (sizes ++ n ∷ [])

pub values-sized :
    (gates : List Gate) (values : Shares) (tapes : Tapes) (sizes : List ℕ) → AreSound gates → Ready gates values tapes →
    ((i : Number) → sizes_of (values i) ≡ sizes) → (i : Number) → sizes_of (run_values gates values tapes i) ≡ sizes_behind gates sizes
values-sized [] values tapes sizes sound ready same i = same i
values-sized (Local n f ∷ gates) values tapes sizes sound ready same i =
    values-sized gates (after_local f values) tapes (sizes ++ n ∷ []) sound (ready-local n f gates values tapes ready)
    (λ k.
    sizes-append (values k) (f k (values k) ∷ [])
    ∙ ap (λ s. s ++ length (f k (values k)) ∷ []) (same k)
    ∙ ap (λ m. sizes ++ m ∷ []) (ready.sized.0 k (values k) (ready.shares k))) i
values-sized (Joined p n u v ∷ gates) values tapes sizes sound ready same i =
    let j = gate_joint u v values (drawn p n tapes) in
    let fits : Fits p n j = block-fits p n u v gates values tapes ready in
    values-sized gates (after p n u v values (drawn p n tapes)) (left p n tapes) (sizes ++ p.made n) sound.1
    (ready-next p n u v gates values tapes ready sound.0)
    (λ k.
    sizes-append (values k) (p.output n j k)
    ∙ ap (λ s. s ++ sizes_of (p.output n j k)) (same k)
    ∙ ap (λ s. sizes ++ s) (sizes-blocks (p.made n) (p.output n j k) (sound.0.blocks n j fits k))) i

-- ---- opened words

-- these gates open no word
abbrev pub OpenNone : List Gate → Type 0
OpenNone [] = Unit {0}
OpenNone (Joined p n u v ∷ gates) = (p.opens n ≡ 0) × OpenNone gates
OpenNone (Local n f ∷ gates) = OpenNone gates

none-opened :
    (gates : List Gate) (values : Shares) (tapes : Tapes) → AreSound gates → Ready gates values tapes → OpenNone gates →
    run_opened gates values tapes ≡ []
none-opened [] values tapes sound ready none = refl
none-opened (Local n f ∷ gates) values tapes sound ready none =
    none-opened gates (after_local f values) tapes sound (ready-local n f gates values tapes ready) none
none-opened (Joined p n u v ∷ gates) values tapes sound ready none =
    let j = gate_joint u v values (drawn p n tapes) in
    let fits : Fits p n j = block-fits p n u v gates values tapes ready in
    let later = run_opened gates (after p n u v values (drawn p n tapes)) (left p n tapes) in
    ap (λ w. w ++ later) (sym (no_words (p.opened n j) (sound.0.opens n j fits ∙ none.0)))
    ∙ none-opened gates (after p n u v values (drawn p n tapes)) (left p n tapes) sound.1 (ready-next p n u v gates values tapes ready sound.0) none.1

pub opened-before :
    (xs ys : List Gate) (values : Shares) (tapes : Tapes) → AreSound (xs ++ ys) → Ready (xs ++ ys) values tapes → OpenNone ys →
    run_opened (xs ++ ys) values tapes ≡ run_opened xs values tapes
opened-before [] ys values tapes sound ready none = none-opened ys values tapes sound ready none
opened-before (Local n f ∷ xs) ys values tapes sound ready none =
    opened-before xs ys (after_local f values) tapes sound (ready-local n f (xs ++ ys) values tapes ready) none
opened-before (Joined p n u v ∷ xs) ys values tapes sound ready none =
    let j = gate_joint u v values (drawn p n tapes) in
    ap (λ w. p.opened n j ++ w)
    (opened-before xs ys (after p n u v values (drawn p n tapes)) (left p n tapes) sound.1 (ready-next p n u v (xs ++ ys) values tapes ready sound.0) none)
