-- The walk over gates whose rows correspond one to one, whoever it is that looks: lengths, words, there and back, back and there.
use Rattle.std.proofs.Common.{◌≡◌, ℕ, ◌+◌, ◌≤◌, List, [], ◌∷◌, ◌++◌, length, drop, refl, ◌∙◌, ap}
use Rattle.std.proofs.Common.{arith, length-append}
use Rattle.std.specs.Prelude.{Option}
use Rattle.std.proofs.lemmas.List.{length-drop, take-append-drop}
use Rattle.proto_core.specs.declared.party.Number.{Number}
use Rattle.proto_core.specs.Lists.{AreWords}
use Rattle.proto_core.specs.Protocol.{Joint, Protocol, Fits, Sound, with_words}
use Rattle.proto_core.proofs.Parts.{AreWords-append}
use Rattle.proto_core.proofs.MessageFields.{take-front, drop-front}
use Rattle.protocol_model.specs.Gates.{Gate, Joined, Local, AreSound, ArePrivate, needed}
use Rattle.protocol_model.specs.Runs.{Shares, Tapes, drawn, left, gate_joint, after, after_local, Ready}
use Rattle.protocol_model.specs.Views.{to_view, found, from_view}
use Rattle.protocol_model.proofs.Sizes.{block-fits, ready-after, ready-next, ready-local}

-- ---- ROWS THAT CORRESPOND

-- the rows keep lengths and words, and have an inverse on both sides: what a private protocol has of each miner, and no more of it
pub record Corresponds (i : Number) (p : Protocol) : Type 0 where
  pub kept : (n : ℕ) (j : Joint) → Fits p n j → Fits p n (with_words j (p.tape n i j))
  pub back_kept : (n : ℕ) (j : Joint) → Fits p n j → Fits p n (with_words j (p.back n i j))
  pub back_tape : (n : ℕ) (j : Joint) → Fits p n j → (m : Number) → p.back n i (with_words j (p.tape n i j)) m ≡ j.words m
  pub tape_back : (n : ℕ) (j : Joint) → Fits p n j → (m : Number) → p.tape n i (with_words j (p.back n i j)) m ≡ j.words m

abbrev pub AllCorrespond : Number → List Gate → Type 0
AllCorrespond i [] = Unit {0}
AllCorrespond i (Joined p n u v ∷ gates) = Corresponds i p × AllCorrespond i gates
AllCorrespond i (Local n f ∷ gates) = AllCorrespond i gates

-- so have the rows of private protocols, for each miner
pub private-correspond : (i : Number) (gates : List Gate) → ArePrivate gates → AllCorrespond i gates
private-correspond i [] private = tt
private-correspond i (Local n f ∷ gates) private = private-correspond i gates private
private-correspond i (Joined p n u v ∷ gates) private = (
  record {
    kept = λ n j fits. private.0.kept n i j fits;
    back_kept = λ n j fits. private.0.back_kept n i j fits;
    back_tape = λ n j fits m. private.0.back_tape n i j fits m;
    tape_back = λ n j fits m. private.0.tape_back n i j fits m;
  },
  private-correspond i gates private.1,
)

pub same_tapes : (t s : Tapes) → ((m : Number) → t m ≡ s m) → t ≡ s
same_tapes t s h = λ k. λ m. h m k

-- a block's words and the tape after them, where the block's words were changed and their number kept
front-length :
    (p : Protocol) (n : ℕ) (gates : List Gate) (tapes : Tapes) (m : Number) (words later : List ℕ) →
    p.draws n m + needed gates m ≤ length (tapes m) → length words ≡ p.draws n m → length later ≡ length (drop (p.draws n m) (tapes m)) →
    length (words ++ later) ≡ length (tapes m)
front-length p n gates tapes m words later reach here rest =
    let l = length-append words later in
    let d = length-drop (p.draws n m) (tapes m) in
    omega arith

-- ---- lengths and words

pub to_view-length :
    (i : Number) (gates : List Gate) (values : Shares) (tapes : Tapes) → AreSound gates → AllCorrespond i gates → Ready gates values tapes →
    (m : Number) → length (to_view i gates values tapes m) ≡ length (tapes m)
to_view-length i [] values tapes sound rows ready m = refl
to_view-length i (Local n f ∷ gates) values tapes sound rows ready m =
    to_view-length i gates (after_local f values) tapes sound rows (ready-local n f gates values tapes ready) m
to_view-length i (Joined p n u v ∷ gates) values tapes sound rows ready m =
    let j = gate_joint u v values (drawn p n tapes) in
    front-length p n gates tapes m (p.tape n i j m) _ (ready.tapes_reach m)
    ((rows.0.kept n j (block-fits p n u v gates values tapes ready)).words m)
    (to_view-length i gates (after p n u v values (drawn p n tapes)) (left p n tapes) sound.1 rows.1 (ready-next p n u v gates values tapes ready sound.0) m)

pub to_view-words :
    (i : Number) (gates : List Gate) (values : Shares) (tapes : Tapes) → AreSound gates → AllCorrespond i gates → Ready gates values tapes →
    (m : Number) → AreWords (to_view i gates values tapes m)
to_view-words i [] values tapes sound rows ready m = ready.tapes_are_words m
to_view-words i (Local n f ∷ gates) values tapes sound rows ready m =
    to_view-words i gates (after_local f values) tapes sound rows (ready-local n f gates values tapes ready) m
to_view-words i (Joined p n u v ∷ gates) values tapes sound rows ready m =
    let j = gate_joint u v values (drawn p n tapes) in
    AreWords-append (p.tape n i j m) _
    ((rows.0.kept n j (block-fits p n u v gates values tapes ready)).are_words m)
    (to_view-words i gates (after p n u v values (drawn p n tapes)) (left p n tapes) sound.1 rows.1 (ready-next p n u v gates values tapes ready sound.0) m)

-- ---- there and back

pub from-to_view :
    (i : Number) (gates : List Gate) (values : Shares) (tapes : Tapes) → AreSound gates → AllCorrespond i gates → Ready gates values tapes →
    from_view i gates values (to_view i gates values tapes) ≡ tapes
from-to_view i [] values tapes sound rows ready = refl
from-to_view i (Local n f ∷ gates) values tapes sound rows ready =
    from-to_view i gates (after_local f values) tapes sound rows (ready-local n f gates values tapes ready)
from-to_view i (Joined p n u v ∷ gates) values tapes sound rows ready =
    let j = gate_joint u v values (drawn p n tapes) in
    let fits : Fits p n j = block-fits p n u v gates values tapes ready in
    let next = after p n u v values (drawn p n tapes) in
    let mapped : Tapes = λ m. p.tape n i j m in
    let later : Tapes = to_view i gates next (left p n tapes) in
    let whole : Tapes = to_view i (Joined p n u v ∷ gates) values tapes in
    let front : drawn p n whole ≡ mapped = same_tapes _ _ (λ m. take-front _ (mapped m) (later m) ((rows.0.kept n j fits).words m)) in
    let rest : left p n whole ≡ later = same_tapes _ _ (λ m. drop-front _ (mapped m) (later m) ((rows.0.kept n j fits).words m)) in
    let words : found i p n u v values whole ≡ drawn p n tapes =
    same_tapes _ _ (λ m. ap (λ w. p.back n i (gate_joint u v values w) m) front ∙ rows.0.back_tape n j fits m) in
    same_tapes _ _
    (λ m.
    ap (λ w. w m ++ from_view i gates (after p n u v values w) (left p n whole) m) words
    ∙ ap (λ l. drawn p n tapes m ++ from_view i gates next l m) rest
    ∙ ap (λ l. drawn p n tapes m ++ l m) (from-to_view i gates next (left p n tapes) sound.1 rows.1 (ready-next p n u v gates values tapes ready sound.0))
    ∙ take-append-drop (p.draws n m) (tapes m))

-- the block of the words that mapped ones come from
found-ready :
    (i : Number) (p : Protocol) (n u : ℕ) (v : Option ℕ) (gates : List Gate) (values : Shares) (mapped : Tapes) → Sound p → Corresponds i p →
    Ready (Joined p n u v ∷ gates) values mapped →
    Ready gates (after p n u v values (found i p n u v values mapped)) (left p n mapped)
found-ready i p n u v gates values mapped sound rows ready =
    let j = gate_joint u v values (drawn p n mapped) in
    let fits : Fits p n j = block-fits p n u v gates values mapped ready in
    ready-after p n u v gates values mapped ready (found i p n u v values mapped)
    (λ m. sound.blocks n (with_words j (p.back n i j)) (rows.back_kept n j fits) m)

pub to-from_view :
    (i : Number) (gates : List Gate) (values : Shares) (mapped : Tapes) → AreSound gates → AllCorrespond i gates → Ready gates values mapped →
    to_view i gates values (from_view i gates values mapped) ≡ mapped
to-from_view i [] values mapped sound rows ready = refl
to-from_view i (Local n f ∷ gates) values mapped sound rows ready =
    to-from_view i gates (after_local f values) mapped sound rows (ready-local n f gates values mapped ready)
to-from_view i (Joined p n u v ∷ gates) values mapped sound rows ready =
    let j = gate_joint u v values (drawn p n mapped) in
    let fits : Fits p n j = block-fits p n u v gates values mapped ready in
    let real : Tapes = found i p n u v values mapped in
    let next = after p n u v values real in
    let later : Tapes = from_view i gates next (left p n mapped) in
    let whole : Tapes = from_view i (Joined p n u v ∷ gates) values mapped in
    let front : drawn p n whole ≡ real = same_tapes _ _ (λ m. take-front _ (real m) (later m) ((rows.0.back_kept n j fits).words m)) in
    let rest : left p n whole ≡ later = same_tapes _ _ (λ m. drop-front _ (real m) (later m) ((rows.0.back_kept n j fits).words m)) in
    same_tapes _ _
    (λ m.
    ap (λ w. p.tape n i (gate_joint u v values w) m ++ to_view i gates (after p n u v values w) (left p n whole) m) front
    ∙ ap (λ l. p.tape n i (gate_joint u v values real) m ++ to_view i gates next l m) rest
    ∙ ap (λ l. p.tape n i (gate_joint u v values real) m ++ l m)
    (to-from_view i gates next (left p n mapped) sound.1 rows.1 (found-ready i p n u v gates values mapped sound.0 rows.0 ready))
    ∙ ap (λ w. w ++ left p n mapped m) (rows.0.tape_back n j fits m)
    ∙ take-append-drop (p.draws n m) (mapped m))

pub from_view-length :
    (i : Number) (gates : List Gate) (values : Shares) (mapped : Tapes) → AreSound gates → AllCorrespond i gates → Ready gates values mapped →
    (m : Number) → length (from_view i gates values mapped m) ≡ length (mapped m)
from_view-length i [] values mapped sound rows ready m = refl
from_view-length i (Local n f ∷ gates) values mapped sound rows ready m =
    from_view-length i gates (after_local f values) mapped sound rows (ready-local n f gates values mapped ready) m
from_view-length i (Joined p n u v ∷ gates) values mapped sound rows ready m =
    let j = gate_joint u v values (drawn p n mapped) in
    front-length p n gates mapped m (p.back n i j m) _ (ready.tapes_reach m)
    ((rows.0.back_kept n j (block-fits p n u v gates values mapped ready)).words m)
    (from_view-length i gates (after p n u v values (found i p n u v values mapped)) (left p n mapped) sound.1 rows.1
    (found-ready i p n u v gates values mapped sound.0 rows.0 ready) m)

pub from_view-words :
    (i : Number) (gates : List Gate) (values : Shares) (mapped : Tapes) → AreSound gates → AllCorrespond i gates → Ready gates values mapped →
    (m : Number) → AreWords (from_view i gates values mapped m)
from_view-words i [] values mapped sound rows ready m = ready.tapes_are_words m
from_view-words i (Local n f ∷ gates) values mapped sound rows ready m =
    from_view-words i gates (after_local f values) mapped sound rows (ready-local n f gates values mapped ready) m
from_view-words i (Joined p n u v ∷ gates) values mapped sound rows ready m =
    let j = gate_joint u v values (drawn p n mapped) in
    AreWords-append (p.back n i j m) _
    ((rows.0.back_kept n j (block-fits p n u v gates values mapped ready)).are_words m)
    (from_view-words i gates (after p n u v values (found i p n u v values mapped)) (left p n mapped) sound.1 rows.1
    (found-ready i p n u v gates values mapped sound.0 rows.0 ready) m)
