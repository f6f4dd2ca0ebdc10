-- A miner's own tape is kept, and what it receives is made of the mapped tapes.
use Rattle.std.proofs.Common.{◌≡◌, ℕ, Bool, true, false, if◌then◌else◌, List, [], ◌∷◌, ◌++◌, take, drop, refl, sym, ◌∙◌, ap, subst}
use Rattle.std.specs.Prelude.{Option}
use Rattle.std.proofs.lemmas.List.{take-append-drop}
use Rattle.proto_core.specs.declared.party.Number.{Number}
use Rattle.proto_core.specs.declared.link.Link.{Link}
use Rattle.proto_core.specs.Parties.{receiver_of, is_same}
use Rattle.proto_core.specs.Strand.{Mail, run}
use Rattle.proto_core.specs.Net.{into}
use Rattle.proto_core.specs.Protocol.{Joint, Protocol, Fits, Sound, Private, strands_of}
use Rattle.proto_core.proofs.MessageFields.{take-front, drop-front}
use Rattle.proto_core.proofs.Numbers.{same_is, same_itself}
use Rattle.protocol_model.specs.Gates.{Gate, Joined, Local, nth_value, operand, AreSound, ArePrivate}
use Rattle.protocol_model.specs.Runs.{Shares, Tapes, drawn, left, gate_joint, after, after_local, run_messages, run_opened, Ready}
use Rattle.protocol_model.specs.Views.{to_view, made_mail, made_blocks, blocks_at_end, made_messages, made_values, MadeBy}
use Rattle.protocol_model.proofs.Sizes.{block-fits, ready-next, ready-local}
use Rattle.protocol_model.proofs.Walks.{same_tapes}

-- ---- the miner's own tape is kept

pub to_view-own :
    (i : Number) (gates : List Gate) (values : Shares) (tapes : Tapes) → AreSound gates → ArePrivate gates → Ready gates values tapes →
    to_view i gates values tapes i ≡ tapes i
to_view-own i [] values tapes sound private ready = refl
to_view-own i (Local n f ∷ gates) values tapes sound private ready =
    to_view-own i gates (after_local f values) tapes sound private (ready-local n f gates values tapes ready)
to_view-own i (Joined p n u v ∷ gates) values tapes sound private ready =
    let j = gate_joint u v values (drawn p n tapes) in
    let next = after p n u v values (drawn p n tapes) in
    ap (λ w. w ++ to_view i gates next (left p n tapes) i) (private.0.own n i j (block-fits p n u v gates values tapes ready))
    ∙ ap (λ w. drawn p n tapes i ++ w) (to_view-own i gates next (left p n tapes) sound.1 private.1 (ready-next p n u v gates values tapes ready sound.0))
    ∙ take-append-drop (p.draws n i) (tapes i)

-- ---- what a miner receives

into-own : (i : Number) (mail : Mail) (l : Link) → receiver_of l ≡ i → into i mail l ≡ mail l
into-own i mail l h = subst (λ k. into k mail l ≡ mail l) h (at_link l)
  where
    at_link : (l : Link) → into (receiver_of l) mail l ≡ mail l
    at_link l = ap (λ b. if b then mail l else []) (same_itself (receiver_of l))

same_into : (i : Number) (x y : Mail) → ((l : Link) → receiver_of l ≡ i → x l ≡ y l) → into i x ≡ into i y
same_into i x y h = λ d. λ l. at_link l (is_same (receiver_of l) i) refl d
  where
    at_link : (l : Link) (b : Bool) → is_same (receiver_of l) i ≡ b → into i x l ≡ into i y l
    at_link l true e = ap (λ b. if b then x l else []) e ∙ h l (same_is (receiver_of l) i e) ∙ sym (ap (λ b. if b then y l else []) e)
    at_link l false e = ap (λ b. if b then x l else []) e ∙ sym (ap (λ b. if b then y l else []) e)

-- a block, made of the miner's own shares, the opened words and the mapped ones
module _ (i : Number) (p : Protocol) (n u : ℕ) (v : Option ℕ) (values : Shares) (words : Tapes) (later : List ℕ) (sound : Sound p)
    (private : Private p) (fits : Fits p n (gate_joint u v values words)) where
  abbrev j : Joint
  j = gate_joint u v values words

  abbrev opened : List ℕ
  opened = p.opened n j ++ later

  abbrev made : Mail
  made = p.received n i (nth_value (values i) u) (operand (values i) v) (p.tape n i j) (take (p.opens n) opened)

  made-opened : take (p.opens n) opened ≡ p.opened n j
  made-opened = take-front (p.opens n) (p.opened n j) later (sound.opens n j fits)

  made-seen : (l : Link) → receiver_of l ≡ i → p.messages n j l ≡ made l
  made-seen l h =
      private.seen n i j fits l h
      ∙ sym (ap (λ o. p.received n i (nth_value (values i) u) (operand (values i) v) (p.tape n i j) o l) made-opened)

  made-mail : into i (p.messages n j) ≡ into i made
  made-mail = same_into i (p.messages n j) made made-seen

  made-blocks :
      blocks_at_end (run (p.strand n i (nth_value (values i) u) (operand (values i) v) (p.tape n i j i)) (into i made)).left ≡ p.output n j i
  made-blocks =
      ap (λ w. blocks_at_end (run (p.strand n i (nth_value (values i) u) (operand (values i) v) w) (into i made)).left) (private.own n i j fits)
      ∙ ap (λ m. blocks_at_end (run (strands_of p n j i) m).left) (sym made-mail)
      ∙ ap blocks_at_end ((sound.finishes n j fits).ended i)

pub run-made :
    (i : Number) (gates : List Gate) (values : Shares) (tapes : Tapes) → AreSound gates → ArePrivate gates → Ready gates values tapes →
    MadeBy i gates values tapes
run-made i [] values tapes sound private ready = record { messages = λ l h. refl; shares = refl }
run-made i (Local n f ∷ gates) values tapes sound private ready =
    let rest = run-made i gates (after_local f values) tapes sound private (ready-local n f gates values tapes ready) in
    record { messages = λ l h. rest.messages l h; shares = rest.shares }
run-made i (Joined p n u v ∷ gates) values tapes sound private ready =
    let j = gate_joint u v values (drawn p n tapes) in
    let fits : Fits p n j = block-fits p n u v gates values tapes ready in
    let next = after p n u v values (drawn p n tapes) in
    let mapped : Tapes = λ m. p.tape n i j m in
    let later : Tapes = to_view i gates next (left p n tapes) in
    let whole : Tapes = to_view i (Joined p n u v ∷ gates) values tapes in
    let front : drawn p n whole ≡ mapped = same_tapes _ _ (λ m. take-front _ (mapped m) (later m) ((private.0.kept n i j fits).words m)) in
    let rest : left p n whole ≡ later = same_tapes _ _ (λ m. drop-front _ (mapped m) (later m) ((private.0.kept n i j fits).words m)) in
    let opened_later = run_opened gates next (left p n tapes) in
    let opened_all : List ℕ = p.opened n j ++ opened_later in
    let o : drop (p.opens n) opened_all ≡ opened_later = drop-front (p.opens n) (p.opened n j) opened_later (sound.0.opens n j fits) in
    let blocks : made_blocks i p n u v (values i) opened_all whole ≡ p.output n j i =
    ap (λ w. blocks_at_end (run (p.strand n i (nth_value (values i) u) (operand (values i) v) (w i))
    (into i (p.received n i (nth_value (values i) u) (operand (values i) v) w (take (p.opens n) opened_all)))).left) front
    ∙ made-blocks i p n u v values (drawn p n tapes) opened_later sound.0 private.0 fits in
    let mail : Mail = p.received n i (nth_value (values i) u) (operand (values i) v) mapped (take (p.opens n) opened_all) in
    let hyp = run-made i gates next (left p n tapes) sound.1 private.1 (ready-next p n u v gates values tapes ready sound.0) in
    record {
      messages = λ l h.
          ap (λ m. m ++ run_messages gates next (left p n tapes) l)
          (made-seen i p n u v values (drawn p n tapes) opened_later sound.0 private.0 fits l h
          ∙ sym (into-own i mail l h)
          ∙ ap (λ w. into i (p.received n i (nth_value (values i) u) (operand (values i) v) w (take (p.opens n) opened_all)) l) (sym front))
          ∙ ap (λ m. made_mail i p n u v (values i) opened_all whole l ++ m)
          (hyp.messages l h
          ∙ ap (λ b. made_messages i gates (values i ++ b) opened_later later l) (sym blocks)
          ∙ ap (λ w. made_messages i gates (values i ++ made_blocks i p n u v (values i) opened_all whole) w later l) (sym o)
          ∙ ap (λ w. made_messages i gates (values i ++ made_blocks i p n u v (values i) opened_all whole) (drop (p.opens n) opened_all) w l) (sym rest));
      shares =
          hyp.shares
          ∙ ap (λ b. made_values i gates (values i ++ b) opened_later later) (sym blocks)
          ∙ ap (λ w. made_values i gates (values i ++ made_blocks i p n u v (values i) opened_all whole) w later) (sym o)
          ∙ ap (λ w. made_values i gates (values i ++ made_blocks i p n u v (values i) opened_all whole) (drop (p.opens n) opened_all) w) (sym rest);
    }
