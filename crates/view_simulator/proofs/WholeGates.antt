-- A whole gate: each miner's part takes all that the rows of its blocks bring.
use Rattle.std.proofs.Common.{◌≡◌, ℕ, ◌≤◌, List, [], ◌∷◌, ◌++◌, length, take, drop, refl, sym, ◌∙◌, ap, subst}
use Rattle.std.specs.Prelude.{Option}
use Rattle.std.proofs.lemmas.List.{length-take-le}
use Rattle.proto_core.specs.declared.party.Number.{Number}
use Rattle.proto_core.specs.Parties.{from_previous, from_next}
use Rattle.proto_core.specs.Strand.{Mail, Strand, run}
use Rattle.proto_core.specs.Net.{into, mail_of}
use Rattle.proto_core.specs.Protocol.{Protocol}
use Rattle.proto_core.proofs.Beginnings.{append-none}
use Rattle.proto_core.proofs.Nodes.{into-is, mail-previous, mail-next, mail-none}
use Rattle.protocol_model.specs.Gates.{Joined, Local, nth_value, operand, sizes_of, needed, gates_strand}
use Rattle.protocol_model.specs.Gates as model
use Rattle.protocol_model.specs.Runs.{Tapes, drawn}
use Rattle.protocol_model.specs.Views.{blocks_at_end, made_messages, made_values}
use Rattle.protocol_model.proofs.Sizes.{sizes-append}
use Rattle.protocol_model.proofs.GateRuns.{into-nothing}
use Rattle.gates.specs.Blocks.{block_sizes}
use Rattle.blocked_protocol.specs.Blocked.{total, joined, blocked, blocks_strand, blocks_received}
use Rattle.blocked_protocol.proofs.Fitting.{front-length, behind-length}
use Rattle.blocked_protocol.proofs.Sizes.{block_sizes-cut}
use Rattle.gate_exchanges.specs.declared.exchange.Exchange.{Exchange}
use Rattle.joint_run.specs.Exchanges.{protocol_of}
use Rattle.gate_exchanges.proofs.Blockables.{blockable-of}
use Rattle.view_simulator.specs.Simulators.{EndsOn}
use Rattle.view_simulator.proofs.Taking.{TakesAll, takes-both, takes-map, ends-map, ends-at, into-added}
use Rattle.gate_node.proofs.Always.{HaveSizes, gate-sized}
use Rattle.view_simulator.proofs.Turns.{always-run}
use Rattle.view_simulator.proofs.Acceptance.{AreDrawn, block-takes, any-second}

module _ (e : Exchange) where
  abbrev p : Protocol
  p = protocol_of e

  -- ---- block after block

  pub blocks-take :
      (sizes : List ℕ) (i : Number) (u v : List ℕ) (w : Number → List ℕ) (opened : List ℕ) → AreDrawn p (total sizes) w →
      TakesAll (blocks_strand p sizes i u v (w i)) (into i (blocks_received p sizes i u v w opened))
  blocks-take [] i u v w opened drawn = record { ended = tt; unread = into-nothing i }
  blocks-take (m ∷ sizes) i u v w opened drawn =
      let here : Number → List ℕ = λ k. take (p.draws m k) (w k) in
      let later : Number → List ℕ = λ k. drop (p.draws m k) (w k) in
      let first : Mail = p.received m i (take m u) (take (p.second m) v) here (take (p.opens m) opened) in
      let rest : Mail = blocks_received p sizes i (drop m u) (drop (p.second m) v) later (drop (p.opens m) opened) in
      subst (λ x. TakesAll (blocks_strand p (m ∷ sizes) i u v (w i)) x) (sym (into-added i first rest))
      (takes-both (p.strand m i (take m u) (take (p.second m) v) (here i)) _ (into i first) (into i rest)
      (block-takes e m i (take m u) (take (p.second m) v) here (take (p.opens m) opened)
      (λ k. front-length (λ n. p.draws n k) ((blockable-of e).draws k) m (total sizes) (w k) (drawn k)))
      (λ made.
      takes-map (blocks_strand p sizes i (drop m u) (drop (p.second m) v) (later i)) (λ more. joined made more) (into i rest)
      (blocks-take sizes i (drop m u) (drop (p.second m) v) later (drop (p.opens m) opened)
      (λ k. behind-length (λ n. p.draws n k) ((blockable-of e).draws k) m (total sizes) (w k) (drawn k)))))

  pub blocks-any_second :
      (sizes : List ℕ) (i : Number) (u v v2 : List ℕ) (w : Number → List ℕ) (opened : List ℕ) →
      blocks_received p sizes i u v w opened ≡ blocks_received p sizes i u v2 w opened
  blocks-any_second [] i u v v2 w opened = refl
  blocks-any_second (m ∷ sizes) i u v v2 w opened =
      let here : Number → List ℕ = λ k. take (p.draws m k) (w k) in
      let later : Number → List ℕ = λ k. drop (p.draws m k) (w k) in
      λ d. λ l.
      any-second e m i (take m u) (take (p.second m) v) (take (p.second m) v2) here (take (p.opens m) opened) d l
      ++ blocks-any_second sizes i (drop m u) (drop (p.second m) v) (drop (p.second m) v2) later (drop (p.opens m) opened) d l

-- ---- the gate

-- the mail of a miner's two links
abbrev pub on_both : Number → Mail → Mail
on_both i mail = mail_of i (mail (from_previous i)) (mail (from_next i))

on-both-into : (i : Number) (mail : Mail) → on_both i (λ l. into i mail l ++ []) ≡ into i mail
on-both-into i mail =
    ap (λ x. mail_of i x (into i mail (from_next i) ++ [])) (append-none (into i mail (from_previous i)))
    ∙ ap (λ x. mail_of i (into i mail (from_previous i)) x) (append-none (into i mail (from_next i)))
    ∙ ap (λ x. on_both i x) (into-is i mail)
    ∙ ap (λ x. mail_of i x (on_both i mail (from_next i))) (mail-previous i (mail (from_previous i)) (mail (from_next i)))
    ∙ ap (λ x. mail_of i (mail (from_previous i)) x) (mail-next i (mail (from_previous i)) (mail (from_next i)))
    ∙ sym (into-is i mail)

module _ (i : Number) (own : List (List ℕ)) (opened : List ℕ) (tapes : Tapes) where
  abbrev EndsAs : model.Gate → Type 0
  EndsAs g =
      EndsOn (gates_strand i (g ∷ []) own (tapes i)) (on_both i (made_messages i (g ∷ []) own opened tapes)) (made_values i (g ∷ []) own opened tapes)

  module _ (e : Exchange) (n u : ℕ) (v : Option ℕ) (reach : (k : Number) → (protocol_of e).draws n k ≤ length (tapes k)) where
    abbrev whole : Protocol
    whole = blocked (protocol_of e)

    abbrev words : Tapes
    words = drawn whole n tapes

    abbrev strand : Strand (List (List ℕ))
    strand = whole.strand n i (nth_value own u) (operand own v) (words i)

    abbrev mail : Mail
    mail = whole.received n i (nth_value own u) (operand own v) words (take (whole.opens n) opened)

    joined-takes : TakesAll strand (into i mail)
    joined-takes =
        let all : (k : Number) → length (words k) ≡ (protocol_of e).draws (total (block_sizes n)) k =
        λ k. length-take-le (whole.draws n k) (tapes k) (reach k) ∙ ap (λ m. whole.draws m k) (sym (block_sizes-cut n)) in
        blocks-take e (block_sizes n) i (nth_value own u) (operand own v) words (take (whole.opens n) opened) all

    pub joined-ends : EndsAs (Joined whole n u v)
    joined-ends =
        subst (λ x. EndsOn (gates_strand i (Joined whole n u v ∷ []) own (tapes i)) x (made_values i (Joined whole n u v ∷ []) own opened tapes))
        (sym (on-both-into i mail))
        (ends-map strand (λ made. own ++ made) (into i mail) _ (ends-at strand (into i mail) joined-takes))

    pub joined-makes : sizes_of (made_values i (Joined whole n u v ∷ []) own opened tapes) ≡ sizes_of own ++ (protocol_of e).made n
    joined-makes =
        let made : List (List ℕ) = blocks_at_end (run strand (into i mail)).left in
        sizes-append own made
        ∙ ap (λ s. sizes_of own ++ s)
        (always-run (HaveSizes ((protocol_of e).made n)) strand (into i mail) made (gate-sized e n i (nth_value own u) (operand own v) (words i))
        (ends-at strand (into i mail) joined-takes).left)

  pub local-ends : (n : ℕ) (f : Number → List (List ℕ) → List ℕ) → EndsAs (Local n f)
  local-ends n f = record { left = refl; unread = mail-none i }
