-- Three miners that run a protocol block after block do what the joint equations of the blocks say.
use Rattle.std.proofs.Common.{◌≡◌, ℕ, ◌+◌, true, false, if◌then◌else◌, List, [], ◌∷◌, ◌++◌, length, take, drop, map, refl, sym, ◌∙◌, ap, subst, length-append}
use Rattle.proto_core.specs.declared.party.Number.{Number}
use Rattle.proto_core.specs.declared.link.Link.{Link}
use Rattle.proto_core.specs.Parties.{sender_of, receiver_of}
use Rattle.proto_core.specs.Strand.{Shape, same_link, Mail, Strand, Ends, then_do, opened_in}
use Rattle.proto_core.specs.Script.{Move, Sends, Takes, Moves, EndsWith, Matched, UsesOwnLinks, sends_on, takes_on}
use Rattle.proto_core.specs.Net.{added, nothing, run_of, opened_by, Finishes}
use Rattle.proto_core.specs.Protocol.{Joint, Protocol, Fits, Sound, strands_of, AreMessages, AreBlocks}
use Rattle.proto_core.proofs.Beginnings.{append-none}
use Rattle.proto_core.proofs.Strands.{opened-append}
use Rattle.proto_core.proofs.Nets.{finishes-both, run-both}
use Rattle.protocol_model.proofs.Scripts.{moves-then}
use Rattle.protocol_model.proofs.GateRuns.{into-nothing, sends_on-append}
use Rattle.protocol_model.proofs.Slots.{ends_then}
use Rattle.blocked_protocol.specs.Blocked.{total, joined, no_elements, front, behind, blocks_strand, blocks_script, blocks_messages, blocks_output}
use Rattle.blocked_protocol.specs.Blocked.{blocks_opened, in_blocks, IsCut, sums, Blockable}
use Rattle.blocked_protocol.proofs.Fitting.{itself, front-length, behind-length, fits-front, fits-behind, fits-whole, sizes-joined, sizes-none}
use Rattle.blocked_protocol.proofs.Fitting.{blocks-joined, blocks-none}

-- ---- scripts one after another

takes_on-append : (l : Link) (xs ys : List Move) → takes_on l (xs ++ ys) ≡ takes_on l xs ++ takes_on l ys
takes_on-append l [] ys = refl
takes_on-append l (Sends k shape ∷ xs) ys = takes_on-append l xs ys
takes_on-append l (Takes k shape ∷ xs) ys =
    elim (same_link l k) as (λ b. (if b then shape ∷ takes_on l (xs ++ ys) else takes_on l (xs ++ ys))
    ≡ (if b then shape ∷ takes_on l xs else takes_on l xs) ++ takes_on l ys)
    [ true ↦ ap (λ v. shape ∷ v) (takes_on-append l xs ys) | false ↦ takes_on-append l xs ys ]

links-append : (i : Number) (xs ys : List Move) → UsesOwnLinks i xs → UsesOwnLinks i ys → UsesOwnLinks i (xs ++ ys)
links-append i [] ys h k = k
links-append i (Sends l shape ∷ xs) ys h k = (h.0, links-append i xs ys h.1 k)
links-append i (Takes l shape ∷ xs) ys h k = (h.0, links-append i xs ys h.1 k)

messages-append :
    (s t : List Shape) (xs ys : List (List ℕ)) → AreMessages s xs → AreMessages t ys → AreMessages (s ++ t) (xs ++ ys)
messages-append [] t [] ys h k = k
messages-append [] t (x ∷ xs) ys h k = absurd h
messages-append (shape ∷ s) t [] ys h k = absurd h
messages-append (shape ∷ s) t (x ∷ xs) ys h k = (h.0, messages-append s t xs ys h.1 k)

-- ---- strands one after another

-- where nothing is left to do
at_end : {B : Type 0} (outputs : Number → B) → Finishes (λ i. Ends (outputs i)) nothing outputs
at_end outputs = record { sent = λ l. refl; ended = λ i. refl; read = λ i. into-nothing i; count = 0; all = λ l. tt }

-- something is made of what each miner ends with
module _ {A B : Type 0} (nodes : Number → Strand A) (f : Number → A → B) (full : Mail) (outputs : Number → A) (done : Finishes nodes full outputs) where
  abbrev changed : Number → Strand B
  changed i = then_do (nodes i) (λ a. Ends (f i a))

  added-nothing : added full nothing ≡ full
  added-nothing = λ d. λ l. append-none (full l) d

  finishes-changed : Finishes changed full (λ i. f i (outputs i))
  finishes-changed =
      subst (λ mail. Finishes changed mail (λ i. f i (outputs i))) added-nothing
      (finishes-both nodes (λ i a. Ends (f i a)) full outputs done nothing (λ i. f i (outputs i)) (at_end (λ i. f i (outputs i))))

  opened-changed : (i : Number) → opened_by changed full i ≡ opened_by nodes full i
  opened-changed i =
      ap (λ mail. opened_by changed mail i) (sym added-nothing)
      ∙ ap (λ r. opened_in r.acts) (run-both nodes (λ i a. Ends (f i a)) full outputs done nothing i)
      ∙ opened-append (run_of nodes full i).acts []
      ∙ append-none (opened_by nodes full i)

-- ---- the blocks of a gate

module _ (p : Protocol) (blockable : Blockable p) (sound : Sound p) where
  blocks-matched : (sizes : List ℕ) → Matched (blocks_script p sizes)
  blocks-matched [] l = refl
  blocks-matched (m ∷ sizes) l =
      sends_on-append l (p.script m (sender_of l)) (blocks_script p sizes (sender_of l))
      ∙ ap (λ s. s ++ sends_on l (blocks_script p sizes (sender_of l))) (sound.matched m l)
      ∙ ap (λ s. takes_on l (p.script m (receiver_of l)) ++ s) (blocks-matched sizes l)
      ∙ sym (takes_on-append l (p.script m (receiver_of l)) (blocks_script p sizes (receiver_of l)))

  blocks-own_links : (sizes : List ℕ) (i : Number) → UsesOwnLinks i (blocks_script p sizes i)
  blocks-own_links [] i = tt
  blocks-own_links (m ∷ sizes) i =
      links-append i (p.script m i) (blocks_script p sizes i) (sound.own_links m i) (blocks-own_links sizes i)

  -- what a miner does after its first block
  abbrev goes_on : ℕ → List ℕ → Number → (u v words : List ℕ) → List (List ℕ) → Strand (List (List ℕ))
  goes_on m sizes i u v words here =
      then_do (blocks_strand p sizes i (drop m u) (drop (p.second m) v) (drop (p.draws m i) words))
      (λ later. Ends (joined here later))

  module _ (m : ℕ) (sizes : List ℕ) (i : Number) (u v words : List ℕ) (hu : length u ≡ m + total sizes) (hv : length v ≡ p.second (m + total sizes))
      (hw : length words ≡ p.draws (m + total sizes) i) where
    first-moves : Moves (p.strand m i (take m u) (take (p.second m) v) (take (p.draws m i) words)) (p.script m i)
    first-moves =
        sound.moves m i _ _ _ (front-length (λ k. k) itself m (total sizes) u hu)
        (front-length p.second blockable.second m (total sizes) v hv)
        (front-length (λ k. p.draws k i) (blockable.draws i) m (total sizes) words hw)

    first-sized :
        EndsWith (λ blocks. map length blocks ≡ p.made m) (p.strand m i (take m u) (take (p.second m) v) (take (p.draws m i) words))
    first-sized =
        sound.sizes m i _ _ _ (front-length (λ k. k) itself m (total sizes) u hu)
        (front-length p.second blockable.second m (total sizes) v hv)
        (front-length (λ k. p.draws k i) (blockable.draws i) m (total sizes) words hw)

    left_u : length (drop m u) ≡ total sizes
    left_u = behind-length (λ k. k) itself m (total sizes) u hu

    left_v : length (drop (p.second m) v) ≡ p.second (total sizes)
    left_v = behind-length p.second blockable.second m (total sizes) v hv

    left_words : length (drop (p.draws m i) words) ≡ p.draws (total sizes) i
    left_words = behind-length (λ k. p.draws k i) (blockable.draws i) m (total sizes) words hw

  blocks-sized :
      (sizes : List ℕ) (i : Number) (u v words : List ℕ) →
      length u ≡ total sizes → length v ≡ p.second (total sizes) → length words ≡ p.draws (total sizes) i →
      EndsWith (λ blocks. map length blocks ≡ p.made (total sizes)) (blocks_strand p sizes i u v words)
  blocks-sized [] i u v words hu hv hw = sizes-none (p.made 0) ∙ blockable.made_none
  blocks-sized (m ∷ sizes) i u v words hu hv hw =
      ends_then (λ here. map length here ≡ p.made m) (λ blocks. map length blocks ≡ p.made (m + total sizes))
      (p.strand m i (take m u) (take (p.second m) v) (take (p.draws m i) words)) (goes_on m sizes i u v words)
      (first-sized m sizes i u v words hu hv hw)
      (λ here e.
      ends_then (λ later. map length later ≡ p.made (total sizes)) (λ blocks. map length blocks ≡ p.made (m + total sizes))
      (blocks_strand p sizes i (drop m u) (drop (p.second m) v) (drop (p.draws m i) words)) (λ later. Ends (joined here later))
      (blocks-sized sizes i _ _ _ (left_u m sizes i u v words hu hv hw) (left_v m sizes i u v words hu hv hw) (left_words m sizes i u v words hu hv hw))
      (λ later f.
      sizes-joined here later
      ∙ ap (λ s. sums s (map length later)) e
      ∙ ap (λ s. sums (p.made m) s) f
      ∙ sym (blockable.made_more m (total sizes))))

  blocks-move :
      (sizes : List ℕ) (i : Number) (u v words : List ℕ) →
      length u ≡ total sizes → length v ≡ p.second (total sizes) → length words ≡ p.draws (total sizes) i →
      Moves (blocks_strand p sizes i u v words) (blocks_script p sizes i)
  blocks-move [] i u v words hu hv hw = tt
  blocks-move (m ∷ sizes) i u v words hu hv hw =
      let a = left_u m sizes i u v words hu hv hw in
      let b = left_v m sizes i u v words hu hv hw in
      let c = left_words m sizes i u v words hu hv hw in
      let rest : Strand (List (List ℕ)) = blocks_strand p sizes i (drop m u) (drop (p.second m) v) (drop (p.draws m i) words) in
      moves-then (λ here. map length here ≡ p.made m)
      (p.strand m i (take m u) (take (p.second m) v) (take (p.draws m i) words)) (goes_on m sizes i u v words)
      (p.script m i) (blocks_script p sizes i)
      (first-moves m sizes i u v words hu hv hw) (first-sized m sizes i u v words hu hv hw)
      (λ here e.
      subst (λ moves. Moves (goes_on m sizes i u v words here) moves) (append-none (blocks_script p sizes i))
      (moves-then (λ later. map length later ≡ p.made (total sizes)) rest (λ later. Ends (joined here later)) (blocks_script p sizes i) []
      (blocks-move sizes i _ _ _ a b c) (blocks-sized sizes i _ _ _ a b c) (λ later f. tt)))

  -- ---- all three together

  abbrev strands : List ℕ → Joint → Number → Strand (List (List ℕ))
  strands sizes j i = blocks_strand p sizes i (j.u i) (j.v i) (j.words i)

  abbrev next : ℕ → List ℕ → Joint → Number → List (List ℕ) → Strand (List (List ℕ))
  next m sizes j i here = goes_on m sizes i (j.u i) (j.v i) (j.words i) here

  blocks-finish : (sizes : List ℕ) (j : Joint) → Fits p (total sizes) j → Finishes (strands sizes j) (blocks_messages p sizes j) (blocks_output p sizes j)
  blocks-finish [] j fits = at_end (λ i. no_elements p)
  blocks-finish (m ∷ sizes) j fits =
      let first = front p m j in
      let rest = behind p m j in
      finishes-both (strands_of p m first) (next m sizes j) (p.messages m first) (p.output m first)
      (sound.finishes m first (fits-front p blockable m (total sizes) j fits))
      (blocks_messages p sizes rest) (λ i. joined (p.output m first i) (blocks_output p sizes rest i))
      (finishes-changed (strands sizes rest) (λ i later. joined (p.output m first i) later) (blocks_messages p sizes rest) (blocks_output p sizes rest)
      (blocks-finish sizes rest (fits-behind p blockable m (total sizes) j fits)))

  blocks-learn :
      (sizes : List ℕ) (j : Joint) → Fits p (total sizes) j → (i : Number) →
      opened_by (strands sizes j) (blocks_messages p sizes j) i ≡ blocks_opened p sizes j
  blocks-learn [] j fits i = refl
  blocks-learn (m ∷ sizes) j fits i =
      let first = front p m j in
      let rest = behind p m j in
      let here : Fits p m first = fits-front p blockable m (total sizes) j fits in
      let there : Fits p (total sizes) rest = fits-behind p blockable m (total sizes) j fits in
      let later = blocks_messages p sizes rest in
      let second : Number → Strand (List (List ℕ)) = λ k. next m sizes j k (p.output m first k) in
      ap (λ r. opened_in r.acts)
      (run-both (strands_of p m first) (next m sizes j) (p.messages m first) (p.output m first) (sound.finishes m first here) later i)
      ∙ opened-append (run_of (strands_of p m first) (p.messages m first) i).acts (run_of second later i).acts
      ∙ ap (λ w. w ++ opened_by second later i) (sound.opened m first here i)
      ∙ ap (λ w. p.opened m first ++ w)
      (opened-changed (strands sizes rest) (λ i later. joined (p.output m first i) later) later (blocks_output p sizes rest) (blocks-finish sizes rest there) i
      ∙ blocks-learn sizes rest there i)

  pub blocks-opens : (sizes : List ℕ) (j : Joint) → Fits p (total sizes) j → length (blocks_opened p sizes j) ≡ p.opens (total sizes)
  blocks-opens [] j fits = sym blockable.opens.none
  blocks-opens (m ∷ sizes) j fits =
      let first = front p m j in
      let rest = behind p m j in
      length-append (p.opened m first) (blocks_opened p sizes rest)
      ∙ ap (λ k. k + length (blocks_opened p sizes rest)) (sound.opens m first (fits-front p blockable m (total sizes) j fits))
      ∙ ap (λ k. p.opens m + k) (blocks-opens sizes rest (fits-behind p blockable m (total sizes) j fits))
      ∙ sym (blockable.opens.more m (total sizes))

  blocks-send :
      (sizes : List ℕ) (j : Joint) → Fits p (total sizes) j → (l : Link) →
      AreMessages (sends_on l (blocks_script p sizes (sender_of l))) (blocks_messages p sizes j l)
  blocks-send [] j fits l = tt
  blocks-send (m ∷ sizes) j fits l =
      let first = front p m j in
      let rest = behind p m j in
      subst (λ shapes. AreMessages shapes (blocks_messages p (m ∷ sizes) j l))
      (sym (sends_on-append l (p.script m (sender_of l)) (blocks_script p sizes (sender_of l))))
      (messages-append (sends_on l (p.script m (sender_of l))) (sends_on l (blocks_script p sizes (sender_of l)))
      (p.messages m first l) (blocks_messages p sizes rest l)
      (sound.messages m first (fits-front p blockable m (total sizes) j fits) l)
      (blocks-send sizes rest (fits-behind p blockable m (total sizes) j fits) l))

  pub blocks-made :
      (sizes : List ℕ) (j : Joint) → Fits p (total sizes) j → (i : Number) → AreBlocks (p.made (total sizes)) (blocks_output p sizes j i)
  blocks-made [] j fits i = blocks-none p blockable
  blocks-made (m ∷ sizes) j fits i =
      let first = front p m j in
      let rest = behind p m j in
      subst (λ made. AreBlocks made (blocks_output p (m ∷ sizes) j i)) (sym (blockable.made_more m (total sizes)))
      (blocks-joined (p.made m) (p.made (total sizes)) (p.output m first i) (blocks_output p sizes rest i)
      (sound.blocks m first (fits-front p blockable m (total sizes) j fits) i)
      (blocks-made sizes rest (fits-behind p blockable m (total sizes) j fits) i))

  -- ---- a whole gate

  pub in_blocks-sound : (cut : ℕ → List ℕ) → IsCut cut → Sound (in_blocks p cut)
  in_blocks-sound cut is_cut =
      record {
        matched = λ n. blocks-matched (cut n);
        own_links = λ n i. blocks-own_links (cut n) i;
        moves = λ n i u v words hu hv hw.
            blocks-move (cut n) i u v words (hu ∙ sym (is_cut n)) (hv ∙ ap p.second (sym (is_cut n))) (hw ∙ ap (λ k. p.draws k i) (sym (is_cut n)));
        sizes = λ n i u v words hu hv hw.
            subst (λ k. EndsWith (λ blocks. map length blocks ≡ p.made k) (blocks_strand p (cut n) i u v words)) (is_cut n)
            (blocks-sized (cut n) i u v words (hu ∙ sym (is_cut n)) (hv ∙ ap p.second (sym (is_cut n))) (hw ∙ ap (λ k. p.draws k i) (sym (is_cut n))));
        finishes = λ n j fits. blocks-finish (cut n) j (fits-whole p blockable cut is_cut n j fits);
        messages = λ n j fits l. blocks-send (cut n) j (fits-whole p blockable cut is_cut n j fits) l;
        blocks = λ n j fits i.
            subst (λ k. AreBlocks (p.made k) (blocks_output p (cut n) j i)) (is_cut n)
            (blocks-made (cut n) j (fits-whole p blockable cut is_cut n j fits) i);
        opened = λ n j fits i. blocks-learn (cut n) j (fits-whole p blockable cut is_cut n j fits) i;
        opens = λ n j fits. blocks-opens (cut n) j (fits-whole p blockable cut is_cut n j fits) ∙ ap p.opens (is_cut n);
      }
