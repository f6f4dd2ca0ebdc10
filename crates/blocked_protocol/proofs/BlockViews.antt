-- What a miner sees of a whole gate is made block by block.
use Rattle.std.proofs.Common.{◌≡◌, ℕ, ◌+◌, List, [], ◌∷◌, ◌++◌, length, take, drop, refl, sym, ◌∙◌, ap, length-append, take-append-drop}
use Rattle.proto_core.specs.declared.party.Number.{Number}
use Rattle.proto_core.specs.declared.link.Link.{Link}
use Rattle.proto_core.specs.Parties.{receiver_of}
use Rattle.proto_core.specs.Lists.{AreWords}
use Rattle.proto_core.specs.Protocol.{Joint, Protocol, Fits, Sound, Private, with_words}
use Rattle.proto_core.proofs.MessageFields.{take-front, drop-front}
use Rattle.proto_core.proofs.Parts.{AreWords-append}
use Rattle.protocol_model.proofs.Sizes.{past_end}
use Rattle.blocked_protocol.specs.Blocked.{total, front, behind, blocks_messages, blocks_opened, by_block, blocks_received, in_blocks, IsCut, Blockable}
use Rattle.blocked_protocol.proofs.Fitting.{fits-front, fits-behind, fits-whole, whole-fits, none-drawn}

pub same_words : (t s : Number → List ℕ) → ((k : Number) → t k ≡ s k) → t ≡ s
same_words t s h = λ d. λ k. h k d

-- a map of a block's words: of the miner whose view it is for, by all shares and words
abbrev BlockMap : Type 0
BlockMap = ℕ → Number → Joint → Number → List ℕ

module _ (p : Protocol) (blockable : Blockable p) where
  abbrev Keeps : BlockMap → Type 0
  Keeps f = (n : ℕ) (i : Number) (j : Joint) → Fits p n j → Fits p n (with_words j (f n i j))

  -- the words of each miner are as many as before
  module _ (f : BlockMap) (keeps : Keeps f) where
    mapped-length :
        (sizes : List ℕ) (i : Number) (j : Joint) → Fits p (total sizes) j → (k : Number) →
        length (by_block p f sizes i j k) ≡ p.draws (total sizes) k
    mapped-length [] i j fits k = sym (blockable.draws k).none
    mapped-length (m ∷ sizes) i j fits k =
        let first = front p m j in
        let rest = behind p m j in
        length-append (f m i first k) (by_block p f sizes i rest k)
        ∙ ap (λ l. l + length (by_block p f sizes i rest k)) ((keeps m i first (fits-front p blockable m (total sizes) j fits)).words k)
        ∙ ap (λ l. p.draws m k + l) (mapped-length sizes i rest (fits-behind p blockable m (total sizes) j fits) k)
        ∙ sym ((blockable.draws k).more m (total sizes))

    mapped-words :
        (sizes : List ℕ) (i : Number) (j : Joint) → Fits p (total sizes) j → (k : Number) → AreWords (by_block p f sizes i j k)
    mapped-words [] i j fits k = λ at. past_end at
    mapped-words (m ∷ sizes) i j fits k =
        let first = front p m j in
        let rest = behind p m j in
        AreWords-append (f m i first k) (by_block p f sizes i rest k)
        ((keeps m i first (fits-front p blockable m (total sizes) j fits)).are_words k)
        (mapped-words sizes i rest (fits-behind p blockable m (total sizes) j fits) k)

    mapped-fits :
        (sizes : List ℕ) (i : Number) (j : Joint) → Fits p (total sizes) j → Fits p (total sizes) (with_words j (by_block p f sizes i j))
    mapped-fits sizes i j fits =
        record { u = fits.u; v = fits.v; words = mapped-length sizes i j fits; are_words = mapped-words sizes i j fits }

    -- the words of the first block are that block's, mapped, and those after it the others'
    module _ (m : ℕ) (sizes : List ℕ) (i : Number) (j : Joint) (fits : Fits p (m + total sizes) j) where
      abbrev whole : Number → List ℕ
      whole = by_block p f (m ∷ sizes) i j

      mapped-front : (λ k. take (p.draws m k) (whole k)) ≡ f m i (front p m j)
      mapped-front =
          same_words _ _
          (λ k.
          take-front (p.draws m k) (f m i (front p m j) k) (by_block p f sizes i (behind p m j) k)
          ((keeps m i (front p m j) (fits-front p blockable m (total sizes) j fits)).words k))

      mapped-behind : (λ k. drop (p.draws m k) (whole k)) ≡ by_block p f sizes i (behind p m j)
      mapped-behind =
          same_words _ _
          (λ k.
          drop-front (p.draws m k) (f m i (front p m j) k) (by_block p f sizes i (behind p m j) k)
          ((keeps m i (front p m j) (fits-front p blockable m (total sizes) j fits)).words k))

    mapped-own :
        ((n : ℕ) (i : Number) (j : Joint) → Fits p n j → f n i j i ≡ j.words i) →
        (sizes : List ℕ) (i : Number) (j : Joint) → Fits p (total sizes) j → by_block p f sizes i j i ≡ j.words i
    mapped-own own [] i j fits = none-drawn p blockable j fits i
    mapped-own own (m ∷ sizes) i j fits =
        let first = front p m j in
        let rest = behind p m j in
        ap (λ w. w ++ by_block p f sizes i rest i) (own m i first (fits-front p blockable m (total sizes) j fits))
        ∙ ap (λ w. first.words i ++ w) (mapped-own own sizes i rest (fits-behind p blockable m (total sizes) j fits))
        ∙ take-append-drop (p.draws m i) (j.words i)

    -- where a second map undoes the first of a block, it does of all
    mapped-back :
        (g : BlockMap) →
        ((n : ℕ) (i : Number) (j : Joint) → Fits p n j → (k : Number) → g n i (with_words j (f n i j)) k ≡ j.words k) →
        (sizes : List ℕ) (i : Number) (j : Joint) → Fits p (total sizes) j → (k : Number) →
        by_block p g sizes i (with_words j (by_block p f sizes i j)) k ≡ j.words k
    mapped-back g undoes [] i j fits k = none-drawn p blockable j fits k
    mapped-back g undoes (m ∷ sizes) i j fits k =
        let first = front p m j in
        let rest = behind p m j in
        let later : List ℕ = by_block p g sizes i (behind p m (with_words j (by_block p f (m ∷ sizes) i j))) k in
        ap (λ w. g m i (with_words first w) k ++ later) (mapped-front m sizes i j fits)
        ∙ ap (λ w. w ++ later) (undoes m i first (fits-front p blockable m (total sizes) j fits) k)
        ∙ ap (λ w. first.words k ++ by_block p g sizes i (with_words rest w) k) (mapped-behind m sizes i j fits)
        ∙ ap (λ w. first.words k ++ w) (mapped-back g undoes sizes i rest (fits-behind p blockable m (total sizes) j fits) k)
        ∙ take-append-drop (p.draws m k) (j.words k)

  -- ---- what comes to a miner

  module _ (sound : Sound p) (private : Private p) where
    blocks-seen :
        (sizes : List ℕ) (i : Number) (j : Joint) → Fits p (total sizes) j → (l : Link) → receiver_of l ≡ i →
        blocks_messages p sizes j l ≡ blocks_received p sizes i (j.u i) (j.v i) (by_block p p.tape sizes i j) (blocks_opened p sizes j) l
    blocks-seen [] i j fits l h = refl
    blocks-seen (m ∷ sizes) i j fits l h =
        let first = front p m j in
        let rest = behind p m j in
        let here : Fits p m first = fits-front p blockable m (total sizes) j fits in
        let there : Fits p (total sizes) rest = fits-behind p blockable m (total sizes) j fits in
        let whole : Number → List ℕ = by_block p p.tape (m ∷ sizes) i j in
        let opened : List ℕ = blocks_opened p (m ∷ sizes) j in
        let now : List ℕ = take (p.opens m) opened in
        let words_now : Number → List ℕ = λ k. take (p.draws m k) (whole k) in
        ap (λ x. x ++ blocks_messages p sizes rest l)
        (private.seen m i first here l h
        ∙ ap (λ w. p.received m i (first.u i) (first.v i) w (p.opened m first) l) (sym (mapped-front p.tape private.kept m sizes i j fits))
        ∙ ap (λ o. p.received m i (first.u i) (first.v i) words_now o l)
        (sym (take-front (p.opens m) (p.opened m first) (blocks_opened p sizes rest) (sound.opens m first here))))
        ∙ ap (λ x. p.received m i (first.u i) (first.v i) words_now now l ++ x)
        (blocks-seen sizes i rest there l h
        ∙ ap (λ w. blocks_received p sizes i (rest.u i) (rest.v i) w (blocks_opened p sizes rest) l) (sym (mapped-behind p.tape private.kept m sizes i j fits))
        ∙ ap (λ o. blocks_received p sizes i (rest.u i) (rest.v i) (λ k. drop (p.draws m k) (whole k)) o l)
        (sym (drop-front (p.opens m) (p.opened m first) (blocks_opened p sizes rest) (sound.opens m first here))))

    -- ---- a whole gate

    pub in_blocks-private : (cut : ℕ → List ℕ) → IsCut cut → Private (in_blocks p cut)
    in_blocks-private cut is_cut =
        record {
          own = λ n i j fits. mapped-own p.tape private.kept private.own (cut n) i j (fits-whole p blockable cut is_cut n j fits);
          kept = λ n i j fits.
              whole-fits p blockable cut is_cut n (with_words j (by_block p p.tape (cut n) i j))
              (mapped-fits p.tape private.kept (cut n) i j (fits-whole p blockable cut is_cut n j fits));
          back_kept = λ n i j fits.
              whole-fits p blockable cut is_cut n (with_words j (by_block p p.back (cut n) i j))
              (mapped-fits p.back private.back_kept (cut n) i j (fits-whole p blockable cut is_cut n j fits));
          back_tape = λ n i j fits k.
              mapped-back p.tape private.kept p.back private.back_tape (cut n) i j (fits-whole p blockable cut is_cut n j fits) k;
          tape_back = λ n i j fits k.
              mapped-back p.back private.back_kept p.tape private.tape_back (cut n) i j (fits-whole p blockable cut is_cut n j fits) k;
          seen = λ n i j fits l h. blocks-seen (cut n) i j (fits-whole p blockable cut is_cut n j fits) l h;
        }
