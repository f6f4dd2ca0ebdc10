-- A protocol on any number of elements: one run of it for each block of elements, one after another, each with its own
-- words and messages.
use Rattle.std.specs.Prelude.{◌≡◌, ℕ, ◌+◌, List, [], ◌∷◌, ◌++◌, map, take, drop, zip}
use Rattle.proto_core.specs.declared.party.Number.{Number}
use Rattle.proto_core.specs.Strand.{Mail, Strand, Ends, then_do}
use Rattle.proto_core.specs.Script.{Move}
use Rattle.proto_core.specs.Protocol.{Joint, Protocol}
use Rattle.gates.specs.Blocks.{block_sizes}

-- how many elements blocks of these sizes have in all
abbrev pub total : List ℕ → ℕ
total [] = 0
total (m ∷ sizes) = m + total sizes

-- the blocks that a miner has for some elements, and those that it has for the elements after them, end to end
abbrev pub joined : List (List ℕ) → List (List ℕ) → List (List ℕ)
joined xs ys = map (λ p. p.0 ++ p.1) (zip xs ys)

-- ---- what of a whole gate belongs to its first block, of m elements

-- as many blocks as the protocol makes, with no elements
abbrev pub no_elements : Protocol → List (List ℕ)
no_elements p = map (λ size. []) (p.made 0)

abbrev pub front : Protocol → ℕ → Joint → Joint
front p m j =
    record { u = λ i. take m (j.u i); v = λ i. take (p.second m) (j.v i); words = λ i. take (p.draws m i) (j.words i) }

-- and what is left for the blocks after it
abbrev pub behind : Protocol → ℕ → Joint → Joint
behind p m j =
    record { u = λ i. drop m (j.u i); v = λ i. drop (p.second m) (j.v i); words = λ i. drop (p.draws m i) (j.words i) }

-- ---- one miner

abbrev pub blocks_strand : Protocol → List ℕ → Number → (u v words : List ℕ) → Strand (List (List ℕ))
blocks_strand p [] i u v words = Ends (no_elements p)
blocks_strand p (m ∷ sizes) i u v words =
    then_do (p.strand m i (take m u) (take (p.second m) v) (take (p.draws m i) words))
    (λ here.
    then_do (blocks_strand p sizes i (drop m u) (drop (p.second m) v) (drop (p.draws m i) words))
    (λ later. Ends (joined here later)))

abbrev pub blocks_script : Protocol → List ℕ → Number → List Move
blocks_script p [] i = []
blocks_script p (m ∷ sizes) i = p.script m i ++ blocks_script p sizes i

-- ---- all three

abbrev pub blocks_messages : Protocol → List ℕ → Joint → Mail
blocks_messages p [] j l = []
blocks_messages p (m ∷ sizes) j l = p.messages m (front p m j) l ++ blocks_messages p sizes (behind p m j) l

abbrev pub blocks_output : Protocol → List ℕ → Joint → Number → List (List ℕ)
blocks_output p [] j i = no_elements p
blocks_output p (m ∷ sizes) j i = joined (p.output m (front p m j) i) (blocks_output p sizes (behind p m j) i)

abbrev pub blocks_opened : Protocol → List ℕ → Joint → List ℕ
blocks_opened p [] j = []
blocks_opened p (m ∷ sizes) j = p.opened m (front p m j) ++ blocks_opened p sizes (behind p m j)

-- ---- the views

-- the words of each block by this map of a block's words
abbrev pub by_block : Protocol → (ℕ → Number → Joint → Number → List ℕ) → List ℕ → Number → Joint → Number → List ℕ
by_block p map_of [] i j k = []
by_block p map_of (m ∷ sizes) i j k = map_of m i (front p m j) k ++ by_block p map_of sizes i (behind p m j) k

abbrev pub blocks_received : Protocol → List ℕ → Number → (u v : List ℕ) → (words : Number → List ℕ) → (opened : List ℕ) → Mail
blocks_received p [] i u v words opened l = []
blocks_received p (m ∷ sizes) i u v words opened l =
    p.received m i (take m u) (take (p.second m) v) (λ k. take (p.draws m k) (words k)) (take (p.opens m) opened) l
    ++ blocks_received p sizes i (drop m u) (drop (p.second m) v) (λ k. drop (p.draws m k) (words k)) (drop (p.opens m) opened) l

-- ---- the whole gate

-- n elements in blocks of the sizes that `cut` gives
abbrev pub in_blocks : Protocol → (cut : ℕ → List ℕ) → Protocol
in_blocks p cut =
    record p {
      strand = λ n i u v words. blocks_strand p (cut n) i u v words;
      script = λ n i. blocks_script p (cut n) i;
      messages = λ n j. blocks_messages p (cut n) j;
      output = λ n j i. blocks_output p (cut n) j i;
      opened = λ n j. blocks_opened p (cut n) j;
      tape = λ n i j k. by_block p p.tape (cut n) i j k;
      back = λ n i j k. by_block p p.back (cut n) i j k;
      received = λ n i u v words opened. blocks_received p (cut n) i u v words opened;
    }

-- the cut loses no element and makes none
abbrev pub IsCut : (ℕ → List ℕ) → Type 0
IsCut cut = (n : ℕ) → total (cut n) ≡ n

-- in blocks of 512, and a last one with the rest
abbrev pub blocked : Protocol → Protocol
blocked p = in_blocks p block_sizes

-- ---- for which protocols: what m and n elements take and make is, together, what m + n do

pub record Additive (f : ℕ → ℕ) : Type 0 where
  pub none : f 0 ≡ 0
  pub more : (m n : ℕ) → f (m + n) ≡ f m + f n

abbrev pub sums : List ℕ → List ℕ → List ℕ
sums [] ys = []
sums (x ∷ xs) [] = []
sums (x ∷ xs) (y ∷ ys) = (x + y) ∷ sums xs ys

pub record Blockable (p : Protocol) : Type 0 where
  pub second : Additive p.second
  pub draws : (i : Number) → Additive (λ n. p.draws n i)
  pub opens : Additive p.opens
  pub made_none : map (λ size. 0) (p.made 0) ≡ p.made 0
  pub made_more : (m n : ℕ) → p.made (m + n) ≡ sums (p.made m) (p.made n)
