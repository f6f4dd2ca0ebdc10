-- A protocol of three miners on one block of n elements: what each draws, sends, receives and has at the end.
use Rattle.std.specs.Prelude.{◌≡◌, ℕ, true, List, [], ◌∷◌, length, map}
use Rattle.proto_core.specs.declared.party.Number.{Number}
use Rattle.proto_core.specs.declared.link.Link.{Link}
use Rattle.proto_core.specs.Parties.{sender_of, receiver_of}
use Rattle.proto_core.specs.Lists.{AreWords}
use Rattle.proto_core.specs.Strand.{Shape, accepts, Mail, Strand}
use Rattle.proto_core.specs.Script.{Move, Moves, EndsWith, Matched, UsesOwnLinks, sends_on}
use Rattle.proto_core.specs.Net.{Finishes, opened_by}

-- the shares of the operands (an operand that a gate hasn't is empty) and the words drawn
pub record Joint : Type 0 where
  pub u : Number → List ℕ
  pub v : Number → List ℕ
  pub words : Number → List ℕ

abbrev pub with_words : Joint → (Number → List ℕ) → Joint
with_words j w = record { u = j.u; v = j.v; words = w }

pub record Protocol : Type 0 where
  -- how long the second operand is, 0 where there is none
  pub second : ℕ → ℕ
  -- how many words each draws for n elements, and how many all three learn
  pub draws : ℕ → Number → ℕ
  pub opens : ℕ → ℕ
  -- how many elements each of the blocks has that a miner has at the end
  pub made : ℕ → List ℕ
  -- of one miner, by its shares u and v and the words that it draws: its part, which ends with its blocks
  pub strand : ℕ → Number → (u v words : List ℕ) → Strand (List (List ℕ))
  pub script : ℕ → Number → List Move
  -- of all three: the messages of each link, each miner's blocks at the end, and the opened words
  pub messages : ℕ → Joint → Mail
  pub output : ℕ → Joint → Number → List (List ℕ)
  pub opened : ℕ → Joint → List ℕ
  -- the words of all three that a miner's view is made of, and the way back
  pub tape : ℕ → Number → Joint → Number → List ℕ
  pub back : ℕ → Number → Joint → Number → List ℕ
  -- what a miner receives, by its own shares, the words that `tape` gives and the opened words
  pub received : ℕ → Number → (u v : List ℕ) → (words : Number → List ℕ) → (opened : List ℕ) → Mail

-- n elements in each operand, and as many words as are drawn
pub record Fits (p : Protocol) (n : ℕ) (j : Joint) : Type 0 where
  pub u : (i : Number) → length (j.u i) ≡ n
  pub v : (i : Number) → length (j.v i) ≡ p.second n
  pub words : (i : Number) → length (j.words i) ≡ p.draws n i
  pub are_words : (i : Number) → AreWords (j.words i)

abbrev pub strands_of : Protocol → ℕ → Joint → Number → Strand (List (List ℕ))
strands_of p n j i = p.strand n i (j.u i) (j.v i) (j.words i)

-- words of this shape
pub record IsMessage (wanted : Shape) (m : List ℕ) : Type 0 where
  pub shape : accepts wanted m ≡ true
  pub words : AreWords m

abbrev pub AreMessages : List Shape → List (List ℕ) → Type 0
AreMessages [] [] = Unit {0}
AreMessages [] (m ∷ ms) = ⊥
AreMessages (s ∷ shapes) [] = ⊥
AreMessages (s ∷ shapes) (m ∷ ms) = IsMessage s m × AreMessages shapes ms

-- n words
pub record IsBlock (n : ℕ) (xs : List ℕ) : Type 0 where
  pub len : length xs ≡ n
  pub words : AreWords xs

abbrev pub AreBlocks : List ℕ → List (List ℕ) → Type 0
AreBlocks [] [] = Unit {0}
AreBlocks [] (xs ∷ blocks) = ⊥
AreBlocks (n ∷ sizes) [] = ⊥
AreBlocks (n ∷ sizes) (xs ∷ blocks) = IsBlock n xs × AreBlocks sizes blocks

-- the three miners' parts together do what the joint equations say, by scripts that match
pub record Sound (p : Protocol) : Type 0 where
  pub matched : (n : ℕ) → Matched (p.script n)
  pub own_links : (n : ℕ) (i : Number) → UsesOwnLinks i (p.script n i)
  pub moves :
      (n : ℕ) (i : Number) (u v words : List ℕ) →
      length u ≡ n → length v ≡ p.second n → length words ≡ p.draws n i → Moves (p.strand n i u v words) (p.script n i)
  pub sizes :
      (n : ℕ) (i : Number) (u v words : List ℕ) →
      length u ≡ n → length v ≡ p.second n → length words ≡ p.draws n i →
      EndsWith (λ blocks. map length blocks ≡ p.made n) (p.strand n i u v words)
  pub finishes :
      (n : ℕ) (j : Joint) → Fits p n j → Finishes (strands_of p n j) (p.messages n j) (p.output n j)
  pub messages :
      (n : ℕ) (j : Joint) → Fits p n j → (l : Link) →
      AreMessages (sends_on l (p.script n (sender_of l))) (p.messages n j l)
  pub blocks : (n : ℕ) (j : Joint) → Fits p n j → (i : Number) → AreBlocks (p.made n) (p.output n j i)
  pub opened :
      (n : ℕ) (j : Joint) → Fits p n j → (i : Number) →
      opened_by (strands_of p n j) (p.messages n j) i ≡ p.opened n j
  pub opens : (n : ℕ) (j : Joint) → Fits p n j → length (p.opened n j) ≡ p.opens n

-- the map of the words keeps lengths and the miner's own words, and has an inverse on both sides;
-- what the miner receives is read off the mapped words, its own shares and the opened words
pub record Private (p : Protocol) : Type 0 where
  pub own : (n : ℕ) (i : Number) (j : Joint) → Fits p n j → p.tape n i j i ≡ j.words i
  pub kept : (n : ℕ) (i : Number) (j : Joint) → Fits p n j → Fits p n (with_words j (p.tape n i j))
  pub back_kept : (n : ℕ) (i : Number) (j : Joint) → Fits p n j → Fits p n (with_words j (p.back n i j))
  pub back_tape :
      (n : ℕ) (i : Number) (j : Joint) → Fits p n j → (m : Number) →
      p.back n i (with_words j (p.tape n i j)) m ≡ j.words m
  pub tape_back :
      (n : ℕ) (i : Number) (j : Joint) → Fits p n j → (m : Number) →
      p.tape n i (with_words j (p.back n i j)) m ≡ j.words m
  pub seen :
      (n : ℕ) (i : Number) (j : Joint) → Fits p n j → (l : Link) → receiver_of l ≡ i →
      p.messages n j l ≡ p.received n i (j.u i) (j.v i) (p.tape n i j) (p.opened n j) l

-- right, private, and with outputs that have the value that the gate has in the clear
pub record Lawful (p : Protocol) (Clear : ℕ → Joint → Type 0) : Type 0 where
  pub sound : Sound p
  pub private : Private p
  pub clear : (n : ℕ) (j : Joint) → Fits p n j → Clear n j
