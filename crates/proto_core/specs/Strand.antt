-- One miner's part in a protocol: it acts, and waits for the next message of one named link.
use Rattle.std.specs.Prelude.{◌≡◌, ℕ, ◌*◌, Bool, true, ◌==◌, ◌&&◌, nat_lt, if◌then◌else◌, List, [], ◌∷◌, ◌++◌, length, take, drop}
use Rattle.std.specs.List.{list_all}
use Rattle.proto_core.specs.declared.link.Link.{Link}
use Rattle.proto_core.specs.Parties.{sender_of, receiver_of, is_same}

-- ---- messages

-- one field of a message: so many words, or so many bits as 0 and 1
pub data Field : Type 0 where
  Words : Field
  Bits : Field

-- the fields of a message, each of so many elements, one field after another
pub record Shape : Type 0 where
  pub count : ℕ
  pub fields : List Field

abbrev pub shaped : ℕ → List Field → Shape
shaped n fields = record { count = n; fields = fields }

-- one field of n words
abbrev pub one_field : ℕ → Shape
one_field n = shaped n (Words ∷ [])

abbrev pub is_bit : ℕ → Bool
is_bit x = nat_lt x 2

abbrev pub has_bits : ℕ → List Field → List ℕ → Bool
has_bits n [] m = true
has_bits n (Words ∷ fields) m = has_bits n fields (drop n m)
has_bits n (Bits ∷ fields) m = list_all is_bit (take n m) && has_bits n fields (drop n m)

-- as many words as the fields have, and bits where bits are wanted
abbrev pub accepts : Shape → List ℕ → Bool
accepts s m = (length m == length s.fields * s.count) && has_bits s.count s.fields m

-- ---- what a miner does

-- what an element of a value is: a number, a number with a sign as its two's complement word, or a truth value as 0 or 1
pub data ElementType : Type 0 where
  Unsigned : ElementType
  Signed : ElementType
  TruthValue : ElementType

-- what a value is made of; one element, or an array
pub record Form : Type 0 where
  pub element : ElementType
  pub array : Bool

-- what a miner tells the world
pub data Notice : Type 0 where
  -- a value that all three have opened
  Shown : (form : Form) (words : List ℕ) → Notice
  -- a public value, under the name under which it is published
  Published : (name : List ℕ) (form : Form) (words : List ℕ) → Notice
  -- its own share of a private one, of so many elements: a number has a word each, 64 truth values have one
  Handed : (name : List ℕ) (form : Form) (count : ℕ) (words : List ℕ) → Notice

-- a message that it sends, words that it learns, something that it tells
pub data Act : Type 0 where
  Sent : (link : Link) (message : List ℕ) → Act
  Opened : (words : List ℕ) → Act
  Told : (notice : Notice) → Act

pub data Strand (A : Type 0) : Type 0 where
  Ends : A → Strand A
  Acts : Act → Strand A → Strand A
  -- for the next message of a link, which has this shape
  Waits : (link : Link) (shape : Shape) → (List ℕ → Strand A) → Strand A

-- one after the other, made of what the first ends with
abbrev pub then_do : {A B : Type 0} → Strand A → (A → Strand B) → Strand B
then_do (Ends a) f = f a
then_do (Acts a s) f = Acts a (then_do s f)
then_do (Waits l shape k) f = Waits l shape (λ m. then_do (k m) f)

-- ---- what it does with the messages that came

-- the messages of each link, oldest first
abbrev pub Mail : Type 0
Mail = Link → List (List ℕ)

abbrev pub same_link : Link → Link → Bool
same_link l k = is_same (sender_of l) (sender_of k) && is_same (receiver_of l) (receiver_of k)

-- without the oldest message of a link
abbrev pub taken : Link → Mail → Mail
taken l mail k = if same_link l k then drop 1 (mail k) else mail k

-- the same of the messages of one link
abbrev pub rest_of : List (List ℕ) → List (List ℕ)
rest_of ms = drop 1 ms

-- what it has done, what is left of it, and what it hasn't taken
pub record Ran (A : Type 0) : Type 0 where
  pub acts : List Act
  pub left : Strand A
  pub unread : Mail

abbrev pub acted : {A : Type 0} → Act → Ran A → Ran A
acted a r = record { acts = a ∷ r.acts; left = r.left; unread = r.unread }

-- the oldest message is taken where it has this shape; else the miner stands
abbrev pub came : {R : Type 0} → List (List ℕ) → Shape → R → (List ℕ → R) → R
came [] shape stands goes = stands
came (m ∷ ms) shape stands goes = if accepts shape m then goes m else stands

-- as far as it comes with this mail; at a message of another shape it stands still
abbrev pub run : {A : Type 0} → Strand A → Mail → Ran A
run (Ends a) mail = record { acts = []; left = Ends a; unread = mail }
run (Acts a s) mail = acted a (run s mail)
run (Waits l shape k) mail =
    came (mail l) shape (record { acts = []; left = Waits l shape k; unread = mail }) (λ m. run (k m) (taken l mail))

abbrev pub IsEnded : {A : Type 0} → Strand A → Type 0
IsEnded (Ends a) = Unit {0}
IsEnded (Acts a s) = ⊥
IsEnded (Waits l shape k) = ⊥

-- ---- what is read off its acts

-- the messages that it sends on a link
abbrev pub on_link : Link → List Act → List (List ℕ)
on_link l [] = []
on_link l (Sent k m ∷ acts) = if same_link l k then m ∷ on_link l acts else on_link l acts
on_link l (_ ∷ acts) = on_link l acts

-- the words that it learns, one after another
abbrev pub opened_in : List Act → List ℕ
opened_in [] = []
opened_in (Opened w ∷ acts) = w ++ opened_in acts
opened_in (_ ∷ acts) = opened_in acts

-- what it tells, in order
abbrev pub told_in : List Act → List Notice
told_in [] = []
told_in (Told t ∷ acts) = t ∷ told_in acts
told_in (_ ∷ acts) = told_in acts

-- ---- lists of which one begins the other

abbrev pub Begins : {A : Type 0} → List A → List A → Type 0
Begins [] ys = Unit {0}
Begins (x ∷ xs) [] = ⊥
Begins (x ∷ xs) (y ∷ ys) = (x ≡ y) × Begins xs ys

-- one of them begins the other
abbrev pub Agree : {A : Type 0} → List A → List A → Type 0
Agree [] ys = Unit {0}
Agree (x ∷ xs) [] = Unit {0}
Agree (x ∷ xs) (y ∷ ys) = (x ≡ y) × Agree xs ys

-- the element of the second at the length of the first, if there is one
abbrev pub next_after : {A : Type 0} → List A → List A → List A
next_after xs ys = take 1 (drop (length xs) ys)
