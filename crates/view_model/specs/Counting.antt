-- Lists of tapes, none of which stands twice.
use Rattle.std.specs.Prelude.{◌≡◌, ◌≤◌, ℕ, List, [], ◌∷◌, length}
use Rattle.proto_core.specs.declared.party.Number.{Number}
use Rattle.protocol_model.specs.Network.{Delivery}
use Rattle.gates.specs.declared.gate.Gate.{Gate}
use Rattle.value_file.specs.declared.inputs.Entry.{Entry}
use Rattle.value_file.specs.Public.{part_of}
use Rattle.input_share.specs.Dealing.{need_of}
use Rattle.tape_file.specs.Tapes.{FourTapes}
use Rattle.view_model.specs.TapeMaps.{AreTapes, Reaches, twin}
use Rattle.view_model.specs.Seen.{Seen, seen_by, opened_by_all}

abbrev pub NoneIs : {A : Type 0} → A → List A → Type 0
NoneIs x [] = Unit {0}
NoneIs x (y ∷ ys) = (x ≡ y → ⊥) × NoneIs x ys

abbrev pub AreDistinct : {A : Type 0} → List A → Type 0
AreDistinct [] = Unit {0}
AreDistinct (x ∷ xs) = NoneIs x xs × AreDistinct xs

-- tapes of words on which the inputs are dealt and the gates run
pub record IsRunOn (entries : List Entry) (gates : List Gate) (t : FourTapes) : Type 0 where
  pub tapes : AreTapes t
  pub dealt : need_of entries ≤ length t.dealer
  pub reaches : Reaches entries gates t

-- which give miner i this view
pub record GivesView (i : Number) (entries : List Entry) (gates : List Gate) (delivery : Delivery) (view : Seen) (t : FourTapes) : Type 0 where
  pub runs : IsRunOn entries gates t
  pub sees : seen_by i entries gates t delivery ≡ view

abbrev pub AllGive : (i : Number) → List Entry → List Gate → Delivery → Seen → List FourTapes → Type 0
AllGive i entries gates delivery view [] = Unit {0}
AllGive i entries gates delivery view (t ∷ ts) =
    GivesView i entries gates delivery view t × AllGive i entries gates delivery view ts

-- whatever the tapes, these words are opened
abbrev pub Opens : List Entry → List Gate → List ℕ → Type 0
Opens entries gates opened = (t : FourTapes) → IsRunOn entries gates t → opened_by_all entries gates t ≡ opened

-- two inputs that differ in private values alone, and with which the same words are opened
pub record Alike (first second : List Entry) (gates : List Gate) (opened : List ℕ) : Type 0 where
  pub known : part_of first ≡ part_of second
  pub opens_first : Opens first gates opened
  pub opens_second : Opens second gates opened

-- the other tapes give the other inputs the same view, and the way back leads back
pub record IsTwin (i : Number) (first second : List Entry) (gates : List Gate) (t t2 : FourTapes) : Type 0 where
  pub runs : IsRunOn second gates t2
  pub sees : (delivery : Delivery) → seen_by i second gates t2 delivery ≡ seen_by i first gates t delivery
  pub back : twin i second first gates t2 ≡ t

-- as many distinct tapes, which give the same view with the second inputs
pub record AsMany (i : Number) (second : List Entry) (gates : List Gate) (delivery : Delivery) (view : Seen) (ts twins : List FourTapes) : Type 0 where
  pub count : length twins ≡ length ts
  pub distinct : AreDistinct twins
  pub give : AllGive i second gates delivery view twins
