-- Words that three miners draw of one source, one call after another.
use Rattle.std.proofs.Common.{◌≡◌, ◌≢◌, ℕ, ◌+◌, Bool, true, false, if◌then◌else◌, List, [], ◌++◌, length, replicate}
use Rattle.std.proofs.Common.{refl, sym, ◌∙◌, ap, subst, append_assoc, length-append, arith}
use Rattle.std.proofs.Math.Seq.{drop-append_seam}
use Rattle.std.proofs.lemmas.List.{length-replicate}
use Rattle.outside.specs.Files.{FilesState, OnlyRead}
use Rattle.outside.specs.Tapes.{TapesState, Drew, StandsStill}
use Rattle.proto_core.specs.declared.party.Number.{Number}
use Rattle.proto_core.specs.declared.party.Number.TheVariants.{One, Two, Three}
use Rattle.proto_core.specs.Parties.{count_of, is_same}
use Rattle.protocol_model.specs.Runs.{Tapes}
use Rattle.gate_node.specs.Nodes.{IsTapeOf}
use Rattle.gate_node.proofs.Supplied.{tape-before}
use Rattle.miner_core.specs.declared.answer.Lost.{Lost}
use Rattle.miner_core.specs.declared.answer.Lost.TheVariants as lost
use Rattle.miner_core.specs.Drawing.{left_for, IsLostBy}
use Rattle.link_schedule.specs.Streams.{AreTapesOf, NetDrew}
use Rattle.link_schedule.proofs.Deliveries.{is_number}

-- ---- tapes that may be

-- the words drawn, and zeros after them
pub filled : (drawn : List ℕ) (left : ℕ) → IsTapeOf drawn left (drawn ++ replicate left 0)
filled drawn left =
    let long = length-append drawn (replicate left 0) in
    let zeros = length-replicate {A = ℕ} left 0 in
    record {
      begins = ap (λ r. drawn ++ r) (sym (drop-append_seam drawn (replicate left 0)));
      counted = omega (arith, long, zeros);
    }

abbrev pub filled_tapes : (drawn : Tapes) → (left : Number → ℕ) → Tapes
filled_tapes drawn left i = drawn i ++ replicate (left i) 0

pub some_tapes : (drawn : Tapes) (left : Number → ℕ) → AreTapesOf drawn left (filled_tapes drawn left)
some_tapes drawn left i = filled (drawn i) (left i)

-- ---- calls that draw

read_on : (a b c : FilesState) → OnlyRead a b → OnlyRead b c → OnlyRead a c
read_on a b c h k =
    let early = h.later in
    let late = k.later in
    record {
      same = record { told = k.same.told ∙ h.same.told; contents = k.same.contents ∙ h.same.contents };
      later = omega (arith, early, late);
      still = λ s. k.still (h.still s);
    }

stands_on : (a b c : TapesState) → StandsStill a b → StandsStill b c → StandsStill a c
stands_on a b c h k = record { held = k.held ∙ h.held; read = read_on a.under b.under c.under h.read k.read }

stands_here : (a : TapesState) → StandsStill a a
stands_here a =
    record { held = refl; read = record { same = record { told = refl; contents = refl }; later = omega arith; still = λ h. h } }

abbrev pub none : Tapes
none i = []

pub net_drew_none : (a : TapesState) → NetDrew a a none
net_drew_none a =
    record {
      told = refl;
      stands = stands_here a;
      fewer = λ i. omega arith;
      words = λ t i. refl;
      others = λ p apart. record { left = refl; words = λ t. refl };
    }

abbrev pub both : Tapes → Tapes → Tapes
both x y i = x i ++ y i

pub net_drew_more : (a b c : TapesState) (x y : Tapes) → NetDrew a b x → NetDrew b c y → NetDrew a c (both x y)
net_drew_more a b c x y h k =
    record {
      told = k.told ∙ h.told;
      stands = stands_on a b c h.stands k.stands;
      fewer = fewer;
      words = λ t i. h.words t i ∙ ap (λ l. x i ++ l) (k.words (h.told ∙ t) i) ∙ sym (append_assoc (x i) (y i) (c.words (count_of i)));
      others = λ p apart. record {
        left = (k.others p apart).left ∙ (h.others p apart).left;
        words = λ t. (k.others p apart).words (h.told ∙ t) ∙ (h.others p apart).words t;
      };
    }
  where
    fewer : (i : Number) → left_for i a ≡ length (x i ++ y i) + left_for i c
    fewer i =
        let first = h.fewer i in
        let second = k.fewer i in
        let long = length-append (x i) (y i) in
        omega (arith, first, second, long)

-- one miner draws
abbrev pub only : Number → List ℕ → Tapes
only i words j = if is_same i j then words else []

apart : (i j : Number) → is_same i j ≡ false → count_of j ≢ count_of i
apart One One e h = cc
apart Two Two e h = cc
apart Three Three e h = cc
apart One Two e h = absurd (omega (arith, h))
apart One Three e h = absurd (omega (arith, h))
apart Two One e h = absurd (omega (arith, h))
apart Two Three e h = absurd (omega (arith, h))
apart Three One e h = absurd (omega (arith, h))
apart Three Two e h = absurd (omega (arith, h))

pub of_one : (a b : TapesState) (i : Number) (words : List ℕ) → Drew a b (count_of i) words → NetDrew a b (only i words)
of_one a b i words d =
    record {
      told = d.told;
      stands = d.stands;
      fewer = λ j. fewer j (is_same i j) refl;
      words = λ t j. taken t j (is_same i j) refl;
      others = λ p is. d.others p (is i);
    }
  where
    fewer : (j : Number) (b' : Bool) → is_same i j ≡ b' → left_for j a ≡ length (if b' then words else []) + left_for j b
    fewer j true e = subst (λ k. left_for k a ≡ length words + left_for k b) (is_number i j e) d.fewer
    fewer j false e = let same = (d.others (count_of j) (apart i j e)).left in omega (arith, same)

    taken : a.told ≡ true → (j : Number) (b' : Bool) → is_same i j ≡ b' → a.words (count_of j) ≡ (if b' then words else []) ++ b.words (count_of j)
    taken t j true e = subst (λ k. a.words (count_of k) ≡ words ++ b.words (count_of k)) (is_number i j e) (d.words t)
    taken t j false e = sym ((d.others (count_of j) (apart i j e)).words t)

-- what was lost in a later call
pub lost_later : (a b c : TapesState) (x : Tapes) → NetDrew a b x → (a.steady ≡ true → b.steady ≡ true) → (l : Lost) → IsLostBy b c l → IsLostBy a c l
lost_later a b c x h still lost.Memory k = tt
lost_later a b c x h still lost.TapeFault k =
    let later = h.stands.read.later in
    let rose = k.rose in
    record { rose = omega (arith, later, rose); unsteady = λ s. k.unsteady (still s) }

-- tapes that begin with all words drawn, and have as many after them as are left, begin with those drawn before, and have those that were
pub tapes_earlier : (a b : TapesState) (drawn taken : Tapes) → NetDrew a b taken → (tapes : Tapes) → AreTapesOf (both drawn taken) (λ i. left_for i b) tapes →
    AreTapesOf drawn (λ i. left_for i a) tapes
tapes_earlier a b drawn taken d tapes of i = tape-before (drawn i) (taken i) (tapes i) (left_for i a) (left_for i b) (sym (d.fewer i)) (of i)

pub tapes_by : (drawn drawn2 : Tapes) (left left2 : Number → ℕ) → ((i : Number) → drawn i ≡ drawn2 i) → ((i : Number) → left i ≡ left2 i) →
    (tapes : Tapes) → AreTapesOf drawn left tapes → AreTapesOf drawn2 left2 tapes
tapes_by drawn drawn2 left left2 same as_many tapes of i =
    subst (λ d. IsTapeOf d (left2 i) (tapes i)) (same i) (subst (λ n. IsTapeOf (drawn i) n (tapes i)) (as_many i) (of i))
