-- A run of gates reads no word of a tape after those that its miners draw.
use Rattle.std.proofs.Common.{◌≡◌, ◌≤◌, ◌+◌, ℕ, zero, suc, List, [], ◌∷◌, ◌++◌, take, drop, refl, sym, ◌∙◌, ap, arith}
use Rattle.proto_core.specs.declared.party.Number.{Number}
use Rattle.proto_core.specs.declared.link.Link.{Link}
use Rattle.proto_core.specs.Protocol.{Protocol}
use Rattle.protocol_model.specs.Gates.{Gate, Joined, Local, needed}
use Rattle.protocol_model.specs.Runs.{Shares, Tapes, after, after_local, drawn, gate_joint, left, run_messages, run_values}
use Rattle.merged_orders.specs.Merging.{SameDrawn}

take_none : (n : ℕ) → take {A = ℕ} n [] ≡ []
take_none zero = refl
take_none (suc n) = refl

take_first : (a c : ℕ) (xs : List ℕ) → a ≤ c → take a (take c xs) ≡ take a xs
take_first zero c xs h = refl
take_first (suc a) zero xs h = absurd (omega arith)
take_first (suc a) (suc c) [] h = refl
take_first (suc a) (suc c) (x ∷ xs) h = ap (λ v. x ∷ v) (take_first a c xs (omega arith))

drop_first : (a b c : ℕ) (xs : List ℕ) → c ≡ a + b → drop a (take c xs) ≡ take b (drop a xs)
drop_first zero b c xs e = let same : c ≡ b = omega arith in ap (λ n. take n xs) same
drop_first (suc a) b zero xs e = absurd (omega arith)
drop_first (suc a) b (suc c) [] e = sym (take_none b)
drop_first (suc a) b (suc c) (x ∷ xs) e = drop_first a b c xs (omega arith)

module _ (p : Protocol) (n : ℕ) (gates : List Gate) (s t : Tapes)
    (h : (i : Number) → take (p.draws n i + needed gates i) (s i) ≡ take (p.draws n i + needed gates i) (t i)) where
  drawn_same : drawn p n s ≡ drawn p n t
  drawn_same = λ d. λ i. at i d
    where
      at : (i : Number) → drawn p n s i ≡ drawn p n t i
      at i =
          let c = p.draws n i + needed gates i in
          sym (take_first (p.draws n i) c (s i) (omega arith)) ∙ ap (take (p.draws n i)) (h i) ∙ take_first (p.draws n i) c (t i) (omega arith)

  left_same : SameDrawn gates (left p n s) (left p n t)
  left_same i =
      let c = p.draws n i + needed gates i in
      sym (drop_first (p.draws n i) (needed gates i) c (s i) refl)
      ∙ ap (drop (p.draws n i)) (h i)
      ∙ drop_first (p.draws n i) (needed gates i) c (t i) refl

pub same_messages : (gates : List Gate) (values : Shares) (s t : Tapes) (l : Link) → SameDrawn gates s t
    → run_messages gates values s l ≡ run_messages gates values t l
same_messages [] values s t l h = refl
same_messages (Joined p n u v ∷ gates) values s t l h =
    let words = drawn_same p n gates s t h in
    ap (λ w. p.messages n (gate_joint u v values w) l ++ run_messages gates (after p n u v values w) (left p n s) l) words
    ∙ ap (λ m. p.messages n (gate_joint u v values (drawn p n t)) l ++ m)
    (same_messages gates (after p n u v values (drawn p n t)) (left p n s) (left p n t) l (left_same p n gates s t h))
same_messages (Local n f ∷ gates) values s t l h = same_messages gates (after_local f values) s t l h

pub same_values : (gates : List Gate) (values : Shares) (s t : Tapes) → SameDrawn gates s t → run_values gates values s ≡ run_values gates values t
same_values [] values s t h = refl
same_values (Joined p n u v ∷ gates) values s t h =
    ap (λ w. run_values gates (after p n u v values w) (left p n s)) (drawn_same p n gates s t h)
    ∙ same_values gates (after p n u v values (drawn p n t)) (left p n s) (left p n t) (left_same p n gates s t h)
same_values (Local n f ∷ gates) values s t h = same_values gates (after_local f values) s t h
