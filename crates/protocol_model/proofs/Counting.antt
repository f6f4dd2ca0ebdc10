-- With a beginning of a run's messages a miner sends, and waits, as its moves of this run say.
use Rattle.std.proofs.Common.{◌≡◌, ℕ, zero, suc, pred, ◌+◌, Bool, true, false, if◌then◌else◌, List, [], ◌∷◌, ◌++◌, length, refl, sym, ◌∙◌, ap, subst, arith}
use Rattle.std.specs.Prelude.{Option, Some}
use Rattle.proto_core.specs.declared.link.Link.{Link}
use Rattle.proto_core.specs.Strand.{same_link, Sent, Opened, Told, Mail, Strand, Ends, Acts, Waits, rest_of, taken, run, then_do, on_link, Begins}
use Rattle.proto_core.specs.Strand.{IsEnded, accepts}
use Rattle.proto_core.specs.Net.{added, MailBegins}
use Rattle.proto_core.specs.Script.{Move, Sends, Takes, Moves}
use Rattle.proto_core.proofs.Strands.{run-none, run-took, run-refused, taken-added}
use Rattle.protocol_model.specs.Network.{one_less, sent_by, stands_at, waits_for}
use Rattle.protocol_model.specs.Network.{counts}
use Rattle.protocol_model.specs.Along.{OldestIs, MovesAlong}

counts-taken : (l : Link) (mail : Mail) → counts (taken l mail) ≡ one_less l (counts mail)
counts-taken l mail = λ d. λ k. at_link k d
  where
    rest_length : (xs : List (List ℕ)) → length (rest_of xs) ≡ pred (length xs)
    rest_length [] = refl
    rest_length (x ∷ xs) = refl

    at_link : (k : Link) → counts (taken l mail) k ≡ one_less l (counts mail) k
    at_link k = elim (same_link l k) as
        (λ b. length (if b then rest_of (mail k) else mail k) ≡ (if b then pred (length (mail k)) else length (mail k)))
        [ true ↦ rest_length (mail k) | false ↦ refl ]

taken-begins : (l : Link) (x y : Mail) → MailBegins x y → MailBegins (taken l x) (taken l y)
taken-begins l x y h k = elim (same_link l k) as (λ b. Begins (if b then rest_of (x k) else x k) (if b then rest_of (y k) else y k))
    [ true ↦ rest_begins (x k) (y k) (h k) | false ↦ h k ]
  where
    rest_begins : (xs ys : List (List ℕ)) → Begins xs ys → Begins (rest_of xs) (rest_of ys)
    rest_begins [] ys e = tt
    rest_begins (x ∷ xs) [] e = absurd e
    rest_begins (x ∷ xs) (y ∷ ys) e = e.1

-- what is wanted of the acts and of the place, of one miner with this mail
pub record StandsAs {A : Type 0} (s : Strand A) (moves : List Move) (mail : Mail) : Type 0 where
  pub sent : (l : Link) → length (on_link l (run s mail).acts) ≡ sent_by moves (counts mail) l
  pub waits : waits_for (run s mail).left ≡ stands_at moves (counts mail)

pub along-counted : {A : Type 0} (s : Strand A) (moves : List Move) (mail full : Mail) → MovesAlong s moves full → MailBegins mail full → StandsAs s moves mail
along-counted (Ends a) [] mail full h b = record { sent = λ l. refl; waits = refl }
along-counted (Ends a) (move ∷ moves) mail full h b = absurd h
along-counted (Acts (Opened w) s) moves mail full h b =
    let rest = along-counted s moves mail full h b in record { sent = rest.sent; waits = rest.waits }
along-counted (Acts (Told t) s) moves mail full h b =
    let rest = along-counted s moves mail full h b in record { sent = rest.sent; waits = rest.waits }
along-counted (Acts (Sent k m) s) [] mail full h b = absurd h
along-counted (Acts (Sent k m) s) (Takes j n ∷ moves) mail full h b = absurd h
along-counted (Acts (Sent k m) s) (Sends j n ∷ moves) mail full h b =
    let rest = along-counted s moves mail full h.2 b in
    record {
      sent = λ l.
          elim (same_link l k) as (λ t. length (if t then m ∷ on_link l (run s mail).acts else on_link l (run s mail).acts)
          ≡ (if t then 1 else 0) + sent_by moves (counts mail) l)
          [ true ↦ ap suc (rest.sent l) ∙ omega arith | false ↦ rest.sent l ∙ omega arith ]
          ∙ ap (λ v. (if same_link l v then 1 else 0) + sent_by moves (counts mail) l) (sym h.0);
      waits = rest.waits;
    }
along-counted (Waits k n f) [] mail full h b = absurd h
along-counted (Waits k n f) (Sends j size ∷ moves) mail full h b = absurd h
along-counted {A} (Waits k n f) (Takes j size ∷ moves) mail full h b =
    subst (λ v. StandsAs (Waits k n f) (Takes v size ∷ moves) mail) (sym h.0)
    (by_mail (mail k) (full k) refl refl h.2 (b k) (λ m g. along-counted (f m) moves (taken k mail) (taken k full) g (taken-begins k mail full b)))
  where
    by_mail : (xs ys : List (List ℕ)) → mail k ≡ xs → full k ≡ ys → OldestIs (full k) n (λ m. MovesAlong (f m) moves (taken k full))
        → Begins (mail k) (full k) →
        ((m : List ℕ) → MovesAlong (f m) moves (taken k full) → StandsAs (f m) moves (taken k mail)) →
        StandsAs (Waits k n f) (Takes k size ∷ moves) mail
    by_mail [] ys x y o b more =
        record {
          sent = λ l.
              ap (λ v. length (on_link l v.acts)) (run-none k n f mail x)
              ∙ sym (ap (λ v. elim (length v) as (λ _. ℕ) [ zero ↦ 0 | suc _ ↦ sent_by moves (one_less k (counts mail)) l ]) x);
          waits =
              ap (λ v. waits_for v.left) (run-none k n f mail x)
              ∙ sym (ap (λ v. elim (length v) as (λ _. Option Link) [ zero ↦ Some k | suc _ ↦ stands_at moves (one_less k (counts mail)) ]) x);
        }
    by_mail (m ∷ ms) [] x y o b more = absurd (subst (λ v. Begins v []) x (subst (λ v. Begins (mail k) v) y b))
    by_mail (m ∷ ms) (m2 ∷ ms2) x y o b more =
        let same : m ≡ m2 = (subst (λ v. Begins v (m2 ∷ ms2)) x (subst (λ v. Begins (mail k) v) y b)).0 in
        let oldest = subst (λ v. OldestIs v n (λ w. MovesAlong (f w) moves (taken k full))) y o in
        let test : accepts n m ≡ true = ap (accepts n) same ∙ oldest.0 in
        let rest = more m (subst (λ v. MovesAlong (f v) moves (taken k full)) (sym same) oldest.1) in
        record {
          sent = λ l.
              ap (λ v. length (on_link l v.acts)) (run-took k n f mail m ms x test)
              ∙ rest.sent l
              ∙ ap (λ v. sent_by moves v l) (counts-taken k mail)
              ∙ sym (ap (λ v. elim (length v) as (λ _. ℕ) [ zero ↦ 0 | suc _ ↦ sent_by moves (one_less k (counts mail)) l ]) x);
          waits =
              ap (λ v. waits_for v.left) (run-took k n f mail m ms x test)
              ∙ rest.waits
              ∙ ap (stands_at moves) (counts-taken k mail)
              ∙ sym (ap (λ v. elim (length v) as (λ _. Option Link) [ zero ↦ Some k | suc _ ↦ stands_at moves (one_less k (counts mail)) ]) x);
        }

-- a script that holds on all messages holds along a run that comes to its end
pub moves-along : {A : Type 0} (s : Strand A) (moves : List Move) (full : Mail) → Moves s moves → IsEnded (run s full).left → MovesAlong s moves full
moves-along (Ends a) [] full h e = tt
moves-along (Ends a) (move ∷ moves) full h e = absurd h
moves-along (Acts (Opened w) s) moves full h e = moves-along s moves full h e
moves-along (Acts (Told t) s) moves full h e = moves-along s moves full h e
moves-along (Acts (Sent k m) s) [] full h e = absurd h
moves-along (Acts (Sent k m) s) (Takes j n ∷ moves) full h e = absurd h
moves-along (Acts (Sent k m) s) (Sends j n ∷ moves) full h e = (h.0, h.1, moves-along s moves full h.2 e)
moves-along (Waits k n f) [] full h e = absurd h
moves-along (Waits k n f) (Sends j size ∷ moves) full h e = absurd h
moves-along (Waits k n f) (Takes j size ∷ moves) full h e =
    (h.0, h.1, by_mail (full k) refl (λ m g e2. moves-along (f m) moves (taken k full) (h.2 m g) e2))
  where
    by_mail : (ys : List (List ℕ)) → full k ≡ ys
        → ((m : List ℕ) → accepts n m ≡ true → IsEnded (run (f m) (taken k full)).left → MovesAlong (f m) moves (taken k full)) →
        OldestIs (full k) n (λ m. MovesAlong (f m) moves (taken k full))
    by_mail [] y more = absurd (subst (λ v. IsEnded v.left) (run-none k n f full y) e)
    by_mail (m ∷ ms) y more = by_shape (accepts n m) refl
      where
        by_shape : (t : Bool) → accepts n m ≡ t → OldestIs (full k) n (λ v. MovesAlong (f v) moves (taken k full))
        by_shape true t = subst (λ v. OldestIs v n (λ w. MovesAlong (f w) moves (taken k full))) (sym y)
            (t, more m t (subst (λ v. IsEnded v.left) (run-took k n f full m ms y t) e))
        by_shape false t = absurd (subst (λ v. IsEnded v.left) (run-refused k n f full m ms y t) e)

-- the moves of one after the other, of which the second begins with what the first ended with
pub along-then : {A B : Type 0} (s : Strand A) (f : A → Strand B) (first second : List Move) (x y : Mail) (a : A) →
    MovesAlong s first x → (run s x).left ≡ Ends a → MovesAlong (f a) second (added (run s x).unread y) →
    MovesAlong (then_do s f) (first ++ second) (added x y)
along-then (Ends b) f [] second x y a h e g = subst (λ v. MovesAlong (f v) second (added x y)) (ends_are e) g
  where
    ends_are : Ends b ≡ Ends a → a ≡ b
    ends_are e = cc
along-then (Ends b) f (move ∷ moves) second x y a h e g = absurd h
along-then (Acts (Opened w) s) f moves second x y a h e g = along-then s f moves second x y a h e g
along-then (Acts (Told t) s) f moves second x y a h e g = along-then s f moves second x y a h e g
along-then (Acts (Sent k m) s) f [] second x y a h e g = absurd h
along-then (Acts (Sent k m) s) f (Takes j n ∷ moves) second x y a h e g = absurd h
along-then (Acts (Sent k m) s) f (Sends j n ∷ moves) second x y a h e g = (h.0, h.1, along-then s f moves second x y a h.2 e g)
along-then (Waits k n c) f [] second x y a h e g = absurd h
along-then (Waits k n c) f (Sends j size ∷ moves) second x y a h e g = absurd h
along-then (Waits k n c) f (Takes j size ∷ moves) second x y a h e g =
    (h.0, h.1, by_mail (x k) refl h.2 (λ m p q r. along-then (c m) f moves second (taken k x) y a p q r))
  where
    by_mail : (xs : List (List ℕ)) → x k ≡ xs → OldestIs (x k) n (λ m. MovesAlong (c m) moves (taken k x)) →
        ((m : List ℕ) → MovesAlong (c m) moves (taken k x) → (run (c m) (taken k x)).left ≡ Ends a
        → MovesAlong (f a) second (added (run (c m) (taken k x)).unread y) →
        MovesAlong (then_do (c m) f) (moves ++ second) (added (taken k x) y)) →
        OldestIs (added x y k) n (λ m. MovesAlong (then_do (c m) f) (moves ++ second) (taken k (added x y)))
    by_mail [] p o more = absurd (subst (λ v. OldestIs v n (λ m. MovesAlong (c m) moves (taken k x))) p o)
    by_mail (m ∷ ms) p o more =
        let oldest = subst (λ v. OldestIs v n (λ w. MovesAlong (c w) moves (taken k x))) p o in
        let took = run-took k n c x m ms p oldest.0 in
        let rest = more m oldest.1 (sym (ap (λ v. v.left) took) ∙ e) (subst (λ v. MovesAlong (f a) second (added v.unread y)) took g) in
        subst (λ v. OldestIs (v ++ y k) n (λ w. MovesAlong (then_do (c w) f) (moves ++ second) (taken k (added x y)))) (sym p)
        (oldest.0, subst (λ v. MovesAlong (then_do (c m) f) (moves ++ second) v) (sym (taken-added k x y m ms p)) rest)
