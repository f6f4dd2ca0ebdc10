-- A miner's moves one by one, by counts.
use Rattle.std.proofs.Common.{◌≡◌, ◌≤◌, ◌<◌, ◌+◌, ℕ, zero, suc, Bool, true, false, if◌then◌else◌, List, [], ◌∷◌, length, drop, get_or}
use Rattle.std.proofs.Common.{refl, sym, ◌∙◌, ap, subst, arith}
use Rattle.std.proofs.lemmas.List.{drop_all, drop_more}
use Rattle.std.specs.Prelude.{Some, None}
use Rattle.proto_core.specs.declared.link.Link.{Link}
use Rattle.proto_core.specs.Strand.{same_link}
use Rattle.protocol_model.specs.Network.{Counts, none_delivered, one_less, one_more, sent_by, stands_at}
use Rattle.counted_net.specs.declared.moves.Move.{Move}
use Rattle.counted_net.specs.declared.moves.Move.TheVariants.{Sends, Takes}
use Rattle.counted_net.specs.declared.cursor.Cursor.{Cursor}
use Rattle.counted_net.specs.Scripts.{plain}
use Rattle.counted_net.specs.Cursors.{both, sent_in, unread_in, HasMoved, HasTaken, InPlace, IsBehind, IsSettled, Leaves, Steps}
use Rattle.counted_net.proofs.Counts.{both_none, less_first, less_is_few, more_first, more_is_few, more_of_few, same_turned}

-- ---- of a script there are moves left

take_goes : {A : Type 0} (n : ℕ) (stops goes : A) → 0 < n → elim n as (λ _. A) [ zero ↦ stops | suc _ ↦ goes ] ≡ goes
take_goes zero stops goes h = absurd (omega (arith, h))
take_goes (suc n) stops goes h = refl

take_stops : {A : Type 0} (n : ℕ) (stops goes : A) → n ≡ 0 → elim n as (λ _. A) [ zero ↦ stops | suc _ ↦ goes ] ≡ stops
take_stops zero stops goes h = refl
take_stops (suc n) stops goes h = absurd cc

-- a message that is sent is one more of its link
sent_more : (k l : Link) (sent : Counts) (rest : ℕ) → sent l + ((if same_link l k then 1 else 0) + rest) ≡ one_more k sent l + rest
sent_more k l sent rest = by_test (same_link l k) (same_link k l) (same_turned l k)
  where
    by_test : (b t : Bool) → b ≡ t → sent l + ((if b then 1 else 0) + rest) ≡ (if t then sent l + 1 else sent l) + rest
    by_test true true e = omega arith
    by_test false false e = omega arith
    by_test true false e = absurd cc
    by_test false true e = absurd cc

module _ (script left : List Move) (got sent unread : Counts) where
  -- other counts that are the same
  pub leaves_same :
      (sent2 unread2 : Counts) → ((l : Link) → sent2 l ≡ sent l) → ((l : Link) → unread2 l ≡ unread l)
      → Leaves script left got sent unread → Leaves script left got sent2 unread2
  leaves_same sent2 unread2 s u h =
      let s_is : sent ≡ sent2 = λ d. λ l. sym (s l) d in
      let u_is : unread ≡ unread2 = λ d. λ l. sym (u l) d in
      subst (λ v. Leaves script left got sent2 v) u_is (subst (λ v. Leaves script left got v unread) s_is h)

  pub leaves_sent : (k : Link) → Leaves script (Sends k ∷ left) got sent unread → Leaves script left got (one_more k sent) unread
  leaves_sent k h = record {
    sends = λ more l. h.sends more l ∙ sent_more k l sent (sent_by (plain left) (both unread more) l);
    stands = h.stands;
  }

  pub leaves_taken : (k : Link) → 0 < unread k → Leaves script (Takes k ∷ left) got sent unread → Leaves script left got sent (one_less k unread)
  leaves_taken k some h = record {
    sends = λ more l.
        h.sends more l
        ∙ ap (λ n. sent l + n)
        (take_goes (both unread more k) 0 (sent_by (plain left) (one_less k (both unread more)) l) (here more)
        ∙ ap (λ c. sent_by (plain left) c l) (less_first k unread more some));
    stands = λ more.
        h.stands more
        ∙ take_goes (both unread more k) (Some k) (stands_at (plain left) (one_less k (both unread more))) (here more)
        ∙ ap (stands_at (plain left)) (less_first k unread more some);
  }
    where
      here : (more : Counts) → 0 < both unread more k
      here more = omega arith

  -- a message comes
  pub leaves_more : (k : Link) → Leaves script left got sent unread → Leaves script left (one_more k got) sent (one_more k unread)
  leaves_more k h = record {
    sends = λ more l.
        ap (λ c. sent_by (plain script) c l) (more_first k got more)
        ∙ h.sends (one_more k more) l
        ∙ ap (λ c. sent l + sent_by (plain left) c l) (sym (more_first k unread more));
    stands = λ more.
        ap (stands_at (plain script)) (more_first k got more)
        ∙ h.stands (one_more k more)
        ∙ ap (stands_at (plain left)) (sym (more_first k unread more));
  }

  -- with no more, where those that are left send nothing
  sent_all : Leaves script left got sent unread → (l : Link) → sent_by (plain left) unread l ≡ 0 → sent l ≡ sent_by (plain script) got l
  sent_all h l none =
      let whole = h.sends none_delivered l in
      let a : sent_by (plain script) (both got none_delivered) l ≡ sent_by (plain script) got l = ap (λ c. sent_by (plain script) c l) (both_none got) in
      let b : sent_by (plain left) (both unread none_delivered) l ≡ sent_by (plain left) unread l = ap (λ c. sent_by (plain left) c l) (both_none unread) in
      omega arith

  stands_so : Leaves script left got sent unread → stands_at (plain script) got ≡ stands_at (plain left) unread
  stands_so h =
      ap (stands_at (plain script)) (sym (both_none got)) ∙ h.stands none_delivered ∙ ap (stands_at (plain left)) (both_none unread)

-- ---- a cursor and its next move

pub step_goes : (before later : Cursor) (next : Move) → Steps before later next true → later.place ≡ before.place + 1
step_goes before later (Sends k) h = h.place
step_goes before later (Takes k) h = h.1.place

module _ (script : List Move) (before later : Cursor) (below : before.place < length script) where
  moved_places : (sent unread : Counts) → ((l : Link) → sent l ≤ before.place + 1) → HasMoved before later sent unread → InPlace script later
  moved_places sent unread few h = record {
    within = let p = h.place in omega arith;
    few = λ l. let p = h.place in let s = h.sends l in let f = few l in omega arith;
  }

  taken_places : (k : Link) (went : Bool) → InPlace script before → HasTaken before later k went → InPlace script later
  taken_places k true p h = moved_places (sent_in before) (one_less k (unread_in before)) (λ l. let f = p.few l in omega arith) h.1
  taken_places k false p h = subst (InPlace script) (sym h.1) (record { within = p.within; few = p.few })

  pub step_places : (next : Move) (went : Bool) → InPlace script before → Steps before later next went → InPlace script later
  step_places (Sends k) true p h =
      moved_places (one_more k (sent_in before)) (unread_in before)
      (λ l. let f = p.few l in let m = more_is_few k (sent_in before) l in omega arith) h
  step_places (Sends k) false p h = absurd h
  step_places (Takes k) went p h = taken_places k went p h

-- the next move, at this place of the script
module _ (script : List Move) (before later : Cursor) (d : Move) (below : before.place < length script) (got : Counts) (b : IsBehind script got before) where
  abbrev behind_next : List Move
  behind_next = drop (before.place + 1) script

  moved_leaves : (sent unread : Counts) → HasMoved before later sent unread → Leaves script behind_next got sent unread
      → Leaves script (drop later.place script) got (sent_in later) (unread_in later)
  moved_leaves sent unread h left =
      subst (λ n. Leaves script (drop n script) got (sent_in later) (unread_in later)) (sym h.place)
      (leaves_same script behind_next got sent unread (sent_in later) (unread_in later) h.sends h.leaves left)

  next_left : (next : Move) → next ≡ get_or script before.place d → Leaves script (next ∷ behind_next) got (sent_in before) (unread_in before)
  next_left next is =
      subst (λ ms. Leaves script ms got (sent_in before) (unread_in before))
      (drop_more script before.place d below ∙ ap (λ m. m ∷ behind_next) (sym is)) b.leaves

  -- the move was done
  pub step_behind : (next : Move) → next ≡ get_or script before.place d → Steps before later next true → IsBehind script got later
  step_behind (Sends k) is h = record {
    placed = step_places script before later below (Sends k) true b.placed h;
    few = λ l. let u = h.leaves l in let f = b.few l in omega arith;
    leaves =
        moved_leaves (one_more k (sent_in before)) (unread_in before) h
        (leaves_sent script behind_next got (sent_in before) (unread_in before) k (next_left (Sends k) is));
  }
  step_behind (Takes k) is h = record {
    placed = step_places script before later below (Takes k) true b.placed h;
    few = λ l. let u = h.1.leaves l in let f = less_is_few k (unread_in before) got l (b.few l) in omega arith;
    leaves =
        moved_leaves (sent_in before) (one_less k (unread_in before)) h.1
        (leaves_taken script behind_next got (sent_in before) (unread_in before) k h.0 (next_left (Takes k) is));
  }

  -- it has to wait
  pub step_settles : (next : Move) → next ≡ get_or script before.place d → Steps before later next false → IsSettled script got later
  step_settles (Sends k) is h = absurd h
  step_settles (Takes k) is h =
      let left = next_left (Takes k) is in
      subst (IsSettled script got) (sym h.1)
      (record {
        behind = record { placed = record { within = b.placed.within; few = b.placed.few }; few = b.few; leaves = b.leaves };
        sent = λ l.
            sent_all script (Takes k ∷ behind_next) got (sent_in before) (unread_in before) left l
            (take_stops (unread_in before k) 0 (sent_by (plain behind_next) (one_less k (unread_in before)) l) h.0);
        waits =
            sym (stands_so script (Takes k ∷ behind_next) got (sent_in before) (unread_in before) left
            ∙ take_stops (unread_in before k) (Some k) (stands_at (plain behind_next) (one_less k (unread_in before))) h.0);
      })

-- ---- where it begins, and where no move is left

module _ (script : List Move) (c : Cursor) where
  pub first_behind : c.place ≡ 0 → ((l : Link) → sent_in c l ≡ 0) → ((l : Link) → unread_in c l ≡ 0) → IsBehind script none_delivered c
  first_behind p s u = record {
    placed = record { within = omega arith; few = λ l. let e = s l in omega arith };
    few = λ l. let e = u l in omega arith;
    leaves =
        subst (λ n. Leaves script (drop n script) none_delivered (sent_in c) (unread_in c)) (sym p)
        (leaves_same script script none_delivered none_delivered none_delivered (sent_in c) (unread_in c) s u
        (record { sends = λ more l. omega arith; stands = λ more. refl }));
  }

  pub none_left : (got : Counts) → length script ≤ c.place → IsBehind script got c → IsSettled script got (record c { waits = None })
  none_left got end b =
      let left : Leaves script [] got (sent_in c) (unread_in c) =
      subst (λ ms. Leaves script ms got (sent_in c) (unread_in c)) (drop_all c.place script end) b.leaves in
      record {
        behind = record { placed = record { within = b.placed.within; few = b.placed.few }; few = b.few; leaves = b.leaves };
        sent = λ l. sent_all script [] got (sent_in c) (unread_in c) left l refl;
        waits = sym (stands_so script [] got (sent_in c) (unread_in c) left);
      }

-- a message comes
pub came_behind :
    (script : List Move) (before later : Cursor) (k : Link) (got : Counts) → later.place ≡ before.place → ((l : Link) → sent_in later l ≡ sent_in before l)
    → ((l : Link) → unread_in later l ≡ one_more k (unread_in before) l) → IsBehind script got before → IsBehind script (one_more k got) later
came_behind script before later k got p s u b = record {
  placed = record {
    within = let w = b.placed.within in omega arith;
    few = λ l. let f = b.placed.few l in let e = s l in omega arith;
  };
  few = λ l. let e = u l in let f = more_of_few k (unread_in before) got l (b.few l) in omega arith;
  leaves =
      subst (λ n. Leaves script (drop n script) (one_more k got) (sent_in later) (unread_in later)) (sym p)
      (leaves_same script (drop before.place script) (one_more k got) (sent_in before) (one_more k (unread_in before)) (sent_in later) (unread_in later) s u
      (leaves_more script (drop before.place script) got (sent_in before) (unread_in before) k b.leaves));
}
