-- Whatever is delivered, in any order, is of the one run.
use Rattle.std.proofs.Common.{◌≡◌, ℕ, zero, suc, ◌+◌, true, false, if◌then◌else◌, List, [], ◌∷◌, ◌++◌, refl, sym, ◌∙◌, ap, subst, arith}
use Rattle.proto_core.specs.declared.party.Number.{Number}
use Rattle.proto_core.specs.declared.link.Link.{Link}
use Rattle.proto_core.specs.Parties.{sender_of, receiver_of, is_same}
use Rattle.proto_core.specs.Strand.{same_link, Mail, Strand, run, then_do, on_link, Begins, Agree, IsEnded}
use Rattle.proto_core.specs.Net.{added, into, run_of, posted, under_way, delivered, all_delivered, opened_by, rounds, nothing, MailBegins, Finishes}
use Rattle.proto_core.proofs.Beginnings.{begins-self, begins-append, begins-trans, begins-both, begins-under, append-none, begins-agree}
use Rattle.proto_core.proofs.Beginnings.{agree-shorter, begins-next, agree_none}
use Rattle.proto_core.proofs.Strands.{MailAgrees, run-more, run-most, run-agree, run-then, then-begins, followed, on_link-append, begins-on_link}
use Rattle.proto_core.proofs.Strands.{begins-opened, agree-on_link}

module _ {A : Type 0} (nodes : Number → Strand A) where
  pub into-more : (i : Number) (x y : Mail) → MailBegins x y → MailBegins (into i x) (into i y)
  into-more i x y h l = elim (is_same (receiver_of l) i) as (λ b. Begins (if b then x l else []) (if b then y l else [])) [ true ↦ h l | false ↦ tt ]

  into-agree : (i : Number) (x y : Mail) → MailAgrees x y → MailAgrees (into i x) (into i y)
  into-agree i x y h l = elim (is_same (receiver_of l) i) as (λ b. Agree (if b then x l else []) (if b then y l else [])) [ true ↦ h l | false ↦ tt ]

  pub posted-more : (x y : Mail) → MailBegins x y → MailBegins (posted nodes x) (posted nodes y)
  posted-more x y h l = begins-on_link l _ _ (run-more (nodes (sender_of l)) _ _ (into-more (sender_of l) x y h))

  pub delivered-begins : (mail full : Mail) (l : Link) → MailBegins mail full → MailBegins (posted nodes mail) full → MailBegins (delivered nodes mail l) full
  delivered-begins mail full l h k j =
      elim (same_link l j) as (λ b. Begins (if b then mail j ++ under_way nodes mail j else mail j) (full j))
      [ true ↦ begins-next (mail j) (posted nodes mail j) (full j) (h j) (k j) | false ↦ h j ]

  -- any order of deliveries, complete or not, stays within a mail that covers what is sent with it
  pub orders-begin : (full : Mail) → MailBegins (posted nodes full) full → (order : List Link) (mail : Mail) → MailBegins mail full
      → MailBegins (all_delivered nodes mail order) full
  orders-begin full k [] mail h = h
  orders-begin full k (l ∷ ls) mail h =
      orders-begin full k ls (delivered nodes mail l)
      (delivered-begins mail full l h (λ j. begins-trans _ _ _ (posted-more mail full h j) (k j)))

  pub rounds-begin : (full : Mail) → MailBegins (posted nodes full) full → (k : ℕ) (mail : Mail) → MailBegins mail full → MailBegins (rounds nodes k mail) full
  rounds-begin full h zero mail e l = e l
  rounds-begin full h (suc k) mail e l = begins-trans _ _ _ (posted-more (rounds nodes k mail) full (rounds-begin full h k mail e) l) (h l)

  rounds-agree : (mail : Mail) → MailBegins mail (posted nodes mail) → (k : ℕ) → MailAgrees mail (rounds nodes k nothing)
  rounds-agree mail h zero l = agree_none (mail l)
  rounds-agree mail h (suc k) l =
      begins-agree _ _ _ (h l)
      (agree-on_link l _ _ (run-agree (nodes (sender_of l)) _ _ (into-agree (sender_of l) mail (rounds nodes k nothing) (rounds-agree mail h k))))

  ended-is : (full : Mail) (outputs : Number → A) → Finishes nodes full outputs → (i : Number) → IsEnded (run_of nodes full i).left
  ended-is full outputs f i = subst (λ s. IsEnded s) (sym (f.ended i)) tt

  pub covers : (full : Mail) (outputs : Number → A) → Finishes nodes full outputs → MailBegins (posted nodes full) full
  covers full outputs f l = subst (λ v. Begins v (full l)) (sym (f.sent l)) (begins-self (full l))

  -- every schedule, complete or not, gives a beginning of the full run
  pub schedule-begins : (full : Mail) (outputs : Number → A) → Finishes nodes full outputs → (order : List Link)
      → MailBegins (all_delivered nodes nothing order) full
  schedule-begins full outputs f order = orders-begin full (covers full outputs f) order nothing (λ l. tt)

  -- no deadlock: where no message is under way, all have come
  pub nothing-under_way : (full mail : Mail) (outputs : Number → A) → Finishes nodes full outputs → MailBegins (posted nodes mail) mail → MailBegins full mail
  nothing-under_way full mail outputs f k l = begins-trans _ _ _ (f.all l) (rounds-begin mail k f.count nothing (λ j. tt) l)

  -- so a schedule after which none is under way has delivered the full run
  pub complete-is : (full : Mail) (outputs : Number → A) → Finishes nodes full outputs → (order : List Link) →
      let mail = all_delivered nodes nothing order in
      MailBegins (posted nodes mail) mail → (l : Link) → mail l ≡ full l
  complete-is full outputs f order k l = begins-both _ _ (schedule-begins full outputs f order l) (nothing-under_way full _ outputs f k l)

  -- three nodes: where each list received begins what its sender sent, all is of the full run
  pub nodes-agree : (full mail : Mail) (outputs : Number → A) → Finishes nodes full outputs → MailBegins mail (posted nodes mail) → MailAgrees mail full
  nodes-agree full mail outputs f h l = agree-shorter (full l) (rounds nodes f.count nothing l) (mail l) (f.all l) (rounds-agree mail h f.count l)

  pub nodes-sent : (full mail : Mail) (outputs : Number → A) → Finishes nodes full outputs → MailBegins mail (posted nodes mail)
      → MailBegins (posted nodes mail) full
  nodes-sent full mail outputs f h l =
      subst (λ v. Begins (posted nodes mail l) v) (f.sent l)
      (begins-on_link l _ _ (run-most (nodes (sender_of l)) _ _ (into-agree (sender_of l) mail full (nodes-agree full mail outputs f h))
      (ended-is full outputs f (sender_of l))))

  pub nodes-opened : (full mail : Mail) (outputs : Number → A) → Finishes nodes full outputs → MailBegins mail (posted nodes mail) → (i : Number)
      → Begins (opened_by nodes mail i) (opened_by nodes full i)
  nodes-opened full mail outputs f h i =
      begins-opened _ _ (run-most (nodes i) _ _ (into-agree i mail full (nodes-agree full mail outputs f h)) (ended-is full outputs f i))

-- ---- one protocol after another

rounds-add : {A : Type 0} (nodes : Number → Strand A) (k c : ℕ) (l : Link) → rounds nodes (k + c) nothing l ≡ rounds nodes k (rounds nodes c nothing) l
rounds-add nodes zero c l = let e : zero + c ≡ c = omega arith in ap (λ n. rounds nodes n nothing l) e
rounds-add nodes (suc k) c l =
    let e : suc k + c ≡ suc (k + c) = omega arith in
    ap (λ n. rounds nodes n nothing l) e ∙ ap (λ m. posted nodes m l) (λ d. λ j. rounds-add nodes k c j d)

pub into-added : (i : Number) (x y : Mail) → into i (added x y) ≡ added (into i x) (into i y)
into-added i x y = λ d. λ l. at_link l d
  where
    at_link : (l : Link) → into i (added x y) l ≡ added (into i x) (into i y) l
    at_link l = elim (is_same (receiver_of l) i) as (λ b. (if b then x l ++ y l else []) ≡ (if b then x l else []) ++ (if b then y l else []))
        [ true ↦ refl | false ↦ refl ]

module _ {A B : Type 0} (first : Number → Strand A) (next : Number → A → Strand B) (full : Mail) (outputs : Number → A) (f : Finishes first full outputs) where
  abbrev pub both : Number → Strand B
  both i = then_do (first i) (next i)

  abbrev pub second : Number → Strand B
  second i = next i (outputs i)

  pub run-both : (mail : Mail) (i : Number) → run_of both (added full mail) i ≡ followed (run_of first full i) (run_of second mail i)
  run-both mail i =
      ap (run (both i)) (into-added i full mail)
      ∙ run-then (first i) (next i) (into i full) (into i mail) (outputs i) (f.ended i)
      ∙ ap (λ u. followed (run_of first full i) (run (second i) (added u (into i mail)))) (f.read i)

  pub posted-both : (mail : Mail) (l : Link) → posted both (added full mail) l ≡ full l ++ posted second mail l
  posted-both mail l =
      ap (λ r. on_link l r.acts) (run-both mail (sender_of l))
      ∙ on_link-append l (run_of first full (sender_of l)).acts (run_of second mail (sender_of l)).acts
      ∙ ap (λ v. v ++ posted second mail l) (f.sent l)

  full-then : (mail : Mail) → MailBegins full (added full mail)
  full-then mail l = begins-append (full l) (mail l)

  -- the first run's rounds come in both
  first-more : (x y : Mail) → MailBegins x y → MailBegins (posted first x) (posted both y)
  first-more x y h l =
      begins-trans _ _ _ (posted-more first x y h l)
      (begins-on_link l _ _ (then-begins (first (sender_of l)) (next (sender_of l)) (into (sender_of l) y)))

  first-rounds : (k : ℕ) → MailBegins (rounds first k nothing) (rounds both k nothing)
  first-rounds zero l = tt
  first-rounds (suc k) l = first-more (rounds first k nothing) (rounds both k nothing) (first-rounds k) l

  first-done : MailBegins full (rounds both f.count nothing)
  first-done l = begins-trans _ _ _ (f.all l) (first-rounds f.count l)

  -- and then the second's after them
  second-rounds : (k : ℕ) → MailBegins (added full (rounds second k nothing)) (rounds both k (rounds both f.count nothing))
  second-rounds zero l = subst (λ v. Begins v (rounds both f.count nothing l)) (sym (append-none (full l))) (first-done l)
  second-rounds (suc k) l =
      subst (λ v. Begins v (posted both (rounds both k (rounds both f.count nothing)) l)) (posted-both (rounds second k nothing) l)
      (posted-more both (added full (rounds second k nothing)) (rounds both k (rounds both f.count nothing)) (second-rounds k) l)

  -- three miners that run one protocol to its end and then another run both to the end
  pub finishes-both : (full2 : Mail) (outputs2 : Number → B) → Finishes second full2 outputs2 → Finishes both (added full full2) outputs2
  finishes-both full2 outputs2 g =
      record {
        sent = λ l. posted-both full2 l ∙ ap (λ v. full l ++ v) (g.sent l);
        ended = λ i. ap (λ r. r.left) (run-both full2 i) ∙ g.ended i;
        read = λ i. ap (λ r. r.unread) (run-both full2 i) ∙ g.read i;
        count = g.count + f.count;
        all = λ l. subst (λ v. Begins (full l ++ full2 l) v) (sym (rounds-add both g.count f.count l))
            (begins-trans _ _ _ (begins-under (full l) (full2 l) (rounds second g.count nothing l) (g.all l)) (second-rounds g.count l));
      }
