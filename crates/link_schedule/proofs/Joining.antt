-- Three miners are parts of their net, and stay so.
use Rattle.std.proofs.Common.{◌≡◌, ◌≢◌, ℕ, ◌+◌, ◌≤◌, Bool, true, false, if◌then◌else◌, List, [], ◌∷◌, ◌++◌, length, inl, inr}
use Rattle.std.proofs.Common.{refl, sym, ◌∙◌, ap, subst, arith}
use Rattle.std.proofs.lemmas.List.{append_assoc}
use Rattle.std.specs.Prelude.{slice_get, Option, Some, None, IfSome, IfNone}
use Rattle.proto_core.specs.declared.party.Number.{Number}
use Rattle.proto_core.specs.declared.party.Number.TheVariants.{One, Two, Three}
use Rattle.proto_core.specs.declared.link.Link.{Link}
use Rattle.proto_core.specs.declared.link.Link.TheVariants.{Link12, Link13, Link21, Link23, Link31, Link32}
use Rattle.proto_core.specs.Parties.{sender_of, receiver_of, is_same, from_previous}
use Rattle.proto_core.specs.Strand.{same_link, Mail, run, on_link}
use Rattle.proto_core.specs.Net.{into, added, nothing, mail_of, under_way, all_delivered, MailBegins}
use Rattle.proto_core.specs.Standing.{AtItsEnd}
use Rattle.proto_core.proofs.Beginnings.{append-none}
use Rattle.proto_core.proofs.Nodes.{mail-none}
use Rattle.protocol_model.specs.Network.{Counts, one_more, waits_for}
use Rattle.protocol_model.proofs.NetCounts.{counts-delivered, lt_from}
use Rattle.miner_core.specs.Meaning.{fuel}
use Rattle.miner_core.specs.Places.{first_place}
use Rattle.miner_core.specs.OwnCode.{own_code}
use Rattle.miner_core.specs.Story.{Story, received, mail_in, strand_in, node, stands_at}
use Rattle.link_schedule.specs.Net.{Own, NetState, nodes_in, net_mail, net_node, net_posted, is_under_way, after}
use Rattle.link_schedule.specs.Parts.{Stories, story_in, own_of, state_of, AreAlike, IsFresh, Takes, TakesIf, Comes, sent_in, IsAt, IsPart, IsNet}
use Rattle.link_schedule.proofs.Deliveries.{just, delivered-all, no_more, comes_to, passes_by, added_none, SameNode, late_same, is_number}
use Rattle.link_schedule.proofs.Deliveries.{next_found, found_is_more, none_is_all, came_sent}

-- ---- deliveries one after another

pub after_mail : (net : NetState) (links : List Link) → net_mail (after net links) ≡ all_delivered (nodes_in net) (net_mail net) links
unfolding net_mail
after_mail net links = delivered-all (nodes_in net) nothing net.delivered links

-- no more came on a link than there were deliveries
pub few_came : (net : NetState) (l : Link) → length (net_mail net l) ≤ length net.delivered
unfolding net_mail
few_came net l = let n = no_more (nodes_in net) nothing net.delivered l in omega arith

pub came_was_sent : (net : NetState) → MailBegins (net_mail net) (net_posted net)
unfolding net_mail
came_was_sent net = came_sent (nodes_in net) net.delivered nothing (λ l. tt)

-- ---- a part of a net

module _ (net : NetState) (i : Number) (s : Story) (p : IsPart net i s) where
  strand_is : strand_in i s ≡ nodes_in net i
  strand_is =
      ap (λ w. own_code w s.code i s.dealt (fuel s.code s.budget) (first_place s.code s.budget) [] s.tape) p.world
      ∙ ap (λ c. own_code net.world c i s.dealt (fuel c s.budget) (first_place c s.budget) [] s.tape) p.code
      ∙ ap (λ b. own_code net.world net.code i s.dealt (fuel net.code b) (first_place net.code b) [] s.tape) p.budget
      ∙ ap (λ (o : Own). own_code net.world net.code i o.dealt (fuel net.code net.budget) (first_place net.code net.budget) [] o.tape) p.own

  node_is : run (strand_in i s) (added (mail_in i s) p.late) ≡ net_node net i
  node_is = ap (run (strand_in i s)) (sym p.came) ∙ ap (λ v. run v (into i (net_mail net))) strand_is

  pub part_at : IsAt net i s
  part_at =
      let same = subst (λ r. SameNode (node i s) r) node_is (late_same (strand_in i s) (mail_in i s) p.late p.none_late) in
      record { going = p.going; budget = p.budget; acts = same.acts; left = same.left; stands = same.stands }

pub sent_is : (net : NetState) (m : Stories) → ((i : Number) → IsPart net i (story_in m i)) → (l : Link) → sent_in m l ≡ net_posted net l
sent_is net m parts l = ap (on_link l) (part_at net (sender_of l) (story_in m (sender_of l)) (parts (sender_of l))).acts

-- ---- what a miner was made with stays

record SameMade (s t : Story) : Type 0 where
  pub world : t.world ≡ s.world
  pub code : t.code ≡ s.code
  pub budget : t.budget ≡ s.budget
  pub own : own_of t ≡ own_of s
  pub lost : t.lost ≡ s.lost

made_self : (s : Story) → SameMade s s
made_self s = record { world = refl; code = refl; budget = refl; own = refl; lost = refl }

received_made : (i : Number) (s : Story) (l : Link) (m : List ℕ) → SameMade s (received i s l m)
received_made i s l m =
    elim (same_link (from_previous i) l) as
    (λ b. SameMade s (if b then record s { from_previous = s.from_previous ++ m ∷ [] } else record s { from_next = s.from_next ++ m ∷ [] })) [
      | true ↦ record { world = refl; code = refl; budget = refl; own = refl; lost = refl }
      | false ↦ record { world = refl; code = refl; budget = refl; own = refl; lost = refl }
    ]

takes_made : (b : Bool) (i : Number) (s t : Story) (l : Link) (m : List ℕ) → TakesIf b i s t l m → SameMade s t
takes_made true i s t l m (inl h) = subst (λ v. SameMade s v) (sym h.1) (received_made i s l m)
takes_made true i s t l m (inr h) = subst (λ v. SameMade s v) (sym h.1) (made_self s)
takes_made false i s t l m h = subst (λ v. SameMade s v) (sym h) (made_self s)

comes_made : (a b : Stories) (l : Link) (m : List ℕ) → Comes a b l m → (i : Number) → SameMade (story_in a i) (story_in b i)
comes_made a b l m h i = takes_made (is_same (receiver_of l) i) i (story_in a i) (story_in b i) l m (h i)

state_same : (a b : Stories) → ((i : Number) → SameMade (story_in a i) (story_in b i)) → (links : List Link) (lost : Bool) →
    state_of b links lost ≡ state_of a links lost
state_same a b h links lost =
    let world = (h One).world in
    let code = (h One).code in
    let budget = (h One).budget in
    let one = (h One).own in
    let two = (h Two).own in
    let three = (h Three).own in
    cc

-- ---- a message comes

-- each message stands on one of the receiver's two links
mail_more : (s : Story) (l : Link) (m : List ℕ) (k : Link) →
    mail_in (receiver_of l) (received (receiver_of l) s l m) k ≡ added (mail_in (receiver_of l) s) (just l m) k
mail_more s Link12 m Link12 = refl
mail_more s Link13 m Link13 = refl
mail_more s Link21 m Link21 = refl
mail_more s Link23 m Link23 = refl
mail_more s Link31 m Link31 = refl
mail_more s Link32 m Link32 = refl
mail_more s _ m _ = sym (append-none _)

mail_received : (i : Number) (s : Story) (l : Link) (m : List ℕ) → receiver_of l ≡ i → mail_in i (received i s l m) ≡ added (mail_in i s) (just l m)
mail_received i s l m e = subst (λ j. mail_in j (received j s l m) ≡ added (mail_in j s) (just l m)) e (λ d. λ k. mail_more s l m k d)

module _ (net : NetState) (l : Link) (m : List ℕ) (is : under_way (nodes_in net) (net_mail net) l ≡ m ∷ [])
    (i : Number) (s t : Story) (p : IsPart net i s) where
  came_to : is_same (receiver_of l) i ≡ true → into i (net_mail (after net (l ∷ []))) ≡ added (added (mail_in i s) p.late) (just l m)
  came_to to = ap (into i) (after_mail net (l ∷ [])) ∙ comes_to (nodes_in net) (net_mail net) l m is i to ∙ ap (λ v. added v (just l m)) p.came

  keeps : (late : Mail) → SameMade s t → into i (net_mail (after net (l ∷ []))) ≡ added (mail_in i t) late →
      (stands_at i t ≢ AtItsEnd → late ≡ nothing) → IsPart (after net (l ∷ [])) i t
  keeps late made came none =
      record {
        world = made.world ∙ p.world;
        code = made.code ∙ p.code;
        budget = made.budget ∙ p.budget;
        own = made.own ∙ p.own;
        going = made.lost ∙ p.going;
        late = late;
        came = came;
        none_late = none;
      }

  pub part_after : TakesIf (is_same (receiver_of l) i) i s t l m → IsPart (after net (l ∷ [])) i t
  part_after h = by_test (is_same (receiver_of l) i) refl h
    where
      by_taken : is_same (receiver_of l) i ≡ true → Takes i s t l m → IsPart (after net (l ∷ [])) i t
      by_taken to (inl g) =
          keeps nothing (takes_made true i s t l m (inl g))
          (came_to to ∙ ap (λ v. added (added (mail_in i s) v) (just l m)) (p.none_late g.0)
          ∙ ap (λ v. added v (just l m)) (added_none (mail_in i s))
          ∙ sym (mail_received i s l m (is_number (receiver_of l) i to))
          ∙ ap (mail_in i) (sym g.1)
          ∙ sym (added_none (mail_in i t)))
          (λ going. refl)
      by_taken to (inr g) =
          keeps (added p.late (just l m)) (takes_made true i s t l m (inr g))
          (came_to to ∙ added_twice (mail_in i s) p.late (just l m) ∙ ap (λ v. added (mail_in i v) (added p.late (just l m))) (sym g.1))
          (λ going. absurd (going (ap (stands_at i) g.1 ∙ g.0)))
        where
          added_twice : (x y z : Mail) → added (added x y) z ≡ added x (added y z)
          added_twice x y z = λ d. λ k. append_assoc (x k) (y k) (z k) d

      by_test : (b : Bool) → is_same (receiver_of l) i ≡ b → TakesIf b i s t l m → IsPart (after net (l ∷ [])) i t
      by_test true to g = by_taken to g
      by_test false to g =
          keeps p.late (takes_made false i s t l m g)
          (ap (into i) (after_mail net (l ∷ [])) ∙ passes_by (nodes_in net) (net_mail net) l m is i to ∙ p.came ∙ ap (λ v. added (mail_in i v) p.late) (sym g))
          (λ going. p.none_late (subst (λ v. stands_at i v ≢ AtItsEnd) g going))

-- ---- all three

pub record IsDelivered (m m2 : Stories) (g2 : Counts) (links : List Link) (was : Bool) (l : Link) : Type 0 where
  pub net : IsNet (state_of m2 (links ++ l ∷ []) false) m2 g2
  pub state : state_of m2 (links ++ l ∷ []) false ≡ after (state_of m links was) (l ∷ [])

module _ (m m2 : Stories) (g g2 : Counts) (links : List Link) (was : Bool) (l : Link) (msg : List ℕ) (going : was ≡ false) where
  abbrev before : NetState
  before = state_of m links was

  pub delivered_net :
      IsNet before m g → is_under_way before l ≡ true → under_way (nodes_in before) (net_mail before) l ≡ msg ∷ [] → Comes m m2 l msg →
      ((k : Link) → g2 k ≡ one_more l g k) → IsDelivered m m2 g2 links was l
  delivered_net net full is comes given =
      let state : state_of m2 (links ++ l ∷ []) false ≡ after before (l ∷ []) =
      ap (state_of m2 (links ++ l ∷ [])) (sym going) ∙ state_same m m2 (comes_made m m2 l msg comes) (links ++ l ∷ []) was in
      record {
        net = subst (λ n. IsNet n m2 g2) (sym state)
            (record {
              parts = λ i. part_after before l msg is i (story_in m i) (story_in m2 i) (net.parts i) (comes i);
              counted = λ k.
                  given k
                  ∙ ap (λ n. if same_link l k then n + 1 else n) (net.counted k)
                  ∙ sym (ap (λ (c : Link → ℕ). c k) (counts-delivered (nodes_in before) (net_mail before) l (lt_from _ _ full)))
                  ∙ sym (ap (λ (x : Mail). length (x k)) (after_mail before (l ∷ [])));
            });
        state = state;
      }

-- a message that was under way has come to three miners of this net, with this schedule after it
pub record GivenTo (net : NetState) (m : Stories) (g : Counts) (links : List Link) (l : Link) : Type 0 where
  pub net_is : IsNet (state_of m links false) m g
  pub state : state_of m links false ≡ after net (l ∷ [])

pub given_to : (net : NetState) (m m2 : Stories) (g g2 : Counts) (links more : List Link) (was : Bool) (l : Link) (msg : List ℕ) →
    state_of m links was ≡ net → IsNet net m g → net.lost ≡ false → is_under_way net l ≡ true → under_way (nodes_in net) (net_mail net) l ≡ msg ∷ [] →
    more ≡ links ++ l ∷ [] → Comes m m2 l msg → ((k : Link) → g2 k ≡ one_more l g k) → GivenTo net m2 g2 more l
given_to net m m2 g g2 links more was l msg view net_is going full is more_is comes given =
    let d =
    delivered_net m m2 g g2 links was l msg (ap (λ (n : NetState). n.lost) view ∙ going) (subst (λ n. IsNet n m g) (sym view) net_is)
    (subst (λ n. is_under_way n l ≡ true) (sym view) full) (subst (λ n. under_way (nodes_in n) (net_mail n) l ≡ msg ∷ []) (sym view) is) comes given in
    record {
      net_is = subst (λ ls. IsNet (state_of m2 ls false) m2 g2) (sym more_is) d.net;
      state = ap (λ ls. state_of m2 ls false) more_is ∙ d.state ∙ ap (λ n. after n (l ∷ [])) view;
    }

-- for which link a miner of the net waits
pub waits_is : (net : NetState) (m : Stories) (g : Counts) → IsNet net m g → (i : Number) (o : Option Link) → o ≡ waits_for (node i (story_in m i)).left →
    waits_for (net_node net i).left ≡ o
waits_is net m g n i o e = sym (e ∙ ap waits_for (part_at net i (story_in m i) (n.parts i)).left)

-- the message that is under way, if one is
module _ (net : NetState) (m : Stories) (g : Counts) (n : IsNet net m g) (l : Link) where
  asked : slice_get (sent_in m l) (g l) ≡ slice_get (net_posted net l) (length (net_mail net l))
  asked = ap (λ xs. slice_get xs (g l)) (sent_is net m n.parts l) ∙ ap (slice_get (net_posted net l)) (n.counted l)

  pub some_under_way : (o : Option (List ℕ)) → o ≡ slice_get (sent_in m l) (g l) →
      IfSome o (λ msg. (is_under_way net l ≡ true) × (under_way (nodes_in net) (net_mail net) l ≡ msg ∷ []))
  some_under_way None e = tt
  some_under_way (Some msg) e =
      let found = sym (e ∙ asked) in
      (found_is_more (net_mail net l) (net_posted net l) msg found, next_found (net_mail net l) (net_posted net l) msg found)

  pub none_under_way : (o : Option (List ℕ)) → o ≡ slice_get (sent_in m l) (g l) → IfNone o (is_under_way net l ≡ false)
  none_under_way None e = none_is_all (net_mail net l) (net_posted net l) (sym (e ∙ asked))
  none_under_way (Some msg) e = tt

-- ---- before the first delivery

into_nothing : (i : Number) → into i nothing ≡ nothing
into_nothing i = λ d. λ l. at_link l d
  where
    at_link : (l : Link) → into i nothing l ≡ nothing l
    at_link l = elim (is_same (receiver_of l) i) as (λ b. (if b then nothing l else []) ≡ nothing l) [ true ↦ refl | false ↦ refl ]

fresh_came : (i : Number) (s : Story) → IsFresh s → into i nothing ≡ added (mail_in i s) nothing
fresh_came i s f =
    into_nothing i
    ∙ sym (added_none (mail_in i s) ∙ ap (λ p. mail_of i p s.from_next) f.from_previous ∙ ap (mail_of i []) f.from_next ∙ mail-none i)

module _ (m : Stories) (two : AreAlike m.one m.two) (three : AreAlike m.one m.three)
    (one_fresh : IsFresh m.one) (two_fresh : IsFresh m.two) (three_fresh : IsFresh m.three) where
  first_part : (i : Number) → IsPart (state_of m [] false) i (story_in m i)
  unfolding net_mail
  first_part One =
      record {
        world = refl;
        code = refl;
        budget = refl;
        own = refl;
        going = one_fresh.going;
        late = nothing;
        came = fresh_came One m.one one_fresh;
        none_late = λ h. refl;
      }
  first_part Two =
      record {
        world = two.world;
        code = two.code;
        budget = two.budget;
        own = refl;
        going = two_fresh.going;
        late = nothing;
        came = fresh_came Two m.two two_fresh;
        none_late = λ h. refl;
      }
  first_part Three =
      record {
        world = three.world;
        code = three.code;
        budget = three.budget;
        own = refl;
        going = three_fresh.going;
        late = nothing;
        came = fresh_came Three m.three three_fresh;
        none_late = λ h. refl;
      }

  pub first_net : (g : Counts) → ((l : Link) → g l ≡ 0) → IsNet (state_of m [] false) m g
  unfolding net_mail
  first_net g h = record { parts = first_part; counted = h }
