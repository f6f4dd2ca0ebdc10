-- A net whose miners draw, by what it holds; and a message that comes.
use Rattle.std.proofs.Common.{◌≡◌, ◌≤◌, ℕ, true, false, List, [], ◌∷◌, ◌++◌, length, arith, refl, sym, ◌∙◌, ap, subst}
use Rattle.std.specs.Prelude.{Option, Some, None, Result, Ok, Err, OnOk}
use Rattle.outside.specs.Tapes.{TapesState}
use Rattle.proto_core.specs.declared.party.Number.{Number}
use Rattle.proto_core.specs.declared.party.Number.TheVariants.{One, Two, Three}
use Rattle.proto_core.specs.declared.link.Link.{Link}
use Rattle.proto_core.specs.Net.{under_way}
use Rattle.protocol_model.specs.Network.{Counts, one_more}
use Rattle.protocol_model.specs.Runs.{Tapes}
use Rattle.miner_core.specs.declared.answer.Lost.{Lost}
use Rattle.miner_core.specs.declared.answer.Lost.TheVariants as lost
use Rattle.miner_core.specs.Drawing.{left_for}
use Rattle.miner_core.specs.Streams.{StreamState, has_lost, with_tape}
use Rattle.link_schedule.specs.Net.{NetState, nodes_in, net_mail, is_under_way, after}
use Rattle.link_schedule.specs.Parts.{AreAlike, IsFresh, IsAt, IsNet, story_in, state_of}
use Rattle.link_schedule.specs.Streams.{StreamNet, ThreeStreams, miner_in, stories_with, drawn_in, ahead_in, past_in, with_tapes, net_of, AreTapesOf}
use Rattle.link_schedule.specs.Streams.{MayHave, ForEachTapes, HasLeft, IsFreshStream, IsMinerOf}
use Rattle.link_schedule.specs.Streams.{Along}
use Rattle.link_schedule.specs.Coming.{drawn_by, left_to, AreOfUse, Come, ComesTo, AreNet}
use Rattle.link_schedule.proofs.Along.{some_net}
use Rattle.link_schedule.proofs.Coming.{story_at}
use Rattle.link_schedule.proofs.Drawing.{both, filled_tapes, tapes_by, tapes_earlier}
use Rattle.link_schedule.proofs.Joining.{GivenTo, few_came, first_net, given_to, part_at}

-- ---- by what it holds

-- three miners, the links of the deliveries, how many came on each, and why it is of no further use
pub record Held : Type 0 where
  pub miners : ThreeStreams
  pub links : List Link
  pub given : Counts
  pub lost : Option Lost

drawn_at : (m : ThreeStreams) (links : List Link) (lost : Option Lost) (i : Number) → drawn_in (net_of m links lost) i ≡ drawn_by m i
drawn_at m links lost One = refl
drawn_at m links lost Two = refl
drawn_at m links lost Three = refl

ahead_at : (m : ThreeStreams) (links : List Link) (lost : Option Lost) (i : Number) → ahead_in (net_of m links lost) i ≡ left_to m i
ahead_at m links lost One = refl
ahead_at m links lost Two = refl
ahead_at m links lost Three = refl

past_at : (m : ThreeStreams) (links : List Link) (lost : Option Lost) (i : Number) → past_in (net_of m links lost) i ≡ (miner_in m i).past
past_at m links lost One = refl
past_at m links lost Two = refl
past_at m links lost Three = refl

may_of : (m : ThreeStreams) (links : List Link) (lost : Option Lost) (tapes : Tapes) → MayHave (net_of m links lost) tapes → AreTapesOf (drawn_by m) (left_to m) tapes
may_of m links lost tapes may =
    tapes_by (drawn_in (net_of m links lost)) (drawn_by m) (ahead_in (net_of m links lost)) (left_to m)
    (drawn_at m links lost) (ahead_at m links lost) tapes may

pub may_with : (m : ThreeStreams) (links : List Link) (lost : Option Lost) (tapes : Tapes) → AreTapesOf (drawn_by m) (left_to m) tapes →
    MayHave (net_of m links lost) tapes
may_with m links lost tapes of =
    tapes_by (drawn_by m) (drawn_in (net_of m links lost)) (left_to m) (ahead_in (net_of m links lost)) (λ i. sym (drawn_at m links lost i))
    (λ i. sym (ahead_at m links lost i)) tapes of

-- what is known of it with tapes that the net may have
pub record InNet (s : StreamNet) (n : Held) (tapes : Tapes) : Type 0 where
  pub usable : AreOfUse n.miners
  pub may : AreTapesOf (drawn_by n.miners) (left_to n.miners) tapes
  pub net : IsNet (with_tapes s tapes) (stories_with n.miners tapes) n.given

module _ (s : StreamNet) (n : Held) (view : net_of n.miners n.links n.lost ≡ s) (is : n.lost ≡ None → AreNet n.miners n.links n.given)
    (going : s.lost ≡ None) where
  of_use : n.lost ≡ None
  of_use = ap (λ (x : StreamNet). x.lost) view ∙ going

  pub use_at : AreOfUse n.miners
  use_at = (is of_use).going

  pub net_at : (tapes : Tapes) → MayHave s tapes → InNet s n tapes
  net_at tapes may =
      subst (λ x. MayHave x tapes → InNet x n tapes) view
      (λ h. record {
        usable = use_at;
        may = may_of n.miners n.links n.lost tapes h;
        net =
            subst (λ l. IsNet (state_of (stories_with n.miners tapes) n.links (has_lost l)) (stories_with n.miners tapes) n.given) (sym of_use)
            ((is of_use).net tapes (may_of n.miners n.links n.lost tapes h));
      })
      may

  pub miner_at : (i : Number) → IsMinerOf s i (miner_in n.miners i)
  miner_at i =
      record {
        going = use_at i;
        drawn = sym (drawn_at n.miners n.links n.lost i) ∙ ap (λ (x : StreamNet). drawn_in x i) view;
        ahead = sym (ahead_at n.miners n.links n.lost i) ∙ ap (λ (x : StreamNet). ahead_in x i) view;
        at = λ tapes may.
            subst (IsAt (with_tapes s tapes) i) (story_at n.miners tapes i)
            (part_at (with_tapes s tapes) i (story_in (stories_with n.miners tapes) i) ((net_at tapes may).net.parts i));
      }

  -- the source has the words that are left to the miners
  pub left_at : (a : TapesState) → HasLeft s a → (i : Number) → left_for i a ≡ left_to n.miners i
  left_at a left i = left going i ∙ sym (ap (λ (x : StreamNet). ahead_in x i) view) ∙ ahead_at n.miners n.links n.lost i

  -- no more came on a link than there were deliveries
  pub given_few : (l : Link) → n.given l ≤ length n.links
  given_few l =
      let tapes = filled_tapes (drawn_in s) (ahead_in s) in
      let counted = (net_at tapes (some_net s)).net.counted l in
      let few = few_came (with_tapes s tapes) l in
      let same = ap (λ (x : StreamNet). length x.delivered) view in
      omega (arith, counted, few, same)

-- ---- before the first delivery

fresh_story : (m : StreamState) (tape : List ℕ) → IsFreshStream m → IsFresh (with_tape m tape)
fresh_story m tape f = record { from_previous = f.from_previous; from_next = f.from_next; going = ap has_lost f.going }

pub fresh_net : (m : ThreeStreams) → AreAlike m.one.story m.two.story → AreAlike m.one.story m.three.story → IsFreshStream m.one → IsFreshStream m.two →
    IsFreshStream m.three → (g : Counts) → ((l : Link) → g l ≡ 0) → AreNet m [] g
fresh_net m two three f1 f2 f3 g none_given = record { going = going; net = net }
  where
    going : AreOfUse m
    going One = f1.going
    going Two = f2.going
    going Three = f3.going

    net : (tapes : Tapes) → AreTapesOf (drawn_by m) (left_to m) tapes → IsNet (state_of (stories_with m tapes) [] false) (stories_with m tapes) g
    net tapes of =
        first_net (stories_with m tapes) (record { world = two.world; code = two.code; budget = two.budget })
        (record { world = three.world; code = three.code; budget = three.budget }) (fresh_story m.one (tapes One) f1) (fresh_story m.two (tapes Two) f2)
        (fresh_story m.three (tapes Three) f3) g none_given

-- ---- a message comes

module _ (s : StreamNet) (n : Held) (view : net_of n.miners n.links n.lost ≡ s) (is : n.lost ≡ None → AreNet n.miners n.links n.given)
    (going : s.lost ≡ None) (m2 : ThreeStreams) (a b : TapesState) (l : Link) (msg : List ℕ) where
  abbrev Delivered : Result (Unit {0}) Lost → NetState → NetState → Type 0
  Delivered r x y = OnOk r (y ≡ after x (l ∷ []))

  -- it is lost
  pub given_not : (why : Lost) (links : List Link) → ComesTo l msg n.miners m2 a b (Err why) →
      Along s (net_of m2 links (Some why)) a b (Some why) (Delivered (Err why))
  given_not why links c =
      record {
        taken = c.taken;
        drew = c.drew;
        state = record { state = refl; cause = c.err };
        holds = λ tapes of. tt;
        still = c.still;
      }

  -- memory runs out when it has come
  pub given_late : (links : List Link) → ComesTo l msg n.miners m2 a b (Ok tt) →
      Along s (net_of m2 links (Some lost.Memory)) a b (Some lost.Memory) (Delivered (Err lost.Memory))
  given_late links c =
      record {
        taken = c.taken;
        drew = c.drew;
        state = record { state = refl; cause = tt };
        holds = λ tapes of. tt;
        still = c.still;
      }

  module _ (left : HasLeft s a) (full : ForEachTapes s (λ net. is_under_way net l ≡ true))
      (message : ForEachTapes s (λ net. under_way (nodes_in net) (net_mail net) l ≡ msg ∷ [])) (more : List Link) (more_is : more ≡ n.links ++ l ∷ [])
      (g2 : Counts) (counted : (k : Link) → g2 k ≡ one_more l n.given k) (c : ComesTo l msg n.miners m2 a b (Ok tt)) where
    abbrev came : Come l msg n.miners m2 a b c.taken
    came = c.ok

    drawn_so : (i : Number) → drawn_by m2 i ≡ drawn_in s i ++ c.taken i
    drawn_so i =
        came.drawn i ∙ ap (λ w. w ++ c.taken i) (sym (drawn_at n.miners n.links n.lost i) ∙ ap (λ (x : StreamNet). drawn_in x i) view)

    -- with tapes that it may have now
    given_with : (tapes : Tapes) → AreTapesOf (drawn_by m2) (left_to m2) tapes → GivenTo (with_tapes s tapes) (stories_with m2 tapes) g2 more l
    given_with tapes of =
        let all : AreTapesOf (both (drawn_in s) c.taken) (λ i. left_for i b) tapes =
        tapes_by (drawn_by m2) (both (drawn_in s) c.taken) (left_to m2) (λ i. left_for i b) drawn_so (λ i. sym (came.left i)) tapes of in
        let may : MayHave s tapes =
        tapes_by (drawn_in s) (drawn_in s) (λ i. left_for i a) (ahead_in s) (λ i. refl) (left going) tapes
        (tapes_earlier a b (drawn_in s) c.taken c.drew tapes all) in
        let here = net_at s n view is going tapes may in
        given_to (with_tapes s tapes) (stories_with n.miners tapes) (stories_with m2 tapes) n.given g2 n.links more (has_lost n.lost) l msg
        (ap (λ x. with_tapes x tapes) view) here.net (ap has_lost going) (full going tapes may) (message going tapes may) more_is (came.comes tapes of) counted

    pub given_net : AreNet m2 more g2
    given_net = record { going = came.going; net = λ tapes of. (given_with tapes of).net_is }

    pub given_along : Along s (net_of m2 more None) a b None (Delivered (Ok tt))
    given_along =
        record {
          taken = c.taken;
          drew = c.drew;
          state = record {
            going = refl;
            drawn = λ i. drawn_at m2 more None i ∙ drawn_so i;
            left = λ i. came.left i ∙ sym (ahead_at m2 more None i);
            past = λ i.
                past_at m2 more None i ∙ came.past i ∙ sym (past_at n.miners n.links n.lost i) ∙ ap (λ (x : StreamNet). past_in x i) view;
          };
          holds = λ tapes of.
              (given_with tapes (tapes_by (both (drawn_in s) c.taken) (drawn_by m2) (λ i. left_for i b) (left_to m2)
              (λ i. sym (drawn_so i)) came.left tapes of)).state;
          still = c.still;
        }
