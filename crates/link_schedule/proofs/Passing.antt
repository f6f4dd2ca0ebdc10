-- Messages that pass from one lean miner to another.
use Rattle.std.proofs.Common.{◌≡◌, ◌<◌, ℕ, Bool, true, false, if◌then◌else◌, List, [], length, get_or, refl, sym, ◌∙◌, ap, subst}
use Rattle.std.proofs.lemmas.Option.{slice_get-get_or}
use Rattle.std.specs.Prelude.{slice_get, option_map, Option, Some, None, Result, OnOk}
use Rattle.outside.specs.Tapes.{TapesState}
use Rattle.proto_core.specs.declared.party.Number.{Number}
use Rattle.proto_core.specs.declared.link.Link.{Link}
use Rattle.proto_core.specs.declared.link.Link.TheVariants.{Link12, Link13, Link21, Link23, Link31, Link32}
use Rattle.proto_core.specs.Parties.{sender_of, receiver_of, is_same}
use Rattle.protocol_model.specs.Network.{one_more}
use Rattle.protocol_model.specs.Runs.{Tapes}
use Rattle.gate_node.specs.Nodes.{IsTapeOf}
use Rattle.miner_core.specs.declared.answer.Lost.{Lost}
use Rattle.miner_core.specs.Drawing.{left_for}
use Rattle.miner_core.specs.Miners.{MinerSeen, MinerState, IsOf}
use Rattle.miner_core.specs.Story.{Story}
use Rattle.miner_core.specs.Streams.{StreamState, ForEachTape, with_tape}
use Rattle.link_schedule.specs.declared.miners.Miners.{Miners}
use Rattle.link_schedule.specs.Coming.{Gives, ForEachOf, AreOfUse, drawn_by, left_to}
use Rattle.link_schedule.specs.Miners.{Can, MinerStates, Way, streams, sent_on, fetched, fetched_on, way_of, passed, unfetched, AreOf, CanPass, HasPassed}
use Rattle.link_schedule.specs.Parts.{Stories, sent_in, story_in}
use Rattle.link_schedule.specs.Streams.{ThreeStreams, miner_in, AreTapesOf}
use Rattle.link_schedule.proofs.Coming.{comes_to, other_one, other_two, other_three, story_at}
use Rattle.link_schedule.proofs.Deliveries.{is_number, none_is_some, same_number}
use Rattle.link_schedule.proofs.Drawing.{filled, filled_tapes, some_tapes}

-- ---- a miner's tape

-- what is so with each of its tapes can't be otherwise
pub never_at : {P : Type 0} (m : StreamState) (Q : Story → Type 0) → m.lost ≡ None → ForEachTape m Q → ((s : Story) → Q s → ⊥) → P
never_at m Q going each false_of = absurd (false_of _ (each going _ (filled m.story.tape m.ahead)))

-- by what is lent of a message
pub no_words : {A B : Type 0} (f : A → B) (o : Option A) (x : Option B) → o ≡ None → option_map f o ≡ x → None ≡ x
no_words f o x none is = ap (option_map f) (sym none) ∙ is

pub some_words : {A B : Type 0} (f : A → B) (o : Option A) (a : A) (x : Option B) → o ≡ Some a → option_map f o ≡ x → x ≡ Some (f a)
some_words f o a x some is = sym is ∙ ap (option_map f) some

-- where one more was sent than were fetched, there is one
pub none_is_left : {P : Type 0} (m : StreamState) (sent : Story → List (List ℕ)) (k : ℕ) → m.lost ≡ None → ForEachTape m (λ s. k < length (sent s)) →
    ForEachTape m (λ s. None ≡ slice_get (sent s) k) → P
none_is_left m sent k going has none =
    never_at m (λ s. (k < length (sent s)) × (None ≡ slice_get (sent s) k)) going (λ g tape of. (has g tape of, none g tape of))
    (λ s both. none_is_some (get_or (sent s) k []) (both.1 ∙ slice_get-get_or (sent s) k [] both.0))

-- ---- one tape of three

-- this one for a miner, and others that the others may have
abbrev tapes_with : ThreeStreams → Number → List ℕ → Tapes
tapes_with m i tape j = if is_same i j then tape else filled_tapes (drawn_by m) (left_to m) j

may_be : (m : ThreeStreams) (i : Number) (tape : List ℕ) → IsTapeOf (drawn_by m i) (left_to m i) tape → AreTapesOf (drawn_by m) (left_to m) (tapes_with m i tape)
may_be m i tape of j = by_number (is_same i j) refl
  where
    by_number : (b : Bool) → is_same i j ≡ b → IsTapeOf (drawn_by m j) (left_to m j) (if b then tape else filled_tapes (drawn_by m) (left_to m) j)
    by_number true e = subst (λ k. IsTapeOf (drawn_by m k) (left_to m k) tape) (is_number i j e) of
    by_number false e = some_tapes (drawn_by m) (left_to m) j

-- what holds of a miner with all three tapes holds with each of its own
pub each_tape : (m : ThreeStreams) (i : Number) (Q : Story → Type 0) → AreOfUse m → ForEachOf m (λ st. Q (story_in st i)) → ForEachTape (miner_in m i) Q
each_tape m i Q usable each = λ going tape of.
    let tapes = tapes_with m i tape in
    let own : tapes i ≡ tape = ap (λ b. if b then tape else filled_tapes (drawn_by m) (left_to m) i) (same_number i) in
    subst Q (story_at m tapes i ∙ ap (with_tape (miner_in m i)) own) (each usable tapes (may_be m i tape of))

-- and the other way about
pub all_tapes : (m : ThreeStreams) (i : Number) (Q : Story → Type 0) → ForEachTape (miner_in m i) Q → ForEachOf m (λ st. Q (story_in st i))
all_tapes m i Q each = λ usable tapes of. subst Q (sym (story_at m tapes i)) (each (usable i) (tapes i) (of i))

-- ---- links

pub sent_so : (l : Link) (st : Stories) → sent_in st l ≡ sent_on (way_of l) (sender_of l) (story_in st (sender_of l))
sent_so Link12 st = refl
sent_so Link13 st = refl
sent_so Link21 st = refl
sent_so Link23 st = refl
sent_so Link31 st = refl
sent_so Link32 st = refl

pub none_fetched : (one two three : StreamState) (l : Link) → fetched (record { one = unfetched one; two = unfetched two; three = unfetched three }) l ≡ 0
none_fetched one two three Link12 = refl
none_fetched one two three Link13 = refl
none_fetched one two three Link21 = refl
none_fetched one two three Link23 = refl
none_fetched one two three Link31 = refl
none_fetched one two three Link32 = refl

pub one_fetched : (l k : Link) (s : StreamState) (w : MinerStates) → fetched (passed l s w) k ≡ one_more l (fetched w) k
one_fetched Link12 Link12 s w = refl
one_fetched Link13 Link13 s w = refl
one_fetched Link21 Link21 s w = refl
one_fetched Link23 Link23 s w = refl
one_fetched Link31 Link31 s w = refl
one_fetched Link32 Link32 s w = refl
one_fetched _ _ s w = refl

-- the receiver has come to this, and the others stay as they were
receiver_so : (l : Link) (s : StreamState) (w : MinerStates) → miner_in (streams (passed l s w)) (receiver_of l) ≡ s
receiver_so Link12 s w = refl
receiver_so Link13 s w = refl
receiver_so Link21 s w = refl
receiver_so Link23 s w = refl
receiver_so Link31 s w = refl
receiver_so Link32 s w = refl

others_so : (l : Link) (s : StreamState) (w : MinerStates) (j : Number) → is_same (receiver_of l) j ≡ false →
    miner_in (streams (passed l s w)) j ≡ miner_in (streams w) j
others_so Link12 s w j e = other_two (streams w) s j e
others_so Link13 s w j e = other_three (streams w) s j e
others_so Link21 s w j e = other_one (streams w) s j e
others_so Link23 s w j e = other_three (streams w) s j e
others_so Link31 s w j e = other_one (streams w) s j e
others_so Link32 s w j e = other_two (streams w) s j e

-- ---- a message passes

pub between :
    {S R : Type 0} {way : Way} {i j : Number} {l : Link} {from : MinerSeen S} {to : MinerSeen R}
    {w v : MinerState} {a : TapesState} → IsOf i from w → IsOf j to v →
    w.stream.lost ≡ None → v.stream.lost ≡ None → receiver_of l ≡ j → left_for j a ≡ v.stream.ahead →
    ForEachTape w.stream (λ s. fetched_on way w < length (sent_on way i s)) → Can way i j l from to w v a
between sender receiver sending going link left has =
    record { sender = sender; receiver = receiver; sending = sending; going = going; link = link; left = left; has = has }

pub has_passed :
    (l : Link) (m after : Miners) (w : MinerStates) (a b : TapesState) (r : Result (Unit {0}) Lost) → CanPass l m w a → (s : StreamState) (msg : List ℕ) →
    ForEachTape (miner_in (streams w) (sender_of l)) (λ st. slice_get (sent_on (way_of l) (sender_of l) st) (fetched w l) ≡ Some msg) →
    Gives (receiver_of l) l msg (miner_in (streams w) (receiver_of l)) s a b r → OnOk r (AreOf after (passed l s w)) → HasPassed l w after a b r
has_passed l m after w a b r can s msg oldest g are =
    record {
      stream = s;
      message = msg;
      oldest = oldest;
      comes =
          comes_to l msg (streams w) (streams (passed l s w)) a b can.usable can.left (receiver_of l) refl (others_so l s w) r
          (subst (λ x. Gives (receiver_of l) l msg (miner_in (streams w) (receiver_of l)) x a b r) (sym (receiver_so l s w)) g);
      are = are;
    }
