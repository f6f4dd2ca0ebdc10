-- What a message does that comes to one of three miners which draw their tapes.
use Rattle.std.proofs.Common.{◌≡◌, ℕ, ◌+◌, Bool, true, false, if◌then◌else◌, List, [], ◌++◌, length, inl, inr, refl, sym, ◌∙◌, ap, subst, arith}
use Rattle.std.specs.Prelude.{None, Result, Ok, Err}
use Rattle.outside.specs.Tapes.{TapesState, Drew}
use Rattle.proto_core.specs.declared.party.Number.{Number}
use Rattle.proto_core.specs.declared.party.Number.TheVariants.{One, Two, Three}
use Rattle.proto_core.specs.declared.link.Link.{Link}
use Rattle.proto_core.specs.Parties.{count_of, receiver_of, is_same}
use Rattle.proto_core.specs.Standing.{AtItsEnd}
use Rattle.proto_core.proofs.Beginnings.{append-none}
use Rattle.protocol_model.specs.Runs.{Tapes}
use Rattle.gate_node.specs.Nodes.{IsTapeOf}
use Rattle.miner_core.specs.declared.answer.Lost.{Lost}
use Rattle.miner_core.specs.declared.answer.MinerErr.{MinerErr}
use Rattle.miner_core.specs.declared.answer.Step.{Step}
use Rattle.miner_core.specs.declared.answer.MinerErr.TheVariants as error
use Rattle.miner_core.specs.Drawing.{left_for}
use Rattle.miner_core.specs.Story.{stands_at}
use Rattle.miner_core.specs.Streams.{StreamState, with_tape, ForEachTape, HasMoved, Answers}
use Rattle.miner_core.proofs.Draws.{tape_earlier}
use Rattle.miner_core.proofs.Sources.{drew_none}
use Rattle.link_schedule.specs.Parts.{story_in, Takes, TakesIf, Comes}
use Rattle.link_schedule.specs.Streams.{ThreeStreams, miner_in, stories_with, AreTapesOf}
use Rattle.link_schedule.specs.Coming.{taken_by, Taken, Gives, drawn_by, left_to, AreOfUse, Come, ComesTo}
use Rattle.link_schedule.proofs.Deliveries.{is_number}
use Rattle.link_schedule.proofs.Drawing.{only, of_one}

-- ---- to one

-- an answer other than that it has ended
abbrev IsOther : Result Step MinerErr → Link → Type 0
IsOther r l = r ≡ Err (error.NotAwaited l) → ⊥

module _ (i : Number) (l : Link) (m : List ℕ) (before after : StreamState) (old new : TapesState) (going : before.lost ≡ None)
    (left : left_for i old ≡ before.ahead) (still : old.steady ≡ true → new.steady ≡ true) where
  moved : (r : Result Step MinerErr) (a : Result Step MinerErr) → IsOther r l →
      ForEachTape before (λ s. stands_at i s ≡ AtItsEnd → r ≡ Err (error.NotAwaited l)) →
      HasMoved i l m before after old new a → Gives i l m before after old new (Ok tt)
  moved r a other ended h =
      record {
        taken = h.taken;
        drew = h.drew;
        ok =
            record {
              going = h.going;
              tape = h.tape;
              left = h.ahead;
              past = h.past;
              takes = λ tape of.
                  let earlier = tape_earlier i old new before.story.tape after.story.tape h.taken before.ahead h.drew h.tape left tape
                  (subst (λ n. IsTapeOf after.story.tape n tape) (sym h.ahead) of) in
                  inl (λ is. other (ended going tape earlier is), h.received tape);
            };
        err = tt;
        still = still;
      }

  pub gives : (r : Result Step MinerErr) → Answers i l m before after old new r →
      ForEachTape before (λ s. stands_at i s ≡ AtItsEnd → r ≡ Err (error.NotAwaited l)) → Gives i l m before after old new (taken_by r)
  gives (Ok step) h ended = moved (Ok step) (Ok step) (λ e. cc) ended h
  gives (Err (error.BadMessage at cause)) h ended = moved (Err (error.BadMessage at cause)) (Err (error.BadMessage at cause)) (λ e. cc) ended h
  gives (Err (error.NotAwaited at)) h ended =
      record {
        taken = [];
        drew = subst (λ x. Drew old x (count_of i) []) (sym h.source) (drew_none old (count_of i));
        ok =
            record {
              going = ap (λ (x : StreamState). x.lost) h.same ∙ going;
              tape = ap (λ (x : StreamState). x.story.tape) h.same ∙ sym (append-none before.story.tape);
              left = ap (left_for i) h.source ∙ left ∙ sym (ap (λ (x : StreamState). x.ahead) h.same);
              past = ap (λ (x : StreamState). x.past) h.same;
              takes = λ tape of.
                  inr (
                    h.ended tape
                        (subst (λ (x : StreamState). IsTapeOf x.story.tape x.ahead tape) h.same of),
                    ap (λ x. with_tape x tape) h.same,
                  );
            };
        err = tt;
        still = still;
      }
  gives (Err (error.Lost why)) h ended =
      record { taken = h.drawn.taken; drew = h.drawn.drew; ok = tt; err = h.cause; still = still }

-- ---- to three

pub story_at : (m : ThreeStreams) (tapes : Tapes) (i : Number) → story_in (stories_with m tapes) i ≡ with_tape (miner_in m i) (tapes i)
story_at m tapes One = refl
story_at m tapes Two = refl
story_at m tapes Three = refl

module _ (l : Link) (m : List ℕ) (before after : ThreeStreams) (old new : TapesState) (usable : AreOfUse before)
    (left : (i : Number) → left_for i old ≡ left_to before i) (i : Number) (to : receiver_of l ≡ i)
    (rest : (j : Number) → is_same i j ≡ false → miner_in after j ≡ miner_in before j) where
  come : (words : List ℕ) → Drew old new (count_of i) words → Taken i l m (miner_in before i) (miner_in after i) old new words →
      Come l m before after old new (only i words)
  come words drew t =
      record {
        going = λ j. going j (is_same i j) refl;
        drawn = λ j. drawn j (is_same i j) refl;
        left = λ j. left_after j (is_same i j) refl;
        past = λ j. past j (is_same i j) refl;
        comes = λ tapes of j. comes tapes of j;
      }
    where
      going : (j : Number) (b : Bool) → is_same i j ≡ b → (miner_in after j).lost ≡ None
      going j true e = subst (λ k. (miner_in after k).lost ≡ None) (is_number i j e) t.going
      going j false e = ap (λ (x : StreamState). x.lost) (rest j e) ∙ usable j

      past : (j : Number) (b : Bool) → is_same i j ≡ b → (miner_in after j).past ≡ (miner_in before j).past
      past j true e = subst (λ k. (miner_in after k).past ≡ (miner_in before k).past) (is_number i j e) t.past
      past j false e = ap (λ (x : StreamState). x.past) (rest j e)

      drawn : (j : Number) (b : Bool) → is_same i j ≡ b → drawn_by after j ≡ drawn_by before j ++ (if b then words else [])
      drawn j true e = subst (λ k. drawn_by after k ≡ drawn_by before k ++ words) (is_number i j e) t.tape
      drawn j false e = ap (λ (x : StreamState). x.story.tape) (rest j e) ∙ sym (append-none (drawn_by before j))

      left_other : (j : Number) → is_same i j ≡ false → left_for j new ≡ left_for j old
      left_other j e =
          let n = (of_one old new i words drew).fewer j in
          sym (n ∙ ap (λ b. length (if b then words else []) + left_for j new) e ∙ omega arith)

      left_after : (j : Number) (b : Bool) → is_same i j ≡ b → left_for j new ≡ left_to after j
      left_after j true e = subst (λ k. left_for k new ≡ left_to after k) (is_number i j e) t.left
      left_after j false e = left_other j e ∙ left j ∙ sym (ap (λ (x : StreamState). x.ahead) (rest j e))

      by_story : (tapes : Tapes) (j : Number) (b : Bool) → TakesIf b j (with_tape (miner_in before j) (tapes j)) (with_tape (miner_in after j) (tapes j)) l m →
          TakesIf b j (story_in (stories_with before tapes) j) (story_in (stories_with after tapes) j) l m
      by_story tapes j b h =
          subst (λ s. TakesIf b j s (story_in (stories_with after tapes) j) l m) (sym (story_at before tapes j))
          (subst (λ s. TakesIf b j (with_tape (miner_in before j) (tapes j)) s l m) (sym (story_at after tapes j)) h)

      takes : (tapes : Tapes) → AreTapesOf (drawn_by after) (left_to after) tapes → (j : Number) (b : Bool) → is_same i j ≡ b →
          TakesIf b j (with_tape (miner_in before j) (tapes j)) (with_tape (miner_in after j) (tapes j)) l m
      takes tapes of j true e =
          subst (λ k. Takes k (with_tape (miner_in before k) (tapes k)) (with_tape (miner_in after k) (tapes k)) l m)
          (is_number i j e) (t.takes (tapes i) (of i))
      takes tapes of j false e = ap (λ x. with_tape x (tapes j)) (rest j e)

      comes : (tapes : Tapes) → AreTapesOf (drawn_by after) (left_to after) tapes → Comes (stories_with before tapes) (stories_with after tapes) l m
      comes tapes of j =
          by_story tapes j (is_same (receiver_of l) j)
          (subst (λ k. TakesIf (is_same k j) j (with_tape (miner_in before j) (tapes j)) (with_tape (miner_in after j) (tapes j)) l m) (sym to)
          (takes tapes of j (is_same i j) refl))

  pub comes_to : (r : Result (Unit {0}) Lost) → Gives i l m (miner_in before i) (miner_in after i) old new r → ComesTo l m before after old new r
  comes_to (Ok done) g =
      record { taken = only i g.taken; drew = of_one old new i g.taken g.drew; ok = come g.taken g.drew g.ok; err = tt; still = g.still }
  comes_to (Err why) g = record { taken = only i g.taken; drew = of_one old new i g.taken g.drew; ok = tt; err = g.err; still = g.still }

-- the others are as before
pub other_one : (m : ThreeStreams) (x : StreamState) (j : Number) → is_same One j ≡ false →
    miner_in (record { one = x; two = m.two; three = m.three }) j ≡ miner_in m j
other_one m x One e = cc
other_one m x Two e = refl
other_one m x Three e = refl

pub other_two : (m : ThreeStreams) (x : StreamState) (j : Number) → is_same Two j ≡ false →
    miner_in (record { one = m.one; two = x; three = m.three }) j ≡ miner_in m j
other_two m x One e = refl
other_two m x Two e = cc
other_two m x Three e = refl

pub other_three : (m : ThreeStreams) (x : StreamState) (j : Number) → is_same Three j ≡ false →
    miner_in (record { one = m.one; two = m.two; three = x }) j ≡ miner_in m j
other_three m x One e = refl
other_three m x Two e = refl
other_three m x Three e = cc
