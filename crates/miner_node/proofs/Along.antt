-- What holds along the calls of a miner that draws, for each tape that begins with all words drawn.
use Rattle.std.proofs.Common.{◌≡◌, ℕ, zero, suc, ◌+◌, List, [], ◌∷◌, ◌++◌, length, true, refl, sym, ap, ◌∙◌, subst, append_assoc, length-append}
use Rattle.std.proofs.Math.Seq.{drop-append_seam}
use Rattle.std.specs.Prelude.{Option, Some, None, Result, Ok, Err, OnOk, IfSome}
use Rattle.outside.specs.Links.{LinksState}
use Rattle.outside.specs.Tapes.{TapesState, Drew, faults_of}
use Rattle.proto_core.specs.declared.party.Number.{Number}
use Rattle.proto_core.specs.declared.link.Link.{Link}
use Rattle.proto_core.specs.Parties.{count_of}
use Rattle.proto_core.proofs.Beginnings.{append-none}
use Rattle.sc_text.specs.declared.end.Ending.{Ending}
use Rattle.gate_node.specs.Nodes.{IsTapeOf}
use Rattle.gate_node.proofs.Supplied.{tape-before}
use Rattle.miner_core.specs.declared.answer.Step.{Step}
use Rattle.miner_core.specs.declared.answer.MinerErr.{MinerErr}
use Rattle.miner_core.specs.declared.answer.Lost.{Lost}
use Rattle.miner_core.specs.declared.answer.Lost.TheVariants as lost
use Rattle.miner_core.specs.declared.answer.MinerErr.TheVariants as miner_error
use Rattle.miner_core.specs.declared.kept.Kept.TheVariants.{All}
use Rattle.miner_core.specs.Drawing.{left_for, HasDrawn, IsTapeFault}
use Rattle.miner_core.specs.Streams.{StreamState, with_tape, story_so_far, no_words, HasMoved, IsOfMessage, Answers}
use Rattle.miner_core.proofs.Draws.{tape_earlier}
use Rattle.miner_core.proofs.Sources.{drew_none, drew_more, rose_on}
use Rattle.miner_core.proofs.Streaming.{none_of, itself, none_taken}
use Rattle.wire.specs.declared.fields.Hello.{Hello}
use Rattle.miner_node.specs.declared.node_err.NodeErr.{NodeErr}
use Rattle.miner_node.specs.declared.node_err.NodeErr.TheVariants as stop
use Rattle.miner_node.specs.declared.node_err.ServeErr.{ServeErr}
use Rattle.miner_node.specs.declared.node_err.ServeErr.TheVariants.{Node, TapeFault}
use Rattle.miner_core.specs.Story.{strand_in}
use Rattle.miner_node.specs.Order.{InOrder}
use Rattle.miner_node.specs.Serves.{IsFresh, DeliversOne, HasServed, HasStopped}
use Rattle.miner_node.specs.Tapes.{IsReady, HasGone, Along, node_answer, StoppedBy, StopsFor, StopsSo, EndsSo}
use Rattle.miner_node.proofs.Rounds.{at_ease_after}

-- there is such a tape
zeros : ℕ → List ℕ
zeros zero = []
zeros (suc n) = 0 ∷ zeros n

zeros-length : (n : ℕ) → length (zeros n) ≡ n
unfolding zeros
zeros-length zero = refl
zeros-length (suc n) = ap suc (zeros-length n)

pub some_tape : (drawn : List ℕ) (n : ℕ) → (tape : List ℕ) × IsTapeOf drawn n tape
some_tape drawn n = (
  drawn ++ zeros n,
  record {
    begins = ap (λ r. drawn ++ r) (sym (drop-append_seam drawn (zeros n)));
    counted = length-append drawn (zeros n) ∙ ap (λ k. length drawn + k) (zeros-length n);
  },
)

-- what holds where it went well
on_ok : {A : Type 0} {Q : Type 0} (r : Result A NodeErr) → Q → OnOk r Q
on_ok (Ok x) q = q
on_ok (Err e) q = tt

-- a miner is lost for one cause at most
not_lost : {X : Type 0} (o : Option Lost) → o ≡ None → o ≡ Some lost.TapeFault → X
not_lost o going gone = absurd cc

not_its_tape : {X : Type 0} (o : Option Lost) → o ≡ Some lost.Memory → o ≡ Some lost.TapeFault → X
not_its_tape o memory gone = absurd cc

module _ (i : Number) where
  -- no words are drawn
  pub along_here :
      {A : Type 0} (m : StreamState) (s : TapesState) (r : Result A NodeErr) (Q : List ℕ → Type 0) → m.lost ≡ None → left_for i s ≡ m.ahead →
      ((tape : List ℕ) → IsTapeOf m.story.tape m.ahead tape → Q tape) → Along i m m s s r Q
  along_here m s r Q going left holds =
      record {
        taken = [];
        drew = drew_none s (count_of i);
        holds =
            λ tape of.
            holds tape
            (subst (λ w. IsTapeOf w m.ahead tape) (append-none m.story.tape) (subst (λ n. IsTapeOf (m.story.tape ++ []) n tape) left of));
        ok = on_ok r (record { going = going; tape = sym (append-none m.story.tape); left = left; past = refl });
        cause = λ gone. not_lost m.lost going gone;
        still = λ h. h;
      }

  -- what is answered is as good as this
  pub along_as :
      {A B : Type 0} (m n : StreamState) (s t : TapesState) (r : Result A NodeErr) (q : Result B NodeErr) (Q R : List ℕ → Type 0) → Along i m n s t r Q →
      left_for i s ≡ m.ahead → ((tape : List ℕ) → IsTapeOf m.story.tape m.ahead tape → Q tape → R tape) → ((taken : List ℕ) → OnOk r (HasGone i m n
      s t taken) → OnOk q (HasGone i m n s t taken)) → Along i m n s t q R
  along_as m n s t r q Q R h left step ok =
      record {
        taken = h.taken;
        drew = h.drew;
        holds =
            λ tape of.
            step tape (tape_earlier i s t m.story.tape (m.story.tape ++ h.taken) h.taken m.ahead h.drew refl left tape of) (h.holds tape of);
        ok = ok h.taken h.ok;
        cause = h.cause;
        still = h.still;
      }

  -- the same, of other answers
  pub along_ok :
      {A B : Type 0} (m n : StreamState) (s t : TapesState) (x : A) (y : B) (Q : List ℕ → Type 0) → Along i m n s t (Ok x) Q → Along i m n s t (Ok y) Q
  along_ok m n s t x y Q h = record { taken = h.taken; drew = h.drew; holds = h.holds; ok = h.ok; cause = h.cause; still = h.still }

  pub along_err :
      {A B : Type 0} (m n : StreamState) (s t : TapesState) (e : NodeErr) (Q : List ℕ → Type 0) → Along i m n s t {A = A} (Err e) Q →
      Along i m n s t {A = B} (Err e) Q
  along_err m n s t e Q h = record { taken = h.taken; drew = h.drew; holds = h.holds; ok = tt; cause = h.cause; still = h.still }

  module _ (a b c : StreamState) (s t u : TapesState) where
    -- one call after another
    pub along_on :
        {A B : Type 0} (x : A) (r : Result B NodeErr) (Q R S : List ℕ → Type 0) → Along i a b s t (Ok x) Q → Along i b c t u r R →
        ((tape : List ℕ) → Q tape → R tape → S tape) → Along i a c s u r S
    along_on {B = B} x r Q R S h k step =
        let one = h.taken in
        let two = k.taken in
        let moved : length two + left_for i u ≡ left_for i t = sym k.drew.fewer in
        record {
          taken = one ++ two;
          drew = drew_more s t u (count_of i) one two h.drew k.drew;
          holds =
              λ tape of.
              let later : IsTapeOf ((a.story.tape ++ one) ++ two) (left_for i u) tape =
              subst (λ w. IsTapeOf w (left_for i u) tape) (sym (append_assoc a.story.tape one two)) of in
              step tape (h.holds tape (tape-before (a.story.tape ++ one) two tape (left_for i t) (left_for i u) moved later))
              (k.holds tape (subst (λ w. IsTapeOf (w ++ two) (left_for i u) tape) (sym h.ok.tape) later));
          ok = gone r k.ok;
          cause =
              λ gone.
              let f = k.cause gone in
              record {
                rose = rose_on (faults_of s) (faults_of t) (faults_of u) h.drew.stands.read.later f.rose;
                unsteady = λ st. f.unsteady (h.still st);
              };
          still = λ st. k.still (h.still st);
        }
      where
        gone : (r : Result B NodeErr) → OnOk r (HasGone i b c t u k.taken) → OnOk r (HasGone i a c s u (h.taken ++ k.taken))
        gone (Ok y) g =
            record {
              going = g.going;
              tape = g.tape ∙ ap (λ w. w ++ k.taken) h.ok.tape ∙ append_assoc a.story.tape h.taken k.taken;
              left = g.left;
              past = g.past ∙ h.ok.past;
            }
        gone (Err e) g = tt

  -- a message was delivered
  module _ (l : Link) (w : List ℕ) (before after : StreamState) (s t : TapesState) (still : s.steady ≡ true → t.steady ≡ true) where
    abbrev at_tapes : Result (Unit {0}) NodeErr → List ℕ → Type 0
    at_tapes r tape = DeliversOne i (with_tape before tape) (with_tape after tape) l w r

    of_after :
        (a : Result Step MinerErr) (h : HasMoved i l w before after s t a) (tape : List ℕ) → IsTapeOf (before.story.tape ++ h.taken) (left_for i t) tape →
        IsTapeOf after.story.tape after.ahead tape
    of_after a h tape of =
        subst (λ n. IsTapeOf after.story.tape n tape) h.ahead (subst (λ v. IsTapeOf v (left_for i t) tape) (sym h.tape) of)

    -- it is of no further use, or had ended
    no_more :
        HasDrawn i s t → (after.lost ≡ Some lost.TapeFault → IsTapeFault s t) → Along i before after s t {A = Unit {0}} (Err stop.Memory)
        (at_tapes (Err stop.Memory))
    no_more drawn cause =
        record { taken = drawn.taken; drew = drawn.drew; holds = λ tape of. record { ok = tt; err = tt }; ok = tt; cause = cause; still = still }

    unfailed : after.lost ≡ None → after.lost ≡ Some lost.TapeFault → IsTapeFault s t
    unfailed going gone = not_lost after.lost going gone

    pub delivered :
        (r : Result Step MinerErr) → before.lost ≡ None → Answers i l w before after s t r → Along i before after s t (node_answer r) (at_tapes (node_answer r))
    delivered (Ok step) going h =
        record {
          taken = h.taken;
          drew = h.drew;
          holds =
              λ tape of.
              record { ok = (h.received tape, at_ease_after i (with_tape after tape) step (h.answers tape (of_after (Ok step) h tape of))); err = tt };
          ok = record { going = h.going; tape = h.tape; left = h.ahead; past = h.past };
          cause = unfailed h.going;
          still = still;
        }
    delivered (Err (miner_error.BadMessage at cause)) going h =
        record {
          taken = h.taken;
          drew = h.drew;
          holds =
              λ tape of.
              record { ok = tt; err = (h.received tape, h.answers tape (of_after (Err (miner_error.BadMessage at cause)) h tape of)) };
          ok = tt;
          cause = unfailed h.going;
          still = still;
        }
    delivered (Err (miner_error.NotAwaited at)) going h =
        no_more (subst (λ v. HasDrawn i s v) (sym h.source) (record { taken = []; drew = drew_none s (count_of i) }))
        (unfailed (ap (λ (m : StreamState). m.lost) h.same ∙ going))
    delivered (Err (miner_error.Lost lost.TapeFault)) going h = no_more h.drawn (λ gone. h.cause)
    delivered (Err (miner_error.Lost lost.Memory)) going h =
        no_more h.drawn (λ gone. not_its_tape after.lost h.state gone)

-- ---- why a node stopped

-- only a miner that has lost its tape answers so
pub tape_lost :
    (o : Option Lost) (r : Result Step MinerErr) → (o ≡ None → IsOfMessage r) → IfSome o (λ l. r ≡ Err (miner_error.Lost l)) →
    r ≡ Err (miner_error.Lost lost.TapeFault) → o ≡ Some lost.TapeFault
tape_lost None r of_use gone is = absurd (subst IsOfMessage is (of_use refl))
tape_lost (Some l) r of_use gone is = let same : l ≡ lost.TapeFault = cc in ap Some same

module _ (i : Number) (hello : Hello) (a b : LinksState) (m n : StreamState) (s t : TapesState) (taken : List ℕ) where
  pub stops_so :
      (e : NodeErr) (x : ServeErr) → StoppedBy e n x → StopsFor i hello a b s t m taken e → (n.lost ≡ Some lost.TapeFault → IsTapeFault s t) →
      StopsSo i hello a b s t m taken x
  stops_so e (Node x) is h cause = subst (λ v. StopsFor i hello a b s t m taken v) (sym is) h
  stops_so e TapeFault is h cause = (subst (λ v. StopsFor i hello a b s t m taken v) is.0 h, cause is.1)

-- ---- a miner that has its whole tape

pub ready :
    (i : Number) (m : StreamState) → m.past ≡ All → (m.lost ≡ None → m.ahead ≡ 0) → IsFresh (story_so_far m) → IsReady i m no_words
ready i m kept none fresh =
    let going = none_of m.lost fresh.going in
    record { kept = kept; going = going; previous = fresh.previous; next = fresh.next; left = sym (none going) }

module _ (i : Number) (hello : Hello) (a b : LinksState) (m : StreamState) (taken : List ℕ) (drew : Drew no_words no_words (count_of i) taken) where
  same_tape : m.story.tape ++ taken ≡ m.story.tape
  same_tape = ap (λ w. m.story.tape ++ w) (none_taken i no_words taken drew) ∙ append-none m.story.tape

  of_itself : IsTapeOf (m.story.tape ++ taken) (left_for i no_words) (m.story.tape ++ taken)
  of_itself = itself (m.story.tape ++ taken) 0 refl

  pub whole_stops : (e : NodeErr) → StopsFor i hello a b no_words no_words m taken e → HasStopped i hello a b (story_so_far m) e
  whole_stops e h = subst (λ w. HasStopped i hello a b (with_tape m w) e) same_tape (h (m.story.tape ++ taken) of_itself)

  pub whole_order :
      ((tape : List ℕ) → IsTapeOf (m.story.tape ++ taken) (left_for i no_words) tape → InOrder i hello (strand_in i (with_tape m tape)) a b) →
      InOrder i hello (strand_in i (story_so_far m)) a b
  whole_order h = subst (λ w. InOrder i hello (strand_in i (with_tape m w)) a b) same_tape (h (m.story.tape ++ taken) of_itself)

  pub whole_serves :
      (last : StreamState) (ending : Ending) → EndsSo i hello a b no_words no_words m taken last ending →
      HasServed i hello a b (story_so_far m) (story_so_far last) ending
  whole_serves last ending h =
      subst (λ w. HasServed i hello a b (story_so_far m) (with_tape last w) ending) (sym h.gone.tape)
      (subst (λ w. HasServed i hello a b (with_tape m w) (with_tape last (m.story.tape ++ taken)) ending) same_tape
      (h.served (m.story.tape ++ taken) of_itself))
