-- A net that goes on along its calls.
use Rattle.std.proofs.Common.{◌≡◌, ◌+◌, Bool, true, false, [], ◌∷◌, ◌++◌, length, refl, sym, ◌∙◌, ap, append_assoc}
use Rattle.std.specs.Prelude.{Option, Some, None}
use Rattle.outside.specs.Tapes.{TapesState}
use Rattle.proto_core.specs.declared.party.Number.{Number}
use Rattle.proto_core.specs.declared.link.Link.{Link}
use Rattle.proto_core.proofs.Beginnings.{append-none}
use Rattle.protocol_model.specs.Runs.{Tapes}
use Rattle.protocol_model.proofs.Choosing.{one_longer}
use Rattle.miner_core.specs.declared.answer.Lost.{Lost}
use Rattle.miner_core.specs.Drawing.{left_for}
use Rattle.link_schedule.specs.Net.{NetState, after}
use Rattle.link_schedule.specs.Streams.{StreamNet, drawn_in, ahead_in, with_tapes, AreTapesOf, MayHave}
use Rattle.link_schedule.specs.Streams.{ForEachTapes, HasLeft, GoesOr, Along}
use Rattle.link_schedule.proofs.Drawing.{none, both, filled_tapes, some_tapes, net_drew_none, net_drew_more, lost_later, tapes_by, tapes_earlier}

-- a net that may have these tapes at all
pub some_net : (s : StreamNet) → MayHave s (filled_tapes (drawn_in s) (ahead_in s))
some_net s = some_tapes (drawn_in s) (ahead_in s)

-- what is so of a net with each of its tapes can't be otherwise
pub never : {P : Type 0} (s : StreamNet) (Q : NetState → Type 0) → s.lost ≡ None → ForEachTapes s Q → ((net : NetState) → Q net → ⊥) → P
never s Q going each false_of =
    absurd (false_of (with_tapes s (filled_tapes (drawn_in s) (ahead_in s))) (each going (filled_tapes (drawn_in s) (ahead_in s)) (some_net s)))

pub along_start : (s : StreamNet) (a : TapesState) (Q : (before after : NetState) → Type 0) → s.lost ≡ None → HasLeft s a →
    ((tapes : Tapes) → Q (with_tapes s tapes) (with_tapes s tapes)) → Along s s a a None Q
along_start s a Q going left each =
    record {
      taken = none;
      drew = net_drew_none a;
      state = record { going = going; drawn = λ i. sym (append-none (drawn_in s i)); left = left going; past = λ i. refl };
      holds = λ tapes of. each tapes;
      still = λ h. h;
    }

-- the same where only these tapes are asked for that it may have
pub along_here : (s : StreamNet) (a : TapesState) (Q : (before after : NetState) → Type 0) → s.lost ≡ None → HasLeft s a →
    ((tapes : Tapes) → MayHave s tapes → Q (with_tapes s tapes) (with_tapes s tapes)) → Along s s a a None Q
along_here s a Q going left each =
    record {
      taken = none;
      drew = net_drew_none a;
      state = record { going = going; drawn = λ i. sym (append-none (drawn_in s i)); left = left going; past = λ i. refl };
      holds = λ tapes of.
          each tapes
          (tapes_by (both (drawn_in s) none) (drawn_in s) (λ i. left_for i a) (ahead_in s) (λ i. append-none (drawn_in s i)) (left going) tapes of);
      still = λ h. h;
    }

pub both_ways : {P : Type 0} (b : Bool) → b ≡ true → b ≡ false → P
both_ways true h e = absurd cc
both_ways false h e = absurd cc

module _ (s t : StreamNet) (a b : TapesState) (Q : (before after : NetState) → Type 0) where
  -- the tapes that it may have in the end
  may_after : (h : Along s t a b None Q) (tapes : Tapes) → AreTapesOf (both (drawn_in s) h.taken) (λ i. left_for i b) tapes → MayHave t tapes
  may_after h tapes of = tapes_by (both (drawn_in s) h.taken) (drawn_in t) (λ i. left_for i b) (ahead_in t) (λ i. sym (h.state.drawn i)) h.state.left tapes of

  -- what is known of the net in the end
  pub along_at : (R S : (before after : NetState) → Type 0) → Along s t a b None Q →
      ((tapes : Tapes) → MayHave t tapes → R (with_tapes s tapes) (with_tapes t tapes)) →
      ((x y : NetState) → Q x y → R x y → S x y) → Along s t a b None S
  along_at R S h also step =
      record {
        taken = h.taken;
        drew = h.drew;
        state = h.state;
        holds = λ tapes of. step (with_tapes s tapes) (with_tapes t tapes) (h.holds tapes of) (also tapes (may_after h tapes of));
        still = h.still;
      }

  pub along_more : (u : StreamNet) (c : TapesState) (lost : Option Lost) (R S : (before after : NetState) → Type 0) → Along s t a b None Q →
      Along t u b c lost R →
      ((x y z : NetState) → Q x y → R y z → S x z) → Along s u a c lost S
  along_more u c lost R S h k step =
      record {
        taken = both h.taken k.taken;
        drew = net_drew_more a b c h.taken k.taken h.drew k.drew;
        state = state lost k.state;
        holds = λ tapes of.
            let late : AreTapesOf (both (drawn_in t) k.taken) (λ i. left_for i c) tapes
            = tapes_by (both (drawn_in s) (both h.taken k.taken)) (both (drawn_in t) k.taken)
            (λ i. left_for i c) (λ i. left_for i c) joined (λ i. refl) tapes of in
            let early : AreTapesOf (both (drawn_in s) h.taken) (λ i. left_for i b) tapes = tapes_by (drawn_in t) (both (drawn_in s) h.taken) (λ i. left_for i b)
            (λ i. left_for i b) h.state.drawn (λ i. refl) tapes (tapes_earlier b c (drawn_in t) k.taken k.drew tapes late) in
            step (with_tapes s tapes) (with_tapes t tapes) (with_tapes u tapes) (h.holds tapes early) (k.holds tapes late);
        still = λ x. k.still (h.still x);
      }
    where
      joined : (i : Number) → drawn_in s i ++ (h.taken i ++ k.taken i) ≡ drawn_in t i ++ k.taken i
      joined i = sym (append_assoc (drawn_in s i) (h.taken i) (k.taken i)) ∙ ap (λ w. w ++ k.taken i) (sym (h.state.drawn i))

      state : (o : Option Lost) → GoesOr t u b c o k.taken → GoesOr s u a c o (both h.taken k.taken)
      state None g = record { going = g.going; drawn = λ i. g.drawn i ∙ sym (joined i); left = g.left; past = λ i. g.past i ∙ h.state.past i }
      state (Some why) g = record { state = g.state; cause = lost_later a b c h.taken h.drew h.still why g.cause }

  -- the same with less said
  pub along_less : (lost : Option Lost) (S : (before after : NetState) → Type 0) → Along s t a b lost Q →
      ((x y : NetState) → Q x y → S x y) → Along s t a b lost S
  along_less lost S h step =
      record {
        taken = h.taken;
        drew = h.drew;
        state = h.state;
        holds = λ tapes of. step (with_tapes s tapes) (with_tapes t tapes) (h.holds tapes of);
        still = h.still;
      }

-- a delivery more
pub one_delivered : (s t : StreamNet) (a b : TapesState) (l : Link) → Along s t a b None (λ x y. y ≡ after x (l ∷ [])) →
    length t.delivered ≡ length s.delivered + 1
one_delivered s t a b l h =
    let drawn = both (drawn_in s) h.taken in
    let left = λ (i : Number). left_for i b in
    let is = h.holds (filled_tapes drawn left) (some_tapes drawn left) in
    ap (λ (n : NetState). length n.delivered) is ∙ one_longer s.delivered l
