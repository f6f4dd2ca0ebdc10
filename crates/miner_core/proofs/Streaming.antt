-- A miner that draws its tape, for every tape that begins with the words drawn; and one that has its tape whole.
use Rattle.std.proofs.Common.{◌≡◌, ℕ, ◌+◌, ◌-◌, ◌≤◌, false, List, [], ◌∷◌, ◌++◌, length, length-drop, drop, map, refl, sym, ◌∙◌, ap, subst, arith}
use Rattle.std.proofs.Math.Seq.{drop-append_seam}
use Rattle.std.specs.Prelude.{Option, Some, None, Result, Ok, Err}
use Rattle.outside.specs.Tapes.{TapesState, Drew}
use Rattle.proto_core.specs.declared.party.Number.{Number}
use Rattle.proto_core.specs.declared.link.Link.{Link}
use Rattle.proto_core.specs.Parties.{count_of}
use Rattle.proto_core.specs.Standing.{AtItsEnd, standing_with}
use Rattle.proto_core.proofs.Beginnings.{append-none}
use Rattle.gates.specs.Clear.{Values}
use Rattle.shared_gates.specs.Model.{miner_of}
use Rattle.value_steps.specs.Views.{drawn_seen}
use Rattle.own_code.specs.Dealt.{drawn_by}
use Rattle.block_steps.specs.Outcomes.{Outcome, mail_left}
use Rattle.own_code.specs.OwnCode.{Ended}
use Rattle.gate_node.specs.Nodes.{IsTapeOf}
use Rattle.miner_core.specs.declared.answer.Step.{Step}
use Rattle.miner_core.specs.declared.answer.MinerErr.{MinerErr}
use Rattle.miner_core.specs.declared.answer.Lost.{Lost}
use Rattle.miner_core.specs.declared.answer.MinerErr.TheVariants as error
use Rattle.miner_core.specs.declared.engine.Engine.{Engine}
use Rattle.gate_node.specs.declared.standing.Standing.{Standing}
use Rattle.miner_core.specs.declared.task.Task.{Task}
use Rattle.miner_core.specs.Engines.{engine_left, ending_at, if_ended, with_words, Rests}
use Rattle.miner_core.specs.Drawing.{left_for, Delivers, IsAtRest, IsAtItsEnd}
use Rattle.miner_core.specs.Past.{Past, with_past}
use Rattle.miner_core.specs.Story.{Story, Follows, received, start_of, stands_at, IsAnswer, IsAnswerOf, DeliverAnswers}
use Rattle.miner_core.specs.Story.{sent_to_next, sent_to_previous, has_told, ending_in, cost_in, drawn_in}
use Rattle.miner_core.specs.Streams.{StreamState, has_lost, with_tape, story_so_far, story_in_use, ForEachTape, ForWordsDrawn, no_words}
use Rattle.miner_core.specs.Streams.{IsOfMessage, IsMade, HasMoved, Answers}
use Rattle.miner_core.specs.Views.{notice_seen}
use Rattle.miner_core.proofs.Draws.{at_rest_after, received_with}
use Rattle.miner_core.proofs.Past.{left_past, rests_past}
use Rattle.miner_core.proofs.Stops.{ending_is, cost_is, drawn_is}
use Rattle.miner_core.proofs.Stories.{answer_of, follows, standing_of_story}

answers_by :
    (i : Number) (before after : StreamState) (l : Link) (m : List ℕ) (s t : TapesState) (r : Result Step MinerErr) → IsOfMessage r →
    HasMoved i l m before after s t r → Answers i l m before after s t r
answers_by i before after l m s t (Ok step) of h = h
answers_by i before after l m s t (Err (error.BadMessage at cause)) of h = h
answers_by i before after l m s t (Err (error.NotAwaited at)) of h = absurd of
answers_by i before after l m s t (Err (error.Lost why)) of h = absurd of

-- that it has ended is answered
abbrev pub IsNotAwaited : Result Step MinerErr → Link → Type 0
IsNotAwaited r l = r ≡ Err (error.NotAwaited l)

-- ---- by its engine

-- while it is of use it rests so, with what it has let go of what it had sent
module _
    {P : Type 0} (i : Number) (past : Past) (e : Engine P) (at : Standing) (w : StreamState)
    (rests : w.lost ≡ None → IsAtRest i past e at w.ahead (story_in_use w)) where
  -- what follows where it follows a story, for each that it may have
  module _
      (Q : Story → Type 0)
      (step : (more : List ℕ) (s : Story) → s.budget ≡ w.story.budget → Follows i (with_words (with_past past e) more) s →
      Rests i at (with_words e more) → Q s)
      (going : w.lost ≡ None) where
    at_more : (tape more : List ℕ) → tape ≡ w.story.tape ++ more → length more ≤ w.ahead → Q (with_tape w tape)
    at_more tape more is few =
        let h = rests going in
        let s = record (story_in_use w) { tape = w.story.tape ++ more } in
        let stands = h.rests more few in
        subst Q
        (ap (λ t. record (story_in_use w) { tape = t }) (sym is) ∙ sym (ap (λ l. record w.story { tape = tape; lost = has_lost l }) going))
        (step more s refl (follows i (with_words (with_past past e) more) s at (h.leads more) (rests_past i past (with_words e more) at stands)) stands)

    pub at_tape : (tape : List ℕ) → IsTapeOf w.story.tape w.ahead tape → Q (with_tape w tape)
    at_tape tape of =
        let behind = length-drop (length w.story.tape) tape in
        let counted = of.counted in
        at_more tape (drop (length w.story.tape) tape) of.begins (omega (arith, behind, counted))

    pub at_drawn : Q (story_so_far w)
    at_drawn = at_more w.story.tape [] (sym (append-none w.story.tape)) (omega arith)

  -- what is answered
  pub answer_at :
      (r : Result Step MinerErr) →
      ((more : List ℕ) → Rests i at (with_words e more) → IsAnswerOf (engine_left i (with_words e more)) (mail_left i e.node.links) r) →
      ForEachTape w (λ s. IsAnswer i s r)
  answer_at r answers =
      at_tape (λ s. IsAnswer i s r)
      (λ more s same f stands.
      answer_of i (with_words (with_past past e) more) s r f
      (subst (λ v. IsAnswerOf v (mail_left i e.node.links) r) (sym (left_past i past (with_words e more))) (answers more stands)))

  -- with what it has let go, it stands where it stands
  standing_past :
      (more : List ℕ) (s : Story) → Follows i (with_words (with_past past e) more) s →
      standing_with (engine_left i (with_words e more)) (mail_left i e.node.links) ≡ stands_at i s
  standing_past more s f =
      ap (λ v. standing_with v (mail_left i e.node.links)) (sym (left_past i past (with_words e more)))
      ∙ standing_of_story i (with_words (with_past past e) more) s f

  pub ended_at :
      ((more : List ℕ) → Rests i at (with_words e more) → IsAtItsEnd i e more) → ForEachTape w (λ s. stands_at i s ≡ AtItsEnd)
  ended_at ended = at_tape (λ s. stands_at i s ≡ AtItsEnd) (λ more s same f stands. sym (standing_past more s f) ∙ ended more stands)

  pub going_at :
      (A : Type 0) → ((more : List ℕ) → Rests i at (with_words e more) → IsAtItsEnd i e more → ⊥) → ForEachTape w (λ s. stands_at i s ≡ AtItsEnd → A)
  going_at A going =
      at_tape (λ s. stands_at i s ≡ AtItsEnd → A) (λ more s same f stands is. absurd (going more stands (standing_past more s f ∙ is)))

  -- what is sent, and told
  module _ (going : w.lost ≡ None) (tape : List ℕ) (of : IsTapeOf w.story.tape w.ahead tape) where
    pub next_at : past.to_next ++ e.node.links.to_next ≡ sent_to_next i (with_tape w tape)
    next_at =
        at_tape (λ s. past.to_next ++ e.node.links.to_next ≡ sent_to_next i s)
        (λ more s same f stands. ap (λ (o : Outcome Ended). o.to_next) f.same) going tape of

    pub previous_at : past.to_previous ++ e.node.links.to_previous ≡ sent_to_previous i (with_tape w tape)
    previous_at =
        at_tape (λ s. past.to_previous ++ e.node.links.to_previous ≡ sent_to_previous i s)
        (λ more s same f stands. ap (λ (o : Outcome Ended). o.to_previous) f.same) going tape of

    pub told_at : map notice_seen e.notices.items ≡ has_told i (with_tape w tape)
    told_at = at_tape (λ s. map notice_seen e.notices.items ≡ has_told i s) (λ more s same f stands. f.told) going tape of

  -- how the run has ended, its cost, and the words that it has drawn, by what is said of them with each story that it may have
  module _ (Q : Story → Type 0) where
    abbrev Stops : Type 0
    Stops = (s : Story) → ending_in i s ≡ ending_at at e.at → cost_in i s ≡ if_ended (ending_at at e.at) (w.story.budget - e.stage.left) →
        drawn_in i s ≡ if_ended (ending_at at e.at) (drawn_by (drawn_seen e.stage.drawn) (miner_of i)) → Q s

    stop_step :
        Stops → (more : List ℕ) (s : Story) → s.budget ≡ w.story.budget → Follows i (with_words (with_past past e) more) s →
        Rests i at (with_words e more) → Q s
    stop_step step more s same f stands =
        let all = with_words (with_past past e) more in
        let there = rests_past i past (with_words e more) at stands in
        step s (ending_is i all at s f there) (cost_is i all at s f there ∙ ap (λ b. if_ended (ending_at at e.at) (b - e.stage.left)) same)
        (drawn_is i all at s f there)

    pub stops_at : Stops → ForEachTape w Q
    stops_at step = at_tape Q (stop_step step)

    pub stops_drawn : Stops → ForWordsDrawn w Q
    stops_drawn step = at_drawn Q (stop_step step)

-- ---- a message came

-- it has drawn these words, and so many are ahead
abbrev pub then_state : Number → StreamState → Link → (m : List ℕ) → (taken : List ℕ) → (ahead : ℕ) → StreamState
then_state i w l m taken ahead = record w { story = record (received i w.story l m) { tape = w.story.tape ++ taken }; ahead = ahead }

module _ {P : Type 0} (i : Number) (w : StreamState) (l : Link) (m : List ℕ) where
  pub at_rest_then :
      (past : Past) (e e2 : Engine P) (at at2 : Standing) (s t : TapesState) → IsAtRest i past e at w.ahead (story_in_use w) →
      (d : Delivers i at2 l m e e2 s t) → (ahead : ℕ) → ahead ≡ left_for i t →
      IsAtRest i past e2 at2 ahead (story_in_use (then_state i w l m d.taken ahead))
  at_rest_then past e e2 at at2 s t h d ahead left =
      subst (λ n. IsAtRest i past e2 at2 n (story_in_use (then_state i w l m d.taken ahead))) (sym left)
      (subst (IsAtRest i past e2 at2 (left_for i t))
      (ap (λ (x : Story). record x { tape = w.story.tape ++ d.taken }) (received_with i w.story l m w.story.tape false))
      (at_rest_after i past e e2 at at2 l m w.ahead (story_in_use w) s t h d))

  moved :
      (past : Past) (e2 : Engine P) (at2 : Standing) (s t : TapesState) (taken : List ℕ) (ahead : ℕ) (r : Result Step MinerErr) → w.lost ≡ None →
      Drew s t (count_of i) taken → left_for i t ≡ ahead → IsAtRest i past e2 at2 ahead (story_in_use (then_state i w l m taken ahead)) →
      ((more : List ℕ) → Rests i at2 (with_words e2 more) →
      IsAnswerOf (engine_left i (with_words e2 more)) (mail_left i e2.node.links) r) →
      HasMoved i l m w (then_state i w l m taken ahead) s t r
  moved past e2 at2 s t taken ahead r going drew left rests answers =
      record {
        going = going;
        taken = taken;
        drew = drew;
        tape = refl;
        ahead = left;
        past = refl;
        received = λ tape. sym (received_with i w.story l m tape (has_lost w.lost));
        answers = answer_at i past e2 at2 (then_state i w l m taken ahead) (λ same. rests) r answers going;
      }

  pub answers_moved :
      (past : Past) (e2 : Engine P) (at2 : Standing) (s t : TapesState) (taken : List ℕ) (ahead : ℕ) (r : Result Step MinerErr) → w.lost ≡ None →
      Drew s t (count_of i) taken → left_for i t ≡ ahead → IsAtRest i past e2 at2 ahead (story_in_use (then_state i w l m taken ahead)) →
      ((more : List ℕ) → Rests i at2 (with_words e2 more) →
      IsAnswerOf (engine_left i (with_words e2 more)) (mail_left i e2.node.links) r) → IsOfMessage r →
      Answers i l m w (then_state i w l m taken ahead) s t r
  answers_moved past e2 at2 s t taken ahead r going drew left rests answers of =
      answers_by i w (then_state i w l m taken ahead) l m s t r of (moved past e2 at2 s t taken ahead r going drew left rests answers)

-- ---- with its whole tape

pub none_of : (l : Option Lost) → has_lost l ≡ false → l ≡ None
none_of None h = refl
none_of (Some l) h = absurd cc

pub itself : (xs : List ℕ) (n : ℕ) → n ≡ 0 → IsTapeOf xs n xs
itself xs n same =
    let none : drop (length xs) xs ≡ [] = ap (drop (length xs)) (sym (append-none xs)) ∙ drop-append_seam xs [] in
    record { begins = sym (append-none xs) ∙ ap (λ r. xs ++ r) (sym none); counted = omega (arith, same) }

pub no_length : (xs : List ℕ) → length xs ≡ 0 → xs ≡ []
no_length [] h = refl
no_length (x ∷ xs) h = absurd (omega (arith, h))

module _ (i : Number) (t : TapesState) (taken : List ℕ) (drew : Drew no_words t (count_of i) taken) where
  fewer : 0 ≡ length taken + left_for i t
  fewer = drew.fewer

  pub none_taken : taken ≡ []
  none_taken = let h = fewer in no_length taken (omega (arith, h))

  pub none_left : left_for i t ≡ 0
  none_left = let h = fewer in omega (arith, h)

pub made_whole :
    (i : Number) (task : Task) (dealt : Values) (first : List ℕ) (budget : ℕ) (t : TapesState) (m : StreamState) →
    IsMade i task dealt first budget no_words t m → story_so_far m ≡ start_of task dealt first budget
made_whole i task dealt first budget t m made =
    ap (λ (s : Story). record s { lost = has_lost m.lost })
    (made.story ∙ ap (λ w. start_of task dealt (first ++ w) budget) (none_taken i t made.taken made.drew) ∙ ap (λ w. start_of task dealt w budget)
    (append-none first))
    ∙ ap (λ l. record (start_of task dealt first budget) { lost = has_lost l }) made.going

pub made_none :
    (i : Number) (task : Task) (dealt : Values) (first : List ℕ) (budget : ℕ) (t : TapesState) (m : StreamState) →
    IsMade i task dealt first budget no_words t m → m.ahead ≡ 0
made_none i task dealt first budget t m made = sym made.ahead ∙ none_left i t made.taken made.drew

module _ (i : Number) (l : Link) (m : List ℕ) (before after : StreamState) (t : TapesState) (none : before.lost ≡ None → before.ahead ≡ 0) where
  abbrev moved_whole : (r : Result Step MinerErr) → Type 0
  moved_whole r =
      ((story_so_far before).lost ≡ false) × (story_so_far after ≡ received i (story_so_far before) l m) × IsAnswer i (story_so_far after) r

  after_none : (r : Result Step MinerErr) → HasMoved i l m before after no_words t r → after.ahead ≡ 0
  after_none r h = sym h.ahead ∙ none_left i t h.taken h.drew

  move : (r : Result Step MinerErr) → before.lost ≡ None → HasMoved i l m before after no_words t r → moved_whole r
  move r going h =
      let tape : after.story.tape ≡ before.story.tape =
      h.tape ∙ ap (λ w. before.story.tape ++ w) (none_taken i t h.taken h.drew) ∙ append-none before.story.tape in (
        ap has_lost going,
        h.received after.story.tape ∙ ap (λ w. received i (with_tape before w) l m) tape,
        h.answers after.story.tape (itself after.story.tape after.ahead (after_none r h)),
      )

  by_answer : (r : Result Step MinerErr) → before.lost ≡ None → Answers i l m before after no_words t r →
      DeliverAnswers i (story_so_far before) (story_so_far after) l m r
  by_answer (Ok step) going h = move (Ok step) going h
  by_answer (Err (error.BadMessage at cause)) going h = move (Err (error.BadMessage at cause)) going h
  by_answer (Err (error.NotAwaited at)) going h =
      (h.here, h.ended before.story.tape (itself before.story.tape before.ahead (none going)), ap story_so_far h.same)
  by_answer (Err (error.Lost why)) going h = ap has_lost h.state

  -- what a miner that is of no further use answers
  abbrev IsSame : Result Step MinerErr → Lost → Type 0
  IsSame r k = (r ≡ Err (error.Lost k)) × (after ≡ before)

  module _ (r : Result Step MinerErr) (answers : before.lost ≡ None → Answers i l m before after no_words t r)
      (lost : (k : Lost) → before.lost ≡ Some k → IsSame r k) where
    pub whole_answers : DeliverAnswers i (story_so_far before) (story_so_far after) l m r
    whole_answers = by_lost before.lost refl
      where
        by_lost : (k : Option Lost) → before.lost ≡ k → DeliverAnswers i (story_so_far before) (story_so_far after) l m r
        by_lost None is = by_answer r is (answers is)
        by_lost (Some k) is =
            let same = lost k is in
            subst (λ q. DeliverAnswers i (story_so_far before) (story_so_far after) l m q) (sym same.0)
            (ap (λ (x : StreamState). has_lost x.lost) same.1 ∙ ap has_lost is)
