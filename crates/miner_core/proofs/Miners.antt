-- A miner and its state, of which it may have let go what is done with.
use Rattle.std.proofs.Common.{◌≡◌, ◌≤◌, ◌<◌, ℕ, ◌+◌, true, false, if◌then◌else◌, List, [], ◌∷◌, ◌++◌, append_assoc, length, length-append, take, drop, refl}
use Rattle.std.proofs.Common.{sym, ◌∙◌, ap, subst, inl, inr, arith}
use Rattle.std.proofs.Math.Seq.{drop-append_seam}
use Rattle.std.proofs.lemmas.Bool.{cases_lt}
use Rattle.std.proofs.lemmas.List.{get_or-append-add, length-replicate, length-take-le}
use Rattle.std.proofs.lemmas.Option.{slice_get-get_or, slice_get_past}
use Rattle.std.specs.Prelude.{Bool, Option, None, Some, Result, Ok, Err, IfSome, replicate, slice_get}
use Rattle.outside.specs.Tapes.{TapesState}
use Rattle.proto_core.specs.declared.party.Number.{Number}
use Rattle.proto_core.specs.declared.link.Link.{Link}
use Rattle.proto_core.specs.Parties.{to_next, to_previous, from_previous}
use Rattle.proto_core.specs.Standing.{AtItsEnd}
use Rattle.proto_core.specs.Strand.{same_link, Act, Mail, Ran, run, on_link}
use Rattle.proto_core.specs.Net.{mail_of, added}
use Rattle.proto_core.proofs.Strands.{on_link-append, run-added}
use Rattle.gates.specs.Clear.{Values}
use Rattle.block_steps.specs.Outcomes.{Outcome, mail_left}
use Rattle.gate_node.specs.Nodes as node
use Rattle.gate_node.specs.Nodes.{IsTapeOf}
use Rattle.gate_node.specs.declared.engine.Engine as gates
use Rattle.own_code.specs.OwnCode.{Ended}
use Rattle.miner_core.specs.declared.answer.Lost.{Lost}
use Rattle.miner_core.specs.declared.answer.Step.{Step}
use Rattle.miner_core.specs.declared.answer.MinerErr.{MinerErr}
use Rattle.miner_core.specs.declared.answer.MinerErr.TheVariants as error
use Rattle.miner_core.specs.declared.engine.Engine.{Engine}
use Rattle.miner_core.specs.declared.kept.Kept.{Kept}
use Rattle.miner_core.specs.declared.miner.Miner.TheInside.{Inside}
use Rattle.miner_core.specs.declared.kept.Kept.TheVariants.{All, Needed}
use Rattle.gate_node.specs.declared.standing.Standing.{Standing}
use Rattle.miner_core.specs.declared.task.Task.{Task}
use Rattle.miner_core.specs.Drawing.{left_for, HasDrawn, IsLostBy, Delivers, IsAtItsEnd, IsAtRest, RunsOn}
use Rattle.miner_core.specs.Engines.{engine_left, with_words, Rests}
use Rattle.miner_core.specs.Miners.{MinerSeen, MinerState, held, fetched_to_next, fetched_to_previous, AreFetched, IsOf, HasToNext, HasNoneToNext}
use Rattle.miner_core.specs.Miners.{HasToPrevious, HasNoneToPrevious, IsMadeSo, HasCome, ForEachStory}
use Rattle.miner_core.specs.Past.{Past, no_past, with_past, IsLighter, HoldsLittle}
use Rattle.miner_core.specs.Story as story
use Rattle.miner_core.specs.Story.{Story, Follows, Leads, received, start_of, story_of, mail_in, strand_in, sent_to_next, sent_to_previous, stands_at, IsAnswerOf}
use Rattle.miner_core.specs.Streams.{StreamState, ForEachTape, story_in_use, with_tape, ForWordsDrawn, HasMoved, IsMade, Answers, IsOfMessage}
use Rattle.miner_core.proofs.Draws.{at_rest_new, story_delivered, story_made}
use Rattle.miner_core.proofs.Past.{at_rest_lighter, at_rest_next, at_rest_next_first, at_rest_previous, at_rest_previous_first, rests_past}
use Rattle.miner_core.proofs.Stories.{follows, mail_previous, mail_next}
use Rattle.miner_core.proofs.Streaming.{answers_moved, at_rest_then, ended_at, going_at, next_at, previous_at, then_state}

-- what a miner has, as those see it who know it
abbrev pub seen_in : {P : Type 0} → Inside P → MinerSeen P
seen_in m =
    record {
      engine = m.engine;
      rest = m.rest;
      budget = m.budget;
      ahead = m.ahead;
      lost = m.lost;
      past = m.past;
      passed_to_next = m.passed_to_next;
      passed_to_previous = m.passed_to_previous;
    }

-- ---- a tape that begins so

pub a_tape : (supplied : List ℕ) (ahead : ℕ) → (tape : List ℕ) × IsTapeOf supplied ahead tape
a_tape supplied ahead =
    let more : List ℕ = replicate ahead 0 in
    let counted = length-replicate {A = ℕ} ahead 0 in
    let all = length-append supplied more in
    (supplied ++ more, record { begins = ap (λ r. supplied ++ r) (sym (drop-append_seam supplied more)); counted = omega (arith, all, counted) })

-- ---- messages of which the first were let go

pub slice_get-past : {A : Type 0} (d : A) (gone held : List A) (k : ℕ) → slice_get (gone ++ held) (length gone + k) ≡ slice_get held k
slice_get-past {A} d gone held k =
    let all = length-append gone held in
    elim (cases_lt k (length held)) as (λ c. slice_get (gone ++ held) (length gone + k) ≡ slice_get held k) [
      | inl below ↦
          slice_get-get_or (gone ++ held) (length gone + k) d (omega (arith, all, below))
          ∙ ap Some (get_or-append-add gone held k d)
          ∙ sym (slice_get-get_or held k d below)
      | inr past ↦ slice_get_past (gone ++ held) (length gone + k) (omega (arith, all, past)) ∙ sym (slice_get_past held k past)
    ]

-- ---- how many were fetched

pub not_both : (past : Kept) → past ≡ All → past ≡ Needed → ⊥
not_both past keeps lets = cc

module _ (past : Kept) (gone held : List (List ℕ)) (here count : ℕ) (f : AreFetched past gone held here count) where
  pub fetched_one : here + 1 < length held → AreFetched past gone held (here + 1) (count + 1)
  fetched_one some =
      let counted = f.counted in
      record { counted = omega (arith, counted); within = omega (arith, some); little = λ lets all. absurd (omega (arith, some, all)) }

  -- one that keeps all holds it still
  pub fetched_kept : past ≡ All → here < length held → AreFetched past gone held (here + 1) (count + 1)
  fetched_kept keeps some =
      let counted = f.counted in
      record { counted = omega (arith, counted); within = omega (arith, some); little = λ lets. absurd (not_both past keeps lets) }

  pub fetched_last : here + 1 ≡ length held → AreFetched past (gone ++ held) [] 0 (count + 1)
  fetched_last last =
      let counted = f.counted in
      let all = length-append gone held in
      record { counted = omega (arith, counted, all, last); within = omega arith; little = λ lets same. refl }

  pub none_here : length held ≤ here → count < length (gone ++ held) → ⊥
  none_here past some =
      let counted = f.counted in
      let all = length-append gone held in
      omega (arith, counted, all, past, some)

  pub some_here : here < length held → length (gone ++ held) ≤ count → ⊥
  some_here some none =
      let counted = f.counted in
      let all = length-append gone held in
      omega (arith, counted, all, some, none)

  pub at_fetched : slice_get (gone ++ held) count ≡ slice_get held here
  at_fetched = ap (slice_get (gone ++ held)) (sym f.counted) ∙ slice_get-past [] gone held here

no_others : (ms : List (List ℕ)) → 0 ≡ length ms → ms ≡ []
no_others [] e = refl
no_others (m ∷ ms) e = absurd (omega (arith, e))

-- those that were fetched go
pub fetched_first :
    (past : Kept) (gone held : List (List ℕ)) (here count : ℕ) → AreFetched past gone held here count →
    AreFetched past (gone ++ take here held) (drop here held) 0 count
fetched_first past gone held here count f =
    let counted = f.counted in
    let within = f.within in
    let all = length-append gone (take here held) in
    let first = length-take-le here held within in
    record { counted = omega (arith, counted, within, all, first); within = omega arith; little = λ lets none. no_others (drop here held) none }

pub none_fetched : (past : Kept) (held : List (List ℕ)) → AreFetched past [] held 0 0
none_fetched past held = record { counted = refl; within = omega arith; little = λ lets none. no_messages held none }
  where
    no_messages : (ms : List (List ℕ)) → 0 ≡ length ms → ms ≡ []
    no_messages [] e = refl
    no_messages (m ∷ ms) e = absurd (omega (arith, e))

-- more were sent, which are held
pub fetched_grown :
    (past : Kept) (gone held held2 : List (List ℕ)) (here count : ℕ) → (later : List (List ℕ)) × (held2 ≡ held ++ later) →
    AreFetched past gone held here count → AreFetched past gone held2 here count
fetched_grown past gone held held2 here count more f =
    let later = more.0 in
    let grown = more.1 in
    let all : length held2 ≡ length held + length later = ap length grown ∙ length-append held later in
    let within = f.within in
    record {
      counted = f.counted;
      within = omega (arith, within, all);
      little =
          λ lets same.
          let none : held ≡ [] = f.little lets (omega (arith, within, all, same)) in
          grown
          ∙ ap (λ ms. ms ++ later) none
          ∙ no_length later (omega (arith, within, all, same));
    }
  where
    no_length : (ms : List (List ℕ)) → length ms ≡ 0 → ms ≡ []
    no_length [] e = refl
    no_length (m ∷ ms) e = absurd (omega (arith, e))

-- ---- messages are fetched

module _ {P : Type 0} (i : Number) (m : MinerSeen P) (w : MinerState) (is : IsOf i m w) (going : w.stream.lost ≡ None) where
  pub next_so : (tape : List ℕ) → IsTapeOf w.stream.story.tape w.stream.ahead tape →
      (is.works going).past.to_next ++ m.engine.node.links.to_next ≡ sent_to_next i (with_tape w.stream tape)
  next_so tape of = let h = is.works going in next_at i h.past m.engine m.rest w.stream (λ same. h.rests) going tape of

  pub previous_so : (tape : List ℕ) → IsTapeOf w.stream.story.tape w.stream.ahead tape →
      (is.works going).past.to_previous ++ m.engine.node.links.to_previous ≡ sent_to_previous i (with_tape w.stream tape)
  previous_so tape of = let h = is.works going in previous_at i h.past m.engine m.rest w.stream (λ same. h.rests) going tape of

  -- where none is held that was not fetched, none is there; and so the other way round
  pub no_next : length m.engine.node.links.to_next ≤ m.passed_to_next → HasToNext i w → ⊥
  no_next past some =
      let h = is.works going in
      let t = a_tape w.stream.story.tape w.stream.ahead in
      none_here m.past h.past.to_next m.engine.node.links.to_next m.passed_to_next w.to_next h.to_next past
      (subst (λ (ms : List (List ℕ)). w.to_next < length ms) (sym (next_so t.0 t.1)) (some going t.0 t.1))

  pub some_next : m.passed_to_next < length m.engine.node.links.to_next → HasNoneToNext i w → ⊥
  some_next some none =
      let h = is.works going in
      let t = a_tape w.stream.story.tape w.stream.ahead in
      some_here m.past h.past.to_next m.engine.node.links.to_next m.passed_to_next w.to_next h.to_next some
      (subst (λ (ms : List (List ℕ)). length ms ≤ w.to_next) (sym (next_so t.0 t.1)) (none going t.0 t.1))

  pub no_previous : length m.engine.node.links.to_previous ≤ m.passed_to_previous → HasToPrevious i w → ⊥
  no_previous past some =
      let h = is.works going in
      let t = a_tape w.stream.story.tape w.stream.ahead in
      none_here m.past h.past.to_previous m.engine.node.links.to_previous m.passed_to_previous w.to_previous h.to_previous past
      (subst (λ (ms : List (List ℕ)). w.to_previous < length ms) (sym (previous_so t.0 t.1)) (some going t.0 t.1))

  pub some_previous : m.passed_to_previous < length m.engine.node.links.to_previous → HasNoneToPrevious i w → ⊥
  some_previous some none =
      let h = is.works going in
      let t = a_tape w.stream.story.tape w.stream.ahead in
      some_here m.past h.past.to_previous m.engine.node.links.to_previous m.passed_to_previous w.to_previous h.to_previous some
      (subst (λ (ms : List (List ℕ)). length ms ≤ w.to_previous) (sym (previous_so t.0 t.1)) (none going t.0 t.1))

module _ {P : Type 0} (i : Number) (m : MinerSeen P) (w : MinerState) (is : IsOf i m w) where
  -- where it is not so while it is of use, the miner is of any such state
  pub lost_only : (n : MinerSeen P) (v : MinerState) → n.lost ≡ m.lost → n.past ≡ m.past → n.budget ≡ m.budget → v.stream ≡ w.stream →
      (w.stream.lost ≡ None → ⊥) → IsOf i n v
  lost_only n v lost past budget same gone =
      record {
        lost = lost ∙ is.lost ∙ ap (λ (s : StreamState). s.lost) (sym same);
        past = past ∙ is.past ∙ ap (λ (s : StreamState). s.past) (sym same);
        budget = budget ∙ is.budget ∙ ap (λ (s : StreamState). s.story.budget) (sym same);
        works = λ going. absurd (gone (ap (λ (s : StreamState). s.lost) (sym same) ∙ going));
      }

  -- one that is not the last
  pub one_to_next : m.passed_to_next + 1 < length m.engine.node.links.to_next →
      IsOf i (record m { passed_to_next = m.passed_to_next + 1 }) (fetched_to_next w)
  one_to_next some =
      record {
        lost = is.lost;
        past = is.past;
        budget = is.budget;
        works =
            λ going.
            let h = is.works going in
            record {
              past = h.past;
              rests = h.rests;
              to_next = fetched_one m.past h.past.to_next m.engine.node.links.to_next m.passed_to_next w.to_next h.to_next some;
              to_previous = h.to_previous;
              nothing_gone = h.nothing_gone;
              whole = h.whole;
              little = h.little;
            };
      }

  pub one_to_previous : m.passed_to_previous + 1 < length m.engine.node.links.to_previous →
      IsOf i (record m { passed_to_previous = m.passed_to_previous + 1 }) (fetched_to_previous w)
  one_to_previous some =
      record {
        lost = is.lost;
        past = is.past;
        budget = is.budget;
        works =
            λ going.
            let h = is.works going in
            record {
              past = h.past;
              rests = h.rests;
              to_next = h.to_next;
              to_previous = fetched_one m.past h.past.to_previous m.engine.node.links.to_previous m.passed_to_previous w.to_previous h.to_previous some;
              nothing_gone = h.nothing_gone;
              whole = h.whole;
              little = h.little;
            };
      }

  -- one that keeps all holds it still
  pub kept_to_next :
      m.past ≡ All → m.passed_to_next < length m.engine.node.links.to_next →
      IsOf i (record m { passed_to_next = m.passed_to_next + 1 }) (fetched_to_next w)
  kept_to_next keeps some =
      record {
        lost = is.lost;
        past = is.past;
        budget = is.budget;
        works =
            λ going.
            let h = is.works going in
            record {
              past = h.past;
              rests = h.rests;
              to_next = fetched_kept m.past h.past.to_next m.engine.node.links.to_next m.passed_to_next w.to_next h.to_next keeps some;
              to_previous = h.to_previous;
              nothing_gone = h.nothing_gone;
              whole = h.whole;
              little = h.little;
            };
      }

  pub kept_to_previous :
      m.past ≡ All → m.passed_to_previous < length m.engine.node.links.to_previous →
      IsOf i (record m { passed_to_previous = m.passed_to_previous + 1 }) (fetched_to_previous w)
  kept_to_previous keeps some =
      record {
        lost = is.lost;
        past = is.past;
        budget = is.budget;
        works =
            λ going.
            let h = is.works going in
            record {
              past = h.past;
              rests = h.rests;
              to_next = h.to_next;
              to_previous = fetched_kept m.past h.past.to_previous m.engine.node.links.to_previous m.passed_to_previous w.to_previous h.to_previous keeps some;
              nothing_gone = h.nothing_gone;
              whole = h.whole;
              little = h.little;
            };
      }

  -- the last one
  pub last_to_next :
      m.past ≡ Needed → (n : gates.Engine P) → n ≡ node.with_links m.engine.node (record m.engine.node.links { to_next = [] }) →
      m.passed_to_next + 1 ≡ length m.engine.node.links.to_next →
      IsOf i (record m { engine = record m.engine { node = n }; passed_to_next = 0 }) (fetched_to_next w)
  last_to_next needed n gone last =
      subst (λ v. IsOf i (record m { engine = record m.engine { node = v }; passed_to_next = 0 }) (fetched_to_next w)) (sym gone)
      (record {
        lost = is.lost;
        past = is.past;
        budget = is.budget;
        works =
            λ going.
            let h = is.works going in
            record {
              past = record h.past { to_next = h.past.to_next ++ m.engine.node.links.to_next };
              rests = at_rest_next i h.past m.engine m.rest _ _ h.rests;
              to_next = fetched_last m.past h.past.to_next m.engine.node.links.to_next m.passed_to_next w.to_next h.to_next last;
              to_previous = h.to_previous;
              nothing_gone = λ keeps. absurd (not_both m.past keeps needed);
              whole = λ keeps. absurd (not_both m.past keeps needed);
              little = λ lets.
                  let few = h.little lets in record { previous = few.previous; next = few.next; tape = few.tape };
            };
      })

  pub last_to_previous :
      m.past ≡ Needed → (n : gates.Engine P) → n ≡ node.with_links m.engine.node (record m.engine.node.links { to_previous = [] }) →
      m.passed_to_previous + 1 ≡ length m.engine.node.links.to_previous →
      IsOf i (record m { engine = record m.engine { node = n }; passed_to_previous = 0 }) (fetched_to_previous w)
  last_to_previous needed n gone last =
      subst (λ v. IsOf i (record m { engine = record m.engine { node = v }; passed_to_previous = 0 }) (fetched_to_previous w)) (sym gone)
      (record {
        lost = is.lost;
        past = is.past;
        budget = is.budget;
        works =
            λ going.
            let h = is.works going in
            record {
              past = record h.past { to_previous = h.past.to_previous ++ m.engine.node.links.to_previous };
              rests = at_rest_previous i h.past m.engine m.rest _ _ h.rests;
              to_next = h.to_next;
              to_previous =
                  fetched_last m.past h.past.to_previous m.engine.node.links.to_previous m.passed_to_previous w.to_previous h.to_previous last;
              nothing_gone = λ keeps. absurd (not_both m.past keeps needed);
              whole = λ keeps. absurd (not_both m.past keeps needed);
              little = λ lets.
                  let few = h.little lets in record { previous = few.previous; next = few.next; tape = few.tape };
            };
      })

  -- those that were fetched go
  pub first_to_next :
      m.past ≡ Needed → (n : gates.Engine P) →
      n ≡ node.with_links m.engine.node (record m.engine.node.links { to_next = drop m.passed_to_next m.engine.node.links.to_next }) →
      IsOf i (record m { engine = record m.engine { node = n }; passed_to_next = 0 }) w
  first_to_next needed n gone =
      subst (λ v. IsOf i (record m { engine = record m.engine { node = v }; passed_to_next = 0 }) w) (sym gone)
      (record {
        lost = is.lost;
        past = is.past;
        budget = is.budget;
        works =
            λ going.
            let h = is.works going in
            record {
              past = record h.past { to_next = h.past.to_next ++ take m.passed_to_next m.engine.node.links.to_next };
              rests = at_rest_next_first i m.passed_to_next h.past m.engine m.rest _ _ h.rests;
              to_next = fetched_first m.past h.past.to_next m.engine.node.links.to_next m.passed_to_next w.to_next h.to_next;
              to_previous = h.to_previous;
              nothing_gone = λ keeps. absurd (not_both m.past keeps needed);
              whole = λ keeps. absurd (not_both m.past keeps needed);
              little = λ lets.
                  let few = h.little lets in record { previous = few.previous; next = few.next; tape = few.tape };
            };
      })

  pub first_to_previous :
      m.past ≡ Needed → (n : gates.Engine P) →
      n ≡ node.with_links m.engine.node (record m.engine.node.links { to_previous = drop m.passed_to_previous m.engine.node.links.to_previous }) →
      IsOf i (record m { engine = record m.engine { node = n }; passed_to_previous = 0 }) w
  first_to_previous needed n gone =
      subst (λ v. IsOf i (record m { engine = record m.engine { node = v }; passed_to_previous = 0 }) w) (sym gone)
      (record {
        lost = is.lost;
        past = is.past;
        budget = is.budget;
        works =
            λ going.
            let h = is.works going in
            record {
              past = record h.past { to_previous = h.past.to_previous ++ take m.passed_to_previous m.engine.node.links.to_previous };
              rests = at_rest_previous_first i m.passed_to_previous h.past m.engine m.rest _ _ h.rests;
              to_next = h.to_next;
              to_previous =
                  fetched_first m.past h.past.to_previous m.engine.node.links.to_previous m.passed_to_previous w.to_previous h.to_previous;
              nothing_gone = λ keeps. absurd (not_both m.past keeps needed);
              whole = λ keeps. absurd (not_both m.past keeps needed);
              little = λ lets.
                  let few = h.little lets in record { previous = few.previous; next = few.next; tape = few.tape };
            };
      })

-- ---- messages are sent

-- what is done more, where these messages come more
abbrev done_behind : Number → Story → (more : Mail) → List Act
done_behind i s more = (run (story.node i s).left (added (story.node i s).unread more)).acts

-- after a message that comes, it has done what it had done, and more
acts_grow : (i : Number) (s : Story) (l : Link) (m : List ℕ) → (later : List Act) × ((story.node i (received i s l m)).acts ≡ (story.node i s).acts ++ later)
acts_grow i s l m = by_link (same_link (from_previous i) l)
  where
    by_link : (b : Bool) →
        (later : List Act)
        × ((story.node i (if b then record s { from_previous = s.from_previous ++ m ∷ [] } else record s { from_next = s.from_next ++ m ∷ [] })).acts
        ≡ (story.node i s).acts ++ later)
    by_link true = (
      done_behind i s (mail_of i (m ∷ []) []),
      ap (λ (r : Ran Ended). r.acts)
          (ap (run (strand_in i s)) (mail_previous i s.from_previous s.from_next m)
          ∙ run-added (strand_in i s) (mail_in i s) (mail_of i (m ∷ []) [])),
    )
    by_link false = (
      done_behind i s (mail_of i [] (m ∷ [])),
      ap (λ (r : Ran Ended). r.acts)
          (ap (run (strand_in i s)) (mail_next i s.from_previous s.from_next m)
          ∙ run-added (strand_in i s) (mail_in i s) (mail_of i [] (m ∷ []))),
    )

-- what is held then of what was sent
held_grow :
    (gone held held2 more before after later : List (List ℕ)) → (gone ++ held) ++ more ≡ before → gone ++ held2 ≡ after → after ≡ before ++ later →
    held2 ≡ held ++ (more ++ later)
held_grow gone held held2 more before after later first second grown =
    let all : gone ++ held2 ≡ gone ++ (held ++ (more ++ later)) =
    second ∙ grown ∙ ap (λ ms. ms ++ later) (sym first) ∙ append_assoc (gone ++ held) more later ∙ append_assoc gone held (more ++ later) in
    sym (drop-append_seam gone held2) ∙ ap (drop (length gone)) all ∙ drop-append_seam gone (held ++ (more ++ later))

module _
    {P : Type 0} (i : Number) (past : Past) (e e2 : Engine P) (at at2 : Standing) (ahead : ℕ) (x : Story) (l : Link) (m : List ℕ) (s t : TapesState)
    (h : IsAtRest i past e at ahead x) (d : Delivers i at2 l m e e2 s t) where
  -- the words that were drawn are enough
  abbrev begun : Story
  begun = record x { tape = x.tape ++ (d.taken ++ []) }

  abbrev ran : Ran Ended
  ran = run (engine_left i (with_words (with_past past e) (d.taken ++ []))) (mail_left i e.node.links)

  stands_then : Follows i (with_words (with_past past e2) []) (received i begun l m)
  stands_then =
      follows i (with_words (with_past past e2) []) (received i begun l m) at2 (d.leads past [] begun (h.leads (d.taken ++ [])))
      (rests_past i past (with_words e2 []) at2 (d.rests [] (omega arith)))

  pub next_grow : (later : List (List ℕ)) × (e2.node.links.to_next ≡ e.node.links.to_next ++ later)
  next_grow =
      let more = acts_grow i begun l m in
      let first = on_link (to_next i) ran.acts in
      let second = on_link (to_next i) more.0 in (
        first ++ second,
        held_grow past.to_next e.node.links.to_next e2.node.links.to_next first (sent_to_next i begun)
            (sent_to_next i (received i begun l m)) second
            (ap (λ (o : Outcome Ended). o.to_next) (h.leads (d.taken ++ [])).same)
            (ap (λ (o : Outcome Ended). o.to_next) stands_then.same)
            (ap (on_link (to_next i)) more.1 ∙ on_link-append (to_next i) (story.node i begun).acts more.0),
      )

  pub previous_grow : (later : List (List ℕ)) × (e2.node.links.to_previous ≡ e.node.links.to_previous ++ later)
  previous_grow =
      let more = acts_grow i begun l m in
      let first = on_link (to_previous i) ran.acts in
      let second = on_link (to_previous i) more.0 in (
        first ++ second,
        held_grow past.to_previous e.node.links.to_previous e2.node.links.to_previous first (sent_to_previous i begun)
            (sent_to_previous i (received i begun l m)) second
            (ap (λ (o : Outcome Ended). o.to_previous) (h.leads (d.taken ++ [])).same)
            (ap (λ (o : Outcome Ended). o.to_previous) stands_then.same)
            (ap (on_link (to_previous i)) more.1 ∙ on_link-append (to_previous i) (story.node i begun).acts more.0),
      )

-- ---- a message came

received_budget : (i : Number) (s : Story) (l : Link) (m : List ℕ) → (received i s l m).budget ≡ s.budget
received_budget i s l m = by_link (same_link (from_previous i) l)
  where
    by_link : (b : Bool) →
        (if b then record s { from_previous = s.from_previous ++ m ∷ [] } else record s { from_next = s.from_next ++ m ∷ [] }).budget ≡ s.budget
    by_link true = refl
    by_link false = refl

-- the engine has gone on with it, and may then have let go what is done with
module _
    {P : Type 0} (i : Number) (m : MinerSeen P) (w : MinerState) (is : IsOf i m w) (going : w.stream.lost ≡ None) (l : Link) (words : List ℕ)
    (e2 e3 : Engine P) (at2 : Standing) (s t : TapesState) (d : Delivers i at2 l words m.engine e2 s t) (lighter : IsLighter e2 e3)
    (little : m.past ≡ Needed → HoldsLittle e3) (same : m.past ≡ All → e3 ≡ e2) (ahead : ℕ) (left : ahead ≡ left_for i t) where
  abbrev then_stream : StreamState
  then_stream = then_state i w.stream l words d.taken ahead

  rests_then : IsAtRest i (is.works going).past e3 at2 ahead (story_in_use then_stream)
  rests_then =
      let h = is.works going in
      at_rest_lighter i e2 e3 lighter h.past at2 ahead (story_in_use then_stream)
      (at_rest_then i w.stream l words h.past m.engine e2 m.rest at2 s t h.rests d ahead left)

  whole_then : m.past ≡ All → held (record m { engine = e3; rest = at2; ahead = ahead }) ≡ then_stream
  whole_then keeps =
      ap (λ e. held (record m { engine = e; rest = at2; ahead = ahead })) (same keeps)
      ∙ ap (λ (x : Story). record (held m) { story = x; ahead = ahead }) (story_delivered i m.engine e2 at2 l words m.budget s t d)
      ∙ ap (λ v. then_state i v l words d.taken ahead) ((is.works going).whole keeps)

  pub come_then : IsOf i (record m { engine = e3; rest = at2; ahead = ahead }) (record w { stream = then_stream })
  come_then =
      let h = is.works going in
      let next = next_grow i h.past m.engine e2 m.rest at2 w.stream.ahead (story_in_use w.stream) l words s t h.rests d in
      let previous = previous_grow i h.past m.engine e2 m.rest at2 w.stream.ahead (story_in_use w.stream) l words s t h.rests d in
      record {
        lost = is.lost;
        past = is.past;
        budget = is.budget ∙ sym (received_budget i w.stream.story l words);
        works =
            λ same_use.
            record {
              past = h.past;
              rests = rests_then;
              to_next =
                  fetched_grown m.past h.past.to_next m.engine.node.links.to_next e3.node.links.to_next m.passed_to_next w.to_next
                  (next.0, ap (λ (e : Engine P). e.node.links.to_next) lighter.same ∙ next.1) h.to_next;
              to_previous =
                  fetched_grown m.past h.past.to_previous m.engine.node.links.to_previous e3.node.links.to_previous m.passed_to_previous w.to_previous
                  (previous.0, ap (λ (e : Engine P). e.node.links.to_previous) lighter.same ∙ previous.1) h.to_previous;
              nothing_gone = h.nothing_gone;
              whole = whole_then;
              little = little;
            };
      }

  pub has_come :
      (r : Result Step MinerErr) →
      ((more : List ℕ) → Rests i at2 (with_words e3 more) → IsAnswerOf (engine_left i (with_words e3 more)) (mail_left i e3.node.links) r) →
      IsOfMessage r → HasCome i l words w (record m { engine = e3; rest = at2; ahead = ahead }) s t r
  has_come r answers of =
      record {
        stream = then_stream;
        is = come_then;
        answers =
            λ same_use.
            answers_moved i w.stream l words (is.works going).past e3 at2 s t d.taken ahead r going d.drew (sym left) rests_then answers of;
      }

-- ---- it is made

pub made_so :
    {P : Type 0} (i : Number) (task : Task) (dealt : Values) (first : List ℕ) (budget : ℕ) (past : Kept) (s t : TapesState) (e e2 e3 : Engine P)
    (at : Standing) (ahead : ℕ) → story_of e budget ≡ start_of task dealt first budget →
    ((more : List ℕ) → Leads i (with_words e more) (start_of task dealt (first ++ more) budget)) → (runs : RunsOn i at e e2 s t) →
    IsLighter e2 e3 → (past ≡ Needed → HoldsLittle e3) → (past ≡ All → e3 ≡ e2) → ahead ≡ left_for i t →
    IsMadeSo i task dealt first budget past s t
    (record { engine = e3; rest = at; budget = budget; ahead = ahead; lost = None; past = past; passed_to_next = 0; passed_to_previous = 0 })
made_so i task dealt first budget past s t e e2 e3 at ahead story leads runs lighter little same left =
    let d = runs.drew in
    let began = start_of task dealt (first ++ d.taken) budget in
    record {
      stream = record { story = began; ahead = ahead; lost = None; past = past };
      made = record { going = refl; taken = d.taken; drew = d.drew; story = refl; ahead = sym left };
      past_is = refl;
      is =
          record {
            lost = refl;
            past = refl;
            budget = refl;
            works =
                λ same_use.
                record {
                  past = no_past;
                  rests =
                      at_rest_lighter i e2 e3 lighter no_past at ahead began
                      (subst (λ n. IsAtRest i no_past e2 at n began) (sym left) (at_rest_new i e e2 at task dealt first budget s t leads runs));
                  to_next = none_fetched past e3.node.links.to_next;
                  to_previous = none_fetched past e3.node.links.to_previous;
                  nothing_gone = λ keeps. refl;
                  whole =
                      λ keeps.
                      ap (λ v. record { story = story_of v budget; ahead = ahead; lost = None; past = past }) (same keeps)
                      ∙ ap (λ (x : Story). record { story = x; ahead = ahead; lost = None; past = past })
                      (story_made i e e2 task dealt first budget s t story d);
                  little = little;
                };
          };
    }

-- ---- what it holds, where it keeps all

module _ {P : Type 0} (i : Number) (m : MinerSeen P) where
  pub whole_is : (w : MinerState) → IsOf i m w → m.past ≡ All → m.lost ≡ None → held m ≡ w.stream
  whole_is w is keeps going = (is.works (sym is.lost ∙ going)).whole keeps

  module _ (known : (w : MinerState) × IsOf i m w) where
    -- what holds of each state holds of what it holds
    pub each_story : (Q : Story → Type 0) → ((w : MinerState) → IsOf i m w → ForEachTape w.stream Q) → ForEachStory i m Q
    each_story Q each =
        record {
          states = each;
          kept =
              λ keeps going.
              subst (λ v. ForEachTape v Q) (sym (whole_is known.0 known.1 keeps going)) (each known.0 known.1) going;
        }

    pub each_drawn : (Q : Story → Type 0) → ((w : MinerState) → IsOf i m w → ForWordsDrawn w.stream Q) → m.past ≡ All → ForWordsDrawn (held m) Q
    each_drawn Q each keeps going =
        subst (λ v. ForWordsDrawn v Q) (sym (whole_is known.0 known.1 keeps going)) (each known.0 known.1) going

    pub all_to_next : m.past ≡ All → ForEachTape (held m) (λ s. m.engine.node.links.to_next ≡ sent_to_next i s)
    all_to_next keeps going =
        let w = known.0 in
        let is = known.1 in
        let h = is.works (sym is.lost ∙ going) in
        subst (λ v. ForEachTape v (λ s. m.engine.node.links.to_next ≡ sent_to_next i s)) (sym (h.whole keeps))
        (λ going_so tape of.
        ap (λ (past : Past). past.to_next ++ m.engine.node.links.to_next) (sym (h.nothing_gone keeps))
        ∙ next_at i h.past m.engine m.rest w.stream (λ same. h.rests) going_so tape of) going

    pub all_to_previous : m.past ≡ All → ForEachTape (held m) (λ s. m.engine.node.links.to_previous ≡ sent_to_previous i s)
    all_to_previous keeps going =
        let w = known.0 in
        let is = known.1 in
        let h = is.works (sym is.lost ∙ going) in
        subst (λ v. ForEachTape v (λ s. m.engine.node.links.to_previous ≡ sent_to_previous i s)) (sym (h.whole keeps))
        (λ going_so tape of.
        ap (λ (past : Past). past.to_previous ++ m.engine.node.links.to_previous) (sym (h.nothing_gone keeps))
        ∙ previous_at i h.past m.engine m.rest w.stream (λ same. h.rests) going_so tape of) going

-- a message came to one that keeps all
module _ {P : Type 0} (i : Number) (m n : MinerSeen P) (l : Link) (words : List ℕ) (s t : TapesState) (keeps : m.past ≡ All) (still : n.past ≡ All)
    (going : m.lost ≡ None) where
  module _ (w : MinerState) (is : IsOf i m w) where
    all_moved :
        (a : Result Step MinerErr) (stream : StreamState) → IsOf i n (record w { stream = stream }) → HasMoved i l words w.stream stream s t a →
        HasMoved i l words (held m) (held n) s t a
    all_moved a stream comes h =
        subst (λ v. HasMoved i l words v (held n) s t a) (sym (whole_is i m w is keeps going))
        (subst (λ v. HasMoved i l words w.stream v s t a) (sym (whole_is i n (record w { stream = stream }) comes still (comes.lost ∙ h.going))) h)

    pub all_answers : (r : Result Step MinerErr) → HasCome i l words w n s t r → Answers i l words (held m) (held n) s t r
    all_answers (Ok step) h = all_moved (Ok step) h.stream h.is (h.answers (sym is.lost ∙ going))
    all_answers (Err (error.BadMessage at cause)) h = all_moved (Err (error.BadMessage at cause)) h.stream h.is (h.answers (sym is.lost ∙ going))
    all_answers (Err (error.Lost why)) h =
        let a = h.answers (sym is.lost ∙ going) in record { state = h.is.lost ∙ a.state; drawn = a.drawn; cause = a.cause }
    all_answers (Err (error.NotAwaited at)) h =
        let a = h.answers (sym is.lost ∙ going) in
        let before = whole_is i m w is keeps going in
        let used : n.lost ≡ None = h.is.lost ∙ ap (λ (v : StreamState). v.lost) a.same ∙ sym is.lost ∙ going in
        let after = whole_is i n (record w { stream = h.stream }) h.is still used in
        record {
          here = a.here;
          same = after ∙ a.same ∙ sym before;
          source = a.source;
          ended = subst (λ (v : StreamState). (tape : List ℕ) → IsTapeOf v.story.tape v.ahead tape → stands_at i (with_tape v tape) ≡ AtItsEnd) (sym before)
              a.ended;
        }

-- ---- it is of no further use

pub none_lost : (o : Option Lost) (Q : Lost → Type 0) → o ≡ None → IfSome o Q
none_lost o Q none = subst (λ v. IfSome v Q) (sym none) tt

not_none : (k : Lost) (o : Option Lost) → o ≡ Some k → o ≡ None → ⊥
not_none k o some none = absurd (apart (sym some ∙ none))
  where
    apart : Some k ≡ None → ⊥
    apart e = cc

module _ {P : Type 0} (i : Number) (m : MinerSeen P) (w : MinerState) (is : IsOf i m w) (l : Link) (words : List ℕ) (s t : TapesState) where
  -- it was before
  module _ (k : Lost) (lost : m.lost ≡ Some k) where
    pub not_going : w.stream.lost ≡ None → ⊥
    not_going going = not_none k w.stream.lost (sym is.lost ∙ lost) going

    pub still_lost : (r : Result Step MinerErr) → HasCome i l words w m s t r
    still_lost r = record { stream = w.stream; is = is; answers = λ going. absurd (not_going going) }

    pub lost_so : (Q : Lost → Type 0) → Q k → IfSome w.stream.lost Q
    lost_so Q h = subst (λ o. IfSome o Q) (sym (sym is.lost ∙ lost)) h

  -- it is now
  pub lost_now :
      (e2 : Engine P) (why : Lost) → HasDrawn i s t → IsLostBy s t why →
      HasCome i l words w (record m { engine = e2; lost = Some why }) s t (Err (error.Lost why))
  lost_now e2 why drawn cause =
      record {
        stream = record w.stream { lost = Some why };
        is = record { lost = refl; past = is.past; budget = is.budget; works = λ same. absurd (not_none why (Some why) refl same) };
        answers = λ going. record { state = refl; drawn = drawn; cause = cause };
      }

-- ---- it had ended

module _ {P : Type 0} (i : Number) (m : MinerSeen P) (w : MinerState) (is : IsOf i m w) (l : Link) (words : List ℕ) (s : TapesState) where
  pub not_moved :
      ((more : List ℕ) → Rests i m.rest (with_words m.engine more) → IsAtItsEnd i m.engine more) →
      HasCome i l words w m s s (Err (error.NotAwaited l))
  not_moved ended =
      record {
        stream = w.stream;
        is = is;
        answers =
            λ going.
            let h = is.works going in
            record {
              here = refl;
              same = refl;
              source = refl;
              ended = ended_at i h.past m.engine m.rest w.stream (λ same. h.rests) ended going;
            };
      }

  pub goes_on :
      (A : Type 0) → ((more : List ℕ) → Rests i m.rest (with_words m.engine more) → IsAtItsEnd i m.engine more → ⊥) →
      ForEachTape w.stream (λ x. stands_at i x ≡ AtItsEnd → A)
  goes_on A on going tape of at_end =
      let h = is.works going in going_at i h.past m.engine m.rest w.stream (λ same. h.rests) A on going tape of at_end

-- ---- it was made so

-- one that keeps all is made as it holds
pub made_whole_of :
    {P : Type 0} (i : Number) (task : Task) (dealt : Values) (first : List ℕ) (budget : ℕ) (s t : TapesState) (m : MinerSeen P) →
    IsMadeSo i task dealt first budget All s t m → IsMade i task dealt first budget s t (held m)
made_whole_of i task dealt first budget s t m h =
    subst (IsMade i task dealt first budget s t)
    (sym (whole_is i m (record { stream = h.stream; to_next = 0; to_previous = 0 }) h.is h.past_is (h.is.lost ∙ h.made.going))) h.made
