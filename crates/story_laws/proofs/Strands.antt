-- Strands that wait at a miner's own links and send messages of the words of a frame by its own links, and what they come to.
use Rattle.std.proofs.Common.{◌≡◌, ◌≢◌, ℕ, List, [], ◌∷◌, length, Bool, true, false, if◌then◌else◌, Option, Some, None, All, refl, sym, subst}
use Rattle.std.specs.Option.{option_map_or}
use Rattle.std.proofs.lemmas.List.Elements.{All-nil, All-cons}
use Rattle.proto_core.specs.declared.party.Number.{Number}
use Rattle.proto_core.specs.declared.link.Link.{Link}
use Rattle.proto_core.specs.declared.refused.BadMessage.{BadMessage}
use Rattle.proto_core.specs.Parties.{sender_of, receiver_of}
use Rattle.proto_core.specs.Script.{Move, Sends, Takes, Moves, UsesOwnLinks}
use Rattle.proto_core.specs.Standing.{Standing, AtItsEnd, Awaits, Refuses, before_mail, fault_of, standing_with}
use Rattle.proto_core.specs.Strand.{Notice, Shape, Mail, Act, Sent, Opened, Told, Strand, Ends, Acts, Waits, Ran, accepts, came, run, taken, on_link}
use Rattle.proto_core.specs.Strand.{same_link, then_do}
use Rattle.proto_core.proofs.MessageFields.{accepted-length}
use Rattle.proto_core.proofs.Strands.{same-link_is}
use Rattle.driven_nodes.specs.Driven.{telling}
use Rattle.wire.specs.Frames.{IsCount}
use Rattle.framed_runs.proofs.FramedScripts.{SendsFit}

module _ (i : Number) where
  abbrev pub ActsWell : Act → Type 0
  ActsWell (Sent l m) = (sender_of l ≡ i) × IsCount (length m)
  ActsWell (Opened words) = Unit {0}
  ActsWell (Told notice) = Unit {0}

  -- whatever messages come that it accepts
  abbrev pub Behaves : {A : Type 0} → Strand A → Type 0
  Behaves (Ends a) = Unit {0}
  Behaves (Acts act s) = ActsWell act × Behaves s
  Behaves (Waits l shape k) = (receiver_of l ≡ i) × ((m : List ℕ) → accepts shape m ≡ true → Behaves (k m))

  -- ---- made of parts

  pub then_behaves : {A B : Type 0} (s : Strand A) (f : A → Strand B) → Behaves s → ((a : A) → Behaves (f a)) → Behaves (then_do s f)
  then_behaves (Ends a) f h g = g a
  then_behaves (Acts act s) f h g = (h.0, then_behaves s f h.1 g)
  then_behaves (Waits l shape k) f h g = (h.0, λ m e. then_behaves (k m) f (h.1 m e) g)

  pub telling_behaves : {A : Type 0} (notices : List Notice) (s : Strand A) → Behaves s → Behaves (telling notices s)
  telling_behaves [] s h = h
  telling_behaves (notice ∷ notices) s h = (tt, telling_behaves notices s h)

  -- what moves along a script of its own links, in which frames are sent
  pub script_behaves : {A : Type 0} (s : Strand A) (moves : List Move) → Moves s moves → UsesOwnLinks i moves → SendsFit moves → Behaves s
  script_behaves (Ends a) moves h own fit = tt
  script_behaves (Acts (Opened words) s) moves h own fit = (tt, script_behaves s moves h own fit)
  script_behaves (Acts (Told notice) s) moves h own fit = (tt, script_behaves s moves h own fit)
  script_behaves (Acts (Sent k m) s) (Sends l shape ∷ moves) h own fit = (
    (subst (λ j. sender_of j ≡ i) h.0 own.0, subst IsCount (sym (accepted-length shape m h.1)) fit.0),
    script_behaves s moves h.2 own.1 fit.1,
  )
  script_behaves (Acts (Sent k m) s) (Takes l shape ∷ moves) h own fit = absurd h
  script_behaves (Acts (Sent k m) s) [] h own fit = absurd h
  script_behaves (Waits k shape f) (Takes l wanted ∷ moves) h own fit =
      (subst (λ j. receiver_of j ≡ i) h.0 own.0, λ m e. script_behaves (f m) moves (h.2 m e) own.1 fit)
  script_behaves (Waits k shape f) (Sends l wanted ∷ moves) h own fit = absurd h
  script_behaves (Waits k shape f) [] h own fit = absurd h

  -- ---- runs

  abbrev AllActWell : List Act → Type 0
  AllActWell [] = Unit {0}
  AllActWell (act ∷ acts) = ActsWell act × AllActWell acts

  pub record RanWell {A : Type 0} (r : Ran A) : Type 0 where
    pub acts : AllActWell r.acts
    pub left : Behaves r.left

  pub run_behaves : {A : Type 0} (s : Strand A) (mail : Mail) → Behaves s → RanWell (run s mail)
  run_behaves (Ends a) mail h = record { acts = tt; left = tt }
  run_behaves (Acts act s) mail h = let rest = run_behaves s mail h.1 in record { acts = (h.0, rest.acts); left = rest.left }
  run_behaves {A = A} (Waits l shape k) mail h = by_mail (mail l) (λ m e. run_behaves (k m) (taken l mail) (h.1 m e))
    where
      stands : Ran A
      stands = record { acts = []; left = Waits l shape k; unread = mail }

      by_mail : (ms : List (List ℕ)) → ((m : List ℕ) → accepts shape m ≡ true → RanWell (run (k m) (taken l mail)))
          → RanWell (came ms shape stands (λ m. run (k m) (taken l mail)))
      by_mail [] more = record { acts = tt; left = h }
      by_mail (m ∷ ms) more = by_shape (accepts shape m) refl
        where
          by_shape : (b : Bool) → accepts shape m ≡ b → RanWell (if b then run (k m) (taken l mail) else stands)
          by_shape true e = more m e
          by_shape false e = record { acts = tt; left = h }

  -- ---- where it stands

  abbrev pub IsAtItsLinks : Standing → Type 0
  IsAtItsLinks AtItsEnd = Unit {0}
  IsAtItsLinks (Awaits l) = receiver_of l ≡ i
  IsAtItsLinks (Refuses l cause) = receiver_of l ≡ i

  fault_at : (l : Link) (o : Option BadMessage) → receiver_of l ≡ i → IsAtItsLinks (option_map_or (Refuses l) o (Awaits l))
  fault_at l None h = h
  fault_at l (Some cause) h = h

  mail_at : (l : Link) (shape : Shape) (ms : List (List ℕ)) → receiver_of l ≡ i → IsAtItsLinks (before_mail l shape ms)
  mail_at l shape [] h = h
  mail_at l shape (m ∷ ms) h = fault_at l (fault_of shape m) h

  pub stands_at_its_links : {A : Type 0} (s : Strand A) (unread : Mail) → Behaves s → IsAtItsLinks (standing_with s unread)
  stands_at_its_links (Ends a) unread h = tt
  stands_at_its_links (Acts act s) unread h = stands_at_its_links s unread h.1
  stands_at_its_links (Waits l shape k) unread h = mail_at l shape (unread l) h.0

  -- ---- what it has sent

  abbrev Framed : List (List ℕ) → Type 0
  Framed ms = All (λ message. IsCount (length message)) ms

  pub sent_framed : (l : Link) (acts : List Act) → AllActWell acts → Framed (on_link l acts)
  sent_framed l [] h = All-nil (λ message. IsCount (length message))
  sent_framed l (Sent k m ∷ acts) h = go (same_link l k) (sent_framed l acts h.1)
    where
      go : (b : Bool) → Framed (on_link l acts) → Framed (if b then m ∷ on_link l acts else on_link l acts)
      go true rest = All-cons (λ message. IsCount (length message)) m (on_link l acts) h.0.1 rest
      go false rest = rest
  sent_framed l (Opened words ∷ acts) h = sent_framed l acts h.1
  sent_framed l (Told notice ∷ acts) h = sent_framed l acts h.1

  pub none_sent : (l : Link) (acts : List Act) → sender_of l ≢ i → AllActWell acts → on_link l acts ≡ []
  none_sent l [] other h = refl
  none_sent l (Sent k m ∷ acts) other h = go (same_link l k) refl (none_sent l acts other h.1)
    where
      go : (b : Bool) → same_link l k ≡ b → on_link l acts ≡ [] → (if b then m ∷ on_link l acts else on_link l acts) ≡ []
      go true e rest = absurd (other (subst (λ j. sender_of j ≡ i) (sym (same-link_is l k e)) h.0.0))
      go false e rest = rest
  none_sent l (Opened words ∷ acts) other h = none_sent l acts other h.1
  none_sent l (Told notice ∷ acts) other h = none_sent l acts other h.1
