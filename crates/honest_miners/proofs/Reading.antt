-- A miner whose bytes begin frames reads their messages, and never meets what is no frame.
use Rattle.std.proofs.Common.{◌≡◌, ℕ, Bool, true, false, if◌then◌else◌, List, [], ◌∷◌, ◌++◌, refl, sym, ◌∙◌, ap, subst, is_none}
use Rattle.std.specs.List.{All}
use Rattle.std.specs.Prelude.{Option, Some, None}
use Rattle.std.proofs.lemmas.List.Elements.{All-head, All-tail, All-cons, All-nil}
use Rattle.proto_core.specs.declared.link.Link.{Link}
use Rattle.proto_core.specs.declared.refused.BadMessage.{BadMessage}
use Rattle.proto_core.specs.Net.{nothing}
use Rattle.proto_core.specs.Standing.{fault_of}
use Rattle.proto_core.specs.Strand.{Acts, Agree, Begins, Ends, Mail, Shape, Strand, Waits, accepts, rest_of, run, same_link, taken}
use Rattle.proto_core.proofs.Refusing.{faultless_is_accepted}
use Rattle.proto_core.proofs.Strands.{run-none, run-refused, run-took, same-link_is}
use Rattle.served_bytes.specs.Front.{Truncated, Whole}
use Rattle.served_bytes.specs.Served.{AtEnd, AtMalformed, Coming, OutOfBytes, Served, Spells}
use Rattle.served_bytes.specs.Served.{at_frame, received_first, refused_or, served, stopped, with_first, with_rest}
use Rattle.wire.specs.Frames.{IsFrameable, frame_bytes, framed}
use Rattle.wire.proofs.FrameLaws.{framed-frame_bytes}
use Rattle.honest_miners.specs.JoinedFrames.{AreFronts, CanAllBeFramed, ReadsFrames, ReadsWell, in_frames}
use Rattle.honest_miners.proofs.Fronts.{FrameFront, cut, frame_front, next_is, no_bytes, no_frame, whole}

-- ---- MESSAGES OF BYTES

pub begins_all : {A : Type 0} (P : A → Type 0) (xs ys : List A) → Begins xs ys → All P ys → All P xs
begins_all P [] ys b all = All-nil P
begins_all P (x ∷ xs) [] b all = absurd b
begins_all P (x ∷ xs) (y ∷ ys) b all =
    All-cons P x xs (subst P (sym b.0) (All-head P y ys all)) (begins_all P xs ys b.1 (All-tail P y ys all))

-- the bytes begin the frames of one list, which agrees with another that can be framed: what is read agrees with that
pub messages_agree : (bytes : List ℕ) (ms xs ys : List (List ℕ)) → All IsFrameable ys → Begins bytes (in_frames xs) → Agree xs ys
    → Spells framed bytes ms → Agree ms ys
messages_agree bytes [] xs ys all b same spells = tt
messages_agree bytes (m ∷ ms) xs [] all b same spells = tt
messages_agree bytes (m ∷ ms) [] (y ∷ ys) all b same spells = no_frame bytes m spells.0 b spells.1
messages_agree bytes (m ∷ ms) (x ∷ xs) (y ∷ ys) all b same spells =
    let is = subst IsFrameable (sym same.0) (All-head IsFrameable y ys all) in
    let next = next_is bytes m x (in_frames xs) spells.0 is b spells.1 in
    (next.0 ∙ same.0, messages_agree spells.0 ms xs ys (All-tail IsFrameable y ys all) next.1 same.1 spells.2)

pub messages_begin : (bytes : List ℕ) (ms xs : List (List ℕ)) → All IsFrameable xs → Begins bytes (in_frames xs) → Spells framed bytes ms → Begins ms xs
messages_begin bytes [] xs all b spells = tt
messages_begin bytes (m ∷ ms) [] all b spells = no_frame bytes m spells.0 b spells.1
messages_begin bytes (m ∷ ms) (x ∷ xs) all b spells =
    let next = next_is bytes m x (in_frames xs) spells.0 (All-head IsFrameable x xs all) b spells.1 in
    (next.0, messages_begin spells.0 ms xs (All-tail IsFrameable x xs all) next.1 spells.2)

-- frames spell what their messages begin with
pub frames_spell : (ms xs : List (List ℕ)) → All IsFrameable ms → Begins ms xs → Spells framed (in_frames xs) ms
frames_spell [] xs all b = tt
frames_spell (m ∷ ms) [] all b = absurd b
frames_spell (m ∷ ms) (x ∷ xs) all b =
    let is = subst IsFrameable b.0 (All-head IsFrameable m ms all) in (
      in_frames xs,
      framed-frame_bytes x (in_frames xs) is ∙ ap (λ v. Whole v (in_frames xs)) (sym b.0),
      frames_spell ms xs (All-tail IsFrameable m ms all) b.1,
    )

begins_after : (front xs ys : List ℕ) → Begins xs ys → Begins (front ++ xs) (front ++ ys)
begins_after [] xs ys h = h
begins_after (x ∷ front) xs ys h = (refl, begins_after front xs ys h)

pub frames_begin : (xs ys : List (List ℕ)) → Begins xs ys → Begins (in_frames xs) (in_frames ys)
frames_begin [] ys h = tt
frames_begin (x ∷ xs) [] h = absurd h
frames_begin (x ∷ xs) (y ∷ ys) h =
    subst (λ v. Begins (in_frames (x ∷ xs)) (frame_bytes v ++ in_frames ys)) h.0
    (begins_after (frame_bytes x) (in_frames xs) (in_frames ys) (frames_begin xs ys h.1))

-- ---- A MINER THAT READS

is_no_end : {A X : Type 0} (a : A) (l : Link) (place : ℕ) → AtEnd a ≡ AtMalformed l place → X
is_no_end a l place e = cc

module _ (k : Link) (mail : Mail) (y : List ℕ) (ys : List (List ℕ)) (is : mail k ≡ y ∷ ys) where
  -- a message in front of those that begin the rest
  front_begins : (received : Mail) → ((l : Link) → Begins (received l) (taken k mail l)) → (l : Link) → Begins (with_first k y received l) (mail l)
  front_begins received h l = by_link (same_link k l) refl (h l)
    where
      by_link : (b : Bool) → same_link k l ≡ b → Begins (received l) (if b then rest_of (mail l) else mail l)
          → Begins (if b then y ∷ received l else received l) (mail l)
      by_link true e begins =
          let here : mail l ≡ y ∷ ys = ap mail (sym (same-link_is k l e)) ∙ is in
          subst (λ v. Begins (y ∷ received l) v) (sym here) (refl, subst (λ v. Begins (received l) (rest_of v)) here begins)
      by_link false e begins = begins

  -- what is left after the first frame
  taken_framed : CanAllBeFramed mail → CanAllBeFramed (taken k mail)
  taken_framed all l = by_link (same_link k l) refl
    where
      by_link : (b : Bool) → same_link k l ≡ b → All IsFrameable (if b then rest_of (mail l) else mail l)
      by_link true e =
          let here : mail l ≡ y ∷ ys = ap mail (sym (same-link_is k l e)) ∙ is in
          subst (λ v. All IsFrameable (rest_of v)) (sym here) (All-tail IsFrameable y ys (subst (λ v. All IsFrameable v) here (all l)))
      by_link false e = all l

  taken_fronts : (bytes : Coming) (rest : List ℕ) → AreFronts bytes mail → Begins rest (in_frames ys) → AreFronts (with_rest k rest bytes) (taken k mail)
  taken_fronts bytes rest fronts begins l = by_link (same_link k l) refl
    where
      by_link : (b : Bool) → same_link k l ≡ b → Begins (if b then rest else bytes l) (in_frames (if b then rest_of (mail l) else mail l))
      by_link true e =
          let here : mail l ≡ y ∷ ys = ap mail (sym (same-link_is k l e)) ∙ is in
          subst (λ v. Begins rest (in_frames (rest_of v))) (sym here) begins
      by_link false e = fronts l

module _ {A : Type 0} where
  stops_cut : (k : Link) (mail : Mail) → ReadsWell mail (stopped {A = A} (OutOfBytes k))
  stops_cut k mail = record { received = λ l. tt; frames = λ l place e. cc }

  module _ (k : Link) (mail : Mail) (y : List ℕ) (ys : List (List ℕ)) (is : mail k ≡ y ∷ ys) where
    refused_well : (goes : Served A) → ReadsWell (taken k mail) goes → (fault : Option BadMessage) →
        ReadsWell mail (received_first k y (refused_or k fault goes))
    refused_well goes h None = record { received = front_begins k mail y ys is goes.received h.received; frames = h.frames }
    refused_well goes h (Some cause) = record { received = front_begins k mail y ys is nothing (λ l. tt); frames = λ l place e. cc }

  module _ (k : Link) (shape : Shape) (f : List ℕ → Strand A) (bytes : Coming) (mail : Mail) where
    abbrev goes : List ℕ → List ℕ → Served A
    goes m rest = served framed (f m) (with_rest k rest bytes)

    abbrev More : Type 0
    More = (m rest : List ℕ) (left : Mail) → CanAllBeFramed left → AreFronts (with_rest k rest bytes) left → ReadsWell left (goes m rest)

    at_cut : framed (bytes k) ≡ Truncated → ReadsWell mail (served framed (Waits k shape f) bytes)
    at_cut e = subst (λ r. ReadsWell mail r) (sym (ap (λ v. at_frame k shape v goes) e)) (stops_cut k mail)

    at_front : (y : List ℕ) (ys : List (List ℕ)) → mail k ≡ y ∷ ys → CanAllBeFramed mail → AreFronts bytes mail → More
        → FrameFront (bytes k) y (in_frames ys) → ReadsWell mail (served framed (Waits k shape f) bytes)
    at_front y ys is all fronts more (cut e) = at_cut e
    at_front y ys is all fronts more (whole rest e begins) =
        subst (λ r. ReadsWell mail r) (sym (ap (λ v. at_frame k shape v goes) e))
        (refused_well k mail y ys is (goes y rest)
        (more y rest (taken k mail) (taken_framed k mail y ys is all) (taken_fronts k mail y ys is bytes rest fronts begins))
        (fault_of shape y))

    by_mail : (xs : List (List ℕ)) → mail k ≡ xs → CanAllBeFramed mail → AreFronts bytes mail → More → ReadsWell mail (served framed (Waits k shape f) bytes)
    by_mail [] is all fronts more = at_cut (no_bytes (bytes k) (subst (λ v. Begins (bytes k) (in_frames v)) is (fronts k)))
    by_mail (y ∷ ys) is all fronts more =
        at_front y ys is all fronts more
        (frame_front (bytes k) y (in_frames ys) (All-head IsFrameable y ys (subst (λ v. All IsFrameable v) is (all k)))
        (subst (λ v. Begins (bytes k) (in_frames v)) is (fronts k)))

  pub reads_frames : (s : Strand A) (bytes : Coming) (mail : Mail) → ReadsFrames s bytes mail
  reads_frames (Ends a) bytes mail all fronts = record { received = λ l. tt; frames = λ l place e. is_no_end a l place e }
  reads_frames (Acts act s) bytes mail all fronts =
      let h = reads_frames s bytes mail all fronts in
      record { received = h.received; frames = h.frames }
  reads_frames (Waits k shape f) bytes mail all fronts =
      by_mail k shape f bytes mail (mail k) refl all fronts
      (λ m rest left framed_left left_fronts. reads_frames (f m) (with_rest k rest bytes) left framed_left left_fronts)

-- ---- IT DOES AT LEAST WHAT IT DOES WITH THE MESSAGES THAT ITS BYTES SPELL

no_cause : {X : Type 0} (cause : BadMessage) → is_none (Some cause) ≡ true → X
no_cause cause e = cc

faultless : (n : Shape) (m : List ℕ) → accepts n m ≡ true → fault_of n m ≡ None
faultless n m e = by_fault (fault_of n m) refl
  where
    by_fault : (f : Option BadMessage) → fault_of n m ≡ f → fault_of n m ≡ None
    by_fault None h = h
    by_fault (Some cause) h = no_cause cause (sym (ap is_none h) ∙ (faultless_is_accepted n m ∙ e))

spells_on : (l : Link) (m rest : List ℕ) (ms : List (List ℕ)) (mail : Mail) (bytes : Coming) → mail l ≡ m ∷ ms → Spells framed rest ms
    → ((k : Link) → Spells framed (bytes k) (mail k)) → (k : Link) → Spells framed (with_rest l rest bytes k) (taken l mail k)
spells_on l m rest ms mail bytes is here all k = by_link (same_link l k) refl
  where
    by_link : (b : Bool) → same_link l k ≡ b → Spells framed (if b then rest else bytes k) (if b then rest_of (mail k) else mail k)
    by_link true e =
        let same : mail k ≡ m ∷ ms = ap mail (sym (same-link_is l k e)) ∙ is in
        subst (λ v. Spells framed rest (rest_of v)) (sym same) here
    by_link false e = all k

module _ {A : Type 0} where
  abbrev Covers : (s : Strand A) (mail : Mail) (bytes : Coming) → Type 0
  Covers s mail bytes = Begins (run s mail).acts (served framed s bytes).acts

  module _ (l : Link) (n : Shape) (k : List ℕ → Strand A) (mail : Mail) (bytes : Coming) where
    abbrev CoversMore : Type 0
    CoversMore =
        (m rest : List ℕ) (ms : List (List ℕ)) → mail l ≡ m ∷ ms → Spells framed rest ms → Covers (k m) (taken l mail) (with_rest l rest bytes)

    by_shape : (m rest : List ℕ) (ms : List (List ℕ)) → mail l ≡ m ∷ ms → framed (bytes l) ≡ Whole m rest → Spells framed rest ms → CoversMore
        → (b : Bool) → accepts n m ≡ b → Covers (Waits l n k) mail bytes
    by_shape m rest ms is comes spells more false o =
        subst (λ (r : List _). Begins r (served framed (Waits l n k) bytes).acts) (sym (ap (λ r. r.acts) (run-refused l n k mail m ms is o))) tt
    by_shape m rest ms is comes spells more true o =
        let goes : served framed (Waits l n k) bytes ≡ received_first l m (served framed (k m) (with_rest l rest bytes)) =
        ap (λ f. at_frame l n f (λ m rest. served framed (k m) (with_rest l rest bytes))) comes
        ∙ ap (λ f. received_first l m (refused_or l f (served framed (k m) (with_rest l rest bytes)))) (faultless n m o) in
        subst (λ acts. Begins acts (served framed (Waits l n k) bytes).acts) (sym (ap (λ r. r.acts) (run-took l n k mail m ms is o)))
        (subst (λ acts. Begins (run (k m) (taken l mail)).acts acts) (sym (ap (λ r. r.acts) goes)) (more m rest ms is spells))

    by_messages : (xs : List (List ℕ)) → mail l ≡ xs → Spells framed (bytes l) xs → CoversMore → Covers (Waits l n k) mail bytes
    by_messages [] is spells more =
        subst (λ (r : List _). Begins r (served framed (Waits l n k) bytes).acts) (sym (ap (λ r. r.acts) (run-none l n k mail is))) tt
    by_messages (m ∷ ms) is spells more = by_shape m spells.0 ms is spells.1 spells.2 more (accepts n m) refl

  pub acts_cover : (s : Strand A) (mail : Mail) (bytes : Coming) → ((l : Link) → Spells framed (bytes l) (mail l)) → Covers s mail bytes
  acts_cover (Ends a) mail bytes all = tt
  acts_cover (Acts x s) mail bytes all = (refl, acts_cover s mail bytes all)
  acts_cover (Waits l n k) mail bytes all =
      by_messages l n k mail bytes (mail l) refl (all l)
      (λ m rest ms is spells. acts_cover (k m) (taken l mail) (with_rest l rest bytes) (spells_on l m rest ms mail bytes is spells all))
