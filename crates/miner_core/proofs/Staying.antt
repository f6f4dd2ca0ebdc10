-- A refusal stays.
use Rattle.std.proofs.Common.{◌≡◌, ℕ, Bool, true, false, if◌then◌else◌, List, [], ◌∷◌, ◌++◌, refl, sym, ◌∙◌, ap}
use Rattle.std.specs.Prelude.{Result, Ok, Err}
use Rattle.proto_core.specs.declared.party.Number.{Number}
use Rattle.proto_core.specs.declared.link.Link.{Link}
use Rattle.proto_core.specs.declared.refused.BadMessage.{BadMessage}
use Rattle.proto_core.specs.Parties.{from_previous}
use Rattle.proto_core.specs.Strand.{same_link, Mail, Strand, Ends, Acts, Waits, run}
use Rattle.proto_core.specs.Net.{mail_of, added}
use Rattle.proto_core.specs.Standing.{AtItsEnd, Awaits, Refuses, standing_with, standing_of}
use Rattle.proto_core.proofs.Refusing.{refused_stays}
use Rattle.miner_core.specs.declared.answer.End.{End}
use Rattle.miner_core.specs.declared.answer.Step.{Step}
use Rattle.miner_core.specs.declared.answer.Step.TheVariants as step
use Rattle.miner_core.specs.declared.answer.MinerErr.{MinerErr}
use Rattle.miner_core.specs.declared.answer.MinerErr.TheVariants as error
use Rattle.own_code.specs.OwnCode.{Ended}
use Rattle.miner_core.specs.Story.{Story, mail_in, strand_in, node, stands_at, HasEnded, DeliverAnswers}
use Rattle.miner_core.specs.Laws.{StaysRefused, IsThisRefusal, AnswersAgain}
use Rattle.miner_core.proofs.Stories.{mail_previous, mail_next}

no_end : {P : Type 0} (l : Link) (cause : BadMessage) → AtItsEnd ≡ Refuses l cause → P
no_end l cause e = cc

no_wait : {P : Type 0} (k l : Link) (cause : BadMessage) → Awaits k ≡ Refuses l cause → P
no_wait k l cause e = cc

-- a refusal is of one message, for one cause
same_refusal : (l k : Link) (why cause : BadMessage) → Refuses l why ≡ Refuses k cause → (l ≡ k) × (why ≡ cause)
same_refusal l k why cause e = (cc, cc)

end_stands : (s : Strand Ended) (unread : Mail) (end : End) → HasEnded s end → standing_with s unread ≡ AtItsEnd
end_stands (Ends e) unread end h = refl
end_stands (Acts a s) unread end h = absurd h
end_stands (Waits l shape k) unread end h = absurd h

module _ (i : Number) where
  -- with these messages more
  stays_with :
      (s t : Story) (more : Mail) → strand_in i t ≡ strand_in i s → mail_in i t ≡ added (mail_in i s) more → (refused : Link) (cause : BadMessage) →
      stands_at i s ≡ Refuses refused cause → (stands_at i t ≡ Refuses refused cause) × ((node i t).acts ≡ (node i s).acts)
  stays_with s t more strand mail refused cause e =
      let again = refused_stays (strand_in i s) (mail_in i s) more refused cause e in
      let is : node i t ≡ run (strand_in i s) (added (mail_in i s) more) =
      ap (λ v. run v (mail_in i t)) strand ∙ ap (run (strand_in i s)) mail in
      (ap standing_of is ∙ again.0, ap (λ r. r.acts) is ∙ again.1)

  -- a message more, from the previous miner or else from the next
  abbrev with_message : Story → List ℕ → (previous : Bool) → Story
  with_message s m previous =
      if previous then record s { from_previous = s.from_previous ++ m ∷ [] } else record s { from_next = s.from_next ++ m ∷ [] }

  pub stays : (s : Story) (link : Link) (m : List ℕ) → StaysRefused i s link m
  stays s link m refused cause e = by_link (same_link (from_previous i) link)
    where
      by_link : (b : Bool) →
          (stands_at i (with_message s m b) ≡ Refuses refused cause) × ((node i (with_message s m b)).acts ≡ (node i s).acts)
      by_link true =
          stays_with s (with_message s m true) (mail_of i (m ∷ []) []) refl (mail_previous i s.from_previous s.from_next m) refused cause e
      by_link false =
          stays_with s (with_message s m false) (mail_of i [] (m ∷ [])) refl (mail_next i s.from_previous s.from_next m) refused cause e

  again :
      (after last : Story) (k refused : Link) (n : List ℕ) (cause : BadMessage) → stands_at i after ≡ Refuses refused cause →
      (answer : Result Step MinerErr) → DeliverAnswers i after last k n answer → IsThisRefusal refused cause answer
  again after last k refused n cause e (Ok (step.Waits l)) h =
      no_wait l refused cause (sym h.2 ∙ ap (stands_at i) h.1 ∙ (stays after k n refused cause e).0)
  again after last k refused n cause e (Ok (step.Ended end)) h =
      no_end refused cause
      (sym (end_stands (node i last).left (node i last).unread end h.2) ∙ ap (stands_at i) h.1 ∙ (stays after k n refused cause e).0)
  again after last k refused n cause e (Err (error.NotAwaited l)) h = no_end refused cause (sym h.1 ∙ e)
  again after last k refused n cause e (Err (error.BadMessage l why)) h =
      same_refusal l refused why cause (sym h.2 ∙ ap (stands_at i) h.1 ∙ (stays after k n refused cause e).0)
  again after last k refused n cause e (Err (error.Lost why)) h = tt

  pub answers_again :
      (before after last : Story) (l k refused : Link) (cause : BadMessage) (m n : List ℕ) (answer : Result Step MinerErr) →
      AnswersAgain i before after last l k refused cause m n answer
  answers_again before after last l k refused cause m n answer first next = again after last k refused n cause first.2 answer next
