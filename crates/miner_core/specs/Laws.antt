-- What a miner does that has refused a message.
use Rattle.std.specs.Prelude.{◌≡◌, ℕ, List, Result, Ok, Err}
use Rattle.proto_core.specs.declared.party.Number.{Number}
use Rattle.proto_core.specs.declared.link.Link.{Link}
use Rattle.proto_core.specs.declared.refused.BadMessage.{BadMessage}
use Rattle.proto_core.specs.Standing.{Refuses}
use Rattle.miner_core.specs.declared.answer.Step.{Step}
use Rattle.miner_core.specs.declared.answer.MinerErr.{MinerErr}
use Rattle.miner_core.specs.declared.answer.MinerErr.TheVariants as error
use Rattle.miner_core.specs.Story.{Story, received, node, stands_at, DeliverAnswers}

-- with a message more it refuses the same one for the same cause, and has done no more
abbrev pub StaysRefused : Number → Story → Link → List ℕ → Type 0
StaysRefused i s link m =
    (refused : Link) (cause : BadMessage) → stands_at i s ≡ Refuses refused cause →
    (stands_at i (received i s link m) ≡ Refuses refused cause) × ((node i (received i s link m)).acts ≡ (node i s).acts)

-- an answer that the message of this link is refused, for this cause, unless memory runs out
abbrev pub IsThisRefusal : Link → BadMessage → Result Step MinerErr → Type 0
IsThisRefusal refused cause (Ok step) = ⊥
IsThisRefusal refused cause (Err (error.NotAwaited link)) = ⊥
IsThisRefusal refused cause (Err (error.BadMessage link why)) = (link ≡ refused) × (why ≡ cause)
IsThisRefusal refused cause (Err (error.Lost why)) = Unit {0}

-- where one delivery is answered by a refusal, so is the next
abbrev pub AnswersAgain :
    Number → (before after last : Story) → (l k refused : Link) → (cause : BadMessage) → (m n : List ℕ) → Result Step MinerErr → Type 0
AnswersAgain i before after last l k refused cause m n answer =
    DeliverAnswers i before after l m (Err (error.BadMessage refused cause)) → DeliverAnswers i after last k n answer →
    IsThisRefusal refused cause answer
