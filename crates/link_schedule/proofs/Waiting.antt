-- For which link a miner waits, by what it answers.
use Rattle.std.proofs.Common.{◌≡◌, ℕ, List, [], ◌∷◌, ◌⊎◌, inl, inr, refl, sym, ◌∙◌, ap, subst}
use Rattle.std.specs.Option.{option_map_or}
use Rattle.std.specs.Prelude.{Option, Some, None, Result, Ok, Err}
use Rattle.std.proofs.lemmas.Option.{same_Some}
use Rattle.proto_core.specs.declared.party.Number.{Number}
use Rattle.proto_core.specs.declared.link.Link.{Link}
use Rattle.proto_core.specs.Strand.{Mail, Strand, Ends, Acts, Waits, run, IsEnded}
use Rattle.proto_core.specs.Standing.{Standing, AtItsEnd, Awaits, Refuses, standing_with, standing_of, before_mail, fault_of}
use Rattle.proto_core.specs.declared.refused.BadMessage.{BadMessage}
use Rattle.protocol_model.specs.Network.{waits_for}
use Rattle.protocol_model.proofs.Completing.{not_waiting}
use Rattle.miner_core.specs.OwnCode.{Ended}
use Rattle.miner_core.specs.declared.answer.End.{End}
use Rattle.miner_core.specs.declared.answer.Step.{Step}
use Rattle.miner_core.specs.declared.answer.Step.TheVariants as step
use Rattle.miner_core.specs.declared.answer.MinerErr.{MinerErr}
use Rattle.miner_core.specs.declared.answer.MinerErr.TheVariants as error
use Rattle.miner_core.specs.Story.{Story, mail_in, strand_in, node, HasEnded, IsAnswer}

none_is_some : {A P : Type 0} (x : A) → None ≡ Some x → P
none_is_some x e = cc

same_awaits : (l k : Link) → Awaits l ≡ Awaits k → l ≡ k
same_awaits l k e = cc

refuses_awaits : {P : Type 0} (l k : Link) (cause : BadMessage) → Refuses l cause ≡ Awaits k → P
refuses_awaits l k cause e = cc

end_awaits : {P : Type 0} (l : Link) → AtItsEnd ≡ Awaits l → P
end_awaits l e = cc

same_refuses : (l k : Link) (cause why : BadMessage) → Refuses l cause ≡ Refuses k why → l ≡ k
same_refuses l k cause why e = cc

end_refuses : {P : Type 0} (l : Link) (cause : BadMessage) → AtItsEnd ≡ Refuses l cause → P
end_refuses l cause e = cc

-- it waits for this link, or refuses its oldest message
abbrev AtLink : Link → Standing → Type 0
AtLink l at = (at ≡ Awaits l) ⊎ ((cause : BadMessage) × (at ≡ Refuses l cause))

module _ {A : Type 0} where
  at_link : (s : Strand A) (unread : Mail) (l : Link) → waits_for s ≡ Some l → AtLink l (standing_with s unread)
  at_link (Ends a) unread l h = none_is_some l h
  at_link (Acts a s) unread l h = none_is_some l h
  at_link (Waits k shape f) unread l h = subst (λ v. AtLink v (before_mail k shape (unread k))) (same_Some k l h) (by_mail (unread k))
    where
      by_fault : (fault : Option BadMessage) → AtLink k (option_map_or (Refuses k) fault (Awaits k))
      by_fault None = inl refl
      by_fault (Some cause) = inr (cause, refl)

      by_mail : (ms : List (List ℕ)) → AtLink k (before_mail k shape ms)
      by_mail [] = inl refl
      by_mail (m ∷ ms) = by_fault (fault_of shape m)

  at_end : (s : Strand A) (unread : Mail) → IsEnded s → standing_with s unread ≡ AtItsEnd
  at_end (Ends a) unread h = refl
  at_end (Acts a s) unread h = absurd h
  at_end (Waits k shape f) unread h = absurd h

  awaits_is : (s : Strand A) (x : Mail) (l : Link) → standing_of (run s x) ≡ Awaits l → waits_for (run s x).left ≡ Some l
  awaits_is s x l h = by_waiting (waits_for (run s x).left) refl
    where
      by_link : (k : Link) → AtLink k (standing_of (run s x)) → k ≡ l
      by_link k (inl e) = same_awaits k l (sym e ∙ h)
      by_link k (inr e) = refuses_awaits k l e.0 (sym e.1 ∙ h)

      by_waiting : (o : Option Link) → waits_for (run s x).left ≡ o → waits_for (run s x).left ≡ Some l
      by_waiting None e = end_awaits l (sym (at_end (run s x).left (run s x).unread (not_waiting s x e)) ∙ h)
      by_waiting (Some k) e = e ∙ ap Some (by_link k (at_link (run s x).left (run s x).unread k e))

  refuses_is : (s : Strand A) (x : Mail) (l : Link) (cause : BadMessage) → standing_of (run s x) ≡ Refuses l cause → waits_for (run s x).left ≡ Some l
  refuses_is s x l cause h = by_waiting (waits_for (run s x).left) refl
    where
      by_link : (k : Link) → AtLink k (standing_of (run s x)) → k ≡ l
      by_link k (inl e) = refuses_awaits l k cause (sym h ∙ e)
      by_link k (inr e) = same_refuses k l e.0 cause (sym e.1 ∙ h)

      by_waiting : (o : Option Link) → waits_for (run s x).left ≡ o → waits_for (run s x).left ≡ Some l
      by_waiting None e = end_refuses l cause (sym (at_end (run s x).left (run s x).unread (not_waiting s x e)) ∙ h)
      by_waiting (Some k) e = e ∙ ap Some (by_link k (at_link (run s x).left (run s x).unread k e))

ended_is : (s : Strand Ended) (end : End) → HasEnded s end → waits_for s ≡ None
ended_is (Ends e) end h = refl
ended_is (Acts a s) end h = absurd h
ended_is (Waits l shape k) end h = absurd h

-- the link for which it waits, as it answers
abbrev pub awaited_of : Result Step MinerErr → Option Link
awaited_of (Ok (step.Waits l)) = Some l
awaited_of (Ok (step.Ended end)) = None
awaited_of (Err (error.BadMessage l cause)) = Some l
awaited_of (Err (error.NotAwaited l)) = None
awaited_of (Err (error.Lost why)) = None

pub awaited_is : (i : Number) (s : Story) (r : Result Step MinerErr) → IsAnswer i s r → awaited_of r ≡ waits_for (node i s).left
awaited_is i s (Ok (step.Waits l)) h = sym (awaits_is (strand_in i s) (mail_in i s) l h)
awaited_is i s (Ok (step.Ended end)) h = sym (ended_is (node i s).left end h)
awaited_is i s (Err (error.BadMessage l cause)) h = sym (refuses_is (strand_in i s) (mail_in i s) l cause h)
awaited_is i s (Err (error.NotAwaited l)) h = absurd h
awaited_is i s (Err (error.Lost why)) h = absurd h
