-- Where a miner stands that has ended, or whose run ends with more messages.
use Rattle.std.proofs.Common.{◌≡◌, ◌≢◌, ℕ, Bool, true, false, List, [], ◌∷◌, length, drop, refl, sym, ◌∙◌, ap, subst}
use Rattle.std.specs.Option.{option_map_or}
use Rattle.std.specs.Prelude.{Option, Some, None}
use Rattle.proto_core.specs.declared.link.Link.{Link}
use Rattle.proto_core.specs.declared.refused.BadMessage.{BadMessage}
use Rattle.proto_core.specs.Net.{added, MailBegins}
use Rattle.proto_core.specs.Strand.{Shape, Mail, Strand, Ends, Acts, Waits, run, IsEnded, told_in, Begins, Act}
use Rattle.proto_core.specs.Standing.{AtItsEnd, Awaits, Refuses, before_mail, fault_of, standing_with, standing_of}
use Rattle.proto_core.proofs.Beginnings.{begins-append, begins-rest}
use Rattle.proto_core.proofs.Strands.{added-rest, told-append}
use Rattle.proto_core.proofs.Refusing.{IsStood, run_is_stood, refused_stays}

awaits_no_end : {X : Type 0} (l : Link) → Awaits l ≡ AtItsEnd → X
awaits_no_end l e = cc

refuses_no_end : {X : Type 0} (l : Link) (cause : BadMessage) → Refuses l cause ≡ AtItsEnd → X
refuses_no_end l cause e = cc

fault_no_end : {X : Type 0} (l : Link) (f : Option BadMessage) → option_map_or (Refuses l) f (Awaits l) ≡ AtItsEnd → X
fault_no_end l None e = awaits_no_end l e
fault_no_end l (Some cause) e = refuses_no_end l cause e

mail_no_end : {X : Type 0} (l : Link) (n : Shape) (xs : List (List ℕ)) → before_mail l n xs ≡ AtItsEnd → X
mail_no_end l n [] e = awaits_no_end l e
mail_no_end l n (m ∷ ms) e = fault_no_end l (fault_of n m) e

at_end : {A : Type 0} (t : Strand A) (unread : Mail) → IsStood t unread → standing_with t unread ≡ AtItsEnd → IsEnded t
at_end (Ends a) unread stood e = tt
at_end (Acts a s) unread stood e = absurd stood
at_end (Waits l n k) unread stood e = mail_no_end l n (unread l) e

pub ended_at : {A : Type 0} (s : Strand A) (mail : Mail) → standing_of (run s mail) ≡ AtItsEnd → IsEnded (run s mail).left
ended_at s mail e = at_end (run s mail).left (run s mail).unread (run_is_stood s mail) e

ended_stands : {A : Type 0} (t : Strand A) (unread : Mail) → IsEnded t → standing_with t unread ≡ AtItsEnd
ended_stands (Ends a) unread h = refl
ended_stands (Acts a s) unread h = absurd h
ended_stands (Waits l n k) unread h = absurd h

-- where a run ends, no beginning of its messages is refused
pub beginning_is_accepted : {A : Type 0} (s : Strand A) (x y : Mail) → MailBegins x y → IsEnded (run s y).left → (l : Link) (cause : BadMessage)
    → standing_of (run s x) ≢ Refuses l cause
beginning_is_accepted s x y h e l cause refuses =
    let rest : Mail = λ k. drop (length (x k)) (y k) in
    let still = (refused_stays s x rest l cause refuses).0 in
    refuses_no_end l cause
    (sym still ∙ ap (λ m. standing_of (run s m)) (added-rest x y h) ∙ ended_stands (run s y).left (run s y).unread e)

pub begins-told : (xs ys : List Act) → Begins xs ys → Begins (told_in xs) (told_in ys)
begins-told xs ys h =
    subst (λ v. Begins (told_in xs) v)
    (sym (ap told_in (sym (begins-rest xs ys h)) ∙ told-append xs (drop (length xs) ys))) (begins-append (told_in xs) _)
