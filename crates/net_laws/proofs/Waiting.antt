-- A strand that waits with the beginning of a run's messages has more of them to come.
use Rattle.std.proofs.Common.{◌≡◌, ◌<◌, ◌-◌, ℕ, List, [], ◌∷◌, ◌++◌, length, drop, Bool, true, false, if◌then◌else◌, Option, Some, None, refl, sym, ◌∙◌, ap}
use Rattle.std.specs.Option.{option_map_or}
use Rattle.std.proofs.Common.{subst, arith}
use Rattle.std.proofs.lemmas.List.{length-drop}
use Rattle.proto_core.specs.declared.party.Number.{Number}
use Rattle.proto_core.specs.declared.link.Link.{Link}
use Rattle.proto_core.specs.Parties.{receiver_of, is_same}
use Rattle.proto_core.specs.Strand.{Shape, Mail, Strand, Ends, Acts, Waits, run, IsEnded}
use Rattle.proto_core.specs.Net.{added, into, MailBegins}
use Rattle.proto_core.specs.declared.refused.BadMessage.{BadMessage}
use Rattle.proto_core.specs.Standing.{AtItsEnd, Awaits, Refuses, before_mail, fault_of, standing_with, standing_of}
use Rattle.proto_core.proofs.Numbers.{same_is}
use Rattle.proto_core.proofs.Strands.{run-none, run-added, added-rest}
use Rattle.proto_core.proofs.Refusing.{IsStood, run_is_stood, awaits_what_is_not_there}

end_awaits : {X : Type 0} (l : Link) → AtItsEnd ≡ Awaits l → X
end_awaits l e = cc

same_awaits : (k l : Link) → Awaits k ≡ Awaits l → k ≡ l
same_awaits k l e = cc

refuses_awaits : {X : Type 0} (k l : Link) (cause : BadMessage) → Refuses k cause ≡ Awaits l → X
refuses_awaits k l cause e = cc

-- ---- nothing more on its link

fault_at : (k l : Link) (o : Option BadMessage) → option_map_or (Refuses k) o (Awaits k) ≡ Awaits l → k ≡ l
fault_at k l None e = same_awaits k l e
fault_at k l (Some cause) e = refuses_awaits k l cause e

mail_at : (k l : Link) (n : Shape) (ms : List (List ℕ)) → before_mail k n ms ≡ Awaits l → k ≡ l
mail_at k l n [] e = same_awaits k l e
mail_at k l n (m ∷ ms) e = fault_at k l (fault_of n m) e

both_none : (xs ys : List (List ℕ)) → xs ≡ [] → ys ≡ [] → xs ++ ys ≡ []
both_none xs ys e f = ap (λ v. v ++ ys) e ∙ f

-- with more mail, but none on the link for which it waits, it waits there still
waits_on : {A : Type 0} (t : Strand A) (unread y : Mail) (l : Link) → IsStood t unread → standing_with t unread ≡ Awaits l → unread l ≡ [] → y l ≡ []
    → standing_of (run t (added unread y)) ≡ Awaits l
waits_on (Ends a) unread y l stood e none more = end_awaits l e
waits_on (Acts a s) unread y l stood e none more = absurd stood
waits_on (Waits k n f) unread y l stood e none more =
    let same : k ≡ l = mail_at k l n (unread k) e in
    let empty : added unread y k ≡ [] = both_none (unread k) (y k) (subst (λ j. unread j ≡ []) (sym same) none) (subst (λ j. y j ≡ []) (sym same) more) in
    ap standing_of (run-none k n f (added unread y) empty) ∙ ap (before_mail k n) empty ∙ ap Awaits same

waits_still : {A : Type 0} (s : Strand A) (x y : Mail) (l : Link) → standing_of (run s x) ≡ Awaits l → y l ≡ [] → standing_of (run s (added x y)) ≡ Awaits l
waits_still s x y l e none =
    let r = run s x in
    ap standing_of (run-added s x y) ∙ waits_on r.left r.unread y l (run_is_stood s x) e (awaits_what_is_not_there s x l e) none

-- ---- so a run that ends has more there

ended_stands : {A : Type 0} (t : Strand A) (unread : Mail) → IsEnded t → standing_with t unread ≡ AtItsEnd
ended_stands (Ends a) unread h = refl
ended_stands (Acts a s) unread h = absurd h
ended_stands (Waits l n k) unread h = absurd h

cons_length : (m : List ℕ) (ms rest : List (List ℕ)) → rest ≡ m ∷ ms → 0 < length rest
cons_length m ms rest e = let long : length rest ≡ length (m ∷ ms) = ap length e in omega (arith, long)

pub more_to_come : {A : Type 0} (s : Strand A) (x y : Mail) (l : Link) → MailBegins x y → IsEnded (run s y).left → standing_of (run s x) ≡ Awaits l
    → length (x l) < length (y l)
more_to_come s x y l begins ended e = by_rest (rest l) refl
  where
    rest : Mail
    rest k = drop (length (x k)) (y k)

    by_rest : (ms : List (List ℕ)) → rest l ≡ ms → length (x l) < length (y l)
    by_rest [] none =
        end_awaits l
        (sym (ended_stands (run s y).left (run s y).unread ended) ∙ sym (ap (λ m. standing_of (run s m)) (added-rest x y begins))
        ∙ waits_still s x rest l e none)
    by_rest (m ∷ ms) some =
        let long = cons_length m ms (rest l) some in
        let dropped : length (drop (length (x l)) (y l)) ≡ length (y l) - length (x l) = length-drop (length (x l)) (y l) in
        omega (arith, long, dropped)

-- of the messages that come to a miner
pub further_into : (i : Number) (x y : Mail) (l : Link) → length (into i x l) < length (into i y l) → (receiver_of l ≡ i) × (length (x l) < length (y l))
further_into i x y l h = go (is_same (receiver_of l) i) refl h
  where
    go : (b : Bool) → is_same (receiver_of l) i ≡ b → length (if b then x l else []) < length (if b then y l else [])
        → (receiver_of l ≡ i) × (length (x l) < length (y l))
    go true e less = (same_is (receiver_of l) i e, less)
    go false e less = absurd (let none : 0 < 0 = less in omega (arith, none))
