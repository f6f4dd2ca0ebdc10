-- What a loop over elements or inputs adds at each place.
use Rattle.std.proofs.Common.{◌≡◌, ℕ, ◌+◌, ◌-◌, ◌<◌, ◌≤◌, List, [], ◌∷◌, ◌++◌, length, get_or, take, drop, add-one, ap, sym, ◌∙◌, append_assoc, arith}
use Rattle.std.proofs.lemmas.Grind.{common_steps}
use Rattle.std.proofs.Math.Seq.{drop-cons}
use Rattle.std.proofs.Math.ListN.{drop_of_length-le}
use Rattle.std.proofs.lemmas.List.{drop-drop, append-nil}
use Rattle.std.proofs.lemmas.List.Sums.{sum_by-drop_more, sum_by_more}
use Rattle.proto_core.specs.Ring.{Ring}
use Rattle.proto_core.specs.declared.party.Number.{Number}
use Rattle.value_file.specs.declared.inputs.Entry.{Entry}
use Rattle.input_share.specs.Dealing.{left_of, draws_of, need_of, dealt_entry, dealt_entries}

pub left_of-drop :
    (r : Ring) (xs d1s d2s : List ℕ) (k : ℕ) → k < length xs → k < length d1s → k < length d2s →
    left_of r (drop k xs) (drop k d1s) (drop k d2s)
    ≡ r.sub (r.sub (get_or xs k 0) (get_or d1s k 0)) (get_or d2s k 0) ∷ left_of r (drop (k + 1) xs) (drop (k + 1) d1s) (drop (k + 1) d2s)
left_of-drop r xs d1s d2s k h1 h2 h3 = rw (add-one, drop-cons xs k 0, drop-cons d1s k 0, drop-cons d2s k 0)

pub left_of-end :
    (r : Ring) (xs d1s d2s : List ℕ) (k : ℕ) → length xs ≤ k → left_of r (drop k xs) (drop k d1s) (drop k d2s) ≡ []
left_of-end r xs d1s d2s k h = rw (drop_of_length-le xs h)

-- the element at a place stands first in what is left there
pub drop-item : {X : Type 0} (xs : List X) (k : ℕ) (x : X) → k < length xs → x ≡ get_or xs k x → drop k xs ≡ x ∷ drop (k + 1) xs
drop-item xs k x h e = drop-cons xs k x h ∙ rw (← e, add-one)

pub dealt_entries-drop :
    (miner : Number) (xs : List Entry) (words : List ℕ) (k drawn : ℕ) (x : Entry) → k < length xs → x ≡ get_or xs k x →
    dealt_entries miner (drop k xs) (drop drawn words)
    ≡ dealt_entry miner x (drop drawn words) ∷ dealt_entries miner (drop (k + 1) xs) (drop (drawn + draws_of x) words)
dealt_entries-drop miner xs words k drawn x h e =
    ap (λ (l : List Entry). dealt_entries miner l (drop drawn words)) (drop-item xs k x h e)
    ∙ ap (λ (ws : List ℕ). dealt_entry miner x (drop drawn words) ∷ dealt_entries miner (drop (k + 1) xs) ws) (drop-drop (draws_of x) drawn words)

pub dealt_entries-end :
    (miner : Number) (xs : List Entry) (words : List ℕ) (k : ℕ) → length xs ≤ k → dealt_entries miner (drop k xs) words ≡ []
dealt_entries-end miner xs words k h = rw (drop_of_length-le xs h)

pub need_of-drop :
    (xs : List Entry) (k : ℕ) (x : Entry) → k < length xs → x ≡ get_or xs k x → need_of (drop k xs) ≡ draws_of x + need_of (drop (k + 1) xs)
need_of-drop xs k x h e = sum_by-drop_more draws_of xs k x h ∙ ap (λ (y : Entry). draws_of y + need_of (drop (k + 1) xs)) (sym e)

pub need_of-take :
    (xs : List Entry) (k : ℕ) (x : Entry) → k < length xs → x ≡ get_or xs k x → need_of (take (k + 1) xs) ≡ need_of (take k xs) + draws_of x
need_of-take xs k x h e = sum_by_more draws_of xs k x h ∙ ap (λ (y : Entry). need_of (take k xs) + draws_of y) (sym e)

-- a list and the next element, in front of what is left
pub more : {X : Type 0} (done next left after whole : List X) (x : X) → done ++ left ≡ whole → left ≡ x ∷ after → next ≡ done ++ x ∷ [] → next ++ after ≡ whole
more done next left after whole x before step now =
    ap (λ l. l ++ after) now ∙ append_assoc done (x ∷ []) after ∙ ap (λ l. done ++ l) (sym step) ∙ before

pub all : {X : Type 0} (done left whole : List X) → done ++ left ≡ whole → left ≡ [] → done ≡ whole
all done left whole before none = sym (append-nil done) ∙ ap (λ l. done ++ l) (sym none) ∙ before

-- what is left after a place, to its end
pub rest_taken : {X : Type 0} (xs : List X) (k : ℕ) → take (length xs - k) (drop k xs) ≡ drop k xs
rest_taken xs k = grind (arith, common_steps)
