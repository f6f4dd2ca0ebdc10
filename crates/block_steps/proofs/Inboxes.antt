-- Messages that were taken are the first of all that came.
use Rattle.std.proofs.Common.{◌≡◌, ◌≢◌, ℕ, zero, suc, ◌+◌, ◌<◌, ◌≤◌, List, [], ◌∷◌, ◌++◌, append_assoc, length, drop, length-drop, refl, sym, ◌∙◌, ap, get_or}
use Rattle.std.proofs.Common.{drop-cons, add-one, arith}
use Rattle.std.specs.List.{slice_get}
use Rattle.std.specs.Prelude.{Some, None}
use Rattle.std.proofs.lemmas.List.{drop-append-le, drop_all}
use Rattle.std.proofs.lemmas.Option.{slice_get-get_or}
use Rattle.proto_core.proofs.Beginnings.{append-none}
use Rattle.block_steps.specs.Inboxes.{FrontIs, LetsGo}

pub drop-taken : (k : ℕ) (xs : List (List ℕ)) → k < length xs → drop k xs ≡ get_or xs k [] ∷ drop (k + 1) xs
drop-taken k xs h = rw (add-one, drop-cons xs k []) refl

pub front-is : (k : ℕ) (xs : List (List ℕ)) → FrontIs (slice_get xs k) (drop k xs)
front-is zero [] = tt
front-is (suc k) [] = tt
front-is zero (x ∷ xs) = refl
front-is (suc k) (x ∷ xs) = front-is k xs

pub ruleset inbox_steps = (drop-taken, drop_all, drop-append-le, front-is)

-- ---- letting go

module _ {A : Type 0} where
  some_left : (k : ℕ) (xs : List A) → k ≤ length xs → k ≢ length xs → drop k xs ≢ []
  some_left k xs within apart none =
      let counted : length (drop k xs) ≡ 0 = ap length none in
      let so : k ≡ length xs = omega (arith, within, length-drop k xs, counted) in
      apart so

  pub lets_go : (k : ℕ) (xs : List A) → k ≡ length xs → LetsGo (xs, drop k xs) ([], [])
  lets_go k xs all = record { all = λ is. refl; some = λ apart. absurd (apart (drop_all k xs (omega (arith, all)))) }

  pub lets_none_go : (k : ℕ) (xs : List A) → k ≤ length xs → k ≢ length xs → LetsGo (xs, drop k xs) (xs, drop k xs)
  lets_none_go k xs within apart = record { all = λ is. absurd (some_left k xs within apart is); some = λ is. refl }

  cons_apart : (x : A) (xs : List A) → x ∷ xs ≡ [] → ⊥
  cons_apart x xs is = cc

  -- the same was not taken
  pub unread_same : (before after : List A × List A) → LetsGo before after → after.1 ≡ before.1
  unread_same before after h = by before.1 refl
    where
      by : (unread : List A) → before.1 ≡ unread → after.1 ≡ before.1
      by [] is = ap (λ (b : List A × List A). b.1) (h.all is) ∙ sym is
      by (x ∷ xs) is = ap (λ (b : List A × List A). b.1) (h.some (λ none. cons_apart x xs (sym is ∙ none)))

  -- and where all was taken, none is held
  pub holds_none : (before after : List A × List A) → LetsGo before after → after.1 ≡ [] → after ≡ ([], [])
  holds_none before after h none = h.all (sym (unread_same before after h) ∙ none)

pub ruleset letting_go = (lets_go, lets_none_go, drop_all)

-- ---- the messages from a number on

some_same : (x y : List ℕ) → Some x ≡ Some y → x ≡ y
some_same x y is = cc

pub later_one :
    (k : ℕ) (xs left : List (List ℕ)) (m : List ℕ) → k < length xs → slice_get xs k ≡ Some m → (left ++ m ∷ []) ++ drop (k + 1) xs ≡ left ++ drop k xs
later_one k xs left m h here =
    let is : get_or xs k [] ≡ m = some_same (get_or xs k []) m (sym (slice_get-get_or xs k [] h) ∙ here) in
    let begins : drop k xs ≡ m ∷ drop (k + 1) xs = drop-taken k xs h ∙ ap (λ first. first ∷ drop (k + 1) xs) is in
    append_assoc left (m ∷ []) (drop (k + 1) xs) ∙ ap (λ ms. left ++ ms) (sym begins)

pub later_none : (k : ℕ) (xs : List (List ℕ)) → k < length xs → slice_get xs k ≡ None → ⊥
later_none k xs h none = clash (get_or xs k []) (sym (slice_get-get_or xs k [] h) ∙ none)
  where
    clash : (x : List ℕ) → Some x ≡ None → ⊥
    clash x is = cc

pub later_all : (k : ℕ) (xs left : List (List ℕ)) → length xs ≤ k → left ++ drop k xs ≡ left
later_all k xs left past = ap (λ ms. left ++ ms) (drop_all k xs past) ∙ append-none left
