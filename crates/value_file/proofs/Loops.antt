-- Elements that are read, shown or built one after the other.
use Rattle.std.proofs.Common.{◌≡◌, ℕ, Bool, Vec, Global, rules, ◌+◌, ◌<◌, ◌≤◌, List, [], ◌∷◌, ◌++◌, Option, Some, None}
use Rattle.std.proofs.Common.{map, option_map, length, take, drop, get_or, refl, ap, sym, ◌∙◌, append_assoc}
use Rattle.std.proofs.lemmas.List.{append-nil, drop_all, drop_more, map-append, map_more, take_all}
use Rattle.serde_json.specs.Data.{Data, array, boolean}
use Rattle.serde_json.specs.declared.value.Value.{Value, the_lemmas}
use Rattle.serde_json.specs.declared.value.Value.TheFolds.{fold-roll-Value}
use Rattle.serde_json.specs.declared.value.Value.TheOpen.{Value-F}
use Rattle.serde_json.specs.declared.value.Value.TheVariants.{Bool as Truth, Array as Listed, rolls-Bool}
use Rattle.serde_json.specs.View.{view, view_step, items_view}
use Rattle.value_file.specs.Values.{all_in, joined}

-- what was read before, and then the rest
abbrev pub behind : {A : Type 0} → List A → Option (List A) → Option (List A)
behind before rest = option_map (λ xs. before ++ xs) rest

-- the next element joins what was read before
behind-joined : {A : Type 0} (before : List A) (x : A) (rest : Option (List A)) →
    behind before (joined (Some x) rest) ≡ behind (before ++ x ∷ []) rest
behind-joined before x (Some xs) = ap Some (sym (append_assoc before (x ∷ []) xs))
behind-joined before x None = refl

module _ {A : Type 0} (one : Data → Option A) (vs : List Value) (i : ℕ) (before : List A) (whole : Option (List A))
    (same : whole ≡ behind before (all_in one (items_view (drop i vs)))) where
  -- an element that is good joins those before it
  pub all_in-more : (v : Value) (x : A) (after : List A) → i < length vs → v ≡ get_or vs i v → after ≡ before ++ x ∷ [] → one (view v) ≡ Some x →
      whole ≡ behind after (all_in one (items_view (drop (i + 1) vs)))
  all_in-more v x after here at grown good =
      same ∙ rw (drop_more vs i v here, ← at, good, grown) (behind-joined before x (all_in one (items_view (drop (i + 1) vs))))

  -- an element that isn't good ends the reading
  pub all_in-none : (v : Value) → i < length vs → v ≡ get_or vs i v → one (view v) ≡ None → None ≡ whole
  all_in-none v here at bad = sym (same ∙ rw (drop_more vs i v here, ← at, bad) refl)

  -- after the last element
  pub all_in-end : length vs ≤ i → Some before ≡ whole
  all_in-end past = sym (same ∙ rw (drop_all i vs past) (ap Some (append-nil before)))

-- one more element is shown
pub shown-more : {X Y Z : Type 0} (view : Y → Z) (f : X → Z) (before after : List Y) (y : Y)
    (xs : List X) (i : ℕ) (x : X) → i < length xs →
    map view before ≡ map f (take i xs) → after ≡ before ++ y ∷ [] → view y ≡ f (get_or xs i x) → map view after ≡ map f (take (i + 1) xs)
shown-more view f before after y xs i x here same joined one =
    rw (joined, map-append view before (y ∷ []), same, one, map_more f xs i x here) refl

-- one more element is built
pub built-more : {X Z : Type 0} (f : X → Z) (before after : List Z) (z : Z) (xs : List X) (i : ℕ) (x : X) → i < length xs →
    before ≡ map f (take i xs) → after ≡ before ++ z ∷ [] → z ≡ f (get_or xs i x) → after ≡ map f (take (i + 1) xs)
built-more f before after z xs i x here same joined one = rw (joined, same, one, map_more f xs i x here) refl

-- after the last element all are built
pub built-all : {X Z : Type 0} (f : X → Z) (built : List Z) (xs : List X) (i : ℕ) → length xs ≤ i →
    built ≡ map f (take i xs) → built ≡ map f xs
built-all f built xs i past same = same ∙ ap (map f) (take_all i xs past)

-- a truth value as data
pub view-truth : (b : Bool) → view (Truth b) ≡ boolean b
view-truth b = ap view (sym (rolls-Bool b)) ∙ fold-roll-Value Data view_step (Value-F.Bool b)

-- a list of values as data
pub view-list : (list : Vec Value Global) → view (Listed list) ≡ array (items_view list.items)
view-list list = search (rules, the_lemmas)
