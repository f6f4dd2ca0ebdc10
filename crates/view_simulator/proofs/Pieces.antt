-- Entries and events, one after another.
use Rattle.std.proofs.Common.{◌≡◌, ℕ, ◌+◌, ◌<◌, ◌≤◌, true, false, List, [], ◌∷◌, ◌++◌, length, take, drop, refl, sym, ap, ◌∙◌, arith, get_or, take-append-drop}
use Rattle.std.specs.Prelude.{nat_le}
use Rattle.std.proofs.lemmas.List.{take_more, take_all}
use Rattle.sc_text.specs.declared.elements.Element.{Element}
use Rattle.sc_text.specs.declared.event.Event.{Event}
use Rattle.sc_text.specs.declared.event.Event.TheVariants.{Open, Publish, Hand}
use Rattle.value_file.specs.declared.public.PublicValue.{PublicValue}
use Rattle.value_file.specs.declared.public.PublicValue.TheVariants.{Known, Hidden}
use Rattle.value_file.specs.declared.public.PublicEntry.{PublicEntry}
use Rattle.view_model.specs.Dealing.{hidden_then, hidden_sizes, hidden_draws}
use Rattle.program_views.specs.Views.{openings, hidden_need}

-- what is made of a list, and then of one entry more
pub one_more :
    {A B : Type 0} (F : List A → List B) → ((xs ys : List A) → F (xs ++ ys) ≡ F xs ++ F ys) → (xs : List A) (k : ℕ) (x : A) (so_far next : List B) →
    k < length xs → x ≡ get_or xs k x → so_far ≡ F (take k xs) → next ≡ so_far ++ F (x ∷ []) → next ≡ F (take (k + 1) xs)
one_more {A} F append xs k x so_far next below is before added =
    added
    ∙ ap (λ ys. ys ++ F (x ∷ [])) before
    ∙ sym (append (take k xs) (x ∷ []))
    ∙ ap F (sym (take_more xs k x below ∙ ap (λ (y : A). take k xs ++ y ∷ []) (sym is)))

-- ---- sizes of hidden inputs

size_append : (v : PublicValue) (xs ys : List ℕ) → hidden_then v (xs ++ ys) ≡ hidden_then v xs ++ ys
size_append (Known value) xs ys = refl
size_append (Hidden kind shape) xs ys = refl

pub sizes_append : (es fs : List PublicEntry) → hidden_sizes (es ++ fs) ≡ hidden_sizes es ++ hidden_sizes fs
sizes_append [] fs = refl
sizes_append (e ∷ es) fs = ap (hidden_then e.value) (sizes_append es fs) ∙ size_append e.value (hidden_sizes es) (hidden_sizes fs)

-- ---- openings

pub openings_append : (es fs : List Event) → openings (es ++ fs) ≡ openings es ++ openings fs
openings_append [] fs = refl
openings_append (Open elements ∷ es) fs = ap (λ (os : List (List Element)). elements ∷ os) (openings_append es fs)
openings_append (Publish text elements ∷ es) fs = openings_append es fs
openings_append (Hand text kind elements ∷ es) fs = openings_append es fs

-- ---- the words that the dealer needs

need_append : (es fs : List PublicEntry) → hidden_need (es ++ fs) ≡ hidden_need es + hidden_need fs
need_append [] fs = omega arith
need_append (e ∷ es) fs = let rest = need_append es fs in omega (arith, rest)

pub need_more :
    (es : List PublicEntry) (k : ℕ) (e : PublicEntry) → k < length es → e ≡ get_or es k e →
    hidden_need (take (k + 1) es) ≡ hidden_need (take k es) + hidden_draws e.value
need_more es k e below is =
    ap hidden_need (take_more es k e below ∙ ap (λ (x : PublicEntry). take k es ++ x ∷ []) (sym is)) ∙ need_append (take k es) (e ∷ []) ∙ one _
  where
    one : (n : ℕ) → n + (hidden_draws e.value + 0) ≡ n + hidden_draws e.value
    one n = omega arith

-- with one input more, so many words are left
pub still_left :
    (es : List PublicEntry) (k : ℕ) (e : PublicEntry) (words left behind : ℕ) → k < length es → e ≡ get_or es k e →
    words ≡ hidden_need (take k es) + left → left ≡ hidden_draws e.value + behind → words ≡ hidden_need (take (k + 1) es) + behind
still_left es k e words left behind below is so_far drawn = let more = need_more es k e below is in omega (arith, more, so_far, drawn)

-- all inputs need no fewer than those before a place
need_within : (es : List PublicEntry) (k : ℕ) → hidden_need (take k es) ≤ hidden_need es
need_within es k =
    let parts : hidden_need es ≡ hidden_need (take k es) + hidden_need (drop k es) =
    ap hidden_need (sym (take-append-drop k es)) ∙ need_append (take k es) (drop k es) in
    omega (arith, parts)

pub too_few :
    (es : List PublicEntry) (k : ℕ) (e : PublicEntry) (words left : ℕ) → k < length es → e ≡ get_or es k e →
    words ≡ hidden_need (take k es) + left → left < hidden_draws e.value → false ≡ nat_le (hidden_need es) words
too_few es k e words left below is so_far short =
    let more = need_more es k e below is in
    let within = need_within es (k + 1) in
    let fewer : words < hidden_need es = omega (arith, more, within, so_far, short) in
    grind arith

pub enough_words :
    (es : List PublicEntry) (k : ℕ) (words left : ℕ) → length es ≤ k → words ≡ hidden_need (take k es) + left → true ≡ nat_le (hidden_need es) words
enough_words es k words left past so_far =
    let all : words ≡ hidden_need es + left = so_far ∙ ap (λ (xs : List PublicEntry). hidden_need xs + left) (take_all k es past) in
    grind arith
