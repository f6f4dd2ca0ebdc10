-- A walk over the last lines of a view.
use Rattle.std.proofs.Common.{◌≡◌, ℕ, suc, zero, ◌+◌, ◌<◌, ◌≤◌, ◌&&◌, Bool, true}
use Rattle.std.proofs.Common.{false, if◌then◌else◌, List, [], ◌∷◌, length, drop, get_or, Option, Some, None}
use Rattle.std.proofs.Common.{refl, sym, ◌∙◌, ap, subst, arith}
use Rattle.std.proofs.lemmas.List.{drop_all, drop_more}
use Rattle.std.proofs.lemmas.Bool.{and_left, and_right}
use Rattle.sc_text.specs.declared.elements.Element.{Element}
use Rattle.sc_text.specs.declared.elements.ElementKind.{ElementKind}
use Rattle.sc_text.specs.declared.event.Event.{Event}
use Rattle.sc_text.specs.declared.event.Event.TheVariants.{Open, Publish, Hand}
use Rattle.sc_text.specs.declared.end.End.{End}
use Rattle.audit_steps.specs.Places.{one_later}
use Rattle.audit_steps.specs.Ends.{end_then, event_then, is_first_opening, same_element, same_elements, same_end, wrong_end_at}
use Rattle.audit_steps.proofs.Places.{drop_rest, here_first, later_by, later_none, one_more}

-- ---- elements

-- the first ones are the same, up to this place
pub record Alike (es others : List Element) (n : ℕ) : Type 0 where
  pub so_far : same_elements es others ≡ same_elements (drop n es) (drop n others)
  pub long : length es ≡ length others

pub alike_none : (es others : List Element) → length es ≡ length others → Alike es others 0
alike_none es others e = record { so_far = refl; long = e }

module _ (es others : List Element) (n : ℕ) (a : Alike es others n) where
  module _ (x y : Element) (d : Element) (below : n < length es) (at : x ≡ get_or es n d) (at_other : y ≡ get_or others n d) where
    next : same_elements es others ≡ (same_element x y && same_elements (drop (n + 1) es) (drop (n + 1) others))
    next =
        let long = a.long in
        a.so_far
        ∙ ap (λ l. same_elements l (drop n others)) (drop_more es n d below)
        ∙ ap (λ l. same_elements (get_or es n d ∷ drop (n + 1) es) l) (drop_more others n d (omega arith))
        ∙ ap (λ v. same_element v (get_or others n d) && same_elements (drop (n + 1) es) (drop (n + 1) others)) (sym at)
        ∙ ap (λ v. same_element x v && same_elements (drop (n + 1) es) (drop (n + 1) others)) (sym at_other)

    pub alike_more : same_element x y ≡ true → Alike es others (n + 1)
    alike_more so =
        record { so_far = next ∙ ap (λ b. b && same_elements (drop (n + 1) es) (drop (n + 1) others)) so; long = a.long }

    pub unlike : same_element x y ≡ false → false ≡ same_elements es others
    unlike not_so = sym (next ∙ and_left (same_element x y) (same_elements (drop (n + 1) es) (drop (n + 1) others)) not_so)

  pub alike_all : length es ≤ n → true ≡ same_elements es others
  alike_all le =
      let long = a.long in
      sym (a.so_far ∙ ap (λ l. same_elements l (drop n others)) (drop_all n es le) ∙ ap (same_elements []) (drop_all n others (omega arith)))

pub other_length : (es others : List Element) → (length es ≡ length others → ⊥) → false ≡ same_elements es others
other_length [] [] h = absurd (h refl)
other_length [] (y ∷ ys) h = refl
other_length (x ∷ xs) [] h = refl
other_length (x ∷ xs) (y ∷ ys) h =
    sym (and_right (same_element x y) (same_elements xs ys) (sym (other_length xs ys (λ e. h (ap suc e)))))

-- ---- openings, and the end

pub past_all : (opened : List (List Element)) (elements : List Element) (place : ℕ) → place ≡ length opened
    → false ≡ is_first_opening elements (drop place opened)
past_all opened elements place e = sym (ap (is_first_opening elements) (drop_all place opened (omega arith)))

pub first_here : (opened : List (List Element)) (elements : List Element) (place : ℕ) (d : List Element) → place < length opened
    → same_elements elements (get_or opened place d) ≡ is_first_opening elements (drop place opened)
first_here opened elements place d below = sym (ap (is_first_opening elements) (drop_more opened place d below))

opening_there : (opened : List (List Element)) (elements : List Element) (p : ℕ) → is_first_opening elements (drop p opened) ≡ true → p < length opened
opening_there [] elements zero e = absurd cc
opening_there [] elements (suc p) e = absurd cc
opening_there (o ∷ os) elements zero e = omega arith
opening_there (o ∷ os) elements (suc p) e = let h = opening_there os elements p e in omega arith

-- how far the walk has come: a number of events, and of openings
pub record Followed (events : List Event) (end shown : End) (opened : List (List Element)) (n p : ℕ) : Type 0 where
  pub so_far : wrong_end_at events end shown opened ≡ later_by p (wrong_end_at (drop n events) end shown (drop p opened))
  pub within : p ≤ length opened

pub followed_none : (events : List Event) (end shown : End) (opened : List (List Element)) → Followed events end shown opened 0 0
followed_none events end shown opened = record { so_far = later_none (wrong_end_at events end shown opened); within = omega arith }

module _ (events : List Event) (end shown : End) (opened : List (List Element)) (n p : ℕ) (w : Followed events end shown opened n p) where
  module _ (e d : Event) (below : n < length events) (at : e ≡ get_or events n d) where
    abbrev pub rest_told : Event → Option ℕ
    rest_told v = later_by p (event_then v (drop p opened) (λ rest. wrong_end_at (drop (n + 1) events) end shown rest))

    told : wrong_end_at events end shown opened ≡ rest_told e
    told =
        w.so_far
        ∙ ap (λ es. later_by p (wrong_end_at es end shown (drop p opened))) (drop_more events n d below)
        ∙ ap rest_told (sym at)

    no_line : (other : Event) → e ≡ other → rest_told other ≡ later_by p (wrong_end_at (drop (n + 1) events) end shown (drop p opened))
        → (taken : ℕ) → taken ≡ p → Followed events end shown opened (n + 1) taken
    no_line other is same taken still =
        subst (Followed events end shown opened (n + 1)) (sym still) (record { so_far = told ∙ ap rest_told is ∙ same; within = w.within })

    pub took_none : (name : List ℕ) (elements : List Element) → e ≡ Publish name elements → (taken : ℕ) → taken ≡ p
        → Followed events end shown opened (n + 1) taken
    took_none name elements is taken still = no_line (Publish name elements) is refl taken still

    pub took_none_either : (name : List ℕ) (kind : ElementKind) (elements : List Element) → e ≡ Hand name kind elements → (taken : ℕ) → taken ≡ p
        → Followed events end shown opened (n + 1) taken
    took_none_either name kind elements is taken still = no_line (Hand name kind elements) is refl taken still

    module _ (elements : List Element) (is : e ≡ Open elements) where
      abbrev tested : Bool → Option ℕ
      tested b = later_by p (if b then one_later (wrong_end_at (drop (n + 1) events) end shown (drop 1 (drop p opened))) else Some 0)

      opens : wrong_end_at events end shown opened ≡ tested (is_first_opening elements (drop p opened))
      opens = told ∙ ap rest_told is

      takes_line : is_first_opening elements (drop p opened) ≡ true → Followed events end shown opened (n + 1) (p + 1)
      takes_line so =
          let there = opening_there opened elements p so in
          record {
            so_far =
                opens
                ∙ ap tested so
                ∙ one_more p (wrong_end_at (drop (n + 1) events) end shown (drop 1 (drop p opened)))
                ∙ ap (λ l. later_by (p + 1) (wrong_end_at (drop (n + 1) events) end shown l)) (drop_rest opened p);
            within = omega arith;
          }

      pub took_line : is_first_opening elements (drop p opened) ≡ true → (taken : ℕ) → taken ≡ p + 1 → Followed events end shown opened (n + 1) taken
      took_line so taken same = subst (Followed events end shown opened (n + 1)) (sym same) (takes_line so)

      pub stops : is_first_opening elements (drop p opened) ≡ false → wrong_end_at events end shown opened ≡ Some p
      stops not_so = opens ∙ ap tested not_so ∙ here_first p

  followed_end : length events ≤ n → wrong_end_at events end shown opened ≡ later_by p (end_then end shown (drop p opened))
  followed_end le = w.so_far ∙ ap (λ es. later_by p (wrong_end_at es end shown (drop p opened))) (drop_all n events le)

  at_the_end : length events ≤ n → p ≡ length opened
      → wrong_end_at events end shown opened ≡ later_by p (if same_end end shown then None else Some 0)
  at_the_end le e = followed_end le ∙ ap (λ l. later_by p (end_then end shown l)) (drop_all p opened (omega arith))

  pub none_wrong : length events ≤ n → p ≡ length opened → same_end end shown ≡ true → wrong_end_at events end shown opened ≡ None
  none_wrong le e so = at_the_end le e ∙ ap (λ b. later_by p (if b then None else Some 0)) so

  pub other_end : length events ≤ n → p ≡ length opened → same_end end shown ≡ false → wrong_end_at events end shown opened ≡ Some p
  other_end le e not_so = at_the_end le e ∙ ap (λ b. later_by p (if b then None else Some 0)) not_so ∙ here_first p

  some_more : (os : List (List Element)) (k : ℕ) → k < length os → end_then end shown (drop k os) ≡ Some 0
  some_more [] k h = absurd (omega arith)
  some_more (o ∷ os) zero h = refl
  some_more (o ∷ os) (suc k) h = some_more os k (omega arith)

  pub surplus : length events ≤ n → p < length opened → wrong_end_at events end shown opened ≡ Some p
  surplus le h = followed_end le ∙ ap (later_by p) (some_more opened p h) ∙ here_first p
