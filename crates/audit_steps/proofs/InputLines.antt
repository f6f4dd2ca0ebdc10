-- A walk over the `in` lines of a view.
use Rattle.std.proofs.Common.{◌≡◌, ℕ, suc, zero, ◌+◌, ◌<◌, ◌≤◌, Bool, true, false, if◌then◌else◌, List, [], ◌∷◌, length, drop, get_or, Option, Some, None}
use Rattle.std.proofs.Common.{refl, sym, ◌∙◌, ap, subst, arith}
use Rattle.std.proofs.lemmas.List.{drop_all, drop_more}
use Rattle.value_file.specs.declared.value.DataType.{DataType}
use Rattle.value_file.specs.declared.value.Shape.{Shape}
use Rattle.value_file.specs.declared.value.Value.{Value}
use Rattle.value_file.specs.declared.public.PublicValue.{PublicValue}
use Rattle.value_file.specs.declared.public.PublicValue.TheVariants.{Known, Hidden}
use Rattle.value_file.specs.declared.public.PublicEntry.{PublicEntry}
use Rattle.view_text.specs.View.{InputShare}
use Rattle.audit_steps.specs.Places.{one_later}
use Rattle.audit_steps.specs.Shares.{is_first_share, no_more, share_then, wrong_share_at}
use Rattle.audit_steps.proofs.Places.{drop_rest, here_first, later_by, later_none, one_more}

pub past_all : (shares : List InputShare) (name : List ℕ) (kind : DataType) (shape : Shape) (place : ℕ) → place ≡ length shares
    → false ≡ is_first_share name kind shape (drop place shares)
past_all shares name kind shape place e = sym (ap (is_first_share name kind shape) (drop_all place shares (omega arith)))

share_there : (shares : List InputShare) (name : List ℕ) (kind : DataType) (shape : Shape) (p : ℕ) → is_first_share name kind shape (drop p shares) ≡ true → p < length shares
share_there [] name kind shape zero e = absurd cc
share_there [] name kind shape (suc p) e = absurd cc
share_there (s ∷ ss) name kind shape zero e = omega arith
share_there (s ∷ ss) name kind shape (suc p) e = let h = share_there ss name kind shape p e in omega arith

-- how far the walk has come: a number of inputs, and of lines
pub record Compared (part : List PublicEntry) (shares : List InputShare) (n p : ℕ) : Type 0 where
  pub so_far : wrong_share_at part shares ≡ later_by p (wrong_share_at (drop n part) (drop p shares))
  pub within : p ≤ length shares

pub compared_none : (part : List PublicEntry) (shares : List InputShare) → Compared part shares 0 0
compared_none part shares = record { so_far = later_none (wrong_share_at part shares); within = omega arith }

module _ (part : List PublicEntry) (shares : List InputShare) (n p : ℕ) (w : Compared part shares n p) where
  module _ (e d : PublicEntry) (below : n < length part) (at : e ≡ get_or part n d) where
    abbrev next : PublicValue → Option ℕ
    next v = later_by p (share_then e.name v (drop p shares) (λ rest. wrong_share_at (drop (n + 1) part) rest))

    opened : wrong_share_at part shares ≡ next e.value
    opened =
        w.so_far
        ∙ ap (λ es. later_by p (wrong_share_at es (drop p shares))) (drop_more part n d below)
        ∙ ap (λ (x : PublicEntry). later_by p (wrong_share_at (x ∷ drop (n + 1) part) (drop p shares))) (sym at)

    no_line : (v : Value) → e.value ≡ Known v → Compared part shares (n + 1) p
    no_line v is = record { so_far = opened ∙ ap next is; within = w.within }

    pub took_none : (v : Value) → e.value ≡ Known v → (taken : ℕ) → taken ≡ p → Compared part shares (n + 1) taken
    took_none v is taken same = subst (Compared part shares (n + 1)) (sym same) (no_line v is)

    module _ (kind : DataType) (shape : Shape) (is : e.value ≡ Hidden kind shape) where
      abbrev tested : Bool → Option ℕ
      tested b = later_by p (if b then one_later (wrong_share_at (drop (n + 1) part) (drop 1 (drop p shares))) else Some 0)

      hidden : wrong_share_at part shares ≡ tested (is_first_share e.name kind shape (drop p shares))
      hidden = opened ∙ ap next is

      takes_line : is_first_share e.name kind shape (drop p shares) ≡ true → Compared part shares (n + 1) (p + 1)
      takes_line so =
          let there = share_there shares e.name kind shape p so in
          record {
            so_far =
                hidden
                ∙ ap tested so
                ∙ one_more p (wrong_share_at (drop (n + 1) part) (drop 1 (drop p shares)))
                ∙ ap (λ l. later_by (p + 1) (wrong_share_at (drop (n + 1) part) l)) (drop_rest shares p);
            within = omega arith;
          }

      pub took_line : is_first_share e.name kind shape (drop p shares) ≡ true → (taken : ℕ) → taken ≡ p + 1 → Compared part shares (n + 1) taken
      took_line so taken same = subst (Compared part shares (n + 1)) (sym same) (takes_line so)

      pub stops : is_first_share e.name kind shape (drop p shares) ≡ false → wrong_share_at part shares ≡ Some p
      stops not_so = hidden ∙ ap tested not_so ∙ here_first p

  compared_end : length part ≤ n → wrong_share_at part shares ≡ later_by p (no_more (drop p shares))
  compared_end le = w.so_far ∙ ap (λ es. later_by p (wrong_share_at es (drop p shares))) (drop_all n part le)

  pub none_wrong : length part ≤ n → p ≡ length shares → wrong_share_at part shares ≡ None
  none_wrong le e = compared_end le ∙ ap (λ l. later_by p (no_more l)) (drop_all p shares (omega arith))

  some_more : (ss : List InputShare) (k : ℕ) → k < length ss → no_more (drop k ss) ≡ Some 0
  some_more [] k h = absurd (omega arith)
  some_more (s ∷ ss) zero h = refl
  some_more (s ∷ ss) (suc k) h = some_more ss k (omega arith)

  pub surplus : length part ≤ n → p < length shares → wrong_share_at part shares ≡ Some p
  surplus le h = compared_end le ∙ ap (later_by p) (some_more shares p h) ∙ here_first p
