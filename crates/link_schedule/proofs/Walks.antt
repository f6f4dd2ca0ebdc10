-- A schedule entry by entry.
use Rattle.std.proofs.Common.{◌≡◌, ℕ, ◌+◌, true, false, if◌then◌else◌, List, [], ◌∷◌, ◌++◌, length, sym, ap, subst}
use Rattle.std.proofs.lemmas.List.{append_assoc}
use Rattle.std.specs.Prelude.{nat_lt, Some}
use Rattle.proto_core.specs.declared.party.Number.{Number}
use Rattle.proto_core.specs.declared.link.Link.{Link}
use Rattle.proto_core.specs.Strand.{Mail, Strand}
use Rattle.proto_core.specs.Net.{posted, delivered}
use Rattle.proto_core.proofs.Beginnings.{append-none}
use Rattle.protocol_model.specs.Network.{EmptyLink, walked, chosen}
use Rattle.protocol_model.proofs.Choosing.{one_longer}
use Rattle.link_schedule.specs.Orders.{full_links, IsMade}

-- ---- entries

module _ {A : Type 0} (nodes : Number → Strand A) where
  pub entry_goes : (entry : ℕ) (mail : Mail) (l : Link) (ls : List Link) → nat_lt (length (mail l)) (length (posted nodes mail l)) ≡ true →
      walked nodes entry mail (l ∷ ls) ≡ walked nodes (entry + 1) (delivered nodes mail l) ls
  entry_goes entry mail l ls e =
      ap (λ b. if b then walked nodes (entry + 1) (delivered nodes mail l) ls else EmptyLink entry l (length (posted nodes mail l))) e

  pub entry_stops : (entry : ℕ) (mail : Mail) (l : Link) (ls : List Link) → nat_lt (length (mail l)) (length (posted nodes mail l)) ≡ false →
      walked nodes entry mail (l ∷ ls) ≡ EmptyLink entry l (length (posted nodes mail l))
  entry_stops entry mail l ls e =
      ap (λ b. if b then walked nodes (entry + 1) (delivered nodes mail l) ls else EmptyLink entry l (length (posted nodes mail l))) e

  -- ---- orders that are made

  -- an order so far, from this mail to that one
  pub record MadeSoFar (words : ℕ → ℕ) (from to : Mail) (order : List Link) : Type 0 where
    pub goes_on : (rest : List Link) → IsMade nodes words (length order) to rest → IsMade nodes words 0 from (order ++ rest)

  pub made_none : (words : ℕ → ℕ) (mail : Mail) → MadeSoFar words mail mail []
  made_none words mail = record { goes_on = λ rest h. h }

  pub made_more : (words : ℕ → ℕ) (from to : Mail) (order : List Link) (l : Link) → MadeSoFar words from to order →
      chosen (words (length order)) (full_links nodes to) ≡ Some l → MadeSoFar words from (delivered nodes to l) (order ++ l ∷ [])
  made_more words from to order l h e =
      record {
        goes_on = λ rest g.
            subst (λ v. IsMade nodes words 0 from v) (sym (append_assoc order (l ∷ []) rest))
            (h.goes_on (l ∷ rest) (e, subst (λ n. IsMade nodes words n (delivered nodes to l) rest) (one_longer order l) g));
      }

  pub made_all : (words : ℕ → ℕ) (from to : Mail) (order : List Link) → MadeSoFar words from to order → full_links nodes to ≡ [] →
      IsMade nodes words 0 from order
  made_all words from to order h e = subst (λ v. IsMade nodes words 0 from v) (append-none order) (h.goes_on [] e)
