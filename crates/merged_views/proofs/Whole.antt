-- The messages that came to one miner: all that come to it, each link's in order.
use Rattle.std.proofs.Common.{◌≡◌, ℕ, ◌+◌, Bool, true, false, if◌then◌else◌, List, [], ◌∷◌, length, drop, map, refl, sym, ◌∙◌, ap, arith, ◌⊎◌, inl, inr}
use Rattle.proto_core.specs.declared.party.Number.{Number}
use Rattle.proto_core.specs.declared.party.Number.TheVariants.{One, Two, Three}
use Rattle.proto_core.specs.declared.link.Link.{Link}
use Rattle.proto_core.specs.declared.link.Link.TheVariants.{Link12, Link13, Link21, Link23, Link31, Link32}
use Rattle.proto_core.specs.Parties.{from_previous, from_next, receiver_of, is_same}
use Rattle.proto_core.specs.Strand.{same_link, Mail, taken}
use Rattle.proto_core.proofs.Numbers.{same_itself}
use Rattle.proto_core.proofs.Strands.{same-link_is}
use Rattle.protocol_model.specs.Arrivals.{arrivals, oldest_then}
use Rattle.view_text.specs.View.{Received}
use Rattle.merged_orders.specs.Merging.{count_in}
use Rattle.merged_views.specs.Brought.{links_of, received}

-- each of these links ends at the miner
abbrev pub AllInto : Number → List Link → Type 0
AllInto i [] = Unit {0}
AllInto i (l ∷ ls) = (receiver_of l ≡ i) × AllInto i ls

pub record IsWhole (i : Number) (mail : Mail) (got : List Received) : Type 0 where
  pub come : map received (arrivals i mail (links_of got)) ≡ got
  pub own : AllInto i (links_of got)
  pub all : (l : Link) → receiver_of l ≡ i → count_in l (links_of got) ≡ length (mail l)

-- ---- the two links into a miner

pub two_links : (l : Link) → (l ≡ from_previous (receiver_of l)) ⊎ (l ≡ from_next (receiver_of l))
two_links Link12 = inl refl
two_links Link13 = inr refl
two_links Link21 = inr refl
two_links Link23 = inl refl
two_links Link31 = inl refl
two_links Link32 = inr refl

pub previous_into : (i : Number) → receiver_of (from_previous i) ≡ i
previous_into One = refl
previous_into Two = refl
previous_into Three = refl

pub next_into : (i : Number) → receiver_of (from_next i) ≡ i
next_into One = refl
next_into Two = refl
next_into Three = refl

pub previous_not_next : (i : Number) → same_link (from_previous i) (from_next i) ≡ false
previous_not_next One = refl
previous_not_next Two = refl
previous_not_next Three = refl

pub next_not_previous : (i : Number) → same_link (from_next i) (from_previous i) ≡ false
next_not_previous One = refl
next_not_previous Two = refl
next_not_previous Three = refl

-- ---- one message more

module _ (i : Number) (mail : Mail) (l : Link) (m : List ℕ) (ms : List (List ℕ)) (to : receiver_of l ≡ i) (there : mail l ≡ m ∷ ms) where
  pub brings_first : (ls : List Link) → arrivals i mail (l ∷ ls) ≡ record { link = l; message = m } ∷ arrivals i (taken l mail) ls
  brings_first ls =
      ap (λ b. if b then oldest_then l (mail l) (arrivals i (taken l mail) ls) else arrivals i (taken l mail) ls)
      (ap (is_same (receiver_of l)) (sym to) ∙ same_itself (receiver_of l))
      ∙ ap (λ v. oldest_then l v (arrivals i (taken l mail) ls)) there

  -- one more of this link has come, and one less is to come
  pub one_taken : (k : Link) (n : ℕ) → n ≡ length (taken l mail k) → (if same_link l k then 1 else 0) + n ≡ length (mail k)
  one_taken k n e = by_link (same_link l k) refl
    where
      by_link : (b : Bool) → same_link l k ≡ b → (if same_link l k then 1 else 0) + n ≡ length (mail k)
      by_link true g =
          let here : mail k ≡ m ∷ ms = ap mail (sym (same-link_is l k g)) ∙ there in
          let left : n ≡ length (drop 1 (mail k)) = e ∙ ap (λ b. length (if b then drop 1 (mail k) else mail k)) g in
          let rest : length (drop 1 (mail k)) ≡ length ms = ap (λ v. length (drop 1 v)) here in
          let whole : length (mail k) ≡ length (m ∷ ms) = ap length here in
          ap (λ b. (if b then 1 else 0) + n) g ∙ omega (arith, left, rest, whole)
      by_link false g =
          let left : n ≡ length (mail k) = e ∙ ap (λ b. length (if b then drop 1 (mail k) else mail k)) g in
          ap (λ b. (if b then 1 else 0) + n) g ∙ omega (arith, left)

-- with it the messages are whole
pub whole_more : (i : Number) (mail : Mail) (r : Received) (rs : List Received) (ms : List (List ℕ)) → receiver_of r.link ≡ i
    → mail r.link ≡ r.message ∷ ms → IsWhole i (taken r.link mail) rs → IsWhole i mail (r ∷ rs)
whole_more i mail r rs ms to there later =
    record {
      come =
          ap (map received) (brings_first i mail r.link r.message ms to there (links_of rs))
          ∙ ap (λ v. r ∷ v) later.come;
      own = (to, later.own);
      all = λ l into. one_taken i mail r.link r.message ms to there l (count_in l (links_of rs)) (later.all l into);
    }
