-- What comes to a miner on a link is, message by message, what is delivered on it.
use Rattle.std.proofs.Common.{◌≡◌, ℕ, Bool, true, false, if◌then◌else◌, List, [], ◌∷◌, ◌++◌, length, drop, refl, sym, ◌∙◌, ap, subst, append_assoc, append-nil}
use Rattle.std.specs.Prelude.{take}
use Rattle.proto_core.specs.declared.party.Number.{Number}
use Rattle.proto_core.specs.declared.link.Link.{Link}
use Rattle.proto_core.specs.declared.link.Link.TheVariants.{Link12, Link13, Link21, Link23, Link31, Link32}
use Rattle.proto_core.specs.Parties.{receiver_of, is_same}
use Rattle.proto_core.specs.Strand.{same_link, Mail, Strand}
use Rattle.proto_core.specs.Net.{posted, under_way, delivered, all_delivered}
use Rattle.proto_core.proofs.Numbers.{same_itself}
use Rattle.proto_core.proofs.Strands.{same-link_is}
use Rattle.protocol_model.specs.Arrivals.{Arrival, oldest_then, arrived}

-- the messages that came on a link, in order
abbrev pub arrived_on : Link → List Arrival → List (List ℕ)
arrived_on l [] = []
arrived_on l (a ∷ more) = if same_link a.link l then a.message ∷ arrived_on l more else arrived_on l more

link_itself : (l : Link) → same_link l l ≡ true
link_itself Link12 = refl
link_itself Link13 = refl
link_itself Link21 = refl
link_itself Link23 = refl
link_itself Link31 = refl
link_itself Link32 = refl

-- the next message of a link is one of it, and none of another
oldest_on : (l : Link) (ms : List (List ℕ)) (more : List Arrival) → arrived_on l (oldest_then l (take 1 ms) more) ≡ take 1 ms ++ arrived_on l more
oldest_on l [] more = refl
oldest_on l (m ∷ ms) more = ap (λ b. if b then m ∷ arrived_on l more else arrived_on l more) (link_itself l)

oldest_elsewhere : (k l : Link) (ms : List (List ℕ)) (more : List Arrival) → same_link k l ≡ false
    → arrived_on l (oldest_then k (take 1 ms) more) ≡ arrived_on l more
oldest_elsewhere k l [] more e = refl
oldest_elsewhere k l (m ∷ ms) more e = ap (λ b. if b then m ∷ arrived_on l more else arrived_on l more) e

module _ {A : Type 0} (nodes : Number → Strand A) (i : Number) (l : Link) (to : receiver_of l ≡ i) where
  ours : is_same (receiver_of l) i ≡ true
  ours = ap (λ k. is_same (receiver_of l) k) (sym to) ∙ same_itself (receiver_of l)

  abbrev Goes : Mail → Link → List Link → Type 0
  Goes mail k ks = mail l ++ arrived_on l (arrived nodes i mail (k ∷ ks)) ≡ all_delivered nodes (delivered nodes mail k) ks l

  abbrev After : Mail → Link → List Link → Type 0
  After mail k ks =
      delivered nodes mail k l ++ arrived_on l (arrived nodes i (delivered nodes mail k) ks) ≡ all_delivered nodes (delivered nodes mail k) ks l

  on_it : (mail : Mail) (ks : List Link) → After mail l ks → Goes mail l ks
  on_it mail ks after =
      let rest : List Arrival = arrived nodes i (delivered nodes mail l) ks in
      ap (λ b. mail l ++ arrived_on l (if b then oldest_then l (under_way nodes mail l) rest else rest)) ours
      ∙ ap (λ ms. mail l ++ ms) (oldest_on l (drop (length (mail l)) (posted nodes mail l)) rest)
      ∙ sym (append_assoc (mail l) (under_way nodes mail l) (arrived_on l rest))
      ∙ ap (λ b. (if b then mail l ++ under_way nodes mail l else mail l) ++ arrived_on l rest) (sym (link_itself l))
      ∙ after

  elsewhere : (mail : Mail) (k : Link) (ks : List Link) → same_link k l ≡ false → After mail k ks → Goes mail k ks
  elsewhere mail k ks e after = by_end (is_same (receiver_of k) i)
    where
      stays : mail l ++ arrived_on l (arrived nodes i (delivered nodes mail k) ks) ≡ all_delivered nodes (delivered nodes mail k) ks l
      stays =
          ap (λ b. (if b then mail l ++ under_way nodes mail l else mail l) ++ arrived_on l (arrived nodes i (delivered nodes mail k) ks)) (sym e) ∙ after

      by_end : (b : Bool)
          → mail l ++ arrived_on l (if b then oldest_then k (under_way nodes mail k) (arrived nodes i (delivered nodes mail k) ks)
          else arrived nodes i (delivered nodes mail k) ks) ≡ all_delivered nodes (delivered nodes mail k) ks l
      by_end true =
          ap (λ ms. mail l ++ ms)
          (oldest_elsewhere k l (drop (length (mail k)) (posted nodes mail k)) (arrived nodes i (delivered nodes mail k) ks) e) ∙ stays
      by_end false = stays

  by_link : (mail : Mail) (k : Link) (ks : List Link) (b : Bool) → same_link k l ≡ b → After mail k ks → Goes mail k ks
  by_link mail k ks true e after =
      let same : l ≡ k = sym (same-link_is k l e) in
      subst (λ x. After mail x ks → Goes mail x ks) same (on_it mail ks) after
  by_link mail k ks false e after = elsewhere mail k ks e after

  -- what came before and what comes then is all that is delivered
  pub comes_whole : (mail : Mail) (order : List Link) → mail l ++ arrived_on l (arrived nodes i mail order) ≡ all_delivered nodes mail order l
  comes_whole mail [] = append-nil (mail l)
  comes_whole mail (k ∷ ks) = by_link mail k ks (same_link k l) refl (comes_whole (delivered nodes mail k) ks)
