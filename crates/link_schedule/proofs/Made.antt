-- The orders that a net makes itself are those that its scripts make.
use Rattle.std.proofs.Common.{◌≡◌, ℕ, zero, suc, ◌+◌, ◌≤◌, ◌%◌, List, [], ◌∷◌, length, refl, sym, ◌∙◌, ap, arith}
use Rattle.std.specs.Option.{option_map_or}
use Rattle.std.specs.Prelude.{nat_lt, Some, filter}
use Rattle.proto_core.specs.declared.party.Number.{Number}
use Rattle.proto_core.specs.declared.link.Link.{Link}
use Rattle.proto_core.specs.declared.link.Link.TheVariants.{Link12, Link13, Link21, Link23, Link31, Link32}
use Rattle.proto_core.specs.Strand.{Mail, Strand, Begins}
use Rattle.proto_core.specs.Script.{Move}
use Rattle.proto_core.specs.Net.{into, posted, delivered, MailBegins, Finishes}
use Rattle.proto_core.proofs.Nets.{delivered-begins}
use Rattle.protocol_model.specs.Along.{MovesAlong}
use Rattle.protocol_model.specs.Network.{Counts, counts, one_more, all_links, is_full, chosen, made_order, total}
use Rattle.protocol_model.proofs.NetCounts.{posted-counted, counts-delivered, posted-begins, lt_from}
use Rattle.link_schedule.specs.Orders.{full_links, IsMade}
use Rattle.protocol_model.proofs.Choosing.{in_those}

pub begins_length : (xs ys : List (List ℕ)) → Begins xs ys → length xs ≤ length ys
begins_length [] ys h = omega arith
begins_length (x ∷ xs) [] h = absurd h
begins_length (x ∷ xs) (y ∷ ys) h = let n = begins_length xs ys h.1 in omega arith

total_begins : (x y : Mail) → MailBegins x y → total (counts x) ≤ total (counts y)
total_begins x y h =
    let a = begins_length (x Link12) (y Link12) (h Link12) in
    let b = begins_length (x Link13) (y Link13) (h Link13) in
    let c = begins_length (x Link21) (y Link21) (h Link21) in
    let d = begins_length (x Link23) (y Link23) (h Link23) in
    let e = begins_length (x Link31) (y Link31) (h Link31) in
    let f = begins_length (x Link32) (y Link32) (h Link32) in
    omega arith

total_more : (l : Link) (got : Counts) → total (one_more l got) ≡ total got + 1
total_more Link12 got = omega arith
total_more Link13 got = omega arith
total_more Link21 got = omega arith
total_more Link23 got = omega arith
total_more Link31 got = omega arith
total_more Link32 got = omega arith

module _ {A : Type 0} (nodes : Number → Strand A) (scripts : Number → List Move) (full : Mail) (outputs : Number → A) (f : Finishes nodes full outputs)
    (moves : (i : Number) → MovesAlong (nodes i) (scripts i) (into i full)) where
  full_same : (mail : Mail) → MailBegins mail full → full_links nodes mail ≡ filter (is_full scripts (counts mail)) all_links
  full_same mail h = ap (λ p. filter p all_links) (λ d. λ l. ap (nat_lt (length (mail l))) (posted-counted nodes scripts full mail outputs f moves h l) d)

  -- what is known where a link was chosen
  record IsNext (mail : Mail) (l : Link) : Type 0 where
    pub begins : MailBegins (delivered nodes mail l) full
    pub one : counts (delivered nodes mail l) ≡ one_more l (counts mail)
    pub more : total (counts (delivered nodes mail l)) ≡ total (counts mail) + 1

  next : (mail : Mail) (l : Link) (word : ℕ) → MailBegins mail full → chosen word (full_links nodes mail) ≡ Some l → IsNext mail l
  next mail l word h e =
      let lt = lt_from _ _ (in_those (λ k. nat_lt (length (mail k)) (length (posted nodes mail k))) all_links (word % length (full_links nodes mail)) l e) in
      let one = counts-delivered nodes mail l lt in
      record {
        begins = delivered-begins nodes mail full l h (posted-begins nodes scripts full outputs f moves mail h);
        one = one;
        more = ap total one ∙ total_more l (counts mail);
      }

  too_many : {P : Type 0} (mail : Mail) (l : Link) → IsNext mail l → total (counts full) ≤ total (counts mail) + 0 → P
  too_many mail l n t = let h = total_begins (delivered nodes mail l) full n.begins in let m = n.more in absurd (omega arith)

  pub made_counted : (words : ℕ → ℕ) (fuel entry : ℕ) (mail : Mail) (order : List Link) → MailBegins mail full →
      total (counts full) ≤ total (counts mail) + fuel → IsMade nodes words entry mail order → order ≡ made_order scripts words fuel entry (counts mail)
  made_counted words zero entry mail [] h t made = refl
  made_counted words zero entry mail (l ∷ ls) h t made = too_many mail l (next mail l (words entry) h made.0) t
  made_counted words (suc fuel) entry mail [] h t made =
      sym (ap (λ ls. option_map_or (λ l. l ∷ made_order scripts words fuel (entry + 1) (one_more l (counts mail))) (chosen (words entry) ls) [])
      (sym (full_same mail h) ∙ made))
  made_counted words (suc fuel) entry mail (l ∷ ls) h t made =
      let n = next mail l (words entry) h made.0 in
      let m = n.more in
      ap (λ v. l ∷ v) (made_counted words fuel (entry + 1) (delivered nodes mail l) ls n.begins (omega arith) made.1)
      ∙ ap (λ got. l ∷ made_order scripts words fuel (entry + 1) got) n.one
      ∙ sym (ap (λ o. option_map_or (λ k. k ∷ made_order scripts words fuel (entry + 1) (one_more k (counts mail))) o [])
      (ap (chosen (words entry)) (sym (full_same mail h)) ∙ made.0))
