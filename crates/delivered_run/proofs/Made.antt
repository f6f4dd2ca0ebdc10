-- An order that a net makes itself is the one that the scripts' counts make.
use Rattle.std.proofs.Common.{◌≡◌, ℕ, zero, suc, ◌+◌, ◌<◌, ◌≤◌, Bool, true, List, [], ◌∷◌, length, refl, sym, ◌∙◌, ap, arith}
use Rattle.std.specs.Option.{option_map_or}
use Rattle.std.specs.Prelude.{nat_lt, filter}
use Rattle.proto_core.specs.declared.party.Number.{Number}
use Rattle.proto_core.specs.declared.link.Link.{Link}
use Rattle.proto_core.specs.Parties.{sender_of}
use Rattle.proto_core.specs.Script.{Move, sends_on}
use Rattle.proto_core.specs.Strand.{Mail, Strand, Begins}
use Rattle.proto_core.specs.Net.{nothing, posted, delivered, MailBegins, Finishes}
use Rattle.proto_core.proofs.Beginnings.{begins-self, begins-trans}
use Rattle.proto_core.proofs.Nets.{covers, delivered-begins, posted-more}
use Rattle.protocol_model.specs.Network.{all_links, chosen, counts, into_counts, is_full, made_order, none_delivered}
use Rattle.protocol_model.specs.Network.{one_more, posted_count, sends_in_all, sent_by, total}
use Rattle.protocol_model.proofs.NetCounts.{counts-delivered, lt_from}
use Rattle.protocol_model.proofs.Choosing.{in_those}
use Rattle.protocol_model.proofs.MadeOrders.{total-more}
use Rattle.counted_net.proofs.Counts.{total_few}
use Rattle.counted_net.proofs.Made.{sent_few}
use Rattle.link_schedule.specs.Orders.{IsMade, full_links}

begins_few : (xs ys : List (List ℕ)) → Begins xs ys → length xs ≤ length ys
begins_few [] ys h = omega arith
begins_few (x ∷ xs) [] h = absurd h
begins_few (x ∷ xs) (y ∷ ys) h = let l = begins_few xs ys h.1 in omega arith

-- ---- orders

module _ {A : Type 0} (nodes : Number → Strand A) (scripts : Number → List Move) (full : Mail) (outputs : Number → A) (finishes : Finishes nodes full outputs)
    (same : (mail : Mail) → MailBegins mail full → (l : Link) → length (posted nodes mail l) ≡ posted_count scripts (counts mail) l) where
  posted_within : (mail : Mail) → MailBegins mail full → MailBegins (posted nodes mail) full
  posted_within mail h l = begins-trans _ _ _ (posted-more nodes mail full h l) (covers nodes full outputs finishes l)

  same_links : (mail : Mail) → MailBegins mail full → full_links nodes mail ≡ filter (is_full scripts (counts mail)) all_links
  same_links mail h = ap (λ (p : Link → Bool). filter p all_links) (λ d. λ l. ap (nat_lt (length (mail l))) (same mail h l) d)

  -- a link with a message under way has fewer than the full run's
  fewer : (mail : Mail) → MailBegins mail full → (l : Link) → length (mail l) < length (posted nodes mail l) → total (counts mail) < total (counts full)
  fewer mail h l lt =
      let more : total (counts (delivered nodes mail l)) ≡ total (counts mail) + 1 =
      ap total (counts-delivered nodes mail l lt) ∙ total-more l (counts mail) in
      let few : total (counts (delivered nodes mail l)) ≤ total (counts full) =
      total_few (counts (delivered nodes mail l)) (counts full)
      (λ k. begins_few (delivered nodes mail l k) (full k) (delivered-begins nodes mail full l h (posted_within mail h) k)) in
      omega arith

  abbrev order_by : (words : ℕ → ℕ) (fuel entry : ℕ) → Mail → List Link → List Link
  order_by words fuel entry mail links =
      option_map_or (λ l. l ∷ made_order scripts words fuel (entry + 1) (one_more l (counts mail))) (chosen (words entry) links) []

  pub made_same :
      (words : ℕ → ℕ) (order : List Link) (fuel entry : ℕ) (mail : Mail) → MailBegins mail full → IsMade nodes words entry mail order
      → total (counts full) ≤ total (counts mail) + fuel → made_order scripts words fuel entry (counts mail) ≡ order
  made_same words [] zero entry mail h made enough = refl
  made_same words [] (suc fuel) entry mail h made enough = ap (order_by words fuel entry mail) (sym (same_links mail h) ∙ made)
  made_same words (l ∷ ls) fuel entry mail h made enough = by_fuel fuel enough
      (λ n few. made_same words ls n (entry + 1) (delivered nodes mail l) (delivered-begins nodes mail full l h (posted_within mail h)) made.1 few)
    where
      under : nat_lt (length (mail l)) (length (posted nodes mail l)) ≡ true
      under = in_those (λ k. nat_lt (length (mail k)) (length (posted nodes mail k))) all_links _ l made.0

      lt : length (mail l) < length (posted nodes mail l)
      lt = lt_from _ _ under

      by_fuel :
          (n : ℕ) → total (counts full) ≤ total (counts mail) + n
          → ((m : ℕ) → total (counts full) ≤ total (counts (delivered nodes mail l)) + m
          → made_order scripts words m (entry + 1) (counts (delivered nodes mail l)) ≡ ls)
          → made_order scripts words n entry (counts mail) ≡ l ∷ ls
      by_fuel zero few more = let below = fewer mail h l lt in absurd (omega arith)
      by_fuel (suc m) few more =
          let one : total (counts (delivered nodes mail l)) ≡ total (counts mail) + 1 =
          ap total (counts-delivered nodes mail l lt) ∙ total-more l (counts mail) in
          ap (λ links. order_by words m entry mail links) (sym (same_links mail h))
          ∙ ap (λ choice. option_map_or (λ k. k ∷ made_order scripts words m (entry + 1) (one_more k (counts mail))) choice []) made.0
          ∙ ap (λ c. l ∷ made_order scripts words m (entry + 1) c) (sym (counts-delivered nodes mail l lt))
          ∙ ap (λ (rest : List Link). l ∷ rest) (more m (omega arith))

  -- the scripts send no fewer
  enough_in_all : total (counts full) ≤ sends_in_all scripts
  enough_in_all =
      total_few (counts full) (λ l. length (sends_on l (scripts (sender_of l)))) (λ l.
      let own = sender_of l in
      let sent : length (full l) ≡ sent_by (scripts own) (into_counts own (counts full)) l =
      ap length (sym (finishes.sent l)) ∙ same full (λ k. begins-self (full k)) l in
      let few = sent_few (scripts own) (into_counts own (counts full)) l in
      omega arith)

  pub order_made : (words : ℕ → ℕ) (order : List Link) → IsMade nodes words 0 nothing order
      → made_order scripts words (sends_in_all scripts) 0 none_delivered ≡ order
  order_made words order made = made_same words order (sends_in_all scripts) 0 nothing (λ l. tt) made (let e = enough_in_all in omega arith)
