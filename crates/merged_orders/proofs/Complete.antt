-- An accepted schedule delivers each link as often as it has messages.
use Rattle.std.proofs.Common.{◌≡◌, ◌+◌, List, [], ◌∷◌, length, refl, ◌∙◌, ap, arith}
use Rattle.proto_core.specs.declared.party.Number.{Number}
use Rattle.proto_core.specs.declared.link.Link.{Link}
use Rattle.proto_core.specs.Net.{Finishes, MailBegins, all_delivered, delivered, into, nothing}
use Rattle.proto_core.specs.Parties.{receiver_of}
use Rattle.proto_core.specs.Script.{Move}
use Rattle.proto_core.specs.Strand.{Mail, Strand}
use Rattle.proto_core.proofs.Nets.{delivered-begins}
use Rattle.protocol_model.specs.Along.{MovesAlong}
use Rattle.protocol_model.specs.Network.{Accepted, counts, none_delivered, walked}
use Rattle.protocol_model.proofs.Coming.{goes-on, passes}
use Rattle.protocol_model.proofs.Completing.{accepted-complete}
use Rattle.protocol_model.proofs.NetCounts.{counts-delivered, lt_from, posted-begins, walked-counted}
use Rattle.merged_orders.specs.Merging.{with_all, count_in, AllCome, Merges, Orders}
use Rattle.merged_orders.proofs.Numbers.{with_all_counts, links_to_counts}

module _ {A : Type 0} (nodes : Number → Strand A) (scripts : Number → List Move) (full : Mail) (outputs : Number → A)
    (f : Finishes nodes full outputs) (moves : (i : Number) → MovesAlong (nodes i) (scripts i) (into i full)) where
  delivered_counts : (order : List Link) (entry : _) (mail : Mail) → MailBegins mail full → walked nodes entry mail order ≡ Accepted
      → counts (all_delivered nodes mail order) ≡ with_all (counts mail) order
  delivered_counts [] entry mail b e = refl
  delivered_counts (l ∷ ls) entry mail b e =
      delivered_counts ls (entry + 1) (delivered nodes mail l) (delivered-begins nodes mail full l b (posted-begins nodes scripts full outputs f moves mail b))
      (goes-on nodes full outputs f entry mail l ls e)
      ∙ ap (λ c. with_all c ls) (counts-delivered nodes mail l (lt_from _ _ (passes nodes full outputs f entry mail l ls e)))

  pub all_come : (orders : Orders) (ls : List Link) → Merges scripts orders ls → AllCome full orders
  all_come orders ls m = λ l.
      let none : MailBegins nothing full = λ k. tt in
      let walks : walked nodes 0 nothing ls ≡ Accepted = walked-counted nodes scripts full outputs f moves ls 0 nothing none ∙ m.accepted in
      let whole : length (all_delivered nodes nothing ls l) ≡ length (full l) =
      ap length ((accepted-complete nodes full outputs f ls 0 nothing none walks).came l) in
      let here : length (all_delivered nodes nothing ls l) ≡ with_all none_delivered ls l =
      ap (λ c. c l) (delivered_counts ls 0 nothing none walks) in
      let a : with_all none_delivered ls l ≡ 0 + count_in l ls = with_all_counts none_delivered ls l in
      let b = links_to_counts l ls in
      let c = ap (count_in l) (m.parts (receiver_of l)) in
      omega (arith, whole, here, a, b, c)
