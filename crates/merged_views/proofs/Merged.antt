-- The messages of three views and a schedule that merges their orders.
use Rattle.std.proofs.Common.{◌≡◌, List, [], map, refl, sym, ◌∙◌, ap, subst, arith}
use Rattle.proto_core.specs.declared.party.Number.{Number}
use Rattle.proto_core.specs.declared.link.Link.{Link}
use Rattle.proto_core.specs.Parties.{receiver_of}
use Rattle.protocol_model.specs.Arrivals.{arrivals}
use Rattle.merged_orders.specs.Merging.{count_in, links_to, AllCome, Merges, Orders, Stuck}
use Rattle.merged_orders.proofs.Complete.{all_come}
use Rattle.merged_orders.proofs.Merged.{by_own_entries, is_merged, leaves_none}
use Rattle.merged_orders.proofs.Numbers.{links_to_counts}
use Rattle.merged_views.specs.Brought.{AreBrought, AreNext, Got, IsRunOf, Run, links_of, orders_of, received}
use Rattle.merged_views.proofs.Arrived.{Enough, all_into, own_links}
use Rattle.merged_views.proofs.Next.{all_next, none_wrong}
use Rattle.merged_views.proofs.Whole.{AllInto, IsWhole}

module _ (run : Run) (got : Got) (is : IsRunOf run) where
  pub are_whole : AreNext run.full got → (i : Number) → IsWhole i run.full (got i)
  are_whole next i = all_next i (got i) run.full (next i)

  whole_come : ((i : Number) → IsWhole i run.full (got i)) → AllCome run.full (orders_of got)
  whole_come whole l = (whole (receiver_of l)).all l refl

  -- ---- forth

  module _ (whole : (i : Number) → IsWhole i run.full (got i)) (ls : List Link) (left : Orders) (stuck : Stuck run.scripts (orders_of got) ls left)
      (none : (i : Number) → left i ≡ []) where
    merges : Merges run.scripts (orders_of got) ls
    merges = is_merged run.nodes run.scripts run.full run.outputs is.finishes is.moves (orders_of got) left ls (whole_come whole) stuck none

    pub are_brought : AreBrought run got ls
    are_brought =
        record {
          accepted = merges.accepted;
          brings = λ i.
              ap (map received) (by_own_entries i run.full ls ∙ ap (arrivals i run.full) (merges.parts i)) ∙ (whole i).come;
        }

  -- ---- and back

  module _ (ls : List Link) (brought : AreBrought run got ls) where
    entries_come : AllCome run.full (λ i. links_to i ls)
    entries_come =
        all_come run.nodes run.scripts run.full run.outputs is.finishes is.moves (λ i. links_to i ls) ls
        (record { accepted = brought.accepted; parts = λ i. refl })

    enough : Enough ls run.full
    enough l =
        let a = entries_come l in
        let b = links_to_counts l ls in
        omega (arith, a, b)

    entries : (i : Number) → links_to i ls ≡ links_of (got i)
    entries i = sym (own_links i ls run.full enough) ∙ ap links_of (brought.brings i)

    pub brought_whole : (i : Number) → IsWhole i run.full (got i)
    brought_whole i =
        record {
          come =
              ap (map received) (ap (arrivals i run.full) (sym (entries i)) ∙ sym (by_own_entries i run.full ls)) ∙ brought.brings i;
          own = subst (AllInto i) (entries i) (all_into i ls);
          all = λ l to.
              ap (count_in l) (sym (entries i)) ∙ ap (λ k. count_in l (links_to k ls)) (sym to) ∙ entries_come l;
        }

    pub are_next : AreNext run.full got
    are_next i = none_wrong i (got i) run.full (brought_whole i)

    pub brought_merges : Merges run.scripts (orders_of got) ls
    brought_merges = record { accepted = brought.accepted; parts = entries }

    pub none_is_left : (other : List Link) (left : Orders) → Stuck run.scripts (orders_of got) other left → (i : Number) → left i ≡ []
    none_is_left other left stuck i = leaves_none run.scripts (orders_of got) left other ls i stuck brought_merges
