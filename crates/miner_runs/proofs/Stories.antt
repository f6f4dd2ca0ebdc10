-- A miner at work does the part of the node of its number.
use Rattle.std.proofs.Common.{◌≡◌, ℕ, List, [], refl, sym, ◌∙◌, ap, subst}
use Rattle.proto_core.specs.declared.party.Number.{Number}
use Rattle.proto_core.specs.declared.party.Number.TheVariants.{One, Two, Three}
use Rattle.proto_core.specs.declared.link.Link.{Link}
use Rattle.proto_core.specs.declared.link.Link.TheVariants.{Link12, Link13, Link21, Link23, Link31, Link32}
use Rattle.proto_core.specs.Parties.{from_previous, from_next}
use Rattle.proto_core.specs.Strand.{Mail, Strand, Ran, run, opened_in, told_in}
use Rattle.proto_core.specs.Net.{nothing, into, mail_of, run_of, all_delivered}
use Rattle.protocol_model.specs.Complete.{IsComplete}
use Rattle.protocol_model.specs.Runs.{Tapes}
use Rattle.gates.specs.Clear.{Values}
use Rattle.language_model.specs.Effects.{World}
use Rattle.language_model.specs.Reports.{Report, Offered}
use Rattle.verified_code.specs.Steps.{Function}
use Rattle.miner_core.specs.Meaning.{fuel, mean}
use Rattle.code_places.specs.Dealt.{Dealt}
use Rattle.code_places.specs.Places.{first_place}
use Rattle.code_runs.specs.Runs.{messages}
use Rattle.code_runs.proofs.Notices.{retold}
use Rattle.miner_core.specs.declared.answer.End.TheVariants as end
use Rattle.miner_core.specs.OwnCode.{Ended, own_code}
use Rattle.miner_core.specs.Story.{Story, node, HasEnded}
use Rattle.miner_runs.specs.OwnRuns.{public_world, own_nodes, own_end, OwnRunAsReported}
use Rattle.miner_runs.specs.Stories.{DoesItsPart, HaveDoneWhereAccepted}
use Rattle.miner_runs.proofs.OwnRuns.{own_miners_run_the_code}

-- a miner has two links that lead to it
into_own : (i : Number) (mail : Mail) (l : Link) → mail_of i (mail (from_previous i)) (mail (from_next i)) l ≡ into i mail l
into_own One mail Link12 = refl
into_own One mail Link13 = refl
into_own One mail Link21 = refl
into_own One mail Link23 = refl
into_own One mail Link31 = refl
into_own One mail Link32 = refl
into_own Two mail Link12 = refl
into_own Two mail Link13 = refl
into_own Two mail Link21 = refl
into_own Two mail Link23 = refl
into_own Two mail Link31 = refl
into_own Two mail Link32 = refl
into_own Three mail Link12 = refl
into_own Three mail Link13 = refl
into_own Three mail Link21 = refl
into_own Three mail Link23 = refl
into_own Three mail Link31 = refl
into_own Three mail Link32 = refl

abbrev did :
    Number → World → List Function → (dealt : Values) → (budget : ℕ) → (tape : List ℕ) → (previous next : List (List ℕ)) → Ran Ended
did i w c dealt budget tape previous next =
    run (own_code w c i dealt (fuel c budget) (first_place c budget) [] tape) (mail_of i previous next)

module _ (o : Offered) (d : Dealt) (c : List Function) (budget : ℕ) (tapes : Tapes) where
  abbrev own : Number → Strand Ended
  own = own_nodes o d c budget tapes

  pub does_its_part : (i : Number) (mail : Mail) (s : Story) → DoesItsPart o d c budget tapes i mail s
  does_its_part i mail s h =
      ap (λ x. did i x s.code s.dealt s.budget s.tape s.from_previous s.from_next) h.world
      ∙ ap (λ x. did i (public_world o) x s.dealt s.budget s.tape s.from_previous s.from_next) h.code
      ∙ ap (λ x. did i (public_world o) c x s.budget s.tape s.from_previous s.from_next) h.dealt
      ∙ ap (λ x. did i (public_world o) c (d.shares i) x s.tape s.from_previous s.from_next) h.steps
      ∙ ap (λ x. did i (public_world o) c (d.shares i) budget x s.from_previous s.from_next) h.tape
      ∙ ap (λ x. did i (public_world o) c (d.shares i) budget (tapes i) x s.from_next) h.previous
      ∙ ap (λ x. did i (public_world o) c (d.shares i) budget (tapes i) (mail (from_previous i)) x) h.next
      ∙ ap (run (own i)) (λ e. λ l. into_own i mail l e)

  pub have_done : (order : List Link) (stories : Number → Story) → HaveDoneWhereAccepted o d c budget tapes order stories
  have_done order stories may accepts are =
      record {
        ending = ran.turns.stops.ending;
        stop = ran.turns.stops.stop;
        ended = λ i.
            subst (λ x. HasEnded x.left (end.Over ran.turns.stops.ending)) (sym (whole i))
            (subst (λ s. HasEnded s (end.Over ran.turns.stops.ending)) (sym (ran.finishes.ended i)) ran.turns.stops.ended);
        opened = λ i. ap (λ x. opened_in x.acts) (whole i) ∙ ran.opened i;
        told = retold (λ i. ap (λ x. told_in x.acts) (sym (whole i))) ran.told;
      }
    where
      r : Report
      r = mean c o budget

      ran : OwnRunAsReported o d c budget tapes r
      ran = own_miners_run_the_code o d c budget tapes may

      through : IsComplete own (messages d r tapes) (own_end d tapes r ran.turns.last) (all_delivered own nothing order)
      through = ran.complete order accepts

      whole : (i : Number) → node i (stories i) ≡ run_of own (messages d r tapes) i
      whole i =
          does_its_part i (all_delivered own nothing order) (stories i) (are i)
          ∙ ap (λ (mail : Mail). run_of own mail i) (λ e. λ l. through.came l e)
