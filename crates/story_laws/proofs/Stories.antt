-- The words that a miner draws, by its story.
use Rattle.std.proofs.Common.{◌≡◌, ◌≤◌, ◌+◌, ◌∙◌, ℕ, List, [], refl, sym, ap, subst, arith}
use Rattle.proto_core.specs.declared.party.Number.{Number}
use Rattle.proto_core.specs.declared.party.Number.TheVariants.{One, Two, Three}
use Rattle.proto_core.specs.declared.link.Link.{Link}
use Rattle.proto_core.specs.Net.{into, nothing, run_of}
use Rattle.protocol_model.specs.Runs.{Tapes}
use Rattle.protocol_model.specs.Gates.{sizes_of}
use Rattle.gates.specs.Counts.{words_of_all}
use Rattle.shared_gates.specs.Model.{miner_of, sizes_after}
use Rattle.shared_gates.proofs.Drawn.{drawn-counted}
use Rattle.driven_nodes.specs.Steps.{Stopped}
use Rattle.language_model.specs.Effects.{Words}
use Rattle.language_model.specs.Tapes.{AtMost}
use Rattle.gate_node.proofs.Always.{EndsAlways}
use Rattle.code_runs.specs.Dealt.{drawn_by}
use Rattle.miner_core.specs.Meaning.{fuel}
use Rattle.miner_core.specs.OwnCode.{Ended, Reached, Unfit}
use Rattle.miner_core.specs.Places.{first_place}
use Rattle.miner_core.specs.Story.{Story, AtStop, mail_in, node, strand_in}
use Rattle.story_laws.specs.Alike.{RunAlike}
use Rattle.story_laws.specs.DrawnLaws.{DrawsOfItsTape, ReadsWhatItDraws, ReadWhatTheyDraw, came_on, drawn_so_far, drawn_with, nodes_on}
use Rattle.story_laws.specs.DrawnLaws.{on_tape}
use Rattle.story_laws.proofs.Alike.{alike_stands}
use Rattle.story_laws.proofs.Counts.{EndFits, beginning_fits, code_fits}
use Rattle.story_laws.proofs.Ended.{always_run}
use Rattle.story_laws.proofs.Needs.{DrewUpTo, code_comes}
use Rattle.story_laws.proofs.Nets.{come_same, read_same}
use Rattle.story_laws.proofs.Nodes.{code_reads}
use Rattle.story_laws.proofs.Reading.{Counting, ReadsOnly, ReadsSame, Taping}

-- ---- one miner

module _ (i : Number) (s : Story) where
  reads : ReadsOnly Unfit (λ tape. strand_in i (on_tape s tape)) (λ tape mail. drawn_with i (on_tape s tape) mail)
  reads = code_reads s.world s.code i s.dealt (fuel s.code s.budget) (first_place s.code s.budget) []

  fits : EndsAlways (EndFits s.world s.code) (node i s).left
  fits =
      always_run (EndFits s.world s.code) (strand_in i s) (mail_in i s)
      (code_fits s.world s.code i s.dealt (fuel s.code s.budget) (first_place s.code s.budget) [] s.tape (beginning_fits s.world s.budget []))

  exact : AtStop i s (λ p. drawn_so_far i s ≡ words_of_all (sizes_after (sizes_of s.dealt) [] p.stage.gates) (miner_of i) p.stage.gates)
  exact p values e =
      let h : DrewUpTo s.world s.code i s.dealt p.stage.gates (0 + drawn_so_far i s) =
      (code_comes s.world s.code i s.dealt (fuel s.code s.budget) (first_place s.code s.budget) [] 0 refl (record { suit = tt; count = refl })).from s.tape
      (mail_in i s) (Reached (Stopped p) values) e in
      let n : drawn_so_far i s ≡ 0 + drawn_so_far i s = omega arith in
      n ∙ h.count ∙ drawn-counted (λ k. s.dealt) (sizes_of s.dealt) [] p.stage.gates i h.suit

  counted : AtStop i s (λ p. AtMost p.stage.drawn s.world.lengths)
  counted p values e = subst (EndsAlways (EndFits s.world s.code)) e fits

  of_each : (a b : Words) → AtMost a b → (k : Number) → drawn_by a (miner_of k) ≤ drawn_by b (miner_of k)
  of_each a b h One = h.0
  of_each a b h Two = h.1
  of_each a b h Three = h.2

  pub draws_of_its_tape : DrawsOfItsTape i s
  draws_of_its_tape =
      record {
        within = reads.within s.tape (mail_in i s);
        grows = λ more. reads.grows s.tape (mail_in i s) more;
        least = λ k less. reads.least s.tape (mail_in i s) k less;
        exact = exact;
        counted = counted;
        own = λ long p values e.
            subst (λ n. drawn_by p.stage.drawn (miner_of i) ≤ n) long (of_each p.stage.drawn s.world.lengths (counted p values e) i);
      }

  pub reads_what_it_draws : (tape : List ℕ) → ReadsWhatItDraws i s tape
  reads_what_it_draws tape h =
      let r = reads.same s.tape tape (mail_in i s) h.long h.front in
      record { alike = r.0; stands = alike_stands (node i (on_tape s tape)) (node i s) r.0; drawn = r.1 }

-- ---- three

module _ (stories : Number → Story) (links : List Link) (tapes others : Tapes) where
  abbrev taping : Number → Taping Ended
  taping i tape = strand_in i (on_tape (stories i) tape)

  abbrev counting : Number → Counting
  counting i tape mail = drawn_with i (on_tape (stories i) tape) mail

  pub read_what_they_draw : ReadWhatTheyDraw stories links tapes others
  read_what_they_draw h =
      record {
        came = came;
        alike = λ i. subst (λ m. RunAlike (run_of (nodes_on stories links others) m i) (run_of (nodes_on stories links tapes) (came_on stories links tapes) i))
            (sym came) (both i).0;
        drawn = λ i. ap (λ m. drawn_with i (on_tape (stories i) (others i)) (into i m)) came ∙ (both i).1;
      }
    where
      came : came_on stories links others ≡ came_on stories links tapes
      came = come_same Unfit taping counting (λ i. reads i (stories i)) tapes others links nothing (λ i. ((h i).long, (h i).front))

      both : (i : Number) → ReadsSame (taping i) (counting i) (tapes i) (others i) (into i (came_on stories links tapes))
      both = read_same Unfit taping counting (λ i. reads i (stories i)) tapes others links nothing (λ i. ((h i).long, (h i).front))
