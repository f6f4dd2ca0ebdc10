-- The paths that `run` writes are those that its words name.
use Rattle.std.proofs.Common.{◌≡◌, ℕ, List, [], ◌++◌, Option, Some, None, refl, ap, subst, ◌∙◌, Contains}
use Rattle.std.proofs.lemmas.List.{map-append}
use Rattle.command_frame.specs.Answer.{Written, effect_of, paths_in, writes_of}
use Rattle.command_frame.specs.Reads.{PlanNames}
use Rattle.command_frame.specs.declared.plan.Plan.{Plan}
use Rattle.command_words.specs.Ask.{RunAsk}
use Rattle.viewed_run.specs.DeliveredRun.{DeliveredRun}
use Rattle.proto_core.specs.declared.link.Link.{Link}
use Rattle.viewed_run.specs.Seen.{view_in}
use Rattle.viewed_run.specs.declared.seen.Views.{Views}
use Rattle.miner_commands.specs.Run.{path_in, ran_effect, ran_paths, recorded_links}
use Rattle.miner_commands.specs.Views.{view_files, view_paths}

path_of_links : (path : Option (List ℕ)) (links : List Link) → paths_in (recorded_links path links) ≡ path_in path
path_of_links None links = refl
path_of_links (Some path) links = refl

paths_written : (ask : RunAsk) (files : List Written) (run : DeliveredRun) → paths_in files ≡ view_paths ask.views
    → paths_in (ran_effect ask files run).writes ≡ ran_paths ask
unfolding ran_paths
paths_written ask files run views =
    let links = recorded_links ask.recorded run.delivered.items in
    map-append (λ (w : Written). w.path) files links
    ∙ ap (λ paths. paths ++ paths_in links) views
    ∙ ap (λ paths. view_paths ask.views ++ paths) (path_of_links ask.recorded run.delivered.items)

names_written : (ask : RunAsk) (files : List Written) (run : DeliveredRun) (plan : Plan) → paths_in files ≡ view_paths ask.views
    → effect_of plan ≡ ran_effect ask files run → PlanNames (ran_paths ask) plan
names_written ask files run plan views is =
    let paths : paths_in (writes_of plan.writes.items) ≡ ran_paths ask =
    ap (λ effect. paths_in effect.writes) is ∙ paths_written ask files run views in
    record { written = λ path among. subst (λ (ps : List (List ℕ)). Contains ps path) paths among }

pub names_unseen : (ask : RunAsk) (run : DeliveredRun) (plan : Plan) → ask.views ≡ None → effect_of plan ≡ ran_effect ask [] run
    → PlanNames (ran_paths ask) plan
names_unseen ask run plan none is =
    let paths : paths_in [] ≡ view_paths ask.views = rw none refl in
    names_written ask [] run plan paths is

pub names_seen : (ask : RunAsk) (prefix : List ℕ) (views : Views) (files : List Written) (run : DeliveredRun) (plan : Plan) → ask.views ≡ Some prefix
    → files ≡ view_files (Some prefix) (λ i. Some (view_in views i)) → effect_of plan ≡ ran_effect ask files run → PlanNames (ran_paths ask) plan
names_seen ask prefix views files run plan some same is =
    let paths : paths_in files ≡ view_paths ask.views = rw some (ap paths_in same) in
    names_written ask files run plan paths is
