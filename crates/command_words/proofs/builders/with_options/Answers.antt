use Rattle.std.proofs.Common.{rules, refl, ap, Bor, List, ℕ, ap₂, ◌∙◌, ◌||◌}
use Rattle.std.proofs.lemmas.List.{get_or_default}
use Rattle.clap.specs.Words.{with_rule}
use Rattle.command_words.proofs.Options.{options_more}
use Rattle.command_words.proofs.builders.with_options.Goals as goal

pub loop-id-preserved : goal.loop-id-preserved
loop-id-preserved c = λ a given. record {
  shape = c.in_ok-built-2.ensures.shape c.option.ensures.local
      ∙ ap₂ with_rule (c.loop-id.invariant a given).shape c.option.ensures.rule
      ∙ options_more c.args.required a c.args.ids.now c.loop-id.id-index _ _ (search rules) refl
      (λ d. ap (λ (s : Bor (List ℕ)). s.now) (get_or_default c.args.ids.now c.loop-id.id-index _ d (search rules)));
  local = c.in_ok-built-2.ensures.globals ∙ ap₂ (λ a b. a || b) (c.loop-id.invariant a given).local c.option.ensures.local;
}
