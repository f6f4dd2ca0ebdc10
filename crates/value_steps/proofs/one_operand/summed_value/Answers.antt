use Rattle.std.proofs.Common.{◌≡◌, ℕ, ◌%◌, ◌^◌, false, List, [], ◌∷◌, Ok, sum, sym, ap, ◌∙◌}
use Rattle.program_trees.specs.declared.kinds.Shape.{Shape}
use Rattle.program_trees.specs.Shapes.{shape_of}
use Rattle.language_model.specs.Effects.{Stage}
use Rattle.language_model.specs.Values.{Secrecy, Plain, Value, plain}
use Rattle.language_model.specs.Operations.{summed_from}
use Rattle.value_steps.specs.Views.{secrecy_seen, stage_seen, value_seen}
use Rattle.value_steps.proofs.one_operand.summed_value.Goals as goal

told : (q : Secrecy) (v w : Value) (words : List ℕ) (shape : Shape) (s : Stage) → q ≡ Plain → words ≡ (sum v.words % 2 ^ 64) ∷ []
    → shape ≡ shape_of v.shape.element false → w ≡ plain shape words → summed_from q v s ≡ Ok (w, s)
told q v w words shape s p e f g =
    ap (λ r. summed_from r v s) p ∙ ap (λ ws. Ok (plain (shape_of v.shape.element false) ws, s)) (sym e) ∙ ap (λ z. Ok (plain z words, s)) (sym f)
    ∙ ap (λ u. Ok (u, s)) (sym g)

pub returns-in-Plain-clause-step : goal.returns-in-Plain-clause-step
returns-in-Plain-clause-step c =
    let v = c.args.value.now in
    let total : c.wrapping_sum-total.result ≡ sum v.words.items % 2 ^ 64 = c.wrapping_sum-total.ensures ∙ ap (λ xs. sum xs % 2 ^ 64) c.deref.ensures.value in
    told (secrecy_seen v.secrecy) (value_seen v) (value_seen c.plain.result) c.in_ok-words.words.items c.scalar-shape.result
    (stage_seen c.args.stage.now) (ap secrecy_seen c.in-Plain.is) (c.in_ok-words.ensures ∙ ap (λ n. n ∷ []) total) c.scalar-shape.ensures c.plain.ensures
