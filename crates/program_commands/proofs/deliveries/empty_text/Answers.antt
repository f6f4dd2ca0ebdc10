use Rattle.std.proofs.Common.{◌≡◌, List, ◌++◌, IfOk, ℕ, refl, string_bytes, subst}
use Rattle.std.proofs.lemmas.List.{append_assoc}
use Rattle.std.specs.Prelude.{codes}
use Rattle.std.specs.Fmt.{decimal}
use Rattle.proto_core.specs.Parties.{link_text}
use Rattle.program_commands.specs.Schedules.{empty_line}
use Rattle.program_commands.proofs.deliveries.empty_text.Goals as goal

seven_parts : (a b c d e f g : List ℕ) → a ++ (b ++ (c ++ (d ++ (e ++ (f ++ g))))) ≡ a ++ b ++ c ++ d ++ e ++ f ++ g
seven_parts a b c d e f g = simp append_assoc refl

pub returns : goal.returns
unfolding empty_line
returns c =
    subst (λ (line : List ℕ). IfOk c.format.result (λ text. string_bytes text ≡ line))
    (seven_parts (codes "error: S2 entry ") (decimal c.args.entry) (codes " link ") (link_text c.args.link) (codes " sent ") (decimal c.args.sent)
    (codes "\n"))
    c.format.ensures.ok
