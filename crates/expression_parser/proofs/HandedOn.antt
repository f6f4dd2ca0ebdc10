-- What was read and handed on is what the step gave.
use Rattle.std.proofs.Common.{Bor, Box, Global, ◌≡◌, List, subst, Result, Ok, Err}
use Rattle.std.specs.Prelude.{IfOk}
use Rattle.secrec_lexer.specs.declared.token.Token.{Token}
use Rattle.expression_parser.specs.declared.stopped.Stopped.{Stopped}
use Rattle.expression_parser.specs.declared.stopped.Stopped.TheVariants.{Memory, At}
use Rattle.expression_parser.specs.Steps.{Outcome}
use Rattle.expression_parser.specs.Given.{Gives, Boxed}

-- what is known of it where it was read
pub holds : {X : Type 0} (r : Result X Stopped) (x : X) → r ≡ Ok x → (P : X → Type 0) → IfOk r P → P x
holds r x e P h = subst (λ z. IfOk z P) e h

pub read : {B Y : Type 0} (view : B → Y) (r : Result (B × Bor (List Token)) Stopped) (o : Outcome Y) (x : B × Bor (List Token)) → r ≡ Ok x
    → Gives (λ x. (view x.0, x.1.now)) r o → o ≡ Ok (view x.0, x.1.now)
read view r o x e g = subst (λ z. Gives (λ x. (view x.0, x.1.now)) z o) e g

pub boxed_gives : {B Y : Type 0} (view : B → Y) (second : Result (B × Bor (List Token)) Stopped) (o : Outcome Y)
    → Gives (λ x. (view x.0, x.1.now)) second o → (r : Result (Box B Global × Bor (List Token)) Stopped) → Boxed second r
    → Gives (λ x. (view x.0.value, x.1.now)) r o
boxed_gives view second o g (Ok x) e = subst (λ z. Gives (λ x. (view x.0, x.1.now)) z o) e g
boxed_gives view second o g (Err Memory) e = tt
boxed_gives view second o g (Err (At p r)) e = subst (λ z. Gives (λ x. (view x.0, x.1.now)) z o) e g
