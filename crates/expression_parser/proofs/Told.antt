-- What a step gives is what reading an expression answers.
use Rattle.std.proofs.Common.{ℕ, List, [], ◌∷◌, ◌++◌, sym, ap, ◌∙◌, subst, append_assoc, Result, Ok, Err}
use Rattle.secrec_lexer.specs.Tokens.{IsEnded}
use Rattle.secrec_lexer.specs.declared.token.Token.{Token}
use Rattle.program_trees.specs.Tree.{Tree}
use Rattle.expression_parser.specs.declared.problem.ParseProblem.{ParseProblem}
use Rattle.expression_parser.specs.declared.problem.ParseProblem.TheVariants.{Unexpected, TooHigh}
use Rattle.expression_parser.specs.declared.stopped.Stopped.{Stopped}
use Rattle.expression_parser.specs.declared.stopped.Stopped.TheVariants.{Memory, At}
use Rattle.expression_parser.specs.Grammar.{IsExpression, loosest}
use Rattle.expression_parser.specs.Follow.{Free}
use Rattle.expression_parser.specs.Steps.{at_most}
use Rattle.expression_parser.specs.Given.{Gives}
use Rattle.expression_parser.specs.Answer.{Ends, IsRead, RulesOut, IsCause, IsStopped, Answers}
use Rattle.expression_parser.proofs.Reading.{Good, Bad, Reads, Allowed, Begun, Stops}
use Rattle.expression_parser.proofs.Nodes.{Low}
use Rattle.expression_parser.proofs.Levels.{expression_reads}

ends : (e : Tree) (m : List Token) → Ends m → Stops (Free loosest e) m
ends e [] h = h
ends e (x ∷ m) h = h

is_read : (max_height : ℕ) (ts : List Token) (e : Tree) (rest : List Token) → Good (IsExpression loosest) (Low max_height) (Free loosest) ts e rest
    → IsRead max_height ts e rest
is_read max_height ts e rest g = record {
  front = g.s;
  split = g.split;
  spelled = g.here;
  low = g.fits;
  only = λ other s m v en eq. (g.only other s m g.m v (ends other m en) (eq ∙ g.split ∙ ap (λ l. g.s ++ l) g.rest)).0;
}

allowed : (p : ParseProblem) (max_height : ℕ) (e : Tree) → RulesOut p max_height e → Allowed p (Low max_height e)
allowed Unexpected max_height e h = tt
allowed TooHigh max_height e h = h

caused : (p : ParseProblem) (s : List Token) (x : Token) → Begun p ((e : Tree) × (t : List Token) × IsExpression loosest e (s ++ x ∷ t))
    → IsCause p (s ++ x ∷ [])
caused Unexpected s x b = tt
caused TooHigh s x b = (b.0, b.1, subst (IsExpression loosest b.0) (sym (append_assoc s (x ∷ []) b.1)) b.2)

is_stopped : (max_height : ℕ) (ts : List Token) (p : ParseProblem) (rest : List Token)
    → Bad (IsExpression loosest) (Low max_height) (Free loosest) ts p rest → IsStopped max_height ts p rest
is_stopped max_height ts p rest g = record {
  front = g.s;
  next = g.x;
  behind = g.m;
  split = g.split ∙ ap (λ l. g.s ++ l) (sym g.rest);
  from = g.rest;
  before = g.before;
  here = λ e s m more v low en eq. g.never e s m more v (allowed p max_height e low) (ends e m en) eq;
  cause = caused p g.s g.x g.begun;
}

-- however the text ends, the step's answer is told in the grammar's words
pub told : {X : Type 0} (view : X → Tree × List Token) (max_height : ℕ) (ts : List Token) (result : Result X Stopped)
    → Gives view result (at_most max_height 9 ts) → IsEnded ts → Answers view max_height ts result
told view max_height ts (Ok x) g en =
    is_read max_height ts (view x).0 (view x).1 (subst (Reads (IsExpression loosest) (Low max_height) (Free loosest) ts) g (expression_reads max_height ts en))
told view max_height ts (Err Memory) g en = tt
told view max_height ts (Err (At p rest)) g en =
    is_stopped max_height ts p rest.now (subst (Reads (IsExpression loosest) (Low max_height) (Free loosest) ts) g (expression_reads max_height ts en))
