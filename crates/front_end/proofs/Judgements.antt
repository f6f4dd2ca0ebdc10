-- At each way out of the front end: what is answered is the judgement of the text, and it has no other.
use Rattle.std.proofs.Common.{◌≡◌, ◌↔◌, ℕ, ◌≤◌, List, refl, sym, ap, ap₂, subst, Result, Ok, Err}
use Rattle.std.specs.Result.{IsErrAnd}
use Rattle.sc_text.specs.declared.span.Span.{Span}
use Rattle.secrec_lexer.specs.declared.token.Token.{Token}
use Rattle.secrec_lexer.specs.declared.lex_err.LexFault.{LexFault}
use Rattle.secrec_lexer.specs.declared.lex_err.LexErr.{LexErr}
use Rattle.secrec_lexer.specs.declared.lex_err.LexErr.TheVariants as lexing
use Rattle.secrec_lexer.specs.Faults.{placed_fault}
use Rattle.secrec_lexer.specs.Lexis.{HasTokens, IsTokens, IsRefusal}
use Rattle.secrec_lexer.specs.Lexis as lexis
use Rattle.program_trees.specs.declared.program.Program.{Program}
use Rattle.program_trees.specs.Programs.{ProgramTree, program_tree}
use Rattle.program_trees.specs.Heights.{program_height}
use Rattle.expression_parser.specs.declared.problem.ParseProblem as syntax
use Rattle.secrec_parser.specs.declared.parse_err.ParseErr.{ParseErr}
use Rattle.secrec_parser.specs.declared.parse_err.ParseErr.TheVariants as parsing
use Rattle.secrec_parser.specs.Grammar.{IsProgram}
use Rattle.secrec_parser.specs.FirstFault.{height_limit, IsFirstFault}
use Rattle.secrec_parser.specs.Answer.{IsTree, RefusesAtFault}
use Rattle.domain_types.specs.declared.fault.TypeFault.{TypeFault}
use Rattle.domain_types.specs.declared.type_err.TypeErr.{TypeErr}
use Rattle.domain_types.specs.declared.type_err.TypeErr.TheVariants as typing
use Rattle.domain_types.specs.ProgramTypes.{IsAccepted, IsRefused}
use Rattle.domain_types.specs.Typing.{IsTypedProgram}
use Rattle.domain_types.specs.Answer.{IsVerdict}
use Rattle.domain_types.proofs.TypingPrograms.{accepted_is_typed, typed_is_accepted}
use Rattle.front_end.specs.declared.program_fault.ProgramFault.{ProgramFault}
use Rattle.front_end.specs.declared.program_err.ProgramErr.{ProgramErr}
use Rattle.front_end.specs.Judgement.{syntax_fault, Spells, IsProgramText, IsRefusedText, of_tokens, of_grammar, of_types, Judged, IsJudged}
use Rattle.front_end.specs.Answer.{IsAnswer, IsJust}
use Rattle.front_end.specs.Refusals.{lexer_error, parser_error, type_fault, type_err}
use Rattle.front_end.proofs.FirstFaults.{one_first_fault, faultless_where_spelled}
use Rattle.front_end.proofs.TypeFaults.{one_type_fault, faultless_where_accepted}

-- an error that is handed on
pub handed_on : (r : Result Program ProgramErr) (e : ProgramErr) → IsErrAnd r (λ given. given ≡ e) → Err e ≡ r
handed_on (Ok program) e h = absurd h
handed_on (Err given) e h = ap Err (sym h)

-- REFUSED BY THE LEXER

pub unlexed : (bytes : List ℕ) (e : LexErr) → lexis.IsAnswer bytes (Err e) → IsAnswer bytes (Err (lexer_error e))
unlexed bytes lexing.Memory a = tt
unlexed bytes (lexing.Refused fault place) a = of_tokens fault place a

pub unlexed_only :
    (bytes : List ℕ) (e : LexErr) →
    ((tokens : List Token) → HasTokens bytes tokens → IsTokens (Err e) tokens) →
    ((fault : LexFault) (place : Span) → lexis.IsRefused bytes fault place → IsRefusal (Err e) fault place) →
    (judged : Judged) → IsJudged bytes judged → IsJust (Err (lexer_error e)) judged
unlexed_only bytes lexing.Memory none only judged j = tt
unlexed_only bytes (lexing.Refused fault place) none only (Ok tree) j = absurd (none j.spells.tokens j.spells.lexed)
unlexed_only bytes (lexing.Refused fault place) none only (Err told) j = ap Err (go told j)
  where
    go : (f : ProgramFault) → IsRefusedText bytes f → f ≡ record { fault = placed_fault fault; place = place }
    go f (of_tokens other spot r) =
        let o = only other spot r in ap₂ (λ (l : LexFault) (s : Span). record { fault = placed_fault l; place = s }) (sym o.0) (sym o.1)
    go f (of_grammar ts p s has first) = absurd (none ts has)
    go f (of_types tree g spells r) = absurd (none spells.tokens spells.lexed)

-- REFUSED BY THE PARSER

-- the text has these tokens, no others, and is not refused for them
pub record HasJust (bytes : List ℕ) (tokens : List Token) : Type 0 where
  pub has : HasTokens bytes tokens
  pub just : (ts : List Token) → HasTokens bytes ts → tokens ≡ ts
  pub accepted : (fault : LexFault) (place : Span) → lexis.IsRefused bytes fault place → ⊥

-- what the lexer's clauses say where there are tokens
pub has_just :
    (bytes : List ℕ) (tokens : List Token) → HasTokens bytes tokens →
    ((ts : List Token) → HasTokens bytes ts → IsTokens (Ok tokens) ts) →
    ((fault : LexFault) (place : Span) → lexis.IsRefused bytes fault place → IsRefusal (Ok tokens) fault place) →
    HasJust bytes tokens
has_just bytes tokens has just accepted = record { has = has; just = just; accepted = accepted }

pub unparsed : (bytes : List ℕ) (tokens : List Token) (e : ParseErr) → HasTokens bytes tokens → RefusesAtFault height_limit tokens (Err e)
    → IsAnswer bytes (Err (parser_error e))
unparsed bytes tokens parsing.Memory has r = tt
unparsed bytes tokens (parsing.Refused problem place) has r = of_grammar tokens problem place has r

-- a tree that the text spells is spelled by its tokens
spelled_by : (bytes : List ℕ) (tokens : List Token) → HasJust bytes tokens → (tree : ProgramTree) → Spells bytes tree → IsProgram tree tokens
spelled_by bytes tokens h tree s = subst (IsProgram tree) (sym (h.just s.tokens s.lexed)) s.spelled

pub unparsed_only :
    (bytes : List ℕ) (tokens : List Token) (e : ParseErr) → HasJust bytes tokens → RefusesAtFault height_limit tokens (Err e) →
    (judged : Judged) → IsJudged bytes judged → IsJust (Err (parser_error e)) judged
unparsed_only bytes tokens parsing.Memory h r judged j = tt
unparsed_only bytes tokens (parsing.Refused problem place) h r (Ok tree) j =
    absurd (faultless_where_spelled height_limit tokens problem place tree r (spelled_by bytes tokens h tree j.spells) j.spells.low)
unparsed_only bytes tokens (parsing.Refused problem place) h r (Err told) j = ap Err (go told j)
  where
    go : (f : ProgramFault) → IsRefusedText bytes f → f ≡ record { fault = syntax_fault problem; place = place }
    go f (of_tokens fault spot told) = absurd (h.accepted fault spot told)
    go f (of_grammar ts p s has first) =
        let same = one_first_fault height_limit tokens p problem s place (subst (λ w. IsFirstFault height_limit w p s) (sym (h.just ts has)) first) r in
        ap₂ (λ (q : syntax.ParseProblem) (t : Span). record { fault = syntax_fault q; place = t }) same.0 same.1
    go f (of_types tree g spells told) =
        absurd (faultless_where_spelled height_limit tokens problem place tree r (spelled_by bytes tokens h tree spells) spells.low)

-- WITH A TREE

-- the tokens of the text spell this tree, which is low enough, and no other such tree
pub record SpellsJust (bytes : List ℕ) (tree : ProgramTree) : Type 0 where
  pub tokens : List Token
  pub lexed : HasJust bytes tokens
  pub spelled : IsProgram tree tokens
  pub low : program_height tree ≤ height_limit
  pub just : (other : ProgramTree) → IsProgram other tokens → program_height other ≤ height_limit → tree ≡ other

-- what the parser's clauses say where there is a tree
pub spells_just :
    (bytes : List ℕ) (tokens : List Token) (program : Program) → HasJust bytes tokens →
    IsProgram (program_tree program) tokens × (program_height (program_tree program) ≤ height_limit) →
    ((other : ProgramTree) → IsProgram other tokens → program_height other ≤ height_limit → IsTree (Ok program) other) →
    SpellsJust bytes (program_tree program)
spells_just bytes tokens program h found just = record { tokens = tokens; lexed = h; spelled = found.0; low = found.1; just = just }

spells : (bytes : List ℕ) (tree : ProgramTree) → SpellsJust bytes tree → Spells bytes tree
spells bytes tree h = record { tokens = h.tokens; lexed = h.lexed.has; spelled = h.spelled; low = h.low }

same_tree : (bytes : List ℕ) (tree other : ProgramTree) → SpellsJust bytes tree → Spells bytes other → tree ≡ other
same_tree bytes tree other h s = h.just other (spelled_by bytes h.tokens h.lexed other s) s.low

-- where the text spells a tree, it is refused by the type rules or not at all
refused_by_rules : (bytes : List ℕ) (tree : ProgramTree) → SpellsJust bytes tree → (f : ProgramFault) → IsRefusedText bytes f
    → (g : TypeFault) × (f ≡ type_fault g) × IsRefused tree g
refused_by_rules bytes tree h f (of_tokens fault place told) = absurd (h.lexed.accepted fault place told)
refused_by_rules bytes tree h f (of_grammar ts p s has first) =
    absurd (faultless_where_spelled height_limit ts p s tree first (subst (IsProgram tree) (h.lexed.just ts has) h.spelled) h.low)
refused_by_rules bytes tree h f (of_types other g s told) =
    (g, refl, subst (λ t. IsRefused t g) (sym (same_tree bytes tree other h s)) told)

pub untyped : (bytes : List ℕ) (tree : ProgramTree) (e : TypeErr) → SpellsJust bytes tree → IsVerdict (Err e) tree → IsAnswer bytes (Err (type_err e))
untyped bytes tree typing.Memory h r = tt
untyped bytes tree (typing.Refused fault) h r = of_types tree fault (spells bytes tree h) r

pub untyped_only :
    (bytes : List ℕ) (tree : ProgramTree) (e : TypeErr) → SpellsJust bytes tree → IsVerdict (Err e) tree →
    (judged : Judged) → IsJudged bytes judged → IsJust (Err (type_err e)) judged
untyped_only bytes tree typing.Memory h r judged j = tt
untyped_only bytes tree (typing.Refused fault) h r (Ok other) j =
    absurd (faultless_where_accepted tree fault r (subst IsAccepted (sym (same_tree bytes tree other h j.spells)) j.typed))
untyped_only bytes tree (typing.Refused fault) h r (Err told) j =
    let o = refused_by_rules bytes tree h told j in
    rw o.1 (ap (λ (g : TypeFault). Err (type_fault g)) (one_type_fault tree o.0 fault o.2 r))

pub typed_only :
    (bytes : List ℕ) (program : Program) → SpellsJust bytes (program_tree program) → IsTypedProgram (program_tree program) →
    (judged : Judged) → IsJudged bytes judged → IsJust (Ok program) judged
typed_only bytes program h t (Ok other) j = ap Ok (sym (same_tree bytes (program_tree program) other h j.spells))
typed_only bytes program h t (Err told) j =
    let o = refused_by_rules bytes (program_tree program) h told j in
    absurd (faultless_where_accepted (program_tree program) o.0 o.2 (typed_is_accepted (program_tree program) t))

-- THE TYPING RELATION

-- what is answered of a typed program
pub typed_so : (bytes : List ℕ) (program : Program) → SpellsJust bytes (program_tree program) → IsTypedProgram (program_tree program)
    → IsAnswer bytes (Ok program)
typed_so bytes program h t = record { spells = spells bytes (program_tree program) h; typed = typed_is_accepted (program_tree program) t }

-- a text is the program of a tree exactly where it spells the tree and the relation holds of this
pub typed_exactly : (bytes : List ℕ) (tree : ProgramTree) → IsProgramText bytes tree ↔ (Spells bytes tree × IsTypedProgram tree)
typed_exactly bytes tree =
    (λ text. (text.spells, accepted_is_typed tree text.typed), λ both. record { spells = both.0; typed = typed_is_accepted tree both.1 })
