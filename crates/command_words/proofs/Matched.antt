use Rattle.std.proofs.Common.{◌≡◌, ◌⊎◌, ◌∙◌, sym, ap, List, [], ◌∷◌, Option, Some, None, Err, refl, inl, inr}
use Rattle.clap.specs.Words.{App, IsAmong, Kinds, Row, Text, fault_of, subcommand_of}
use Rattle.clap.specs.declared.error.ErrorKind.{ErrorKind}
use Rattle.clap.specs.declared.error.ErrorKind.TheVariants.{OutOfMemory}
use Rattle.command_words.specs.declared.command.WordsErr.{WordsErr}
use Rattle.command_words.specs.declared.command.WordsErr.TheVariants.{Usage, Memory}
use Rattle.command_words.specs.Ask.{matched, unless}
use Rattle.command_words.specs.Shapes.{secrec_app}
use Rattle.command_words.specs.Views.{Reads, WhyOf}

-- `clap` has matches
pub matched_ok : (ws : List Text) (a : App) (met : Option (Text × List Row)) → a ≡ secrec_app → fault_of a ws ≡ [] → met ≡ subcommand_of a ws
    → matched ws ≡ Some met
unfolding matched
matched_ok ws a met is none at =
    let empty : fault_of secrec_app ws ≡ [] = ap (λ b. fault_of b ws) (sym is) ∙ none in
    rw empty (ap Some (ap (λ b. subcommand_of b ws) (sym is) ∙ sym at))

refused : {X : Type 0} (k : ErrorKind) (kinds : Kinds) (x : X) → IsAmong k kinds → unless kinds x ≡ None
refused k [] x among = absurd among
refused k (y ∷ ys) x among = refl

-- `clap` has none, or memory ran out
pub matched_err : {X : Type 0} (view : X → Option (Text × List Row)) (ws : List Text) (a : App) (k : ErrorKind) (why : WordsErr) → a ≡ secrec_app
    → (k ≡ OutOfMemory) ⊎ IsAmong k (fault_of a ws) → WhyOf k why → Reads view (matched ws) (Err why)
unfolding matched
matched_err view ws a k Memory is kinds why = tt
matched_err view ws a k Usage is (inl memory) why = absurd (why memory)
matched_err view ws a k Usage is (inr among) why =
    refused k (fault_of secrec_app ws) _ (rw is at among)
