-- A journal that goes on: what was sent is sent again.
use Rattle.std.proofs.Common.{◌≡◌, List, [], ◌∷◌, ◌++◌, refl, sym, subst}
use Rattle.proto_core.specs.Net.{MailBegins, added, nothing}
use Rattle.proto_core.specs.Strand.{Mail, Strand}
use Rattle.proto_core.proofs.Beginnings.{begins-append, begins-self, begins-trans}
use Rattle.proto_core.proofs.Strands.{begins-on_link, run-more}
use Rattle.served_bytes.specs.Reading.{only}
use Rattle.kept_frames.specs.Kept.{Kept, SendsTheSame, with_kept}

kept_append : (mail : Mail) (ks more : List Kept) → with_kept mail (ks ++ more) ≡ with_kept (with_kept mail ks) more
kept_append mail [] more = refl
kept_append mail (k ∷ ks) more = kept_append (added mail (only k.link k.words)) ks more

kept_begins : (mail : Mail) (ks : List Kept) → MailBegins mail (with_kept mail ks)
kept_begins mail [] = λ l. begins-self (mail l)
kept_begins mail (k ∷ ks) =
    λ l. begins-trans _ _ _ (begins-append (mail l) (only k.link k.words l)) (kept_begins (added mail (only k.link k.words)) ks l)

pub sends_the_same : {A : Type 0} (s : Strand A) (ks more : List Kept) → SendsTheSame s ks more
sends_the_same s ks more =
    let goes_on : MailBegins (with_kept nothing ks) (with_kept nothing (ks ++ more)) =
    subst (MailBegins (with_kept nothing ks)) (sym (kept_append nothing ks more)) (kept_begins (with_kept nothing ks) more) in
    λ l. begins-on_link l _ _ (run-more s (with_kept nothing ks) (with_kept nothing (ks ++ more)) goes_on)
