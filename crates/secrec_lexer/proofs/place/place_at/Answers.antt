use Rattle.std.proofs.Common.{◌∙◌, [], sym, ap, take}
use Rattle.std.specs.List.{fold}
use Rattle.secrec_lexer.specs.Places.{place_at, next_place}
use Rattle.secrec_lexer.proofs.Places.{place_behind-append}
use Rattle.secrec_lexer.proofs.place.place_at.Goals as goal

pub returns : goal.returns
unfolding place_at
returns c =
    c.moved.ensures ∙ ap (λ place. fold next_place place (take c.args.offset c.args.text.now)) c.start.ensures
    ∙ sym (place_behind-append [] (take c.args.offset c.args.text.now))
