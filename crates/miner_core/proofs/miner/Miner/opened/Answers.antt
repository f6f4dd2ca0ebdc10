use Rattle.std.proofs.Common.{◌≡◌, ◌∙◌, map, ap, subst}
use Rattle.std.specs.List.{flat_map}
use Rattle.miner_core.specs.Miners.{ForEachStory}
use Rattle.miner_core.specs.Story.{has_shown, shown_by}
use Rattle.miner_core.specs.Views.{notice_seen}
use Rattle.miner_core.proofs.Miners.{each_story, seen_in}
use Rattle.miner_core.proofs.Streaming.{told_at}
use Rattle.miner_core.proofs.miner.Miner.opened.Goals as goal

pub returns : goal.returns
returns g c =
    let i = g.P.Party.me in
    let m = seen_in c.self.inside in
    let words = c.in_ok-words.words.items in
    subst (λ v. ForEachStory i v (λ s. words ≡ has_shown i s)) c.self.view_is
    (each_story i m c.self.invariant (λ s. words ≡ has_shown i s)
    (λ w is going tape of.
    let h = is.works going in
    c.in_ok-words.ensures
    ∙ ap (λ ns. flat_map shown_by (map notice_seen ns)) c.deref.ensures.value
    ∙ ap (flat_map shown_by) (told_at i h.past m.engine m.rest w.stream (λ same. h.rests) going tape of)))
