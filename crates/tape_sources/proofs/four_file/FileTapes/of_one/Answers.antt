use Rattle.std.proofs.Common.{[], ◌∷◌, set, arith}
use Rattle.std.proofs.lemmas.List.{get_or-set_same}
use Rattle.tape_sources.proofs.Drawing.{none_of_four, opens_one}
use Rattle.tape_sources.proofs.four_file.FileTapes.of_one.Goals as goal

pub returns-clause-opened : goal.returns-clause-opened
returns-clause-opened g c =
    let zeros = 0 ∷ 0 ∷ 0 ∷ 0 ∷ [] in
    opens_one c.args.party c.args.words c.args.size (g.F.Files.state c.args.files.now) c.args.files.ghost_name c.args.path.now
    (set zeros c.args.party 8) (set zeros c.args.party c.args.words)
    (get_or-set_same zeros c.args.party 8 0 (omega (arith, c.requires.party)))
    (get_or-set_same zeros c.args.party c.args.words 0 (omega (arith, c.requires.party)))
    (λ p ne. none_of_four c.args.party c.args.words p ne)
