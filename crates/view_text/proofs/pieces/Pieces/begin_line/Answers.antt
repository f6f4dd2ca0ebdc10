use Rattle.std.proofs.Common.{ℕ, List, ◌∷◌, ◌++◌, Option, map, option_map, ap, ◌∙◌, string_bytes, Bor}
use Rattle.view_text.specs.Pieces.{drew_left, end_left}
use Rattle.proto_core.specs.declared.link.Link.{Link}
use Rattle.proto_core.specs.Parties.{link_text}
use Rattle.view_text.specs.View.{InputShare, Received}
use Rattle.view_text.specs.Text.{Line, Got, Opened}
use Rattle.view_text.specs.declared.pieces.Pieces.{Pieces}
use Rattle.view_text.proofs.Pieced.{begin_drew, begin_got, begin_input, end_longer, give_end, give_opened}
use Rattle.view_text.proofs.pieces.Pieces.begin_line.Goals as goal

abbrev words_in : Option (Bor (List ℕ)) → Option (List ℕ)
words_in = option_map (λ w. w.now)

abbrev after_got : Pieces → List Line
after_got p = map Opened p.opened.now ++ end_left p.end

abbrev after_drew : Pieces → List Line
after_drew p = map Got p.got.now ++ after_got p

pub returns-in-Some : goal.returns-in-Some
returns-in-Some c =
    let p = c.args.self.now in
    let s =
    begin_input (string_bytes c.args.text.now) (string_bytes c.write.new.self) (words_in p.line) (ap words_in c.requires) p.inputs.now
    c.as_str-name.result.now c.as_slice.result.now c.in-Some.input.now c.in-Some.rest.now (drew_left (words_in p.drew) ++ after_drew p)
    c.in-Some.ensures.cases.0 (c.as_str-name.ensures.value ∙ ap (λ (v : InputShare). v.name) c.input.view_is)
    (c.as_slice.ensures.value ∙ ap (λ (v : InputShare). v.words) c.input.view_is) c.in_ok-write.ensures.bytes in
    record { given = s.same; falls = λ more. s.falls; through = λ never. absurd (cc) }

pub returns-in-Some-drew : goal.returns-in-Some-drew
returns-in-Some-drew c =
    let p = c.args.self.now in
    let s =
    begin_drew (string_bytes c.args.text.now) (string_bytes c.write-in-Some-drew.new.self) (words_in p.line) (ap words_in c.requires) p.inputs.now
    c.in_default.ensures.cases (words_in p.drew) c.in-Some-drew.words.now (after_drew p) (ap words_in c.in-Some-drew.is) c.in_ok-write-2.ensures.bytes in
    record { given = s.same; falls = λ more. s.falls; through = λ never. absurd (cc) }

pub returns-in-Some-split_first : goal.returns-in-Some-split_first
returns-in-Some-split_first c =
    let p = c.args.self.now in
    let s =
    begin_got (string_bytes c.args.text.now) (string_bytes c.write-in-Some-split_first.new.self) (words_in p.line) (ap words_in c.requires) p.inputs.now
    c.in_default.ensures.cases (words_in p.drew) (ap words_in c.in_default-drew.is) p.got.now c.as_slice-in-Some-split_first.result.now
    c.in-Some-split_first.received.now c.in-Some-split_first.rest.now (after_got p) c.in-Some-split_first.ensures.cases.0
    (c.as_slice-in-Some-split_first.ensures.value ∙ ap (λ (v : Received). v.message) c.received.view_is)
    (c.in_ok-write-3.ensures.bytes
    ∙ ap (λ (k : Link). string_bytes c.args.text.now ++ 103 ∷ 111 ∷ 116 ∷ 32 ∷ link_text k) (ap (λ (v : Received). v.link) c.received.view_is)) in
    record { given = s.same; falls = λ more. s.falls; through = λ never. absurd (cc) }

pub returns-in-Some-split_first-2 : goal.returns-in-Some-split_first-2
returns-in-Some-split_first-2 c =
    let p = c.args.self.now in
    let s =
    give_opened (string_bytes c.args.text.now) (string_bytes c.writeln.new.self) (words_in p.line) (ap words_in c.requires) p.inputs.now
    c.in_default.ensures.cases (words_in p.drew) (ap words_in c.in_default-drew.is) p.got.now c.in_default-split_first.ensures.cases p.opened.now
    c.in-Some-split_first-2.elements.now c.in-Some-split_first-2.rest.now (end_left p.end) c.in-Some-split_first-2.ensures.cases.0
    c.in_ok-writeln.ensures.bytes in
    record { given = s.same; falls = λ more. s.falls; through = λ never. absurd (cc) }

pub returns-in-Some-end : goal.returns-in-Some-end
returns-in-Some-end c =
    let p = c.args.self.now in
    let s =
    give_end (string_bytes c.args.text.now) (string_bytes c.write-in-Some-end.new.self) (words_in p.line) (ap words_in c.requires) p.inputs.now
    c.in_default.ensures.cases (words_in p.drew) (ap words_in c.in_default-drew.is) p.got.now c.in_default-split_first.ensures.cases p.opened.now
    p.end c.in-Some-end.end c.in_default-split_first-2.ensures.cases c.in-Some-end.is c.in_ok-write-4.ensures.bytes
    (end_longer (string_bytes c.args.text.now) (string_bytes c.write-in-Some-end.new.self) c.in-Some-end.end c.in_ok-write-4.ensures.bytes) in
    record { given = s.same; falls = λ more. s.falls; through = λ never. absurd (cc) }
