-- The operands of a tag, one after the other, are what the layout has after it.
use Rattle.std.proofs.Common.{◌≡◌, ℕ, List, Bool, Result, Ok, refl, sym, ap, ◌∙◌, subst}
use Rattle.bytecode.specs.declared.tag.Tag.{Tag}
use Rattle.bytecode.specs.declared.tag.Tag.TheVariants as tags
use Rattle.bytecode.specs.Raw.{Raw, Call}
use Rattle.bytecode.specs.Layouts.{behind, Layout, Makes, Field, BadTag, read}
use Rattle.bytecode.specs.declared.version.CodeVersion.{CodeVersion}
use Rattle.bytecode.specs.declared.version.CodeVersion.TheVariants.{First, Second}
use Rattle.bytecode.specs.Versions.{Counting, ByHeads, Counted, counting, is_tag}
use Rattle.bytecode.specs.Decoded.{argument_count, instruction_layout, operands, short_layout, repeated, any, is_operator, is_truth}
use Rattle.bytecode.specs.declared.fault.Stopped.{Stopped}
use Rattle.bytecode.specs.inner.Reading.{optional, Reads, Stops}
use Rattle.bytecode.proofs.Reading.{reads_behind, step_ok, step_stops, seven, seven_ok, seven_stops-3, seven_stops-4, seven_stops-5, seven_stops-6}
use Rattle.bytecode.specs.inner.Tags.{tag_byte, operands_of, made, has_operator, has_first, has_truth, has_second, has_third, has_line, has_word}

-- a tag with plain operands
abbrev pub IsPlain : Tag → Type 0
IsPlain tags.Literal = Unit {0}
IsPlain tags.Move = Unit {0}
IsPlain tags.Store = Unit {0}
IsPlain tags.Binary = Unit {0}
IsPlain tags.Not = Unit {0}
IsPlain tags.Cast = Unit {0}
IsPlain tags.Classify = Unit {0}
IsPlain tags.Fill = Unit {0}
IsPlain tags.At = Unit {0}
IsPlain tags.Put = Unit {0}
IsPlain tags.Size = Unit {0}
IsPlain tags.Cat = Unit {0}
IsPlain tags.Sum = Unit {0}
IsPlain tags.Bits = Unit {0}
IsPlain tags.Lookup = Unit {0}
IsPlain tags.Declassify = Unit {0}
IsPlain tags.Argument = Unit {0}
IsPlain tags.Publish = Unit {0}
IsPlain tags.Assert = Unit {0}
IsPlain tags.Branch = Unit {0}
IsPlain tags.Jump = Unit {0}
IsPlain tags.Call = ⊥
IsPlain tags.Return = Unit {0}
IsPlain tags.ReturnNone = Unit {0}

pub same_operands : (rule : Counting) (tag : Tag) → IsPlain tag → operands_of tag ≡ operands rule (tag_byte tag)
same_operands rule tags.Literal h = refl
same_operands rule tags.Move h = refl
same_operands rule tags.Store h = refl
same_operands rule tags.Binary h = refl
same_operands rule tags.Not h = refl
same_operands rule tags.Cast h = refl
same_operands rule tags.Classify h = refl
same_operands rule tags.Fill h = refl
same_operands rule tags.At h = refl
same_operands rule tags.Put h = refl
same_operands rule tags.Size h = refl
same_operands rule tags.Cat h = refl
same_operands rule tags.Sum h = refl
same_operands rule tags.Bits h = refl
same_operands rule tags.Lookup h = refl
same_operands rule tags.Declassify h = refl
same_operands rule tags.Argument h = refl
same_operands rule tags.Publish h = refl
same_operands rule tags.Assert h = refl
same_operands rule tags.Branch h = refl
same_operands rule tags.Jump h = refl
same_operands rule tags.Call h = absurd h
same_operands rule tags.Return h = refl
same_operands rule tags.ReturnNone h = refl

-- seven operands with these flags
abbrev pub flagged : Tag → (b0 b1 b2 b3 b4 b5 b6 : Bool) → Layout Raw
flagged tag b0 b1 b2 b3 b4 b5 b6 =
    seven (optional b0 (Field BadTag 1 is_operator Makes)) (optional b1 (Field BadTag 2 any Makes)) (optional b2 (Field BadTag 1 is_truth Makes))
    (optional b3 (Field BadTag 2 any Makes)) (optional b4 (Field BadTag 2 any Makes)) (optional b5 (Field BadTag 4 any Makes))
    (optional b6 (Field BadTag 8 any Makes)) (made tag)

pub same_flags : (tag : Tag) (b0 b1 b2 b3 b4 b5 b6 : Bool) → b0 ≡ has_operator tag → b1 ≡ has_first tag → b2 ≡ has_truth tag → b3 ≡ has_second tag
    → b4 ≡ has_third tag → b5 ≡ has_line tag → b6 ≡ has_word tag → flagged tag b0 b1 b2 b3 b4 b5 b6 ≡ operands_of tag
same_flags tag b0 b1 b2 b3 b4 b5 b6 e0 e1 e2 e3 e4 e5 e6 =
    ap (λ z. flagged tag z b1 b2 b3 b4 b5 b6) e0
    ∙ ap (λ z. flagged tag (has_operator tag) z b2 b3 b4 b5 b6) e1
    ∙ ap (λ z. flagged tag (has_operator tag) (has_first tag) z b3 b4 b5 b6) e2
    ∙ ap (λ z. flagged tag (has_operator tag) (has_first tag) (has_truth tag) z b4 b5 b6) e3
    ∙ ap (λ z. flagged tag (has_operator tag) (has_first tag) (has_truth tag) (has_second tag) z b5 b6) e4
    ∙ ap (λ z. flagged tag (has_operator tag) (has_first tag) (has_truth tag) (has_second tag) (has_third tag) z b6) e5
    ∙ ap (λ z. flagged tag (has_operator tag) (has_first tag) (has_truth tag) (has_second tag) (has_third tag) (has_line tag) z) e6

pub operands_ok : (tag : Tag) (b0 b1 b2 b3 b4 b5 b6 : Bool) (x0 x1 x2 x3 x4 x5 x6 : ℕ) (t0 t1 t2 t3 t4 t5 t6 t7 : List ℕ) → b0 ≡ has_operator tag
    → b1 ≡ has_first tag → b2 ≡ has_truth tag → b3 ≡ has_second tag → b4 ≡ has_third tag → b5 ≡ has_line tag → b6 ≡ has_word tag
    → read (optional b0 (Field BadTag 1 is_operator Makes)) t0 ≡ Ok (x0, t1) → read (optional b1 (Field BadTag 2 any Makes)) t1 ≡ Ok (x1, t2)
    → read (optional b2 (Field BadTag 1 is_truth Makes)) t2 ≡ Ok (x2, t3) → read (optional b3 (Field BadTag 2 any Makes)) t3 ≡ Ok (x3, t4)
    → read (optional b4 (Field BadTag 2 any Makes)) t4 ≡ Ok (x4, t5) → read (optional b5 (Field BadTag 4 any Makes)) t5 ≡ Ok (x5, t6)
    → read (optional b6 (Field BadTag 8 any Makes)) t6 ≡ Ok (x6, t7) → read (operands_of tag) t0 ≡ Ok (made tag x0 x1 x2 x3 x4 x5 x6, t7)
operands_ok tag b0 b1 b2 b3 b4 b5 b6 x0 x1 x2 x3 x4 x5 x6 t0 t1 t2 t3 t4 t5 t6 t7 e0 e1 e2 e3 e4 e5 e6 r0 r1 r2 r3 r4 r5 r6 =
    ap (λ l. read l t0) (sym (same_flags tag b0 b1 b2 b3 b4 b5 b6 e0 e1 e2 e3 e4 e5 e6))
    ∙ seven_ok (optional b0 (Field BadTag 1 is_operator Makes)) (optional b1 (Field BadTag 2 any Makes)) (optional b2 (Field BadTag 1 is_truth Makes))
    (optional b3 (Field BadTag 2 any Makes)) (optional b4 (Field BadTag 2 any Makes)) (optional b5 (Field BadTag 4 any Makes))
    (optional b6 (Field BadTag 8 any Makes)) (made tag) x0 x1 x2 x3 x4 x5 x6 t0 t1 t2 t3 t4 t5 t6 t7 r0 r1 r2 r3 r4 r5 r6

pub operands_stop : (tag : Tag) (b0 b1 b2 b3 b4 b5 b6 : Bool) (x0 x1 x2 x3 x4 x5 : ℕ) (t0 t1 t2 t3 t4 t5 t6 : List ℕ) (e : Stopped)
    → b0 ≡ has_operator tag → b1 ≡ has_first tag → b2 ≡ has_truth tag → b3 ≡ has_second tag → b4 ≡ has_third tag → b5 ≡ has_line tag
    → b6 ≡ has_word tag → read (optional b0 (Field BadTag 1 is_operator Makes)) t0 ≡ Ok (x0, t1)
    → read (optional b1 (Field BadTag 2 any Makes)) t1 ≡ Ok (x1, t2) → read (optional b2 (Field BadTag 1 is_truth Makes)) t2 ≡ Ok (x2, t3)
    → read (optional b3 (Field BadTag 2 any Makes)) t3 ≡ Ok (x3, t4) → read (optional b4 (Field BadTag 2 any Makes)) t4 ≡ Ok (x4, t5)
    → read (optional b5 (Field BadTag 4 any Makes)) t5 ≡ Ok (x5, t6) → Stops (read (optional b6 (Field BadTag 8 any Makes)) t6) e
    → Stops (read (operands_of tag) t0) e
operands_stop tag b0 b1 b2 b3 b4 b5 b6 x0 x1 x2 x3 x4 x5 t0 t1 t2 t3 t4 t5 t6 e e0 e1 e2 e3 e4 e5 e6 r0 r1 r2 r3 r4 r5 s =
    subst (λ l. Stops (read l t0) e) (same_flags tag b0 b1 b2 b3 b4 b5 b6 e0 e1 e2 e3 e4 e5 e6)
    (seven_stops-6 (optional b0 (Field BadTag 1 is_operator Makes)) (optional b1 (Field BadTag 2 any Makes))
    (optional b2 (Field BadTag 1 is_truth Makes)) (optional b3 (Field BadTag 2 any Makes)) (optional b4 (Field BadTag 2 any Makes))
    (optional b5 (Field BadTag 4 any Makes)) (optional b6 (Field BadTag 8 any Makes)) (made tag) x0 x1 x2 x3 x4 x5 t0 t1 t2 t3 t4 t5 t6 e r0 r1 r2
    r3 r4 r5 s)

-- likewise at an earlier operand
pub operands_stop-second : (tag : Tag) (b0 b1 b2 b3 : Bool) (x0 x1 x2 : ℕ) (t0 t1 t2 t3 : List ℕ) (e : Stopped) → b0 ≡ has_operator tag
    → b1 ≡ has_first tag → b2 ≡ has_truth tag → b3 ≡ has_second tag → read (optional b0 (Field BadTag 1 is_operator Makes)) t0 ≡ Ok (x0, t1)
    → read (optional b1 (Field BadTag 2 any Makes)) t1 ≡ Ok (x1, t2) → read (optional b2 (Field BadTag 1 is_truth Makes)) t2 ≡ Ok (x2, t3)
    → Stops (read (optional b3 (Field BadTag 2 any Makes)) t3) e → Stops (read (operands_of tag) t0) e
operands_stop-second tag b0 b1 b2 b3 x0 x1 x2 t0 t1 t2 t3 e e0 e1 e2 e3 r0 r1 r2 s =
    subst (λ l. Stops (read l t0) e) (same_flags tag b0 b1 b2 b3 (has_third tag) (has_line tag) (has_word tag) e0 e1 e2 e3 refl refl refl)
    (seven_stops-3 (optional b0 (Field BadTag 1 is_operator Makes)) (optional b1 (Field BadTag 2 any Makes))
    (optional b2 (Field BadTag 1 is_truth Makes)) (optional b3 (Field BadTag 2 any Makes)) (optional (has_third tag) (Field BadTag 2 any Makes))
    (optional (has_line tag) (Field BadTag 4 any Makes)) (optional (has_word tag) (Field BadTag 8 any Makes)) (made tag) x0 x1 x2 t0 t1 t2 t3 e
    r0 r1 r2 s)

pub operands_stop-third : (tag : Tag) (b0 b1 b2 b3 b4 : Bool) (x0 x1 x2 x3 : ℕ) (t0 t1 t2 t3 t4 : List ℕ) (e : Stopped) → b0 ≡ has_operator tag
    → b1 ≡ has_first tag → b2 ≡ has_truth tag → b3 ≡ has_second tag → b4 ≡ has_third tag
    → read (optional b0 (Field BadTag 1 is_operator Makes)) t0 ≡ Ok (x0, t1) → read (optional b1 (Field BadTag 2 any Makes)) t1 ≡ Ok (x1, t2)
    → read (optional b2 (Field BadTag 1 is_truth Makes)) t2 ≡ Ok (x2, t3) → read (optional b3 (Field BadTag 2 any Makes)) t3 ≡ Ok (x3, t4)
    → Stops (read (optional b4 (Field BadTag 2 any Makes)) t4) e → Stops (read (operands_of tag) t0) e
operands_stop-third tag b0 b1 b2 b3 b4 x0 x1 x2 x3 t0 t1 t2 t3 t4 e e0 e1 e2 e3 e4 r0 r1 r2 r3 s =
    subst (λ l. Stops (read l t0) e) (same_flags tag b0 b1 b2 b3 b4 (has_line tag) (has_word tag) e0 e1 e2 e3 e4 refl refl)
    (seven_stops-4 (optional b0 (Field BadTag 1 is_operator Makes)) (optional b1 (Field BadTag 2 any Makes))
    (optional b2 (Field BadTag 1 is_truth Makes)) (optional b3 (Field BadTag 2 any Makes)) (optional b4 (Field BadTag 2 any Makes))
    (optional (has_line tag) (Field BadTag 4 any Makes)) (optional (has_word tag) (Field BadTag 8 any Makes)) (made tag) x0 x1 x2 x3 t0 t1 t2 t3 t4 e
    r0 r1 r2 r3 s)

pub operands_stop-line : (tag : Tag) (b0 b1 b2 b3 b4 b5 : Bool) (x0 x1 x2 x3 x4 : ℕ) (t0 t1 t2 t3 t4 t5 : List ℕ) (e : Stopped)
    → b0 ≡ has_operator tag → b1 ≡ has_first tag → b2 ≡ has_truth tag → b3 ≡ has_second tag → b4 ≡ has_third tag → b5 ≡ has_line tag
    → read (optional b0 (Field BadTag 1 is_operator Makes)) t0 ≡ Ok (x0, t1) → read (optional b1 (Field BadTag 2 any Makes)) t1 ≡ Ok (x1, t2)
    → read (optional b2 (Field BadTag 1 is_truth Makes)) t2 ≡ Ok (x2, t3) → read (optional b3 (Field BadTag 2 any Makes)) t3 ≡ Ok (x3, t4)
    → read (optional b4 (Field BadTag 2 any Makes)) t4 ≡ Ok (x4, t5) → Stops (read (optional b5 (Field BadTag 4 any Makes)) t5) e
    → Stops (read (operands_of tag) t0) e
operands_stop-line tag b0 b1 b2 b3 b4 b5 x0 x1 x2 x3 x4 t0 t1 t2 t3 t4 t5 e e0 e1 e2 e3 e4 e5 r0 r1 r2 r3 r4 s =
    subst (λ l. Stops (read l t0) e) (same_flags tag b0 b1 b2 b3 b4 b5 (has_word tag) e0 e1 e2 e3 e4 e5 refl)
    (seven_stops-5 (optional b0 (Field BadTag 1 is_operator Makes)) (optional b1 (Field BadTag 2 any Makes))
    (optional b2 (Field BadTag 1 is_truth Makes)) (optional b3 (Field BadTag 2 any Makes)) (optional b4 (Field BadTag 2 any Makes))
    (optional b5 (Field BadTag 4 any Makes)) (optional (has_word tag) (Field BadTag 8 any Makes)) (made tag) x0 x1 x2 x3 x4 t0 t1 t2 t3 t4 t5 e
    r0 r1 r2 r3 r4 s)

pub plain_unless_call : (tag : Tag) → (tag ≡ tags.Call → ⊥) → IsPlain tag
plain_unless_call tags.Literal h = tt
plain_unless_call tags.Move h = tt
plain_unless_call tags.Store h = tt
plain_unless_call tags.Binary h = tt
plain_unless_call tags.Not h = tt
plain_unless_call tags.Cast h = tt
plain_unless_call tags.Classify h = tt
plain_unless_call tags.Fill h = tt
plain_unless_call tags.At h = tt
plain_unless_call tags.Put h = tt
plain_unless_call tags.Size h = tt
plain_unless_call tags.Cat h = tt
plain_unless_call tags.Sum h = tt
plain_unless_call tags.Bits h = tt
plain_unless_call tags.Lookup h = tt
plain_unless_call tags.Declassify h = tt
plain_unless_call tags.Argument h = tt
plain_unless_call tags.Publish h = tt
plain_unless_call tags.Assert h = tt
plain_unless_call tags.Branch h = tt
plain_unless_call tags.Jump h = tt
plain_unless_call tags.Call h = h refl
plain_unless_call tags.Return h = tt
plain_unless_call tags.ReturnNone h = tt

-- ---- calls

abbrev line_layout : Layout ℕ
line_layout = Field BadTag 4 any Makes

abbrev last : ℕ → ℕ → List ℕ → Layout Raw
last f d xs = behind line_layout (λ line. Makes (Call f d xs line))

abbrev arguments : ℕ → ℕ → ℕ → Layout Raw
arguments f d n = behind (repeated short_layout n) (last f d)

abbrev with_count : Counting → ℕ → ℕ → Layout Raw
with_count rule f d = behind (argument_count rule f) (arguments f d)

abbrev result : Counting → ℕ → Layout Raw
result rule f = behind short_layout (with_count rule f)

to_count : (rule : Counting) (f d : ℕ) (t0 t1 t2 : List ℕ) → read short_layout t0 ≡ Ok (f, t1) → read short_layout t1 ≡ Ok (d, t2)
    → read (operands rule 0x16) t0 ≡ read (with_count rule f d) t2
to_count rule f d t0 t1 t2 e0 e1 = step_ok short_layout (result rule) t0 f t1 e0 ∙ step_ok short_layout (with_count rule f) t1 d t2 e1

to_arguments : (rule : Counting) (f d n : ℕ) (t0 t1 t2 t3 : List ℕ) → read short_layout t0 ≡ Ok (f, t1) → read short_layout t1 ≡ Ok (d, t2)
    → read (argument_count rule f) t2 ≡ Ok (n, t3) → read (operands rule 0x16) t0 ≡ read (arguments f d n) t3
to_arguments rule f d n t0 t1 t2 t3 e0 e1 e2 = to_count rule f d t0 t1 t2 e0 e1 ∙ step_ok (argument_count rule f) (arguments f d) t2 n t3 e2

pub call_ok : (rule : Counting) (f d n : ℕ) (xs : List ℕ) (line : ℕ) (t0 t1 t2 t3 t4 t5 : List ℕ) → read short_layout t0 ≡ Ok (f, t1)
    → read short_layout t1 ≡ Ok (d, t2) → read (argument_count rule f) t2 ≡ Ok (n, t3)
    → read (repeated short_layout n) t3 ≡ Ok (xs, t4) → read line_layout t4 ≡ Ok (line, t5)
    → read (operands rule 0x16) t0 ≡ Ok (Call f d xs line, t5)
call_ok rule f d n xs line t0 t1 t2 t3 t4 t5 e0 e1 e2 e3 e4 =
    to_arguments rule f d n t0 t1 t2 t3 e0 e1 e2
    ∙ step_ok (repeated short_layout n) (last f d) t3 xs t4 e3 ∙ step_ok line_layout (λ line. Makes (Call f d xs line)) t4 line t5 e4

pub call_stops_at_count : (rule : Counting) (f d : ℕ) (t0 t1 t2 : List ℕ) (e : Stopped) → read short_layout t0 ≡ Ok (f, t1)
    → read short_layout t1 ≡ Ok (d, t2)
    → Stops (read (argument_count rule f) t2) e → Stops (read (operands rule 0x16) t0) e
call_stops_at_count rule f d t0 t1 t2 e e0 e1 s =
    subst (λ r. Stops r e) (sym (to_count rule f d t0 t1 t2 e0 e1)) (step_stops (argument_count rule f) (arguments f d) t2 e s)

pub call_stops_at_arguments : (rule : Counting) (f d n : ℕ) (t0 t1 t2 t3 : List ℕ) (e : Stopped) → read short_layout t0 ≡ Ok (f, t1)
    → read short_layout t1 ≡ Ok (d, t2) → read (argument_count rule f) t2 ≡ Ok (n, t3)
    → Stops (read (repeated short_layout n) t3) e → Stops (read (operands rule 0x16) t0) e
call_stops_at_arguments rule f d n t0 t1 t2 t3 e e0 e1 e2 s =
    subst (λ r. Stops r e) (sym (to_arguments rule f d n t0 t1 t2 t3 e0 e1 e2)) (step_stops (repeated short_layout n) (last f d) t3 e s)

pub call_stops_at_line : (rule : Counting) (f d n : ℕ) (xs : List ℕ) (t0 t1 t2 t3 t4 : List ℕ) (e : Stopped) → read short_layout t0 ≡ Ok (f, t1)
    → read short_layout t1 ≡ Ok (d, t2) → read (argument_count rule f) t2 ≡ Ok (n, t3)
    → read (repeated short_layout n) t3 ≡ Ok (xs, t4) → Stops (read line_layout t4) e → Stops (read (operands rule 0x16) t0) e
call_stops_at_line rule f d n xs t0 t1 t2 t3 t4 e e0 e1 e2 e3 s =
    subst (λ r. Stops r e) (sym (to_arguments rule f d n t0 t1 t2 t3 e0 e1 e2 ∙ step_ok (repeated short_layout n) (last f d) t3 xs t4 e3))
    (step_stops line_layout (λ line. Makes (Call f d xs line)) t4 e s)

-- ---- a tag and its operands

pub reads_operands : {T : Type 0} (view : T → Raw) (version : CodeVersion) (ps : List ℕ) (text : List ℕ) (byte : ℕ) (left : List ℕ)
    (answer : Result T Stopped) (new : List ℕ) → read (Field BadTag 1 (is_tag version) Makes) text ≡ Ok (byte, left)
    → Reads view (read (operands (counting version ps) byte) left) answer new
    → Reads view (read (instruction_layout (counting version ps)) text) answer new
reads_operands view First ps = reads_behind view (Field BadTag 1 (is_tag First) Makes) (operands (ByHeads ps))
reads_operands view Second ps = reads_behind view (Field BadTag 1 (is_tag Second) Makes) (operands Counted)

pub stops_at_tag : (version : CodeVersion) (ps : List ℕ) (text : List ℕ) (e : Stopped) → Stops (read (Field BadTag 1 (is_tag version) Makes) text) e
    → Stops (read (instruction_layout (counting version ps)) text) e
stops_at_tag First ps = step_stops (Field BadTag 1 (is_tag First) Makes) (operands (ByHeads ps))
stops_at_tag Second ps = step_stops (Field BadTag 1 (is_tag Second) Makes) (operands Counted)
