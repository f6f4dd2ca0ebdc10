-- A head is read part by part.
use Rattle.std.proofs.Common.{◌≡◌, ℕ, List, Ok, sym, ◌∙◌, subst}
use Rattle.bytecode.specs.declared.kind.Kind.{Kind}
use Rattle.bytecode.specs.declared.version.CodeVersion.{CodeVersion}
use Rattle.bytecode.specs.declared.fault.Stopped.{Stopped}
use Rattle.bytecode.specs.Kinds.{is_return, return_of}
use Rattle.bytecode.specs.Layouts.{Layout, Makes, Field, BadTag, read, behind}
use Rattle.bytecode.specs.Decoded.{Head, head_layout, short_layout, kind_layout, repeated}
use Rattle.bytecode.specs.inner.Reading.{Stops}
use Rattle.bytecode.proofs.Reading.{step_ok, step_stops}

abbrev return_layout : CodeVersion → Layout ℕ
return_layout version = Field BadTag 1 (is_return version) Makes

abbrev made : ℕ → ℕ → List Kind → ℕ → Head
made p b ks count = record { parameters = p; gives = return_of b; registers = ks; instructions = count }

abbrev last : ℕ → ℕ → List Kind → Layout Head
last p b ks = behind short_layout (λ count. Makes (made p b ks count))

abbrev registers : CodeVersion → ℕ → ℕ → ℕ → Layout Head
registers version p b n = behind (repeated (kind_layout version) n) (last p b)

abbrev counted : CodeVersion → ℕ → ℕ → Layout Head
counted version p b = behind short_layout (registers version p b)

abbrev returning : CodeVersion → ℕ → Layout Head
returning version p = behind (return_layout version) (counted version p)

pub head_ok : (version : CodeVersion) (p b n : ℕ) (ks : List Kind) (count : ℕ) (t0 t1 t2 t3 t4 t5 : List ℕ) → read short_layout t0 ≡ Ok (p, t1) → read (return_layout version) t1 ≡ Ok (b, t2)
    → read short_layout t2 ≡ Ok (n, t3) → read (repeated (kind_layout version) n) t3 ≡ Ok (ks, t4) → read short_layout t4 ≡ Ok (count, t5)
    → read (head_layout version) t0 ≡ Ok (made p b ks count, t5)
head_ok version p b n ks count t0 t1 t2 t3 t4 t5 e0 e1 e2 e3 e4 =
    step_ok short_layout (returning version) t0 p t1 e0 ∙ step_ok (return_layout version) (counted version p) t1 b t2 e1 ∙ step_ok short_layout (registers version p b) t2 n t3 e2
    ∙ step_ok (repeated (kind_layout version) n) (last p b) t3 ks t4 e3 ∙ step_ok short_layout (λ count. Makes (made p b ks count)) t4 count t5 e4

pub head_stops_at_registers : (version : CodeVersion) (p b n : ℕ) (t0 t1 t2 t3 : List ℕ) (e : Stopped) → read short_layout t0 ≡ Ok (p, t1) → read (return_layout version) t1 ≡ Ok (b, t2)
    → read short_layout t2 ≡ Ok (n, t3) → Stops (read (repeated (kind_layout version) n) t3) e → Stops (read (head_layout version) t0) e
head_stops_at_registers version p b n t0 t1 t2 t3 e e0 e1 e2 s =
    subst (λ r. Stops r e) (sym (step_ok short_layout (returning version) t0 p t1 e0 ∙ step_ok (return_layout version) (counted version p) t1 b t2 e1
    ∙ step_ok short_layout (registers version p b) t2 n t3 e2))
    (step_stops (repeated (kind_layout version) n) (last p b) t3 e s)

pub head_stops_at_count : (version : CodeVersion) (p b n : ℕ) (ks : List Kind) (t0 t1 t2 t3 t4 : List ℕ) (e : Stopped) → read short_layout t0 ≡ Ok (p, t1)
    → read (return_layout version) t1 ≡ Ok (b, t2)
    → read short_layout t2 ≡ Ok (n, t3) → read (repeated (kind_layout version) n) t3 ≡ Ok (ks, t4) → Stops (read short_layout t4) e → Stops (read (head_layout version) t0) e
head_stops_at_count version p b n ks t0 t1 t2 t3 t4 e e0 e1 e2 e3 s =
    subst (λ r. Stops r e) (sym (step_ok short_layout (returning version) t0 p t1 e0 ∙ step_ok (return_layout version) (counted version p) t1 b t2 e1
    ∙ step_ok short_layout (registers version p b) t2 n t3 e2
    ∙ step_ok (repeated (kind_layout version) n) (last p b) t3 ks t4 e3))
    (step_stops short_layout (λ count. Makes (made p b ks count)) t4 e s)
