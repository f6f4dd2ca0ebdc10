-- The place after a block.
use Rattle.std.proofs.Common.{◌≡◌, ℕ, ◌-◌, ◌≤◌, List, ◌++◌, length, take, drop, sym, ap, ◌∙◌, Some, arith}
use Rattle.std.proofs.lemmas.List.{length-append}
use Rattle.std.proofs.Math.Seq.{drop-append_seam, take-append_seam}
use Rattle.program_trees.specs.declared.statement.DeclaredType.{DeclaredType}
use Rattle.name_resolution.specs.Scopes.{Variable, Scope, FunctionScope, leaving, entering, behind_block, left}
use Rattle.name_resolution.specs.Resolving.{Resolving, closed, in_block}
use Rattle.name_resolution.proofs.Sequences.{place_made}

-- after a block whose outer variables are those of s, s is known again
leaving_inner : (s x : Scope) → x.outer ≡ s.block ++ s.outer → leaving (length s.outer) x ≡ s
leaving_inner s x o =
    ap (λ (l : List Variable). parted (length l - length s.outer) l) o
    ∙ ap (λ n. parted n (s.block ++ s.outer)) count
    ∙ ap (λ (b : List Variable). parts b (drop (length s.block) (s.block ++ s.outer))) (take-append_seam s.block s.outer)
    ∙ ap (parts s.block) (drop-append_seam s.block s.outer)
  where
    parts : List Variable → List Variable → Scope
    parts b o = record { block = b; outer = o }

    parted : ℕ → List Variable → Scope
    parted n l = record { block = take n l; outer = drop n l }

    count : length (s.block ++ s.outer) - length s.outer ≡ length s.block
    count = let l = length-append s.block s.outer in omega arith

-- a block of s begins at e and ends at r; k is what `enter` told, and n is where `leave` leads
pub block_fits : (s e r : FunctionScope) (k : ℕ) → e ≡ entering s → k ≡ length s.scope.outer → r.scope.outer ≡ e.scope.outer → k ≤ length r.scope.outer
block_fits s e r k begins count outer =
    let l = length-append s.scope.block s.scope.outer in
    let m = ap length (outer ∙ ap (λ (p : FunctionScope). p.scope.outer) begins) in
    omega arith

pub block_left : (s e r n : FunctionScope) (k : ℕ) → e ≡ entering s → k ≡ length s.scope.outer → r.scope.outer ≡ e.scope.outer → n ≡ left k r
    → n ≡ behind_block s r
block_left s e r n k begins count outer ends =
    ends
    ∙ ap (λ j. left j r) count
    ∙ ap (λ (x : Scope). placed x r.slots) (leaving_inner s.scope r.scope (outer ∙ ap (λ (p : FunctionScope). p.scope.outer) begins))
  where
    placed : Scope → List DeclaredType → FunctionScope
    placed x l = record { scope = x; slots = l }

pub block_made : {A : Type 0} (m : Resolving A) (s e r n : FunctionScope) (k : ℕ) (a : A) → e ≡ entering s → k ≡ length s.scope.outer
    → m e ≡ Some (place_made a r) → r.scope.outer ≡ e.scope.outer → n ≡ left k r → in_block m s ≡ Some (place_made a n)
block_made m s e r n k a begins count made outer ends =
    ap (closed s) (ap m (sym begins) ∙ made) ∙ ap (λ (p : FunctionScope). Some (place_made a p)) (sym (block_left s e r n k begins count outer ends))
