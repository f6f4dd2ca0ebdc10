-- The gates of each plan suit the sizes of the values before them.
use Rattle.std.proofs.Common.{◌≡◌, ℕ, ◌+◌, ◌*◌, ◌<◌, List, [], ◌∷◌, ◌++◌, length, refl, sym, ◌∙◌, ap, subst, arith, length-append, append_assoc, true, false}
use Rattle.std.proofs.Math.Nat.{mul_comm}
use Rattle.std.proofs.lemmas.List.{get_or_append_left, get_or-append-add, length-replicate}
use Rattle.std.specs.Prelude.{replicate}
use Rattle.proto_core.proofs.Beginnings.{append-none}
use Rattle.gates.specs.declared.gate.Gate.{Gate}
use Rattle.gates.specs.declared.gate.Gate.TheVariants.{Sub, Cat, Xor, And, Not, Shl, Shr, Low, Part, Split}
use Rattle.gates.specs.declared.gate.Gate.TheVariants.{Const, Add, Stretch, Tile, Conv, Mul, SumEach}
use Rattle.gates.specs.Counts.{size_of}
use Rattle.plans.specs.Equality as equality
use Rattle.plans.specs.BitExtract as bits
use Rattle.plans.specs.Compare as compare
use Rattle.signed_words.specs.Signed.{half}
use Rattle.plans.specs.Signed.{signed_less_plan}
use Rattle.oblivious_index.specs.Lookup.{places, lookup_plan}
use Rattle.oblivious_index.proofs.LookupLaws.{length-places}
use Rattle.shared_gates.specs.Model.{sizes_made, PairOf, SizesSuit, AllSizesSuit}

-- ---- sizes by number

-- a value of n elements stands at u
pub record At (sizes : List ℕ) (u n : ℕ) : Type 0 where
  pub below : u < length sizes
  pub size : size_of sizes u ≡ n

pub at-grown : (sizes more : List ℕ) (u n : ℕ) → At sizes u n → At (sizes ++ more) u n
at-grown sizes more u n a =
    let longer = length-append sizes more in
    let below : u < length sizes = a.below in
    record { below = omega arith; size = get_or_append_left sizes more 0 u below ∙ a.size }

-- the value of number k is the one of number j after these
pub at-behind :
    (sizes more : List ℕ) (next j k n : ℕ) → length sizes ≡ next → next + j ≡ k → j < length more → size_of more j ≡ n →
    At (sizes ++ more) k n
at-behind sizes more next j k n count place lt e =
    let longer = length-append sizes more in
    let here : length sizes + j ≡ k = omega arith in
    record {
      below = omega arith;
      size = ap (size_of (sizes ++ more)) (sym here) ∙ get_or-append-add sizes more j 0 ∙ e;
    }

pair-of : (sizes : List ℕ) (u v n : ℕ) → At sizes u n → At sizes v n → PairOf sizes u v
pair-of sizes u v n a b = record { first = a.below; second = b.below; same_size = a.size ∙ sym b.size }

alone : (k n : ℕ) → k ≡ n → k ∷ [] ≡ n ∷ []
alone k n e = ap (λ j. j ∷ []) e

-- ---- one gate, and those after it

-- kept closed, since it computes to all that is asked of every gate of a plan
pub Suited : (dealt sizes : List ℕ) → List Gate → Type 0
Suited dealt sizes gates = AllSizesSuit dealt sizes gates

pub suited-sizes : (dealt sizes : List ℕ) (gates : List Gate) → Suited dealt sizes gates → AllSizesSuit dealt sizes gates
unfolding Suited
suited-sizes dealt sizes gates suited = suited

none-suited : (dealt sizes : List ℕ) → Suited dealt sizes []
unfolding Suited
none-suited dealt sizes = tt

-- a gate that makes values of these sizes, after those of some others
gate-suited :
    (dealt sizes more made : List ℕ) (gate : Gate) (gates : List Gate) → SizesSuit dealt (sizes ++ more) gate →
    sizes_made dealt (sizes ++ more) gate ≡ made → Suited dealt (sizes ++ (more ++ made)) gates →
    Suited dealt (sizes ++ more) (gate ∷ gates)
unfolding Suited
gate-suited dealt sizes more made gate gates suit e later =
    let all : (sizes ++ more) ++ sizes_made dealt (sizes ++ more) gate ≡ sizes ++ (more ++ made) =
    ap (λ own. (sizes ++ more) ++ own) e ∙ append_assoc sizes more made in
    (suit, subst (λ s. AllSizesSuit dealt s gates) (sym all) later)

-- the first of some gates
behind-nothing : (dealt sizes : List ℕ) (gates : List Gate) → Suited dealt (sizes ++ []) gates → Suited dealt sizes gates
behind-nothing dealt sizes gates suited = subst (λ s. Suited dealt s gates) (append-none sizes) suited

-- what some gates leave to those after them: they made so many values, and the last, of number m, has n elements
abbrev EndsAt : (dealt sizes : List ℕ) (n made m : ℕ) → List Gate → Type 0
EndsAt dealt sizes n made m rest = (more : List ℕ) → length more ≡ made → At (sizes ++ more) m n → Suited dealt (sizes ++ more) rest

-- ---- equality

joining-suited :
    (dealt : List ℕ) (n : ℕ) (counts sizes : List ℕ) (same made m : ℕ) (rest : List Gate) → length sizes ≡ same + 1 → At sizes same n →
    made ≡ 2 * length counts + 1 → m ≡ same + made → EndsAt dealt sizes n made m rest → Suited dealt sizes (equality.joining same counts ++ rest)
joining-suited dealt n [] sizes same made m rest count at_same e last later =
    let before = at-grown sizes [] same n at_same in
    behind-nothing dealt sizes (Low same ∷ rest)
    (gate-suited dealt sizes [] (n ∷ []) (Low same) rest before.below (alone _ n before.size)
    (later (n ∷ []) (omega arith) (at-behind sizes (n ∷ []) (same + 1) 0 m n count (omega arith) (omega arith) refl)))
joining-suited dealt n (width ∷ counts) sizes same made m rest count at_same e last later =
    let two : List ℕ = n ∷ n ∷ [] in
    let before = at-grown sizes [] same n at_same in
    let here = at-grown sizes (n ∷ []) same n at_same in
    let shifted = at-behind sizes (n ∷ []) (same + 1) 0 (same + 1) n count (omega arith) (omega arith) refl in
    let joins = equality.joining (same + 1 + 1) counts ++ rest in
    behind-nothing dealt sizes (Shr same width ∷ And same (same + 1) ∷ joins)
    (gate-suited dealt sizes [] (n ∷ []) (Shr same width) (And same (same + 1) ∷ joins) before.below (alone _ n before.size)
    (gate-suited dealt sizes (n ∷ []) (n ∷ []) (And same (same + 1)) joins (pair-of _ same (same + 1) n here shifted) (alone _ n here.size)
    (joining-suited dealt n counts (sizes ++ two) (same + 1 + 1) (2 * length counts + 1) m rest (omega (arith, length-append sizes two))
    (at-behind sizes two (same + 1) 1 (same + 1 + 1) n count refl (omega arith) refl) refl (omega arith)
    (λ more long at_m.
    subst (λ s. Suited dealt s rest) (sym (append_assoc sizes two more))
    (later (two ++ more) (omega (arith, length-append two more)) (subst (λ s. At s m n) (append_assoc sizes two more) at_m))))))

zero-test-suited-then :
    (dealt sizes : List ℕ) (first word n : ℕ) (rest : List Gate) → length sizes ≡ first → At sizes word n →
    EndsAt dealt sizes n 17 (first + 16) rest → Suited dealt sizes (equality.eq_plan first word ++ rest)
zero-test-suited-then dealt sizes first word n rest count number later =
    let before = at-grown sizes [] word n number in
    let two : List ℕ = n ∷ n ∷ [] in
    let three : List ℕ = n ∷ n ∷ n ∷ [] in
    let four : List ℕ = n ∷ n ∷ n ∷ n ∷ [] in
    let x = at-behind sizes two first 0 first n count (omega arith) (omega arith) refl in
    let y = at-behind sizes two first 1 (first + 1) n count refl (omega arith) refl in
    let differing = at-behind sizes three first 2 (first + 2) n count refl (omega arith) refl in
    let same = at-behind sizes four first 3 (first + 2 + 1) n count (omega arith) (omega arith) refl in
    let joins = equality.joining (first + 2 + 1) equality.shifts ++ rest in
    behind-nothing dealt sizes (equality.eq_plan first word ++ rest)
    (gate-suited dealt sizes [] two (Split word true) (Xor first (first + 1) ∷ Not (first + 2) ∷ joins) before.below (ap (λ k. k ∷ k ∷ []) before.size)
    (gate-suited dealt sizes two (n ∷ []) (Xor first (first + 1)) (Not (first + 2) ∷ joins) (pair-of _ first (first + 1) n x y) (alone _ n x.size)
    (gate-suited dealt sizes three (n ∷ []) (Not (first + 2)) joins differing.below (alone _ n differing.size)
    (joining-suited dealt n equality.shifts (sizes ++ four) (first + 2 + 1) 13 (first + 16) rest (omega (arith, length-append sizes four)) same (omega arith)
    (omega arith)
    (λ more long at_m.
    subst (λ s. Suited dealt s rest) (sym (append_assoc sizes four more))
    (later (four ++ more) (omega (arith, length-append four more)) (subst (λ s. At s (first + 16) n) (append_assoc sizes four more) at_m)))))))

pub zero-test-suited :
    (dealt sizes : List ℕ) (first word n : ℕ) → length sizes ≡ first → At sizes word n →
    Suited dealt sizes (equality.eq_plan first word)
zero-test-suited dealt sizes first word n count number =
    subst (Suited dealt sizes) (append-none (equality.eq_plan first word))
    (zero-test-suited-then dealt sizes first word n [] count number (λ more long at_m. none-suited dealt (sizes ++ more)))

pub equality-suited :
    (dealt sizes : List ℕ) (first u v n : ℕ) → length sizes ≡ first → At sizes u n → At sizes v n →
    Suited dealt sizes (Sub u v ∷ equality.eq_plan (first + 1) first)
equality-suited dealt sizes first u v n count at_u at_v =
    let one : List ℕ = n ∷ [] in
    let u0 = at-grown sizes [] u n at_u in
    let v0 = at-grown sizes [] v n at_v in
    let test = equality.eq_plan (first + 1) first in
    behind-nothing dealt sizes (Sub u v ∷ test)
    (gate-suited dealt sizes [] one (Sub u v) test (pair-of _ u v n u0 v0) (alone _ n u0.size)
    (zero-test-suited dealt (sizes ++ one) (first + 1) first n (omega (arith, length-append sizes one))
    (at-behind sizes one first 0 first n count (omega arith) (omega arith) refl)))

-- ---- bit extraction

-- what a step that joins blocks leaves to the gates after it
abbrev GoesOn : (dealt sizes : List ℕ) (n next : ℕ) → List Gate → Type 0
GoesOn dealt sizes n next rest =
    (more : List ℕ) → length more ≡ 8 → At (sizes ++ more) (next + 6) n → At (sizes ++ more) (next + 7) n → Suited dealt (sizes ++ more) rest

carry-suited :
    (dealt sizes : List ℕ) (n next g p width : ℕ) (rest : List Gate) → length sizes ≡ next → At sizes g n → At sizes p n →
    GoesOn dealt sizes n next rest → Suited dealt sizes (bits.carry_step n next g p width ++ rest)
carry-suited dealt sizes n next g p width rest count at_g at_p later =
    let m = n + n in
    let s1 : List ℕ = m ∷ [] in
    let s2 : List ℕ = m ∷ n ∷ [] in
    let s3 : List ℕ = m ∷ n ∷ n ∷ [] in
    let s4 : List ℕ = m ∷ n ∷ n ∷ m ∷ [] in
    let s5 : List ℕ = m ∷ n ∷ n ∷ m ∷ m ∷ [] in
    let s6 : List ℕ = m ∷ n ∷ n ∷ m ∷ m ∷ n ∷ [] in
    let s7 : List ℕ = m ∷ n ∷ n ∷ m ∷ m ∷ n ∷ n ∷ [] in
    let s8 : List ℕ = m ∷ n ∷ n ∷ m ∷ m ∷ n ∷ n ∷ n ∷ [] in
    let p0 = at-grown sizes [] p n at_p in
    let g1 = at-grown sizes s1 g n at_g in
    let p2 = at-grown sizes s2 p n at_p in
    let moved_g = at-behind sizes s3 next 1 (next + 1) n count refl (omega arith) refl in
    let moved_p = at-behind sizes s3 next 2 (next + 2) n count refl (omega arith) refl in
    let both = at-behind sizes s4 next 0 next m count (omega arith) (omega arith) refl in
    let moved = at-behind sizes s4 next 3 (next + 3) m count refl (omega arith) refl in
    let joined5 = at-behind sizes s5 next 4 (next + 4) m count refl (omega arith) refl in
    let g6 = at-grown sizes s6 g n at_g in
    let low = at-behind sizes s6 next 5 (next + 5) n count refl (omega arith) refl in
    let joined7 = at-behind sizes s7 next 4 (next + 4) m count refl (omega arith) refl in
    let of_two : size_of (sizes ++ s3) (next + 1) + size_of (sizes ++ s3) (next + 2) ≡ m = omega (arith, moved_g.size, moved_p.size) in
    let of_both : size_of (sizes ++ []) p + size_of (sizes ++ []) p ≡ m = omega (arith, p0.size) in
    behind-nothing dealt sizes (bits.carry_step n next g p width ++ rest)
    (gate-suited dealt sizes [] s1 (Cat p p) _ (p0.below, p0.below) (alone _ m of_both)
    (gate-suited dealt sizes s1 (n ∷ []) (Shl g width) _ g1.below (alone _ n g1.size)
    (gate-suited dealt sizes s2 (n ∷ []) (Shl p width) _ p2.below (alone _ n p2.size)
    (gate-suited dealt sizes s3 (m ∷ []) (Cat (next + 1) (next + 2)) _ (moved_g.below, moved_p.below) (alone _ m of_two)
    (gate-suited dealt sizes s4 (m ∷ []) (And next (next + 3)) _ (pair-of _ next (next + 3) m both moved) (alone _ m both.size)
    (gate-suited dealt sizes s5 (n ∷ []) (Part (next + 4) 0 n) _ (joined5.below, omega (arith, joined5.size)) refl
    (gate-suited dealt sizes s6 (n ∷ []) (Xor g (next + 5)) _ (pair-of _ g (next + 5) n g6 low) (alone _ n g6.size)
    (gate-suited dealt sizes s7 (n ∷ []) (Part (next + 4) n n) rest (joined7.below, omega (arith, joined7.size)) refl
    (later s8 refl (at-behind sizes s8 next 6 (next + 6) n count refl (omega arith) refl)
    (at-behind sizes s8 next 7 (next + 7) n count refl (omega arith) refl))))))))))

carrying-suited :
    (dealt : List ℕ) (n : ℕ) (widths sizes : List ℕ) (h next g p made m : ℕ) (rest : List Gate) → length sizes ≡ next → At sizes h n →
    At sizes g n → At sizes p n → made ≡ 8 * length widths + 2 → m + 1 ≡ next + made → EndsAt dealt sizes n made m rest →
    Suited dealt sizes (bits.carrying n h next g p widths ++ rest)
carrying-suited dealt n [] sizes h next g p made m rest count at_h at_g at_p e last later =
    let s1 : List ℕ = n ∷ [] in
    let s2 : List ℕ = n ∷ n ∷ [] in
    let g0 = at-grown sizes [] g n at_g in
    let h1 = at-grown sizes s1 h n at_h in
    let carries = at-behind sizes s1 next 0 next n count (omega arith) (omega arith) refl in
    behind-nothing dealt sizes (Shl g 1 ∷ Xor h next ∷ rest)
    (gate-suited dealt sizes [] s1 (Shl g 1) (Xor h next ∷ rest) g0.below (alone _ n g0.size)
    (gate-suited dealt sizes s1 s1 (Xor h next) rest (pair-of _ h next n h1 carries) (alone _ n h1.size)
    (later s2 (omega arith) (at-behind sizes s2 next 1 m n count (omega arith) (omega arith) refl))))
carrying-suited dealt n (width ∷ widths) sizes h next g p made m rest count at_h at_g at_p e last later =
    let joins = bits.carrying n h (next + 8) (next + 6) (next + 7) widths in
    subst (Suited dealt sizes) (sym (append_assoc (bits.carry_step n next g p width) joins rest))
    (carry-suited dealt sizes n next g p width (joins ++ rest) count at_g at_p
    (λ more eight at_6 at_7.
    let longer : length (sizes ++ more) ≡ next + 8 = omega (arith, length-append sizes more) in
    carrying-suited dealt n widths (sizes ++ more) h (next + 8) (next + 6) (next + 7) (8 * length widths + 2) m rest longer
    (at-grown sizes more h n at_h) at_6 at_7
    refl (omega arith)
    (λ others long at_m.
    subst (λ s. Suited dealt s rest) (sym (append_assoc sizes more others))
    (later (more ++ others) (omega (arith, length-append more others)) (subst (λ s. At s m n) (append_assoc sizes more others) at_m)))))

pub bits-suited-then :
    (dealt sizes : List ℕ) (first word n : ℕ) (rest : List Gate) → length sizes ≡ first → At sizes word n →
    EndsAt dealt sizes n 54 (first + 53) rest → Suited dealt sizes (bits.bits_plan first word n ++ rest)
bits-suited-then dealt sizes first word n rest count number later =
    let s2 : List ℕ = n ∷ n ∷ [] in
    let s3 : List ℕ = n ∷ n ∷ n ∷ [] in
    let s4 : List ℕ = n ∷ n ∷ n ∷ n ∷ [] in
    let before = at-grown sizes [] word n number in
    let x = at-behind sizes s2 first 0 first n count (omega arith) (omega arith) refl in
    let y = at-behind sizes s2 first 1 (first + 1) n count refl (omega arith) refl in
    let x_then = at-behind sizes s3 first 0 first n count (omega arith) (omega arith) refl in
    let y_then = at-behind sizes s3 first 1 (first + 1) n count refl (omega arith) refl in
    let g = at-behind sizes s4 first 2 (first + 2) n count refl (omega arith) refl in
    let h = at-behind sizes s4 first 3 (first + 3) n count refl (omega arith) refl in
    let joins = bits.carrying n (first + 3) (first + 4) (first + 2) (first + 3) bits.widths ++ rest in
    let longer : length (sizes ++ s4) ≡ first + 4 = omega (arith, length-append sizes s4) in
    behind-nothing dealt sizes (bits.bits_plan first word n ++ rest)
    (gate-suited dealt sizes [] s2 (Split word false) (And first (first + 1) ∷ Xor first (first + 1) ∷ joins) before.below (ap (λ k. k ∷ k ∷ []) before.size)
    (gate-suited dealt sizes s2 (n ∷ []) (And first (first + 1)) (Xor first (first + 1) ∷ joins) (pair-of _ first (first + 1) n x y) (alone _ n x.size)
    (gate-suited dealt sizes s3 (n ∷ []) (Xor first (first + 1)) joins (pair-of _ first (first + 1) n x_then y_then) (alone _ n x_then.size)
    (carrying-suited dealt n bits.widths (sizes ++ s4) (first + 3) (first + 4) (first + 2) (first + 3) 50 (first + 53) rest longer h g h (omega arith)
    (omega arith)
    (λ more long at_m.
    subst (λ s. Suited dealt s rest) (sym (append_assoc sizes s4 more))
    (later (s4 ++ more) (omega (arith, length-append s4 more)) (subst (λ s. At s (first + 53) n) (append_assoc sizes s4 more) at_m)))))))

pub bits-suited :
    (dealt sizes : List ℕ) (first word n : ℕ) → length sizes ≡ first → At sizes word n →
    Suited dealt sizes (bits.bits_plan first word n)
bits-suited dealt sizes first word n count number =
    subst (Suited dealt sizes) (append-none (bits.bits_plan first word n))
    (bits-suited-then dealt sizes first word n [] count number (λ more long at_m. none-suited dealt (sizes ++ more)))

-- ---- comparison

order-suited :
    (dealt sizes : List ℕ) (n next g p width : ℕ) (rest : List Gate) → length sizes ≡ next → At sizes g n → At sizes p n →
    GoesOn dealt sizes n next rest → Suited dealt sizes (compare.order_step n next g p width ++ rest)
order-suited dealt sizes n next g p width rest count at_g at_p later =
    let m = n + n in
    let s1 : List ℕ = n ∷ [] in
    let s2 : List ℕ = n ∷ n ∷ [] in
    let s3 : List ℕ = n ∷ n ∷ m ∷ [] in
    let s4 : List ℕ = n ∷ n ∷ m ∷ m ∷ [] in
    let s5 : List ℕ = n ∷ n ∷ m ∷ m ∷ m ∷ [] in
    let s6 : List ℕ = n ∷ n ∷ m ∷ m ∷ m ∷ n ∷ [] in
    let s7 : List ℕ = n ∷ n ∷ m ∷ m ∷ m ∷ n ∷ n ∷ [] in
    let s8 : List ℕ = n ∷ n ∷ m ∷ m ∷ m ∷ n ∷ n ∷ n ∷ [] in
    let p0 = at-grown sizes [] p n at_p in
    let g1 = at-grown sizes s1 g n at_g in
    let moved_p = at-behind sizes s2 next 0 next n count (omega arith) (omega arith) refl in
    let g3 = at-grown sizes s3 g n at_g in
    let p3 = at-grown sizes s3 p n at_p in
    let both = at-behind sizes s4 next 2 (next + 2) m count refl (omega arith) refl in
    let old = at-behind sizes s4 next 3 (next + 3) m count refl (omega arith) refl in
    let joined5 = at-behind sizes s5 next 4 (next + 4) m count refl (omega arith) refl in
    let moved_g = at-behind sizes s6 next 1 (next + 1) n count refl (omega arith) refl in
    let low = at-behind sizes s6 next 5 (next + 5) n count refl (omega arith) refl in
    let joined7 = at-behind sizes s7 next 4 (next + 4) m count refl (omega arith) refl in
    let of_both : size_of (sizes ++ s2) next + size_of (sizes ++ s2) next ≡ m = omega (arith, moved_p.size) in
    let of_old : size_of (sizes ++ s3) g + size_of (sizes ++ s3) p ≡ m = omega (arith, g3.size, p3.size) in
    behind-nothing dealt sizes (compare.order_step n next g p width ++ rest)
    (gate-suited dealt sizes [] s1 (Shr p width) _ p0.below (alone _ n p0.size)
    (gate-suited dealt sizes s1 (n ∷ []) (Shr g width) _ g1.below (alone _ n g1.size)
    (gate-suited dealt sizes s2 (m ∷ []) (Cat next next) _ (moved_p.below, moved_p.below) (alone _ m of_both)
    (gate-suited dealt sizes s3 (m ∷ []) (Cat g p) _ (g3.below, p3.below) (alone _ m of_old)
    (gate-suited dealt sizes s4 (m ∷ []) (And (next + 2) (next + 3)) _ (pair-of _ (next + 2) (next + 3) m both old) (alone _ m both.size)
    (gate-suited dealt sizes s5 (n ∷ []) (Part (next + 4) 0 n) _ (joined5.below, omega (arith, joined5.size)) refl
    (gate-suited dealt sizes s6 (n ∷ []) (Xor (next + 1) (next + 5)) _ (pair-of _ (next + 1) (next + 5) n moved_g low) (alone _ n moved_g.size)
    (gate-suited dealt sizes s7 (n ∷ []) (Part (next + 4) n n) rest (joined7.below, omega (arith, joined7.size)) refl
    (later s8 refl (at-behind sizes s8 next 6 (next + 6) n count refl (omega arith) refl)
    (at-behind sizes s8 next 7 (next + 7) n count refl (omega arith) refl))))))))))

comparing-suited :
    (dealt : List ℕ) (n : ℕ) (widths sizes : List ℕ) (next g p : ℕ) → length sizes ≡ next → At sizes g n → At sizes p n →
    Suited dealt sizes (compare.comparing n next g p widths)
comparing-suited dealt n [] sizes next g p count at_g at_p =
    let g0 = at-grown sizes [] g n at_g in
    behind-nothing dealt sizes (Low g ∷ [])
    (gate-suited dealt sizes [] (n ∷ []) (Low g) [] g0.below (alone _ n g0.size) (none-suited dealt (sizes ++ n ∷ [])))
comparing-suited dealt n (width ∷ widths) sizes next g p count at_g at_p =
    order-suited dealt sizes n next g p width (compare.comparing n (next + 8) (next + 6) (next + 7) widths) count at_g at_p
    (λ more eight at_6 at_7.
    comparing-suited dealt n widths (sizes ++ more) (next + 8) (next + 6) (next + 7) (omega (arith, length-append sizes more)) at_6 at_7)

-- the bits of all words stand before
start-suited :
    (dealt sizes : List ℕ) (first n : ℕ) → length sizes ≡ first + 55 → At sizes (first + 54) (2 * n) →
    Suited dealt sizes (compare.order_start first n ++ compare.comparing n (first + 61) (first + 58) (first + 60) bits.widths)
start-suited dealt sizes first n count all_bits =
    let next = first + 55 in
    let s1 : List ℕ = n ∷ [] in
    let s2 : List ℕ = n ∷ n ∷ [] in
    let s3 : List ℕ = n ∷ n ∷ n ∷ [] in
    let s4 : List ℕ = n ∷ n ∷ n ∷ n ∷ [] in
    let s5 : List ℕ = n ∷ n ∷ n ∷ n ∷ n ∷ [] in
    let s6 : List ℕ = n ∷ n ∷ n ∷ n ∷ n ∷ n ∷ [] in
    let bits0 = at-grown sizes [] (first + 54) (2 * n) all_bits in
    let bits1 = at-grown sizes s1 (first + 54) (2 * n) all_bits in
    let a2 = at-behind sizes s2 next 0 (first + 55) n count (omega arith) (omega arith) refl in
    let b3 = at-behind sizes s3 next 1 (first + 56) n count (omega arith) (omega arith) refl in
    let turned = at-behind sizes s3 next 2 (first + 57) n count (omega arith) (omega arith) refl in
    let a4 = at-behind sizes s4 next 0 (first + 55) n count (omega arith) (omega arith) refl in
    let b4 = at-behind sizes s4 next 1 (first + 56) n count (omega arith) (omega arith) refl in
    let differ = at-behind sizes s5 next 4 (first + 59) n count (omega arith) (omega arith) refl in
    let less = at-behind sizes s6 next 3 (first + 58) n count (omega arith) (omega arith) refl in
    let same = at-behind sizes s6 next 5 (first + 60) n count (omega arith) (omega arith) refl in
    let joins = compare.comparing n (first + 61) (first + 58) (first + 60) bits.widths in
    behind-nothing dealt sizes (compare.order_start first n ++ joins)
    (gate-suited dealt sizes [] s1 (Part (first + 54) 0 n) _ (bits0.below, omega (arith, bits0.size)) refl
    (gate-suited dealt sizes s1 (n ∷ []) (Part (first + 54) n n) _ (bits1.below, omega (arith, bits1.size)) refl
    (gate-suited dealt sizes s2 (n ∷ []) (Not (first + 55)) _ a2.below (alone _ n a2.size)
    (gate-suited dealt sizes s3 (n ∷ []) (And (first + 56) (first + 57)) _ (pair-of _ (first + 56) (first + 57) n b3 turned) (alone _ n b3.size)
    (gate-suited dealt sizes s4 (n ∷ []) (Xor (first + 55) (first + 56)) _ (pair-of _ (first + 55) (first + 56) n a4 b4) (alone _ n a4.size)
    (gate-suited dealt sizes s5 (n ∷ []) (Not (first + 59)) joins differ.below (alone _ n differ.size)
    (comparing-suited dealt n bits.widths (sizes ++ s6) (first + 61) (first + 58) (first + 60) (omega (arith, length-append sizes s6)) less same)))))))

pub comparison-suited :
    (dealt sizes : List ℕ) (first u v n : ℕ) → length sizes ≡ first → At sizes u n → At sizes v n →
    Suited dealt sizes (compare.less_plan first u v n)
comparison-suited dealt sizes first u v n count at_u at_v =
    let m = 2 * n in
    let one : List ℕ = m ∷ [] in
    let u0 = at-grown sizes [] u n at_u in
    let v0 = at-grown sizes [] v n at_v in
    let of_both : size_of (sizes ++ []) u + size_of (sizes ++ []) v ≡ m = omega (arith, u0.size, v0.size) in
    let longer : length (sizes ++ one) ≡ first + 1 = omega (arith, length-append sizes one) in
    let rest = compare.order_start first n ++ compare.comparing n (first + 61) (first + 58) (first + 60) bits.widths in
    behind-nothing dealt sizes (compare.less_plan first u v n)
    (gate-suited dealt sizes [] one (Cat u v) (bits.bits_plan (first + 1) first m ++ rest) (u0.below, v0.below) (alone _ m of_both)
    (bits-suited-then dealt (sizes ++ one) (first + 1) first m rest longer (at-behind sizes one first 0 first m count (omega arith) (omega arith) refl)
    (λ more long at_m.
    start-suited dealt ((sizes ++ one) ++ more) first n (omega (arith, length-append (sizes ++ one) more))
    (subst (λ k. At ((sizes ++ one) ++ more) k m) (omega arith) at_m))))

pub signed-suited :
    (dealt sizes : List ℕ) (first u v n : ℕ) → length sizes ≡ first → At sizes u n → At sizes v n →
    Suited dealt sizes (signed_less_plan first u v n)
signed-suited dealt sizes first u v n count at_u at_v =
    let s1 : List ℕ = n ∷ [] in
    let s2 : List ℕ = n ∷ n ∷ [] in
    let s3 : List ℕ = n ∷ n ∷ n ∷ [] in
    let u1 = at-grown sizes s1 u n at_u in
    let v2 = at-grown sizes s2 v n at_v in
    let halves1 = at-behind sizes s1 first 0 first n count (omega arith) (omega arith) refl in
    let halves2 = at-behind sizes s2 first 0 first n count (omega arith) (omega arith) refl in
    let longer : length (sizes ++ s3) ≡ first + 3 = omega (arith, length-append sizes s3) in
    behind-nothing dealt sizes (signed_less_plan first u v n)
    (gate-suited dealt sizes [] s1 (Const (replicate n half)) _ tt (alone _ n (length-replicate n half))
    (gate-suited dealt sizes s1 s1 (Add u first) _ (pair-of _ u first n u1 halves1) (alone _ n u1.size)
    (gate-suited dealt sizes s2 s1 (Add v first) _ (pair-of _ v first n v2 halves2) (alone _ n v2.size)
    (comparison-suited dealt (sizes ++ s3) (first + 3) (first + 1) (first + 2) n longer
    (at-behind sizes s3 first 1 (first + 1) n count refl (omega arith) refl)
    (at-behind sizes s3 first 2 (first + 2) n count refl (omega arith) refl)))))

-- ---- look-up

-- the elements n m times over, the tests as numbers, their products, and the sums of these
sums-suited :
    (dealt sizes : List ℕ) (next array tests n m : ℕ) → length sizes ≡ next → At sizes array n → At sizes tests (n * m) →
    Suited dealt sizes (Conv tests ∷ Tile array m ∷ Mul (next + 1) next ∷ SumEach (next + 2) n m ∷ [])
sums-suited dealt sizes next array tests n m count at_array at_tests =
    let k = n * m in
    let s1 : List ℕ = k ∷ [] in
    let s2 : List ℕ = k ∷ k ∷ [] in
    let s3 : List ℕ = k ∷ k ∷ k ∷ [] in
    let tests0 = at-grown sizes [] tests k at_tests in
    let array1 = at-grown sizes s1 array n at_array in
    let factors = at-behind sizes s2 next 0 next k count (omega arith) (omega arith) refl in
    let elements = at-behind sizes s2 next 1 (next + 1) k count refl (omega arith) refl in
    let products = at-behind sizes s3 next 2 (next + 2) k count refl (omega arith) refl in
    behind-nothing dealt sizes (Conv tests ∷ Tile array m ∷ Mul (next + 1) next ∷ SumEach (next + 2) n m ∷ [])
    (gate-suited dealt sizes [] s1 (Conv tests) _ tests0.below (alone _ k tests0.size)
    (gate-suited dealt sizes s1 s1 (Tile array m) _ array1.below (alone _ k (ap (λ z. z * m) array1.size))
    (gate-suited dealt sizes s2 s1 (Mul (next + 1) next) _ (pair-of _ (next + 1) next k elements factors) (alone _ k elements.size)
    (gate-suited dealt sizes s3 (m ∷ []) (SumEach (next + 2) n m) [] (products.below, products.size) refl
    (none-suited dealt (sizes ++ (s3 ++ m ∷ [])))))))

pub lookup-suited :
    (dealt sizes : List ℕ) (first array index n m : ℕ) → length sizes ≡ first → At sizes array n → At sizes index m →
    Suited dealt sizes (lookup_plan first array index n m)
lookup-suited dealt sizes first array index n m count at_array at_index =
    let k = n * m in
    let s1 : List ℕ = k ∷ [] in
    let s2 : List ℕ = k ∷ k ∷ [] in
    let s3 : List ℕ = k ∷ k ∷ k ∷ [] in
    let index0 = at-grown sizes [] index m at_index in
    let indices = at-behind sizes s2 first 0 first k count (omega arith) (omega arith) refl in
    let all_places = at-behind sizes s2 first 1 (first + 1) k count refl (omega arith) refl in
    let difference = at-behind sizes s3 first 2 (first + 2) k count refl (omega arith) refl in
    let array3 = at-grown sizes s3 array n at_array in
    let longer : length (sizes ++ s3) ≡ first + 3 = omega (arith, length-append sizes s3) in
    let last : List Gate = Conv (first + 19) ∷ Tile array m ∷ Mul (first + 21) (first + 20) ∷ SumEach (first + 22) n m ∷ [] in
    let same_last : Conv (first + 3 + 16) ∷ Tile array m ∷ Mul (first + 20 + 1) (first + 20) ∷ SumEach (first + 20 + 2) n m ∷ [] ≡ last =
    numbered (first + 3 + 16) (first + 19) (first + 20 + 1) (first + 21) (first + 20 + 2) (first + 22) (omega arith) (omega arith) (omega arith) in
    behind-nothing dealt sizes (lookup_plan first array index n m)
    (gate-suited dealt sizes [] s1 (Stretch index n) _ index0.below (alone _ k (ap (λ z. z * n) index0.size ∙ mul_comm m n))
    (gate-suited dealt sizes s1 s1 (Const (places n m)) _ tt (alone _ k (length-places n m))
    (gate-suited dealt sizes s2 s1 (Sub first (first + 1)) _ (pair-of _ first (first + 1) k indices all_places) (alone _ k indices.size)
    (zero-test-suited-then dealt (sizes ++ s3) (first + 3) (first + 2) k last longer difference
    (λ more long at_m.
    subst (Suited dealt ((sizes ++ s3) ++ more)) same_last
    (sums-suited dealt ((sizes ++ s3) ++ more) (first + 20) array (first + 3 + 16) n m (omega (arith, length-append (sizes ++ s3) more))
    (at-grown (sizes ++ s3) more array n array3) at_m))))))
  where
    numbered : (a b c d e f : ℕ) → a ≡ b → c ≡ d → e ≡ f →
        Conv a ∷ Tile array m ∷ Mul c (first + 20) ∷ SumEach e n m ∷ [] ≡ Conv b ∷ Tile array m ∷ Mul d (first + 20) ∷ SumEach f n m ∷ []
    numbered a b c d e f x y z = cc
