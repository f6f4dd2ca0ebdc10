-- What is made of words of a field, read where they stand.
use Rattle.std.proofs.Common.{◌≡◌, ℕ, ◌+◌, ◌*◌, ◌<◌, List, sym, ◌∙◌, ap, arith, bit_xor}
use Rattle.proto_core.specs.Rings.{add_ring}
use Rattle.proto_core.specs.Lists.{at, each, part}
use Rattle.proto_core.specs.Elementwise.{plus, minus, zeros}
use Rattle.proto_core.specs.Resharing.{reshared}
use Rattle.proto_core.proofs.Each.{at-each, each-ext}
use Rattle.proto_core.proofs.Parts.{at-part}
use Rattle.share_convert.specs.Bits.{bit, xor_bits, bits_less, chosen, one_less_where, negative_where}
use Rattle.share_convert.specs.ConvStrand.{Held, one_share, two_share, three_share}

-- each share at one place
abbrev pub one_at : (mask got : List ℕ) → ℕ → ℕ
one_at mask got k = add_ring.sub (add_ring.add add_ring.zero (at mask k)) (at got k)

abbrev pub two_at : Held → (got : List ℕ) → ℕ → ℕ
two_at h got k =
    add_ring.add (chosen (bit (bit_xor (at h.bits k) (at got k))) (at h.word k) (add_ring.sub 1 (at h.word k))) (at h.mask k)

abbrev pub three_at : Held → (got : List ℕ) → (n k : ℕ) → ℕ
three_at h got n k =
    add_ring.sub
    (add_ring.add (chosen (bit (bit_xor (at got k) (at h.bits k))) (at h.word k) (add_ring.neg (at h.word k))) (at h.mask k))
    (at got (n + k))

at-first : (n : ℕ) (words : List ℕ) (k : ℕ) → k < n → at (part n 0 words) k ≡ at words k
at-first n words k h = at-part n 0 words k h ∙ ap (at words) (omega arith)

at-second : (n : ℕ) (words : List ℕ) (k : ℕ) → k < n → at (part n 1 words) k ≡ at words (n + k)
at-second n words k h = at-part n 1 words k h ∙ ap (at words) (omega arith)

pub xor-field :
    (n j from : ℕ) (x words : List ℕ) → from ≡ j * n →
    each n (λ k. bit (bit_xor (at words (from + k)) (at x k))) ≡ xor_bits n (part n j words) x
unfolding xor_bits
xor-field n j from x words e =
    ap (λ f. each n (λ k. bit (bit_xor (at words (f + k)) (at x k)))) e
    ∙ each-ext n _ _ (λ k h. ap (λ w. bit (bit_xor w (at x k))) (sym (at-part n j words k h)))

pub minus-field :
    (n j from : ℕ) (x words : List ℕ) → from ≡ j * n →
    each n (λ k. add_ring.sub (at x k) (at words (from + k))) ≡ minus add_ring n x (part n j words)
unfolding minus
minus-field n j from x words e =
    ap (λ f. each n (λ k. add_ring.sub (at x k) (at words (f + k)))) e
    ∙ each-ext n _ _ (λ k h. ap (add_ring.sub (at x k)) (sym (at-part n j words k h)))

pub less-fields :
    (n from : ℕ) (x words : List ℕ) → from ≡ 2 * n →
    each n (λ k. add_ring.sub (bit (bit_xor (at words k) (at x k))) (at words (from + k))) ≡ bits_less n (part n 0 words) x (part n 2 words)
unfolding bits_less
less-fields n from x words e =
    ap (λ f. each n (λ k. add_ring.sub (bit (bit_xor (at words k) (at x k))) (at words (f + k)))) e
    ∙ each-ext n _ _
    (λ k h.
    ap (λ w. add_ring.sub (bit (bit_xor w (at x k))) (at words (2 * n + k))) (sym (at-first n words k h))
    ∙ ap (add_ring.sub (bit (bit_xor (at (part n 0 words) k) (at x k)))) (sym (at-part n 2 words k h)))

pub one-is : (n : ℕ) (h : Held) (got : List ℕ) → each n (one_at h.mask got) ≡ one_share n h got
unfolding reshared zeros
one-is n h got =
    each-ext n _ _
    (λ k b. ap (λ w. add_ring.sub (add_ring.add w (at h.mask k)) (at got k)) (sym (at-each n (λ i. add_ring.zero) k b)))

pub two-is : (n : ℕ) (h : Held) (got : List ℕ) → each n (two_at h got) ≡ two_share n h got
unfolding plus one_less_where xor_bits
two-is n h got =
    each-ext n _ _
    (λ k b.
    ap (λ w. add_ring.add (chosen w (at h.word k) (add_ring.sub 1 (at h.word k))) (at h.mask k))
    (sym (at-each n (λ i. bit (bit_xor (at h.bits i) (at got i))) k b))
    ∙ ap (λ w. add_ring.add w (at h.mask k))
    (sym (at-each n (λ i. chosen (at (xor_bits n h.bits got) i) (at h.word i) (add_ring.sub 1 (at h.word i))) k b)))

pub three-is : (n : ℕ) (h : Held) (got : List ℕ) → each n (three_at h got n) ≡ three_share n h got
unfolding reshared negative_where xor_bits
three-is n h got =
    each-ext n _ _
    (λ k b.
    let bits = xor_bits n (part n 0 got) h.bits in
    let bit_is : at bits k ≡ bit (bit_xor (at got k) (at h.bits k)) =
    at-each n (λ i. bit (bit_xor (at (part n 0 got) i) (at h.bits i))) k b ∙ ap (λ w. bit (bit_xor w (at h.bits k))) (at-first n got k b) in
    ap (λ w. add_ring.sub (add_ring.add (chosen w (at h.word k) (add_ring.neg (at h.word k))) (at h.mask k)) (at got (n + k))) (sym bit_is)
    ∙ ap (λ w. add_ring.sub (add_ring.add w (at h.mask k)) (at got (n + k)))
    (sym (at-each n (λ i. chosen (at bits i) (at h.word i) (add_ring.neg (at h.word i))) k b))
    ∙ ap (add_ring.sub (add_ring.add (at (negative_where n bits h.word) k) (at h.mask k))) (sym (at-second n got k b)))
