-- Operations element by element, on words in front and words after them.
use Rattle.std.proofs.Common.{◌≡◌, ℕ, zero, suc, ◌+◌, bit_xor, List, [], ◌∷◌, ◌++◌, length, take, drop, sym, ◌∙◌, ap, arith, append_assoc}
use Rattle.std.proofs.lemmas.List.{get_or-take, get_or-drop}
use Rattle.proto_core.specs.Ring.{Ring}
use Rattle.proto_core.specs.Lists.{at, each}
use Rattle.proto_core.specs.Elementwise.{plus, minus}
use Rattle.proto_core.specs.Resharing.{sum_of_three}
use Rattle.proto_core.proofs.Each.{each_none, each_more, each-ext}
use Rattle.proto_core.proofs.Beginnings.{append-none}
use Rattle.proto_core.proofs.MessageFields.{take-front, drop-front}
use Rattle.multiply.specs.Products.{times}
use Rattle.share_convert.specs.Bits.{bit, xor_bits_of_three}

pub each-cut : (m n : ℕ) (f : ℕ → ℕ) → each (m + n) f ≡ each m f ++ each n (λ k. f (m + k))
each-cut m zero f =
    ap (λ k. each k f) (omega arith)
    ∙ sym (append-none (each m f))
    ∙ ap (λ l. each m f ++ l) (sym (each_none (λ k. f (m + k))))
each-cut m (suc n) f =
    ap (λ k. each k f) (omega arith)
    ∙ each_more (m + n) f
    ∙ ap (λ l. l ++ f (m + n) ∷ []) (each-cut m n f)
    ∙ append_assoc (each m f) (each n (λ k. f (m + k))) (f (m + n) ∷ [])
    ∙ ap (λ l. each m f ++ l) (sym (each_more n (λ k. f (m + k))))
    ∙ ap (λ k. each m f ++ each k (λ i. f (m + i))) (omega arith)

-- of three lists, element by element
pub three-cut :
    (F : ℕ → ℕ → ℕ → ℕ) (m n : ℕ) (x y z : List ℕ) →
    each (m + n) (λ k. F (at x k) (at y k) (at z k))
    ≡ each m (λ k. F (at (take m x) k) (at (take m y) k) (at (take m z) k))
    ++ each n (λ k. F (at (drop m x) k) (at (drop m y) k) (at (drop m z) k))
three-cut F m n x y z =
    each-cut m n (λ k. F (at x k) (at y k) (at z k))
    ∙ ap (λ l. l ++ each n (λ k. F (at x (m + k)) (at y (m + k)) (at z (m + k))))
    (each-ext m _ _
    (λ k h.
    ap (λ a. F a (at y k) (at z k)) (sym (get_or-take m x k 0 h))
    ∙ ap (λ a. F (at (take m x) k) a (at z k)) (sym (get_or-take m y k 0 h))
    ∙ ap (λ a. F (at (take m x) k) (at (take m y) k) a) (sym (get_or-take m z k 0 h))))
    ∙ ap (λ l. each m (λ k. F (at (take m x) k) (at (take m y) k) (at (take m z) k)) ++ l)
    (each-ext n _ _
    (λ k h.
    ap (λ a. F a (at y (m + k)) (at z (m + k))) (sym (get_or-drop m x k 0))
    ∙ ap (λ a. F (at (drop m x) k) a (at z (m + k))) (sym (get_or-drop m y k 0))
    ∙ ap (λ a. F (at (drop m x) k) (at (drop m y) k) a) (sym (get_or-drop m z k 0))))

module _ (r : Ring) (m n : ℕ) where
  pub sum-cut :
      (x y z : List ℕ) →
      sum_of_three r (m + n) x y z ≡ sum_of_three r m (take m x) (take m y) (take m z) ++ sum_of_three r n (drop m x) (drop m y) (drop m z)
  unfolding sum_of_three
  sum-cut x y z = three-cut (λ a b c. r.add (r.add a b) c) m n x y z

  pub times-cut : (x y : List ℕ) → times r (m + n) x y ≡ times r m (take m x) (take m y) ++ times r n (drop m x) (drop m y)
  unfolding times
  times-cut x y = three-cut (λ a b c. r.mul a b) m n x y y

  pub plus-cut : (x y : List ℕ) → plus r (m + n) x y ≡ plus r m (take m x) (take m y) ++ plus r n (drop m x) (drop m y)
  unfolding plus
  plus-cut x y = three-cut (λ a b c. r.add a b) m n x y y

  pub minus-cut : (x y : List ℕ) → minus r (m + n) x y ≡ minus r m (take m x) (take m y) ++ minus r n (drop m x) (drop m y)
  unfolding minus
  minus-cut x y = three-cut (λ a b c. r.sub a b) m n x y y

pub xor_bits-cut :
    (m n : ℕ) (x y z : List ℕ) →
    xor_bits_of_three (m + n) x y z
    ≡ xor_bits_of_three m (take m x) (take m y) (take m z) ++ xor_bits_of_three n (drop m x) (drop m y) (drop m z)
unfolding xor_bits_of_three
xor_bits-cut m n x y z = three-cut (λ a b c. bit (bit_xor (bit_xor a b) c)) m n x y z

-- ---- no words

pub sum-none : (r : Ring) (x y z : List ℕ) → sum_of_three r 0 x y z ≡ []
unfolding sum_of_three
sum-none r x y z = each_none _

pub times-none : (r : Ring) (x y : List ℕ) → times r 0 x y ≡ []
unfolding times
times-none r x y = each_none _

pub plus-none : (r : Ring) (x y : List ℕ) → plus r 0 x y ≡ []
unfolding plus
plus-none r x y = each_none _

pub minus-none : (r : Ring) (x y : List ℕ) → minus r 0 x y ≡ []
unfolding minus
minus-none r x y = each_none _

pub xor_bits-none : (x y z : List ℕ) → xor_bits_of_three 0 x y z ≡ []
unfolding xor_bits_of_three
xor_bits-none x y z = each_none _

-- ---- lists end to end

-- an operation of two lists that goes by elements
pub two-ends :
    (op : ℕ → List ℕ → List ℕ → List ℕ) (m n : ℕ) →
    ((x y : List ℕ) → op (m + n) x y ≡ op m (take m x) (take m y) ++ op n (drop m x) (drop m y)) →
    (x1 x2 y1 y2 : List ℕ) → length x1 ≡ m → length y1 ≡ m →
    op (m + n) (x1 ++ x2) (y1 ++ y2) ≡ op m x1 y1 ++ op n x2 y2
two-ends op m n cut x1 x2 y1 y2 hx hy =
    let x : List ℕ = x1 ++ x2 in
    let y : List ℕ = y1 ++ y2 in
    cut x y
    ∙ ap (λ w. op m w (take m y) ++ op n (drop m x) (drop m y)) (take-front m x1 x2 hx)
    ∙ ap (λ w. op m x1 w ++ op n (drop m x) (drop m y)) (take-front m y1 y2 hy)
    ∙ ap (λ w. op m x1 y1 ++ op n w (drop m y)) (drop-front m x1 x2 hx)
    ∙ ap (λ w. op m x1 y1 ++ op n x2 w) (drop-front m y1 y2 hy)
