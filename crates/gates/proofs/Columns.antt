-- Values of n words, word by word: what gates make of them.
use Rattle.std.proofs.Common.{◌≡◌, ℕ, ◌+◌, ◌<◌, Bool, true, false, Some, List, [], ◌++◌, length, map, take, drop, get_or, refl, sym, ◌∙◌, ap, arith}
use Rattle.std.proofs.Common.{length-drop, length-append}
use Rattle.std.specs.Prelude.{slice_get}
use Rattle.std.specs.List.{zip}
use Rattle.std.proofs.lemmas.List.{get_or-map, length-map, get_or-take, get_or-drop, length-take-le, get_or_append_left, get_or-append-add, ext_get_or}
use Rattle.std.proofs.lemmas.Slice.Zip.{length-zip, get_or-zip}
use Rattle.std.proofs.lemmas.Option.{get_or_from_slice_get}
use Rattle.proto_core.specs.Rings.{add_ring}
use Rattle.gates.specs.Clear.{Values, value, each_two, IsSplit}

-- the word at an index
abbrev pub word : List ℕ → ℕ → ℕ
word xs k = get_or xs k 0

-- xs has n words, f of each index
pub record Column (n : ℕ) (f : ℕ → ℕ) (xs : List ℕ) : Type 0 where
  pub size : length xs ≡ n
  pub words : (k : ℕ) → k < n → word xs k ≡ f k

-- xs has n words, f of each index, and then n words, g of each index
pub record TwoColumns (n : ℕ) (f g : ℕ → ℕ) (xs : List ℕ) : Type 0 where
  pub size : length xs ≡ n + n
  pub first : (k : ℕ) → k < n → word xs k ≡ f k
  pub second : (k : ℕ) → k < n → word xs (n + k) ≡ g k

-- what stands at a number
pub stands : (values : Values) (m : ℕ) {xs : List ℕ} → slice_get values m ≡ Some xs → value values m ≡ xs
stands values m {xs} e = get_or_from_slice_get values m xs [] e

-- ---- columns

pub Column-of : (n : ℕ) (xs : List ℕ) → length xs ≡ n → Column n (word xs) xs
Column-of n xs e = record { size = e; words = λ k lt. refl }

pub Column-same : {n : ℕ} {f : ℕ → ℕ} {xs ys : List ℕ} → ys ≡ xs → Column n f xs → Column n f ys
Column-same {xs = xs} {ys = ys} e c = record { size = ap length e ∙ c.size; words = λ k lt. ap (λ l. word l k) e ∙ c.words k lt }

pub Column-ext : {n : ℕ} {f g : ℕ → ℕ} {xs : List ℕ} → ((k : ℕ) → k < n → f k ≡ g k) → Column n f xs → Column n g xs
Column-ext same c = record { size = c.size; words = λ k lt. c.words k lt ∙ same k lt }

pub same_columns : (n : ℕ) (f : ℕ → ℕ) (xs ys : List ℕ) → Column n f xs → Column n f ys → xs ≡ ys
same_columns n f xs ys c d =
    ext_get_or 0 xs ys (c.size ∙ sym d.size) (λ k lt. let below : k < n = omega (arith, c.size) in c.words k below ∙ sym (d.words k below))

pub Column-map : {n : ℕ} {f : ℕ → ℕ} {xs : List ℕ} (h : ℕ → ℕ) → Column n f xs → Column n (λ k. h (f k)) (map h xs)
Column-map {n = n} {f = f} {xs = xs} h c =
    record {
      size = length-map xs h ∙ c.size;
      words = λ k lt. get_or-map h xs k 0 0 (omega (arith, c.size)) ∙ ap h (c.words k lt);
    }

pub Column-each_two : {n : ℕ} {f g : ℕ → ℕ} {xs ys : List ℕ} (h : ℕ → ℕ → ℕ) → Column n f xs → Column n g ys → Column n (λ k. h (f k) (g k)) (each_two h xs ys)
Column-each_two {n = n} {f = f} {g = g} {xs = xs} {ys = ys} h c d =
    record {
      size = length-map (zip xs ys) (λ (p : ℕ × ℕ). h p.0 p.1) ∙ omega (arith, length-zip xs ys, c.size, d.size);
      words = λ k lt.
          let in_first : k < length xs = omega (arith, c.size) in
          let in_second : k < length ys = omega (arith, d.size) in
          let in_both : k < length (zip xs ys) = omega (arith, length-zip xs ys) in
          get_or-map (λ (p : ℕ × ℕ). h p.0 p.1) (zip xs ys) k (0, 0) 0 in_both
          ∙ ap (λ (p : ℕ × ℕ). h p.0 p.1) (get_or-zip xs ys k (0, 0) in_first in_second)
          ∙ ap (λ x. h x (word ys k)) (c.words k lt) ∙ ap (h (f k)) (d.words k lt);
    }

-- ---- two columns in a row

pub TwoColumns-same : {n : ℕ} {f g : ℕ → ℕ} {xs ys : List ℕ} → ys ≡ xs → TwoColumns n f g xs → TwoColumns n f g ys
TwoColumns-same {n = n} e c =
    record {
      size = ap length e ∙ c.size;
      first = λ k lt. ap (λ l. word l k) e ∙ c.first k lt;
      second = λ k lt. ap (λ l. word l (n + k)) e ∙ c.second k lt;
    }

pub TwoColumns-append : {n : ℕ} {f g : ℕ → ℕ} {xs ys : List ℕ} → Column n f xs → Column n g ys → TwoColumns n f g (xs ++ ys)
TwoColumns-append {n = n} {xs = xs} {ys = ys} c d =
    record {
      size = omega (arith, length-append xs ys, c.size, d.size);
      first = λ k lt. get_or_append_left xs ys 0 k (omega (arith, c.size)) ∙ c.words k lt;
      second = λ k lt. ap (λ m. word (xs ++ ys) (m + k)) (sym c.size) ∙ get_or-append-add xs ys k 0 ∙ d.words k lt;
    }

pub TwoColumns-each_two : {n : ℕ} {f g u v : ℕ → ℕ} {xs ys : List ℕ} (h : ℕ → ℕ → ℕ) → TwoColumns n f g xs → TwoColumns n u v ys
    → TwoColumns n (λ k. h (f k) (u k)) (λ k. h (g k) (v k)) (each_two h xs ys)
TwoColumns-each_two {n = n} {f = f} {g = g} {u = u} {v = v} {xs = xs} {ys = ys} h c d =
    let whole = Column-each_two h (Column-of (n + n) xs c.size) (Column-of (n + n) ys d.size) in
    record {
      size = whole.size;
      first = λ k lt. whole.words k (omega arith) ∙ ap (λ x. h x (word ys k)) (c.first k lt) ∙ ap (h (f k)) (d.first k lt);
      second = λ k lt. whole.words (n + k) (omega arith) ∙ ap (λ x. h x (word ys (n + k))) (c.second k lt) ∙ ap (h (g k)) (d.second k lt);
    }

pub first_part : {n : ℕ} {f g : ℕ → ℕ} {xs : List ℕ} → TwoColumns n f g xs → Column n f (take n (drop 0 xs))
first_part {n = n} {xs = xs} c =
    record { size = length-take-le n xs (omega (arith, c.size)); words = λ k lt. get_or-take n xs k 0 lt ∙ c.first k lt }

pub second_part : {n : ℕ} {f g : ℕ → ℕ} {xs : List ℕ} → TwoColumns n f g xs → Column n g (take n (drop n xs))
second_part {n = n} {xs = xs} c =
    record {
      size = length-take-le n (drop n xs) (omega (arith, c.size, length-drop n xs));
      words = λ k lt. get_or-take n (drop n xs) k 0 lt ∙ get_or-drop n xs k 0 ∙ c.second k lt;
    }

-- ---- what is split

pub Column-split : {n : ℕ} {f : ℕ → ℕ} {us xs ys : List ℕ} (negated : Bool) → IsSplit negated us xs ys → Column n f us
    → Column n (word xs) xs × Column n (word ys) ys
Column-split {n = n} {us = us} {xs = xs} {ys = ys} false split c =
    let long : length xs ≡ n = sizes add_ring.add split.join split.same_size c.size in
    (Column-of n xs long, Column-of n ys (sym split.same_size ∙ long))
  where
    sizes : (h : ℕ → ℕ → ℕ) → each_two h xs ys ≡ us → length xs ≡ length ys → length us ≡ n → length xs ≡ n
    sizes h e same size = sym (Column-each_two h (Column-of (length xs) xs refl) (Column-of (length xs) ys (sym same))).size ∙ ap length e ∙ size
Column-split {n = n} {us = us} {xs = xs} {ys = ys} true split c =
    let long : length xs ≡ n = sizes add_ring.sub split.join split.same_size c.size in
    (Column-of n xs long, Column-of n ys (sym split.same_size ∙ long))
  where
    sizes : (h : ℕ → ℕ → ℕ) → each_two h xs ys ≡ us → length xs ≡ length ys → length us ≡ n → length xs ≡ n
    sizes h e same size = sym (Column-each_two h (Column-of (length xs) xs refl) (Column-of (length xs) ys (sym same))).size ∙ ap length e ∙ size
