-- Two inputs, entry by entry, and two lists of words, word by word.
use Rattle.std.proofs.Common.{
  ◌≡◌,
  ℕ,
  suc,
  ◌+◌,
  ◌<◌,
  ◌≤◌,
  get_or,
  min,
  List,
  [],
  ◌∷◌,
  ◌++◌,
  ◌⊎◌,
  length,
  take,
  drop,
  refl,
  sym,
  ◌∙◌,
  ap,
  inl,
  inr,
  arith,
  take-append-drop,
}
use Rattle.std.proofs.Math.Seq.{drop-cons}
use Rattle.std.proofs.lemmas.Bool.{cases_lt}
use Rattle.std.proofs.lemmas.List.{map-append, length-map, length-take-le, drop_all, take_all, take_more}
use Rattle.proto_core.proofs.Beginnings.{append-none}
use Rattle.value_file.specs.declared.inputs.Entry.{Entry}
use Rattle.value_file.specs.declared.public.PublicEntry.{PublicEntry}
use Rattle.value_file.specs.Public.{public_entry, part_of}
use Rattle.tape_twin.specs.Alike.{PartsDiffer, ListsDiffer, OneBegins}

-- ---- entries

-- so far the public parts are the same
pub record SameUpTo (first second : List Entry) (k : ℕ) : Type 0 where
  pub within : k ≤ length second
  pub same : part_of (take k first) ≡ part_of (take k second)

pub none-seen : (first second : List Entry) → SameUpTo first second 0
none-seen first second = record { within = omega arith; same = refl }

cut : (es : List Entry) (k : ℕ) → part_of es ≡ part_of (take k es) ++ part_of (drop k es)
cut es k = ap part_of (sym (take-append-drop k es)) ∙ map-append public_entry (take k es) (drop k es)

at-place : (es : List Entry) (k : ℕ) (e : Entry) → k < length es → e ≡ get_or es k e → drop k es ≡ e ∷ drop (suc k) es
at-place es k e below is = drop-cons es k e below ∙ ap (λ (x : Entry). x ∷ drop (suc k) es) (sym is)

-- the entry of a place, read twice
pub same-there : (es : List Entry) (k : ℕ) (x y : Entry) → k < length es → x ≡ get_or es k x → y ≡ get_or es k y → x ≡ y
same-there es k x y below is there =
    let first : drop k es ≡ x ∷ drop (suc k) es = at-place es k x below is in
    let second : drop k es ≡ y ∷ drop (suc k) es = at-place es k y below there in
    cc

part-at : (es : List Entry) (k : ℕ) (e : Entry) → k < length es → e ≡ get_or es k e → part_of (drop k es) ≡ public_entry e ∷ part_of (drop (suc k) es)
part-at es k e below is = ap part_of (at-place es k e below is)

pub one-more :
    (first second : List Entry) (k : ℕ) (x y : Entry) → k < length first → k < length second → x ≡ get_or first k x → y ≡ get_or second k y →
    public_entry x ≡ public_entry y → SameUpTo first second k → SameUpTo first second (k + 1)
one-more first second k x y below other is there same so_far =
    record {
      within = omega arith;
      same =
          ap part_of (take_more first k x below ∙ ap (λ (e : Entry). take k first ++ e ∷ []) (sym is))
          ∙ map-append public_entry (take k first) (x ∷ [])
          ∙ ap (λ (l : List PublicEntry). l ++ public_entry x ∷ []) so_far.same
          ∙ ap (λ (e : PublicEntry). part_of (take k second) ++ e ∷ []) same
          ∙ sym (map-append public_entry (take k second) (y ∷ []))
          ∙ sym (ap part_of (take_more second k y other ∙ ap (λ (e : Entry). take k second ++ e ∷ []) (sym there)));
    }

-- the entries of this place are not the same
pub other-entry :
    (first second : List Entry) (k : ℕ) (x y : Entry) (name : List ℕ) → k < length first → k < length second → x ≡ get_or first k x →
    y ≡ get_or second k y → (public_entry x ≡ public_entry y → ⊥) → name ≡ x.name → SameUpTo first second k →
    PartsDiffer (part_of first) (part_of second) name
other-entry first second k x y name below other is there differ named so_far =
    record {
      common = part_of (take k second);
      rest = public_entry x ∷ part_of (drop (suc k) first);
      other = public_entry y ∷ part_of (drop (suc k) second);
      first_is =
          cut first k
          ∙ ap (λ (l : List PublicEntry). l ++ part_of (drop k first)) so_far.same
          ∙ ap (λ (l : List PublicEntry). part_of (take k second) ++ l) (part-at first k x below is);
      second_is = cut second k ∙ ap (λ (l : List PublicEntry). part_of (take k second) ++ l) (part-at second k y other there);
      here = (named, differ);
    }

-- the second inputs end here
pub second-ends :
    (first second : List Entry) (k : ℕ) (x : Entry) (name : List ℕ) → k < length first → length second ≤ k → x ≡ get_or first k x →
    name ≡ x.name → SameUpTo first second k → PartsDiffer (part_of first) (part_of second) name
second-ends first second k x name below past is named so_far =
    record {
      common = part_of (take k second);
      rest = public_entry x ∷ part_of (drop (suc k) first);
      other = [];
      first_is =
          cut first k
          ∙ ap (λ (l : List PublicEntry). l ++ part_of (drop k first)) so_far.same
          ∙ ap (λ (l : List PublicEntry). part_of (take k second) ++ l) (part-at first k x below is);
      second_is = cut second k ∙ ap (λ (l : List Entry). part_of (take k second) ++ part_of l) (drop_all k second past);
      here = named;
    }

-- the first inputs end, and the second ones go on
pub first-ends :
    (first second : List Entry) (k n : ℕ) (y : Entry) (name : List ℕ) → length first ≤ k → n ≡ length first → n < length second →
    y ≡ get_or second n y → name ≡ y.name → SameUpTo first second k → PartsDiffer (part_of first) (part_of second) name
first-ends first second k n y name past size more there named so_far =
    let same : part_of first ≡ part_of (take k second) = ap part_of (sym (take_all k first past)) ∙ so_far.same in
    let len : length first ≡ length (take k second) = sym (length-map first public_entry) ∙ ap length same ∙ length-map (take k second) public_entry in
    let taken : length (take k second) ≡ k = length-take-le k second so_far.within in
    let here : k ≡ n = omega arith in
    record {
      common = part_of (take n second);
      rest = [];
      other = public_entry y ∷ part_of (drop (suc n) second);
      first_is = same ∙ ap (λ m. part_of (take m second)) here ∙ sym (append-none (part_of (take n second)));
      second_is = cut second n ∙ ap (λ (l : List PublicEntry). part_of (take n second) ++ l) (part-at second n y more there);
      here = named;
    }

pub all-same :
    (first second : List Entry) (k : ℕ) → length first ≤ k → length second ≤ length first → SameUpTo first second k → part_of first ≡ part_of second
all-same first second k past size so_far =
    ap part_of (sym (take_all k first past)) ∙ so_far.same ∙ ap part_of (take_all k second (omega arith))

-- ---- words

pub lists-differ :
    {A : Type 0} (d : A) (first second : List A) (k : ℕ) (x y : A) → k < length first → k < length second → x ≡ get_or first k d → y ≡ get_or second k d →
    (x ≡ y → ⊥) → take k first ≡ take k second → ListsDiffer first second k x y
lists-differ {A = A} d first second k x y below other is there differ same =
    record {
      common = take k second;
      rest = drop (suc k) first;
      other = drop (suc k) second;
      count = length-take-le k second (omega arith);
      first_is =
          sym (take-append-drop k first)
          ∙ ap (λ (l : List A). l ++ drop k first) same
          ∙ ap (λ (l : List A). take k second ++ l) (drop-cons first k d below ∙ ap (λ w. w ∷ drop (suc k) first) (sym is));
      second_is =
          sym (take-append-drop k second)
          ∙ ap (λ (l : List A). take k second ++ l) (drop-cons second k d other ∙ ap (λ w. w ∷ drop (suc k) second) (sym there));
      differ = differ;
    }

pub one-begins :
    {A : Type 0} (first second : List A) (k : ℕ) → take k first ≡ take k second → (length first ≤ k) ⊎ (length second ≤ k) → OneBegins first second
one-begins {A = A} first second k same ends =
    elim ends as (λ _. OneBegins first second) [
      | inl past ↦
          inr (record {
            more = drop k second;
            is =
                sym (take-append-drop k second) ∙ ap (λ (l : List A). l ++ drop k second) (sym same ∙ take_all k first past);
          })
      | inr past ↦
          inl (record { more = drop k first; is = sym (take-append-drop k first) ∙ ap (λ (l : List A). l ++ drop k first) (same ∙ take_all k second past) })
    ]

pub past-shorter : (m n k : ℕ) → min m n ≤ k → (m ≤ k) ⊎ (n ≤ k)
past-shorter m n k past = elim (cases_lt k m) as (λ _. (m ≤ k) ⊎ (n ≤ k)) [ inl below ↦ inr (omega arith) | inr done ↦ inl done ]
