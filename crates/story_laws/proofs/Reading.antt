-- Of its tape a strand reads only the words that are counted.
use Rattle.std.proofs.Common.{◌≡◌, ◌≤◌, ◌+◌, ◌-◌, ℕ, zero, suc, List, [], ◌∷◌, length, take, drop}
use Rattle.std.proofs.Common.{length-drop, refl, sym, ◌∙◌, ap, subst, arith}
use Rattle.std.specs.Prelude.{◌<◌}
use Rattle.std.proofs.lemmas.List.{length-take-le}
use Rattle.proto_core.specs.Strand.{Notice, Mail, Strand, Ends, Ran, run, then_do}
use Rattle.proto_core.specs.Net.{added}
use Rattle.driven_nodes.specs.Driven.{telling}
use Rattle.story_laws.specs.Drawn.{drawn_behind}
use Rattle.story_laws.specs.Alike.{RunAlike}
use Rattle.story_laws.proofs.Alike.{run_self, alike_then, alike_telling, left_then, left_telling, behind_same, behind_at, behind_most, behind_grows}
use Rattle.story_laws.proofs.Alike.{behind_some}

-- ---- fronts of lists

take_none : (n : ℕ) → take {A = ℕ} n [] ≡ []
take_none zero = refl
take_none (suc n) = refl

take_first : (a c : ℕ) (xs : List ℕ) → a ≤ c → take a (take c xs) ≡ take a xs
take_first zero c xs h = refl
take_first (suc a) zero xs h = absurd (omega arith)
take_first (suc a) (suc c) [] h = refl
take_first (suc a) (suc c) (x ∷ xs) h = ap (λ v. x ∷ v) (take_first a c xs (omega arith))

drop_first : (a b c : ℕ) (xs : List ℕ) → c ≡ a + b → drop a (take c xs) ≡ take b (drop a xs)
drop_first zero b c xs e = let same : c ≡ b = omega arith in ap (λ n. take n xs) same
drop_first (suc a) b zero xs e = absurd (omega arith)
drop_first (suc a) b (suc c) [] e = sym (take_none b)
drop_first (suc a) b (suc c) (x ∷ xs) e = drop_first a b c xs (omega arith)

-- a front is as long as it is said to be, or all of the list
pub take_most : (k : ℕ) (xs : List ℕ) → (length (take k xs) ≤ k) × (length (take k xs) ≤ length xs)
take_most zero xs = (omega arith, omega arith)
take_most (suc k) [] = (omega arith, omega arith)
take_most (suc k) (x ∷ xs) = let h = take_most k xs in (omega (arith, h.0), omega (arith, h.1))

-- lists that have the same front
abbrev pub SameFront : ℕ → (xs ys : List ℕ) → Type 0
SameFront n xs ys = take n xs ≡ take n ys

pub front_less : (a c : ℕ) (xs ys : List ℕ) → a ≤ c → SameFront c xs ys → SameFront a xs ys
front_less a c xs ys h e = sym (take_first a c xs h) ∙ ap (take a) e ∙ take_first a c ys h

pub front_of_take : (a c : ℕ) (xs : List ℕ) → a ≤ c → SameFront a (take c xs) xs
front_of_take a c xs h = take_first a c xs h

-- a list with the same front reaches as far
pub front_long : (n : ℕ) (xs ys : List ℕ) → SameFront n xs ys → n ≤ length ys → n ≤ length xs
front_long n xs ys e h =
    let a : length (take n xs) ≤ length xs = (take_most n xs).1 in
    let b : length (take n xs) ≡ n = ap length e ∙ length-take-le n ys h in
    omega (arith, a, b)

front_behind : (a b : ℕ) (xs ys : List ℕ) → SameFront (a + b) xs ys → SameFront b (drop a xs) (drop a ys)
front_behind a b xs ys e = sym (drop_first a b (a + b) xs refl) ∙ ap (drop a) e ∙ drop_first a b (a + b) ys refl

-- ---- strands with a tape, and counts of what they draw

abbrev pub Taping : Type 0 → Type 0
Taping A = (tape : List ℕ) → Strand A

abbrev pub Counting : Type 0
Counting = (tape : List ℕ) → Mail → ℕ

-- it does on the second tape what it does on the first, and draws as many words
abbrev pub ReadsSame : {A : Type 0} → Taping A → Counting → (s t : List ℕ) → Mail → Type 0
ReadsSame strand count s t mail = RunAlike (run (strand t) mail) (run (strand s) mail) × (count t mail ≡ count s mail)

-- where fewer are there it comes to this end
abbrev pub LacksWords : {A : Type 0} → A → Strand A → Mail → Type 0
LacksWords unfit s mail = (run s mail).left ≡ Ends unfit

pub record ReadsOnly {A : Type 0} (unfit : A) (strand : Taping A) (count : Counting) : Type 0 where
  pub within : (s : List ℕ) (mail : Mail) → count s mail ≤ length s
  pub grows : (s : List ℕ) (mail more : Mail) → count s mail ≤ count s (added mail more)
  pub same : (s t : List ℕ) (mail : Mail) → length t ≤ length s → SameFront (count s mail) t s → ReadsSame strand count s t mail
  pub least : (s : List ℕ) (mail : Mail) (k : ℕ) → k < count s mail → LacksWords unfit (strand (take k s)) mail

pub reads_none : {A : Type 0} (unfit : A) (x : Strand A) → ReadsOnly unfit (λ tape. x) (λ tape mail. 0)
reads_none unfit x =
    record {
      within = λ s mail. omega arith;
      grows = λ s mail more. omega arith;
      same = λ s t mail long e. (run_self (run x mail), refl);
      least = λ s mail k h. absurd (omega (arith, h));
    }

pub reads_telling :
    {A : Type 0} (unfit : A) (notices : List Notice) (strand : Taping A) (count : Counting) → ReadsOnly unfit strand count →
    ReadsOnly unfit (λ tape. telling notices (strand tape)) count
reads_telling unfit notices strand count h =
    record {
      within = h.within;
      grows = h.grows;
      same = λ s t mail long e. let r = h.same s t mail long e in (alike_telling notices (strand t) (strand s) mail r.0, r.1);
      least = λ s mail k less. left_telling notices (strand (take k s)) mail ∙ h.least s mail k less;
    }

-- ---- a part that draws the first words of the tape, and what is after it

module _ {A B : Type 0} (unfit : B) (d : ℕ) (part : Taping A) (front : (s t : List ℕ) → SameFront d t s → part t ≡ part s)
    (strand : A → Taping B) (count : A → Counting) (each : (a : A) → ReadsOnly unfit (strand a) (count a)) where
  abbrev pub then_strand : Taping B
  then_strand s = then_do (part s) (λ a. strand a (drop d s))

  abbrev behind : List ℕ → A → Mail → ℕ
  behind s a unread = count a (drop d s) unread

  abbrev pub then_count : Counting
  then_count s mail = d + drawn_behind (run (part s) mail) (behind s)

  pub part_within : (s : List ℕ) (mail : Mail) → d ≤ length s → then_count s mail ≤ length s
  part_within s mail h =
      let l : length (drop d s) ≡ length s - d = length-drop d s in
      let m : drawn_behind (run (part s) mail) (behind s) ≤ length (drop d s) =
      behind_most (run (part s) mail) (behind s) (length (drop d s)) (λ a unread. (each a).within (drop d s) unread) in
      omega (arith, l, m, h)

  pub part_grows : (s : List ℕ) (mail more : Mail) → then_count s mail ≤ then_count s (added mail more)
  part_grows s mail more =
      let m : drawn_behind (run (part s) mail) (behind s) ≤ drawn_behind (run (part s) (added mail more)) (behind s) =
      behind_grows (part s) (behind s) mail more (λ a unread. (each a).grows (drop d s) unread more) in
      omega (arith, m)

  pub part_same : (s t : List ℕ) (mail : Mail) → length t ≤ length s → SameFront (then_count s mail) t s → ReadsSame then_strand then_count s t mail
  part_same s t mail long e = (alike, counts)
    where
      r : Ran A
      r = run (part s) mail

      m : ℕ
      m = drawn_behind r (behind s)

      is : part t ≡ part s
      is = front s t (front_less d (d + m) t s (omega arith) e)

      long_behind : length (drop d t) ≤ length (drop d s)
      long_behind =
          let a : length (drop d t) ≡ length t - d = length-drop d t in
          let b : length (drop d s) ≡ length s - d = length-drop d s in
          omega (arith, a, b, long)

      at : (a : A) → r.left ≡ Ends a → ReadsSame (strand a) (count a) (drop d s) (drop d t) r.unread
      at a ended =
          (each a).same (drop d s) (drop d t) r.unread long_behind
          (subst (λ n. SameFront n (drop d t) (drop d s)) (behind_at r (behind s) a ended) (front_behind d m t s e))

      alike : RunAlike (run (then_strand t) mail) (run (then_strand s) mail)
      alike =
          subst (λ x. RunAlike (run (then_do x (λ a. strand a (drop d t))) mail) (run (then_strand s) mail)) (sym is)
          (alike_then (λ a. strand a (drop d t)) (λ a. strand a (drop d s)) (part s) mail (λ a ended. (at a ended).0))

      counts : then_count t mail ≡ then_count s mail
      counts =
          ap (λ x. d + drawn_behind (run x mail) (behind t)) is
          ∙ ap (λ n. d + n) (behind_same r (behind t) (behind s) (λ a ended. (at a ended).1))

  -- where the part has its words, and what is after it too few
  pub part_least : (s : List ℕ) (mail : Mail) (k : ℕ) → d ≤ k → k < then_count s mail → LacksWords unfit (then_strand (take k s)) mail
  part_least s mail k enough less =
      ap (λ x. (run (then_do x (λ a. strand a (drop d (take k s)))) mail).left) is
      ∙ ap (λ rest. (run (then_do (part s) (λ a. strand a rest)) mail).left) rest_is
      ∙ left_then (part s) (λ a. strand a (take (k - d) (drop d s))) mail there.0 there.1
      ∙ (each there.0).least (drop d s) r.unread (k - d) there.2
    where
      r : Ran A
      r = run (part s) mail

      is : part (take k s) ≡ part s
      is = front s (take k s) (front_of_take d k s enough)

      rest_is : drop d (take k s) ≡ take (k - d) (drop d s)
      rest_is = drop_first d (k - d) k s (omega (arith, enough))

      there : (a : A) × (r.left ≡ Ends a) × (k - d < behind s a r.unread)
      there = behind_some r (behind s) (k - d) (omega (arith, enough, less))
