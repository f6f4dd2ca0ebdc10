-- The client's rows correspond one to one, in any ring; and the protocols with these rows are as sound as before.
use Rattle.std.proofs.Common.{◌≡◌, ℕ, ◌<◌, ◌^◌, List, length, refl, sym, ◌∙◌, ap}
use Rattle.proto_core.specs.Ring.{Ring, RingLaws}
use Rattle.proto_core.proofs.Sums.{add-left_comm, zero-zero}
use Rattle.proto_core.specs.declared.party.Number.{Number}
use Rattle.proto_core.specs.declared.party.Number.TheVariants.{One, Two, Three}
use Rattle.proto_core.specs.Lists.{at, AreWords}
use Rattle.proto_core.specs.Protocol.{Joint, Protocol, Fits, Sound, with_words}
use Rattle.proto_core.specs.Resharing.{reshared}
use Rattle.proto_core.proofs.Each.{length-each, at-each, same_words, AreWords-each}
use Rattle.proto_core.proofs.ResharingLaws.{at-reshared, length-reshared, AreWords-reshared}
use Rattle.client_model.specs.ClientRows.{unshared, client_row, client_back, Rows, rowed, handing, leaving}
use Rattle.protocol_model.proofs.Walks.{Corresponds}

-- ---- a share taken back to the word that made it

module _ (r : Ring) where
  at-unshared : (n : ℕ) (u share other : List ℕ) (k : ℕ) → k < n → at (unshared r n u share other) k ≡ r.add (r.sub (at share k) (at u k)) (at other k)
  unfolding unshared
  at-unshared n u share other k h = at-each n (λ i. r.add (r.sub (at share i) (at u i)) (at other i)) k h

  pub length-unshared : (n : ℕ) (u share other : List ℕ) → length (unshared r n u share other) ≡ n
  unfolding unshared
  length-unshared n u share other = length-each n (λ k. r.add (r.sub (at share k) (at u k)) (at other k))

module _ {r : Ring} (laws : RingLaws r) where
  pub AreWords-unshared : (n : ℕ) (u share other : List ℕ) → AreWords (unshared r n u share other)
  unfolding unshared
  AreWords-unshared n u share other =
      AreWords-each n (λ k. r.add (r.sub (at share k) (at u k)) (at other k)) (λ k. laws.add_word (r.sub (at share k) (at u k)) (at other k))

  -- ((u + a - c) - u) + c
  mask_back : (u a c : ℕ) → a < 2 ^ 64 → r.add (r.sub (r.sub (r.add u a) c) u) c ≡ a
  mask_back u a c h =
      let sorted : r.add (r.sub (r.sub (r.add u a) c) u) c ≡ r.add a (r.add (r.add u (r.neg u)) (r.add c (r.neg c))) =
      simp (laws.sub_is, laws.add_assoc, laws.add_comm, add-left_comm laws) in
      sorted ∙ simp (laws.cancel, zero-zero laws) (laws.add_zero a h)

  -- (u + (s - u + c)) - c
  share_back : (u s c : ℕ) → s < 2 ^ 64 → r.sub (r.add u (r.add (r.sub s u) c)) c ≡ s
  share_back u s c h =
      let sorted : r.sub (r.add u (r.add (r.sub s u) c)) c ≡ r.add s (r.add (r.add u (r.neg u)) (r.add c (r.neg c))) =
      simp (laws.sub_is, laws.add_assoc, laws.add_comm, add-left_comm laws) in
      sorted ∙ simp (laws.cancel, zero-zero laws) (laws.add_zero s h)

  pub unshared-reshared :
      (n : ℕ) (u mask other : List ℕ) → length mask ≡ n → AreWords mask → unshared r n u (reshared r n u mask other) other ≡ mask
  unshared-reshared n u mask other e words =
      same_words n _ mask (length-unshared r n _ _ _) e
      (λ k h.
      at-unshared r n u (reshared r n u mask other) other k h
      ∙ ap (λ w. r.add (r.sub w (at u k)) (at other k)) (at-reshared r n u mask other k h)
      ∙ mask_back (at u k) (at mask k) (at other k) (words k))

  pub reshared-unshared :
      (n : ℕ) (u share other : List ℕ) → length share ≡ n → AreWords share → reshared r n u (unshared r n u share other) other ≡ share
  reshared-unshared n u share other e words =
      same_words n _ share (length-reshared r n _ _ _) e
      (λ k h.
      at-reshared r n u (unshared r n u share other) other k h
      ∙ ap (λ w. r.sub (r.add (at u k) w) (at other k)) (at-unshared r n u share other k h)
      ∙ share_back (at u k) (at share k) (at other k) (words k))

  -- ---- the rows

  module _ (n : ℕ) (j : Joint) (sizes : (m : Number) → length (j.words m) ≡ n) (words : (m : Number) → AreWords (j.words m)) where
    row-length : (m : Number) → length (client_row r n j m) ≡ n
    row-length One = length-reshared r n _ _ _
    row-length Two = length-reshared r n _ _ _
    row-length Three = sizes Three

    row-words : (m : Number) → AreWords (client_row r n j m)
    row-words One = AreWords-reshared laws n _ _ _
    row-words Two = AreWords-reshared laws n _ _ _
    row-words Three = words Three

    back-length : (m : Number) → length (client_back r n j m) ≡ n
    back-length One = length-unshared r n _ _ _
    back-length Two = length-unshared r n _ _ _
    back-length Three = sizes Three

    back-words : (m : Number) → AreWords (client_back r n j m)
    back-words One = AreWords-unshared n _ _ _
    back-words Two = AreWords-unshared n _ _ _
    back-words Three = words Three

    first-back : client_back r n (with_words j (client_row r n j)) One ≡ j.words One
    first-back = unshared-reshared n (j.u One) (j.words One) (j.words Three) (sizes One) (words One)

    back-row : (m : Number) → client_back r n (with_words j (client_row r n j)) m ≡ j.words m
    back-row One = first-back
    back-row Two =
        ap (unshared r n (j.u Two) (client_row r n j Two)) first-back
        ∙ unshared-reshared n (j.u Two) (j.words Two) (j.words One) (sizes Two) (words Two)
    back-row Three = refl

    row-back : (m : Number) → client_row r n (with_words j (client_back r n j)) m ≡ j.words m
    row-back One = reshared-unshared n (j.u One) (j.words One) (j.words Three) (sizes One) (words One)
    row-back Two = reshared-unshared n (j.u Two) (j.words Two) (client_back r n j One) (sizes Two) (words Two)
    row-back Three = refl

  -- ---- a protocol with these rows

  -- each miner draws a word an element, as where a value is shared anew
  pub handing-corresponds : (p : Protocol) → ((n : ℕ) (m : Number) → p.draws n m ≡ n) → (i : Number) → Corresponds i (rowed (handing r) p)
  handing-corresponds p drawn i =
      record {
        kept = λ n j fits.
            record {
              u = fits.u;
              v = fits.v;
              words = λ m. row-length n j (one_each n j fits) fits.are_words m ∙ sym (drawn n m);
              are_words = row-words n j (one_each n j fits) fits.are_words;
            };
        back_kept = λ n j fits.
            record {
              u = fits.u;
              v = fits.v;
              words = λ m. back-length n j (one_each n j fits) fits.are_words m ∙ sym (drawn n m);
              are_words = back-words n j (one_each n j fits) fits.are_words;
            };
        back_tape = λ n j fits m. back-row n j (one_each n j fits) fits.are_words m;
        tape_back = λ n j fits m. row-back n j (one_each n j fits) fits.are_words m;
      }
    where
      one_each : (n : ℕ) (j : Joint) → Fits (rowed (handing r) p) n j → (m : Number) → length (j.words m) ≡ n
      one_each n j fits m = fits.words m ∙ drawn n m

pub leaving-corresponds : (p : Protocol) (i : Number) → Corresponds i (rowed leaving p)
leaving-corresponds p i =
    record {
      kept = λ n j fits. record { u = fits.u; v = fits.v; words = fits.words; are_words = fits.are_words };
      back_kept = λ n j fits. record { u = fits.u; v = fits.v; words = fits.words; are_words = fits.are_words };
      back_tape = λ n j fits m. refl;
      tape_back = λ n j fits m. refl;
    }

-- ---- soundness speaks of no row

module _ (rows : Rows) (p : Protocol) where
  pub same-fits : (n : ℕ) (j : Joint) → Fits (rowed rows p) n j → Fits p n j
  same-fits n j fits = record { u = fits.u; v = fits.v; words = fits.words; are_words = fits.are_words }

  pub rowed-sound : Sound p → Sound (rowed rows p)
  rowed-sound s =
      record {
        matched = s.matched;
        own_links = s.own_links;
        moves = s.moves;
        sizes = s.sizes;
        finishes = λ n j fits. record {
          sent = (s.finishes n j (same-fits n j fits)).sent;
          ended = (s.finishes n j (same-fits n j fits)).ended;
          read = (s.finishes n j (same-fits n j fits)).read;
          count = (s.finishes n j (same-fits n j fits)).count;
          all = (s.finishes n j (same-fits n j fits)).all;
        };
        messages = λ n j fits. s.messages n j (same-fits n j fits);
        blocks = λ n j fits. s.blocks n j (same-fits n j fits);
        opened = λ n j fits. s.opened n j (same-fits n j fits);
        opens = λ n j fits. s.opens n j (same-fits n j fits);
      }
