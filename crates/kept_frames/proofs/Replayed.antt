-- The frames of a journal's messages are read one after another.
use Rattle.std.proofs.Common.{◌≡◌, ℕ, List, [], ◌∷◌, ◌++◌, true, if◌then◌else◌, refl, ap, subst, ◌∙◌}
use Rattle.proto_core.specs.declared.link.Link.{Link}
use Rattle.proto_core.specs.declared.link.Link.TheVariants.{Link12, Link13, Link21, Link23, Link31, Link32}
use Rattle.proto_core.specs.Net.{added, nothing}
use Rattle.proto_core.specs.Strand.{Mail, Strand, run, same_link}
use Rattle.proto_core.specs.Standing.{Standing, AtItsEnd, Awaits, Refuses, standing_of}
use Rattle.served_bytes.specs.Front.{Whole}
use Rattle.served_bytes.specs.Served.{Coming, with_rest}
use Rattle.served_bytes.specs.Reading.{HasRead, OnFrame, OnMessage, only}
use Rattle.served_bytes.proofs.Frames.{reads_frame_by_frame}
use Rattle.wire.specs.Frames.{frame_bytes, framed}
use Rattle.wire.proofs.FrameLaws.{framed-frame_bytes}
use Rattle.kept_frames.specs.Kept.{Kept, AllGood, IsTaken, ReadsKeptFrames, Replays, frames_first, with_kept}

same_self : (l : Link) → same_link l l ≡ true
same_self Link12 = refl
same_self Link13 = refl
same_self Link21 = refl
same_self Link23 = refl
same_self Link31 = refl
same_self Link32 = refl

-- the bytes that are left of a link after the first frame are left of it alone
rest_at : (l k : Link) (words : List ℕ) (bytes : Coming)
    → (if same_link l k then bytes l else (if same_link l k then words ++ bytes k else bytes k)) ≡ bytes k
rest_at Link12 Link12 words bytes = refl
rest_at Link12 Link13 words bytes = refl
rest_at Link12 Link21 words bytes = refl
rest_at Link12 Link23 words bytes = refl
rest_at Link12 Link31 words bytes = refl
rest_at Link12 Link32 words bytes = refl
rest_at Link13 Link12 words bytes = refl
rest_at Link13 Link13 words bytes = refl
rest_at Link13 Link21 words bytes = refl
rest_at Link13 Link23 words bytes = refl
rest_at Link13 Link31 words bytes = refl
rest_at Link13 Link32 words bytes = refl
rest_at Link21 Link12 words bytes = refl
rest_at Link21 Link13 words bytes = refl
rest_at Link21 Link21 words bytes = refl
rest_at Link21 Link23 words bytes = refl
rest_at Link21 Link31 words bytes = refl
rest_at Link21 Link32 words bytes = refl
rest_at Link23 Link12 words bytes = refl
rest_at Link23 Link13 words bytes = refl
rest_at Link23 Link21 words bytes = refl
rest_at Link23 Link23 words bytes = refl
rest_at Link23 Link31 words bytes = refl
rest_at Link23 Link32 words bytes = refl
rest_at Link31 Link12 words bytes = refl
rest_at Link31 Link13 words bytes = refl
rest_at Link31 Link21 words bytes = refl
rest_at Link31 Link23 words bytes = refl
rest_at Link31 Link31 words bytes = refl
rest_at Link31 Link32 words bytes = refl
rest_at Link32 Link12 words bytes = refl
rest_at Link32 Link13 words bytes = refl
rest_at Link32 Link21 words bytes = refl
rest_at Link32 Link23 words bytes = refl
rest_at Link32 Link31 words bytes = refl
rest_at Link32 Link32 words bytes = refl

rest_is : (k : Kept) (ks : List Kept) (rest : Coming) → with_rest k.link (frames_first ks rest k.link) (frames_first (k ∷ ks) rest) ≡ frames_first ks rest
rest_is k ks rest = λ x. λ l. rest_at k.link l (frame_bytes k.words) (frames_first ks rest) x

module _ {A : Type 0} (s : Strand A) (bytes rest : Coming) where
  comes : (k : Kept) (ks : List Kept) → AllGood (k ∷ ks) → framed (frames_first (k ∷ ks) rest k.link) ≡ Whole k.words (frames_first ks rest k.link)
  comes k ks good =
      ap (λ b. framed (if b then frame_bytes k.words ++ frames_first ks rest k.link else frames_first ks rest k.link)) (same_self k.link)
      ∙ framed-frame_bytes k.words (frames_first ks rest k.link) good.0

  taken : (before mail : Mail) (left : Coming) (at : Standing) → IsTaken at → OnMessage framed s bytes before mail left at → HasRead framed s bytes mail left
  taken before mail left AtItsEnd is h = h
  taken before mail left (Awaits l) is h = h
  taken before mail left (Refuses l cause) is h = absurd is

  pub replayed : (ks : List Kept) (mail : Mail) → AllGood ks → Replays s mail ks → HasRead framed s bytes mail (frames_first ks rest)
      → HasRead framed s bytes (with_kept mail ks) rest
  replayed [] mail good r h = h
  replayed (k ∷ ks) mail good r h =
      let more : Mail = added mail (only k.link k.words) in
      let on : OnFrame framed s bytes mail (frames_first (k ∷ ks) rest) k.link (framed (frames_first (k ∷ ks) rest k.link)) =
      (reads_frame_by_frame framed s bytes).frame mail (frames_first (k ∷ ks) rest) k.link h r.0 in
      let whole : OnMessage framed s bytes mail more (with_rest k.link (frames_first ks rest k.link) (frames_first (k ∷ ks) rest)) (standing_of (run s more)) =
      subst (OnFrame framed s bytes mail (frames_first (k ∷ ks) rest) k.link) (comes k ks good) on in
      let read = taken mail more (with_rest k.link (frames_first ks rest k.link) (frames_first (k ∷ ks) rest)) (standing_of (run s more)) r.1 whole in
      replayed ks more good.1 r.2 (subst (HasRead framed s bytes more) (rest_is k ks rest) read)

pub reads_kept_frames : {A : Type 0} (s : Strand A) (ks : List Kept) (rest : Coming) → ReadsKeptFrames s ks rest
reads_kept_frames s ks rest good r =
    replayed s (frames_first ks rest) rest ks nothing good r (reads_frame_by_frame framed s (frames_first ks rest)).begins
