-- A miner that reads its bytes frame by frame: how far it has come, and what the next frame leads to.
use Rattle.std.specs.Prelude.{◌≡◌, ℕ, List, ◌++◌}
use Rattle.proto_core.specs.declared.link.Link.{Link}
use Rattle.proto_core.specs.Net.{nothing, added}
use Rattle.proto_core.specs.Strand.{Mail, Strand, Ends, run}
use Rattle.proto_core.specs.Standing.{Standing, AtItsEnd, Awaits, Refuses, standing_of}
use Rattle.served_bytes.specs.Front.{Framed, Whole, Malformed, Truncated}
use Rattle.served_bytes.specs.Served.{Coming, Stop, AtEnd, AtRefusal, AtMalformed, OutOfBytes, served, with_first, with_rest}

-- a message of this link, and no other
abbrev pub only : Link → List ℕ → Mail
only l m = with_first l m nothing

module _ (framed : List ℕ → Framed) {A : Type 0} (s : Strand A) (bytes : Coming) where
  -- these messages were read and taken, and what is still to come leads on from there to all that the bytes lead to from the start
  pub record HasRead (mail : Mail) (rest : Coming) : Type 0 where
    pub unread : (run s mail).unread ≡ nothing
    pub acts : (served framed s bytes).acts ≡ (run s mail).acts ++ (served framed (run s mail).left rest).acts
    pub stop : (served framed s bytes).stop ≡ (served framed (run s mail).left rest).stop

  -- with these messages it has done all that the bytes lead to, and stops for this cause
  pub record StopsWith (mail : Mail) (at : Stop A) : Type 0 where
    pub acts : (served framed s bytes).acts ≡ (run s mail).acts
    pub stop : (served framed s bytes).stop ≡ at

  -- a message was read, after these others, and `at` is where the miner stands with it: it is taken; or else refused, and then no more is done
  abbrev pub OnMessage : (before mail : Mail) (rest : Coming) → (at : Standing) → Type 0
  OnMessage before mail rest AtItsEnd = HasRead mail rest
  OnMessage before mail rest (Awaits l) = HasRead mail rest
  OnMessage before mail rest (Refuses l cause) = StopsWith before (AtRefusal l cause)

  -- what the next frame of the awaited link leads to
  abbrev pub OnFrame : (mail : Mail) (rest : Coming) (l : Link) → Framed → Type 0
  OnFrame mail rest l (Whole m more) =
      OnMessage mail (added mail (only l m)) (with_rest l more rest) (standing_of (run s (added mail (only l m))))
  OnFrame mail rest l (Malformed place) = StopsWith mail (AtMalformed l place)
  OnFrame mail rest l Truncated = StopsWith mail (OutOfBytes l)

  pub record ReadsFrameByFrame : Type 0 where
    pub begins : HasRead nothing bytes
    pub frame : (mail : Mail) (rest : Coming) (l : Link) → HasRead mail rest → standing_of (run s mail) ≡ Awaits l → OnFrame mail rest l (framed (rest l))
    pub ended : (mail : Mail) (rest : Coming) (a : A) → HasRead mail rest → (run s mail).left ≡ Ends a → StopsWith mail (AtEnd a)
