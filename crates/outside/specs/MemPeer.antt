-- What one peer of the links in memory means.
use Rattle.std.specs.Prelude.{ℕ, List, drop}
use Rattle.outside.specs.declared.mem_peer.MemPeer.{MemPeer}

abbrev pub sent_to : MemPeer → List ℕ
sent_to peer = peer.sent.items

-- the bytes that are still to come
abbrev pub coming_from : MemPeer → List ℕ
coming_from peer = drop peer.taken peer.coming.items
