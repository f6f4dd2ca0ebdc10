use Rattle.served_bytes.proofs.Frames.{reads_frame_by_frame}
use Rattle.served_bytes.proofs.laws.bytes_are_read_frame_by_frame.Goals as goal

pub returns : goal.returns
returns c = λ framed. reads_frame_by_frame framed
