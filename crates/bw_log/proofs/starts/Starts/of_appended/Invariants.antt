use Rattle.bw_buffer.specs.Filling.{frame_of}
use Rattle.bw_log.proofs.starts.Starts.of_appended.Given as goal

abbrev pub ghost-about : goal.ghost-about
ghost-about a = frame_of a.x.now
