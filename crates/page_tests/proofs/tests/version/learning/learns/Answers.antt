use Rattle.bw_versions.proofs.Crossing.{versions_cross, reader_crosses}
use Rattle.page_tests.proofs.tests.version.learning.learns.Goals as goal

pub spawn-child-requires-send-F : goal.spawn-child-requires-send-F
spawn-child-requires-send-F g c κs within = search (reader_crosses, versions_cross) depth 60 fits 100000
