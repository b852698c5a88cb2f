-- What a contract sees of the publisher.

use Rattle.std.specs.Prelude.{ℕ, Option}
use Rattle.bw_versions.specs.declared.writer.Operation.{Operation}
use Rattle.bw_versions.specs.Reach.{Reach}

pub record Publishing : Type 0 where
  -- what readers are shown
  pub published : Reach
  -- all batches in the book, also those of which the publication was refused
  pub entered : Reach
  -- a batch that the writer of the versions could not take yet
  pub waits : Option Operation
  -- how many readers may still be made
  pub places : ℕ
