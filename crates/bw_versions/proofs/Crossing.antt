-- That a reader may cross threads. The lemmas of each struct are named, since a search from nothing opens a leaf once for each
-- field that has one, and gives up.
use denote.Param.Send.{IsSend, sendable}
use Rattle.std.proofs.Crossing.{crosses}
use Rattle.std.specs.contracts.alloc.Global as Global
use Rattle.std.specs.contracts.impls.GlobalAllocator.TheImpl as heap
use Rattle.std.specs.contracts.option.Option as Option
use Rattle.left_right.specs.contracts.reader.Reader as Inner
use Rattle.left_right.proofs.reader.Reader.TheSendSync as inner
use Rattle.bw_record.proofs.leaf.Leaf.TheSendSync.{the_send, the_sync}
use Rattle.bw_told.proofs.Sent.{told_send, told_sync}
use Rattle.bw_versions.specs.contracts.board.Marked as Marked
use Rattle.bw_versions.specs.contracts.board.Posts as Posts
use Rattle.bw_versions.specs.contracts.book.Front as Front
use Rattle.bw_versions.specs.contracts.reader.ReaderOf as ReaderOf
use Rattle.bw_versions.specs.contracts.view.OneBook as OneBook
use Rattle.bw_versions.specs.contracts.view.OneBookProtocolVersionView.TheImpl as book
use Rattle.bw_versions.specs.contracts.view.VersionReaderLooker.TheImpl as looker
use Rattle.bw_versions.proofs.board.Marked.TheSendSync as marked
use Rattle.bw_versions.proofs.book.Front.TheSendSync as front

-- what shows it of versions and of what reads them
pub ruleset versions_cross = (inner.the_send, marked.the_send, marked.the_sync, front.the_send, front.the_sync, the_send, the_sync, told_send, told_sync, crosses, sendable)

-- whoever moves a reader into a thread names this one
pub reader_crosses : IsSend (ReaderOf.the_row
    (Inner.the_row (Marked.the_row Posts.the_row) (Option.the_row Front.the_row) OneBook.the_row Global.the_row book.ghosts heap.ghosts) looker.ghosts)
reader_crosses = search versions_cross depth 60 fits 100000
