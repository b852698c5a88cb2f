use Rattle.std.proofs.Common.{[]}
use Rattle.bw_record.specs.declared.record.Record.TheVariants.{Del}
use Rattle.bw_leaf.specs.Changed.{changed}
use Rattle.bw_leaf.proofs.hollow_page.HollowDraft.delete.Given as goal

abbrev pub ghost-about : goal.ghost-about
ghost-about a = changed (Del a.x.now.1.now) a.x.now.0.now.value

abbrev pub ghost-about-2 : goal.ghost-about-2
ghost-about-2 a = record { page = a.x.now.0; low = a.x.now.1.now; pairs = [] }
