use Rattle.std.proofs.Common.{[]}
use Rattle.bw_record.specs.declared.record.Record.TheVariants.{Put}
use Rattle.bw_leaf.specs.Changed.{changed}
use Rattle.bw_leaf.proofs.hollow_page.HollowDraft.put.Given as goal

abbrev pub ghost-about : goal.ghost-about
ghost-about a = changed (Put a.x.now.key.now a.x.now.value.now) a.x.now.was.now.value

abbrev pub ghost-about-2 : goal.ghost-about-2
ghost-about-2 a = record { page = a.x.now.0; low = a.x.now.1.now; pairs = [] }
