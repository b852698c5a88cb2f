use Rattle.std.proofs.Common.{◌∙◌, ap, []}
use Rattle.bw_device.specs.Leases.{number_of}
use Rattle.bw_device.specs.Memory.{fresh_holding}
use Rattle.bw_file.proofs.folder.Folder.spare.Goals as goal

pub returns-in-Ok-new-clause-made : goal.returns-in-Ok-new-clause-made
returns-in-Ok-new-clause-made g c =
    c.over.ensures.holding ∙ c.in-Ok-new.ensures.made
    ∙ ap (λ lease. fresh_holding (number_of lease) c.args.capacity []) c.in_ok-lease.ensures.kept
