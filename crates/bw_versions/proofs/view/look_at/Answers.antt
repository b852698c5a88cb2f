use Rattle.bw_versions.proofs.Books.{looks, looked}
use Rattle.bw_versions.proofs.view.look_at.Goals as goal

pub enter_as-requires : goal.enter_as-requires
enter_as-requires g c x = looks _ _ x

pub returns-in-Ok-clause-view : goal.returns-in-Ok-clause-view
returns-in-Ok-clause-view g c = rw (c.leave.ensures.1, c.in-Ok.ensures.1.2) (looked _ _ _ _ c.requires c.in-Ok.ensures.1)

pub returns-in-Ok-clause-later : goal.returns-in-Ok-clause-later
returns-in-Ok-clause-later g c = rw (c.again-mark.ensures, c.get-version.ensures) (looked _ _ _ _ c.requires c.in-Ok.ensures.1).1
