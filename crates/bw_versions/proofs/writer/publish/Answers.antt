use Rattle.std.proofs.Common.{drop}
use Rattle.left_right.specs.Sides.{view}
use Rattle.bw_versions.proofs.Books.{turns-next, published}
use Rattle.bw_versions.proofs.writer.publish.Goals as goal

pub publish_as-requires : goal.publish_as-requires
publish_as-requires g c next is = turns-next _ _ _ next _ c.requires.own c.requires.follows is

pub returns : goal.returns
returns g c =
    published c.publish_as.result.1 c.args.writer.desk.shown.value c.publish_as.result.0.desk.shown.value (drop c.args.writer.behind c.args.writer.log.items)
    (drop c.publish_as.result.0.behind c.publish_as.result.0.log.items) (view c.args.writer.desk.place) (view c.publish_as.result.0.desk.place)
    c.publish_as.ensures.values c.publish_as.ensures.rule c.requires.own c.requires.follows
