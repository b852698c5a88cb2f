use Rattle.std.proofs.KnownBytes.{Appends-trans}
use Rattle.bw_pairs.proofs.Parts.{trans_on_ok}
use Rattle.bw_pairs.proofs.dump.write_named_header.Goals as goal

pub returns : goal.returns
returns g c =
    let two = Appends-trans _ _ _ _ _ c.in_ok-write_all.ensures.bytes c.in_ok-write_format.ensures in
    let three = Appends-trans _ _ _ _ _ two c.in_ok-write_name.ensures in
    let four = Appends-trans _ _ _ _ _ three c.in_ok-write_all-2.ensures.bytes in
    let five = Appends-trans _ _ _ _ _ four c.in_ok-write_size.ensures in
    trans_on_ok c.write_all-3.result _ _ _ _ _ five c.write_all-3.ensures.bytes
