use Rattle.std.proofs.Common.{◌≡◌, ℕ, ◌<◌, List, length, map, take, drop, get_or, slice_get, Some, Option, IfSome, Result, Ok, Err, OnOk, sym, ap, subst, ◌∙◌}
use Rattle.std.specs.Option.{option_map}
use Rattle.std.proofs.lemmas.Option.{slice_get-map, slice_get-get_or}
use Rattle.bw_device.specs.Holding.{Holding}
use Rattle.bw_device.specs.declared.segments.Fault.{Fault}
use Rattle.bw_device.proofs.Boxed.{reads_at}
use Rattle.bw_device.proofs.boxes.read_from.Goals as goal

-- what one box gave is what its place in the list gave
gives_at : {X : Type 0} (v : X → Holding) (P : Holding → Type 0) (xs : List X) (i : ℕ) (x : X) (r : Result (Unit {0}) Fault) → i < length xs → x ≡ get_or xs i x
    → OnOk r (P (v x)) → OnOk r (IfSome (slice_get (map v xs) i) P)
gives_at v P xs i x (Ok u) inside is bytes =
    let found : slice_get (map v xs) i ≡ Some (v x) =
    slice_get-map v xs i ∙ ap (option_map v) (slice_get-get_or xs i x inside ∙ ap (λ z. Some z) (sym is)) in
    subst (λ (h : Option Holding). IfSome h P) (sym found) bytes
gives_at v P xs i x (Err e) inside is bytes = tt

pub returns-clause-bytes : goal.returns-clause-bytes
returns-clause-bytes g c =
    gives_at _ (λ h. c.read_one.new.out ≡ take (length c.args.out.now) (drop c.args.at h.bytes)) c.args.all.now.items c.args.i c.index_mut.result.now
    c.read_one.result c.requires.inside c.index_mut.ensures.value c.read_one.ensures.bytes

pub returns-clause-changed : goal.returns-clause-changed
returns-clause-changed g c =
    reads_at _ c.args.all.now.items c.args.i c.index_mut.result.now c.read_one.new.one c.read_one.result c.requires.inside c.index_mut.ensures.value
    c.read_one.ensures.holding
