use Rattle.std.proofs.Common.{◌≡◌, ◌++◌, ◌%◌, ℕ, List, [], length, refl, sym, ap, ◌∙◌, append_assoc, length-append, arith}
use Rattle.std.proofs.KnownBytes.{Appends-nil, Appends-trans}
use Rattle.base64.specs.Rfc4648.{encode_symbols}
use Rattle.base64.specs.GeneralPurpose.{encode_of}
use Rattle.base64.specs.Engines.{standard}
use Rattle.bw_pairs.proofs.Parts.{parts, trans_on_ok}
use Rattle.bw_pairs.proofs.json.write_parts.Goals as goal

pub parts-init : goal.parts-init
unfolding encode_symbols
parts-init g c = ([], refl, refl, Appends-nil _)

pub parts-preserved : goal.parts-preserved
parts-preserved g c =
    let done : List ℕ = c.parts.invariant.0 in
    let part : List ℕ = c.split_at.result.0.now in
    let after : List ℕ = c.split_at.result.1.now in
    let three = c.parts.invariant.2 in
    let whole : length (done ++ part) % 3 ≡ 0 = omega (arith, length-append done part, c.split_at.ensures.front_len, three) in (
      done ++ part,
      c.parts.invariant.1 ∙ ap (λ l. done ++ l) c.split_at.ensures.by_index.0 ∙ sym (append_assoc done part after),
      whole,
      rw (parts done part three) (Appends-trans _ _ _ _ _ c.parts.invariant.3 c.in_ok-write_part.ensures),
    )

pub returns : goal.returns
returns g c =
    let done : List ℕ = c.parts.invariant.0 in
    let rest : List ℕ = c.parts.rest.now in
    let same : encode_of standard c.args.bytes.now ≡ encode_of standard done ++ encode_of standard rest =
    ap (encode_of standard) c.parts.invariant.1 ∙ parts done rest c.parts.invariant.2 in
    rw same (trans_on_ok c.write_part-2.result _ _ _ _ _ c.parts.invariant.3 c.write_part-2.ensures)
