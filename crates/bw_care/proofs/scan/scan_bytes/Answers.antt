use Rattle.std.proofs.Common.{◌≡◌, sym, ap, ◌∙◌, length, List, ℕ}
use Rattle.std.proofs.lemmas.Bool.{true≢false, eq-eqb}
use Rattle.std.proofs.lemmas.Result.{err_from_is_err_and}
use Rattle.bw_codec.specs.declared.head.HeaderRead.TheVariants as heading
use Rattle.bw_care.proofs.HeadersRead.{header_long, heading_told, fault_told, fault_whole, fault_part, fault_same}
use Rattle.bw_care.proofs.scan.scan_bytes.Goals as goal

pub read_behind-requires : goal.read_behind-requires
read_behind-requires c = header_long c.args.bytes.now c.in-Whole.header c.in-Whole.ensures

pub returns-in_err-behind-in-Whole-clause-fault : goal.returns-in_err-behind-in-Whole-clause-fault
returns-in_err-behind-in-Whole-clause-fault c =
    let p = err_from_is_err_and c.from_residual.result c.from_residual.ensures.1 in
    let head = heading_told c.args.bytes.now (heading.Whole c.in-Whole.header) (λ i. (c.type_inv.bytes i).fits) c.in-Whole.ensures in
    rw (p.1, p.2) (fault_same _ _ c.in_err-behind-in-Whole.field-0.0 (fault_whole c.args.bytes.now c.in-Whole.header head)
    c.in_err-behind-in-Whole.ensures.fault)

pub returns-in_ok-behind-in-Whole-clause-found : goal.returns-in_ok-behind-in-Whole-clause-found
returns-in_ok-behind-in-Whole-clause-found c =
    let head = heading_told c.args.bytes.now (heading.Whole c.in-Whole.header) (λ i. (c.type_inv.bytes i).fits) c.in-Whole.ensures in (
      head,
      fault_whole c.args.bytes.now c.in-Whole.header head
          ∙ c.in_ok-behind-in-Whole.ensures.found.lawful,
      c.in_ok-behind-in-Whole.ensures.found,
      c.in-Whole.ensures,
    )

pub returns-in-Part-clause-found : goal.returns-in-Part-clause-found
returns-in-Part-clause-found c =
    let head = heading_told c.args.bytes.now heading.Part (λ i. (c.type_inv.bytes i).fits) c.in-Part.ensures in
    (head, fault_part c.args.bytes.now head)

pub returns-in-Bad-clause-fault : goal.returns-in-Bad-clause-fault
returns-in-Bad-clause-fault c =
    let head = heading_told c.args.bytes.now heading.Bad (λ i. (c.type_inv.bytes i).fits) c.in-Bad.ensures in
    fault_told c.args.bytes.now heading.Bad (λ none.
    (let size : length c.args.bytes.now ≡ 0 = ap (λ (l : List ℕ). length l) none
    in true≢false (sym (eq-eqb (length c.args.bytes.now) 0 size) ∙ sym c.if-is_empty.ensures))) head
