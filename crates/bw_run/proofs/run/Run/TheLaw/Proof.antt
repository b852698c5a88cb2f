-- A `&` to an owner holds a share of its token. Assumes `Logic`.
use Rattle.core.specs.Prelude.{ℕ, ◌+◌}
use base.Fml.{fex}
use denote.Param.Shared.{copy_shared}
use denote.RawPtr.{block_of, count_of}
use denote.Sharing.{said, some}
use denote.Struct.Field.{RawPtr-field}
use denote.Struct.Laws.{RawPtr-copy}
use denote.Struct.Lending.{of_Lends, Lends-both, Lends-said}
use Rattle.std_alloc.proofs.ArcSteps.{Lends-arc}
use Rattle.bw_run.specs.Ownership.{placed, contents, seen, owner_owns, owner_shares}
use Rattle.std_heap.proofs.Global.TheLaws as laws
use Rattle.std_heap.specs.contracts.Global as heap
use Rattle.bw_run.specs.contracts.run.Run as C
use Rattle.bw_run.proofs.Shares.{seen_laws, run_laws}
use Rattle.bw_run.proofs.run.Run.TheLaw.Statement.{statement}

pub shares : statement
shares = of_Lends C.struct (C.the_codes heap.the_row.coded) C.the_heap C.the_lent (λ d p. run_laws d.ptr d.bytes) (copy_shared RawPtr-field RawPtr-copy, (copy_shared heap.the_field laws.the_field_copy, tt)) (λ M 𝓤 𝓛 d p.
    let c = d.ptr in let xs = d.bytes in let l = C.the_row.lives in
    Lends-both 𝓛 (placed c xs) (fex ℕ (owner_owns c xs)) (said (placed c xs)) (some ℕ (owner_shares c xs)) l (Lends-said 𝓛 (placed c xs) ((λ _. tt), tt) l)
    (Lends-arc (contents c xs) (block_of c) (count_of c + 0) (seen c xs) (seen_laws c xs) 𝓛 l))
