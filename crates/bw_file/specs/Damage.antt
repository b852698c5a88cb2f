-- What a contract sees of a file that is damaged.
use Rattle.std.specs.Prelude.{◌≡◌, ℕ, Bool, true, false, List}
use Rattle.bw_digest.specs.Checked as digest
use Rattle.bw_digest.specs.declared.checking.Damage.TheVariants.{Changed}
use Rattle.bw_digest.specs.declared.checking.Damage.TheVariants as damage
use Rattle.bw_file.specs.declared.refusals.FolderFault.{FolderFault}
use Rattle.bw_file.specs.declared.refusals.FolderFault.TheVariants.{Damaged, Missing}
use Rattle.bw_digest.specs.declared.checking.Damage.{Damage}

-- what is said of a lease's file whose bytes do not fit its sums
abbrev pub fault_of : ℕ → Damage → FolderFault
fault_of lease (Changed at) = Damaged lease at
fault_of lease (damage.Missing from to) = Missing lease from to

-- bytes of a file were changed or lost
abbrev pub tells_damage : FolderFault → Bool
tells_damage (Damaged lease at) = true
tells_damage (Missing lease from to) = true
tells_damage _ = false

-- it names the lease, and what these sums say against these bytes
pub record IsDamage (lease : ℕ) (bytes sums : List ℕ) (cause : FolderFault) : Type 0 where
  pub its : Damage
  pub names : cause ≡ fault_of lease its
  pub tells : digest.IsDamage bytes sums its
