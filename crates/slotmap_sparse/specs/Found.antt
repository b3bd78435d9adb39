-- What a look-up says of a key's entry, and what a put does to the pair at an index. No public clause cites this module.
use Rattle.std.specs.Prelude.{◌≡◌, if◌then◌else◌, ℕ, Option, None, Some}
use Rattle.slotmap_core.specs.Words.{Entry, no_entry, occupied, vacant, entry_at, has_entry}
use Rattle.slotmap_sparse.specs.declared.find.Found.{Found}
use Rattle.slotmap_sparse.specs.declared.find.Found.TheVariants as found

-- what `find` returns, by the pair at the key's index and the key's entry
abbrev pub is_found : {V : Type 0} → Found → Option (ℕ × V) → Entry V → Type 0
is_found found.No stands e = e ≡ no_entry
is_found {V} found.Occupied stands e = (v : V) × (e ≡ occupied v)
is_found {V} found.Outdated stands e = (e ≡ vacant) × ((p : ℕ × V) × (stands ≡ Some p))
is_found found.Empty stands e = (e ≡ vacant) × (stands ≡ None)

-- the pair at an index once this value was put there under this version
abbrev pub put_over : {V : Type 0} → ℕ → V → ℕ × V → ℕ × V
put_over version value p = if has_entry (entry_at version (Some p)) then (version, value) else p
