-- A handle is lent as the holder of its map.
use Rattle.std.proofs.Common.{refl, sym}
use Rattle.slotmap_c.proofs.Holders.{IsHolder, meets}
use Rattle.slotmap_c.specs.Held.{Map, nothing}
use Rattle.slotmap_c.specs.Lending.{map_handle_of}
use Rattle.slotmap_c.specs.contracts.handle.Handle.{the_row}
use Rattle.slotmap_c.specs.contracts.handle.Handle.holder.Key.{name as #self}
use Rattle.slotmap_c.proofs.handle.Handle.holder.Statement.{statement}
use Rattle.slotmap_c.proofs.handle.Handle.holder.Code as code

is_holder : IsHolder the_row Map nothing map_handle_of
is_holder = record {
  at = λ h. h.at;
  is_open = λ h. h.is_open;
  value = λ h. h.map;
  cells = λ vs b o. refl;
  owned = λ h vs. refl;
  owned_of = λ g vs. refl;
  told = λ h held opened shown i. record { at = h.at; is_open = sym opened i; map = sym shown i };
}

pub holder_spec : {M : Type 1} → statement M
holder_spec 𝓤 𝓛 𝓜 𝓡 wired = meets is_holder 𝓛 𝓜 𝓡 #self _ _ _ _ (code.unfolded 𝓤 𝓛.H 𝓜 𝓡 wired)
