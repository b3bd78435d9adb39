-- What a handle ends as, once what it lent is returned.
use Rattle.std.specs.Prelude.{ℕ, ⊤, is_some, unwrap_or}
use Rattle.std.specs.Borrow.{Lends, MutBor, Fml}
use Rattle.slotmap_core.specs.Words.{Content}
use Rattle.slotmap_secondary.specs.Content.{SideContent}
use Rattle.slotmap_c.specs.Held.{Map, KeyMap, nothing}
use Rattle.slotmap_c.specs.Side.{Side, no_side}
use Rattle.slotmap_c.specs.declared.holder.Holder.{Holder}
use Rattle.slotmap_c.specs.contracts.holder.Holder as holder
use Rattle.slotmap_c.specs.declared.handle.Handle.{Handle}
use Rattle.slotmap_c.specs.contracts.handle.Handle as map_handle
use Rattle.slotmap_c.specs.declared.keys.handle.KeysHandle.{KeysHandle}
use Rattle.slotmap_c.specs.contracts.keys.handle.KeysHandle as keys_handle
use Rattle.slotmap_c.specs.declared.side.handle.SideHandle.{SideHandle}
use Rattle.slotmap_c.specs.contracts.side.handle.SideHandle as table_handle

-- h with another map
abbrev pub with_map : Handle → Content ℕ → Handle
with_map h inside = record h { map = inside }

-- s ends with the last value behind r
abbrev pub LendsMap : MutBor Handle → MutBor (Content ℕ) → Fml
LendsMap s r = Lends map_handle.the_row Map s r (with_map s.now)

-- the handle that a holder is
abbrev pub map_handle_of : Holder (Content ℕ) → Handle
map_handle_of h = record { at = h.at; is_open = is_some h.held; map = unwrap_or h.held nothing }

-- s ends as the last holder behind r
abbrev pub LendsMapHolder : MutBor Handle → MutBor (Holder (Content ℕ)) → Fml
LendsMapHolder s r = Lends map_handle.the_row (holder.the_row Map) s r map_handle_of

-- h with another map
abbrev pub with_keys : KeysHandle → Content ⊤ → KeysHandle
with_keys h inside = record h { map = inside }

-- s ends with the last value behind r
abbrev pub LendsKeys : MutBor KeysHandle → MutBor (Content ⊤) → Fml
LendsKeys s r = Lends keys_handle.the_row KeyMap s r (with_keys s.now)

-- the handle that a holder is
abbrev pub keys_handle_of : Holder (Content ⊤) → KeysHandle
keys_handle_of h = record { at = h.at; is_open = is_some h.held; map = unwrap_or h.held nothing }

-- s ends as the last holder behind r
abbrev pub LendsKeysHolder : MutBor KeysHandle → MutBor (Holder (Content ⊤)) → Fml
LendsKeysHolder s r = Lends keys_handle.the_row (holder.the_row KeyMap) s r keys_handle_of

-- h with another table
abbrev pub with_side : SideHandle → SideContent ℕ → SideHandle
with_side h inside = record h { side = inside }

-- s ends with the last value behind r
abbrev pub LendsSide : MutBor SideHandle → MutBor (SideContent ℕ) → Fml
LendsSide s r = Lends table_handle.the_row Side s r (with_side s.now)

-- the handle that a holder is
abbrev pub side_handle_of : Holder (SideContent ℕ) → SideHandle
side_handle_of h = record { at = h.at; is_open = is_some h.held; side = unwrap_or h.held no_side }

-- s ends as the last holder behind r
abbrev pub LendsSideHolder : MutBor SideHandle → MutBor (Holder (SideContent ℕ)) → Fml
LendsSideHolder s r = Lends table_handle.the_row (holder.the_row Side) s r side_handle_of
