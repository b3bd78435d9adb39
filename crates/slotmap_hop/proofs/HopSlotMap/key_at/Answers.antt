use Rattle.std.proofs.Common.{◌≡◌}
use Rattle.slotmap_hop.proofs.Common.{IsKey, IsLive, key, refl, sym, ap, subst, ◌∙◌, inl, arith, version_in, held, well_formed, Present, slot_read}
use Rattle.slotmap_hop.proofs.HopSlotMap.key_at.Goals.{After-self, After-version, After-from}
use Rattle.slotmap_hop.proofs.HopSlotMap.key_at.Goals as goal

found : (g : _) (c : After-self g) → Present c.self.inside.slots.items c.args.self.now.content.live c.requires.0 c.args.index c.requires.0.version
found g c = held c.self.inside c.self.view_is c.self.invariant _ _ _ (sym c.requires.2) refl c.requires.1

pub index-requires : goal.index-requires
index-requires g c = omega (arith, (found g (goal.at.index-requires g c).After-self).within, c.self.inside.slots.ok.0)

-- the parts that are read are those of the live key
same : (g : _) (c : After-version g) → key c.args.index c.version.result ≡ c.requires.0
same g c = let found = found g (goal.at.After-version g c).After-self in ap (key c.args.index) (c.version.ensures ∙ ap version_in (slot_read found _ c.index.ensures)) ∙ sym found.key_is_at

pub exact-requires : goal.exact-requires
exact-requires g c = subst IsKey (sym (same g (goal.at.exact-requires g c).After-version)) ((well_formed c.self.inside c.self.view_is c.self.invariant).valid.keys _ (inl (inl c.requires.1)))

made : (g : _) (c : After-from g) → g.K.Key.data_of c.from.result ≡ c.requires.0
made g c =
    let exact = c.exact.ensures ∙ same g (goal.at.After-from g c).After-version in
    let is_key = (well_formed c.self.inside c.self.view_is c.self.invariant).valid.keys _ (inl (inl c.requires.1)) in
    ap g.K.Key.data_of (g.met.K.Key.from_gives_key _ _ c.from.ensures) ∙ g.met.K.Key.from_data _ (subst IsKey (sym exact) is_key) ∙ exact

pub returns : goal.returns
returns g c = record { live = subst (IsLive c.args.self.now.content) (sym (made g c)) c.requires.1; index = ap (λ k. k.index) (made g c) ∙ c.requires.2 }
