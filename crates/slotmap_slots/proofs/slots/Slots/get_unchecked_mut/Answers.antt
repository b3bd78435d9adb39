use Rattle.slotmap_slots.proofs.Common.{is_some, refl, ap, content-rewritten, settled_valid, settled_present, vacancies-written, with_payload-settled, settled_value}
use Rattle.slotmap_slots.proofs.slots.Slots.get_unchecked_mut.Goals as goal

pub payload_mut-requires : goal.payload_mut-requires
payload_mut-requires g c = rw c.idx.ensures.value (ap is_some (settled_present c.self.invariant c.self.view_is c.args.key c.requires).read)

pub invariant_of-self-lent : goal.invariant_of-self-lent
invariant_of-self-lent g c w =
    let found = settled_present c.self.invariant c.self.view_is c.args.key c.requires in
    rw (g.met.L.Layout.slots_with, g.met.L.Layout.fits_with, c.idx.ensures.value) (with_payload-settled _ _ _ _ _ c.self.invariant _ _ _ found.there w)

pub returns : goal.returns
returns g c =
    let m = c.self.inside in
    let found = settled_present c.self.invariant c.self.view_is c.args.key c.requires in (
      (
        refl,
        λ w. rw (
          ← c.self.view_is,
          g.met.L.Layout.slots_with,
          g.met.L.Layout.fits_with,
          c.idx.ensures.value,
          vacancies-written (g.L.Layout.slots m.layout) c.args.key.index w m.used_count,
        )
            (content-rewritten c.self.invariant.sound _ _ _ found.there w _),
      ),
      record {
        writes_back = tt;
        value = settled_value c.self.invariant c.self.view_is c.args.key c.requires _ c.idx.ensures.value _ c.payload_mut.ensures.value;
        valid = settled_valid c.self.invariant c.self.view_is;
      },
    )
