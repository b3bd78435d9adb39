use Rattle.slotmap_hop.proofs.Common.{is_some, refl, ap, sym, ◌∙◌, option_copied_mut, StaysHop-with_value}
use Rattle.slotmap_hop.proofs.HopSlotMap.replace.Goals as goal

pub returns-in-Some-clause-valid : goal.returns-in-Some-clause-valid
returns-in-Some-clause-valid g c =
    let valid = c.get_mut.ensures.valid in
    StaysHop-with_value c.args.self.now _ (g.K.Key.data_of c.args.key) c.replace.new.dest (record { before = valid; after = valid; capacity = refl })
    (ap is_some (sym c.get_mut.ensures.value ∙ ap option_copied_mut c.in-Some.is))
