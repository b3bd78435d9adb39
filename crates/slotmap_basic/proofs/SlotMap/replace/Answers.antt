use Rattle.slotmap_core.proofs.Common.{option_copied_mut, true, is_some, refl, ap, sym, ◌∙◌, IsContent-with_value}
use Rattle.slotmap_basic.proofs.SlotMap.replace.Goals as goal

pub returns-in-Some-clause-valid : goal.returns-in-Some-clause-valid
returns-in-Some-clause-valid g c = record {
  before = c.get_mut.ensures.valid;
  after =
      IsContent-with_value true c.args.self.now c.get_mut.ensures.valid (g.K.Key.data_of c.args.key)
      (ap is_some (sym c.get_mut.ensures.value ∙ ap option_copied_mut c.in-Some.is)) c.replace.new.dest;
  capacity = refl;
}
