use Rattle.slotmap_dense.proofs.Common.{option_copied_mut, is_some, refl, ap, sym, ◌∙◌, IsDense-with_value}
use Rattle.slotmap_dense.proofs.DenseSlotMap.replace.Goals as goal

pub returns-in-Some-clause-valid : goal.returns-in-Some-clause-valid
returns-in-Some-clause-valid g c = record {
  before = c.get_mut.ensures.valid;
  after = IsDense-with_value c.args.self.now (g.K.Key.data_of c.args.key) c.replace.new.dest c.get_mut.ensures.valid (ap is_some (sym c.get_mut.ensures.value ∙ ap option_copied_mut c.in-Some.is));
  capacity = refl;
}
