use Rattle.slotmap_core.proofs.Common.{ap, ◌∙◌, refl, CallsAt-called}
use Rattle.slotmap_sparse.proofs.retain.visit.Goals as goal

pub returns : goal.returns
returns g c = record {
  key = c.from-key.result;
  named = ap g.K.Key.data_of (g.met.K.Key.from_gives_key _ _ c.from-key.ensures) ∙ g.met.K.Key.from_data _ c.new.ensures.valid ∙ c.new.ensures.value;
  called = CallsAt-called _ c.f.ensures;
  version = refl;
}
