use Rattle.slotmap_core.proofs.Common.{sym, ap, ◌∙◌, map as list_map}
use Rattle.slotmap_hop.proofs.iter.ValuesIterator.next.Goals as goal

pub returns-clause-steps : goal.returns-clause-steps
returns-clause-steps g c =
    let step = c.in_ok-value.ensures.steps.1 in (
      ap (λ w. w.rest) (sym c.self.view_is) ∙ ap (list_map (λ pair. pair.1)) c.in_ok-value.ensures.steps.0,
      (
        (g.K.Key.data_of c.in_ok-value.field-0-0).index,
        rw (← c.self.view_is)
            (record { some = step.some; few = step.few; passed = step.passed; still = step.still; before = step.before; after = step.after }),
      ),
    )
